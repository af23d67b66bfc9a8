-- The sections of items, and that the state counts them. Assumes nothing.
use mathlib.Core.Path.{◌≡◌, refl, sym, ap, ◌∙◌}
use Rattle.std.specs.Prelude.{Option, None, Some}
use mathlib.Core.List.{List, [], ◌∷◌, ◌++◌, append_assoc, append-nil}
use Prim.Native.Nat.{ℕ, suc, ◌+◌}
use native.Mathlib.Omega.{arith}
use lib.ListN.{length, length-append}
use Rattle.cbf_walk.specs.Parsers.{ok}
use Rattle.cbf_walk.specs.Reading.{Item, flat}
use Rattle.cbf_format.specs.Listing.{Placed, add_placed, sections}
use Rattle.cbf_format.proofs.FileLaws.{passed, took}
use Rattle.cbf_format.specs.Sections as S
use Rattle.cbf_format.specs.Files as F

-- the number of sections does not depend on the place
length-sections : (its : F.Tree) (at at' : ℕ) → length (sections at its) ≡ length (sections at' its)
unfolding sections
length-sections [] at at' = refl
length-sections (it ∷ its) at at' = go it.info (sections (at + length it.bytes) its)
    (sections (at' + length it.bytes) its) (length-sections its (at + length it.bytes)
    (at' + length it.bytes))
  where
    go : (o : Option S.Section) (l l' : List Placed) → length l ≡ length l' → length (add_placed at o l) ≡ length (add_placed at' o l')
    go None l l' e = e
    go (Some i) l l' e = ap suc e

-- the sections of items, and those of the items after them
pub sections-append : (a b : F.Tree) (at : ℕ) → sections at (a ++ b) ≡ sections at a ++ sections (at + length (flat a)) b
unfolding sections flat
sections-append [] b at = let e : at ≡ at + 0 = omega arith in ap (λ (z : ℕ). sections z b) e
sections-append (it ∷ a) b at =
    let e : (at + length it.bytes) + length (flat a) ≡ at + length (it.bytes ++ flat a) = omega (arith, length-append it.bytes (flat a)) in
    ap (add_placed at it.info) (sections-append a b (at + length it.bytes) ∙ ap (λ (z : ℕ). sections (at + length it.bytes) a ++ sections z b) e)
    ∙ go it.info (sections (at + length it.bytes) a) (sections (at + length (it.bytes ++ flat a)) b)
  where
    go : (o : Option S.Section) (l m : List Placed) → add_placed at o (l ++ m) ≡ add_placed at o l ++ m
    go None l m = refl
    go (Some i) l m = refl

pub length-sections-append : (a b : F.Tree) (at at' : ℕ) → length (sections at (a ++ b)) ≡ length (sections at a) + length (sections at' b)
length-sections-append a b at at' =
    ap length (sections-append a b at) ∙ omega (
      arith,
      length-append (sections at a) (sections (at + length (flat a))
          b),
      length-sections b (at + length (flat a)) at',
    )

-- items without a section
no-placed : (l : List Placed) → length l ≡ 0 → l ≡ []
no-placed [] h = refl
no-placed (p ∷ l) h = absurd (omega arith)

pub sections-lines : (done its : F.Tree) → sections 0 its ≡ [] → sections 0 (done ++ its) ≡ sections 0 done
sections-lines done its e =
    let at = 0 + length (flat done) in
    let n : length (sections at its) ≡ 0 = length-sections its at 0 ∙ ap length e in
    sections-append done its 0 ∙ ap (λ (z : List Placed). sections 0 done ++ z) (no-placed (sections at its) n) ∙ append-nil (sections 0 done)

-- and a section after them
pub sections-found : (done its : F.Tree) (it : Item F.State S.Section) (i : S.Section) → sections 0 its ≡ [] → it.info ≡ Some i
    → sections 0 (done ++ (its ++ (it ∷ []))) ≡ sections 0 done ++ (record { boundary = length (flat (done ++ its)); section = i } ∷ [])
unfolding sections
sections-found done its it i e h =
    let from-0 : 0 + length (flat (done ++ its)) ≡ length (flat (done ++ its)) = omega arith in
    ap (sections 0) (sym (append_assoc done its (it ∷ []))) ∙ sections-append (done ++ its) (it ∷ []) 0 ∙ rw (from-0, h, sections-lines done its e)

-- the state counts the sections
pub counted-on : (limit : ℕ) (st : F.State) (s : List ℕ) (done : F.Tree) (it : Item F.State S.Section) (n : ℕ)
    → F.step limit st s ≡ ok (it.info, it.next) n → length (sections 0 done) ≡ st.count → length (sections 0 (done ++ (it ∷ []))) ≡ it.next.count
unfolding sections
counted-on limit st s done it n e h = length-sections-append done (it ∷ []) 0 0 ∙ go it.info e
  where
    go : (o : Option S.Section) → F.step limit st s ≡ ok (o, it.next) n → length (sections 0 done) + length (add_placed 0 o []) ≡ it.next.count
    go None e = let q : it.next.count ≡ st.count = ap (λ (t : F.State). t.count) (passed limit st it.next s n e).after in omega (arith, h, q)
    go (Some i) e = let q : it.next.count ≡ suc st.count = ap (λ (t : F.State). t.count) (took limit st it.next s i n e).after in omega (arith, h, q)
