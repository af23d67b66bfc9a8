-- Runs of stores: one that follows another or is put over it, a store that comes before or after one, and a text that
-- is written or only measured. Assumes nothing.
use mathlib.Core.Path.{◌≡◌, refl, ap, ◌∙◌, sym}
use mathlib.Core.Bool.{Bool, true, false}
use mathlib.Core.List.{List, [], ◌∷◌, ◌++◌, append_assoc}
use Prim.Native.Nat.{ℕ, suc, ◌+◌, ◌≤◌, ◌<◌}
use native.Mathlib.Nat.{add-zero, add-suc, suc-add}
use native.Mathlib.Omega.{arith}
use lib.ListN.{length, length-append, set}
use borrow.Rule.Slice.PartMut.{put_mid}
use Rattle.std.proofs.lemmas.List.{drop-drop}
use lib.Seq.{sets, sets-eq, length-sets, set-set, set_comm}
use Rattle.cbf_answers.proofs.Stores.{sets-append}

-- a part that is copied over
pub put-mid : (old s new : List ℕ) (at n : ℕ) → at + length s ≤ length old → n ≡ length s → new ≡ s → put_mid at n old new ≡ sets old at s
put-mid old s new at n h e q =
    rw (e, q) (simp (drop-drop, ← append_assoc) (sym (sets-eq s old at h)))

-- the place after one element more
after_one : (at x : ℕ) (a : List ℕ) → at + length (x ∷ a) ≡ suc at + length a
after_one at x a = add-suc at (length a) ∙ sym (suc-add at (length a))

-- the text was written to old from at on: r is the place after it
abbrev pub Put : List ℕ → ℕ → List ℕ → ℕ → List ℕ → Type 0
Put old at text r new = (r ≡ at + length text) × (new ≡ sets old at text)

pub put_both : (old : List ℕ) (at : ℕ) (a b : List ℕ) {r s : ℕ} {mid new : List ℕ} → Put old at a r mid → Put mid r b s new → Put old at (a ++ b) s new
put_both old at a b p q = (omega (arith, length-append a b, p.0, q.0), q.1 ∙ rw (p.1, p.0) (sets-append old at a b))

-- the element after a run may be stored before it
pub last-first : (old a : List ℕ) (at x : ℕ) → sets (set old (at + length a) x) at a ≡ sets old at (a ++ (x ∷ []))
last-first old [] at x = ap (λ (k : ℕ). set old k x) (add-zero at)
last-first old (y ∷ a) at x =
    ap (λ (l : List ℕ). sets l (suc at) a) (set_comm old (at + length (y ∷ a)) at x y (λ e. omega arith))
    ∙ ap (λ (k : ℕ). sets (set (set old at y) k x) (suc at) a) (after_one at y a)
    ∙ last-first (set old at y) a (suc at) x

-- ---- a run over another

-- an element before a run may be stored before it
set_before : (old a : List ℕ) (i j x : ℕ) → i < j → set (sets old j a) i x ≡ sets (set old i x) j a
set_before old [] i j x h = refl
set_before old (y ∷ a) i j x h =
    set_before (set old j y) a i (suc j) x (omega arith) ∙ ap (λ (l : List ℕ). sets l (suc j) a) (set_comm old j i y x (λ e. omega arith))

-- what is stored over the first elements of a run takes their place
pub sets_over : (old a b c : List ℕ) (at : ℕ) → length a ≡ length b → sets (sets old at (a ++ c)) at b ≡ sets old at (b ++ c)
sets_over old [] [] c at e = refl
sets_over old [] (y ∷ b) c at e = absurd (omega arith)
sets_over old (x ∷ a) [] c at e = absurd (omega arith)
sets_over old (x ∷ a) (y ∷ b) c at e =
    ap (λ (l : List ℕ). sets l (suc at) b) (set_before (set old at x) (a ++ c) at (suc at) y (omega arith)
    ∙ ap (λ (l : List ℕ). sets l (suc at) (a ++ c)) (set-set old at x y))
    ∙ sets_over (set old at y) a b c (suc at) (omega arith)

-- ---- a text that is written, or only measured

-- what is in the output old after a pass over a text, which goes to it from at on where it is written
abbrev pub put_if : Bool → List ℕ → ℕ → List ℕ → List ℕ
put_if true old at text = sets old at text
put_if false old at text = old

pub put-if-length : (writing : Bool) (old : List ℕ) (at : ℕ) (text : List ℕ) → length (put_if writing old at text) ≡ length old
put-if-length true old at text = length-sets old at text
put-if-length false old at text = refl

pub put-if-none : (writing : Bool) (old : List ℕ) (at : ℕ) → old ≡ put_if writing old at []
put-if-none true old at = refl
put-if-none false old at = refl

-- where it is only measured, any text leaves the same
pub put-if-off : (writing : Bool) (old : List ℕ) (at : ℕ) (a b : List ℕ) → writing ≡ false → put_if writing old at a ≡ put_if writing old at b
put-if-off writing old at a b off = rw off

-- b more, behind a
pub put-if-more : (writing : Bool) (old : List ℕ) (at : ℕ) (a b : List ℕ) {n : ℕ} {out new : List ℕ} → writing ≡ true → out ≡ put_if writing old at a
    → n ≡ at + length a
    → new ≡ sets out n b
    → new ≡ put_if writing old at (a ++ b)
put-if-more true old at a b on h e q = q ∙ rw (h, e) (sets-append old at a b)
put-if-more false old at a b on h e q = let z : ◌≡◌ {A = ℕ} 0 1 = cc in absurd (omega arith)
