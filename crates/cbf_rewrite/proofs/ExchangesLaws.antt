-- Sections that are exchanged in a file: those without new octets add nothing, and the spans of a file's sections stand
-- in its order and apart. Assumes nothing.
use mathlib.Core.Path.{◌≡◌, refl, ap, ◌∙◌}
use Rattle.std.specs.Prelude.{Option, None, Some}
use mathlib.Core.List.{List, [], ◌∷◌, ◌++◌}
use Prim.Native.Nat.{ℕ, zero, suc, ◌+◌, ◌≤◌, ◌<◌}
use native.Mathlib.Omega.{arith}
use lib.ListN.{length, drop}
use Rattle.cbf_walk.specs.Reading.{good}
use Rattle.cbf_walk.proofs.Sections.{SpanIn, Spans}
use Rattle.cbf_format.specs.Sections.{Section}
use Rattle.cbf_format.specs.Files.{Tree, read}
use Rattle.cbf_format.specs.Listing.{Placed, add_placed, sections, numbered}
use Rattle.cbf_format.specs.House.{NewOctets, add_exchange, exchanges}
use Rattle.cbf_format.proofs.FileLaws.{accepted, accepted-spans}

-- ---- new octets

-- a section without new octets
pub exchanges-past : (f : NewOctets) (n : ℕ) (p : Placed) (ps : List Placed) → f n ≡ None
    → exchanges f n (p ∷ ps) ≡ exchanges f (suc n) ps
unfolding exchanges
exchanges-past f n p ps h = ap (λ (o : Option (List ℕ)). add_exchange p o (exchanges f (suc n) ps)) h

-- the first sections have no new octets
pub exchanges-skip : (f : NewOctets) (n k : ℕ) (ps : List Placed) → ((m : ℕ) → m < n + k → f m ≡ None)
    → exchanges f n ps ≡ exchanges f (n + k) (drop k ps)
unfolding exchanges
exchanges-skip f n zero ps h = let e : n ≡ n + 0 = omega arith in ap (λ (m : ℕ). exchanges f m ps) e
exchanges-skip f n (suc k) [] h = refl
exchanges-skip f n (suc k) (p ∷ ps) h =
    let e : suc n + k ≡ n + suc k = omega arith in
    exchanges-past f n p ps (h n (omega arith))
    ∙ exchanges-skip f (suc n) k ps (λ m l. h m (omega arith))
    ∙ ap (λ (m : ℕ). exchanges f m (drop k ps)) e

-- ---- spans

-- the spans of sections stand behind a place, in this order and apart
unfoldable pub Ordered : ℕ → List Placed → Type 0
Ordered at [] = Unit {0}
Ordered at (p ∷ ps) = (at ≤ p.boundary) × Ordered (p.boundary + p.section.width) ps

pub ordered-before : (at to : ℕ) (ps : List Placed) → at ≤ to → Ordered to ps → Ordered at ps
unfolding Ordered
ordered-before at to [] h o = tt
ordered-before at to (p ∷ ps) h o = (omega (arith, o.0), o.1)

pub ordered-past : (at : ℕ) (p : Placed) (ps : List Placed) → Ordered at (p ∷ ps) → Ordered at ps
unfolding Ordered
ordered-past at p ps o = ordered-before at (p.boundary + p.section.width) ps (omega (arith, o.0)) o.1

pub ordered-drop : (at k : ℕ) (ps : List Placed) → Ordered at ps → Ordered at (drop k ps)
ordered-drop at zero ps o = o
ordered-drop at (suc k) [] o = o
ordered-drop at (suc k) (p ∷ ps) o = ordered-drop at k ps (ordered-past at p ps o)

ordered-items : (its : Tree) (at : ℕ) → Spans (λ (i : Section). i.width) its → Ordered at (sections at its)
unfolding Ordered Spans sections
ordered-items [] at s = tt
ordered-items (it ∷ its) at s =
    go it.info (sections (at + length it.bytes) its) s.0 (ordered-items its (at + length it.bytes) s.1)
  where
    go : (o : Option Section) (l : List Placed) → SpanIn (λ (i : Section). i.width) o (length it.bytes)
        → Ordered (at + length it.bytes) l → Ordered at (add_placed at o l)
    go None l s h = ordered-before at (at + length it.bytes) l (omega arith) h
    go (Some i) l s h = (omega arith, ordered-before (at + i.width) (at + length it.bytes) l (omega arith) h)

-- of an accepted file
pub ordered-sections : (limit : ℕ) (file : List ℕ) (its : Tree) → read limit file ≡ good its
    → Ordered 0 (sections 0 its)
ordered-sections limit file its e = ordered-items its 0 (accepted-spans limit file its (accepted limit file its e))

-- ---- the section after some others

section-after : (a : List Placed) (p : Placed) (rest : List Placed)
    → let l = (a ++ (p ∷ [])) ++ rest in
    (drop (length a) l ≡ p ∷ drop (suc (length a)) l) × (numbered (suc (length a)) l ≡ Some p)
unfolding numbered
section-after [] p rest = (refl, refl)
section-after (q ∷ a) p rest = section-after a p rest

pub section-next : {l : List Placed} (a : List Placed) (p : Placed) (rest : List Placed) {n : ℕ}
    → l ≡ (a ++ (p ∷ [])) ++ rest → n ≡ length a
    → (drop n l ≡ p ∷ drop (suc n) l) × (numbered (suc n) l ≡ Some p)
section-next a p rest e h = rw (e, h) (section-after a p rest)
