-- How many octets packed pixels take, part by part, and whether one of them is outside its type. Assumes nothing.
use Rattle.std.proofs.Common.{◌≡◌, ℕ, zero, suc, ◌+◌, ◌-◌, ◌*◌, ◌^◌, ◌<◌, ◌≤◌, Bool, true, false, cond, List, [], ◌∷◌, ◌++◌, length, get_or, take, ℤ, pos, negsuc, ◌-ℤ◌, sym, refl, ap, ◌∙◌, subst, ap₂, append_assoc, append-nil, arith, length-append, drop-cons, to_z-of_z, w64, to_z, of_z, ltb-false, ltb-true, le-leb}
use lib.Seq.{take-length}
use lib.Signed.{mag, le_z, lt_z}
use borrow.Author.Tests.{lt-leb}
use Rattle.cbf_pixels.specs.declared.ElementType.{ElementType}
use Rattle.cbf_pixels.specs.declared.ElementType.TheVariants.{U8, S8, U16, S16, U32, S32}
use Rattle.std.specs.Prelude.{None, Some}
use Rattle.cbf_pixels.specs.Pixels.{within, all_within, pack_difference, pack_from, pack_byte_offset}
use Rattle.cbf_measure.specs.Window.{SameWindow, WindowRun}
use Rattle.cbf_measure.specs.Measure.{part, size_within, size_of, Typed}
use Rattle.cbf_measure.proofs.PartsLaws.{last_of, part-add, part-one, last-append, last-at, pack-append}
use Rattle.cbf_pixels.proofs.Integers.{never, cond-left, cond-right, between, least-small, greatest-small}
use Rattle.cbf_pixels.proofs.Forms.{form1, form-size}
use Rattle.cbf_measure.proofs.WindowLaws.{window-near, window-sym, window-trans, window-within}
use Rattle.cbf_pixels.specs.Pixels as P

-- ---- lists of pixels

within-append : (lo hi : ℤ) (xs ys : List ℤ) → all_within lo hi (xs ++ ys) ≡ cond (all_within lo hi xs) (all_within lo hi ys) false
unfolding all_within
within-append lo hi [] ys = refl
within-append lo hi (x ∷ xs) ys = go (within lo hi x) (within-append lo hi xs ys)
  where
    go : (t : Bool) → all_within lo hi (xs ++ ys) ≡ cond (all_within lo hi xs) (all_within lo hi ys) false
        → cond t (all_within lo hi (xs ++ ys)) false ≡ cond (cond t (all_within lo hi xs) false) (all_within lo hi ys) false
    go true e = e
    go false e = refl

-- a size says that no pixel is outside, and none that one is
size-some : (lo hi z : ℤ) (xs : List ℤ) (n : ℕ) → Some n ≡ size_within lo hi z xs → (all_within lo hi xs ≡ true) × (n ≡ length (pack_from z xs))
unfolding size_within
size-some lo hi z xs n e = go (all_within lo hi xs) e
  where
    go : (t : Bool) → Some n ≡ cond t (Some (length (pack_from z xs))) None → (t ≡ true) × (n ≡ length (pack_from z xs))
    go true q = let w : n ≡ length (pack_from z xs) = cc in (refl, w)
    go false q = let w : ⊥ = cc in absurd w

size-none : (lo hi z : ℤ) (xs : List ℤ) → None ≡ size_within lo hi z xs → all_within lo hi xs ≡ false
unfolding size_within
size-none lo hi z xs e = go (all_within lo hi xs) e
  where
    go : (t : Bool) → None ≡ cond t (Some (length (pack_from z xs))) None → t ≡ false
    go true q = let w : ⊥ = cc in absurd w
    go false q = refl

pub size_is : (lo hi z : ℤ) (xs : List ℤ) → all_within lo hi xs ≡ true → size_within lo hi z xs ≡ Some (length (pack_from z xs))
unfolding size_within
size_is lo hi z xs e = rw e

pub size-outside : (lo hi z : ℤ) (xs : List ℤ) → all_within lo hi xs ≡ false → size_within lo hi z xs ≡ None
unfolding size_within
size-outside lo hi z xs e = rw e

-- ---- one pixel, tested against the bounds

at_least : (a b : ℤ) → lt_z a b ≡ false → le_z b a ≡ true
at_least (pos a) (pos b) e = le-leb b a (ltb-false a b e)
at_least (pos a) (negsuc b) e = refl
at_least (negsuc a) (pos b) e = sym e
at_least (negsuc a) (negsuc b) e = le-leb a b (ltb-false b a e)

less : (a b : ℤ) → lt_z a b ≡ true → le_z b a ≡ false
less (pos a) (pos b) e = lt-leb b a (ltb-true a b e)
less (pos a) (negsuc b) e = never e
less (negsuc a) (pos b) e = refl
less (negsuc a) (negsuc b) e = lt-leb a b (ltb-true b a e)

pub below-least : (lo hi z : ℤ) → lt_z z lo ≡ true → within lo hi z ≡ false
unfolding within
below-least lo hi z e = rw (less z lo e)

pub above-greatest : (lo hi z : ℤ) → lt_z hi z ≡ true → within lo hi z ≡ false
unfolding within
above-greatest lo hi z e = rw (less hi z e) (go (le_z lo z))
  where
    go : (t : Bool) → cond t false false ≡ false
    go true = refl
    go false = refl

pub in_bounds : (lo hi z : ℤ) → lt_z z lo ≡ false → lt_z hi z ≡ false → within lo hi z ≡ true
unfolding within
in_bounds lo hi z e f = rw (at_least z lo e, at_least hi z f)

pub one_outside : (lo hi last z : ℤ) → within lo hi z ≡ false → size_within lo hi last (z ∷ []) ≡ None
unfolding all_within
one_outside lo hi last z e = size-outside lo hi last (z ∷ []) (rw e)

pub one_inside : (lo hi last z : ℤ) → within lo hi z ≡ true → size_within lo hi last (z ∷ []) ≡ Some (length (pack_difference (z -ℤ last)))
unfolding all_within pack_from
one_inside lo hi last z e = size_is lo hi last (z ∷ []) (rw e) ∙ ap (λ (l : List ℕ). Some (length l)) (append-nil (pack_difference (z -ℤ last)))

-- ---- pixels of a type, measured

pub typed-range : {lo hi z : ℤ} → Typed lo hi z → mag z < 2 ^ 33
unfolding within
typed-range {lo} {hi} {z} T =
    between (2 ^ 33) lo hi z
    (subst (λ (x : ℤ). mag x < 2 ^ 33) (sym T.least) (least-small T.type))
    (subst (λ (x : ℤ). mag x < 2 ^ 33) (sym T.greatest) (greatest-small T.type))
    (cond-left (le_z lo z) (le_z z hi) T.inside)
    (cond-right (le_z lo z) (le_z z hi) T.inside)

-- the bounds, as the machine holds them
pub held-least : {lo hi z : ℤ} → Typed lo hi z → to_z w64 (of_z w64 lo) ≡ lo
held-least T =
    let s = subst (λ (x : ℤ). mag x < 2 ^ 33) (sym T.least) (least-small T.type) in
    to_z-of_z {w = w64} (record { sfits = omega arith })

pub held-greatest : {lo hi z : ℤ} → Typed lo hi z → to_z w64 (of_z w64 hi) ≡ hi
held-greatest T =
    let s = subst (λ (x : ℤ). mag x < 2 ^ 33) (sym T.greatest) (greatest-small T.type) in
    to_z-of_z {w = w64} (record { sfits = omega arith })

pub typed-other : {lo hi z : ℤ} (y : ℤ) → Typed lo hi z → within lo hi y ≡ true → Typed lo hi y
typed-other y T w = record { type = T.type; least = T.least; greatest = T.greatest; inside = w }

typed-last : (lo hi z : ℤ) (xs : List ℤ) → Typed lo hi z → all_within lo hi xs ≡ true → Typed lo hi (last_of z xs)
unfolding last_of all_within
typed-last lo hi z [] T a = T
typed-last lo hi z (x ∷ xs) T a =
    typed-last lo hi x xs
    (typed-other x T (cond-left (within lo hi x) (all_within lo hi xs) a))
    (cond-right (within lo hi x) (all_within lo hi xs) a)

-- the n pixels from k on, after last, are inside and take size octets, and z is the last of them
pub record Measured (ps : List ℤ) (lo hi : ℤ) (k n : ℕ) (last z : ℤ) (size : ℕ) : Type 0 where
  pub inside : all_within lo hi (part ps k n) ≡ true
  pub takes : size ≡ length (pack_from last (part ps k n))
  pub ends : z ≡ last_of last (part ps k n)
  pub typed : Typed lo hi z

pub measured-none : (ps : List ℤ) (lo hi : ℤ) (k : ℕ) (last : ℤ) → Typed lo hi last → Measured ps lo hi k 0 last last 0
unfolding all_within pack_from last_of
measured-none ps lo hi k last T = record { inside = refl; takes = refl; ends = refl; typed = T }

pub measured-size : {ps : List ℤ} {lo hi : ℤ} {k n : ℕ} {last z : ℤ} {size : ℕ} → Measured ps lo hi k n last z size → Some size ≡ size_within lo hi last (part ps k n)
measured-size {ps} {lo} {hi} {k} {n} {last} M = ap Some M.takes ∙ sym (size_is lo hi last (part ps k n) M.inside)

-- m more pixels, at least one, which take a octets
pub measured-more : {ps : List ℤ} {lo hi : ℤ} {k n : ℕ} {last z : ℤ} {size : ℕ} → Measured ps lo hi k n last z size → (m a : ℕ)
    → Some a ≡ size_within lo hi z (part ps (k + n) m) → 0 < m → (y : ℤ) (i : ℕ) → k + n + m ≡ i + 1 → i < length ps → y ≡ get_or ps i (pos 0)
    → Measured ps lo hi k (n + m) last y (size + a)
measured-more {ps} {lo} {hi} {k} {n} {last} {z} {size} M m a e more y i u h w =
    let xs = part ps k n in
    let ys = part ps (k + n) m in
    let b = size-some lo hi z ys a e in
    let p = part-add ps k n m in
    let end : (x : ℤ) → y ≡ last_of x ys = λ x. w ∙ sym (last-at x ps (k + n) m i (omega arith) (omega arith) (omega arith)) in
    record {
      inside = ap (all_within lo hi) p ∙ within-append lo hi xs ys ∙ ap (λ (t : Bool). cond t (all_within lo hi ys) false) M.inside ∙ b.0;
      takes = ap₂ ◌+◌ M.takes (b.1 ∙ ap (λ (x : ℤ). length (pack_from x ys)) M.ends)
          ∙ sym (length-append (pack_from last xs) (pack_from (last_of last xs) ys))
          ∙ ap length (sym (pack-append last xs ys)) ∙ ap (λ (l : List ℤ). length (pack_from last l)) (sym p);
      ends = end (last_of last xs) ∙ sym (last-append last xs ys) ∙ ap (last_of last) (sym p);
      typed = subst (Typed lo hi) (sym (end z)) (typed-last lo hi z ys M.typed b.0);
    }

-- one of m more pixels is outside, and so one of all
pub outside-more : {ps : List ℤ} {lo hi : ℤ} {k n : ℕ} {last z : ℤ} {size : ℕ} → Measured ps lo hi k n last z size → (m : ℕ)
    → None ≡ size_within lo hi z (part ps (k + n) m) → (N : ℕ) → n + m ≤ N → k + N ≤ length ps → all_within lo hi (part ps k N) ≡ false
outside-more {ps} {lo} {hi} {k} {n} {last} {z} M m e N g h =
    let r = N - (n + m) in
    let v : n + m + r ≡ N = omega arith in
    let xs = part ps k n in
    let ys = part ps (k + n) m in
    let zs = part ps (k + (n + m)) r in
    let b = size-none lo hi z ys e in
    let p : part ps k N ≡ xs ++ (ys ++ zs)
    = ap (part ps k) (sym v) ∙ part-add ps k (n + m) r ∙ ap (λ (l : List ℤ). l ++ zs) (part-add ps k n m) ∙ append_assoc xs ys zs in
    ap (all_within lo hi) p ∙ within-append lo hi xs (ys ++ zs)
    ∙ ap₂ (λ (s t : Bool). cond s t false) M.inside (within-append lo hi ys zs ∙ ap (λ (t : Bool). cond t (all_within lo hi zs) false) b)

-- one more of a list of pixels, the next one
single : (ps : List ℤ) (n : ℕ) (y lo hi z : ℤ) → n < length ps → y ≡ get_or ps n (pos 0) → size_within lo hi z (y ∷ []) ≡ size_within lo hi z (part ps (0 + n) 1)
single ps n y lo hi z h w =
    let u : n ≡ 0 + n = omega arith in
    ap (λ (x : ℤ). size_within lo hi z (x ∷ [])) w ∙ ap (size_within lo hi z) (sym (part-one ps n h)) ∙ ap (λ (j : ℕ). size_within lo hi z (part ps j 1)) u

pub one_more : {ps : List ℤ} {lo hi : ℤ} {n : ℕ} {last z : ℤ} {size : ℕ} → Measured ps lo hi 0 n last z size → (a : ℕ) (y : ℤ) → n < length ps
    → y ≡ get_or ps n (pos 0) → Some a ≡ size_within lo hi z (y ∷ []) → Measured ps lo hi 0 (n + 1) last y (size + a)
one_more {ps} {lo} {hi} {n} {last} {z} M a y h w e =
    measured-more M 1 a (e ∙ single ps n y lo hi z h w) (omega arith) y n (omega arith) h w

pub one_out : {ps : List ℤ} {lo hi : ℤ} {n : ℕ} {last z : ℤ} {size : ℕ} → Measured ps lo hi 0 n last z size → (y : ℤ) → n < length ps
    → y ≡ get_or ps n (pos 0) → None ≡ size_within lo hi z (y ∷ []) → None ≡ size_within lo hi last ps
one_out {ps} {lo} {hi} {n} {last} {z} M y h w e =
    let o = outside-more M 1 (e ∙ single ps n y lo hi z h w) (length ps) (omega arith) (omega arith) in
    sym (ap (size_within lo hi last) (sym (take-length ps)) ∙ size-outside lo hi last (part ps 0 (length ps)) o)

pub measured_all : {ps : List ℤ} {lo hi : ℤ} {n : ℕ} {last z : ℤ} {size : ℕ} → Measured ps lo hi 0 n last z size → n ≡ length ps
    → Some size ≡ size_within lo hi last ps
measured_all {ps} {lo} {hi} {n} {last} M e = measured-size M ∙ ap (size_within lo hi last) (ap (λ (j : ℕ). part ps 0 j) e ∙ take-length ps)

-- ---- pixels of one window: each takes one octet

typed-window : {lo hi z : ℤ} (y : ℤ) → Typed lo hi z → SameWindow y z → Typed lo hi y
typed-window {lo} {hi} {z} y T e =
    let b : (x : ℤ) → within lo hi x ≡ within (P.least T.type) (P.greatest T.type) x = λ x. ap₂ (λ (l u : ℤ). within l u x) T.least T.greatest in
    typed-other y T (b y ∙ window-within T.type y z e (sym (b z) ∙ T.inside))

run-size : (lo hi : ℤ) (ps : List ℤ) (n k : ℕ) (last z : ℤ) → Typed lo hi z → SameWindow z last
    → ((j : ℕ) → j < n → SameWindow (get_or ps (k + j) (pos 0)) last) → k + n ≤ length ps
    → (all_within lo hi (part ps k n) ≡ true) × (length (pack_from z (part ps k n)) ≡ n)
unfolding all_within pack_from
run-size lo hi ps zero k last z T w s h = (refl, refl)
run-size lo hi ps (suc n) k last z T w s h =
    let y = get_or ps k (pos 0) in
    let at : (i j : ℕ) → i ≡ j → SameWindow (get_or ps i (pos 0)) last → SameWindow (get_or ps j (pos 0)) last =
    λ i j q. subst (λ (i : ℕ). SameWindow (get_or ps i (pos 0)) last) q in
    let v : SameWindow y last = at (k + 0) k (omega arith) (s 0 (omega arith)) in
    let e = window-trans y last z v (window-sym z last w) in
    let T' = typed-window y T e in
    let d = sym (form-size (form1 (y -ℤ z) (window-near y z e))) in
    let p : part ps k (suc n) ≡ y ∷ part ps (suc k) n = ap (take (suc n)) (drop-cons ps k (pos 0) (omega arith)) in
    let i = run-size lo hi ps n (suc k) last y T' v (λ j l. at (k + suc j) (suc k + j) (omega arith) (s (suc j) (omega arith))) (omega arith) in (
      ap (all_within lo hi) p ∙ ap (λ (t : Bool). cond t (all_within lo hi (part ps (suc k) n)) false) T'.inside ∙ i.0,
      ap (λ (l : List ℤ). length (pack_from z l)) p ∙ length-append (pack_difference (y -ℤ z)) (pack_from y (part ps (suc k) n)) ∙ ap₂ ◌+◌ d i.1 ∙ omega arith,
    )

pub window-size : {lo hi : ℤ} {ps : List ℤ} {k : ℕ} {last : ℤ} {n : ℕ} → Typed lo hi last → WindowRun ps k last n → Some n ≡ size_within lo hi last (part ps k n)
unfolding SameWindow
window-size {lo} {hi} {ps} {k} {last} {n} T R =
    let i = run-size lo hi ps n k last last T refl R.same R.inside in
    sym (size_is lo hi last (part ps k n) i.0 ∙ ap Some i.1)

-- ---- all pixels, in parts

-- the next part: n pixels from k on, after z, whose octets are added to total
pub record Added (ps : List ℤ) (lo hi : ℤ) (k n : ℕ) (z : ℤ) (total total' : ℕ) : Type 0 where
  pub size : ℕ
  pub takes : Some size ≡ size_within lo hi z (part ps k n)
  pub sum : total' ≡ total + size
  pub some : 0 < n
  pub reach : k + n ≤ length ps
  pub few : size ≤ 15 * n

module _ {ps : List ℤ} {lo hi : ℤ} {k : ℕ} {z : ℤ} {total : ℕ} (M : Measured ps lo hi 0 k (pos 0) z total) where
  first : (n : ℕ) → size_within lo hi z (part ps k n) ≡ size_within lo hi z (part ps (0 + k) n)
  first n = let q : k ≡ 0 + k = omega arith in ap (λ (j : ℕ). size_within lo hi z (part ps j n)) q

  pub added_more : {n total' : ℕ} → Added ps lo hi k n z total total' → (i : ℕ) → k + n ≡ i + 1 → (y : ℤ) → y
      ≡ get_or ps i (pos 0) → Measured ps lo hi 0 (k + n) (pos 0) y total'
  added_more {n} A i u y w =
      let h = A.reach in
      subst (Measured ps lo hi 0 (k + n) (pos 0) y) (sym A.sum)
      (measured-more M n A.size (A.takes ∙ first n) A.some y i (omega arith) (omega arith) w)

  pub added_out : (n : ℕ) → None ≡ size_within lo hi z (part ps k n) → k + n ≤ length ps → all_within lo hi (part ps 0 (length ps)) ≡ false
  added_out n e h = outside-more M n (e ∙ first n) (length ps) h (omega arith)

typed-zero : (t : ElementType) → Typed (P.least t) (P.greatest t) (pos 0)
unfolding within
typed-zero t = record { type = t; least = refl; greatest = refl; inside = go t }
  where
    go : (t : ElementType) → within (P.least t) (P.greatest t) (pos 0) ≡ true
    go U8 = refl
    go S8 = refl
    go U16 = refl
    go S16 = refl
    go U32 = refl
    go S32 = refl

-- the bounds that were computed for the type t
module _ (t : ElementType) {lo hi : ℤ} (l : lo ≡ P.least t) (g : hi ≡ P.greatest t) where
  pub bounds-typed : Typed lo hi (pos 0)
  bounds-typed = rw (l, g) (typed-zero t)

  module _ (ps : List ℤ) where
    pub all_none : Measured ps lo hi 0 0 (pos 0) (pos 0) 0
    all_none = measured-none ps lo hi 0 (pos 0) bounds-typed

    within_all : (n : ℕ) (b : Bool) → n ≡ length ps → all_within lo hi (part ps 0 n) ≡ b → all_within (P.least t) (P.greatest t) ps ≡ b
    within_all n b e h =
        ap₂ (λ (x y : ℤ). all_within x y ps) (sym l) (sym g) ∙ ap (all_within lo hi) (sym (take-length ps) ∙ ap (λ (j : ℕ). take j ps) (sym e)) ∙ h

    pub all-inside : {n : ℕ} {z : ℤ} {size : ℕ} → Measured ps lo hi 0 n (pos 0) z size → n ≡ length ps → Some size ≡ size_of t ps
    unfolding size_of pack_byte_offset
    all-inside {n} M e =
        rw (within_all n true e M.inside)
        (ap Some (M.takes ∙ ap (λ (l : List ℤ). length (pack_from (pos 0) l)) (ap (λ (j : ℕ). take j ps) e ∙ take-length ps)))

    pub all-outside : all_within lo hi (part ps 0 (length ps)) ≡ false → None ≡ size_of t ps
    unfolding size_of
    all-outside e = rw (within_all (length ps) false refl e)
