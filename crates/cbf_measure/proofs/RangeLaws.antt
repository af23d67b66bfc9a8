-- Ranges from 0, or from -1 - limit, to limit: what the or of pixels says of them, that a type's range is one, and
-- the octets of pixels as words. Assumes nothing.
use Rattle.std.specs.Prelude.{Some}
use Rattle.std.proofs.Common.{◌≡◌, ℕ, zero, suc, ◌+◌, ◌-◌, ◌*◌, ◌%◌, ◌^◌, ◌<◌, ◌≤◌, Bool, true, false, cond, ltb, leb, List, ◌∷◌, length, get_or, take, drop, set, ℤ, pos, negsuc, ◌-ℤ◌, nat_abs, sym, refl, ap, ◌∙◌, subst, ap₂, add-one, arith, length-append, length-set, drop-cons, get_or-set_other, get_or-set_same, to_z-of_z, w32, w64, to_z, of_z, below_more, ltb-false, ltb-true, lt-ltb, le-leb, leb-true}
use Rattle.std.proofs.lemmas.List.{get_or-take, get_or-drop}
use lib.Bits.{bit_or}
use lib.Seq.{take-length}
use lib.IntN.{sub_ℕ}
use lib.Signed.{mag, le_z, lt_z}
use Rattle.cbf_pixels.specs.declared.ElementType.{ElementType}
use Rattle.cbf_pixels.specs.declared.ElementType.TheVariants.{U8, S8, U16, S16, U32, S32}
use Rattle.cbf_pixels.specs.Octets.{bits}
use Rattle.cbf_pixels.specs.Pixels.{least, greatest, within, all_within, pack_difference, pack_from}
use Rattle.cbf_measure.specs.Range.{lowest, raised_by, EachWithin, Gathered, SameSteps}
use Rattle.cbf_measure.specs.Measure.{steps_size, far_steps, over, part, size_within, Typed}
use Rattle.cbf_measure.proofs.PartsLaws.{last_of, last-at, pack-add, pack_one}
use Rattle.cbf_pixels.proofs.Integers.{never, cond-left, cond-right, subℕ-pos, subℕ-neg, subℕ-eq}
use Rattle.cbf_pixels.proofs.Bitwise.{or_left, or_right}
use Rattle.cbf_measure.proofs.WindowLaws.{or-more}
use Rattle.cbf_pixels.proofs.Forms.{form1, form2, form4, form8, form-size}
use Rattle.cbf_measure.proofs.MeasureLaws.{size_is, held-least, held-greatest}

pub within_signed : (z : ℤ) (limit : ℕ) → limit < 2 ^ 62 → ((bits 8 z + (limit + 1)) % 2 ^ 64 ≤ limit + (limit + 1)) × (mag z < 2 ^ 63)
    → within (negsuc limit) (pos limit) z ≡ true
unfolding within bits
within_signed (pos n) limit l h = let g : n ≤ limit = omega arith in le-leb n limit g
within_signed (negsuc n) limit l h = let g : n ≤ limit = omega arith in rw (le-leb n limit g)

pub within-unsigned : (z : ℤ) (limit : ℕ) → limit < 2 ^ 62 → ((bits 8 z + 0) % 2 ^ 64 ≤ limit) × (mag z < 2 ^ 63) → within (pos 0) (pos limit) z ≡ true
unfolding within bits
within-unsigned (pos n) limit l h = let g : n ≤ limit = omega arith in rw (le-leb 0 n (omega arith)) (le-leb n limit g)
within-unsigned (negsuc n) limit l h = let y : ⊥ = omega arith in absurd y

-- a number's bits
pub bits-far : (z : ℤ) → of_z w64 z ≡ bits 8 z
unfolding bits
bits-far (pos n) = refl
bits-far (negsuc n) = refl

-- ---- differences

pub over_no : (d : ℤ) (h : ℕ) → ltb (nat_abs d) h ≡ true → over d h ≡ 0
unfolding over
over_no d h e = rw e

pub over_yes : (d : ℤ) (h : ℕ) → ltb (nat_abs d) h ≡ false → over d h ≡ 1
unfolding over
over_yes d h e = rw e

pub over-few : (d : ℤ) (h : ℕ) → over d h ≤ 1
over-few d h = go (ltb (nat_abs d) h) refl
  where
    go : (t : Bool) → ltb (nat_abs d) h ≡ t → over d h ≤ 1
    go true e = omega (arith, over_no d h e)
    go false e = omega (arith, over_yes d h e)

pub step-length : (d : ℤ) → length (pack_difference d) ≡ 1 + 2 * over d 128 + 4 * over d 32768 + 8 * over d 2147483648
step-length d = go (ltb (nat_abs d) 128) refl (ltb (nat_abs d) 32768) refl (ltb (nat_abs d) 2147483648) refl
  where
    go : (s : Bool) → ltb (nat_abs d) 128 ≡ s → (t : Bool) → ltb (nat_abs d) 32768 ≡ t → (u : Bool) → ltb (nat_abs d) 2147483648 ≡ u
        → length (pack_difference d) ≡ 1 + 2 * over d 128 + 4 * over d 32768 + 8 * over d 2147483648
    go true p true q true r = omega (arith, form-size (form1 d (ltb-true (nat_abs d) 128 p)), over_no d 128 p, over_no d 32768 q, over_no d 2147483648 r)
    go true p true q false r = let y : ⊥ = omega (arith, ltb-true (nat_abs d) 128 p, ltb-false (nat_abs d) 2147483648 r) in absurd y
    go true p false q u r = let y : ⊥ = omega (arith, ltb-true (nat_abs d) 128 p, ltb-false (nat_abs d) 32768 q) in absurd y
    go false p true q true r =
        let f = form-size (form2 d (ltb-false (nat_abs d) 128 p) (ltb-true (nat_abs d) 32768 q)) in
        omega (arith, f, over_yes d 128 p, over_no d 32768 q, over_no d 2147483648 r)
    go false p true q false r = let y : ⊥ = omega (arith, ltb-true (nat_abs d) 32768 q, ltb-false (nat_abs d) 2147483648 r) in absurd y
    go false p false q true r =
        let f = form-size (form4 d (ltb-false (nat_abs d) 32768 q) (ltb-true (nat_abs d) 2147483648 r)) in
        omega (arith, f, over_yes d 128 p, over_yes d 32768 q, over_no d 2147483648 r)
    go false p false q false r =
        let f = form-size (form8 d (ltb-false (nat_abs d) 2147483648 r)) in
        omega (arith, f, over_yes d 128 p, over_yes d 32768 q, over_yes d 2147483648 r)

last-from : (ps : List ℤ) (i j : ℕ) → i + j < length ps → last_of (get_or ps i (pos 0)) (part ps (i + 1) j) ≡ get_or ps (i + j) (pos 0)
unfolding last_of
last-from ps i zero h = let e : i ≡ i + 0 = omega arith in ap (λ (k : ℕ). get_or ps k (pos 0)) e
last-from ps i (suc j) h = last-at (get_or ps i (pos 0)) ps (i + 1) (suc j) (i + suc j) (omega arith) (omega arith) (omega arith)

pub steps-none : (ps : List ℤ) (i : ℕ) → steps_size ps i 0 ≡ 0
unfolding pack_from
steps-none ps i = refl

pub steps-more : (ps : List ℤ) (i j : ℕ) → i + j + 1 < length ps
    → steps_size ps i (j + 1) ≡ steps_size ps i j + length (pack_difference (get_or ps (i + j + 1) (pos 0) -ℤ get_or ps (i + j) (pos 0)))
steps-more ps i j h =
    let z = get_or ps i (pos 0) in
    let xs = pack_from z (part ps (i + 1) j) in
    let ys = pack_from (last_of z (part ps (i + 1) j)) (part ps (i + 1 + j) 1) in
    let q : i + 1 + j ≡ i + j + 1 = omega arith in
    let o : ys ≡ pack_difference (get_or ps (i + j + 1) (pos 0) -ℤ get_or ps (i + j) (pos 0)) =
    ap₂ (λ (y : ℤ) (k : ℕ). pack_from y (part ps k 1)) (last-from ps i j (omega arith)) q ∙ pack_one (get_or ps (i + j) (pos 0)) ps (i + j + 1) h in
    omega (arith, ap length (pack-add z ps (i + 1) j 1), length-append xs ys, ap length o)

over-apart : (d : ℤ) (m h : ℕ) → m ≡ nat_abs d → over (pos m) h ≡ over d h
unfolding over
over-apart d m h e = ap (λ (n : ℕ). cond (ltb n h) 0 1) e

-- one more, m apart from the one before
pub steps-turn : (ps : List ℤ) (j m one two four : ℕ) → j + 1 < length ps → m ≡ nat_abs (get_or ps (j + 1) (pos 0) -ℤ get_or ps j (pos 0))
    → steps_size ps 0 j ≡ j + 2 * one + 4 * two + 8 * four
    → steps_size ps 0 (j + 1) ≡ j + 1 + 2 * (one + over (pos m) 128) + 4 * (two + over (pos m) 32768) + 8 * (four + over (pos m) 2147483648)
steps-turn ps j m one two four h e s =
    let q : 0 + j ≡ j = omega arith in
    let d = get_or ps (j + 1) (pos 0) -ℤ get_or ps j (pos 0) in
    let a = steps-more ps 0 j (omega arith) ∙ ap (λ (i : ℕ). steps_size ps 0 j + length (pack_difference (get_or ps (i + 1) (pos 0) -ℤ get_or ps i (pos 0)))) q in
    omega (arith, a, step-length d, over-apart d m 128 e, over-apart d m 32768 e, over-apart d m 2147483648 e)

pub far_none : (ps : List ℤ) → far_steps ps 0 ≡ 0
unfolding far_steps
far_none ps = refl

pub far-more : (ps : List ℤ) (j m : ℕ) → m ≡ nat_abs (get_or ps (j + 1) (pos 0) -ℤ get_or ps j (pos 0))
    → far_steps ps (j + 1) ≡ far_steps ps j + over (pos m) 2147483648
unfolding far_steps
far-more ps j m e =
    let d = get_or ps (j + 1) (pos 0) -ℤ get_or ps j (pos 0) in
    ap (far_steps ps) (add-one j) ∙ ap (λ (n : ℕ). far_steps ps j + n) (sym (over-apart d m 2147483648 e))

-- none of them, where the bitwise or of the distances is below 2^31
pub far-or : (n m all : ℕ) → (all < 2147483648 → n ≡ 0) → bit_or all m < 2147483648 → n + over (pos m) 2147483648 ≡ 0
far-or n m all h l =
    let a = or_left all m in
    let b = or_right all m in
    omega (arith, h (omega arith), over_no (pos m) 2147483648 (lt-ltb m 2147483648 (omega arith)))

-- the same differences take as many octets
pub steps-same : (ps : List ℤ) (k n : ℕ) (words : List ℤ) → n < length words → k + n < length ps → SameSteps ps k n words
    → steps_size words 0 n ≡ steps_size ps k n
steps-same ps k zero words l h same = steps-none words 0 ∙ sym (steps-none ps k)
steps-same ps k (suc n) words l h same =
    let e : suc n ≡ n + 1 = omega arith in
    let i = steps-same ps k n words (omega arith) (omega arith) (λ j g. same j (omega arith)) in
    let q : 0 + n ≡ n = omega arith in
    let a = ap (steps_size words 0) e ∙ steps-more words 0 n (omega arith)
    ∙ ap (λ (i : ℕ). steps_size words 0 n + length (pack_difference (get_or words (i + 1) (pos 0) -ℤ get_or words i (pos 0)))) q in
    let b = ap (steps_size ps k) e ∙ steps-more ps k n (omega arith) in
    let d = ap (λ (d : ℤ). length (pack_difference d)) (same n (omega arith)) in
    omega arith

-- ---- words

pub sub-pos : (m n : ℕ) → pos m -ℤ pos n ≡ sub_ℕ m n
sub-pos m zero = let e : m + 0 ≡ m - 0 = omega arith in ap pos e ∙ sym (subℕ-pos m 0 (omega arith))
sub-pos m (suc n) = refl

neg-sub : (m n : ℕ) → negsuc m -ℤ pos n ≡ negsuc (m + n)
neg-sub m zero = let e : suc m - 1 ≡ m + 0 = omega arith in subℕ-neg 0 (suc m) (omega arith) ∙ ap negsuc e
neg-sub m (suc n) = let e : suc (m + n) ≡ m + suc n = omega arith in ap negsuc e

-- two numbers moved down by as much
pub moved : (a b h : ℕ) → sub_ℕ a h -ℤ sub_ℕ b h ≡ sub_ℕ a b
moved a b h = go (ltb a h) refl (ltb b h) refl
  where
    go : (s : Bool) → ltb a h ≡ s → (t : Bool) → ltb b h ≡ t → sub_ℕ a h -ℤ sub_ℕ b h ≡ sub_ℕ a b
    go true p true q =
        let x = ltb-true a h p in
        let y = ltb-true b h q in
        ap₂ ◌-ℤ◌ (subℕ-neg a h x) (subℕ-neg b h y) ∙ subℕ-eq (suc (h - suc b)) (suc (h - suc a)) a b (omega arith)
    go true p false q =
        let x = ltb-true a h p in
        let y = ltb-false b h q in
        let e : h - suc a + (b - h) ≡ b - suc a = omega arith in
        ap₂ ◌-ℤ◌ (subℕ-neg a h x) (subℕ-pos b h y) ∙ neg-sub (h - suc a) (b - h) ∙ ap negsuc e ∙ sym (subℕ-neg a b (omega arith))
    go false p true q =
        let x = ltb-false a h p in
        let y = ltb-true b h q in
        let e : a - h + suc (h - suc b) ≡ a - b = omega arith in
        ap₂ ◌-ℤ◌ (subℕ-pos a h x) (subℕ-neg b h y) ∙ ap pos e ∙ sym (subℕ-pos a b (omega arith))
    go false p false q =
        let x = ltb-false a h p in
        let y = ltb-false b h q in
        ap₂ ◌-ℤ◌ (subℕ-pos a h x) (subℕ-pos b h y) ∙ sub-pos (a - h) (b - h) ∙ subℕ-eq (a - h) (b - h) a b (omega arith)

pub word_small : (n : ℕ) → n < 4294967296 → mag (sub_ℕ n 2147483648) < 2147483648
word_small n h = go (ltb n 2147483648) refl
  where
    go : (t : Bool) → ltb n 2147483648 ≡ t → mag (sub_ℕ n 2147483648) < 2147483648
    go true p = let x = ltb-true n 2147483648 p in omega (arith, ap mag (subℕ-neg n 2147483648 x))
    go false p = let x = ltb-false n 2147483648 p in omega (arith, ap mag (subℕ-pos n 2147483648 x))

pub held-32 : (z : ℤ) → mag z < 2 ^ 31 → to_z w32 (of_z w32 z) ≡ z
held-32 z h = to_z-of_z {w = w32} (record { sfits = h })

pub word_held : (n : ℕ) {w : ℤ} → w ≡ sub_ℕ (n % 2 ^ 32) 2147483648 → to_z w32 (of_z w32 w) ≡ sub_ℕ (n % 2 ^ 32) 2147483648
word_held n e = ap (λ (z : ℤ). to_z w32 (of_z w32 z)) e ∙ held-32 (sub_ℕ (n % 2 ^ 32) 2147483648) (word_small (n % 2 ^ 32) (omega arith))

-- the place of pixel i
abbrev place_of : List ℤ → ℕ → ℕ → ℕ
place_of ps below i = (bits 8 (get_or ps i (pos 0)) + below) % 2 ^ 64

pub gathered-more : {ps : List ℤ} {k j below : ℕ} {words : List ℤ} {all : ℕ} → Gathered ps k j below words all → j < 129
    → mag (get_or ps (k + j) (pos 0)) < 2 ^ 63 → (p : ℕ) → p ≡ place_of ps below (k + j) → (w : ℤ) → w ≡ sub_ℕ (p % 2 ^ 32) 2147483648
    → Gathered ps k (j + 1) below (set words j w) (bit_or all p)
gathered-more {ps} {k} {j} {below} {words} {all} G l f p e w v =
    record {
      most = subst (λ (x : ℕ). (i : ℕ) → i < j + 1 → place_of ps below (k + i) ≤ bit_or all x) (sym e)
          (or-more (λ (i : ℕ). place_of ps below (k + i)) j all G.most);
      fits = below_more (λ (i : ℕ). mag (get_or ps (k + i) (pos 0)) < 2 ^ 63) j G.fits f;
      word = below_more (λ (i : ℕ). get_or (set words j w) i (pos 0) ≡ sub_ℕ (place_of ps below (k + i) % 2 ^ 32) 2147483648) j
          (λ i h. get_or-set_other words j i w (pos 0) (λ q. omega arith) ∙ G.word i h)
          (get_or-set_same words j w (pos 0) (omega (arith, G.long)) ∙ v ∙ ap (λ (x : ℕ). sub_ℕ (x % 2 ^ 32) 2147483648) e);
      long = length-set words j w ∙ G.long;
    }

pos-from : (n p b : ℕ) → p ≡ n + b → pos n ≡ sub_ℕ p b
pos-from n p b e = let q : n ≡ p - b = omega arith in ap pos q ∙ sym (subℕ-pos p b (omega arith))

neg-from : (n p b : ℕ) → p + suc n ≡ b → negsuc n ≡ sub_ℕ p b
neg-from n p b e = let q : n ≡ b - suc p = omega arith in ap negsuc q ∙ sym (subℕ-neg p b (omega arith))

-- a pixel in its range is its place moved down
placed : (signed : Bool) (limit : ℕ) (z : ℤ) → limit + raised_by signed limit < 2 ^ 32 → mag z < 2 ^ 63
    → (bits 8 z + raised_by signed limit) % 2 ^ 64 ≤ limit + raised_by signed limit
    → (within (lowest signed limit) (pos limit) z ≡ true) × (z ≡ sub_ℕ ((bits 8 z + raised_by signed limit) % 2 ^ 64 % 2 ^ 32) (raised_by signed limit))
unfolding bits
placed true limit (pos n) l f h =
    let m = (n + (limit + 1)) % 2 ^ 64 in
    let q : m ≡ n + (limit + 1) = omega arith in
    let r : m % 2 ^ 32 ≡ n + (limit + 1) = omega arith in
    (within_signed (pos n) limit (omega arith) (h, f), pos-from n (m % 2 ^ 32) (limit + 1) r)
placed true limit (negsuc n) l f h =
    let g : n ≤ limit = omega arith in
    let m = (2 ^ 64 - suc n + (limit + 1)) % 2 ^ 64 in
    let q : m ≡ limit - n = omega arith in
    let r : m % 2 ^ 32 ≡ limit - n = omega arith in
    (within_signed (negsuc n) limit (omega arith) (h, f), neg-from n (m % 2 ^ 32) (limit + 1) (omega (arith, r)))
placed false limit (pos n) l f h =
    let m = (n + 0) % 2 ^ 64 in
    let q : m ≡ n + 0 = omega arith in
    let r : m % 2 ^ 32 ≡ n + 0 = omega arith in
    (within-unsigned (pos n) limit (omega arith) (omega arith, f), pos-from n (m % 2 ^ 32) 0 r)
placed false limit (negsuc n) l f h = let y : ⊥ = omega arith in absurd y

-- one more pixel, whose place is p
pub spread-more : (ps : List ℤ) (below n all : ℕ) → ((j : ℕ) → j < n → (place_of ps below j ≤ all) × (mag (get_or ps j (pos 0)) < 2 ^ 63))
    → (p : ℕ) → mag (get_or ps n (pos 0)) < 2 ^ 63 → p ≡ place_of ps below n
    → (j : ℕ) → j < n + 1 → (place_of ps below j ≤ bit_or all p) × (mag (get_or ps j (pos 0)) < 2 ^ 63)
spread-more ps below n all f p g e j h = (
  subst (λ (x : ℕ). place_of ps below j ≤ bit_or all x) (sym e) (or-more (λ (i : ℕ). place_of ps below i) n all (λ i l. (f i l).0) j h),
  below_more (λ (i : ℕ). mag (get_or ps i (pos 0)) < 2 ^ 63) n (λ i l. (f i l).1) g j h,
)

pub spread-within : (signed : Bool) (limit below all : ℕ) (ps : List ℤ) → limit < 2 ^ 62 → below ≡ raised_by signed limit → all ≤ limit + below
    → ((j : ℕ) → j < length ps → (place_of ps below j ≤ all) × (mag (get_or ps j (pos 0)) < 2 ^ 63))
    → EachWithin ps 0 (length ps) (lowest signed limit) (pos limit)
spread-within signed limit below all ps l e m f j h =
    let q : j ≡ 0 + j = omega arith in
    let own : (b : Bool) → below ≡ raised_by b limit → within (lowest b limit) (pos limit) (get_or ps j (pos 0)) ≡ true = λ b. go b in
    subst (λ (i : ℕ). within (lowest signed limit) (pos limit) (get_or ps i (pos 0)) ≡ true) q (own signed e)
  where
    go : (b : Bool) → below ≡ raised_by b limit → within (lowest b limit) (pos limit) (get_or ps j (pos 0)) ≡ true
    go true e =
        let p = subst (λ (b : ℕ). place_of ps b j ≤ limit + b) e (omega (arith, (f j h).0)) in
        within_signed (get_or ps j (pos 0)) limit l (p, (f j h).1)
    go false e =
        let p = subst (λ (b : ℕ). place_of ps b j ≤ limit + b) e (omega (arith, (f j h).0)) in
        within-unsigned (get_or ps j (pos 0)) limit l (omega arith, (f j h).1)

module _ {ps : List ℤ} {k : ℕ} (signed : Bool) (limit below : ℕ) {words : List ℤ} {all : ℕ} (G : Gathered ps k 129 below words all)
    (e : below ≡ raised_by signed limit) (small : limit + raised_by signed limit < 2 ^ 32) (most : all ≤ limit + below) where
  at : (j : ℕ) → j < 129
      → (within (lowest signed limit) (pos limit) (get_or ps (k + j) (pos 0)) ≡ true) × (get_or ps (k + j) (pos 0) ≡ sub_ℕ (place_of ps below (k + j) % 2 ^ 32) below)
  at j h =
      let z = get_or ps (k + j) (pos 0) in
      subst (λ (b : ℕ). (within (lowest signed limit) (pos limit) z ≡ true) × (z ≡ sub_ℕ (place_of ps b (k + j) % 2 ^ 32) b)) (sym e)
      (placed signed limit z small (G.fits j h)
      (subst (λ (b : ℕ). place_of ps b (k + j) ≤ limit + b) e (omega (arith, G.most j h))))

  pub gathered-within : EachWithin ps k 129 (lowest signed limit) (pos limit)
  gathered-within j h = (at j h).0

  pub gathered-steps : SameSteps ps k 128 words
  gathered-steps j h =
      let a = place_of ps below (k + (j + 1)) % 2 ^ 32 in
      let b = place_of ps below (k + j) % 2 ^ 32 in
      let q : k + (j + 1) ≡ k + j + 1 = omega arith in
      ap₂ ◌-ℤ◌ (G.word (j + 1) (omega arith)) (G.word j (omega arith)) ∙ moved a b 2147483648 ∙ sym (moved a b below)
      ∙ ap₂ ◌-ℤ◌ (sym (at (j + 1) (omega arith)).1) (sym (at j (omega arith)).1) ∙ ap (λ (i : ℕ). get_or ps i (pos 0) -ℤ get_or ps (k + j) (pos 0)) q

-- a type's range
data Range : ℤ → ℤ → Type 0 where
  signed : (top : ℕ) → Range (negsuc top) (pos top)
  unsigned : (top : ℕ) → Range (pos 0) (pos top)

range-is : (t : ElementType) → Range (least t) (greatest t)
range-is U8 = unsigned 255
range-is S8 = signed 127
range-is U16 = unsigned 65535
range-is S16 = signed 32767
range-is U32 = unsigned 4294967295
range-is S32 = signed 2147483647

-- what is in a range up to limit is in each that goes further
wider : {lo hi : ℤ} → Range lo hi → (limit : ℕ) (z : ℤ) → le_z (pos limit) hi ≡ true → within (lowest (lt_z lo (pos 0)) limit) (pos limit) z ≡ true
    → (within lo hi z ≡ true) × (mag z ≤ limit)
unfolding within
wider (signed top) limit (pos n) h w =
    let l = leb-true limit top h in let m = leb-true n limit w in (le-leb n top (omega arith), m)
wider (signed top) limit (negsuc n) h w =
    let l = leb-true limit top h in let m = leb-true n limit (cond-left (leb n limit) true w) in (rw (le-leb n top (omega arith)), m)
wider (unsigned top) limit (pos n) h w =
    let l = leb-true limit top h in
    let m = leb-true n limit (cond-right (leb 0 n) (leb n limit) w) in
    (rw (le-leb 0 n (omega arith)) (le-leb n top (omega arith)), m)
wider (unsigned top) limit (negsuc n) h w = never w

-- a type's greatest pixel as a limit
pub record Limit (lo hi : ℤ) : Type 0 where
  pub is : hi ≡ pos (nat_abs hi)
  pub own : le_z (pos (nat_abs hi)) hi ≡ true
  pub small : nat_abs hi + raised_by (lt_z lo (pos 0)) (nat_abs hi) < 2 ^ 32

pub limit_is : (t : ElementType) → Limit (least t) (greatest t)
limit_is U8 = record { is = refl; own = refl; small = omega arith }
limit_is S8 = record { is = refl; own = refl; small = omega arith }
limit_is U16 = record { is = refl; own = refl; small = omega arith }
limit_is S16 = record { is = refl; own = refl; small = omega arith }
limit_is U32 = record { is = refl; own = refl; small = omega arith }
limit_is S32 = record { is = refl; own = refl; small = omega arith }

pub typed-limit : {lo hi z : ℤ} → Typed lo hi z → Limit lo hi
typed-limit T = rw (T.least, T.greatest) (limit_is T.type)

typed-range-is : {lo hi z : ℤ} → Typed lo hi z → Range lo hi
typed-range-is T = rw (T.least, T.greatest) (range-is T.type)

pub typed-wider : {lo hi z : ℤ} → Typed lo hi z → (limit : ℕ) (y : ℤ) → le_z (pos limit) hi ≡ true → within (lowest (lt_z lo (pos 0)) limit) (pos limit) y ≡ true
    → (within lo hi y ≡ true) × (mag y ≤ limit)
typed-wider T limit y h w = wider (typed-range-is T) limit y h w

-- a pixel of the m pixels from k on
slice_at : (ps : List ℤ) (k m i j : ℕ) → i ≡ j → j < m → get_or (take m (drop k ps)) i (pos 0) ≡ get_or ps (k + j) (pos 0)
slice_at ps k m i j e h =
    ap (λ (i : ℕ). get_or (take m (drop k ps)) i (pos 0)) e ∙ get_or-take m (drop k ps) j (pos 0) h ∙ get_or-drop k ps j (pos 0)

-- each pixel of a part, and all of them
pub each_all : (lo hi : ℤ) (ps : List ℤ) (k n : ℕ) → k + n ≤ length ps → EachWithin ps k n lo hi → all_within lo hi (part ps k n) ≡ true
unfolding all_within
each_all lo hi ps k zero h each = refl
each_all lo hi ps k (suc n) h each =
    let at : (i j : ℕ) → i ≡ j → within lo hi (get_or ps i (pos 0)) ≡ true
    → within lo hi (get_or ps j (pos 0)) ≡ true = λ i j q. subst (λ (i : ℕ). within lo hi (get_or ps i (pos 0)) ≡ true) q in
    let p : part ps k (suc n) ≡ get_or ps k (pos 0) ∷ part ps (suc k) n = ap (take (suc n)) (drop-cons ps k (pos 0) (omega arith)) in
    ap (all_within lo hi) p
    ∙ ap (λ (t : Bool). cond t (all_within lo hi (part ps (suc k) n)) false) (at (k + 0) k (omega arith) (each 0 (omega arith)))
    ∙ each_all lo hi ps (suc k) n (omega arith) (λ j l. at (k + suc j) (suc k + j) (omega arith) (each (suc j) (omega arith)))

-- of the m pixels from k on
pub each-slice : (ps : List ℤ) (k m n : ℕ) (lo hi : ℤ) → n ≤ m → EachWithin (take m (drop k ps)) 0 n lo hi → EachWithin ps k n lo hi
each-slice ps k m n lo hi h each j l =
    subst (λ (y : ℤ). within lo hi y ≡ true) (slice_at ps k m (0 + j) j (omega arith) (omega arith)) (each j l)

pub steps-slice : (ps : List ℤ) (k m n : ℕ) (words : List ℤ) → n < m → SameSteps (take m (drop k ps)) 0 n words → SameSteps ps k n words
steps-slice ps k m n words h same j l =
    let z : k + (j + 1) ≡ k + j + 1 = omega arith in
    same j l
    ∙ ap₂ ◌-ℤ◌ (slice_at ps k m (0 + j + 1) (j + 1) (omega arith) (omega arith) ∙ ap (λ (i : ℕ). get_or ps i (pos 0)) z)
    (slice_at ps k m (0 + j) j (omega arith) (omega arith))

-- the size of a part after pixel k - 1, which is the last one
part-steps : (lo hi : ℤ) (ps : List ℤ) (k n : ℕ) (last : ℤ) (size : ℕ) → 0 < k → k + n ≤ length ps → last ≡ get_or ps (k - 1) (pos 0)
    → EachWithin ps (k - 1) (n + 1) lo hi → size ≡ steps_size ps (k - 1) n → Some size ≡ size_within lo hi last (part ps k n)
part-steps lo hi ps k n last size p h l each e =
    let q : k - 1 + 1 ≡ k = omega arith in
    let a = each_all lo hi ps k n h
    (λ j g. let r : k - 1 + (j + 1) ≡ k + j = omega arith in subst (λ (i : ℕ). within lo hi (get_or ps i (pos 0)) ≡ true) r (each (j + 1) (omega arith))) in
    ap Some (e ∙ ap₂ (λ (z : ℤ) (i : ℕ). length (pack_from z (part ps i n))) (sym l) q) ∙ sym (size_is lo hi last (part ps k n) a)

-- the same by words
pub part-words : (lo hi : ℤ) (ps : List ℤ) (k n : ℕ) (last : ℤ) (size : ℕ) (words : List ℤ) → 0 < k → n ≡ 128 → k + n ≤ length ps
    → last ≡ get_or ps (k - 1) (pos 0) → length words ≡ 129
    → EachWithin ps (k - 1) 129 lo hi × SameSteps ps (k - 1) 128 words → size ≡ steps_size words 0 128 → Some size ≡ size_within lo hi last (part ps k n)
part-words lo hi ps k n last size words p q h l w both e =
    subst (λ (m : ℕ). Some size ≡ size_within lo hi last (part ps k m)) (sym q)
    (part-steps lo hi ps k 128 last size p (omega arith) l both.0 (e ∙ steps-same ps (k - 1) 128 words (omega arith) (omega arith) both.1))

-- the range of a type by its bounds, as the machine holds them
pub held-within : {lo hi z : ℤ} → Typed lo hi z → (ps : List ℤ) (k n : ℕ)
    → EachWithin ps k n (lowest (lt_z (to_z w64 (of_z w64 lo)) (pos 0)) (nat_abs (to_z w64 (of_z w64 hi)))) (pos (nat_abs (to_z w64 (of_z w64 hi))))
    → EachWithin ps k n lo hi
held-within {lo} {hi} T ps k n each j h =
    let y = get_or ps (k + j) (pos 0) in
    let e : within (lowest (lt_z lo (pos 0)) (nat_abs hi)) (pos (nat_abs hi)) y ≡ true
    = subst (λ (u : ℤ). within (lowest (lt_z lo (pos 0)) (nat_abs u)) (pos (nat_abs u)) y ≡ true) (held-greatest T)
    (subst (λ (l : ℤ). within (lowest (lt_z l (pos 0)) (nat_abs (to_z w64 (of_z w64 hi)))) (pos (nat_abs (to_z w64 (of_z w64 hi)))) y ≡ true) (held-least T)
    (each j h)) in
    (typed-wider T (nat_abs hi) y (typed-limit T).own e).0

-- all pixels of a type
pub all-each : (lo hi : ℤ) (ps : List ℤ) → EachWithin ps 0 (length ps) lo hi → all_within lo hi ps ≡ true
all-each lo hi ps each = ap (all_within lo hi) (sym (take-length ps)) ∙ each_all lo hi ps 0 (length ps) (omega arith) each
