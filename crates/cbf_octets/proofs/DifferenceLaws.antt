-- One difference, as the code reads it: sign extension, the clamped eight octets, and the widths tried in turn.
-- Assumes nothing.
use Prim.Native.Nat.{ℕ, zero, suc, ◌+◌, ◌*◌, ◌-◌, ◌^◌, ◌<◌, ◌≤◌}
use native.Mathlib.Omega.{arith}
use mathlib.Core.Path.{◌≡◌, refl, sym, ap, ap₂, ◌∙◌}
use mathlib.Core.Bool.{Bool, true, false}
use mathlib.Core.List.{List, [], ◌∷◌, ◌++◌}
use lib.Bits.{bit_xor, xor_block, xor_zero_r, xor_add_and}
use lib.Dec.{ltb, leb}
use lib.ListN.{length, take, drop, get_or, take-append-drop, length-drop}
use lib.Seq.{drop-drop, length-take-le}
use lib.IntN.{ℤ, pos, negsuc, nat_abs, sub_ℕ, ◌-ℤ◌}
use lib.Pow.{pow_mono}
use lib.Signed.{mag}
use borrow.Author.Tests.{lt-ltb, le-ltb, ltb-true, ltb-false, le-leb, lt-leb, leb-true, leb-false}
use mir.Syntax.{w64}
use mir.Val.{to_z, of_z}
use mir.Facts.{to_z_pos, to_z-of_z}
use Rattle.cbf_pixels.specs.Octets.{number, half, signed}
use Rattle.cbf_pixels.specs.Pixels.{Read, run_out, got, read_by, widths}
use Rattle.cbf_octets.specs.Difference.{Halved, clamped, Whole, Took}
use Rattle.cbf_pixels.proofs.Integers.{never, subℕ-pos, subℕ-neg, mag-sub}
use Rattle.cbf_pixels.proofs.Numbers.{signed_lt, mag-le}
use Rattle.cbf_octets.proofs.OctetsLaws.{number-one}
use Rattle.cbf_pixels.proofs.Reading.{read-cut, read-last, read_here, read-on}

-- ---- two's complement

pub signed_low : (k n : ℕ) → n < half k → signed k n ≡ pos n
unfolding signed
signed_low k n h = rw (lt-ltb n (half k) h)

pub signed_high : (k n : ℕ) → half k ≤ n → signed k n ≡ negsuc (256 ^ k - suc n)
unfolding signed
signed_high k n h = rw (le-ltb n (half k) h)

pub two-halves : (k : ℕ) → 0 < half k → 256 ^ k ≡ 2 * half k
unfolding half
two-halves zero h = omega arith
two-halves (suc k) h = omega arith

pub pos-sub : (a b : ℕ) → pos a -ℤ pos b ≡ sub_ℕ a b
pos-sub a zero = let e : a + 0 ≡ a - 0 = omega arith in ap pos e ∙ sym (subℕ-pos a 0 (omega arith))
pos-sub a (suc b) = refl

-- the bit of value 2^e, flipped
flip : (e a r : ℕ) → r < 2 ^ e → bit_xor (a * 2 ^ e + r) (2 ^ e) ≡ bit_xor a 1 * 2 ^ e + r
flip e a r h =
    let z : 0 < 2 ^ e = omega arith in
    let b : 1 * 2 ^ e + 0 ≡ 2 ^ e = omega arith in
    ap (bit_xor (a * 2 ^ e + r)) (sym b) ∙ xor_block e a 1 r 0 h z ∙ ap (λ (m : ℕ). bit_xor a 1 * 2 ^ e + m) (xor_zero_r r)

-- ---- sign extension

module _ (h n : ℕ) (H : Halved h n) where
  pub half-small : h ≤ 2 ^ 31
  half-small = let s : 2 ^ H.exponent ≤ 2 ^ 31 = pow_mono H.small in omega (arith, H.power)

  pub xor-small : bit_xor n h < 2 ^ 33
  xor-small = omega (arith, half-small, H.fits, xor_add_and n h)

  flip_low : n < h → bit_xor n h ≡ n + h
  flip_low l =
      let p = H.power in
      let a : 0 * 2 ^ H.exponent + n ≡ n = omega arith in
      ap₂ bit_xor (sym a) p ∙ flip H.exponent 0 n (omega arith) ∙ omega arith

  flip_high : h ≤ n → bit_xor n h ≡ n - h
  flip_high l =
      let p = H.power in
      let f = H.fits in
      let a : 1 * 2 ^ H.exponent + (n - h) ≡ n = omega arith in
      ap₂ bit_xor (sym a) p ∙ flip H.exponent 1 (n - h) (omega arith) ∙ omega arith

  pub extend : (k : ℕ) → h ≡ half k → sub_ℕ (bit_xor n h) h ≡ signed k n
  extend k e = go (ltb n h) refl
    where
      go : (t : Bool) → ltb n h ≡ t → sub_ℕ (bit_xor n h) h ≡ signed k n
      go true q =
          let l = ltb-true n h q in
          ap (λ (m : ℕ). sub_ℕ m h) (flip_low l) ∙ subℕ-pos (n + h) h (omega arith) ∙ ap pos (omega arith) ∙ sym (signed_low k n (omega arith))
      go false q =
          let l = ltb-false n h q in
          let f = H.fits in
          let d = two-halves k (omega arith) in
          let m : h - suc (n - h) ≡ 256 ^ k - suc n = omega arith in
          ap (λ (m : ℕ). sub_ℕ m h) (flip_high l) ∙ subℕ-neg (n - h) h (omega arith) ∙ ap negsuc m ∙ sym (signed_high k n (omega arith))

  both_positive : to_z w64 (bit_xor n h) -ℤ to_z w64 h ≡ pos (bit_xor n h) -ℤ pos h
  both_positive =
      let x : bit_xor n h < 2 ^ 63 = omega (arith, xor-small) in
      let s : h < 2 ^ 63 = omega (arith, half-small) in
      ap₂ ◌-ℤ◌ (to_z_pos w64 x) (to_z_pos w64 s)

  pub extended_fits : mag (to_z w64 (bit_xor n h) -ℤ to_z w64 h) < 2 ^ 63
  extended_fits =
      let x : bit_xor n h < 2 ^ 62 = omega (arith, xor-small) in
      let s : h < 2 ^ 62 = omega (arith, half-small) in
      rw both_positive (mag-sub (pos (bit_xor n h)) (pos h) x s)

  pub extended-is : (k : ℕ) → h ≡ half k → to_z w64 (bit_xor n h) -ℤ to_z w64 h ≡ signed k n
  extended-is k e = both_positive ∙ pos-sub (bit_xor n h) h ∙ extend k e

-- ---- the clamped difference

pub clamped-near : (d : ℤ) → nat_abs d ≤ 2 ^ 33 → clamped d ≡ d
unfolding clamped
clamped-near (pos n) h = rw (le-leb n (2 ^ 33) h)
clamped-near (negsuc n) h = rw (lt-ltb n (2 ^ 33) h)

pub clamped-far : (d : ℤ) → 2 ^ 33 < nat_abs d → clamped d ≡ pos (2 ^ 36)
unfolding clamped
clamped-far (pos n) h = rw (lt-leb n (2 ^ 33) h)
clamped-far (negsuc n) h = rw (le-ltb n (2 ^ 33) (omega arith))

pub clamped-small : (d : ℤ) → nat_abs (clamped d) ≤ 2 ^ 36
clamped-small d = go (leb (nat_abs d) (2 ^ 33)) refl
  where
    go : (t : Bool) → leb (nat_abs d) (2 ^ 33) ≡ t → nat_abs (clamped d) ≤ 2 ^ 36
    go true q = let h = leb-true (nat_abs d) (2 ^ 33) q in rw (clamped-near d h) (omega arith)
    go false q = rw (clamped-far d (leb-false (nat_abs d) (2 ^ 33) q)) (omega arith)

pub below-zero : (n : ℕ) → negsuc 0 -ℤ pos n ≡ negsuc n
below-zero zero = refl
below-zero (suc n) = ap negsuc (omega arith)

module _ (n : ℕ) where
  pub far-up : n ≤ 8589934592 → to_z w64 n ≡ clamped (signed 8 n)
  unfolding half
  far-up h =
      let l : n < 2 ^ 63 = omega arith in
      to_z_pos w64 l ∙ sym (ap clamped (signed_low 8 n l) ∙ clamped-near (pos n) (omega arith))

  pub far-out : 8589934592 < n → n < 18446744065119617024 → pos 68719476736 ≡ clamped (signed 8 n)
  unfolding half
  far-out h k = go (ltb n (2 ^ 63)) refl
    where
      go : (t : Bool) → ltb n (2 ^ 63) ≡ t → pos 68719476736 ≡ clamped (signed 8 n)
      go true q = sym (ap clamped (signed_low 8 n (ltb-true n (2 ^ 63) q)) ∙ clamped-far (pos n) (omega arith))
      go false q = sym (ap clamped (signed_high 8 n (ltb-false n (2 ^ 63) q)) ∙ clamped-far (negsuc (2 ^ 64 - suc n)) (omega arith))

  pub far-down : 18446744065119617024 ≤ n → n < 2 ^ 64 → negsuc 0 -ℤ to_z w64 (18446744073709551615 - n) ≡ clamped (signed 8 n)
  unfolding half
  far-down h k =
      let l : 18446744073709551615 - n < 2 ^ 63 = omega arith in
      let e : 18446744073709551615 - n ≡ 2 ^ 64 - suc n = omega arith in
      ap (λ (z : ℤ). negsuc 0 -ℤ z) (to_z_pos w64 l) ∙ below-zero (18446744073709551615 - n) ∙ ap negsuc e
      ∙ sym (ap clamped (signed_high 8 n (omega arith)) ∙ clamped-near (negsuc (2 ^ 64 - suc n)) (omega arith))

  pub far-fits : 18446744065119617024 ≤ n → n < 2 ^ 64 → mag (negsuc 0 -ℤ to_z w64 (18446744073709551615 - n)) < 2 ^ 63
  far-fits h k = let d = clamped (signed 8 n) in rw (far-down h k) (omega (arith, mag-le d, clamped-small (signed 8 n)))

-- ---- the widths, tried in turn

-- reading the difference at i has come to the widths ks, whose octets start at m
pub record Tries (os : List ℕ) (i : ℕ) (ks : List ℕ) (m : ℕ) : Type 0 where
  pub same : read_by widths (drop i os) ≡ read_by ks (drop m os)
  pub from : i ≤ m

pub tries-first : (os : List ℕ) (i : ℕ) → Tries os i (1 ∷ 2 ∷ 4 ∷ 8 ∷ []) i
unfolding widths
tries-first os i = record { same = refl; from = omega arith }

-- n is the number of the k octets at m, and next is the place after them
pub record Number (os : List ℕ) (m k n next : ℕ) : Type 0 where
  pub is : n ≡ number (take k (drop m os))
  pub after : next ≡ m + k
  pub inside : next ≤ length os

pub one-octet : (os : List ℕ) (i : ℕ) → i < length os → Number os i 1 (get_or os i 0) (i + 1)
one-octet os i h = record { is = sym (number-one i os h); after = refl; inside = omega arith }

module _ {os : List ℕ} {m k n next : ℕ} (N : Number os m k n next) where
  split-width : drop m os ≡ take k (drop m os) ++ drop next os
  split-width =
      sym (take-append-drop k (drop m os))
      ∙ ap (λ (l : List ℕ). take k (drop m os) ++ l) (drop-drop k m os ∙ ap (λ (p : ℕ). drop p os) (sym N.after))

  take-width : length (take k (drop m os)) ≡ k
  take-width = length-take-le k (drop m os) (omega (arith, length-drop m os, N.after, N.inside))

  pub tries-next : {i j : ℕ} {ks : List ℕ} → Tries os i (k ∷ j ∷ ks) m → n ≡ half k → Tries os i (j ∷ ks) next
  tries-next {i} {j} {ks} t e =
      record {
        same = t.same ∙ ap (read_by (k ∷ j ∷ ks)) split-width ∙ read-on k j ks (take k (drop m os)) (drop next os) take-width (sym N.is ∙ e);
        from = omega (arith, t.from, N.after);
      }

  pub tries-here : {i j : ℕ} {ks : List ℕ} → Tries os i (k ∷ j ∷ ks) m → (n ≡ half k → ⊥) → read_by widths (drop i os) ≡ got (signed k n) (drop next os)
  tries-here {i} {j} {ks} t e =
      t.same ∙ ap (read_by (k ∷ j ∷ ks)) split-width ∙ read_here k j ks (take k (drop m os)) (drop next os) take-width (λ u. e (N.is ∙ u))
      ∙ ap (λ (p : ℕ). got (signed k p) (drop next os)) (sym N.is)

  pub tries-last : {i : ℕ} → Tries os i (k ∷ []) m → read_by widths (drop i os) ≡ got (signed k n) (drop next os)
  tries-last t =
      t.same ∙ ap (read_by (k ∷ [])) split-width ∙ read-last k (take k (drop m os)) (drop next os) take-width
      ∙ ap (λ (p : ℕ). got (signed k p) (drop next os)) (sym N.is)

pub tries-cut : {os : List ℕ} {i k m : ℕ} {ks : List ℕ} → Tries os i (k ∷ ks) m → 0 < k → length os < m + k → read_by widths (drop i os) ≡ run_out
tries-cut {os} {i} {k} {m} {ks} t o h = t.same ∙ read-cut k ks (drop m os) (omega (arith, length-drop m os))

-- a whole difference has the octets of each width that is tried
pub tries-room : {os : List ℕ} {i k m : ℕ} {ks : List ℕ} → Whole os i → Tries os i (k ∷ ks) m → 0 < k → m + k ≤ length os
tries-room {os} {i} {k} {m} w t o = go (ltb (length os) (m + k)) refl
  where
    go : (b : Bool) → ltb (length os) (m + k) ≡ b → m + k ≤ length os
    go true q = absurd (w (tries-cut t o (ltb-true (length os) (m + k) q)))
    go false q = ltb-false (length os) (m + k) q

-- ---- what is answered

-- the difference that a width other than the last holds
pub took-here : {os : List ℕ} {i m j k n next : ℕ} {ks : List ℕ} {r : ℤ} → Number os m k n next → Tries os i (k ∷ j ∷ ks) m → (n ≡ half k → ⊥)
    → 0 < k → next ≤ i + 15 → n < 256 ^ k → half k ≤ 2 ^ 33 → r ≡ signed k n → Took os i (to_z w64 (of_z w64 r)) next
took-here {i = i} {k = k} {n = n} {next = next} {r = r} N t e o h l b q =
    let s = signed_lt k n o l e in
    let f : mag r < 2 ^ 63 = rw q (omega (arith, mag-le (signed k n))) in
    record {
      difference = signed k n;
      read = tries-here N t e;
      near = to_z-of_z {w = w64} (record { sfits = f }) ∙ q ∙ sym (clamped-near (signed k n) (omega arith));
      ahead = omega (arith, t.from, N.after);
      reach = h;
      inside = N.inside;
    }

-- the difference that the last width holds
pub took-last : {os : List ℕ} {i m k n next : ℕ} {r : ℤ} → Number os m k n next → Tries os i (k ∷ []) m → 0 < k → next ≤ i + 15
    → r ≡ clamped (signed k n) → Took os i (to_z w64 (of_z w64 r)) next
took-last {i = i} {k = k} {n = n} {next = next} {r = r} N t o h q =
    let f : mag r < 2 ^ 63 = rw q (omega (arith, mag-le (clamped (signed k n)), clamped-small (signed k n))) in
    record {
      difference = signed k n;
      read = tries-last N t;
      near = to_z-of_z {w = w64} (record { sfits = f }) ∙ q;
      ahead = omega (arith, t.from, N.after);
      reach = h;
      inside = N.inside;
    }

-- whether the octets do not run out
abbrev Told : Read → Bool → Type 0
Told r b = (b ≡ true → r ≡ run_out → ⊥) × (b ≡ false → r ≡ run_out)

pub told-got : {r : Read} {d : ℤ} {rest : List ℕ} → r ≡ got d rest → Told r true
told-got e = (λ _ c. let z : ◌≡◌ {A = ℕ} 0 1 = cc in omega arith, λ f. never (sym f))

pub told-cut : {r : Read} → r ≡ run_out → Told r false
told-cut e = (λ f. never f, λ _. e)
