-- Packing writes the fewest octets that are read as the same difference, and no other octets are as few. Assumes
-- nothing.
use Prim.Native.Nat.{ℕ, ◌+◌, ◌<◌, ◌≤◌}
use native.Mathlib.Omega.{arith}
use mathlib.Core.Path.{◌≡◌, refl, sym, ap, ap₂, ◌∙◌, subst}
use mathlib.Core.List.{List, [], ◌∷◌, ◌++◌, append_assoc}
use mathlib.Core.Bool.{Bool, true, false, cond}
use lib.Dec.{ltb, leb, eqb}
use lib.ListN.{length, take, drop, length-append, length-drop, take-append-drop}
use lib.Seq.{length-take-le}
use lib.IntN.{ℤ, nat_abs}
use borrow.Author.Tests.{lt-ltb, leb-true, eqb-true, eqb-false}
use Rattle.cbf_pixels.specs.Octets.{number, octets, half, signed, bits, Octets}
use Rattle.cbf_pixels.specs.Pixels.{run_out, got, read_by, pack_by}
use Rattle.cbf_pixels.proofs.Numbers.{length-octets, octets-drop, bits-signed, signed_lt, taken-lt}
use Rattle.cbf_pixels.proofs.Numbers.{octets-taken}

-- xs, followed by rest, is no longer than os, and as long only where it is os
pub record Least (xs rest os : List ℕ) : Type 0 where
  pub few : length xs + length rest ≤ length os
  pub same : length xs + length rest ≡ length os → xs ++ rest ≡ os
  pub rest_octets : Octets rest

-- each width has an octet
abbrev pub Wide : List ℕ → Type 0
Wide [] = Unit {0}
Wide (k ∷ ks) = (0 < k) × Wide ks

written : (k : ℕ) {os : List ℕ} → k ≤ length os → Octets os → octets k (bits k (signed k (number (take k os)))) ≡ take k os
written k {os} h r = ap (octets k) (bits-signed k (number (take k os)) (taken-lt k h r)) ∙ octets-taken k h r

whole : (k : ℕ) (xs : List ℕ) {os : List ℕ} → k ≤ length os → Octets os → xs ≡ take k os → Least xs (drop k os) os
whole k xs {os} h r e =
    record {
      few = omega (arith, ap length e, length-take-le k os h, length-drop k os);
      same = λ _. ap (λ (l : List ℕ). l ++ drop k os) e ∙ take-append-drop k os;
      rest_octets = octets-drop k r;
    }

some_octet : (ks : List ℕ) (d : ℤ) → Wide ks → length (pack_by ks d) ≡ 0 → ks ≡ []
unfolding pack_by
some_octet [] d w e = refl
some_octet (k ∷ []) d w e = let z : ⊥ = omega (arith, length-octets k (bits k d)) in absurd z
some_octet (k ∷ j ∷ ks) d w e = go (ltb (nat_abs d) (half k)) e
  where
    go : (b : Bool) → length (cond b (octets k (bits k d)) (octets k (half k) ++ pack_by (j ∷ ks) d)) ≡ 0 → k ∷ j ∷ ks ≡ []
    go true q = let z : ⊥ = omega (arith, length-octets k (bits k d)) in absurd z
    go false q =
        let z : ⊥ = omega (arith, length-octets k (half k), length-append (octets k (half k)) (pack_by (j ∷ ks) d)) in
        absurd z

-- one escape passed: what the next_pixel widths give, and the escape before it
passed : (k j : ℕ) (ks : List ℕ) (d : ℤ) (rest : List ℕ) {os : List ℕ} → Wide (k ∷ j ∷ ks) → k ≤ length os → Octets os → number (take k os) ≡ half k
    → Least (pack_by (j ∷ ks) d) rest (drop k os) → Least (pack_by (k ∷ j ∷ ks) d) rest os
unfolding pack_by
passed k j ks d rest {os} w h r n ih = go (ltb (nat_abs d) (half k))
  where
    esc : octets k (half k) ≡ take k os
    esc = ap (octets k) (sym n) ∙ octets-taken k h r

    more : length (pack_by (j ∷ ks) d) ≡ 0 → ⊥
    more e = let q = ap length (some_octet (j ∷ ks) d w.1 e) in omega arith

    go : (b : Bool) → Least (cond b (octets k (bits k d)) (octets k (half k) ++ pack_by (j ∷ ks) d)) rest os
    go true =
        let l = length-octets k (bits k d) in
        let dl = length-drop k os in
        let f = ih.few in
        record {
          few = omega arith;
          same = λ e. absurd (more (omega arith));
          rest_octets = ih.rest_octets;
        }
    go false =
        let l = length-octets k (half k) in
        let dl = length-drop k os in
        let f = ih.few in
        let a = length-append (octets k (half k)) (pack_by (j ∷ ks) d) in
        record {
          few = omega arith;
          same = λ e. append_assoc (octets k (half k)) (pack_by (j ∷ ks) d) rest ∙ ap₂ ◌++◌ esc (ih.same (omega arith)) ∙ take-append-drop k os;
          rest_octets = ih.rest_octets;
        }

pub read-least : (ks : List ℕ) (d : ℤ) (rest os : List ℕ) → Wide ks → Octets os → read_by ks os ≡ got d rest → Least (pack_by ks d) rest os
unfolding read_by pack_by
read-least [] d rest os w r e = let z : ◌≡◌ {A = ℕ} 0 1 = cc in let y : ⊥ = omega arith in absurd y
read-least (k ∷ []) d rest os w r e = go (leb k (length os)) refl e
  where
    go : (b : Bool) → leb k (length os) ≡ b → cond b (got (signed k (number (take k os))) (drop k os)) run_out ≡ got d rest → Least (pack_by (k ∷ []) d) rest os
    go true q e' =
        let h = leb-true k (length os) q in
        let dd : signed k (number (take k os)) ≡ d = cc in
        let dr : drop k os ≡ rest = cc in
        subst (λ (l : List ℕ). Least (octets k (bits k d)) l os) dr
        (whole k (octets k (bits k d)) h r (ap (λ (z : ℤ). octets k (bits k z)) (sym dd) ∙ written k h r))
    go false q e' = let z : ◌≡◌ {A = ℕ} 0 1 = cc in let y : ⊥ = omega arith in absurd y
read-least (k ∷ j ∷ ks) d rest os w r e = go (leb k (length os)) refl (eqb (number (take k os)) (half k)) refl e
    (λ h. read-least (j ∷ ks) d rest (drop k os) w.1 (octets-drop k r) h)
  where
    go : (b : Bool) → leb k (length os) ≡ b → (b' : Bool) → eqb (number (take k os)) (half k) ≡ b'
        → cond b (cond b' (read_by (j ∷ ks) (drop k os)) (got (signed k (number (take k os))) (drop k os))) run_out ≡ got d rest
        → (read_by (j ∷ ks) (drop k os) ≡ got d rest → Least (pack_by (j ∷ ks) d) rest (drop k os)) → Least (pack_by (k ∷ j ∷ ks) d) rest os
    go true q true q' e' ih = passed k j ks d rest w (leb-true k (length os) q) r (eqb-true (number (take k os)) (half k) q') (ih e')
    go true q false q' e' ih =
        let h = leb-true k (length os) q in
        let dd : signed k (number (take k os)) ≡ d = cc in
        let dr : drop k os ≡ rest = cc in
        let s : nat_abs (signed k (number (take k os))) < half k = signed_lt k (number (take k os)) w.0
        (taken-lt k h r) (eqb-false (number (take k os)) (half k) q') in
        let s' : nat_abs d < half k = subst (λ (z : ℤ). nat_abs z < half k) dd s in
        subst (λ (l : List ℕ). Least (pack_by (k ∷ j ∷ ks) d) l os) dr
        (whole k (pack_by (k ∷ j ∷ ks) d) h r (rw (lt-ltb (nat_abs d) (half k) s') (ap (λ (z : ℤ). octets k (bits k z)) (sym dd) ∙ written k h r)))
    go false q b' q' e' ih = let z : ◌≡◌ {A = ℕ} 0 1 = cc in let y : ⊥ = omega arith in absurd y
