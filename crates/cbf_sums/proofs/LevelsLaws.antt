-- The pixels after each octet: near some number, by sums modulo a number, and far from the type's ends. Assumes
-- nothing.
use Rattle.std.proofs.Common.{◌≡◌, ℕ, zero, suc, ◌+◌, ◌-◌, ◌*◌, ◌<◌, ◌≤◌, List, length, get_or, ℤ, pos, ◌+ℤ◌, sym, refl, ap, ◌∙◌, subst, add-one, arith}
use lib.Bits.{bit_xor, xor_lt}
use lib.IntN.{sub_ℕ, +ℤ_comm}
use Rattle.cbf_pixels.specs.Octets.{half, signed}
use Rattle.cbf_octets.specs.Plain.{Plain}
use Rattle.cbf_sums.specs.Passes.{biased_least, Passes}
use Rattle.cbf_sums.specs.Near.{Stays}
use Rattle.cbf_sums.specs.Summing.{Levels}
use Rattle.cbf_sums.specs.Mixed.{raised_to, Walk}
use Rattle.cbf_pixels.proofs.Integers.{subℕ-pos}
use Rattle.cbf_octets.proofs.DifferenceLaws.{extend}
use Rattle.cbf_octets.proofs.PlainLaws.{plain-took}
use Rattle.cbf_sums.proofs.PassesLaws.{passes_none, passes-passes, step_in, sub-sum}
use Rattle.cbf_sums.proofs.ModuloLaws.{level-first, level-low, level-step}

-- ---- plain octets whose pixels are less than 128 above some number

module _ (os : List ℕ) (i n c : ℕ) (levels : List ℕ) (L : Levels 256 os i c n levels) (small : (k : ℕ) → k < n → get_or levels (16 + k) 0 < 128) (start : c < 128)
    (plain : Plain os i n) (inside : i + n ≤ length os) (octet : (k : ℕ) → get_or os k 0 < 256) where
  first : get_or levels (15 + 0) 0 ≡ c
  unfolding half
  first = level-first 1 os i c n levels L small start

  low : (m : ℕ) → m ≤ n → get_or levels (15 + m) 0 < 128
  unfolding half
  low = level-low 1 os i c n levels L small start

  step : (base m : ℕ) → m < n → pos (base + get_or levels (15 + (m + 1)) 0) ≡ pos (base + get_or levels (15 + m) 0) +ℤ signed 1 (get_or os (i + m) 0)
  unfolding half
  step base m h = level-step 1 os i c n levels L small start base m h (octet (i + m))

  near-passes : (top base : ℕ) → biased_least ≤ base → base + 127 ≤ top → (m : ℕ) → m ≤ n → Passes top os (base + c) i m (base + get_or levels (15 + m) 0) (i + m)
  near-passes top base l t zero h =
      let e : i ≡ i + 0 = omega arith in
      subst (Passes top os (base + c) i 0 (base + get_or levels (15 + 0) 0)) e
      (subst (λ (k : ℕ). Passes top os (base + c) i 0 k i) (ap (λ (k : ℕ). base + k) (sym first)) (passes_none top os (base + c) i))
  near-passes top base l t (suc m) h = more (near-passes top base l t m (omega arith))
    where
      more : Passes top os (base + c) i m (base + get_or levels (15 + m) 0) (i + m)
          → Passes top os (base + c) i (suc m) (base + get_or levels (15 + suc m) 0) (i + suc m)
      more P =
          let b = base + get_or levels (15 + m) 0 in
          let b' = base + get_or levels (15 + (m + 1)) 0 in
          let v = low m (omega arith) in
          let v' = low (m + 1) (omega arith) in
          let x : i + m + 1 ≡ i + (m + 1) = omega arith in
          subst (λ (k : ℕ). Passes top os (base + c) i k (base + get_or levels (15 + k) 0) (i + k)) (add-one m)
          (subst (Passes top os (base + c) i (m + 1) b') x
          (passes-passes top os (base + c) i m 1 b (i + m) b' (i + m + 1) P
          (step_in (plain-took os (i + m) (omega arith) (plain m (omega arith))) (omega arith, omega arith) (step base m (omega arith))
          (omega arith, omega arith))))

  pub stays : Stays os i n c (get_or levels (15 + n) 0)
  unfolding Stays
  stays top base l t = near-passes top base l t n (omega arith)

-- ---- numbers of 16 bits whose pixels are less than 32,768 above some number

pub walk-near : (ds : List ℕ) (c : ℕ) (levels : List ℕ) → Levels 65536 ds 16 c 192 levels → ((k : ℕ) → k < 192 → get_or levels (16 + k) 0 < 32768) → c < 32768
    → ((k : ℕ) → k < 208 → get_or ds k 0 < 65536) → (base : ℕ) → Walk ds base (base + 32767) (base + c) (base + get_or levels 207 0)
unfolding half
walk-near ds c levels L small start number base =
    record {
      at = λ j. base + get_or levels (15 + j) 0;
      first = ap (λ (k : ℕ). base + k) (level-first 2 ds 16 c 192 levels L small start);
      last = refl;
      step = λ j h. level-step 2 ds 16 c 192 levels L small start base j h (number (16 + j) (omega arith));
      inside = λ j h. let l = level-low 2 ds 16 c 192 levels L small start j h in (omega arith, omega arith);
    }

-- ---- sums far from the type's ends

pub raised-more : (ds : List ℕ) (n : ℕ) → raised_to ds (n + 1) ≡ raised_to ds n + bit_xor (get_or ds (16 + n) 0) 32768
unfolding raised_to
raised-more ds n = ap (raised_to ds) (add-one n)

module _ (ds : List ℕ) (number : (k : ℕ) → k < 208 → get_or ds k 0 < 65536) where
  raised-small : (k : ℕ) → k < 208 → bit_xor (get_or ds k 0) 32768 < 65536
  raised-small k h = xor_lt 16 (get_or ds k 0) 32768 (omega (arith, number k h)) (omega arith)

  raised-most : (n : ℕ) → n ≤ 192 → raised_to ds n ≤ 65535 * n
  unfolding raised_to
  raised-most zero h = omega arith
  raised-most (suc n) h = omega (arith, raised-most n (omega arith), raised-small (16 + n) (omega arith))

  raised_is : (k : ℕ) → k < 208 → signed 2 (get_or ds k 0) ≡ sub_ℕ (bit_xor (get_or ds k 0) 32768) 32768
  unfolding half
  raised_is k h =
      sym (extend 32768 (get_or ds k 0) (record { exponent = 15; power = refl; small = omega arith; fits = omega (arith, number k h) }) 2 refl)

  rises : (b b' r : ℕ) (d : ℤ) → d ≡ sub_ℕ r 32768 → b' + 32768 ≡ b + r → pos b' ≡ pos b +ℤ d
  rises b b' r d v e =
      let q : r + b - 32768 ≡ b' = omega arith in
      sym
      (ap (λ (z : ℤ). pos b +ℤ z) v ∙ +ℤ_comm (pos b) (sub_ℕ r 32768) ∙ sub-sum r 32768 (r + b) (pos b) refl
      ∙ subℕ-pos (r + b) 32768 (omega arith) ∙ ap pos q)

  raised-none : raised_to ds 0 ≡ 0
  unfolding raised_to
  raised-none = refl

  pub walk-far : (least most b : ℕ) → least + 6291456 ≤ b → b + 6291456 ≤ most → Walk ds least most b (b + raised_to ds 192 - 6291456)
  walk-far least most b l h =
      record {
        at = λ j. b + raised_to ds j - 32768 * j;
        first = omega (arith, raised-none);
        last = refl;
        step = λ j k. rises (b + raised_to ds j - 32768 * j) (b + raised_to ds (j + 1) - 32768 * (j + 1)) (bit_xor (get_or ds (16 + j) 0) 32768)
            (signed 2 (get_or ds (16 + j) 0)) (raised_is (16 + j) (omega arith)) (omega (arith, raised-more ds j));
        inside = λ j k. let m = raised-most j k in (omega arith, omega arith);
      }

-- the same between bounds that are farther apart
pub walk-within : (ds : List ℕ) (least most low high b b' : ℕ) → least ≤ low → high ≤ most → Walk ds low high b b' → Walk ds least most b b'
walk-within ds least most low high b b' l h W =
    record {
      at = W.at;
      first = W.first;
      last = W.last;
      step = W.step;
      inside = λ j k. let i = W.inside j k in (omega (arith, i.0), omega (arith, i.1));
    }

-- the last pixel is between them too
pub walk-between : {ds : List ℕ} {low high b b' : ℕ} → Walk ds low high b b' → (low ≤ b') × (b' ≤ high)
walk-between W = let i = W.inside 192 (omega arith) in (omega (arith, i.0, W.last), omega (arith, i.1, W.last))
