-- Plain octets: octets other than the escape, and runs of them. Assumes nothing.
use Prim.Native.Nat.{ℕ, suc, ◌+◌, ◌-◌, ◌<◌, ◌≤◌}
use native.Mathlib.Omega.{arith}
use mathlib.Core.Path.{◌≡◌, refl, sym, ap, ◌∙◌}
use mathlib.Core.List.{List}
use mathlib.Core.Bool.{Bool, true, false, cond}
use lib.Dec.{ltb}
use lib.ListN.{length, get_or}
use lib.IntN.{pos, negsuc, nat_abs}
use borrow.Author.Tests.{ltb-true, ltb-false}
use Rattle.cbf_pixels.specs.Octets.{half, signed}
use Rattle.cbf_octets.specs.Difference.{Took}
use Rattle.cbf_octets.specs.Plain.{Plain, PlainRun}
use Rattle.cbf_octets.proofs.DifferenceLaws.{clamped-near, one-octet, tries-first, tries-here}

pub signed-small : (n : ℕ) → nat_abs (signed 1 n) ≤ 256
unfolding signed half
signed-small n = go (ltb n 128) refl
  where
    go : (c : Bool) → ltb n 128 ≡ c → nat_abs (cond c (pos n) (negsuc (256 - suc n))) ≤ 256
    go true q = let h = ltb-true n 128 q in omega arith
    go false q = omega arith

pub plain-took : (os : List ℕ) (i : ℕ) → i < length os → (get_or os i 0 ≡ 128 → ⊥) → Took os i (signed 1 (get_or os i 0)) (i + 1)
unfolding half
plain-took os i h n =
    record {
      difference = signed 1 (get_or os i 0);
      read = tries-here (one-octet os i h) (tries-first os i) n;
      near = sym (clamped-near (signed 1 (get_or os i 0)) (let l = signed-small (get_or os i 0) in omega arith));
      ahead = omega arith;
      reach = omega arith;
      inside = omega arith;
    }

-- runs of plain octets, one after the other, and parts of a run
pub plain_more : (os : List ℕ) (i n m : ℕ) → Plain os i n → Plain os (i + n) m → Plain os i (n + m)
plain_more os i n m p q j h = go (ltb j n) refl
  where
    go : (c : Bool) → ltb j n ≡ c → get_or os (i + j) 0 ≡ 128 → ⊥
    go true t = p j (ltb-true j n t)
    go false t =
        let l = ltb-false j n t in
        let x : i + j ≡ i + n + (j - n) = omega arith in
        λ e. q (j - n) (omega arith) (ap (λ (k : ℕ). get_or os k 0) (sym x) ∙ e)

pub plain-part : (os : List ℕ) (i k n m : ℕ) → Plain os i n → k + m ≤ n → Plain os (i + k) m
plain-part os i k n m p h j l e =
    let x : i + (k + j) ≡ i + k + j = omega arith in
    p (k + j) (omega arith) (ap (λ (y : ℕ). get_or os y 0) x ∙ e)

pub run_none : (os : List ℕ) (i limit : ℕ) → i ≤ length os → PlainRun os i limit 0
run_none os i limit h =
    record { plain = λ j l. let y : ⊥ = omega arith in absurd y; few = omega arith; short = omega arith; inside = omega arith; blocks = refl }

pub run_more : (os : List ℕ) (i limit n : ℕ) → limit ≤ 4096 → PlainRun os i limit n → 32 ≤ limit - n → i + n + 32 ≤ length os → Plain os (i + n) 32
    → PlainRun os i limit (n + 32)
run_more os i limit n s R f h q =
    let b = R.blocks in
    let l = R.few in
    record { plain = plain_more os i n 32 R.plain q; few = omega arith; short = omega arith; inside = omega arith; blocks = omega arith }
