-- Signed numbers as unsigned ones of 64 bits. Assumes nothing.
use Prim.Native.Nat.{ℕ, suc, ◌-◌, ◌^◌, ◌<◌}
use native.Mathlib.Omega.{arith}
use mathlib.Core.Path.{◌≡◌, refl, sym, ap, ◌∙◌, subst}
use mathlib.Core.Bool.{true, false}
use lib.Dec.{T}
use lib.IntN.{ℤ, pos, negsuc, nat_abs, ◌-ℤ◌}
use lib.Signed.{mag, lt_z, non_neg}
use mir.Syntax.{w32, w64}
use mir.Val.{SFits, Fits}
use borrow.Author.Tests.{ltb-true}
use Rattle.cbf_pixels.specs.Octets.{bits}
use Rattle.cbf_pixels.proofs.Integers.{never, subℕ-pos}

-- a machine's number that is not negative, as an unsigned one
pub unsigned : (z : ℤ) (n : ℕ) → z ≡ pos n → n < 2 ^ 63 → T (non_neg z) × Fits w64 (nat_abs z)
unsigned z n e h = subst (λ (y : ℤ). T (non_neg y) × Fits w64 (nat_abs y)) (sym e) (tt, record { fits = omega arith })

pub unsigned-32 : (z : ℤ) (n : ℕ) → z ≡ pos n → n < 2 ^ 32 → T (non_neg z) × Fits w32 (nat_abs z)
unsigned-32 z n e h = subst (λ (y : ℤ). T (non_neg y) × Fits w32 (nat_abs y)) (sym e) (tt, record { fits = h })

pub fits-pos : (z : ℤ) (n : ℕ) → z ≡ pos n → n < 2 ^ 63 → SFits w64 z
fits-pos z n e h = record { sfits = subst (λ (y : ℤ). mag y < 2 ^ 63) (sym e) h }

-- a difference of eight octets, by its sign
pub below-zero : (d : ℤ) → lt_z d (pos 0) ≡ true → negsuc 0 -ℤ d ≡ pos (mag d)
below-zero (pos n) e = let y : ⊥ = omega (arith, ltb-true n 0 e) in absurd y
below-zero (negsuc n) e = subℕ-pos (suc n) 1 (omega arith) ∙ ap pos (omega arith)

pub below-bits : (d : ℤ) → lt_z d (pos 0) ≡ true → 18446744073709551615 - mag d ≡ bits 8 d
unfolding bits
below-bits (pos n) e = let y : ⊥ = omega (arith, ltb-true n 0 e) in absurd y
below-bits (negsuc n) e = omega arith

pub from_zero : (d : ℤ) → lt_z d (pos 0) ≡ false → d ≡ pos (mag d)
from_zero (pos n) e = refl
from_zero (negsuc n) e = never (sym e)

pub from_bits : (d : ℤ) → lt_z d (pos 0) ≡ false → mag d ≡ bits 8 d
unfolding bits
from_bits (pos n) e = refl
from_bits (negsuc n) e = never (sym e)
