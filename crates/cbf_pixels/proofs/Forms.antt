-- The four forms of a difference, and the tests that choose one. Assumes nothing.
use Prim.Native.Nat.{ℕ, ◌<◌, ◌≤◌}
use native.Mathlib.Omega.{arith}
use mathlib.Core.Path.{◌≡◌, refl, sym, ap, ◌∙◌}
use mathlib.Core.Bool.{Bool, true, false}
use mathlib.Core.List.{List, ◌++◌}
use lib.Dec.{ltb}
use lib.ListN.{length}
use lib.IntN.{ℤ, nat_abs}
use borrow.Author.Tests.{ltb-true, ltb-false, lt-ltb, le-ltb}
use mir.Syntax.{w64}
use mir.Val.{to_z, of_z, SFits}
use mir.Facts.{to_z-of_z}
use Rattle.cbf_pixels.specs.Octets.{octets, bits, half}
use Rattle.cbf_pixels.specs.Pixels.{widths, pack_by, pack_difference}

-- the bounds of a difference that a test gave
pub narrow-true : (d : ℤ) (half : ℕ) (b : Bool) → SFits w64 d → b ≡ ltb (nat_abs (to_z w64 (of_z w64 d))) half → b ≡ true → nat_abs d < half
narrow-true d half b f e t = ltb-true (nat_abs d) half (ap (λ (z : ℤ). ltb (nat_abs z) half) (sym (to_z-of_z {w = w64} f)) ∙ sym e ∙ t)

pub narrow-false : (d : ℤ) (half : ℕ) (b : Bool) → SFits w64 d → b ≡ ltb (nat_abs (to_z w64 (of_z w64 d))) half → b ≡ false → half ≤ nat_abs d
narrow-false d half b f e t = ltb-false (nat_abs d) half (ap (λ (z : ℤ). ltb (nat_abs z) half) (sym (to_z-of_z {w = w64} f)) ∙ sym e ∙ t)

-- ---- the octets xs of d, of which there are n

pub record Form (d : ℤ) (n : ℕ) (xs : List ℕ) : Type 0 where
  pub is : pack_difference d ≡ xs
  pub long : length xs ≡ n

pub form1 : (d : ℤ) → nat_abs d < 128 → Form d 1 (octets 1 (bits 1 d))
unfolding pack_difference widths pack_by half octets
form1 d h = record { is = rw (lt-ltb (nat_abs d) 128 h); long = refl }

pub form2 : (d : ℤ) → 128 ≤ nat_abs d → nat_abs d < 32768 → Form d 3 (octets 1 128 ++ octets 2 (bits 2 d))
unfolding pack_difference widths pack_by half octets
form2 d g h = record { is = rw (le-ltb (nat_abs d) 128 g, lt-ltb (nat_abs d) 32768 h); long = refl }

pub form4 : (d : ℤ) → 32768 ≤ nat_abs d → nat_abs d < 2147483648 → Form d 7 (octets 1 128 ++ octets 2 32768 ++ octets 4 (bits 4 d))
unfolding pack_difference widths pack_by half octets
form4 d g h =
    record {
      is = rw (le-ltb (nat_abs d) 128 (omega arith), le-ltb (nat_abs d) 32768 g, lt-ltb (nat_abs d) 2147483648 h);
      long = refl;
    }

pub form8 : (d : ℤ) → 2147483648 ≤ nat_abs d → Form d 15 (octets 1 128 ++ octets 2 32768 ++ octets 4 2147483648 ++ octets 8 (bits 8 d))
unfolding pack_difference widths pack_by half octets
form8 d g =
    record {
      is = rw (le-ltb (nat_abs d) 128 (omega arith), le-ltb (nat_abs d) 32768 (omega arith), le-ltb (nat_abs d) 2147483648 g);
      long = refl;
    }

pub form-size : {d : ℤ} {n : ℕ} {xs : List ℕ} → Form d n xs → n ≡ length (pack_difference d)
form-size F = sym (ap length F.is ∙ F.long)
