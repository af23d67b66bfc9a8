use Rattle.std.proofs.Common.{sym, refl, ◌∙◌, ap, ℕ, arith}
use Rattle.std.proofs.Math.IntN.{sub_ℕ}
use lib.Bits.{xor_lt}
use Rattle.cbf_pixels.specs.Octets.{half}
use Rattle.cbf_octets.proofs.DifferenceLaws.{extend}
use Rattle.cbf_validate.proofs.validate.raised.Goals as goal

pub returns : goal.returns
unfolding half
returns c =
    let o = c.args.o in
    let e = extend 128 o (record { exponent = 7; power = refl; small = omega arith; fits = omega arith }) 1 refl in
    (omega (arith, c.from.ensures, xor_lt 8 o 128 (omega arith) (omega arith)), sym e ∙ ap (λ (n : ℕ). sub_ℕ n 128) (sym c.from.ensures))
