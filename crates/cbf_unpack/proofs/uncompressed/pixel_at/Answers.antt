-- At each width the number of the octets is read as the type has it.
use mathlib.Core.Path.{refl, sym, ◌∙◌}
use native.Mathlib.Omega.{arith}
use Rattle.cbf_pixels.specs.Octets.{half}
use Rattle.cbf_pixels.proofs.Integers.{held}
use Rattle.cbf_octets.proofs.OctetsLaws.{number-one}
use Rattle.cbf_unpack.proofs.UncompressedLaws.{else-four, pixel-is}
use Rattle.cbf_unpack.proofs.uncompressed.pixel_at.Goals as goal

pub pixel-requires : goal.pixel-requires
pixel-requires c = record { exponent = 7; power = refl; small = omega arith; fits = omega arith }

pub returns-in-1 : goal.returns-in-1
unfolding half
returns-in-1 c =
    let a = c.args in
    held c.pixel.result c.pixel.type_inv
    ∙ c.pixel.ensures 1 refl
    ∙ pixel-is a.signed a.i a.octets.now (c.from.ensures ∙ sym (number-one a.i a.octets.now (omega arith))) c.in-1.is

pub pixel-requires-in-2 : goal.pixel-requires-in-2
pixel-requires-in-2 c = record { exponent = 15; power = refl; small = omega arith; fits = omega (arith, c.le2.ensures.1) }

pub returns-in-2 : goal.returns-in-2
unfolding half
returns-in-2 c =
    let a = c.args in
    held c.pixel-in-2.result c.pixel-in-2.type_inv
    ∙ c.pixel-in-2.ensures 2 refl
    ∙ pixel-is a.signed a.i a.octets.now c.le2.ensures.0 c.in-2.is

pub pixel-requires-in_default : goal.pixel-requires-in_default
pixel-requires-in_default c = record { exponent = 31; power = refl; small = omega arith; fits = omega (arith, c.le4.ensures.1) }

pub returns-in_default : goal.returns-in_default
unfolding half
returns-in_default c =
    let a = c.args in
    held c.pixel-in_default.result c.pixel-in_default.type_inv
    ∙ c.pixel-in_default.ensures 4 refl
    ∙ pixel-is a.signed a.i a.octets.now c.le4.ensures.0 (else-four a.width c.requires.0 (λ e. omega arith) (λ e. omega arith))
