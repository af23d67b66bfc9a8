-- In a signed type the number is read in two's complement.
use Prim.Native.Nat.{◌^◌, ◌<◌, ◌≤◌}
use mathlib.Core.Bool.{Bool}
use mathlib.Core.Path.{sym, ap, ◌∙◌}
use native.Mathlib.Omega.{arith}
use native.Mathlib.Nat.{pow-le-pow_right}
use mir.Facts.{to_z-of_z, to_z_pos}
use mir.Syntax.{w64}
use Rattle.cbf_pixels.specs.Uncompressed.{pixel_of}
use Rattle.cbf_unpack.proofs.uncompressed.pixel.Goals as goal

pub returns-then-signed : goal.returns-then-signed
unfolding pixel_of
returns-then-signed c k e =
    to_z-of_z {w = w64} (record { sfits = c.extended.type_inv }) ∙ c.extended.ensures k e
    ∙ ap (λ (b : Bool). pixel_of b k c.args.n) (sym c.if-signed.true)

pub returns-else-signed : goal.returns-else-signed
unfolding pixel_of
returns-else-signed c k e =
    let H = c.requires in
    let p : 2 ^ H.exponent ≤ 2 ^ 31 = pow-le-pow_right (omega arith) H.small in
    let small : c.args.n < 2 ^ 63 = omega (arith, H.power, H.fits) in
    to_z_pos w64 small ∙ ap (λ (b : Bool). pixel_of b k c.args.n) (sym c.if-signed.false)
