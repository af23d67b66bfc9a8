use Rattle.std.proofs.Common.{◌∙◌, w64}
use mir.Facts.{to_z-of_z}
use Rattle.cbf_validate.proofs.ValidateLaws.{pixel-is, pixel-fits}
use Rattle.cbf_validate.proofs.validate.pixel_of.Goals as goal

pub returns : goal.returns
returns c =
    let a = c.args in
    let e = c.biased_zero.ensures in
    to_z-of_z {w = w64} (record { sfits = pixel-fits a.kind a.biased c.biased_zero.result c.requires e })
    ∙ pixel-is a.kind a.biased c.biased_zero.result c.requires e
