use mir.Syntax.{w64}
use mir.Facts.{to_z-of_z}
use native.Mathlib.Omega.{arith}
use mathlib.Core.Path.{◌∙◌}
use Rattle.cbf_octets.proofs.DifferenceLaws.{xor-small, half-small, extended_fits, extended-is}
use Rattle.cbf_octets.proofs.difference.extended.Statement.{statement}
use Rattle.cbf_octets.proofs.difference.extended.Tie as tie

cast-result : tie.Need-overflow_cast-result
cast-result c = record { sfits = omega (arith, xor-small c.args.half c.args.n c.requires) }

cast-result-2 : tie.Need-overflow_cast-result-2
cast-result-2 c = record { sfits = omega (arith, half-small c.args.half c.args.n c.requires) }

sub-result : tie.Need-overflow_sub-result
sub-result c = record { sfits = extended_fits c.args.half c.args.n c.requires }

returns : tie.Need-returns
returns c = λ k e. to_z-of_z {w = w64} (sub-result c) ∙ extended-is c.args.half c.args.n c.requires k e

pub extended_spec : {M : Type 1} → statement M
extended_spec = tie.close (tie.spec cast-result cast-result-2 sub-result returns)
