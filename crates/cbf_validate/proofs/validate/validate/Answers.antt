use Rattle.std.proofs.Common.{arith}
use Rattle.cbf_validate.proofs.ValidateLaws.{zero-within, unpacks-not, unpacks-to}
use Rattle.cbf_validate.proofs.validate.validate.Goals as goal

pub validate_part-requires : goal.validate_part-requires
validate_part-requires c = (zero-within c.args.kind, omega arith)

pub returns-in-Some : goal.returns-in-Some
returns-in-Some c = unpacks-to c.args.kind c.args.octets.now c.args.count c.in-Some.all c.in-Some.ensures

pub returns-in-None : goal.returns-in-None
returns-in-None c = unpacks-not c.args.kind c.args.octets.now c.args.count c.in-None.ensures
