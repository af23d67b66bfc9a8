use Rattle.std.proofs.Common.{refl}
use Rattle.cbf_house.proofs.HeadLaws.{optional-none, no_line}
use Rattle.cbf_house.proofs.head.optional_line.Goals as goal

pub returns-then-n-eq0 : goal.returns-then-n-eq0
returns-then-n-eq0 c = rw (optional-none c.args.n c.if-n-eq0.true, no_line c.args.name.now) refl
