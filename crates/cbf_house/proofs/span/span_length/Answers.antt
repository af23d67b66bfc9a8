use Rattle.std.proofs.Common.{arith}
use Rattle.cbf_house.proofs.SpanLaws.{span-size}
use Rattle.cbf_house.proofs.span.span_length.Goals as goal

pub returns : goal.returns
returns c = (λ os e. omega (arith, span-size c.args.d os e), omega arith)
