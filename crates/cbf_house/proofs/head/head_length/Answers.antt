use Rattle.std.proofs.Common.{◌<◌, length, arith, ap}
use Rattle.cbf_house.proofs.HeadLaws.{texts-length, texts-none, head-short}
use Rattle.cbf_house.proofs.head.head_length.Goals as goal

pub loop-piece-init : goal.loop-piece-init
loop-piece-init c = omega (arith, ap length c.head-piece-items.ensures.text)

pub length-length-requires : goal.length-length-requires
length-length-requires c =
    let ps = c.head-piece-items in
    let within : c.loop-piece.piece-index < length ps.result = omega arith in
    omega (arith, texts-length ps.result c.loop-piece.piece-index within, head-short c.args.d c.args.size)

pub overflow_add-length : goal.overflow_add-length
overflow_add-length c =
    let ps = c.head-piece-items in
    let within : c.loop-piece.piece-index < length ps.result = omega arith in
    omega (arith, texts-length ps.result c.loop-piece.piece-index within, head-short c.args.d c.args.size)

pub loop-piece-preserved : goal.loop-piece-preserved
loop-piece-preserved c =
    let ps = c.head-piece-items in
    let within : c.loop-piece.piece-index < length ps.result = omega arith in
    omega (arith, texts-length ps.result c.loop-piece.piece-index within)

pub returns : goal.returns
returns c =
    let ps = c.head-piece-items in
    let none = ap length (texts-none ps.result c.loop-piece.piece-index (omega arith)) in
    (omega (arith, none), omega (arith, none, head-short c.args.d c.args.size))
