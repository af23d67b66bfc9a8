use Rattle.std.proofs.Common.{◌<◌, length, arith}
use Rattle.cbf_house.proofs.HeadLaws.{texts-more, texts-none, no_piece, written_none, written-more, written_all, next_fits}
use Rattle.cbf_house.proofs.head.put_head.Goals as goal

pub loop-piece-init : goal.loop-piece-init
loop-piece-init c = rw c.head-piece-items.ensures.text (written_none c.requires)

pub put-end-requires : goal.put-end-requires
put-end-requires c =
    let ps = c.head-piece-items.result in
    let k = c.loop-piece.piece-index in
    let within : k < length ps = omega arith in
    next_fits c.loop-piece.invariant _ _ (texts-more ps k no_piece within)

pub loop-piece-preserved : goal.loop-piece-preserved
loop-piece-preserved c =
    let ps = c.head-piece-items.result in
    let k = c.loop-piece.piece-index in
    let within : k < length ps = omega arith in
    written-more c.loop-piece.invariant _ _ (texts-more ps k no_piece within) c.put-end.ensures.value c.put-end.ensures.out_after

pub returns : goal.returns
returns c =
    let w = written_all c.loop-piece.invariant (texts-none c.head-piece-items.result c.loop-piece.piece-index (omega arith)) in
    record { value = w.0; out_after = w.1 }
