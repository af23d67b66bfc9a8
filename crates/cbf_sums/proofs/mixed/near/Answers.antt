use Rattle.std.proofs.Common.{replicate, arith}
use Rattle.cbf_sums.proofs.MarksLaws.{zeros}
use Rattle.cbf_sums.proofs.ModuloLaws.{windows-one, windows-twice, levels-start}
use Rattle.cbf_sums.proofs.LevelsLaws.{walk-near}
use Rattle.cbf_sums.proofs.mixed.near.Goals as goal

pub returns : goal.returns
returns c =
    let ds = c.args.added.now in
    let A = c.requires.1 in
    let pairs = c.add_back in
    let fours = c.add_back-2 in
    let L = c.levels-all in
    let one = windows-one 65536 ds 192 A.none in
    let two = windows-twice 65536 ds 16 1 192 208 ds (replicate 208 0) pairs.new.sums (omega arith) one zeros pairs.ensures in
    let four = windows-twice 65536 ds 16 2 192 208 pairs.new.sums ds fours.new.sums (omega arith) two A.none fours.ensures in
    let start = levels-start 65536 ds 16 c.args.c 208 (omega (arith, c.requires.0)) (omega arith) in (
      omega (arith, L.ensures.by_index_2 191 (omega arith)),
      walk-near ds c.args.c L.new.pixels (L.ensures.by_index ds c.args.c four start)
          (λ k b. omega (arith, L.ensures.by_index_2 k b)) c.requires.0 A.number,
    )
