use Rattle.std.proofs.Common.{◌+◌, ◌-◌, arith}
use Rattle.cbf_measure.proofs.RangeLaws.{part-words, each-slice, steps-slice}
use Rattle.cbf_measure.proofs.measure.size_of_part.Goals as goal

pub returns-clause-size : goal.returns-clause-size
returns-clause-size c =
    let a = c.args in
    let t = c.typed_words in
    let r = c.size_of_words in
    let w = t.ensures c.if-not-typed_words.false in
    let m = a.k + 128 - (a.k - 1) in
    part-words a.bounds.least a.bounds.greatest a.pixels.now a.k a.n a.last r.result t.new.words (omega arith) (omega arith) c.requires.1
    (c.requires.3 (omega arith)) t.array_long
    (each-slice a.pixels.now (a.k - 1) m 129 a.bounds.least a.bounds.greatest (omega arith) w.0, steps-slice a.pixels.now (a.k - 1) m 128 t.new.words (omega arith) w.1)
    r.ensures.0
