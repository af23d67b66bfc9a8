use Rattle.cbf_measure.proofs.RangeLaws.{held-within}
use Rattle.cbf_measure.proofs.measure.typed_words.Goals as goal

pub returns : goal.returns
returns c = λ e. let w = c.words_within.ensures e in (held-within c.requires.0 c.args.pixels.now 0 129 w.0, w.1)
