use Rattle.std.proofs.Common.{◌≡◌}
use Rattle.std.proofs.lemmas.List.Edits.{sets}
use Rattle.cbf_letters.specs.Letters.{sixes}
use Rattle.cbf_letters.proofs.LettersLaws.{finished}
use Rattle.cbf_letters.proofs.letters.numbers_of.Given as goal

-- the numbers written and those left are all of them
abbrev pub invariant-loop-j : goal.invariant-loop-j
invariant-loop-j l = finished l.text l.numbers l.j ≡ sets l.initial.numbers 0 (sixes l.text)
