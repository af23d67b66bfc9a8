use Rattle.std.proofs.Common.{◌≡◌, ◌*◌, take}
use Rattle.std.proofs.lemmas.List.Edits.{sets}
use Rattle.cbf_letters.specs.Letters.{sixes_octets}
use Rattle.cbf_letters.proofs.octets.join.Given as goal

abbrev pub invariant-loop-j : goal.invariant-loop-j
invariant-loop-j l = l.out ≡ sets l.initial.out l.at (sixes_octets (take (4 * l.j) l.numbers))
