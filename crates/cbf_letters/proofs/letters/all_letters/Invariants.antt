use Rattle.std.proofs.Common.{◌≡◌, true}
use Rattle.cbf_letters.specs.Octets.{LettersOnly}
use Rattle.cbf_letters.proofs.letters.all_letters.Given as goal

-- all says whether the bytes so far are letters
abbrev pub invariant-loop-b : goal.invariant-loop-b
invariant-loop-b l = l.all ≡ true → LettersOnly l.block 0 l.b-index
