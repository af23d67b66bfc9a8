-- with the digits from i on stored, storing those that are left gives all
use Rattle.std.proofs.Common.{◌≡◌, ◌-◌}
use Rattle.std.proofs.lemmas.List.Edits.{sets}
use Rattle.cbf_format.specs.Listing.{printed}
use Rattle.cbf_write.proofs.DigitsLaws.{last_digits}
use Rattle.cbf_write.proofs.digits.put_number.Given as goal

abbrev pub invariant-loop-i : goal.invariant-loop-i
invariant-loop-i l = sets l.out l.at (last_digits (l.i - l.at) l.rest) ≡ sets l.fn.out l.at (printed l.n)
