-- `put_little`: i octets are stored, and those of rest are left.
use Rattle.cbf_catalogue.proofs.EntryLaws.{Stored}
use Rattle.cbf_catalogue.proofs.little.put_little.Given as goal

abbrev pub invariant-loop-i : goal.invariant-loop-i
invariant-loop-i l = Stored l.initial.out l.at l.k l.n l.out l.i l.rest
