-- `digits::digit_count` meets its contract: the loop has counted k digits. Assumes nothing.
use native.Mathlib.Omega.{arith}
use Rattle.cbf_write.proofs.DigitsLaws.{Counted, counted_none, counted-more, counted-all}
use Rattle.cbf_write.proofs.digits.digit_count.Statement.{statement}
use Rattle.cbf_write.proofs.digits.digit_count.Tie as tie

abbrev invariant-loop : tie.invariant-loop-rest
invariant-loop n rest₀ k₀ rest k = Counted 20 n k rest

abbrev decreases-loop : tie.decreases-loop-rest
decreases-loop n rest₀ k₀ rest k = rest

loop-holds : tie.Need-loop-rest-init invariant-loop decreases-loop
loop-holds c = counted_none 19 c.args.n (omega arith)

loop-again : tie.Need-loop-rest-preserved invariant-loop decreases-loop
loop-again c = counted-more c.loop-rest.invariant c.loop-rest-test.true

returns : tie.Need-returns invariant-loop decreases-loop
returns c = counted-all c.loop-rest.invariant (omega arith)

pub digit_count_spec : {M : Type 1} → statement M
digit_count_spec =
    tie.close
    (tie.spec
    invariant-loop decreases-loop loop-holds (λ c. omega arith) (λ c. omega arith) loop-again returns)
