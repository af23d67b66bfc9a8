use Rattle.cbf_sums.proofs.PassesLaws.{fails_more}
use Rattle.cbf_validate.proofs.turn.pass_turn.Goals as goal

pub returns-in_err-to : goal.returns-in_err-to
returns-in_err-to c =
    let a = c.args in
    rw c.from_residual.ensures
    (λ tail e. fails_more a.top a.octets.now a.at.biased a.at.next c.plain_run-n.result a.left tail c.plain_run-n.ensures.few
    (c.in_err-to.ensures.stepped tail e))
