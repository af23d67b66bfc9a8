-- Each goal is a law of the headers that start at a place.
use Rattle.std.proofs.Common.{rules, ◌≡◌, sym, ap, ◌∙◌}
use Rattle.std.specs.Prelude.{Ok}
use Rattle.std.proofs.lemmas.Result.{err_from_is_err_and, MatchResult-weaker}
use Rattle.cbf_headers.proofs.SectionHeadersLaws.{read_as, read-refused, headers-stopped, headers-here, section-refused}
use Rattle.cbf_headers.proofs.SectionHeadersLaws.{section-found}
use Rattle.cbf_headers.proofs.section_headers.section_headers.Goals as goal

pub returns-in_err-end : goal.returns-in_err-end
returns-in_err-end c =
    let a = c.args in
    let p = err_from_is_err_and c.from_residual.result c.from_residual.ensures.1 in
    rw (p.1, p.2) (headers-stopped a.file.now a.at a.limit _ c.in_err-end.ensures)

pub judge_headers-requires : goal.judge_headers-requires
judge_headers-requires c = let a = c.args in headers-here a.file.now a.at a.limit _ c.in_ok-end.ensures

pub returns-in_err-values : goal.returns-in_err-values
returns-in_err-values c =
    let a = c.args in
    let p = err_from_is_err_and c.from_residual-in_err-values.result c.from_residual-in_err-values.ensures.1 in
    let r = c.judge_headers.result in
    rw (p.1, p.2)
    (section-refused a.file.now a.at a.limit _ c.in_ok-end.ensures r
    (MatchResult-weaker r c.in_err-values.ensures.cases (λ x q. cc) (λ e q. search rules))
    c.judge_headers.ensures.judged)

pub returns-in_err-description : goal.returns-in_err-description
returns-in_err-description c =
    let a = c.args in
    let p = err_from_is_err_and c.from_residual-in_err-description.result
    c.from_residual-in_err-description.ensures.1 in
    let r = c.describe.result in
    let v : c.judge_headers.result ≡ Ok c.in_ok-values.values = search rules in
    rw (p.1, p.2)
    (read-refused c.in_ok-end.end.empty c.in_ok-end.end.next r
    (MatchResult-weaker r c.in_err-description.ensures.cases (λ x q. cc) (λ e q. search rules))
    ∙ section-found a.file.now a.at a.limit _ c.in_ok-end.ensures (λ g. sym v ∙ c.judge_headers.ensures.judged g) r
    c.describe.ensures)

pub returns : goal.returns
returns c =
    let a = c.args in
    let v : c.judge_headers.result ≡ Ok c.in_ok-values.values = search rules in
    let w : c.describe.result ≡ Ok c.in_ok-description.description = search rules in
    sym (ap (read_as c.in_ok-end.end.empty c.in_ok-end.end.next) w)
    ∙ section-found a.file.now a.at a.limit _ c.in_ok-end.ensures (λ g. sym v ∙ c.judge_headers.ensures.judged g)
    c.describe.result c.describe.ensures
