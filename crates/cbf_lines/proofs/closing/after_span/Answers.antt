-- The line end, and then the line of `;` and blanks.
use Rattle.std.proofs.Common.{◌∙◌}
use Rattle.cbf_lines.proofs.ClosingLaws.{line-end-inside, after-span-missing, after-span-next}
use Rattle.cbf_lines.proofs.closing.after_span.Goals as goal

pub returns-in_err-line_end : goal.returns-in_err-line_end
returns-in_err-line_end c =
    let a = c.args in
    c.from_residual.ensures ∙ after-span-missing a.file.now a.limit a.at c.in_err-line_end.ensures

pub semicolon_line-requires : goal.semicolon_line-requires
semicolon_line-requires c = line-end-inside c.args.file.now c.args.at c.requires c.in_ok-line_end.ensures

pub returns : goal.returns
returns c =
    let a = c.args in
    c.semicolon_line.ensures ∙ after-span-next a.file.now a.limit a.at c.in_ok-line_end.ensures
