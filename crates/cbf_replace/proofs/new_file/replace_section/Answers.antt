-- The section is the only one that is chosen.
use Rattle.std.proofs.Common.{arith, sym, ◌∙◌}
use Rattle.std.proofs.lemmas.Result.{err_from_is_err_and}
use Rattle.cbf_pixels.specs.Pixels.{pack_byte_offset}
use Rattle.cbf_replace.specs.NewFile.{one_replaced}
use Rattle.cbf_replace.proofs.NewFileLaws.{one-rewritable, one-rewritten, err-none, ok-some}
use Rattle.cbf_replace.proofs.NewFileLaws.{wrong-count, pixel-outside, frame-packed, frame-fits}
use Rattle.cbf_replace.proofs.new_file.replace_section.Goals as goal

pub returns-then-frame-d : goal.returns-then-frame-d
returns-then-frame-d c =
    let a = c.args in
    let new = one_replaced a.limit a.file.now a.number (pack_byte_offset a.frame.now) in
    let r = wrong-count a.d a.frame.now new a.out.now (λ e. omega arith) in
    record { answer = rw c.at.ensures r.0; output = r.1 }

pub returns-in_err-size : goal.returns-in_err-size
returns-in_err-size c =
    let a = c.args in
    let new = one_replaced a.limit a.file.now a.number (pack_byte_offset a.frame.now) in
    let p = err_from_is_err_and c.from_residual.result c.from_residual.ensures.1 in
    let k = err-none c.octet_count.result c.at-2.result c.in_err-size.field-0.0 (sym c.ok_or.ensures.value ∙ c.in_err-size.was) in
    let r = pixel-outside a.d a.frame.now new a.out.now (omega arith) (sym k.0 ∙ c.octet_count.ensures) in
    record { answer = rw (p.1, p.2, k.1, c.at-2.ensures) r.0; output = r.1 }

pub rewrite_file-requires : goal.rewrite_file-requires
rewrite_file-requires c =
    let a = c.args in
    let new = one_replaced a.limit a.file.now a.number (pack_byte_offset a.frame.now) in
    let k = ok-some c.octet_count.result c.at-2.result c.in_ok-size.size (sym c.ok_or.ensures.value ∙ c.in_ok-size.was) in
    one-rewritable c.requires.0 a.frame.now (frame-packed a.d a.frame.now new a.out.now (sym k ∙ c.octet_count.ensures))
    (omega arith)

pub returns : goal.returns
returns c =
    let a = c.args in
    let new = one_replaced a.limit a.file.now a.number (pack_byte_offset a.frame.now) in
    let k = ok-some c.octet_count.result c.at-2.result c.in_ok-size.size (sym c.ok_or.ensures.value ∙ c.in_ok-size.was) in
    let r = frame-fits a.d a.frame.now new a.out.now (omega arith) (sym k ∙ c.octet_count.ensures)
    (one-rewritten c.requires.0 a.frame.now c.in_ok-size.size) (c.rewrite_file.ensures.answer, c.rewrite_file.ensures.output) in
    record { answer = r.0; output = r.1 }
