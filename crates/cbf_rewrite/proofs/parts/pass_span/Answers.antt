-- The part of the file, and then the span.
use Rattle.std.proofs.Common.{◌≡◌, ◌-◌, take, drop, arith, sym}
use lib.Seq.{slice}
use Rattle.cbf_pixels.specs.Pixels.{pack_byte_offset}
use Rattle.cbf_format.specs.House.{house}
use Rattle.cbf_format.proofs.Slices.{slice-part}
use Rattle.cbf_write.proofs.PutLaws.{put_both}
use Rattle.cbf_rewrite.proofs.parts.pass_span.Goals as goal

pub returns-then-writing-clause-out_after : goal.returns-then-writing-clause-out_after
returns-then-writing-clause-out_after c =
    let a = c.args in
    let p = c.requires.0 in
    let before = slice a.from a.s.from a.file.now in
    let span = house a.s.description (pack_byte_offset a.frame.now) in
    let is : take (a.s.from - a.from) (drop a.from a.file.now) ≡ before =
    sym (slice-part a.file.now a.from a.s.from p.ahead (omega (arith, p.span.low, p.span.inside))) in
    let e = c.put_text-boundary.ensures in
    let s = c.put_span.ensures in
    rw c.if-writing.true
    (put_both a.out.now a.at before span (rw is at e.value, rw is at e.out_after) (s.value, s.out_after)).1
