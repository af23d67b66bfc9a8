-- Each turn fills the window again and passes one part of the pixels.
use mathlib.Core.Path.{◌∙◌}
use native.Mathlib.Omega.{arith}
use borrow.Author.Tests.{ne_eqb}
use Rattle.cbf_text.proofs.ByteOffsetTextLaws.{starts, refilled, fillable, ends, ends-not, output, turn-fails, turned}
use Rattle.cbf_text.proofs.byte_offset_text.pass.Goals as goal

pub loop-k-init : goal.loop-k-init
loop-k-init g c =
    let a = c.args in
    let p = c.requires in
    starts a.kind a.file.now a.from a.to a.size a.count g.S.Step.writing a.out.now c.new-w.ensures p.0 p.3

pub part-requires : goal.part-requires
part-requires g c =
    let p = c.requires in
    let f = c.refill.ensures in
    let s = refilled c.loop-k.invariant f in
    (λ e. (s.done.validated e).typed, omega arith, λ e. fillable s f.front (p.4 e).0 (p.4 e).1)

pub returns-in_default : goal.returns-in_default
returns-in_default g c =
    let f = c.refill.ensures in
    let r = turn-fails (refilled c.loop-k.invariant f) f.front c.part.ensures c.in_default.is in
    record { value = r.0; out_after = r.1 }

pub loop-k-preserved : goal.loop-k-preserved
loop-k-preserved g c =
    let f = c.refill.ensures in
    turned (refilled c.loop-k.invariant f) f.front c.part.ensures c.in-Some.is (λ e. (c.requires.4 e).1)

pub returns-then-w-eq0 : goal.returns-then-w-eq0
returns-then-w-eq0 g c =
    let s = c.loop-k.invariant in
    record { value = ends s (omega arith) (omega arith); out_after = output s (omega arith) c.requires.4 }

pub returns-else-w-eq0 : goal.returns-else-w-eq0
returns-else-w-eq0 g c =
    let s = c.loop-k.invariant in
    let h = c.if-w-eq0.false in
    record { value = ne_eqb c.loop-k.w.left 0 h ∙ ends-not s (omega arith) h; out_after = output s (omega arith) c.requires.4 }
