use Rattle.std.proofs.Common.{ℕ, ◌+◌, ◌-◌, ◌^◌, ◌<◌, get_or, length, pos, sym, ap, ◌∙◌, subst, arith, w64, to_z}
use lib.Signed.{mag}
use Rattle.cbf_pixels.proofs.Integers.{held}
use Rattle.cbf_measure.specs.declared.measure.Bounds.{Bounds}
use Rattle.cbf_measure.proofs.PartsLaws.{last-at}
use Rattle.cbf_measure.proofs.WindowLaws.{run-slice}
use Rattle.cbf_measure.proofs.MeasureLaws.{Added, added_more, added_out, all_none, all-inside, all-outside, window-size}
use Rattle.cbf_measure.proofs.measure.octet_count.Goals as goal
use Rattle.cbf_measure.proofs.measure.octet_count.Goals.{then-n-eq0+in_ok-total, else-n-eq0}

pub loop-k-init : goal.loop-k-init
loop-k-init c =
    let b = c.of-bounds.ensures in
    (all_none c.args.kind (ap (λ (b : Bounds). b.least) b) (ap (λ (b : Bounds). b.greatest) b) c.args.pixels.now, omega arith, omega arith)

pub size_of_part-requires : goal.size_of_part-requires
size_of_part-requires c =
    let l = c.loop-k in
    let n = c.part-n.ensures in (
      l.invariant.0.typed,
      omega (arith, n.0),
      n.1,
      λ h. l.invariant.0.ends ∙ last-at (pos 0) c.args.pixels.now 0 l.k (l.k - 1) (omega arith) (omega arith) (omega arith),
    )

pub returns-in_err-total : goal.returns-in_err-total
returns-in_err-total c =
    let b = c.of-bounds.ensures in
    let n = c.part-n in
    c.from_residual.ensures
    ∙ all-outside c.args.kind (ap (λ (b : Bounds). b.least) b) (ap (λ (b : Bounds). b.greatest) b) c.args.pixels.now
    (added_out c.loop-k.invariant.0 n.result c.in_err-total.ensures.size (omega (arith, n.ensures.0)))

pub loop-k-preserved : goal.loop-k-preserved
loop-k-preserved c =
    let l = c.loop-k in
    let ps = c.args.pixels.now in
    let b = c.of-bounds.result in
    let r = c.window_run-n in
    let run = run-slice ps l.k (length ps - l.k) (omega arith) r.ensures in
    let A : Added ps b.least b.greatest l.k c.if-n-eq0.n (to_z w64 l.last-bits) l.total c.if-n-eq0.total
    = elim c.if-n-eq0.branch [
      | then-n-eq0+in_ok-total w ↦
          subst (λ (n : ℕ). Added ps b.least b.greatest l.k n (to_z w64 l.last-bits) l.total c.if-n-eq0.total) (sym w.n-is)
          (record {
            size = w.in_ok-total.field-0;
            takes = w.in_ok-total.ensures.size;
            sum = w.total-is;
            some = w.part-n.ensures.2 (omega arith);
            reach = omega (arith, w.part-n.ensures.0);
            few = w.in_ok-total.ensures.few;
          })
      | else-n-eq0 w ↦
          subst (λ (n : ℕ). Added ps b.least b.greatest l.k n (to_z w64 l.last-bits) l.total c.if-n-eq0.total) (sym w.n-is)
          (record {
            size = r.result;
            takes = window-size l.invariant.0.typed run;
            sum = w.total-is;
            some = omega (arith, w.if-n-eq0.false);
            reach = run.inside;
            few = omega arith;
          })
    ] in
    let i = l.k + c.if-n-eq0.n - 1 in
    let g : mag (get_or ps i (pos 0)) < 2 ^ 63 = omega arith in
    (added_more l.invariant.0 A i (omega arith) _ (held (get_or ps i (pos 0)) g), A.reach, omega (arith, l.invariant.2))

pub returns : goal.returns
returns c =
    let b = c.of-bounds.ensures in
    all-inside c.args.kind (ap (λ (b : Bounds). b.least) b) (ap (λ (b : Bounds). b.greatest) b) c.args.pixels.now c.loop-k.invariant.0 (omega arith)
