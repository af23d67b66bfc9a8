use Rattle.std.proofs.Common.{ℕ, ◌+◌, sym, ◌∙◌, refl, subst, arith}
use Rattle.cbf_sums.specs.Passes.{Passes}
use Rattle.cbf_sums.specs.Mixed.{ends_to}
use Rattle.cbf_sums.proofs.MarksLaws.{marked, addends, some-end}
use Rattle.cbf_sums.proofs.MixedLaws.{each-mark, mixed-passes}
use Rattle.cbf_sums.proofs.LevelsLaws.{walk-between}
use Rattle.cbf_sums.proofs.mixed.pass_mixed.Goals as goal

pub differences_of-requires : goal.differences_of-requires
differences_of-requires c =
    let M = marked _ _ _ c.mark_each.ensures in
    (c.requires.3, c.requires.4, each-mark c.args.octets.now c.args.at.next c.mark_each.new.marks M, refl)

pub last_pixel-requires : goal.last_pixel-requires
last_pixel-requires c =
    let p = c.requires in
    let d = c.differences_of in
    (p.0, p.1, p.2, addends c.args.octets.now c.args.at.next c.mark_each.new.marks d.new.added (λ n. omega (arith, c.type_inv.octets n)) d.ensures)

pub ends-requires : goal.ends-requires
ends-requires c = each-mark c.args.octets.now c.args.at.next c.mark_each.new.marks (marked _ _ _ c.mark_each.ensures)

pub returns : goal.returns
returns c =
    let a = c.args in
    let p = c.requires in
    let os = a.octets.now in
    let ms = c.mark_each.new.marks in
    let M = marked _ _ _ c.mark_each.ensures in
    let apart = c.if-not-apart.ensures refl in
    let ds = c.differences_of.new.added in
    let last = c.in_ok-biased.biased in
    let W = c.in_ok-biased.ensures in
    let whole = c.whole_octets in
    let n = c.from.result in
    let e = c.from.ensures ∙ c.ends.ensures.0 in
    let P = mixed-passes a.top os a.at.next ms ds a.at.biased last M apart c.differences_of.ensures.is (λ k. omega (arith, c.type_inv.octets k)) p.3 p.4 W in
    let Q = subst (λ (k : ℕ). Passes a.top os a.at.biased a.at.next (ends_to ms 192) last (a.at.next + k)) (sym whole.ensures.0) P in (
      omega (arith, some-end ms (each-mark os a.at.next ms M) apart),
      omega (arith, c.ends.ensures.1),
      record {
        between = walk-between W;
        passes = subst (λ (k : ℕ). Passes a.top os a.at.biased a.at.next k last (a.at.next + whole.result)) (sym e) Q;
        inside = omega (arith, whole.ensures.1, p.4);
      },
    )
