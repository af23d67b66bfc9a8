use Rattle.std.proofs.Common.{◌≡◌, ℕ, ◌+◌, ◌-◌, sym, ◌∙◌, subst, arith}
use Rattle.cbf_sums.specs.Passes.{biased_least}
use Rattle.cbf_sums.specs.Mixed.{Walk}
use Rattle.cbf_sums.proofs.LevelsLaws.{walk-far, walk-within}
use Rattle.cbf_sums.proofs.mixed.last_pixel.Goals as goal

pub returns-then-is_far : goal.returns-then-is_far
returns-then-is_far c =
    let a = c.args in
    let f = c.is_far.ensures c.if-is_far.true in
    subst (λ (r : ℕ). Walk a.added.now biased_least a.top a.biased (a.biased + r - 6291456)) (sym (c.from.ensures ∙ c.total.ensures.0))
    (walk-far a.added.now c.requires.3.number biased_least a.top a.biased f.0 f.1)

pub returns : goal.returns
returns c =
    let a = c.args in
    let base = c.base_of-base.result in
    let b = c.base_of-base.ensures in
    let above = c.in_ok-above.above in
    let e : base + (a.biased - base) ≡ a.biased = omega (arith, b.low) in
    let W = walk-within a.added.now biased_least a.top base (base + 32767) (base + (a.biased - base)) (base + above) b.least (omega (arith, b.greatest))
    (c.in_ok-above.ensures.1 base) in
    subst (λ (x : ℕ). Walk a.added.now biased_least a.top x (base + c.from-2.result)) e
    (subst (λ (n : ℕ). Walk a.added.now biased_least a.top (base + (a.biased - base)) (base + n)) (sym c.from-2.ensures) W)
