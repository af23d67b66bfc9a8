use Rattle.std.proofs.Common.{◌≡◌, ◌+◌, ◌-◌, ◌%◌, ◌<◌, ◌≤◌, ℕ, min, sym, refl, subst, arith}
use Rattle.cbf_octets.proofs.PlainLaws.{plain-part}
use Rattle.cbf_sums.specs.Near.{Stays}
use Rattle.cbf_sums.specs.Passes.{Passes}
use Rattle.cbf_sums.proofs.PassesLaws.{passes_none, passes-passes}
use Rattle.cbf_validate.proofs.validate.pass_near.Goals as goal

-- the next part: how long it is
record Next (n j m : ℕ) : Type 0 where
  blocks : m % 32 ≡ 0
  some : 3 ≤ m
  few : m ≤ 1024
  inside : j + m ≤ n

next : (n j m : ℕ) → n % 32 ≡ 0 → j % 32 ≡ 0 → j < n → m ≡ min (n - j) 1024 → Next n j m
next n j m whole done more e = record { blocks = omega arith; some = omega arith; few = omega arith; inside = omega arith }

pub loop-j-init : goal.loop-j-init
loop-j-init c =
    let a = c.args in
    let e : a.at.next ≡ a.at.next + 0 = omega arith in (
      omega arith,
      refl,
      record {
        between = c.requires.1;
        passes = subst (Passes a.top a.octets.now a.at.biased a.at.next 0 a.at.biased) e (passes_none a.top a.octets.now a.at.biased a.at.next);
        inside = omega (arith, c.requires.2);
      },
    )

pub near-requires : goal.near-requires
near-requires c =
    let a = c.args in
    let p = c.requires in
    let l = c.loop-j in
    let m = c.min-m.result in
    let N = next a.n l.j m p.4 l.invariant.1 c.loop-j-test.true c.min-m.ensures in
    let low = c.base_of-base.ensures.low in
    let high = c.base_of-base.ensures.high in
    (omega (arith, p.5), omega (arith, p.2, N.inside), N.some, N.few, omega arith, plain-part a.octets.now a.at.next l.j a.n m p.3 N.inside)

pub loop-j-preserved : goal.loop-j-preserved
unfolding Stays
loop-j-preserved c =
    let a = c.args in
    let p = c.requires in
    let l = c.loop-j in
    let m = c.min-m.result in
    let N = next a.n l.j m p.4 l.invariant.1 c.loop-j-test.true c.min-m.ensures in
    let base = c.base_of-base.result in
    let B = c.base_of-base.ensures in
    let r = c.in_ok-above.above in
    let S = c.in_ok-above.ensures in
    let greatest : base + 127 ≤ a.top = omega (arith, B.greatest) in
    let from : base + (l.last - base) ≡ l.last = omega (arith, B.low) in
    let e : a.at.next + l.j + m ≡ a.at.next + (l.j + m) = omega arith in
    let more = subst (λ (k : ℕ). Passes a.top a.octets.now k (a.at.next + l.j) m (base + r) (a.at.next + l.j + m)) from (S.1 a.top base B.least greatest) in
    let P = passes-passes a.top a.octets.now a.at.biased a.at.next l.j m l.last (a.at.next + l.j) (base + r) (a.at.next + l.j + m) l.invariant.2.passes more in (
      N.inside,
      omega (arith, l.invariant.1, N.blocks),
      record {
        between = (omega (arith, B.least), omega (arith, S.0, c.from.ensures));
        passes = subst (λ (k : ℕ). Passes a.top a.octets.now a.at.biased a.at.next (l.j + m) (base + k) (a.at.next + (l.j + m))) (sym c.from.ensures)
            (subst (Passes a.top a.octets.now a.at.biased a.at.next (l.j + m) (base + r)) e P);
        inside = omega (arith, p.2, N.inside);
      },
    )
