use Rattle.std.proofs.Common.{◌≡◌, ℕ, ◌+◌, ◌*◌, subst, arith}
use Rattle.cbf_sums.specs.Passes.{biased_least}
use Rattle.cbf_sums.proofs.PassesLaws.{top_small}
use Rattle.cbf_validate.specs.Validate.{Adds}
use Rattle.cbf_validate.proofs.ValidateLaws.{adds_none, adds-adds, adds-summed, summed-to, summed-not}
use Rattle.cbf_validate.proofs.validate.pass_32.Goals as goal

pub loop-j-init : goal.loop-j-init
loop-j-init c = let a = c.args in adds_none a.octets.now a.at.biased biased_least a.at.next (omega (arith, c.requires.2))

pub add_four-s-requires : goal.add_four-s-requires
add_four-s-requires c =
    let p = c.requires in
    let I = c.loop-j.invariant in
    let low = I.low in
    let high = I.high in
    let reach = I.reach in
    let small = top_small c.args.top p.0 in
    (omega (arith, p.2), (omega (arith, p.1.0), omega (arith, p.1.1)))

pub loop-j-preserved : goal.loop-j-preserved
loop-j-preserved c =
    let a = c.args in
    let l = c.loop-j in
    let r = c.add_four-s.result in
    let e : 4 * l._j + 4 ≡ 4 * (l._j + 1) = omega arith in
    subst (λ (n : ℕ). Adds a.octets.now n a.at.biased biased_least a.at.next r.to.biased r.all r.to.next) e
    (adds-adds a.octets.now (4 * l._j) 4 a.at.biased biased_least a.at.next l.s.to.biased l.s.all l.s.to.next r.to.biased r.all r.to.next
    l.invariant c.add_four-s.ensures)

pub returns-then-top-s : goal.returns-then-top-s
returns-then-top-s c =
    let a = c.args in
    let p = c.requires in
    let l = c.loop-j in
    let n = 4 * l._j in
    summed-not a.top a.octets.now a.at.biased a.at.next n l.s.to.biased l.s.all l.s.to.next 32
    (adds-summed a.top a.octets.now a.at.biased a.at.next n l.s.to.biased l.s.all l.s.to.next p.0 p.1 l.invariant) c.if-top-s.true (omega arith)

pub returns-else-top-s : goal.returns-else-top-s
returns-else-top-s c =
    let a = c.args in
    let p = c.requires in
    let s = c.loop-j.s in
    let e : 4 * c.loop-j._j ≡ 32 = omega arith in
    let A = subst (λ (n : ℕ). Adds a.octets.now n a.at.biased biased_least a.at.next s.to.biased s.all s.to.next) e c.loop-j.invariant in
    summed-to a.top a.octets.now a.at.biased a.at.next 32 s.to.biased s.all s.to.next
    (adds-summed a.top a.octets.now a.at.biased a.at.next 32 s.to.biased s.all s.to.next p.0 p.1 A) c.if-top-s.false A.inside
