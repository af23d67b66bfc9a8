use Rattle.std.proofs.Common.{◌+◌, ◌-◌, ◌<◌, ◌≤◌, length, refl, arith, w64, to_z}
use Rattle.cbf_measure.proofs.WindowLaws.{run-slice}
use Rattle.cbf_pack.specs.Write.{WroteOver}
use Rattle.cbf_pack.proofs.WriteLaws.{slice-writable, rest-over, slice-window, slice-long, slice-octets, InWindow, window-room, window-wrote, all-writable, all-wrote}
use Rattle.cbf_pack.proofs.DenseLaws.{along-none, along-same, along-writable, along-more, along-end, over_none, over-as}
use Rattle.cbf_pack.proofs.write.write_octets.Goals as goal
use Rattle.cbf_pack.proofs.write.write_octets.Goals.{then-n-eq0, else-n-eq0}

pub loop-k-init : goal.loop-k-init
loop-k-init c = along-none refl refl

pub write_part-next-requires : goal.write_part-next-requires
write_part-next-requires c =
    let ps = c.args.pixels.now in
    let l = c.loop-k in
    let p = c.part-n.ensures in
    let w = all-writable ps c.args.out.now c.args.start c.requires.0 c.requires.1 in
    let v = along-writable w l.invariant (length ps - l.k) l.k (omega arith) (omega arith) in
    let m = length ps - l.k in
    (refl, p.1, omega (arith, p.0, slice-long ps l.k m refl v.pixels), slice-writable ps l.k m refl v.pixels v)

pub write_run-requires : goal.write_run-requires
write_run-requires c =
    let ps = c.args.pixels.now in
    let l = c.loop-k in
    let n = c.window_run-n in
    let run = run-slice ps l.k (length ps - l.k) (omega arith) n.ensures in
    let w = all-writable ps c.args.out.now c.args.start c.requires.0 c.requires.1 in
    let v = along-writable w l.invariant n.result l.k (omega arith) (omega (arith, run.inside)) in
    let r : InWindow ps l.k (to_z w64 l.last-bits) n.result = record { small = v.small; before = v.before; run = run } in
    let m = l.k + n.result - l.k in
    let h = run.inside in
    (slice-window ps l.k m (omega arith) h r, omega (arith, window-room r v, slice-long ps l.k m (omega arith) h))

pub overflow_add-at : goal.overflow_add-at
overflow_add-at c =
    let ps = c.args.pixels.now in
    let l = c.loop-k in
    let n = c.window_run-n in
    let run = run-slice ps l.k (length ps - l.k) (omega arith) n.ensures in
    let w = all-writable ps c.args.out.now c.args.start c.requires.0 c.requires.1 in
    let v = along-writable w l.invariant n.result l.k (omega arith) (omega (arith, run.inside)) in
    let r : InWindow ps l.k (to_z w64 l.last-bits) n.result = record { small = v.small; before = v.before; run = run } in
    omega (arith, window-room r v, along-same l.invariant)

pub loop-k-preserved : goal.loop-k-preserved
loop-k-preserved c =
    let ps = c.args.pixels.now in
    let l = c.loop-k in
    let a = l.invariant in
    let i = c.if-n-eq0 in
    let t = c.loop-k-test.true in
    let w = all-writable ps c.args.out.now c.args.start c.requires.0 c.requires.1 in
    let j : (0 < i.n) × (l.k + i.n ≤ length ps) × (length a.behind ≤ i.n)
    × WroteOver ps l.k i.n (to_z w64 l.last-bits) l.out l.at i.out i.at (length ps - (l.k + i.n))
    = elim c.if-n-eq0.branch [
      | then-n-eq0 w ↦
          let p = w.part-n.ensures in
          let m = length ps - l.k in
          let e = w.n-is in
          let h : 0 < w.part-n.result = p.2 (omega arith) in
          let b = p.3 (length a.behind) a.seven a.few in (
            omega arith,
            omega (arith, p.0),
            omega arith,
            over-as (rest-over ps l.k m (omega (arith, p.0)) w.write_part-next.ensures) e w.out-is w.at-is
                (omega (arith, p.0, slice-long ps l.k m refl (omega arith))),
          )
      | else-n-eq0 w ↦
          let n = c.window_run-n in
          let run = run-slice ps l.k (length ps - l.k) (omega arith) n.ensures in
          let v = along-writable (all-writable ps c.args.out.now c.args.start c.requires.0 c.requires.1) a 0 l.k (omega arith) (omega arith) in
          let r : InWindow ps l.k (to_z w64 l.last-bits) n.result = record { small = v.small; before = v.before; run = run } in
          let e = w.n-is in
          let g = w.if-n-eq0.false in
          let b = run.blocks in (
            omega arith,
            omega (arith, run.inside),
            omega (arith, a.seven),
            over-as (over_none (window-wrote r (slice-octets ps l.k (l.k + n.result - l.k) (omega arith) run.inside _ _ _ _ w.write_run.ensures) refl) (length ps - (l.k + i.n))) e w.out-is w.at-is (omega arith),
          )
    ] in
    let h = j.1 in
    let p = j.0 in
    along-more w a i.n l.k (omega arith) (omega arith) j.2 (l.k + i.n - 1) (omega arith) p j.3

pub returns-clause-value : goal.returns-clause-value
returns-clause-value c = (all-wrote (along-end c.loop-k.invariant (omega arith))).0

pub returns-clause-out_after : goal.returns-clause-out_after
returns-clause-out_after c = (all-wrote (along-end c.loop-k.invariant (omega arith))).1
