-- The letters are side by side, and n of them.
use mathlib.Core.Path.{◌≡◌, refl}
use Prim.Native.Nat.{◌+◌, ◌-◌}
use native.Mathlib.Omega.{arith}
use lib.ListN.{replicate}
use Rattle.cbf_format.proofs.Slices.{slice-take}
use Rattle.cbf_letters.proofs.OctetsLaws.{LetterRun, letters-both, numbers-small, decodes-run}
use Rattle.cbf_letters.proofs.octets.decode_run.Goals as goal
use Rattle.cbf_letters.proofs.octets.decode_run.Goals.{After-numbers_of}

-- what is known of the n letters
run : (c : After-numbers_of) → let a = c.args in LetterRun a.file.now a.at a.to (c.after_letters-next.result - a.at) a.out.now a.from
run c =
    let a = c.args in
    let p = c.after_letters.ensures in
    let q = c.after_letters-next.ensures in
    let e : c.after_letters-next.result ≡ a.at + (c.after_letters-next.result - a.at) = omega arith in
    record {
      within = omega arith;
      inside = omega arith;
      few = omega arith;
      room = omega arith;
      groups = omega arith;
      only = rw (← e) (letters-both a.file.now a.at c.after_letters.result c.after_letters-next.result p.0 q.0 p.2 q.2);
    }

pub join-requires : goal.join-requires
join-requires c =
    let a = c.args in
    let r = run (goal.at.join-requires c).After-numbers_of in
    let n = c.after_letters-next.result - a.at in
    let s = rw (← slice-take a.file.now a.at n (omega arith)) at c.numbers_of.ensures in
    (omega arith, numbers-small r (replicate 128 0) refl s, omega (arith, r.room))

pub returns : goal.returns
returns c =
    let a = c.args in
    let r = run (goal.at.returns c).After-numbers_of in
    let n = c.after_letters-next.result - a.at in
    let s = rw (← slice-take a.file.now a.at n (omega arith)) at c.numbers_of.ensures in
    (r.groups, decodes-run r (replicate 128 0) refl s c.join.ensures)
