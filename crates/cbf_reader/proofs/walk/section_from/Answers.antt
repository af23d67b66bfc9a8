-- What each step gave leads on, or is what comes next.
use Rattle.std.proofs.Common.{◌++◌, ◌∷◌, [], subst, append_assoc, arith, Ok, Err}
use Rattle.cbf_format.specs.declared.Stop.TheVariants.{Refused, CutOff}
use Rattle.cbf_reader.specs.Walk.{ReadTo}
use Rattle.cbf_reader.proofs.WalkLaws.{walked_start, walked_line, goes_on, gave, walk_end, flat-more}
use Rattle.cbf_format.specs.Files as F
use Rattle.cbf_reader.proofs.walk.section_from.Goals as goal

pub loop-cursor-init : goal.loop-cursor-init
loop-cursor-init c =
    let a = c.args in
    record { ready = c.requires; walked = walked_start a.limit a.file.now a.c c.requires }

pub returns-in-Err-Refused : goal.returns-in-Err-Refused
returns-in-Err-Refused c done k =
    let a = c.args in
    let l = c.loop-cursor in
    let w = l.invariant.walked done k in
    gave a.limit a.file.now l.cursor l.invariant.ready c.loop-cursor-test.true (Err (Refused c.in-Err-Refused.refusal))
    (rw c.in-Err-Refused.field-0-is at c.in-Err-Refused.ensures) (done ++ w.0) w.2

pub returns-in-Err-CutOff : goal.returns-in-Err-CutOff
returns-in-Err-CutOff c done k =
    let a = c.args in
    let l = c.loop-cursor in
    let w = l.invariant.walked done k in
    rw (c.at.ensures, c.unwrap_or-place.ensures, c.opened_at.ensures)
    (gave a.limit a.file.now l.cursor l.invariant.ready c.loop-cursor-test.true (Err CutOff)
    (rw c.in-Err-CutOff.field-0-is at c.in-Err-CutOff.ensures) (done ++ w.0) w.2)

pub loop-cursor-smaller : goal.loop-cursor-smaller
loop-cursor-smaller c =
    let a = c.args in
    let l = c.loop-cursor in
    let m = goes_on a.limit a.file.now l.cursor l.invariant.ready c.loop-cursor-test.true (Ok c.in-Ok.stepped) c.in-Ok.ensures in
    omega (arith, m.1, c.loop-cursor-test.true)

pub loop-cursor-preserved : goal.loop-cursor-preserved
loop-cursor-preserved c =
    let a = c.args in
    let l = c.loop-cursor in
    let s = c.in-Ok.stepped in
    let m = goes_on a.limit a.file.now l.cursor l.invariant.ready c.loop-cursor-test.true (Ok s) c.in-Ok.ensures in
    record {
      ready = m.0;
      walked =
          walked_line a.limit a.file.now l.cursor l.invariant.ready a.c s.cursor l.invariant.walked
          (λ done k. rw c.in_default.is at
          (gave a.limit a.file.now l.cursor l.invariant.ready c.loop-cursor-test.true (Ok s) c.in-Ok.ensures done k));
    }

pub returns-in-Some : goal.returns-in-Some
returns-in-Some c done k =
    let a = c.args in
    let l = c.loop-cursor in
    let s = c.in-Ok.stepped in
    let w = l.invariant.walked done k in
    let g = rw c.in-Some.is at
    (gave a.limit a.file.now l.cursor l.invariant.ready c.loop-cursor-test.true (Ok s) c.in-Ok.ensures (done ++ w.0) w.2) in (
      w.0,
      g.0,
      g.1,
      g.2,
      w.1,
      g.3,
      g.4,
      omega (arith, g.5, flat-more done w.0),
      subst (λ (z : F.Tree). ReadTo a.limit a.file.now z s.cursor) (append_assoc done w.0 (g.0 ∷ [])) g.6,
    )

pub returns : goal.returns
returns c done k =
    let a = c.args in
    let l = c.loop-cursor in
    let w = l.invariant.walked done k in
    rw c.at_end.ensures
    (walk_end a.limit a.file.now l.cursor l.invariant.ready c.loop-cursor-test.false done w.0 w.1 w.2)
