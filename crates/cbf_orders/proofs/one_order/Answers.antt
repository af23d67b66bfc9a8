-- `one_order`: the second call reads the file that the first gave.
use Rattle.std.proofs.Common.{◌≡◌, ◌≤◌, length, take, refl, sym, arith}
use lib.Seq.{length-take-le}
use Rattle.cbf_answers.specs.Answers.{outcome}
use Rattle.cbf_orders.proofs.OrderLaws.{replaces, given-fits}
use Rattle.cbf_orders.proofs.one_order.Goals as goal

pub slice_bounds-replace-end : goal.slice_bounds-replace-end
slice_bounds-replace-end c =
    let a = c.args in
    omega (arith, given-fits a.file.now a.i a.f.now a.oi.now c.in-Ok.ensures.answer c.in-Ok.n refl)

pub slice_bounds-replace-end-in-Ok : goal.slice_bounds-replace-end-in-Ok
slice_bounds-replace-end-in-Ok c =
    let a = c.args in
    let h : c.in-Ok.n ≤ length c.replace-first.new.out =
    omega (arith, given-fits a.file.now a.i a.f.now a.oi.now c.in-Ok.ensures.answer c.in-Ok.n refl) in
    sym (length-take-le c.in-Ok.n c.replace-first.new.out h)

pub returns-in-Err : goal.returns-in-Err
returns-in-Err c =
    let a = c.args in
    let e = c.in-Err.ensures in
    rw c.in-Err.is (record {
      order = record { first = replaces a.file.now a.i a.f.now a.oi.now e.answer e.output; second = (refl, refl) };
    })

pub returns-in-Ok : goal.returns-in-Ok
returns-in-Ok c =
    let a = c.args in
    let e = c.in-Ok.ensures in
    let s = c.replace-second.ensures in
    record {
      order = record {
        first = replaces a.file.now a.i a.f.now a.oi.now e.answer e.output;
        second = (outcome c.replace-second.result, refl, replaces (take c.in-Ok.n c.replace-first.new.out) a.j a.g.now a.oij.now s.answer s.output);
      };
    }
