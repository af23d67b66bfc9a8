-- `both_orders`: demand 3, by the contracts of the two orders.
use Rattle.cbf_orders.specs.Orders.{edit}
use Rattle.cbf_orders.proofs.Demand3.{demand-3}
use Rattle.cbf_orders.proofs.both_orders.Goals as goal

pub returns : goal.returns
returns c =
    let a = c.args in
    let x = c.one_order-ij.ensures.order in
    let y = c.one_order-ji.ensures.order in
    record {
      orders = (x, y);
      demand_3 = λ h. demand-3 a.file.now (edit a.i a.f.now) (edit a.j a.g.now) h x y;
    }
