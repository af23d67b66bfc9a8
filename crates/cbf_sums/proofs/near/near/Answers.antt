-- No test of the code is named here: a changed one is refused for what it says, and not for its name.
use Rattle.std.proofs.Common.{◌≡◌, ℕ, ◌+◌, ◌-◌, get_or, refl, ap, arith}
use lib.ListN.{get_or-replicate}
use Rattle.cbf_sums.proofs.ModuloLaws.{levels-start}
use Rattle.cbf_sums.proofs.LevelsLaws.{stays}
use Rattle.cbf_sums.proofs.near.near.Goals as goal

pub windows-requires : goal.windows-requires
windows-requires c =
    let p = c.requires in
    (p.0, p.1, p.2, p.3, refl, λ k h. get_or-replicate 1040 k 0 0 (omega arith))

pub returns : goal.returns
returns c =
    let a = c.args in
    let p = c.requires in
    let E = c.levels-all.ensures in
    let start = levels-start 256 a.octets.now a.i a.c 1040 (omega (arith, p.4)) (omega arith) in
    let last : 16 + (a.n - 1) ≡ 15 + a.n = omega (arith, p.2) in
    let e = ap (λ (k : ℕ). get_or c.levels-all.new.pixels k 0) last in (
      omega (arith, e, E.by_index_2 (a.n - 1) (omega (arith, p.2))),
      stays a.octets.now a.i a.n a.c c.levels-all.new.pixels (E.by_index a.octets.now a.i a.c c.windows.ensures start)
          (λ k b. omega (arith, E.by_index_2 k b)) p.4 p.5 p.1 (λ k. omega (arith, c.type_inv.octets k)),
    )
