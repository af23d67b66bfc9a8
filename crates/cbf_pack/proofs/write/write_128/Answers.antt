use Rattle.std.proofs.Common.{ℕ, ◌+◌, ◌-◌, ◌*◌, ◌≡◌, get_or, pos, refl, subst, arith, w64, to_z, of_z}
use Rattle.cbf_pack.proofs.WriteLaws.{writable-word, writable-as, wrote_as, slice-writable, slice-long, slice-wrote}
use Rattle.cbf_pack.proofs.WriteLaws.{Upto, upto-none, upto_all, upto-writable, upto-more}
use Rattle.cbf_pack.proofs.write.write_128.Goals as goal

pub loop-four-init : goal.loop-four-init
loop-four-init c = upto-none refl refl

pub write_four-next-requires : goal.write_four-next-requires
write_four-next-requires c =
    let w = writable-word (writable-as c.requires.0 128 c.requires.1) in
    let j = 4 * c.loop-four.four in
    let v = upto-writable w c.loop-four.invariant 4 j (omega arith) (omega arith) in
    (slice-writable c.args.pixels.now j (j + 4 - j) (omega arith) v.pixels v, slice-long c.args.pixels.now j (j + 4 - j) (omega arith) v.pixels)

pub loop-four-preserved : goal.loop-four-preserved
loop-four-preserved c =
    let a = c.args in
    let w = writable-word (writable-as c.requires.0 128 c.requires.1) in
    let j = 4 * c.loop-four.four in
    let n = c.write_four-next in
    let u = c.loop-four.invariant in
    let v = upto-writable w u 4 j (omega arith) (omega arith) in
    let q : j + 4 ≡ 4 * (c.loop-four.four + 1) = omega arith in
    subst (λ (i : ℕ). Upto a.pixels.now 0 128 (to_z w64 (of_z w64 a.last)) a.out.now a.at i n.new.out (to_z w64 (of_z w64 (get_or a.pixels.now (j + 3) (pos 0)))) n.result) q
    (upto-more w u 4 j (omega arith) (omega arith) (j + 3) (omega arith) (omega arith) (slice-wrote c.args.pixels.now j (j + 4 - j) (omega arith) v.pixels n.ensures))

pub returns : goal.returns
returns c = wrote_as (upto_all c.loop-four.invariant c.requires.0.before (omega arith)) c.requires.1 refl refl
