-- After each call one pixel more is written.
use Rattle.std.proofs.Common.{get_or, pos, refl, arith, w64, to_z, of_z}
use Rattle.cbf_pack.proofs.WriteLaws.{small_word, gap-fits, gap-room, Upto, upto-none, upto-writable, upto-one, wrote_as, writable-as}
use Rattle.cbf_pack.proofs.write.write_four.Goals as goal

pub overflow_sub-four : goal.overflow_sub-four
overflow_sub-four c =
    let a = c.args in
    let w = writable-as c.requires.0 4 c.requires.1 in
    let u0 : Upto a.four.now 0 4 a.last a.out.now a.at 0 a.out.now (to_z w64 (of_z w64 a.last)) a.at = upto-none (small_word a.last w.before) refl in
    gap-fits (to_z w64 (of_z w64 a.last)) (upto-writable w u0 1 0 (omega arith) (omega arith))

pub put_difference-at1-requires : goal.put_difference-at1-requires
put_difference-at1-requires c =
    let a = c.args in
    let w = writable-as c.requires.0 4 c.requires.1 in
    let u0 : Upto a.four.now 0 4 a.last a.out.now a.at 0 a.out.now (to_z w64 (of_z w64 a.last)) a.at = upto-none (small_word a.last w.before) refl in
    gap-room (to_z w64 (of_z w64 a.last)) (upto-writable w u0 1 0 (omega arith) (omega arith))

pub overflow_sub-four-2 : goal.overflow_sub-four-2
overflow_sub-four-2 c =
    let a = c.args in
    let w = writable-as c.requires.0 4 c.requires.1 in
    let u0 : Upto a.four.now 0 4 a.last a.out.now a.at 0 a.out.now (to_z w64 (of_z w64 a.last)) a.at = upto-none (small_word a.last w.before) refl in
    let u1 : Upto a.four.now 0 4 a.last a.out.now a.at 1 c.put_difference-at1.new.out (to_z w64 (of_z w64 (get_or a.four.now 0 (pos 0)))) c.put_difference-at1.result
    = upto-one w u0 0 (omega arith) (omega arith) c.put_difference-at1.ensures in
    gap-fits (to_z w64 (of_z w64 (get_or a.four.now 0 (pos 0)))) (upto-writable w u1 1 1 (omega arith) (omega arith))

pub put_difference-at2-requires : goal.put_difference-at2-requires
put_difference-at2-requires c =
    let a = c.args in
    let w = writable-as c.requires.0 4 c.requires.1 in
    let u0 : Upto a.four.now 0 4 a.last a.out.now a.at 0 a.out.now (to_z w64 (of_z w64 a.last)) a.at = upto-none (small_word a.last w.before) refl in
    let u1 : Upto a.four.now 0 4 a.last a.out.now a.at 1 c.put_difference-at1.new.out (to_z w64 (of_z w64 (get_or a.four.now 0 (pos 0)))) c.put_difference-at1.result
    = upto-one w u0 0 (omega arith) (omega arith) c.put_difference-at1.ensures in
    gap-room (to_z w64 (of_z w64 (get_or a.four.now 0 (pos 0)))) (upto-writable w u1 1 1 (omega arith) (omega arith))

pub overflow_sub-four-3 : goal.overflow_sub-four-3
overflow_sub-four-3 c =
    let a = c.args in
    let w = writable-as c.requires.0 4 c.requires.1 in
    let u0 : Upto a.four.now 0 4 a.last a.out.now a.at 0 a.out.now (to_z w64 (of_z w64 a.last)) a.at = upto-none (small_word a.last w.before) refl in
    let u1 : Upto a.four.now 0 4 a.last a.out.now a.at 1 c.put_difference-at1.new.out (to_z w64 (of_z w64 (get_or a.four.now 0 (pos 0)))) c.put_difference-at1.result
    = upto-one w u0 0 (omega arith) (omega arith) c.put_difference-at1.ensures in
    let u2 : Upto a.four.now 0 4 a.last a.out.now a.at 2 c.put_difference-at2.new.out (to_z w64 (of_z w64 (get_or a.four.now 1 (pos 0)))) c.put_difference-at2.result
    = upto-one w u1 1 (omega arith) (omega arith) c.put_difference-at2.ensures in
    gap-fits (to_z w64 (of_z w64 (get_or a.four.now 1 (pos 0)))) (upto-writable w u2 1 2 (omega arith) (omega arith))

pub put_difference-at3-requires : goal.put_difference-at3-requires
put_difference-at3-requires c =
    let a = c.args in
    let w = writable-as c.requires.0 4 c.requires.1 in
    let u0 : Upto a.four.now 0 4 a.last a.out.now a.at 0 a.out.now (to_z w64 (of_z w64 a.last)) a.at = upto-none (small_word a.last w.before) refl in
    let u1 : Upto a.four.now 0 4 a.last a.out.now a.at 1 c.put_difference-at1.new.out (to_z w64 (of_z w64 (get_or a.four.now 0 (pos 0)))) c.put_difference-at1.result
    = upto-one w u0 0 (omega arith) (omega arith) c.put_difference-at1.ensures in
    let u2 : Upto a.four.now 0 4 a.last a.out.now a.at 2 c.put_difference-at2.new.out (to_z w64 (of_z w64 (get_or a.four.now 1 (pos 0)))) c.put_difference-at2.result
    = upto-one w u1 1 (omega arith) (omega arith) c.put_difference-at2.ensures in
    gap-room (to_z w64 (of_z w64 (get_or a.four.now 1 (pos 0)))) (upto-writable w u2 1 2 (omega arith) (omega arith))

pub overflow_sub-four-4 : goal.overflow_sub-four-4
overflow_sub-four-4 c =
    let a = c.args in
    let w = writable-as c.requires.0 4 c.requires.1 in
    let u0 : Upto a.four.now 0 4 a.last a.out.now a.at 0 a.out.now (to_z w64 (of_z w64 a.last)) a.at = upto-none (small_word a.last w.before) refl in
    let u1 : Upto a.four.now 0 4 a.last a.out.now a.at 1 c.put_difference-at1.new.out (to_z w64 (of_z w64 (get_or a.four.now 0 (pos 0)))) c.put_difference-at1.result
    = upto-one w u0 0 (omega arith) (omega arith) c.put_difference-at1.ensures in
    let u2 : Upto a.four.now 0 4 a.last a.out.now a.at 2 c.put_difference-at2.new.out (to_z w64 (of_z w64 (get_or a.four.now 1 (pos 0)))) c.put_difference-at2.result
    = upto-one w u1 1 (omega arith) (omega arith) c.put_difference-at2.ensures in
    let u3 : Upto a.four.now 0 4 a.last a.out.now a.at 3 c.put_difference-at3.new.out (to_z w64 (of_z w64 (get_or a.four.now 2 (pos 0)))) c.put_difference-at3.result
    = upto-one w u2 2 (omega arith) (omega arith) c.put_difference-at3.ensures in
    gap-fits (to_z w64 (of_z w64 (get_or a.four.now 2 (pos 0)))) (upto-writable w u3 1 3 (omega arith) (omega arith))

pub put_difference-requires : goal.put_difference-requires
put_difference-requires c =
    let a = c.args in
    let w = writable-as c.requires.0 4 c.requires.1 in
    let u0 : Upto a.four.now 0 4 a.last a.out.now a.at 0 a.out.now (to_z w64 (of_z w64 a.last)) a.at = upto-none (small_word a.last w.before) refl in
    let u1 : Upto a.four.now 0 4 a.last a.out.now a.at 1 c.put_difference-at1.new.out (to_z w64 (of_z w64 (get_or a.four.now 0 (pos 0)))) c.put_difference-at1.result
    = upto-one w u0 0 (omega arith) (omega arith) c.put_difference-at1.ensures in
    let u2 : Upto a.four.now 0 4 a.last a.out.now a.at 2 c.put_difference-at2.new.out (to_z w64 (of_z w64 (get_or a.four.now 1 (pos 0)))) c.put_difference-at2.result
    = upto-one w u1 1 (omega arith) (omega arith) c.put_difference-at2.ensures in
    let u3 : Upto a.four.now 0 4 a.last a.out.now a.at 3 c.put_difference-at3.new.out (to_z w64 (of_z w64 (get_or a.four.now 2 (pos 0)))) c.put_difference-at3.result
    = upto-one w u2 2 (omega arith) (omega arith) c.put_difference-at3.ensures in
    gap-room (to_z w64 (of_z w64 (get_or a.four.now 2 (pos 0)))) (upto-writable w u3 1 3 (omega arith) (omega arith))

pub returns : goal.returns
returns c =
    let a = c.args in
    let w = writable-as c.requires.0 4 c.requires.1 in
    let u0 : Upto a.four.now 0 4 a.last a.out.now a.at 0 a.out.now (to_z w64 (of_z w64 a.last)) a.at = upto-none (small_word a.last w.before) refl in
    let u1 : Upto a.four.now 0 4 a.last a.out.now a.at 1 c.put_difference-at1.new.out (to_z w64 (of_z w64 (get_or a.four.now 0 (pos 0)))) c.put_difference-at1.result
    = upto-one w u0 0 (omega arith) (omega arith) c.put_difference-at1.ensures in
    let u2 : Upto a.four.now 0 4 a.last a.out.now a.at 2 c.put_difference-at2.new.out (to_z w64 (of_z w64 (get_or a.four.now 1 (pos 0)))) c.put_difference-at2.result
    = upto-one w u1 1 (omega arith) (omega arith) c.put_difference-at2.ensures in
    let u3 : Upto a.four.now 0 4 a.last a.out.now a.at 3 c.put_difference-at3.new.out (to_z w64 (of_z w64 (get_or a.four.now 2 (pos 0)))) c.put_difference-at3.result
    = upto-one w u2 2 (omega arith) (omega arith) c.put_difference-at3.ensures in
    let u4 : Upto a.four.now 0 4 a.last a.out.now a.at 4 c.put_difference.new.out (to_z w64 (of_z w64 (get_or a.four.now 3 (pos 0)))) c.put_difference.result
    = upto-one w u3 3 (omega arith) (omega arith) c.put_difference.ensures in
    wrote_as u4.wrote c.requires.1 refl refl
