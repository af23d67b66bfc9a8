use Rattle.std.proofs.Common.{◌≡◌, ◌-◌, ◌<◌, ◌≤◌, ℕ, List, length, take, drop, arith, sym}
use lib.IntN.{ℤ}
use lib.Seq.{slice}
use Rattle.cbf_format.proofs.Slices.{slice-part}
use Rattle.cbf_rewrite.proofs.RewriteLaws.{no_choice, rewriting-start, rewriting-rest, rewriting-done, rewriting-choice}
use Rattle.cbf_rewrite.proofs.RewriteLaws.{rewriting-below, rewriting-ahead, rewriting-span, rewriting-chosen}
use Rattle.cbf_rewrite.proofs.rewrite.spans_from.Goals as goal

-- a frame as the code takes it
frame_is : (frames : List ℤ) (first end : ℕ) → first ≤ end → end ≤ length frames
    → take (end - first) (drop first frames) ≡ slice first end frames
frame_is frames first end low high = sym (slice-part frames first end low high)

pub loop-choice-init : goal.loop-choice-init
loop-choice-init c = rewriting-start c.requires.0 c.requires.1

pub loop-current-init : goal.loop-current-init
loop-current-init c =
    let within : c.loop-choice.choice-index < length c.args.chosen.now = omega arith in
    let r = c.loop-choice.invariant in
    (r.here, rewriting-below r no_choice within)

pub next_found-current-requires : goal.next_found-current-requires
next_found-current-requires c =
    let within : c.loop-choice.choice-index < length c.args.chosen.now = omega arith in
    rewriting-ahead c.loop-choice.invariant no_choice within c.loop-current.invariant.0 (omega arith)

pub offset_bounds-frames-first : goal.offset_bounds-frames-first
offset_bounds-frames-first c =
    let within : c.loop-choice.choice-index < length c.args.chosen.now = omega arith in
    let h = rewriting-choice c.loop-choice.invariant no_choice within in
    omega (arith, h.low, h.high, c.well_formed)

pub slice_bounds-pass_span-count : goal.slice_bounds-pass_span-count
slice_bounds-pass_span-count c =
    let within : c.loop-choice.choice-index < length c.args.chosen.now = omega arith in
    (rewriting-choice c.loop-choice.invariant no_choice within).low

pub slice_bounds-pass_span-start : goal.slice_bounds-pass_span-start
slice_bounds-pass_span-start c =
    let within : c.loop-choice.choice-index < length c.args.chosen.now = omega arith in
    let h = rewriting-choice c.loop-choice.invariant no_choice within in
    omega (arith, h.low, h.high)

pub slice_bounds-pass_span-end : goal.slice_bounds-pass_span-end
slice_bounds-pass_span-end c =
    let within : c.loop-choice.choice-index < length c.args.chosen.now = omega arith in
    let h = rewriting-choice c.loop-choice.invariant no_choice within in
    omega (arith, h.low, h.high)

pub pass_span-at-requires : goal.pass_span-at-requires
pass_span-at-requires c =
    let within : c.loop-choice.choice-index < length c.args.chosen.now = omega arith in
    let r = c.loop-choice.invariant in
    let h = rewriting-choice r no_choice within in
    rewriting-span r no_choice within c.loop-current.invariant.0 (omega (arith, c.loop-current.invariant.1))
    (frame_is c.args.frames.now _ _ h.low h.high)

pub loop-choice-preserved : goal.loop-choice-preserved
loop-choice-preserved c =
    let within : c.loop-choice.choice-index < length c.args.chosen.now = omega arith in
    let r = c.loop-choice.invariant in
    let h = rewriting-choice r no_choice within in
    let e = c.pass_span-at.ensures in
    rewriting-chosen r no_choice within c.loop-current.invariant.0 (omega (arith, c.loop-current.invariant.1))
    (frame_is c.args.frames.now _ _ h.low h.high) e.value e.out_after

pub pass_rest-requires : goal.pass_rest-requires
pass_rest-requires c = rewriting-rest c.loop-choice.invariant (omega arith)

pub returns : goal.returns
returns c =
    let e = c.pass_rest.ensures in
    let d = rewriting-done c.loop-choice.invariant (omega arith) e.value e.out_after in
    record { value = d.0; out_after = d.1 }
