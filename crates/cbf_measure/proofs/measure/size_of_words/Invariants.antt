-- `size_of_words`: the first j steps, counted, and whether one of them is far.
use Rattle.std.proofs.Common.{◌≡◌, ◌+◌, ◌*◌, ◌<◌, ◌≤◌}
use Rattle.cbf_measure.specs.Measure.{steps_size, far_steps}
use Rattle.cbf_measure.proofs.measure.size_of_words.Given as goal

abbrev pub invariant-loop-j : goal.invariant-loop-j
invariant-loop-j l = record {
  one_few : l.one ≤ l.j;
  two_few : l.two ≤ l.j;
  counted : steps_size l.words 0 l.j ≡ l.j + 2 * l.one + 4 * l.two + 8 * far_steps l.words l.j;
  near : l.all < 2147483648 → far_steps l.words l.j ≡ 0;
}
