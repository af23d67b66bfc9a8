-- What a call says and what is then in the output, with room for the answer and without. Assumes nothing.
use mathlib.Core.Path.{◌≡◌, sym, ap, ◌∙◌}
use mathlib.Core.List.{List, ◌++◌}
use Prim.Native.Nat.{ℕ, ◌+◌, ◌≤◌, ◌<◌}
use native.Mathlib.Nat.{zero-add}
use native.Mathlib.Omega.{arith}
use borrow.Author.Tests.{le-leb, lt-leb}
use lib.ListN.{length, drop}
use lib.Seq.{sets, sets-eq}
use Rattle.cbf_answers.specs.Answers.{Outcome, gives, refuses, written}
use Rattle.cbf_answers.specs.Rooms.{room_for}

-- what a call says, and what is then in the output
abbrev pub Says : Outcome → List ℕ → List ℕ → Outcome → List ℕ → Type 0
Says o text old said out = (said ≡ o) × (out ≡ written o text old)

pub refusal : (text old : List ℕ) {o : Outcome} {k p : ℕ} → refuses k p ≡ o → Says o text old (refuses k p) old
unfolding written
refusal text old e = (e, rw (← e))

-- the text, whose length was counted, is answered where there is room for it
module _ (text old : List ℕ) {o : Outcome} {n : ℕ} (outcome-is : o ≡ room_for text (length old)) (length_is : n ≡ length text) where
  pub no_room : length old < n → Says o text old (refuses 15 0) old
  unfolding room_for
  no_room h = refusal text old (sym (outcome-is ∙ rw (lt-leb (length text) (length old) (omega arith))))

  pub has_room : n ≤ length old → Says o text old (gives n) (sets old 0 text)
  unfolding room_for written
  has_room h =
      let l : length text ≤ length old = omega arith in
      let z : 0 + length text ≡ length text = zero-add (length text) in
      let e : sets old 0 text ≡ text ++ drop (length text) old = rw z at (sets-eq text old 0 (omega arith)) in
      let q : o ≡ gives (length text) = outcome-is ∙ rw (le-leb (length text) (length old) l) in
      (ap gives length_is ∙ sym q, rw q e)
