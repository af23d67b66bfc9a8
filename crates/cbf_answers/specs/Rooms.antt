-- An answer that is written where the lent output has room for it.
use Rattle.std.specs.Prelude.{cond, List, ℕ, leb, length}
use Rattle.cbf_answers.specs.Answers.{Outcome, gives, refuses, written}

-- 15: "lent output shorter than the answer"
unfoldable pub room_for : List ℕ → ℕ → Outcome
room_for text room = cond (leb (length text) room) (gives (length text)) (refuses 15 0)

-- what is then in the output
abbrev pub room_output : List ℕ → List ℕ → List ℕ
room_output text out = written (room_for text (length out)) text out
