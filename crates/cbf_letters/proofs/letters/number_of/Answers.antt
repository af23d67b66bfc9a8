-- Each test lowers the number or leaves it, and the last number is the letter's.
use Prim.Native.Nat.{◌+◌}
use mathlib.Core.Path.{◌≡◌}
use borrow.Author.Tests.{lt-ltb, le-ltb}
use native.Mathlib.Omega.{arith}
use Rattle.cbf_format.specs.Base64.{symbol}
use Rattle.cbf_format.specs.declared.Symbol.TheVariants.{Letter}
use Rattle.cbf_letters.proofs.LettersLaws.{lowered, letter-number}
use Rattle.cbf_letters.proofs.letters.number_of.Goals as goal
use Rattle.cbf_letters.proofs.letters.number_of.Goals.{then-b-gt46, else-b-gt46, then-b-gt47, else-b-gt47, then-b-gt64, else-b-gt64}
use Rattle.cbf_letters.proofs.letters.number_of.Goals.{Joined-b-gt64}

-- the number before the last test
last : (c : Joined-b-gt64) → symbol c.args.b ≡ Letter (lowered 96 c.args.b 6 c.if-b-gt64.n)
last c =
    let b = c.args.b in
    let p : c.if-b-gt46.n ≡ lowered 46 b 3 (b + 19) = elim c.if-b-gt46.branch [
      | then-b-gt46 w ↦ rw (lt-ltb 46 b w.if-b-gt46.true) w.n-is
      | else-b-gt46 w ↦ rw (le-ltb 46 b w.if-b-gt46.false) w.n-is
    ] in
    let q : c.if-b-gt47.n ≡ lowered 47 b 12 c.if-b-gt46.n = elim c.if-b-gt47.branch [
      | then-b-gt47 w ↦ rw (lt-ltb 47 b w.if-b-gt47.true) w.n-is
      | else-b-gt47 w ↦ rw (le-ltb 47 b w.if-b-gt47.false) w.n-is
    ] in
    let r : c.if-b-gt64.n ≡ lowered 64 b 69 c.if-b-gt47.n = elim c.if-b-gt64.branch [
      | then-b-gt64 w ↦ rw (lt-ltb 64 b w.if-b-gt64.true) w.n-is
      | else-b-gt64 w ↦ rw (le-ltb 64 b w.if-b-gt64.false) w.n-is
    ] in
    rw (r, q, p) (letter-number b (omega arith) c.requires).1

pub overflow_add-n : goal.overflow_add-n
overflow_add-n c = omega (arith, (letter-number c.args.b (omega arith) c.requires).0)

pub returns-then-b-gt96 : goal.returns-then-b-gt96
returns-then-b-gt96 c = rw (lt-ltb 96 c.args.b c.if-b-gt96.true) at (last (goal.at.returns-then-b-gt96 c).Joined-b-gt64)

pub returns-else-b-gt96 : goal.returns-else-b-gt96
returns-else-b-gt96 c = rw (le-ltb 96 c.args.b c.if-b-gt96.false) at (last (goal.at.returns-else-b-gt96 c).Joined-b-gt64)
