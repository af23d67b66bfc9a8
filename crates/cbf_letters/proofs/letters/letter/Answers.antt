-- A letter of good text is at least 43 and not the pad.
use borrow.Author.Tests.{le-leb, lt-leb}
use Prim.Native.Nat.{◌<◌}
use native.Mathlib.Omega.{arith}
use Rattle.cbf_letters.proofs.LettersLaws.{letter-test}
use Rattle.cbf_letters.proofs.letters.letter.Goals as goal

pub returns-then-b-ge43 : goal.returns-then-b-ge43
returns-then-b-ge43 c = let b = c.args.b in rw (le-leb 43 b c.if-b-ge43.true) at (letter-test b (omega arith) c.requires)

pub returns-else-b-ge43 : goal.returns-else-b-ge43
returns-else-b-ge43 c =
    let b = c.args.b in
    let h : b < 43 = omega arith in
    rw (lt-leb 43 b h) (rw (lt-leb 43 b h) at (letter-test b (omega arith) c.requires))
