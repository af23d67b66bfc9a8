-- The next place holds a letter, or the text has no letter left.
use mathlib.Core.Path.{◌≡◌, refl, ◌∙◌}
use mathlib.Core.Logic.{inl, inr}
use native.Mathlib.Omega.{arith}
use lib.ListN.{get_or}
use Rattle.cbf_letters.proofs.LettersLaws.{letter-small, sixes-empty, sixes-letter}
use Rattle.cbf_letters.proofs.letters.next_letter.Goals as goal

pub returns-then-i-to : goal.returns-then-i-to
returns-then-i-to c =
    let a = c.args in
    let i = c.next_place-i.result in
    let n = c.number_of.result in
    let e = c.number_of.ensures in
    record {
      low = omega arith;
      high = omega arith;
      small = letter-small (get_or a.file.now i 0) n (omega arith) e;
      says = inl (omega arith, c.next_place-i.ensures.2 ∙ sixes-letter a.file.now i a.to (omega arith) (omega arith) n e);
    }

pub returns : goal.returns
returns c =
    let q : c.next_place-i.result ≡ c.args.to = omega arith in
    record {
      low = omega arith;
      high = omega arith;
      small = omega arith;
      says = inr (refl, refl, rw (q, sixes-empty) at c.next_place-i.ensures.2);
    }
