-- Parsers on the bytes from some place on, with relative counts and places, and the combinators that a format is
-- written in.
use Rattle.std.specs.Prelude.{Option, None, Some}
use Rattle.std.specs.Prelude.{List, [], ◌∷◌, ℕ, ◌+◌, drop}

-- bad k p: refusal k, p bytes on; cut: the bytes end inside; ok a n: a, read from the first n bytes
pub data Res (A : Type 0) : Type 0 where
  bad : ℕ → ℕ → Res A
  cut : Res A
  ok : A → ℕ → Res A

abbrev pub Parser : Type 0 → Type 0
Parser A = List ℕ → Res A

-- the first byte, if there is one
abbrev pub hd : List ℕ → Option ℕ
hd [] = None
hd (x ∷ xs) = Some x

module _ {A : Type 0} where
  -- a, from no byte
  abbrev pub ret : A → Parser A
  ret a s = ok a 0

  -- the same, n bytes on
  abbrev pub plus : ℕ → Res A → Res A
  plus n (bad k p) = bad k (n + p)
  plus n cut = cut
  plus n (ok a m) = ok a (n + m)

  -- with the count of the bytes that were taken
  abbrev pub counted : Res A → Res (A × ℕ)
  counted (bad k p) = bad k p
  counted cut = cut
  counted (ok a n) = ok (a, n) n

  -- what was read is tested: the test gives a refusal and a place in what was taken, or none
  abbrev pub screen_or : Option (ℕ × ℕ) → A → ℕ → Res A
  screen_or None a n = ok a n
  screen_or (Some k) a n = bad k.0 k.1

  abbrev pub screen : (A → Option (ℕ × ℕ)) → Res A → Res A
  screen c (bad k p) = bad k p
  screen c cut = cut
  screen c (ok a n) = screen_or (c a) a n

  -- every refusal is k, here
  abbrev pub blame : ℕ → Res A → Res A
  blame k (bad j p) = bad k 0
  blame k cut = bad k 0
  blame k (ok a n) = ok a n

  -- where no byte is left: cut
  abbrev pub onward : Parser A → Parser A
  onward p [] = cut
  onward p (x ∷ xs) = p (x ∷ xs)

module _ {A B : Type 0} where
  abbrev pub then : Res A → (A → Parser B) → List ℕ → Res B
  then (bad k p) f s = bad k p
  then cut f s = cut
  then (ok a n) f s = plus n (f a (drop n s))

  -- one parser, then the one that its value gives, on the bytes that are left
  abbrev pub bind : Parser A → (A → Parser B) → Parser B
  bind p f s = then (p s) f s
