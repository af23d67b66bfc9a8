-- What a parser did depends on few bytes.
use mathlib.Core.Path.{◌≡◌}
use mathlib.Core.List.{List, ◌∷◌, ◌++◌}
use Prim.Native.Nat.{ℕ, ◌≤◌, ◌<◌}
use lib.ListN.{length}
use Rattle.cbf_walk.specs.Parsers.{ok, Parser, hd}

-- What a successful parser did depends on the bytes that it took and at most on the one byte after them: it takes no
-- more bytes than there are, and before any other bytes r' that begin as r does, it takes the same bytes b to the
-- same value.
pub record Tame {A : Type 0} (p : Parser A) : Type 0 where
  pub within : (s : List ℕ) (a : A) (n : ℕ) → p s ≡ ok a n → n ≤ length s
  pub near : (b r r' : List ℕ) (a : A) → hd r ≡ hd r' → p (b ++ r) ≡ ok a (length b) → p (b ++ r') ≡ ok a (length b)

-- a successful parser took at least one byte, where there was one
abbrev pub Moves : {A : Type 0} → Parser A → Type 0
Moves {A} p = (x : ℕ) (xs : List ℕ) (a : A) (n : ℕ) → p (x ∷ xs) ≡ ok a n → 0 < n
