-- Files with bytes exchanged.
use Rattle.std.specs.Prelude.{List, [], ◌∷◌, ◌++◌, ℕ, drop}
use Rattle.std.proofs.Math.Seq.{slice}

-- the bytes of a file from one place up to another, and what they are exchanged for
pub record Exchange : Type 0 where
  pub from : ℕ
  pub to : ℕ
  pub new : List ℕ

-- the file from the place `at` on, with bytes exchanged that stand in this order and apart: every other byte is there,
-- in its order
unfoldable pub exchanged : ℕ → List Exchange → List ℕ → List ℕ
exchanged at [] file = drop at file
exchanged at (x ∷ xs) file = slice at x.from file ++ (x.new ++ exchanged x.to xs file)
