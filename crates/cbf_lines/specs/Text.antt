-- Runs of bytes that pass a test, at places of the file. Places are whole file offsets.
use Rattle.std.specs.Prelude.{Bool, true, false, ◌&&◌, ℕ, ◌<◌, ◌≤◌, leb, ◌≡◌, List, get_or}
use Rattle.cbf_format.specs.declared.Symbol.{Symbol}
use Rattle.cbf_format.specs.declared.Symbol.TheVariants.{Letter, Pad, Blank, Other}

abbrev pub plain_byte : ℕ → Bool
plain_byte x = leb 32 x && leb x 126

abbrev pub is_letter : Symbol → Bool
is_letter (Letter n) = true
is_letter Pad = false
is_letter Blank = false
is_letter Other = false

-- a test of bytes, by what its calls may give, gives what t says of each byte
abbrev pub Gives : (ℕ → Bool → Type 0) → (ℕ → Bool) → Type 0
Gives post t = (b : ℕ) (r : Bool) → b < 256 → post b r → r ≡ t b

-- the bytes from `from` up to r pass a test, and r is `to` or its byte does not
pub record Run (test : ℕ → Bool) (file : List ℕ) (from to r : ℕ) : Type 0 where
  pub low : from ≤ r
  pub high : r ≤ to
  pub each : (j : ℕ) → from ≤ j → j < r → test (get_or file j 0) ≡ true
  pub stops : r < to → test (get_or file r 0) ≡ false
