-- Bounds of the values of known headers.
use Rattle.std.specs.Prelude.{ℕ, ◌^◌, ◌<◌, ◌≤◌, Option, None, Some}

-- a value of a known header is below 2^31
abbrev pub InRangeOf : Option ℕ → Type 0
InRangeOf None = 0 ≤ 0
InRangeOf (Some n) = n < 2 ^ 31
