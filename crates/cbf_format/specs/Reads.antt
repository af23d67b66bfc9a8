-- What a parser says of the bytes at a place of the file, as the code has it.
use Rattle.std.specs.Prelude.{ℕ, ◌+◌, Result, Ok, Err}
use Rattle.cbf_walk.specs.Parsers.{Res, bad, cut, ok}
use Rattle.cbf_format.specs.declared.Stop.{Stop}
use Rattle.cbf_format.specs.declared.Stop.TheVariants.{Refused, CutOff}

-- the refusal at its place of the file, that the file ends first, or what f makes of a value and its length
abbrev pub read_at : {A B : Type 0} → ℕ → (A → ℕ → B) → Res A → Result B Stop
read_at at f (bad k p) = Err (Refused (record { number = k; place = at + p }))
read_at at f cut = Err CutOff
read_at at f (ok a n) = Ok (f a n)
