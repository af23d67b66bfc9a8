-- What stands before the entries of a catalogue.
use Rattle.std.specs.Prelude.{List, ◌∷◌, ◌++◌, ℕ}
use Rattle.cbf_pixels.specs.Octets.{octets}
use Rattle.cbf_format.specs.Text.{bytes}

-- what stands before the entries
abbrev pub heading : ℕ → List ℕ
heading count = bytes "FRC" ++ (0 ∷ (octets 2 1 ++ octets 2 count))
