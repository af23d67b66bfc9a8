-- The entry of a section, from the section of the code.
use Rattle.std.specs.Prelude.{List, ◌++◌, ℕ}
use Rattle.std.proofs.Math.Seq.{slice}
use Rattle.cbf_pixels.specs.Octets.{octets}
use Rattle.cbf_format.specs.Catalogue.{entry}
use Rattle.cbf_format.specs.declared.Section.{Section}

-- the entry of a section of the code
abbrev pub entry_for : List ℕ → Section → List ℕ
entry_for file s =
    let d = s.description in
    entry s.first d.size d.elements d.compression d.kind d.encoding d.id d.fastest d.second d.third
    (slice s.block.from s.block.to file)

abbrev pub four_numbers : ℕ → ℕ → ℕ → ℕ → List ℕ
four_numbers a b c d = octets 4 a ++ (octets 4 b ++ (octets 4 c ++ octets 4 d))
