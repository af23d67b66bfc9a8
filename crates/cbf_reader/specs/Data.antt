-- What the data of a section say, at a place of the file.
use Rattle.std.specs.Prelude.{ℕ, ◌+◌, Result}
use Rattle.cbf_walk.specs.Parsers.{Res}
use Rattle.cbf_format.specs.declared.Stop.{Stop}
use Rattle.cbf_format.specs.Reads.{read_at}
use Rattle.cbf_reader.specs.declared.data.Data.{Data}
use Rattle.cbf_format.specs.Sections as S

abbrev pub data_at : ℕ → Res S.Data → Result Data Stop
data_at at r = read_at at (λ d n. record { first = at + d.lead; to = at + d.width; next = at + n }) r
