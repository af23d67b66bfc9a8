-- What the headers of a section say, at a place of the file.
use Rattle.std.specs.Prelude.{ℕ, ◌+◌, Result}
use Rattle.cbf_walk.specs.Parsers.{Res}
use Rattle.cbf_format.specs.Reads.{read_at}
use Rattle.cbf_format.specs.declared.Description.{Description}
use Rattle.cbf_format.specs.declared.Stop.{Stop}
use Rattle.cbf_headers.specs.declared.section_headers.Headers.{Headers}

-- what the headers that start at a place say, and where their empty line ends
abbrev pub headers_read_at : ℕ → Res Description → Result Headers Stop
headers_read_at at r = read_at at (λ d n. record { description = d; next = at + n }) r
