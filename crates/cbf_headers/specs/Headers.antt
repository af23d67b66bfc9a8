-- The end of the headers, at a place of the file.
use Rattle.std.specs.Prelude.{ℕ, ◌+◌, Result}
use Rattle.cbf_walk.specs.Parsers.{Res}
use Rattle.cbf_format.specs.Headers.{HeaderLines}
use Rattle.cbf_format.specs.Reads.{read_at}
use Rattle.cbf_format.specs.declared.Stop.{Stop}
use Rattle.cbf_headers.specs.declared.headers.HeaderEnd.{HeaderEnd}

-- the end of the headers that start at a place, from what the lines from `next` on give
abbrev pub headers_at : ℕ → ℕ → Res HeaderLines → Result HeaderEnd Stop
headers_at at next r = read_at next (λ hs n. record { empty = at + hs.empty; next = next + n }) r
