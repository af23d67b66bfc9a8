-- Names of headers.
use Rattle.std.specs.Prelude.{cond, List, [], ◌∷◌, ℕ, Option, None, Some}
use Rattle.std.specs.Borrow.{Bor}
use Rattle.cbf_format.specs.declared.KnownHeader.{KnownHeader}
use Rattle.cbf_format.specs.Text.{lowers, same}

-- the header of a table whose name the text is, in any case
abbrev pub header_in : List (Bor (List ℕ) × KnownHeader) → List ℕ → Option KnownHeader
header_in [] t = None
header_in (e ∷ es) t = let r = header_in es t in cond (same e.0.now (lowers t)) (Some e.1) r
