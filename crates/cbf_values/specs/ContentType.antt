-- The parts of Content-Type.
use Rattle.std.specs.Prelude.{false, List, [], ◌∷◌, ℕ, Option, None, Some}
use Rattle.std.specs.Borrow.{Bor}
use Rattle.cbf_format.specs.Text.{bytes, trim}
use Rattle.cbf_format.specs.Values.{parts, quoted_one_of, unquote}
use Rattle.cbf_values.specs.Value.{joined}

-- a part before others
abbrev pub part_then : List ℕ → Option (List (List ℕ)) → Option (List (List ℕ))
part_then p None = None
part_then p (Some ps) = Some (p ∷ ps)

-- the parts of what follows a part's `;`, none where nothing follows
abbrev pub following : Option (Bor (List ℕ)) → Option (List (List ℕ))
following None = Some []
following (Some rest) = parts false (joined rest.now)

-- the parts, from the first one and what follows it; none where a quote is not closed
abbrev pub parts_from : Option (Bor (List ℕ) × Option (Bor (List ℕ))) → Option (List (List ℕ))
parts_from None = None
parts_from (Some p) = part_then (joined p.0.now) (following p.1)

-- the value of conversions
abbrev pub offset : List ℕ → Option ℕ
offset t = quoted_one_of 1 (bytes "x-cbf_byte_offset" ∷ []) (unquote (trim t))
