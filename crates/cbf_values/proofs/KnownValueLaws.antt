-- The value of Content-Type lies between bounds. Assumes nothing.
use Rattle.std.proofs.Common.{ℕ, arith, List, [], ◌∷◌, Option, None, Some}
use Rattle.cbf_format.specs.declared.Conversion.{Conversion}
use Rattle.cbf_format.specs.declared.Conversion.TheVariants.{Unseen, Seen, Wrong}
use Rattle.cbf_format.specs.Values.{with_part, conversions, content_type}
use Rattle.cbf_values.specs.KnownValue.{InRangeOf}

conversions-range : (c : Conversion) (ps : List (List ℕ)) → InRangeOf (conversions c ps)
conversions-range Unseen [] = omega arith
conversions-range Seen [] = omega arith
conversions-range Wrong [] = omega arith
conversions-range c (p ∷ ps) = conversions-range (with_part c p) ps

pub content_type_range : (ps : Option (List (List ℕ))) → InRangeOf (content_type ps)
content_type_range None = omega arith
content_type_range (Some []) = omega arith
content_type_range (Some (p ∷ ps)) = conversions-range Unseen ps
