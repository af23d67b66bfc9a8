-- The counts of a description are in range. Assumes nothing.
use Rattle.std.proofs.Common.{◌≡◌, ℕ, ◌<◌, ◌≤◌, ◌^◌, subst, arith}
use Rattle.std.specs.Prelude.{Option, None, Some, unwrap_or}
use Rattle.cbf_format.specs.declared.Description.{Description}
use Rattle.cbf_format.specs.declared.KnownHeader.TheVariants.{Size, Elements, Fastest, Second, Third}
use Rattle.cbf_values.specs.KnownValue.{InRangeOf}
use Rattle.cbf_headers.specs.Found.{InRange}
use Rattle.cbf_headers.specs.Describe.{Few}
use Rattle.cbf_headers.specs.declared.found.Found.{Found}

some : {o : Option ℕ} {n : ℕ} → InRangeOf o → o ≡ Some n → n ≤ 2 ^ 31
some {n = n} h e = let l : n < 2 ^ 31 = subst InRangeOf e h in omega arith

or_none : {n : ℕ} (o : Option ℕ) → InRangeOf o → n ≡ unwrap_or o 0 → n ≤ 2 ^ 31
or_none None h e = omega arith
or_none (Some m) h e = omega (arith, h)

pub few : {values : Found} {d : Description} → InRange values → values.size ≡ Some d.size
    → values.elements ≡ Some d.elements
    → d.fastest ≡ unwrap_or values.fastest 0 → d.second ≡ unwrap_or values.second 0 → d.third ≡ unwrap_or values.third 0
    → Few d
few {values} r a b e f g = record {
  size = some (r.each Size) a;
  elements = some (r.each Elements) b;
  fastest = or_none values.fastest (r.each Fastest) e;
  second = or_none values.second (r.each Second) f;
  third = or_none values.third (r.each Third) g;
}
