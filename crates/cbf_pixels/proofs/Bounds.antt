-- How many octets packed pixels take: from 1 to 15 each. Assumes nothing.
use Prim.Native.Nat.{ℕ, ◌*◌, ◌≤◌, ◌+◌}
use native.Mathlib.Omega.{arith}
use mathlib.Core.List.{List, [], ◌∷◌, ◌++◌}
use mathlib.Core.Bool.{Bool, true, false, cond}
use lib.Dec.{ltb}
use lib.ListN.{length, length-append}
use lib.IntN.{ℤ, pos, nat_abs, ◌-ℤ◌}
use Rattle.cbf_pixels.specs.Octets.{half, octets, bits}
use Rattle.cbf_pixels.specs.Pixels.{pack_by, widths, pack_difference, pack_from, pack_byte_offset}
use Rattle.cbf_answers.specs.Limits.{pixel_limit, file_limit}
use Rattle.cbf_answers.proofs.LimitLaws.{octets-limit}
use Rattle.cbf_pixels.proofs.Numbers.{length-octets}

-- ---- octets enough for all widths do not run out

-- the octets of all widths together
abbrev pub total : List ℕ → ℕ
total [] = 0
total (k ∷ ks) = k + total ks

-- at least those of the first width, at most those of all
by-bounds : (k : ℕ) (ks : List ℕ) (d : ℤ) → (k ≤ length (pack_by (k ∷ ks) d)) × (length (pack_by (k ∷ ks) d) ≤ total (k ∷ ks))
unfolding pack_by
by-bounds k [] d = omega (arith, length-octets k (bits k d))
by-bounds k (j ∷ ks) d = go (ltb (nat_abs d) (half k)) (by-bounds j ks d)
  where
    go : (b : Bool) → ((j ≤ length (pack_by (j ∷ ks) d)) × (length (pack_by (j ∷ ks) d) ≤ total (j ∷ ks)))
        → (k ≤ length (cond b (octets k (bits k d)) (octets k (half k) ++ pack_by (j ∷ ks) d)))
        × (length (cond b (octets k (bits k d)) (octets k (half k) ++ pack_by (j ∷ ks) d)) ≤ total (k ∷ j ∷ ks))
    go true i = omega (arith, length-octets k (bits k d))
    go false i = omega (arith, length-octets k (half k), length-append (octets k (half k)) (pack_by (j ∷ ks) d))

pub difference-bounds : (d : ℤ) → (1 ≤ length (pack_difference d)) × (length (pack_difference d) ≤ 15)
unfolding pack_difference widths
difference-bounds d = by-bounds 1 (2 ∷ 4 ∷ 8 ∷ []) d

pub from-bounds : (z : ℤ) (ps : List ℤ) → (length ps ≤ length (pack_from z ps)) × (length (pack_from z ps) ≤ 15 * length ps)
unfolding pack_from
from-bounds z [] = omega arith
from-bounds z (p ∷ ps) =
    let i = from-bounds p ps in
    let b = difference-bounds (p -ℤ z) in
    omega (arith, length-append (pack_difference (p -ℤ z)) (pack_from p ps))

pub packed-bounds : (ps : List ℤ) → (length ps ≤ length (pack_byte_offset ps)) × (length (pack_byte_offset ps) ≤ 15 * length ps)
unfolding pack_byte_offset
packed-bounds ps = from-bounds (pos 0) ps

-- so that no list that may be packed, and no frame of a section, takes more octets than a file may have bytes: why
-- document 02 (xii) withdraws 16
pub packed-limit : (ps : List ℤ) → length ps ≤ pixel_limit → length (pack_byte_offset ps) ≤ file_limit
packed-limit ps few = octets-limit few (packed-bounds ps).1
