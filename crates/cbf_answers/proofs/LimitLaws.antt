-- What document 01's limits say of each other. Assumes nothing.
use Prim.Native.Nat.{ℕ, ◌*◌, ◌≤◌}
use native.Mathlib.Omega.{arith}
use Rattle.cbf_answers.specs.Limits.{file_limit, pixel_limit}

-- the pixels of a section, at most 15 octets each, take no more octets than a file may have bytes
pub octets-limit : {pixels octets : ℕ} → pixels ≤ pixel_limit → octets ≤ 15 * pixels → octets ≤ file_limit
octets-limit few each = omega arith
