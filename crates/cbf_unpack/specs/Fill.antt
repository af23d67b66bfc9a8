-- The second pass of unpacking. It tests nothing: its callers know that what is left unpacks, and that z, the last
-- pixel, is in the range of some type, so that sums do not wrap. Nothing here is part of what the public calls
-- promise.
use Rattle.std.specs.Prelude.{ℕ, ◌+◌, ◌*◌, ◌-◌, ◌^◌, ◌<◌, ◌≤◌, ◌≡◌, List, Bool, true, length, ℤ}
use Rattle.std.proofs.lemmas.List.Edits.{sets}
use Rattle.std.specs.Int.Signed.{mag}
use Rattle.cbf_pixels.specs.PixelCalls.{is_some}
use Rattle.cbf_pixels.specs.declared.ElementType.{ElementType}
use Rattle.cbf_octets.specs.declared.Part.{Part}
use Rattle.cbf_octets.specs.Rest.{rest, Enough, onto_pixels, Behind, Stopped}

-- n pixels unpack, with octets behind those that are there. Of those that are there, size stand from i on, unless
-- nothing is behind them.
pub record Unpacks (os : List ℕ) (z : ℤ) (i n size : ℕ) : Type 0 where
  pub type : ElementType
  pub more : ℕ
  pub tail : List ℕ
  pub says : is_some (rest type os tail z i (n + more)) ≡ true
  pub before : mag z < 2 ^ 32
  pub enough : Enough os tail i size

-- the n pixels after z were written to out from k on, giving out'; they lead to the pixel z' and the octet j
pub record Filled (os : List ℕ) (z : ℤ) (i n : ℕ) (z' : ℤ) (j k : ℕ) (out out' : List ℤ) : Type 0 where
  pub pixels : List ℤ
  pub many : length pixels ≡ n
  pub wrote : out' ≡ sets out k pixels
  pub leads : (t : ElementType) (tail : List ℕ) (m : ℕ) → is_some (rest t os tail z i (n + m)) ≡ true → rest t os tail
      z i (n + m) ≡ onto_pixels pixels (rest t os tail z' j m)
  pub after : mag z' < 2 ^ 32
  pub reach : j ≤ i + 15 * n
  pub inside : j ≤ length os

-- the count pixels after z unpack, in some type and with some octets behind those that are there
pub record Fillable (os : List ℕ) (ended : Bool) (z : ℤ) (i count : ℕ) : Type 0 where
  pub type : ElementType
  pub tail : List ℕ
  pub last : Behind ended tail
  pub unpacks : is_some (rest type os tail z i count) ≡ true
  pub before : mag z < 2 ^ 32

-- the second pass over them wrote pixels to out from k on, giving out'
pub record FilledPart (os : List ℕ) (ended : Bool) (z : ℤ) (i count k : ℕ) (out out' : List ℤ) (r : Part) : Type 0 where
  pub few : r.count ≤ count
  pub inside : r.last.next ≤ length os
  pub still : r.count ≡ 0 → r.last.next ≤ i
  pub pixels : List ℤ
  pub many : length pixels ≡ r.count
  pub wrote : out' ≡ sets out k pixels
  pub leads : (t : ElementType) (tail : List ℕ) → Behind ended tail → is_some (rest t os tail z i count) ≡ true
      → rest t os tail z i count ≡ onto_pixels pixels (rest t os tail r.last.pixel r.last.next (count - r.count))
  pub after : mag r.last.pixel < 2 ^ 32
  pub stopped : Stopped os ended count r.count r.last.next
