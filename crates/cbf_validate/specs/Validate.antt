-- What the first pass of unpacking finds. Nothing here is part of what the public calls promise.
use Rattle.std.specs.Prelude.{ℕ, ◌+◌, ◌*◌, ◌-◌, ◌^◌, ◌<◌, ◌≤◌, ◌≡◌, List, Bool, true, false, length, ℤ, Option, MatchOption}
use Rattle.cbf_pixels.specs.Pixels.{within, least, greatest}
use Rattle.cbf_pixels.specs.PixelCalls.{is_some}
use Rattle.cbf_pixels.specs.declared.ElementType.{ElementType}
use Rattle.cbf_octets.specs.declared.Part.{Part}
use Rattle.cbf_octets.specs.Rest.{rest, Behind, Stopped}
use Rattle.cbf_sums.specs.Passes.{biased_least, Top, Between, Passes, Fails}

-- n plain octets from i on, whose differences plus 128 each add up to total, keep a pixel in its type that is 128 n
-- away from the type's ends
pub record Glides (os : List ℕ) (i n total : ℕ) : Type 0 where
  pub most : total ≤ 255 * n
  pub leads : (top biased : ℕ) → biased_least + 128 * n ≤ biased → biased + 128 * n ≤ top → Passes top os biased i n (biased + total - 128 * n) (i + n)

-- The biased pixels are summed up without a test, and all is the bitwise or of them: one of the n pixels was outside
-- the type exactly when all is above top, as the type's size is a power of two.
pub record Summed (top : ℕ) (os : List ℕ) (biased i n biased' all j : ℕ) : Type 0 where
  pub good : all ≤ top → Between top biased' × Passes top os biased i n biased' j
  pub bad : top < all → (tail : List ℕ) → Fails top os tail biased i n
  pub least : biased_least ≤ all

-- n more pixels are summed up, from biased, all and the octet i to biased', all' and the octet j
pub record Adds (os : List ℕ) (n biased all i biased' all' j : ℕ) : Type 0 where
  pub sums : (top b₀ i₀ n₀ : ℕ) → Top top → Summed top os b₀ i₀ n₀ biased all i → Summed top os b₀ i₀ (n₀ + n) biased' all' j
  pub low : biased ≤ biased' + n * 2 ^ 33
  pub high : biased' ≤ biased + n * 2 ^ 36
  pub reach : j ≤ i + 15 * n
  pub inside : j ≤ length os

-- biased is such that n more pixels can be summed up
abbrev pub Summable : ℕ → ℕ → Type 0
Summable n biased = (2 ^ 39 + n * 2 ^ 33 ≤ biased) × (biased + n * 2 ^ 36 ≤ 2 ^ 42)

-- the count pixels after z, from the octet i on, do not unpack
abbrev pub Invalid : ElementType → List ℕ → Bool → ℤ → ℕ → ℕ → Type 0
Invalid t os ended z i count = (tail : List ℕ) → Behind ended tail → is_some (rest t os tail z i count) ≡ false

-- a part of the count pixels after z, from the octet i on: they unpack exactly when what is left after it does
pub record Valid (t : ElementType) (os : List ℕ) (ended : Bool) (z : ℤ) (i count : ℕ) (r : Part) : Type 0 where
  pub few : r.count ≤ count
  pub inside : r.last.next ≤ length os
  pub still : r.count ≡ 0 → r.last.next ≤ i
  pub passed : (tail : List ℕ) → Behind ended tail
      → is_some (rest t os tail z i count) ≡ is_some (rest t os tail r.last.pixel r.last.next (count - r.count))
  pub typed : within (least t) (greatest t) r.last.pixel ≡ true
  pub stopped : Stopped os ended count r.count r.last.next

-- the first pass over count pixels after z, from the octet i on
abbrev pub ValidPart : ElementType → List ℕ → Bool → ℤ → ℕ → ℕ → Option Part → Type 0
ValidPart t os ended z i count r = MatchOption r (Invalid t os ended z i count) (Valid t os ended z i count)
