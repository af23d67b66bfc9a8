-- The first pass of unpacking. It holds a pixel "biased": as its distance above the type's least one, plus 2^40.
-- Nothing here is part of what the public calls promise.
use Rattle.std.specs.Prelude.{◌≡◌, ℕ, ◌+◌, ◌*◌, ◌^◌, ◌≤◌, false, List, length, ℤ, Option, MatchOption}
use Rattle.std.proofs.Math.IntN.{sub_ℕ}
use Rattle.cbf_pixels.specs.PixelCalls.{is_some}
use Rattle.cbf_pixels.specs.declared.ElementType.{ElementType}
use Rattle.cbf_pixels.specs.declared.ElementType.TheVariants.{U8, S8, U16, S16, U32, S32}
use Rattle.cbf_octets.specs.Rest.{rest, Enough}
use Rattle.cbf_sums.specs.declared.State.{State}

abbrev pub biased_least : ℕ
biased_least = 1099511627776

abbrev pub biased_zero : ElementType → ℕ
biased_zero U8 = biased_least
biased_zero S8 = biased_least + 128
biased_zero U16 = biased_least
biased_zero S16 = biased_least + 32768
biased_zero U32 = biased_least
biased_zero S32 = biased_least + 2147483648

abbrev pub biased_greatest : ElementType → ℕ
biased_greatest U8 = biased_least + 255
biased_greatest S8 = biased_least + 255
biased_greatest U16 = biased_least + 65535
biased_greatest S16 = biased_least + 65535
biased_greatest U32 = biased_least + 4294967295
biased_greatest S32 = biased_least + 4294967295

-- the pixel that a biased one stands for
unfoldable pub pixel_at : ElementType → ℕ → ℤ
pixel_at t biased = sub_ℕ biased (biased_zero t)

-- the greatest biased pixel of some type
pub record Top (top : ℕ) : Type 0 where
  pub exponent : ℕ
  pub parts : ℕ
  pub whole : parts * 2 ^ exponent ≡ biased_least
  pub size : top + 1 ≡ biased_least + 2 ^ exponent
  pub small : 2 ^ exponent ≤ 4294967296
  pub large : 256 ≤ 2 ^ exponent

abbrev pub Between : ℕ → ℕ → Type 0
Between top biased = (biased_least ≤ biased) × (biased ≤ top)

-- n pixels from the octet i on, after biased, lead to biased' and the octet j: what is left unpacks exactly when what
-- is left after them does
unfoldable pub Passes : ℕ → List ℕ → ℕ → ℕ → ℕ → ℕ → ℕ → Type 0
Passes top os biased i n biased' j =
    (t : ElementType) → biased_greatest t ≡ top → (tail : List ℕ) (m : ℕ)
    → is_some (rest t os tail (pixel_at t biased) i (n + m)) ≡ is_some (rest t os tail (pixel_at t biased') j m)

-- the n pixels from the octet i on do not unpack, with tail behind the octets
unfoldable pub Fails : ℕ → List ℕ → List ℕ → ℕ → ℕ → ℕ → Type 0
Fails top os tail biased i n = (t : ElementType) → biased_greatest t ≡ top → (m : ℕ) → is_some (rest t os tail (pixel_at t biased) i (n + m)) ≡ false

-- the n pixels from the octet i on do not unpack. Octets for 32 pixels of 15 are there, or nothing is behind the
-- octets.
abbrev pub Failed : ℕ → List ℕ → ℕ → ℕ → ℕ → Type 0
Failed top os biased i n = (tail : List ℕ) → Enough os tail i 480 → Fails top os tail biased i n

-- where the n pixels from the octet i on lead: to biased' and the octet j
pub record Passed (top : ℕ) (os : List ℕ) (biased i n biased' j : ℕ) : Type 0 where
  pub between : Between top biased'
  pub passes : Passes top os biased i n biased' j
  pub inside : j ≤ length os

-- what a step of the first pass says of the n pixels after a state: where they lead, or that they do not unpack
abbrev pub Stepped : ℕ → List ℕ → State → ℕ → Option State → Type 0
Stepped top os at n r = MatchOption r (Failed top os at.biased at.next n) (λ to. Passed top os at.biased at.next n to.biased to.next)
