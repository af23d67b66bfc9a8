-- What is left to unpack, where octets may come part by part. Nothing here is part of what the public calls promise.
use Rattle.std.specs.Prelude.{ℕ, ◌+◌, ◌<◌, ◌≤◌, ◌≡◌, List, [], ◌++◌, Bool, true, false, ◌⊎◌, length, drop, ℤ}
use Rattle.std.specs.Prelude.{Option, None, Some}
use Rattle.cbf_pixels.specs.Pixels.{unpack_from, least, greatest}
use Rattle.cbf_pixels.specs.declared.ElementType.{ElementType}

-- what is left to unpack after the pixel z: n pixels, from the octet i on. Octets may come through a window: tail
-- stands for the octets behind those that are there.
unfoldable pub rest : ElementType → List ℕ → List ℕ → ℤ → ℕ → ℕ → Option (List ℤ)
rest t os tail z i n = unpack_from (least t) (greatest t) z n (drop i os ++ tail)

-- nothing is behind the octets that are there, or size of them are there from i on
abbrev pub Enough : List ℕ → List ℕ → ℕ → ℕ → Type 0
Enough os tail i size = (tail ≡ []) ⊎ (i + size ≤ length os)

abbrev pub onto_pixels : List ℤ → Option (List ℤ) → Option (List ℤ)
onto_pixels xs None = None
onto_pixels xs (Some ps) = Some (xs ++ ps)

-- ---- Parts. Octets that come through a window are unpacked part by part: each pass goes over the octets that are
-- there, and stops where fewer than 480 are left (32 pixels of at most 15), unless the octets have ended.

-- what may be behind the octets that are there
abbrev pub Behind : Bool → List ℕ → Type 0
Behind ended tail = ended ≡ true → tail ≡ []

-- a pass of count pixels stopped after n of them, at the octet j: it is done, or few octets are left
abbrev pub Stopped : List ℕ → Bool → ℕ → ℕ → ℕ → Type 0
Stopped os ended count n j = (n ≡ count) ⊎ ((ended ≡ false) × (length os < j + 480))
