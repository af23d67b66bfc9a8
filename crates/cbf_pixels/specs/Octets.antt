-- Numbers as octets, lowest first, at any count k of octets; signed numbers in two's complement.
use Rattle.std.specs.Prelude.{ℕ, zero, suc, ◌+◌, ◌*◌, ◌-◌, ◌/◌, ◌%◌, ◌^◌, ◌<◌, List, [], ◌∷◌, cond, ltb, ℤ, pos, negsuc}

-- the number that octets stand for
unfoldable pub number : List ℕ → ℕ
number [] = 0
number (o ∷ os) = o + 256 * number os

-- the k lowest octets of a number
unfoldable pub octets : ℕ → ℕ → List ℕ
octets zero n = []
octets (suc k) n = n % 256 ∷ octets k (n / 256)

-- half of what k octets can hold: 128, 32768, ..
unfoldable pub half : ℕ → ℕ
half k = 256 ^ k / 2

-- the signed number that k octets with the number n stand for, in two's complement
unfoldable pub signed : ℕ → ℕ → ℤ
unfolding half
signed k n = cond (ltb n (half k)) (pos n) (negsuc (256 ^ k - suc n))

-- the number of the k octets that a signed number is written in
unfoldable pub bits : ℕ → ℤ → ℕ
bits k (pos n) = n
bits k (negsuc n) = 256 ^ k - suc n

-- each is an octet
pub data Octets : List ℕ → Type 0 where
  no_octet : Octets []
  octet : {o : ℕ} {os : List ℕ} → o < 256 → Octets os → Octets (o ∷ os)
