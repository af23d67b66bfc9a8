-- Octets stored one after the other from the first on, the pieces of a section's entry in the catalogue, and their
-- lengths. Assumes nothing.
use mathlib.Core.Path.{◌≡◌, refl, sym, ap, ◌∙◌}
use mathlib.Core.List.{List, [], ◌∷◌, ◌++◌}
use Prim.Native.Nat.{ℕ, zero, suc, ◌+◌, ◌*◌, ◌-◌, ◌/◌, ◌%◌, ◌≤◌, ◌<◌}
use native.Mathlib.Nat.{add-zero, zero-add, suc-add, sub-zero}
use native.Mathlib.Omega.{arith}
use lib.ListN.{length, length-append, set, replicate}
use lib.Seq.{sets, length-sets}
use Rattle.cbf_pixels.specs.Octets.{number, octets, no_octet, octet}
use Rattle.cbf_pixels.specs.declared.ElementType.{ElementType}
use Rattle.cbf_pixels.specs.declared.Compression.{Compression}
use Rattle.cbf_pixels.proofs.Numbers.{length-octets, octets-number}
use Rattle.cbf_format.specs.declared.Encoding.{Encoding}
use Rattle.cbf_pixels.specs.Numbers.{compression_number, type_number}
use Rattle.cbf_format.specs.Catalogue.{label_width, encoding_number, zeros, label, entry}
use Rattle.cbf_catalogue.specs.Entry.{four_numbers}
use Rattle.cbf_answers.proofs.Stores.{sets-append}
use Rattle.cbf_write.proofs.PutLaws.{sets_over}

-- ---- octets stored from the first on

-- of the k octets of n, i are stored: storing the others, those of rest, after them gives what storing all gives
pub record Stored (old : List ℕ) (at k n : ℕ) (out : List ℕ) (i rest : ℕ) : Type 0 where
  pub within : i ≤ k
  pub left : sets out (at + i) (octets (k - i) rest) ≡ sets old at (octets k n)

pub stored-none : (old : List ℕ) (at k n : ℕ) → Stored old at k n old 0 n
stored-none old at k n = record { within = omega arith; left = rw (add-zero, sub-zero) refl }

module _ {old : List ℕ} {at k n : ℕ} {out : List ℕ} {i rest : ℕ} (s : Stored old at k n out i rest) where
  pub stored_more : i < k → Stored old at k n (set out (at + i) (rest % 256)) (i + 1) (rest / 256)
  unfolding octets
  stored_more h =
      let e : at + (i + 1) ≡ suc (at + i) = omega arith in
      let d : k - i ≡ suc (k - (i + 1)) = omega arith in
      record { within = omega arith; left = rw e (rw d at s.left) }

  pub stored-all : k ≤ i → out ≡ sets old at (octets k n)
  unfolding octets
  stored-all h = let z : k - i ≡ 0 = omega arith in rw z at s.left

  pub stored-length : length out ≡ length old
  stored-length = sym (length-sets out (at + i) (octets (k - i) rest)) ∙ ap length s.left ∙ length-sets old at (octets k n)

pub zeros-octets : (k : ℕ) → zeros k ≡ octets k 0
unfolding zeros octets
zeros-octets zero = refl
zeros-octets (suc k) = ap (λ (l : List ℕ). 0 ∷ l) (zeros-octets k)

zeros-replicate : (n : ℕ) → replicate n 0 ≡ zeros n
unfolding zeros
zeros-replicate zero = refl
zeros-replicate (suc n) = ap (λ (l : List ℕ). 0 ∷ l) (zeros-replicate n)

pub zeros-same : {m n : ℕ} → m ≡ n → replicate m 0 ≡ zeros n
zeros-same {m} {n} e = ap (λ (k : ℕ). replicate k 0) e ∙ zeros-replicate n

-- ---- lengths

pub length-zeros : (n : ℕ) → length (zeros n) ≡ n
length-zeros n = ap length (zeros-octets n) ∙ length-octets n 0

pub length-four : (a b c d : ℕ) → length (four_numbers a b c d) ≡ 16
length-four a b c d = simp (length-append, length-octets)

zeros-add : (a b : ℕ) → zeros (a + b) ≡ zeros a ++ zeros b
unfolding zeros
zeros-add zero b = rw zero-add
zeros-add (suc a) b = rw suc-add (ap (λ (l : List ℕ). 0 ∷ l) (zeros-add a b))

-- one text is written after another, with their lengths as the code has them
pub both-written : (old : List ℕ) (at : ℕ) (a b : List ℕ) (n : ℕ) {m r s : ℕ} {mid new : List ℕ}
    → length a ≡ m → (r ≡ at + m) × (mid ≡ sets old at a) → (s ≡ r + n) × (new ≡ sets mid r b)
    → (s ≡ at + (m + n)) × (new ≡ sets old at (a ++ b))
both-written old at a b n {m} {r} e p q =
    let t : r ≡ at + length a = omega arith in
    (omega arith, q.1 ∙ rw (p.1, t) (sets-append old at a b))

-- ---- the pieces of an entry

-- three octets and a zero, from their number
pub octets-three : (a b c : ℕ) → a < 256 → b < 256 → c < 256 → octets 4 (a + 256 * b + 65536 * c) ≡ a ∷ b ∷ c ∷ 0 ∷ []
unfolding number
octets-three a b c h k l =
    let os = a ∷ b ∷ c ∷ 0 ∷ [] in
    let e : a + 256 * b + 65536 * c ≡ number os = omega arith in
    ap (octets 4) e ∙ octets-number (octet h (octet k (octet l (octet (omega arith) no_octet))))

-- a name over the zeros of a label
pub label-over : (old name : List ℕ) (at : ℕ) → length name ≤ label_width → sets (sets old at (zeros label_width)) at name ≡ sets old at (label name)
label-over old name at h =
    let e : label_width ≡ length name + (label_width - length name) = omega arith in
    ap (λ (k : ℕ). sets (sets old at (zeros k)) at name) e
    ∙ ap (λ (l : List ℕ). sets (sets old at l) at name) (zeros-add (length name) (label_width - length name))
    ∙ sets_over old (zeros (length name)) name (zeros (label_width - length name)) at (length-zeros (length name))

module _ (at size elements : ℕ) (c : Compression) (t : ElementType) (e : Encoding) (id fastest second third : ℕ) (name : List ℕ) where
  pub entry-pieces : (kinds : ℕ) → octets 4 kinds ≡ compression_number c ∷ type_number t ∷ encoding_number e ∷ 0 ∷ []
      → entry at size elements c t e id fastest second third name
      ≡ four_numbers at size elements kinds ++ (four_numbers id fastest second third ++ label name)
  unfolding entry octets
  entry-pieces kinds h =
      ap (λ (l : List ℕ). (octets 4 at ++ (octets 4 size ++ (octets 4 elements ++ l))) ++ (four_numbers id fastest second third ++ label name)) (sym h)

  pub length-entry : length name ≤ label_width → length (entry at size elements c t e id fastest second third name) ≡ 64
  unfolding entry
  length-entry h = simp (length-append, length-zeros) (omega arith)
