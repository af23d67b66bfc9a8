-- The octets of differences of which many are wide. Nothing here is part of what the public calls promise.
use Rattle.std.specs.Prelude.{ℕ, zero, suc, ◌+◌, ◌*◌, ◌≤◌, ◌≡◌, List, [], ◌∷◌, ◌++◌, length, ℤ}
use Rattle.std.proofs.lemmas.List.Edits.{sets}
use Rattle.cbf_pixels.specs.Pixels as P
use Rattle.cbf_pack.specs.declared.dense.Forms.{Forms}

-- of differences of one, three and seven octets: by how many bits the number is moved up, the escapes before it, and
-- the length
abbrev pub packing_forms : Forms
packing_forms =
    record {
      shift = 0 ∷ 8 ∷ 24 ∷ [];
      escapes = 0 ∷ 128 ∷ 8388736 ∷ [];
      length = 1 ∷ 3 ∷ 7 ∷ [];
    }

-- one difference in a store of at least eight octets
pub record PutOver (d : ℤ) (out : List ℕ) (at : ℕ) (out' : List ℕ) (next : ℕ) : Type 0 where
  pub behind : List ℕ
  pub few : length behind ≤ 7
  pub octets : out' ≡ sets out at (P.pack_difference d ++ behind)
  pub long : 7 ≤ length (P.pack_difference d ++ behind)
  pub after : next ≡ at + length (P.pack_difference d)

unfoldable pub stored_as : ℕ → ℕ → ℕ
stored_as zero n = n
stored_as (suc zero) n = n * 256 + 128
stored_as (suc (suc c)) n = n * 16777216 + 8388736

unfoldable pub form_length : ℕ → ℕ
form_length zero = 1
form_length (suc zero) = 3
form_length (suc (suc c)) = 7
