-- What packing answers. Assumes nothing.
use Prim.Native.Nat.{ℕ, ◌+◌, ◌*◌, ◌<◌, ◌≤◌}
use native.Mathlib.Omega.{arith}
use mathlib.Core.Path.{◌≡◌, refl, sym, subst, ◌∙◌}
use mathlib.Core.List.{List, [], ◌∷◌}
use mathlib.Core.Bool.{Bool, true, false, cond}
use lib.ListN.{length}
use lib.Seq.{sets}
use lib.IntN.{ℤ}
use borrow.Author.Tests.{le-leb, lt-leb}
use Rattle.cbf_pixels.specs.declared.ElementType.{ElementType}
use Rattle.std.specs.Prelude.{None, Some}
use Rattle.cbf_pixels.specs.Pixels.{within, all_within, least, greatest, pack_byte_offset}
use Rattle.cbf_answers.specs.Answers.{Outcome, gives, refuses, written}
use Rattle.cbf_answers.specs.Limits.{pixel_limit}
use Rattle.cbf_answers.specs.Rooms.{room_for}
use Rattle.cbf_answers.proofs.Rooms.{no_room, has_room}
use Rattle.cbf_pixels.specs.PixelCalls.{pack_outcome, pack_output}
use Rattle.cbf_measure.specs.Measure.{size_of}
use Rattle.cbf_pack.specs.Write.{Small, AllSmall}
use Rattle.cbf_pixels.proofs.Integers.{cond-left, cond-right, within-small}
use Rattle.cbf_pixels.proofs.Numbers.{abs-le}
use Rattle.cbf_pixels.proofs.Bounds.{packed-bounds}

-- ---- packing

inside : (t : ElementType) (z : ℤ) → within (least t) (greatest t) z ≡ true → Small z
inside t z w = omega (arith, abs-le z (within-small t z w))

pub all_small : (t : ElementType) (ps : List ℤ) → all_within (least t) (greatest t) ps ≡ true → AllSmall ps
unfolding all_within within
all_small t [] e = tt
all_small t (p ∷ ps) e =
    let w = cond-left (within (least t) (greatest t) p) (all_within (least t) (greatest t) ps) e in
    (inside t p w, all_small t ps (cond-right (within (least t) (greatest t) p) (all_within (least t) (greatest t) ps) e))

-- more pixels than a section may have
pub many_refused : (t : ElementType) (ps : List ℤ) (room : ℕ) → pixel_limit < length ps → pack_outcome t ps room ≡ refuses 14 0
unfolding pack_outcome
many_refused t ps room h = rw (lt-leb (length ps) pixel_limit h)

pub many_kept : (t : ElementType) (ps : List ℤ) (out : List ℕ) → pixel_limit < length ps → pack_output t ps out ≡ out
unfolding pack_output written
many_kept t ps out h = rw (many_refused t ps (length out) h)

pub ruleset too_many = (many_refused, many_kept)

module _ (t : ElementType) (ps : List ℤ) (out : List ℕ) where
  unfoldable pub Packed : Outcome → List ℕ → Type 0
  Packed o out' = (o ≡ pack_outcome t ps (length out)) × (out' ≡ pack_output t ps out)

  -- what the first pass said
  pub measured : (n : ℕ) → Some n ≡ size_of t ps → (all_within (least t) (greatest t) ps ≡ true) × (length (pack_byte_offset ps) ≡ n)
  unfolding size_of
  measured n e = go (all_within (least t) (greatest t) ps) e
    where
      go : (c : Bool) → Some n ≡ cond c (Some (length (pack_byte_offset ps))) None → (c ≡ true) × (length (pack_byte_offset ps) ≡ n)
      go true q = let w : length (pack_byte_offset ps) ≡ n = cc in (refl, w)
      go false q = let w : ⊥ = cc in absurd w

  pub outside : None ≡ size_of t ps → all_within (least t) (greatest t) ps ≡ false
  unfolding size_of
  outside e = go (all_within (least t) (greatest t) ps) e
    where
      go : (c : Bool) → None ≡ cond c (Some (length (pack_byte_offset ps))) None → c ≡ false
      go true q = let w : ⊥ = cc in absurd w
      go false q = refl

  pub pack-outside : length ps ≤ pixel_limit → None ≡ size_of t ps → Packed (refuses 14 0) out
  unfolding Packed pack_outcome pack_output written
  pack-outside h e = rw (le-leb (length ps) pixel_limit h, outside e) (refl, refl)

  module _ (n : ℕ) (h : length ps ≤ pixel_limit) (e : Some n ≡ size_of t ps) where
    -- 14 is not given
    answer : pack_outcome t ps (length out) ≡ room_for (pack_byte_offset ps) (length out)
    unfolding pack_outcome
    answer = rw (le-leb (length ps) pixel_limit h, (measured n e).0) refl

    pub pack-no-room : length out < n → Packed (refuses 15 0) out
    unfolding Packed pack_output
    pack-no-room = no_room (pack_byte_offset ps) out answer (sym (measured n e).1)

    pub may_write : n ≤ length out → AllSmall ps × (0 + length (pack_byte_offset ps) ≤ length out)
    may_write r = let s = measured n e in (all_small t ps s.0, omega (arith, s.1))

    pub pack-done : (out' : List ℕ) → n ≤ length out → out' ≡ sets out 0 (pack_byte_offset ps) → Packed (gives n) out'
    unfolding Packed pack_output
    pack-done out' r q =
        let u = has_room (pack_byte_offset ps) out answer (sym (measured n e).1) r in (u.0, q ∙ u.1)

  -- where there is room for 15 octets a pixel
  pub ample-size : all_within (least t) (greatest t) ps ≡ true → Some (length (pack_byte_offset ps)) ≡ size_of t ps
  unfolding size_of
  ample-size e = rw e

  module _ (h : length ps ≤ pixel_limit) (e : all_within (least t) (greatest t) ps ≡ true) (r : 15 * length ps ≤ length out) where
    pub ample-write : AllSmall ps × (0 + length (pack_byte_offset ps) ≤ length out)
    ample-write = may_write (length (pack_byte_offset ps)) h (ample-size e) (omega (arith, (packed-bounds ps).1))

    pub ample-done : (n : ℕ) (out' : List ℕ) → n ≡ 0 + length (pack_byte_offset ps) → out' ≡ sets out 0 (pack_byte_offset ps) → Packed (gives n) out'
    ample-done n out' q w =
        let i : length (pack_byte_offset ps) ≡ n = omega arith in
        subst (λ (m : ℕ). Packed (gives m) out') i
        (pack-done (length (pack_byte_offset ps)) h (ample-size e) out' (omega (arith, (packed-bounds ps).1)) w)
