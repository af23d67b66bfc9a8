-- Packing and unpacking lists of pixels, there and back. Assumes nothing.
use Prim.Native.Nat.{ℕ, zero, suc, ◌/◌, ◌^◌, ◌<◌, ◌≤◌}
use native.Mathlib.Omega.{arith}
use mathlib.Core.Path.{◌≡◌, refl, sym, ap, ◌∙◌, subst}
use mathlib.Core.Logic.{◌↔◌}
use mathlib.Core.List.{List, [], ◌∷◌, ◌++◌}
use mathlib.Core.Bool.{Bool, true, false, cond}
use Rattle.std.specs.Prelude.{Option, None, Some}
use Rattle.std.specs.Prelude.{option_map}
use lib.Dec.{ltb, lit<}
use lib.ListN.{length, length-append}
use lib.IntN.{ℤ, pos, nat_abs, ◌+ℤ◌, ◌-ℤ◌}
use lib.Signed.{mag, le_z}
use Rattle.cbf_pixels.specs.declared.ElementType.{ElementType}
use Rattle.cbf_pixels.specs.Octets.{half, octets, bits, Octets, no_octet, octet}
use Rattle.cbf_pixels.specs.Pixels.{Read, run_out, got, read_by, pack_by, widths, pack_difference, within}
use Rattle.cbf_pixels.specs.Pixels.{all_within, least, greatest, fails, pixel, add_difference, next_pixel, follow}
use Rattle.cbf_pixels.specs.Pixels.{unpack_from, unpack_byte_offset, pack_from, pack_byte_offset, Shortest}
use Rattle.cbf_pixels.proofs.Integers.{cond-left, cond-right, between, least-small, greatest-small, mag-sub}
use Rattle.cbf_pixels.proofs.Integers.{there, back}
use Rattle.cbf_pixels.proofs.Numbers.{octets-are}
use Rattle.cbf_pixels.proofs.Reading.{read-pack}
use Rattle.cbf_pixels.proofs.Shortest.{Least, read-least}

-- ---- what is packed unpacks

pub next-pack : (lo hi z p : ℤ) (os : List ℕ) → mag z < 2 ^ 33 → mag p < 2 ^ 33 → within lo hi p ≡ true
    → next_pixel lo hi z (pack_difference (p -ℤ z) ++ os) ≡ pixel p os
unfolding next_pixel pack_difference widths half
next-pack lo hi z p os h k w =
    let m = mag-sub p z k h in
    let f : mag (p -ℤ z) < 256 ^ 8 / 2 = omega arith in
    rw (read-pack (1 ∷ 2 ∷ 4 ∷ 8 ∷ []) (p -ℤ z) os f, there z p, w)

pub from-pack : (lo hi z : ℤ) (ps : List ℤ) → mag lo < 2 ^ 33 → mag hi < 2 ^ 33 → mag z < 2 ^ 33 → all_within lo hi ps
    ≡ true → unpack_from lo hi z (length ps) (pack_from z ps) ≡ Some ps
unfolding unpack_from pack_from all_within within
from-pack lo hi z [] l g h a = refl
from-pack lo hi z (p ∷ ps) l g h a =
    let w = cond-left (within lo hi p) (all_within lo hi ps) a in
    let a' = cond-right (within lo hi p) (all_within lo hi ps) a in
    let k = between (2 ^ 33) lo hi p l g (cond-left (le_z lo p) (le_z p hi) w) (cond-right (le_z lo p) (le_z p hi) w) in
    rw (next-pack lo hi z p (pack_from p ps) h k w, from-pack lo hi p ps l g k a')

pub unpack-pack : (t : ElementType) (ps : List ℤ) → all_within (least t) (greatest t) ps ≡ true → unpack_byte_offset t (length ps) (pack_byte_offset ps) ≡ Some ps
unfolding unpack_byte_offset pack_byte_offset
unpack-pack t ps a = from-pack (least t) (greatest t) (pos 0) ps (least-small t) (greatest-small t) (lit< tt) a

-- ---- what unpacks, packed again

pub record Again (lo hi z : ℤ) (n : ℕ) (os : List ℕ) (ps : List ℤ) : Type 0 where
  pub few : length (pack_from z ps) ≤ length os
  pub same : length (pack_from z ps) ≡ length os → pack_from z ps ≡ os
  pub count : length ps ≡ n
  pub inside : all_within lo hi ps ≡ true

no-some : {X : Type 0} {A : Type 0} {a : A} → None ≡ Some a → X
no-some e = let z : ◌≡◌ {A = ℕ} 0 1 = cc in let y : ⊥ = omega arith in absurd y

pub again : (lo hi z : ℤ) (n : ℕ) (os : List ℕ) (ps : List ℤ) → Octets os → unpack_from lo hi z n os ≡ Some ps → Again lo hi z n os ps
unfolding unpack_from pack_from all_within next_pixel follow add_difference pack_difference widths
again lo hi z zero [] ps r e =
    let q : [] ≡ ps = cc in
    subst (λ (l : List ℤ). Again lo hi z 0 [] l) q (record { few = omega arith; same = λ _. refl; count = refl; inside = refl })
again lo hi z zero (o ∷ os) ps r e = no-some e
again lo hi z (suc n) os ps r e =
    go (λ p l qs rl h. again lo hi p n l qs rl h) (read_by (1 ∷ 2 ∷ 4 ∷ 8 ∷ []) os) refl e
  where
    at : (d : ℤ) (rest : List ℕ) → Least (pack_difference d) rest os → within lo hi (z +ℤ d) ≡ true
        → (q : Option (List ℤ)) → ((qs : List ℤ) → q ≡ Some qs → Again lo hi (z +ℤ d) n rest qs)
        → option_map (λ (l : List ℤ). (z +ℤ d) ∷ l) q ≡ Some ps → Again lo hi z (suc n) os ps
    at d rest L w None k e' = no-some e'
    at d rest L w (Some qs) k e' =
        let A = k qs refl in
        let q : (z +ℤ d) ∷ qs ≡ ps = cc in
        let lf = L.few in
        let af = A.few in
        let la = length-append (pack_difference d) (pack_from (z +ℤ d) qs) in
        let head : pack_from z ((z +ℤ d) ∷ qs) ≡ pack_difference d ++ pack_from (z +ℤ d) qs =
        ap (λ (x : ℤ). pack_difference x ++ pack_from (z +ℤ d) qs) (back z d) in
        let hl = ap length head in
        subst (λ (l : List ℤ). Again lo hi z (suc n) os l) q
        (record {
          few = omega arith;
          same = λ u. head ∙ ap (λ (l : List ℕ). pack_difference d ++ l) (A.same (omega arith)) ∙ L.same (omega arith);
          count = ap suc A.count;
          inside = rw w A.inside;
        })

    in-range : ((p : ℤ) (l : List ℕ) (qs : List ℤ) → Octets l → unpack_from lo hi p n l ≡ Some qs → Again lo hi p n l
        qs) → (d : ℤ) (rest : List ℕ) → Least (pack_difference d) rest os → (b : Bool) → within lo hi (z +ℤ d) ≡ b
        → follow (cond b (pixel (z +ℤ d) rest) fails) (λ p l. unpack_from lo hi p n l) ≡ Some ps → Again lo hi z (suc n) os ps
    in-range ih d rest L true w e' =
        at d rest L w (unpack_from lo hi (z +ℤ d) n rest) (λ qs h. ih (z +ℤ d) rest qs L.rest_octets h) e'
    in-range ih d rest L false w e' = no-some e'

    go : ((p : ℤ) (l : List ℕ) (qs : List ℤ) → Octets l → unpack_from lo hi p n l ≡ Some qs → Again lo hi p n l qs)
        → (a : Read) → read_by (1 ∷ 2 ∷ 4 ∷ 8 ∷ []) os ≡ a → follow (add_difference lo hi z a) (λ p l. unpack_from lo hi
        p n l) ≡ Some ps → Again lo hi z (suc n) os ps
    go ih run_out h e' = no-some e'
    go ih (got d rest) h e' =
        in-range ih d rest (read-least (1 ∷ 2 ∷ 4 ∷ 8 ∷ []) d rest os (lit< tt, (lit< tt, (lit< tt, (lit< tt, tt)))) r h) (within lo hi (z +ℤ d)) refl e'

-- what is packed are octets
octets-append : {a b : List ℕ} → Octets a → Octets b → Octets (a ++ b)
octets-append no_octet s = s
octets-append (octet h r) s = octet h (octets-append r s)

packed-by : (ks : List ℕ) (d : ℤ) → Octets (pack_by ks d)
unfolding pack_by
packed-by [] d = no_octet
packed-by (k ∷ []) d = octets-are k (bits k d)
packed-by (k ∷ j ∷ ks) d = go (ltb (nat_abs d) (half k)) (packed-by (j ∷ ks) d)
  where
    go : (b : Bool) → Octets (pack_by (j ∷ ks) d) → Octets (cond b (octets k (bits k d)) (octets k (half k) ++ pack_by (j ∷ ks) d))
    go true h = octets-are k (bits k d)
    go false h = octets-append (octets-are k (half k)) h

pub packed-octets : (z : ℤ) (ps : List ℤ) → Octets (pack_from z ps)
unfolding pack_from pack_difference
packed-octets z [] = no_octet
packed-octets z (p ∷ ps) = octets-append (packed-by widths (p -ℤ z)) (packed-octets p ps)

pub repack : (t : ElementType) (n : ℕ) (os : List ℕ) (ps : List ℤ) → Octets os → unpack_byte_offset t n os ≡ Some ps → (pack_byte_offset ps ≡ os) ↔ Shortest t n os
unfolding unpack_byte_offset pack_byte_offset Shortest
repack t n os ps r e = (to, from)
  where
    A : Again (least t) (greatest t) (pos 0) n os ps
    A = again (least t) (greatest t) (pos 0) n os ps r e

    to : pack_from (pos 0) ps ≡ os → (os' : List ℕ) → Octets os' → unpack_from (least t) (greatest t) (pos 0) n os'
        ≡ unpack_from (least t) (greatest t) (pos 0) n os → length os ≤ length os'
    to q os' r' e' =
        let f = (again (least t) (greatest t) (pos 0) n os' ps r' (e' ∙ e)).few in
        let l = ap length q in
        omega arith

    from : ((os' : List ℕ) → Octets os' → unpack_from (least t) (greatest t) (pos 0) n os' ≡ unpack_from (least t)
        (greatest t) (pos 0) n os → length os ≤ length os') → pack_from (pos 0) ps ≡ os
    from s =
        let back_to : unpack_from (least t) (greatest t) (pos 0) n (pack_from (pos 0) ps) ≡ Some ps =
        subst (λ (m : ℕ). unpack_from (least t) (greatest t) (pos 0) m (pack_from (pos 0) ps) ≡ Some ps) A.count
        (unpack-pack t ps A.inside) in
        let h = s (pack_from (pos 0) ps) (packed-octets (pos 0) ps) (back_to ∙ sym e) in
        let f = A.few in
        A.same (omega arith)
