-- What the parts of packing and unpacking say of their work: for the contracts of the private functions. Nothing here
-- is part of what the public calls promise.
use Rattle.std.proofs.Common.{◌≡◌, ℕ, zero, suc, ◌+◌, ◌-◌, ◌<◌, ◌≤◌, List, [], ◌∷◌, ◌++◌, length, get_or, take, drop, ℤ, pos, ◌-ℤ◌, sym, refl, ap, ◌∙◌, subst, append_assoc, append-nil, add-one, arith, drop-cons, drop-drop, take-add}
use Rattle.cbf_pixels.specs.Pixels.{pack_difference, pack_from}
use Rattle.cbf_measure.specs.Measure.{part}

-- the last of the pixels, where z stands before them
unfoldable pub last_of : ℤ → List ℤ → ℤ
last_of z [] = z
last_of z (p ∷ ps) = last_of p ps

pub part-add : (ps : List ℤ) (k n m : ℕ) → part ps k (n + m) ≡ part ps k n ++ part ps (k + n) m
part-add ps k n m = take-add n m (drop k ps) ∙ ap (λ (l : List ℤ). part ps k n ++ take m l) (drop-drop n k ps)

pub part-one : (ps : List ℤ) (k : ℕ) → k < length ps → part ps k 1 ≡ get_or ps k (pos 0) ∷ []
part-one ps k h = ap (take 1) (drop-cons ps k (pos 0) h)

-- ---- the last pixel

pub last-append : (z : ℤ) (ps qs : List ℤ) → last_of z (ps ++ qs) ≡ last_of (last_of z ps) qs
unfolding last_of
last-append z [] qs = refl
last-append z (p ∷ ps) qs = last-append p ps qs

pub last-add : (z : ℤ) (ps : List ℤ) (k n m : ℕ) → last_of z (part ps k (n + m)) ≡ last_of (last_of z (part ps k n)) (part ps (k + n) m)
last-add z ps k n m = ap (last_of z) (part-add ps k n m) ∙ last-append z (part ps k n) (part ps (k + n) m)

pub last-part : (z : ℤ) (ps : List ℤ) (k n : ℕ) → k + n < length ps → last_of z (part ps k (n + 1)) ≡ get_or ps (k + n) (pos 0)
unfolding last_of
last-part z ps k n h = last-add z ps k n 1 ∙ ap (last_of (last_of z (part ps k n))) (part-one ps (k + n) h)

pub last-at : (z : ℤ) (ps : List ℤ) (k n i : ℕ) → i + 1 ≡ k + n → k ≤ i → k + n ≤ length ps → last_of z (part ps k n) ≡ get_or ps i (pos 0)
last-at z ps k n i e l h =
    let m : n ≡ i - k + 1 = omega arith in
    let q : k + (i - k) ≡ i = omega arith in
    ap (λ (r : ℕ). last_of z (part ps k r)) m ∙ last-part z ps k (i - k) (omega arith) ∙ ap (λ (r : ℕ). get_or ps r (pos 0)) q

-- what holds of z and of each pixel of a part holds of the last one
pub last_has : (P : ℤ → Type 0) (z : ℤ) (ps : List ℤ) (k n : ℕ) → P z → k + n ≤ length ps
    → ((j : ℕ) → j < n → P (get_or ps (k + j) (pos 0))) → P (last_of z (part ps k n))
unfolding last_of
last_has P z ps k zero h l each = h
last_has P z ps k (suc n) h l each =
    subst (λ (m : ℕ). P (last_of z (part ps k m))) (add-one n)
    (subst P (sym (last-part z ps k n (omega arith))) (each n (omega arith)))

-- ---- the octets

pub pack-append : (z : ℤ) (ps qs : List ℤ) → pack_from z (ps ++ qs) ≡ pack_from z ps ++ pack_from (last_of z ps) qs
unfolding pack_from last_of
pack-append z [] qs = refl
pack-append z (p ∷ ps) qs =
    ap (λ (l : List ℕ). pack_difference (p -ℤ z) ++ l) (pack-append p ps qs)
    ∙ sym (append_assoc (pack_difference (p -ℤ z)) (pack_from p ps) (pack_from (last_of p ps) qs))

pub pack-add : (z : ℤ) (ps : List ℤ) (k n m : ℕ) → pack_from z (part ps k (n + m)) ≡ pack_from z (part ps k n)
    ++ pack_from (last_of z (part ps k n)) (part ps (k + n) m)
pack-add z ps k n m = ap (pack_from z) (part-add ps k n m) ∙ pack-append z (part ps k n) (part ps (k + n) m)

pub pack_one : (z : ℤ) (ps : List ℤ) (k : ℕ) → k < length ps → pack_from z (part ps k 1) ≡ pack_difference (get_or ps k (pos 0) -ℤ z)
unfolding pack_from
pack_one z ps k h = ap (pack_from z) (part-one ps k h) ∙ append-nil (pack_difference (get_or ps k (pos 0) -ℤ z))
