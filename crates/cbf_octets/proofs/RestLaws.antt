-- What is left to unpack: one pixel of it, whatever octets are behind those that are there, and its end. Assumes
-- nothing.
use Prim.Native.Nat.{ℕ, suc, ◌+◌, ◌-◌, ◌≤◌}
use native.Mathlib.Omega.{arith}
use mathlib.Core.Path.{◌≡◌, refl, sym, ap, ◌∙◌}
use mathlib.Core.List.{List, [], ◌∷◌, ◌++◌, append-nil}
use mathlib.Core.Bool.{Bool, true, false, cond}
use mathlib.Core.Logic.{◌⊎◌, inl, inr}
use Rattle.std.specs.Prelude.{Option, None, Some}
use Rattle.std.specs.Prelude.{option_map}
use lib.Dec.{leb, eqb}
use lib.ListN.{length, take, drop, length-drop, length-append}
use lib.Seq.{take-append-le, drop-append-le}
use lib.IntN.{ℤ, pos, ◌+ℤ◌}
use borrow.Author.Tests.{le-leb, leb-true, eq-eqb, ne_eqb}
use Rattle.cbf_pixels.specs.declared.ElementType.{ElementType}
use Rattle.cbf_pixels.specs.Octets.{number, half, signed}
use Rattle.cbf_pixels.specs.Pixels.{run_out, got, read_by, widths, within, least, greatest, add_difference, next_pixel}
use Rattle.cbf_pixels.specs.Pixels.{unpack_from, unpack_byte_offset}
use Rattle.cbf_pixels.specs.PixelCalls.{is_some}
use Rattle.cbf_octets.specs.Rest.{rest, onto_pixels, Enough, Behind}
use Rattle.cbf_octets.specs.Difference.{Whole}
use Rattle.cbf_pixels.proofs.Bounds.{total}

pub some-onto : (xs : List ℤ) (r : Option (List ℤ)) → is_some (onto_pixels xs r) ≡ is_some r
unfolding is_some
some-onto xs None = refl
some-onto xs (Some ps) = refl

map-onto : (p : ℤ) (r : Option (List ℤ)) → option_map (λ (ps : List ℤ). p ∷ ps) r ≡ onto_pixels (p ∷ []) r
map-onto p None = refl
map-onto p (Some ps) = refl

no-run-out : {d : ℤ} {os : List ℕ} → got d os ≡ run_out → ⊥
no-run-out e = let z : ◌≡◌ {A = ℕ} 0 1 = cc in omega arith

pub read-enough : (k : ℕ) (ks os : List ℕ) → k + total ks ≤ length os → read_by (k ∷ ks) os ≡ run_out → ⊥
unfolding read_by
read-enough k [] os h e = no-run-out (rw (le-leb k (length os) (omega arith)) at e)
read-enough k (j ∷ ks) os h e =
    go (λ l f. read-enough j ks (drop k os) l f) (eqb (number (take k os)) (half k)) (rw (le-leb k (length os) (omega arith)) at e)
  where
    go : (j + total ks ≤ length (drop k os) → read_by (j ∷ ks) (drop k os) ≡ run_out → ⊥)
        → (b : Bool) → cond b (read_by (j ∷ ks) (drop k os)) (got (signed k (number (take k os))) (drop k os)) ≡ run_out → ⊥
    go again true f = again (omega (arith, length-drop k os)) f
    go again false f = no-run-out f

pub whole_here : (os : List ℕ) (i : ℕ) → i + 15 ≤ length os → Whole os i
unfolding widths
whole_here os i h e = read-enough 1 (2 ∷ 4 ∷ 8 ∷ []) (drop i os) (omega (arith, length-drop i os)) e

-- the next 32 pixels have octets enough, where unpacking does not wait for more
pub enough : (os tail : List ℕ) (i : ℕ) {ended : Bool} → Behind ended tail → (ended ≡ true) ⊎ (480 ≤ length os - i) → Enough os tail i 480
enough os tail i b (inl e) = inl (b e)
enough os tail i b (inr h) = inr (omega arith)

-- ---- octets behind a difference do not change it

got_same : {d e : ℤ} {xs ys : List ℕ} → got d xs ≡ got e ys → (d ≡ e) × (xs ≡ ys)
got_same p = (cc, cc)

-- where k octets are there, those behind them are out of reach
module _ (k : ℕ) (xs tail : List ℕ) (h : k ≤ length xs) where
  there : leb k (length (xs ++ tail)) ≡ true
  there = le-leb k (length (xs ++ tail)) (omega (arith, length-append xs tail))

  number-there : number (take k (xs ++ tail)) ≡ number (take k xs)
  number-there = ap number (take-append-le k xs tail h)

  got-there : {d : ℤ} {ys : List ℕ} → got (signed k (number (take k xs))) (drop k xs) ≡ got d ys
      → got (signed k (number (take k (xs ++ tail)))) (drop k (xs ++ tail)) ≡ got d (ys ++ tail)
  got-there e =
      let s = got_same e in
      rw (number-there, drop-append-le k xs tail h, s.0, s.1)

pub read_behind : (ks xs tail : List ℕ) {d : ℤ} {ys : List ℕ} → read_by ks xs ≡ got d ys → read_by ks (xs ++ tail) ≡ got d (ys ++ tail)
unfolding read_by
read_behind [] xs tail e = absurd (no-run-out (sym e))
read_behind (k ∷ []) xs tail {d} {ys} e = go (leb k (length xs)) refl e
  where
    go : (b : Bool) → leb k (length xs) ≡ b → cond b (got (signed k (number (take k xs))) (drop k xs)) run_out ≡ got d ys
        → read_by (k ∷ []) (xs ++ tail) ≡ got d (ys ++ tail)
    go true q f = let h = leb-true k (length xs) q in rw (there k xs tail h) (got-there k xs tail h f)
    go false q f = absurd (no-run-out (sym f))
read_behind (k ∷ j ∷ ks) xs tail {d} {ys} e = go (λ zs f. read_behind (j ∷ ks) zs tail f) (leb k (length xs)) refl e
  where
    go : ((zs : List ℕ) → read_by (j ∷ ks) zs ≡ got d ys → read_by (j ∷ ks) (zs ++ tail) ≡ got d (ys ++ tail)) → (b : Bool) → leb k (length xs) ≡ b
        → cond b (cond (eqb (number (take k xs)) (half k)) (read_by (j ∷ ks) (drop k xs)) (got (signed k (number (take k xs))) (drop k xs))) run_out ≡ got d ys
        → read_by (k ∷ j ∷ ks) (xs ++ tail) ≡ got d (ys ++ tail)
    go again true q f = let h = leb-true k (length xs) q in rw (there k xs tail h, number-there k xs tail h)
        (more again h (eqb (number (take k xs)) (half k)) f)
      where
        more : ((zs : List ℕ) → read_by (j ∷ ks) zs ≡ got d ys → read_by (j ∷ ks) (zs ++ tail) ≡ got d (ys ++ tail)) → k ≤ length xs → (b : Bool)
            → cond b (read_by (j ∷ ks) (drop k xs)) (got (signed k (number (take k xs))) (drop k xs)) ≡ got d ys
            → cond b (read_by (j ∷ ks) (drop k (xs ++ tail))) (got (signed k (number (take k xs))) (drop k (xs ++ tail))) ≡ got d (ys ++ tail)
        more again h true g = rw (drop-append-le k xs tail h) (again (drop k xs) g)
        more again h false g = rw (number-there k xs tail h) at (got-there k xs tail h g)
    go again false q f = absurd (no-run-out (sym f))

-- ---- the next pixel

module _ (t : ElementType) (os tail : List ℕ) (z : ℤ) (i m : ℕ) where
  one_more_lem : rest t os tail z i (1 + m) ≡ rest t os tail z i (suc m)
  one_more_lem = let e : 1 + m ≡ suc m = omega arith in ap (rest t os tail z i) e

  module _ (d : ℤ) (j : ℕ) (e : read_by widths (drop i os) ≡ got d (drop j os)) where
    pub rest-next : within (least t) (greatest t) (z +ℤ d) ≡ true → rest t os tail z i (1 + m) ≡ onto_pixels ((z +ℤ d) ∷ []) (rest t os tail (z +ℤ d) j m)
    unfolding rest unpack_from next_pixel add_difference
    rest-next w =
        one_more_lem ∙ rw (read_behind widths (drop i os) tail e, w) (map-onto (z +ℤ d) (unpack_from (least t) (greatest t) (z +ℤ d) m (drop j os ++ tail)))

    pub rest-outside : within (least t) (greatest t) (z +ℤ d) ≡ false → rest t os tail z i (1 + m) ≡ None
    unfolding rest unpack_from next_pixel add_difference
    rest-outside w = one_more_lem ∙ rw (read_behind widths (drop i os) tail e, w)

  pub rest-run-out : read_by widths (drop i os) ≡ run_out → tail ≡ [] → rest t os tail z i (1 + m) ≡ None
  unfolding rest unpack_from next_pixel add_difference
  rest-run-out e n = one_more_lem ∙ rw (n, append-nil (drop i os), e)

-- ---- the start and the end

pub rest-start : (t : ElementType) (os : List ℕ) (n : ℕ) → unpack_byte_offset t n os ≡ rest t os [] (pos 0) 0 n
unfolding unpack_byte_offset rest
rest-start t os n = ap (unpack_from (least t) (greatest t) (pos 0) n) (sym (append-nil os))

pub rest_end_lem : (t : ElementType) (os : List ℕ) (z : ℤ) (i : ℕ) → i ≤ length os → is_some (rest t os [] z i 0) ≡ eqb i (length os)
unfolding rest unpack_from is_some
rest_end_lem t os z i h = ap (λ (l : List ℕ). is_some (unpack_from (least t) (greatest t) z 0 l)) (append-nil (drop i os)) ∙ go (drop i os) (length-drop i os)
  where
    go : (l : List ℕ) → length l ≡ length os - i → is_some (unpack_from (least t) (greatest t) z 0 l) ≡ eqb i (length os)
    go [] e = let f : i ≡ length os = omega arith in sym (eq-eqb i (length os) f)
    go (o ∷ l) e = sym (ne_eqb i (length os) (λ f. omega arith))
