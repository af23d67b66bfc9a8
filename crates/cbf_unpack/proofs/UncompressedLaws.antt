-- Uncompressed pixels read one after another, at any width. Assumes nothing.
use Prim.Native.Nat.{ℕ, zero, suc, ◌+◌, ◌*◌, ◌<◌, ◌≤◌}
use native.Mathlib.Omega.{arith}
use native.Mathlib.Nat.{mul-le-mul_left}
use native.Mathlib.Numerals.{add-one}
use mathlib.Core.Path.{◌≡◌, refl, sym, ap, ap₂, ◌∙◌}
use mathlib.Core.List.{List, [], ◌∷◌, ◌++◌, append_assoc}
use mathlib.Core.Bool.{Bool, true, false, cond}
use Rattle.std.specs.Prelude.{Option, None, Some}
use Rattle.std.specs.Prelude.{option_map}
use lib.Dec.{leb}
use lib.ListN.{length, take, drop, set, length-append, length-drop, take-append-drop}
use lib.Seq.{length-take-le, take-append-le, drop-append-le, take_at, drop_at, drop-drop, set_split}
use lib.IntN.{ℤ}
use borrow.Author.Tests.{le-leb, leb-true}
use Rattle.cbf_pixels.specs.declared.ElementType.{ElementType}
use Rattle.cbf_pixels.specs.Octets.{number}
use Rattle.cbf_pixels.specs.declared.ElementType.TheVariants.{U8, S8, U16, S16, U32, S32}
use Rattle.cbf_pixels.specs.Uncompressed.{octets_per, is_signed, pixel_of, read_pixels, unpack_uncompressed}
use Rattle.cbf_pixels.specs.PixelCalls.{is_some, pixels_of}
use Rattle.cbf_unpack.specs.Uncompressed.{Width}

module _ (s : Bool) (k : ℕ) where
  -- the first n pixels
  pub pixels_in : ℕ → List ℕ → List ℤ
  pixels_in zero os = []
  pixels_in (suc n) os = pixel_of s k (number (take k os)) ∷ pixels_in n (drop k os)

  -- the pixel after n of them
  unfoldable pub pixel_after : ℕ → List ℕ → ℤ
  pixel_after n os = pixel_of s k (number (take k (drop (k * n) os)))

  pub read_all : (n : ℕ) (os : List ℕ) → length os ≡ k * n → read_pixels s k n os ≡ Some (pixels_in n os)
  unfolding read_pixels pixels_in
  read_all zero [] e = refl
  read_all zero (o ∷ os) e = let y : ⊥ = omega arith in absurd y
  read_all (suc n) os e =
      rw (le-leb k (length os) (omega arith), read_all n (drop k os) (omega (arith, length-drop k os)))

  pub read_none : (n : ℕ) (os : List ℕ) → (length os ≡ k * n → ⊥) → is_some (read_pixels s k n os) ≡ false
  unfolding read_pixels is_some
  read_none zero [] ne = absurd (ne (omega arith))
  read_none zero (o ∷ os) ne = refl
  read_none (suc n) os ne = go (leb k (length os)) refl (read_pixels s k n (drop k os)) (λ h. read_none n (drop k os)
      (λ e. ne (omega (arith, length-drop k os))))
    where
      go : (b : Bool) → leb k (length os) ≡ b → (o : Option (List ℤ)) → (k ≤ length os → is_some o ≡ false)
          → is_some (cond b (option_map (λ (ps : List ℤ). pixel_of s k (number (take k os)) ∷ ps) o) None) ≡ false
      go true h None ih = refl
      go true h (Some ps) ih = ih (leb-true k (length os) h)
      go false h o ih = refl

  pixels-add : (n m : ℕ) (os : List ℕ) → pixels_in (n + m) os ≡ pixels_in n os ++ pixels_in m (drop (k * n) os)
  unfolding pixels_in
  pixels-add zero m os = let e : k * 0 ≡ 0 = omega arith in let f : 0 + m ≡ m = omega arith in rw (e, f)
  pixels-add (suc n) m os =
      let e : k + k * n ≡ k * suc n = omega arith in
      let f : suc n + m ≡ suc (n + m) = omega arith in
      rw f
      (ap (λ (l : List ℤ). pixel_of s k (number (take k os)) ∷ l)
      (pixels-add n m (drop k os) ∙ ap (λ (l : List ℕ). pixels_in n (drop k os) ++ pixels_in m l) (drop-drop (k * n) k os ∙ ap (λ (i : ℕ). drop i os) e)))

  length-pixels : (n : ℕ) (os : List ℕ) → length (pixels_in n os) ≡ n
  unfolding pixels_in
  length-pixels zero os = refl
  length-pixels (suc n) os = ap suc (length-pixels n (drop k os))

  -- octets behind those of the pixels do not matter
  pub pixels-append : (n : ℕ) (os rest : List ℕ) → length os ≡ k * n → pixels_in n (os ++ rest) ≡ pixels_in n os
  unfolding pixels_in
  pixels-append zero os rest e = refl
  pixels-append (suc n) os rest e =
      let h : k ≤ length os = omega arith in
      rw (take-append-le k os rest h, drop-append-le k os rest h, pixels-append n (drop k os) rest (omega (arith, length-drop k os)))

  -- n pixels stand at the front of out, which was out₀
  pub record Front (n : ℕ) (os : List ℕ) (out₀ out : List ℤ) : Type 0 where
    pub front : take n out ≡ pixels_in n os
    pub beyond : drop n out ≡ drop n out₀
    pub size : length out ≡ length out₀

  pub front-none : (os : List ℕ) (out : List ℤ) → Front 0 os out out
  unfolding pixels_in
  front-none os out = record { front = refl; beyond = refl; size = refl }

  -- m pixels more
  pub front-run : (n m : ℕ) (os : List ℕ) (out₀ out more : List ℤ) → Front n os out₀ out → n + m ≤ length out
      → more ≡ pixels_in m (drop (k * n) os) ++ drop (n + m) out → Front (n + m) os out₀ (take n out ++ more)
  front-run n m os out₀ out more F h e =
      let q = pixels_in m (drop (k * n) os) in
      let l : length (take n out ++ q) ≡ n + m = length-append (take n out) q
      ∙ ap₂ ◌+◌ (length-take-le n out (omega arith)) (length-pixels m (drop (k * n) os)) in
      let a : take n out ++ more ≡ take n out ++ q ++ drop (n + m) out = ap (λ (x : List ℤ). take n out ++ x) e
      ∙ sym (append_assoc (take n out) q (drop (n + m) out)) in
      record {
        front = ap (take (n + m)) a ∙ take_at (take n out ++ q) (drop (n + m) out) (n + m) l ∙ ap (λ (x : List ℤ). x ++ q) F.front ∙ sym (pixels-add n m os);
        beyond =
            ap (drop (n + m)) a
            ∙ drop_at (take n out ++ q) (drop (n + m) out) (n + m) l
            ∙ sym (drop-drop m n out) ∙ ap (drop m) F.beyond ∙ drop-drop m n out₀;
        size =
            ap length a
            ∙ length-append (take n out ++ q) (drop (n + m) out)
            ∙ omega (arith, l, length-drop (n + m) out, F.size);
      }

  pub front-more : (n : ℕ) (os : List ℕ) (out₀ out : List ℤ) (z : ℤ) → Front n os out₀ out → n < length out → z
      ≡ pixel_after n os → Front (n + 1) os out₀ (set out n z)
  unfolding pixels_in pixel_after
  front-more n os out₀ out z F h e =
      rw (set_split out n z h) (front-run n 1 os out₀ out (z ∷ drop (suc n) out) F (omega arith) (ap₂ (λ (y : ℤ) (i : ℕ). y ∷ drop i out) e (sym (add-one n))))

  pub front-all : (n count : ℕ) (os : List ℕ) (out₀ out : List ℤ) → Front n os out₀ out → n ≡ count → length os
      ≡ k * count → out ≡ pixels_of (read_pixels s k count os) ++ drop count out₀
  unfolding pixels_of
  front-all n count os out₀ out F e h =
      sym (take-append-drop n out)
      ∙ ap₂ ◌++◌ F.front F.beyond
      ∙ ap (λ (m : ℕ). pixels_in m os ++ drop m out₀) e
      ∙ ap (λ (o : Option (List ℤ)). pixels_of o ++ drop count out₀) (sym (read_all count os h))

  pub read_some_lem : (n : ℕ) (os : List ℕ) → length os ≡ k * n → is_some (read_pixels s k n os) ≡ true
  unfolding is_some
  read_some_lem n os e = ap is_some (read_all n os e)

-- ---- a type's pixels, by its width and its sign

pub loaded : (t : ElementType) (s : Bool) (w n count : ℕ) (os : List ℕ) (out₀ out : List ℤ) → s ≡ is_signed t → w
    ≡ octets_per t → Front s w n os out₀ out → n ≡ count → length os ≡ octets_per t * count
    → out ≡ pixels_of (unpack_uncompressed t count os) ++ drop count out₀
unfolding unpack_uncompressed
loaded t s w n count os out₀ out e f F u h =
    front-all s w n count os out₀ out F u (h ∙ ap (λ (k : ℕ). k * count) (sym f))
    ∙ ap₂ (λ (b : Bool) (k : ℕ). pixels_of (read_pixels b k count os) ++ drop count out₀) e f

pub else-four : (w : ℕ) → Width w → (w ≡ 1 → ⊥) → (w ≡ 2 → ⊥) → w ≡ 4
else-four w W a b = go W.type W.is
  where
    go : (t : ElementType) → w ≡ octets_per t → w ≡ 4
    go U8 e = absurd (a e)
    go S8 e = absurd (a e)
    go U16 e = absurd (b e)
    go S16 e = absurd (b e)
    go U32 e = e
    go S32 e = e

-- the pixel of the octets at i, where their number was read
pub pixel-is : (s : Bool) (i : ℕ) (os : List ℕ) {k w n : ℕ} → n ≡ number (take k (drop i os)) → w ≡ k → pixel_of s k n
    ≡ pixel_of s w (number (take w (drop i os)))
pixel-is s i os {k} e f = ap (pixel_of s k) e ∙ ap (λ (m : ℕ). pixel_of s m (number (take m (drop i os)))) (sym f)

-- octets for one more pixel
pub next_fits : (w k count : ℕ) → k < count → w * k + w ≤ w * count
next_fits w k count h = let e : w * k + w ≡ w * suc k = omega arith in rw e (mul-le-mul_left w h)
