-- The first pass of unpacking, step by step. Assumes nothing.
use Rattle.std.proofs.Common.{◌≡◌, ℕ, ◌+◌, ◌*◌, ◌-◌, ◌/◌, ◌^◌, ◌<◌, ◌≤◌, Bool, true, false, ltb, leb, eqb, List, [], length, get_or, ℤ, pos, nat_abs, ◌+ℤ◌, ◌-ℤ◌, w64, to_z, of_z, refl, sym, ap, ap₂, ◌∙◌, subst, inl, inr, arith, ltb-true, ltb-false, leb-true, leb-false}
use lib.Bits.{bit_or, or_shr, or_block, or_self, or_lt, or_shifted}
use lib.IntN.{sub_ℕ, +ℤ_idl, +ℤ_comm}
use lib.Signed.{mag}
use mir.Facts.{to_z_pos}
use Rattle.cbf_pixels.specs.declared.ElementType.{ElementType}
use Rattle.cbf_octets.specs.declared.Part.{Part}
use Rattle.cbf_pixels.specs.Octets.{signed}
use Rattle.cbf_pixels.specs.Pixels.{within, least, greatest, unpack_byte_offset}
use Rattle.cbf_pixels.specs.PixelCalls.{is_some}
use Rattle.cbf_octets.specs.Rest.{rest, Behind, Stopped}
use Rattle.cbf_octets.specs.Difference.{Took}
use Rattle.cbf_sums.specs.Passes.{biased_least, biased_zero, biased_greatest, pixel_at, Top, Between, Passes, Fails}
use Rattle.cbf_sums.specs.Passes.{Failed, Passed}
use Rattle.cbf_validate.specs.Validate.{Glides, Summed, Adds, Summable, Invalid, Valid}
use Rattle.cbf_pixels.proofs.Bitwise.{or_left, or_right}
use Rattle.cbf_pixels.proofs.Integers.{never, within-small, subℕ-pos, held}
use Rattle.cbf_pixels.proofs.Numbers.{mag-le}
use Rattle.cbf_octets.proofs.DifferenceLaws.{pos-sub, clamped-small}
use Rattle.cbf_octets.proofs.PlainLaws.{plain-took}
use Rattle.cbf_octets.proofs.RestLaws.{rest-start, rest_end_lem}
use Rattle.cbf_sums.proofs.PassesLaws.{sub-sum, zero-between, top-is, top_small, clamped-reach, within-between}
use Rattle.cbf_sums.proofs.PassesLaws.{within-beyond, counts, step_in, step-out, passes_none, passes-passes}
use Rattle.cbf_sums.proofs.PassesLaws.{passes-fails, fails_more}

pub held-is : (d : ℤ) → nat_abs d ≤ 2 ^ 36 → to_z w64 (of_z w64 d) ≡ d
held-is d h = held d (omega (arith, mag-le d))

pub held_small : (d : ℤ) → nat_abs d ≤ 2 ^ 36 → nat_abs (to_z w64 (of_z w64 d)) ≤ 2 ^ 36
held_small d h = subst (λ (z : ℤ). nat_abs z ≤ 2 ^ 36) (sym (held-is d h)) h

-- a difference that was read, as it is held
pub took-small : {os : List ℕ} {i j : ℕ} {value : ℤ} → Took os i value j → nat_abs value ≤ 2 ^ 36
took-small T = let h = clamped-small T.difference in let e = ap nat_abs T.near in omega arith

pub took-sum : (biased biased' : ℕ) {os : List ℕ} {i j : ℕ} {value : ℤ} → Took os i value j → pos biased'
    ≡ pos biased +ℤ to_z w64 (of_z w64 value) → pos biased' ≡ pos biased +ℤ value
took-sum biased biased' {value = value} T e = e ∙ ap (λ (z : ℤ). pos biased +ℤ z) (held-is value (took-small T))

-- ---- the bitwise or of biased pixels

or-in : {top : ℕ} → Top top → (a b : ℕ) → Between top a → Between top b → bit_or a b ≤ top
or-in {top} T a b h k =
    let s = T.size in
    let w = T.whole in
    let x : a - biased_least < 2 ^ T.exponent = omega (arith, h.0, h.1) in
    let y : b - biased_least < 2 ^ T.exponent = omega (arith, k.0, k.1) in
    let ea : T.parts * 2 ^ T.exponent + (a - biased_least) ≡ a = omega (arith, h.0) in
    let eb : T.parts * 2 ^ T.exponent + (b - biased_least) ≡ b = omega (arith, k.0) in
    let e : bit_or a b ≡ bit_or T.parts T.parts * 2 ^ T.exponent + bit_or (a - biased_least) (b - biased_least)
    = ap₂ bit_or (sym ea) (sym eb) ∙ or_block T.exponent T.parts T.parts (a - biased_least) (b - biased_least) x y in
    let f : bit_or T.parts T.parts * 2 ^ T.exponent ≡ biased_least = ap (λ (n : ℕ). n * 2 ^ T.exponent) (or_self T.parts) ∙ w in
    omega (arith, e, f, or_lt T.exponent (a - biased_least) (b - biased_least) x y)

-- a pixel below its type sets a bit above all of the type
or-under : (a b : ℕ) → biased_least ≤ a → a < biased_least + 2 ^ 32 → 2 ^ 39 ≤ b → b < biased_least → biased_least + 2 ^ 32 ≤ bit_or a b
or-under a b h k l m =
    let x : a / 2 ^ 32 ≡ 256 = omega arith in
    let y : b / 2 ^ 32 < 2 ^ 8 = omega arith in
    let y' : 128 ≤ b / 2 ^ 32 = omega arith in
    let e : bit_or a b / 2 ^ 32 ≡ 256 + b / 2 ^ 32 = or_shr a b 32 ∙ ap (λ (n : ℕ). bit_or n (b / 2 ^ 32)) x ∙ or_shifted 1 8 (b / 2 ^ 32) y in
    omega (arith, e)

-- ---- pixels summed up

pub summed-start : (top : ℕ) (os : List ℕ) (biased i : ℕ) → Between top biased → Summed top os biased i 0 biased biased_least i
summed-start top os biased i b =
    record {
      good = λ _. (b, passes_none top os biased i);
      bad = λ h. let y : ⊥ = omega (arith, b.0, b.1) in absurd y;
      least = omega arith;
    }

module _ (top : ℕ) (os : List ℕ) (b₀ i₀ n biased all i biased' j : ℕ) (value : ℤ) (R : Top top) (X : Summed top os b₀ i₀ n biased all i)
    (T : Took os i value j) (e : pos biased' ≡ pos biased +ℤ value) (far : 2 ^ 39 ≤ biased') where
  pub summed-step : Summed top os b₀ i₀ (n + 1) biased' (bit_or all biased') j
  summed-step = record { good = good; bad = bad; least = omega (arith, or_left all biased', X.least) }
    where
      good : bit_or all biased' ≤ top → Between top biased' × Passes top os b₀ i₀ (n + 1) biased' j
      good g =
          let a : all ≤ top = omega (arith, or_left all biased') in
          let r : biased' ≤ top = omega (arith, or_right all biased') in
          let l : biased_least ≤ biased' = go (ltb biased' biased_least) refl a g in
          let G = X.good a in
          ((l, r), passes-passes top os b₀ i₀ n 1 biased i biased' j G.1 (step_in T G.0 e (l, r)))
        where
          go : (c : Bool) → ltb biased' biased_least ≡ c → all ≤ top → bit_or all biased' ≤ top → biased_least ≤ biased'
          go true q a g =
              let u = ltb-true biased' biased_least q in
              let s = top_small top R in
              let y : ⊥ = omega (arith, or-under all biased' X.least (omega arith) far u) in
              absurd y
          go false q a g = ltb-false biased' biased_least q

      bad : top < bit_or all biased' → (tail : List ℕ) → Fails top os tail b₀ i₀ (n + 1)
      bad g tail = go (ltb top all) refl
        where
          go : (c : Bool) → ltb top all ≡ c → Fails top os tail b₀ i₀ (n + 1)
          go true q = fails_more top os b₀ i₀ n (n + 1) tail (omega arith) (X.bad (ltb-true top all q) tail)
          go false q =
              let a = ltb-false top all q in
              let G = X.good a in
              passes-fails top os b₀ i₀ n 1 biased i tail G.1
              (step-out T G.0 e (λ r. let y : ⊥ = omega (arith, or-in R all biased' (X.least, a) r) in absurd y) tail)

pub adds_none : (os : List ℕ) (biased all i : ℕ) → i ≤ length os → Adds os 0 biased all i biased all i
adds_none os biased all i h =
    record {
      sums = λ top b₀ i₀ n₀ R X. subst (λ (n : ℕ). Summed top os b₀ i₀ n biased all i) (omega arith) X;
      low = omega arith;
      high = omega arith;
      reach = omega arith;
      inside = h;
    }

pub adds_one : (os : List ℕ) (biased all i biased' j : ℕ) (value : ℤ) → Summable 1 biased → Took os i value j → pos biased' ≡ pos biased +ℤ value
    → Adds os 1 biased all i biased' (bit_or all biased') j
adds_one os biased all i biased' j value s T e =
    let l = s.0 in
    let r = clamped-reach biased biased' T.difference (omega arith) (e ∙ ap (λ (z : ℤ). pos biased +ℤ z) T.near) in
    record {
      sums = λ top b₀ i₀ n₀ R X. summed-step top os b₀ i₀ n₀ biased all i biased' j value R X T e (omega (arith, r.0));
      low = omega (arith, r.0);
      high = omega (arith, r.1);
      reach = T.reach;
      inside = T.inside;
    }

pub adds-adds : (os : List ℕ) (n m biased all i biased' all' j biased'' all'' k : ℕ) → Adds os n biased all i biased'
    all' j → Adds os m biased' all' j biased'' all'' k
    → Adds os (n + m) biased all i biased'' all'' k
adds-adds os n m biased all i biased' all' j biased'' all'' k A B =
    record {
      sums = λ top b₀ i₀ n₀ R X. subst (λ (x : ℕ). Summed top os b₀ i₀ x biased'' all'' k) (omega arith)
          (B.sums top b₀ i₀ (n₀ + n) R (A.sums top b₀ i₀ n₀ R X));
      low = let x = A.low in let y = B.low in omega arith;
      high = let x = A.high in let y = B.high in omega arith;
      reach = let x = A.reach in let y = B.reach in omega arith;
      inside = B.inside;
    }

module _ (top : ℕ) (os : List ℕ) (biased i n biased' all j : ℕ) where
  pub adds-summed : Top top → Between top biased → Adds os n biased biased_least i biased' all j → Summed top os biased i n biased' all j
  adds-summed R b A =
      subst (λ (x : ℕ). Summed top os biased i x biased' all j) (omega arith) (A.sums top biased i 0 R (summed-start top os biased i b))

  -- what a step answers after a sum
  pub summed-to : Summed top os biased i n biased' all j → all ≤ top → j ≤ length os → Passed top os biased i n biased' j
  summed-to X a h = let G = X.good a in record { between = G.0; passes = G.1; inside = h }

  pub summed-not : (m : ℕ) → Summed top os biased i n biased' all j → top < all → n ≤ m → Failed top os biased i m
  summed-not m X a l tail _ = fails_more top os biased i n m tail l (X.bad a tail)

-- ---- a plain octet

pub adds-plain : (os : List ℕ) (n b₀ a₀ i biased all biased' : ℕ) (d : ℤ) → Adds os n b₀ a₀ i biased all (i + n) → Summable 1 biased → i + n < length os
    → (get_or os (i + n) 0 ≡ 128 → ⊥) → d ≡ signed 1 (get_or os (i + n) 0) → pos biased' ≡ pos biased +ℤ d
    → Adds os (n + 1) b₀ a₀ i biased' (bit_or all biased') (i + (n + 1))
adds-plain os n b₀ a₀ i biased all biased' d A s h p v e =
    let T = plain-took os (i + n) h p in
    let x : i + n + 1 ≡ i + (n + 1) = omega arith in
    subst (λ (k : ℕ). Adds os (n + 1) b₀ a₀ i biased' (bit_or all biased') k) x
    (adds-adds os n 1 b₀ a₀ i biased all (i + n) biased' (bit_or all biased') (i + n + 1) A
    (adds_one os biased all (i + n) biased' (i + n + 1) (signed 1 (get_or os (i + n) 0)) s T (e ∙ ap (λ (z : ℤ). pos biased +ℤ z) v)))

-- ---- plain octets summed up far from the type's ends

pub glides-none : (os : List ℕ) (i : ℕ) → Glides os i 0 0
glides-none os i =
    record {
      most = omega arith;
      leads = λ top biased l h.
          let b : biased ≡ biased + 0 - 128 * 0 = omega arith in
          let e : i ≡ i + 0 = omega arith in
          subst (λ (k : ℕ). Passes top os biased i 0 (biased + 0 - 128 * 0) k) e
          (subst (λ (k : ℕ). Passes top os biased i 0 k i) b (passes_none top os biased i));
    }

pub glides-more : (os : List ℕ) (i n total r : ℕ) → Glides os i n total → i + n < length os → (get_or os (i + n) 0 ≡ 128 → ⊥) → r < 256
    → signed 1 (get_or os (i + n) 0) ≡ sub_ℕ r 128
    → Glides os i (n + 1) (total + r)
glides-more os i n total r G h p small v = record { most = let m = G.most in omega arith; leads = leads }
  where
    leads : (top biased : ℕ) → biased_least + 128 * (n + 1) ≤ biased → biased + 128 * (n + 1) ≤ top
        → Passes top os biased i (n + 1) (biased + (total + r) - 128 * (n + 1)) (i + (n + 1))
    leads top biased l u =
        let m = G.most in
        let b = biased + total - 128 * n in
        let b' = biased + (total + r) - 128 * (n + 1) in
        let q : r + b - 128 ≡ b' = omega arith in
        let e : pos b' ≡ pos b +ℤ signed 1 (get_or os (i + n) 0)
        = sym (ap (λ (z : ℤ). pos b +ℤ z) v ∙ +ℤ_comm (pos b) (sub_ℕ r 128) ∙ sub-sum r 128 (r + b) (pos b) refl ∙ subℕ-pos (r + b) 128 (omega arith)
        ∙ ap pos q) in
        let x : i + n + 1 ≡ i + (n + 1) = omega arith in
        subst (λ (k : ℕ). Passes top os biased i (n + 1) b' k) x
        (passes-passes top os biased i n 1 b (i + n) b' (i + n + 1) (G.leads top biased (omega arith) (omega arith))
        (step_in (plain-took os (i + n) h p) (omega arith, omega arith) e (omega arith, omega arith)))

-- ---- parts

pub top-at : (t : ElementType) {top : ℕ} → top ≡ biased_greatest t → Top top
top-at t g = subst Top (sym g) (top-is t)

-- biased zero, and a pixel biased
pub zero-small : (t : ElementType) → (biased_least ≤ biased_zero t) × (biased_zero t ≤ 2 ^ 41)
zero-small t = let b = zero-between t in let s = top_small (biased_greatest t) (top-is t) in (b.0, omega (arith, b.1))

module _ (t : ElementType) (z : ℤ) (biased : ℕ) (e : pos biased ≡ pos (biased_zero t) +ℤ z) where
  pub pixel-at : pixel_at t biased ≡ z
  unfolding pixel_at
  pixel-at =
      sym (sub-sum (biased_zero t) (biased_zero t) biased z e)
      ∙ ap (λ (x : ℤ). x +ℤ z) (subℕ-pos (biased_zero t) (biased_zero t) (omega arith) ∙ ap pos (omega arith))
      ∙ +ℤ_idl z

  pub pixel-between : within (least t) (greatest t) z ≡ true → Between (biased_greatest t) biased
  pixel-between w = go (leb biased_least biased) refl (leb biased (biased_greatest t)) refl
    where
      beyond : (Between (biased_greatest t) biased → ⊥) → Between (biased_greatest t) biased
      beyond n =
          never (sym (within-beyond t (biased_zero t) biased (zero-between t) n) ∙ ap (within (least t) (greatest t)) pixel-at ∙ w)

      go : (c : Bool) → leb biased_least biased ≡ c → (u : Bool) → leb biased (biased_greatest t) ≡ u → Between (biased_greatest t) biased
      go true p true q = (leb-true biased_least biased p, leb-true biased (biased_greatest t) q)
      go false p u q = let h = leb-false biased_least biased p in beyond (λ b. omega (arith, b.0))
      go true p false q = let h = leb-false biased (biased_greatest t) q in beyond (λ b. omega (arith, b.1))

-- a biased pixel turned back, as the machine computes it
module _ (t : ElementType) (biased zero : ℕ) (b : Between (biased_greatest t) biased) (e : zero ≡ biased_zero t) where
  pub between-small : (biased < 2 ^ 63) × (zero < 2 ^ 63)
  between-small = let s = top_small (biased_greatest t) (top-is t) in let z = zero-small t in (omega (arith, b.1), omega (arith, z.1))

  pub pixel-is : to_z w64 biased -ℤ to_z w64 zero ≡ pixel_at t biased
  unfolding pixel_at
  pixel-is = ap₂ ◌-ℤ◌ (to_z_pos w64 between-small.0) (to_z_pos w64 between-small.1) ∙ pos-sub biased zero ∙ ap (sub_ℕ biased) e

  pub pixel-fits : mag (to_z w64 biased -ℤ to_z w64 zero) < 2 ^ 63
  pixel-fits =
      subst (λ (z : ℤ). mag z < 2 ^ 63) (sym pixel-is)
      (omega (arith, within-small t (pixel_at t biased) (within-between t (biased_zero t) biased (zero-between t) b)))

-- what the first pass answers
module _ (t : ElementType) (os : List ℕ) (ended : Bool) (z : ℤ) (i count top start : ℕ) (g : top ≡ biased_greatest t) (z-is : pixel_at t start ≡ z) where
  starts : (tail : List ℕ) (n : ℕ) → n ≡ count → is_some (rest t os tail z i count) ≡ is_some (rest t os tail (pixel_at t start) i n)
  starts tail n e = ap (λ (x : ℤ). is_some (rest t os tail x i count)) (sym z-is) ∙ counts t os tail (pixel_at t start) i count n (sym e)

  pub invalid : (n : ℕ) → ((tail : List ℕ) → Behind ended tail → Fails top os tail start i n) → n ≤ count → Invalid t os ended z i count
  unfolding Fails
  invalid n f h tail w = starts tail (n + (count - n)) (omega arith) ∙ f tail w t (sym g) (count - n)

  pub valid : (k biased j : ℕ) → Passes top os start i k biased j → Between top biased → k ≤ count → j ≤ length os → (k ≡ 0 → j ≡ i)
      → Stopped os ended count k j → (r : Part) → r.count ≡ k → r.last.pixel ≡ pixel_at t biased → r.last.next ≡ j
      → Valid t os ended z i count r
  unfolding Passes
  valid k biased j p b h inside still w r c e n =
      record {
        few = omega arith;
        inside = omega arith;
        still = λ y. omega (arith, still (sym c ∙ y));
        passed = λ tail _. starts tail (k + (count - k)) (omega arith) ∙ p t (sym g) tail (count - k) ∙ sym (rw (c, e, n));
        typed = ap (within (least t) (greatest t)) e ∙ within-between t (biased_zero t) biased
            (zero-between t) (subst (λ (m : ℕ). Between m biased) g b);
        stopped = rw (c, n) w;
      }

-- all octets as one part
pub zero-within : (t : ElementType) → within (least t) (greatest t) (pos 0) ≡ true
zero-within t =
    let e : pos (biased_zero t) ≡ pos (biased_zero t) +ℤ pos 0 = ap pos (omega arith) in
    ap (within (least t) (greatest t)) (sym (pixel-at t (pos 0) (biased_zero t) e)) ∙ within-between t (biased_zero t)
    (biased_zero t) (zero-between t) (zero-between t)

module _ (t : ElementType) (os : List ℕ) (count : ℕ) where
  pub unpacks-not : Invalid t os true (pos 0) 0 count → false ≡ is_some (unpack_byte_offset t count os)
  unpacks-not v = sym (ap is_some (rest-start t os count) ∙ v [] (λ _. refl))

  pub unpacks-to : (r : Part) → Valid t os true (pos 0) 0 count r → eqb r.last.next (length os) ≡ is_some (unpack_byte_offset t count os)
  unpacks-to r v =
      sym (ap is_some (rest-start t os count) ∙ v.passed [] (λ _. refl) ∙ counts t os [] r.last.pixel
      r.last.next (count - r.count) 0 (done v.stopped)
      ∙ rest_end_lem t os r.last.pixel r.last.next v.inside)
    where
      done : Stopped os true count r.count r.last.next → count - r.count ≡ 0
      done (inl e) = omega arith
      done (inr h) = never (sym h.0)
