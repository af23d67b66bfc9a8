-- Writing the pixels of octets that unpack: one pixel, runs of pixels one after another, and parts. Assumes nothing.
use Prim.Native.Nat.{ℕ, ◌+◌, ◌*◌, ◌-◌, ◌^◌, ◌<◌, ◌≤◌}
use native.Mathlib.Omega.{arith}
use native.Mathlib.Nat.{add-zero, zero-add}
use mathlib.Core.Path.{◌≡◌, refl, sym, ap, ap₂, ◌∙◌, subst}
use mathlib.Core.List.{List, [], ◌∷◌, ◌++◌, append_assoc, append-nil}
use mathlib.Core.Bool.{Bool, true, false}
use mathlib.Core.Logic.{◌⊎◌, inl, inr}
use Rattle.std.specs.Prelude.{Option, None, Some}
use lib.Dec.{lit<}
use lib.ListN.{length, drop, set, length-append}
use lib.Seq.{sets, sets-eq, length-sets}
use lib.IntN.{ℤ, pos, ◌+ℤ◌}
use lib.Signed.{mag}
use mir.Syntax.{w64}
use mir.Val.{to_z, of_z, SFits}
use Rattle.cbf_pixels.specs.declared.ElementType.{ElementType}
use Rattle.cbf_octets.specs.declared.Part.{Part}
use Rattle.cbf_pixels.specs.Pixels.{got, read_by, widths, within, least, greatest, unpack_from, unpack_byte_offset}
use Rattle.cbf_pixels.specs.PixelCalls.{is_some, pixels_of}
use Rattle.cbf_octets.specs.Difference.{Whole, Took}
use Rattle.cbf_octets.specs.Rest.{rest, Enough, onto_pixels, Behind, Stopped}
use Rattle.cbf_unpack.specs.Fill.{Unpacks, Filled, Fillable, FilledPart}
use Rattle.cbf_pixels.proofs.Integers.{never, within-small, mag-sub, back, held}
use Rattle.cbf_pixels.proofs.Numbers.{abs-le}
use Rattle.cbf_answers.proofs.Stores.{sets-append}
use Rattle.cbf_octets.proofs.DifferenceLaws.{clamped-near}
use Rattle.cbf_octets.proofs.RestLaws.{some-onto, whole_here, enough, rest-next, rest-outside, rest-run-out}
use Rattle.cbf_octets.proofs.RestLaws.{rest-start}

-- ---- lists of pixels, and what is left

pub onto-onto : (xs ys : List ℤ) (o : Option (List ℤ)) → onto_pixels xs (onto_pixels ys o) ≡ onto_pixels (xs ++ ys) o
onto-onto xs ys None = refl
onto-onto xs ys (Some ps) = ap Some (sym (append_assoc xs ys ps))

pub onto-nil : (o : Option (List ℤ)) → o ≡ onto_pixels [] o
onto-nil None = refl
onto-nil (Some ps) = refl

-- ---- the machine's integers

pub held-sum : {a b z value : ℤ} → a ≡ z → b ≡ value → mag (z +ℤ value) < 2 ^ 32 → SFits w64 (a +ℤ b) × (to_z w64 (of_z w64 (a +ℤ b)) ≡ z +ℤ value)
held-sum {a} {b} {z} {value} p q h =
    let e = ap₂ ◌+ℤ◌ p q in
    (subst (SFits w64) (sym e) (record { sfits = omega arith }), ap (λ (x : ℤ). to_z w64 (of_z w64 x)) e ∙ held (z +ℤ value) (omega arith))

-- ---- one pixel

module _ (t : ElementType) (os tail : List ℕ) (z : ℤ) (i m : ℕ) (s : is_some (rest t os tail z i (1 + m)) ≡ true) where
  pub rest-whole : Enough os tail i 15 → Whole os i
  unfolding is_some
  rest-whole (inl n) e = never (sym (ap is_some (rest-run-out t os tail z i m e n)) ∙ s)
  rest-whole (inr h) e = whole_here os i h e

  pub rest-within : (d : ℤ) (j : ℕ) → read_by widths (drop i os) ≡ got d (drop j os) → within (least t) (greatest t) (z +ℤ d) ≡ true
  unfolding is_some
  rest-within d j e = go (within (least t) (greatest t) (z +ℤ d)) refl
    where
      go : (b : Bool) → within (least t) (greatest t) (z +ℤ d) ≡ b → b ≡ true
      go true w = refl
      go false w = never (sym (ap is_some (rest-outside t os tail z i m d j e w)) ∙ s)

-- what reading a difference says of the pixel after z, where one more pixel unpacks
pub record Stepped (os : List ℕ) (z value : ℤ) (i j : ℕ) : Type 0 where
  pub read : read_by widths (drop i os) ≡ got value (drop j os)
  pub held_value : to_z w64 (of_z w64 value) ≡ value
  pub held_before : to_z w64 (of_z w64 z) ≡ z
  pub small : mag (z +ℤ value) < 2 ^ 32

pub stepped : {os : List ℕ} {z value : ℤ} {i j size : ℕ} → Unpacks os z i 1 size → Took os i value j → Stepped os z value i j
stepped {os} {z} {value} {i} {j} u k =
    let d = k.difference in
    let small = within-small u.type (z +ℤ d) (rest-within u.type os u.tail z i u.more u.says d j k.read) in
    let near : mag d < 2 ^ 33 = subst (λ (x : ℤ). mag x < 2 ^ 33) (back z d) (mag-sub (z +ℤ d) z small u.before) in
    let v : value ≡ d = k.near ∙ clamped-near d (abs-le d near) in
    record {
      read = k.read ∙ ap (λ (x : ℤ). got x (drop j os)) (sym v);
      held_value = held value (let n = subst (λ (x : ℤ). mag x < 2 ^ 33) (sym v) near in omega arith);
      held_before = held z (omega (arith, u.before));
      small = subst (λ (x : ℤ). mag (z +ℤ x) < 2 ^ 32) (sym v) small;
    }

pub unpacks-whole : {os : List ℕ} {z : ℤ} {i : ℕ} → Unpacks os z i 1 15 → Whole os i
unpacks-whole {os} {z} {i} u = rest-whole u.type os u.tail z i u.more u.says u.enough

-- ---- runs of pixels

-- no pixels, one pixel, and two runs as one
pub filled_none : {os : List ℕ} {z : ℤ} {i : ℕ} (k : ℕ) (out : List ℤ) → mag z < 2 ^ 32 → i ≤ length os → Filled os z i 0 z i k out out
filled_none {os} {z} {i} k out h l =
    record {
      pixels = [];
      many = refl;
      wrote = refl;
      leads = λ t tail m s. ap (rest t os tail z i) (zero-add m) ∙ onto-nil (rest t os tail z i m);
      after = h;
      reach = omega arith;
      inside = l;
    }

pub filled-one : {os : List ℕ} {z value stored : ℤ} {i j size : ℕ} (k : ℕ) (out : List ℤ) → Unpacks os z i 1 size → Took os i value j → stored ≡ z +ℤ value
    → Filled os z i 1 stored j k out (set out k stored)
filled-one {os} {z} {value} {stored} {i} {j} k out u took e =
    let g = stepped u took in
    subst
    (λ (x : ℤ). Filled os z i 1 x j k out (set out k x))
    (sym e)
    (record {
      pixels = (z +ℤ value) ∷ [];
      many = refl;
      wrote = refl;
      leads = λ t tail m s. rest-next t os tail z i m value j g.read (rest-within t os tail z i m s value j g.read);
      after = g.small;
      reach = took.reach;
      inside = took.inside;
    })

pub filled-then : {os : List ℕ} {z z' z'' : ℤ} {i j j' n m n' k k' : ℕ} {out out' out'' : List ℤ} → Filled os z i n z' j
    k out out' → Filled os z' j m z'' j' k' out' out''
    → k' ≡ k + n → n' ≡ n + m → Filled os z i n' z'' j' k out out''
filled-then {os} {z} {z'} {z''} {i} {j} {j'} {n} {m} {n'} {k} {k'} {out} {out'} {out''} f g ek en =
    let ps = f.pixels in
    let qs = g.pixels in
    let e : k' ≡ k + length ps = omega (arith, f.many) in
    record {
      pixels = ps ++ qs;
      many = omega (arith, length-append ps qs, f.many, g.many);
      wrote = g.wrote ∙ ap (λ (x : List ℤ). sets x k' qs) f.wrote ∙ ap (λ (x : ℕ). sets (sets out k ps) x qs) e ∙ sets-append out k ps qs;
      leads = leads;
      after = g.after;
      reach = let a = f.reach in let b = g.reach in omega arith;
      inside = g.inside;
    }
  where
    leads : (t : ElementType) (tail : List ℕ) (r : ℕ) → is_some (rest t os tail z i (n' + r)) ≡ true → rest t os tail z
        i (n' + r) ≡ onto_pixels (f.pixels ++ g.pixels) (rest t os tail z'' j' r)
    leads t tail r s =
        let e : n' + r ≡ n + (m + r) = omega arith in
        let a = ap (rest t os tail z i) e in
        let s₁ = ap is_some (sym a) ∙ s in
        let p = f.leads t tail (m + r) s₁ in
        let s₂ = sym (some-onto f.pixels (rest t os tail z' j (m + r))) ∙ ap is_some (sym p) ∙ s₁ in
        a ∙ p ∙ ap (onto_pixels f.pixels) (g.leads t tail r s₂) ∙ onto-onto f.pixels g.pixels (rest t os tail z'' j' r)

-- the same run, with its numbers said otherwise
pub filled-as : {os : List ℕ} {z z₁ z' z₁' : ℤ} {i j j₁ n n₁ k : ℕ} {out out' : List ℤ} → Filled os z i n z' j k out out' → z ≡ z₁ → n ≡ n₁ → z' ≡ z₁' → j ≡ j₁
    → Filled os z₁ i n₁ z₁' j₁ k out out'
filled-as f a b c d = rw (← a, ← b, ← c, ← d) f

-- what is left after a run, with octets enough or not
pub unpacks-after : {os : List ℕ} {z z' : ℤ} {i j n n' k size : ℕ} {out out' : List ℤ} (m size' : ℕ)
    (u : Unpacks os z i n' size) → Filled os z i n z' j k out out' → n + m ≤ n'
    → Enough os u.tail j size' → Unpacks os z' j m size'
unpacks-after {os} {z} {z'} {i} {j} {n} {n'} m size' u f h w =
    let more = n' - (n + m) + u.more in
    let e : n' + u.more ≡ n + (m + more) = omega arith in
    let a = ap (λ (x : ℕ). is_some (rest u.type os u.tail z i x)) (sym e) ∙ u.says in
    let p = f.leads u.type u.tail (m + more) a in
    record {
      type = u.type;
      more = more;
      tail = u.tail;
      says = sym (some-onto f.pixels (rest u.type os u.tail z' j (m + more))) ∙ ap is_some (sym p) ∙ a;
      before = f.after;
      enough = w;
    }

pub unpacks-then : {os : List ℕ} {z z' : ℤ} {i j n n' k size : ℕ} {out out' : List ℤ} (m : ℕ) → Unpacks os z i n' size
    → Filled os z i n z' j k out out' → n + m ≤ n' → Unpacks os z' j m 0
unpacks-then m u f h = unpacks-after m 0 u f h (inr (omega (arith, f.inside)))

pub unpacks-held : {os : List ℕ} {z : ℤ} {i n size : ℕ} → Unpacks os z i n size → Unpacks os (to_z w64 (of_z w64 z)) i n size
unpacks-held {os} {z} {i} {n} {size} u = subst (λ (x : ℤ). Unpacks os x i n size) (sym (held z (omega (arith, u.before)))) u

pub filled-length : {os : List ℕ} {z z' : ℤ} {i n j k : ℕ} {out out' : List ℤ} → Filled os z i n z' j k out out' → length out' ≡ length out
filled-length {k = k} {out = out} f = ap length f.wrote ∙ length-sets out k f.pixels

-- what the next run requires
pub ready-then : {os : List ℕ} {z z' : ℤ} {i j n n' k k' size : ℕ} {out out' : List ℤ} (m size' : ℕ) → Unpacks os z i
    n' size → Filled os z i n z' j k out out' → n + m ≤ n' → 15 * n + size' ≤ size
    → k' ≡ k + n → k + n' ≤ length out → Unpacks os z' j m size' × (j ≤ length os) × (k' + m ≤ length out')
ready-then {os} {i = i} {j = j} {n = n} {size = size} m size' u f h s e l =
    (unpacks-after m size' u f h (go u.tail u.enough), f.inside, omega (arith, filled-length f))
  where
    go : (tail : List ℕ) → Enough os tail i size → Enough os tail j size'
    go tail (inl x) = inl x
    go tail (inr x) = inr (omega (arith, f.reach))

-- ---- parts

pub fillable : {os : List ℕ} {ended : Bool} {z : ℤ} {i count : ℕ} → Fillable os ended z i count → i ≤ length os → Unpacks os z i count 0
fillable {os} {ended} {z} {i} {count} u h =
    record {
      type = u.type;
      more = 0;
      tail = u.tail;
      says = ap (λ (x : ℕ). is_some (rest u.type os u.tail z i x)) (add-zero count) ∙ u.unpacks;
      before = u.before;
      enough = inr (omega arith);
    }

-- what the next step of a part requires
pub part_then_lem : {os : List ℕ} {ended : Bool} {z z' : ℤ} {i j n count k k' : ℕ} {out out' : List ℤ} (m : ℕ)
    → Fillable os ended z i count → i ≤ length os → Filled os z i n z' j k out out'
    → (ended ≡ true) ⊎ (480 ≤ length os - j) → n + m ≤ count → m ≤ 32 → k' ≡ k + n → k + count ≤ length out
    → Unpacks os z' j m (15 * m) × (j ≤ length os) × (k' + m ≤ length out')
unfolding fillable
part_then_lem {os} {ended} {j = j} m u b f w h l e r =
    (unpacks-after m (15 * m) (fillable u b) f h (go u.tail (enough os u.tail j u.last w)), f.inside, omega (arith, filled-length f))
  where
    go : (tail : List ℕ) → Enough os tail j 480 → Enough os tail j (15 * m)
    go tail (inl x) = inl x
    go tail (inr x) = inr (omega arith)

pub run-then : {os : List ℕ} {ended : Bool} {z z' : ℤ} {i j n count k k' : ℕ} {out out' : List ℤ} (m : ℕ)
    → Fillable os ended z i count → i ≤ length os → Filled os z i n z' j k out out'
    → n + m ≤ count → k' ≡ k + n → k + count ≤ length out → Unpacks os z' j m 0 × (k' + m ≤ length out')
run-then m u b f h e r = (unpacks-then m (fillable u b) f h, omega (arith, filled-length f))

-- what the second pass answers
pub filled-part : {os : List ℕ} {ended : Bool} {z z' : ℤ} {i count n j k : ℕ} {out out' : List ℤ} (r : Part)
    → Filled os z i n z' j k out out' → n ≤ count → Stopped os ended count n j
    → r.count ≡ n → r.last.pixel ≡ z' → r.last.next ≡ j → FilledPart os ended z i count k out out' r
filled-part {os} {ended} {z} {z'} {i} {count} {n} {j} {k} {out} {out'} r f h w a b c =
    record {
      few = omega arith;
      inside = omega (arith, f.inside);
      still = λ y. omega (arith, f.reach);
      pixels = f.pixels;
      many = f.many ∙ sym a;
      wrote = f.wrote;
      leads = leads;
      after = rw b f.after;
      stopped = rw (a, c) w;
    }
  where
    leads : (t : ElementType) (tail : List ℕ) → Behind ended tail → is_some (rest t os tail z i count) ≡ true
        → rest t os tail z i count ≡ onto_pixels f.pixels (rest t os tail r.last.pixel r.last.next (count - r.count))
    leads t tail _ s =
        let e : n + (count - n) ≡ count = omega arith in
        let q = ap (rest t os tail z i) e in
        sym q ∙ f.leads t tail (count - n) (ap is_some q ∙ s) ∙ sym (rw (a, b, c))

-- ---- all octets as one part

pub fillable-start : (t : ElementType) (count : ℕ) (os : List ℕ) → is_some (unpack_byte_offset t count os) ≡ true → Fillable os true (pos 0) 0 count
fillable-start t count os s =
    record { type = t; tail = []; last = λ _. refl; unpacks = sym (ap is_some (rest-start t os count)) ∙ s; before = lit< tt }

-- what is left where no pixel is
pub rest-empty : (t : ElementType) (os tail : List ℕ) (z : ℤ) (j : ℕ) → is_some (rest t os tail z j 0) ≡ true → rest t os tail z j 0 ≡ Some []
unfolding rest unpack_from is_some
rest-empty t os tail z j s = go (drop j os ++ tail) s
  where
    go : (l : List ℕ) → is_some (unpack_from (least t) (greatest t) z 0 l) ≡ true → unpack_from (least t) (greatest t) z 0 l ≡ Some []
    go [] s = refl
    go (o ∷ l) s = never s

pub filled-end : (t : ElementType) {os : List ℕ} {count : ℕ} {out out' : List ℤ} {r : Part} → is_some (unpack_byte_offset t count os) ≡ true → count ≤ length out
    → FilledPart os true (pos 0) 0 count 0 out out' r → out' ≡ pixels_of (unpack_byte_offset t count os) ++ drop count out
unfolding pixels_of
filled-end t {os} {count} {out} {out'} {r} s h f =
    let ps = f.pixels in
    let z = r.last.pixel in
    let j = r.last.next in
    let c : r.count ≡ count = done f.stopped in
    let a = rest-start t os count in
    let s₁ = sym (ap is_some a) ∙ s in
    let n : count - r.count ≡ 0 = omega arith in
    let p : rest t os [] (pos 0) 0 count ≡ onto_pixels ps (rest t os [] z j 0) = f.leads t [] (λ _. refl) s₁
    ∙ ap (λ (x : ℕ). onto_pixels ps (rest t os [] z j x)) n in
    let s₂ = sym (some-onto ps (rest t os [] z j 0)) ∙ ap is_some (sym p) ∙ s₁ in
    let q : unpack_byte_offset t count os ≡ Some (ps ++ []) = a ∙ p ∙ ap (onto_pixels ps) (rest-empty t os [] z j s₂) in
    let e : 0 + length ps ≡ count = omega (arith, f.many) in
    f.wrote
    ∙ sets-eq ps out 0 (omega (arith, f.many))
    ∙ ap (λ (x : ℕ). ps ++ drop x out) e
    ∙ sym (ap (λ (o : Option (List ℤ)). pixels_of o ++ drop count out) q ∙ ap (λ (x : List ℤ). x ++ drop count out) (append-nil ps))
  where
    done : Stopped os true count r.count r.last.next → r.count ≡ count
    done (inl e) = e
    done (inr w) = never (sym w.0)
