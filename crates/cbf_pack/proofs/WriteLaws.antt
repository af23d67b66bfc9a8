-- Parts of a list of pixels, the last pixel of a part, and the octets of parts that follow each other. Assumes nothing.
use Prim.Native.Nat.{ℕ, zero, suc, ◌<◌, ◌+◌, ◌*◌, ◌-◌, ◌/◌, ◌%◌, ◌^◌, ◌≤◌}
use native.Mathlib.Omega.{arith}
use mathlib.Core.List.{List, [], ◌∷◌, ◌++◌}
use lib.ListN.{length, take, drop, get_or, length-append, length-drop}
use lib.IntN.{ℤ, pos, negsuc, nat_abs, ◌+ℤ◌, ◌-ℤ◌}
use Rattle.std.proofs.lemmas.List.{get_or-take, get_or-drop, take-take}
use Rattle.cbf_pack.specs.Write.{Small, AllSmall, Writable, WritableAll, InOneWindow, Wrote, WroteAll, WroteOver}
use native.Mathlib.Nat.{mod-eq_of_lt, add-mod_right, div-add-mod'}
use mathlib.Core.Path.{◌≡◌, refl, sym, ap, ap₂, ◌∙◌, subst}
use lib.Seq.{sets, length-sets, take-length, length-take-le, set-set}
use lib.Signed.{mag}
use mir.Syntax.{w64}
use mir.Val.{to_z, of_z, SFits}
use mir.Facts.{to_z-of_z}
use Rattle.cbf_pixels.specs.Octets.{octets, bits}
use Rattle.cbf_pixels.specs.Pixels.{pack_difference, pack_from, pack_byte_offset}
use Rattle.cbf_measure.specs.Window.{SameWindow, WindowRun}
use Rattle.cbf_measure.specs.Measure.{part}
use Rattle.cbf_measure.proofs.PartsLaws.{last_of, last-at, last_has, pack-add, pack_one}
use Rattle.cbf_pixels.proofs.Integers.{mag-sub, subℕ-pos}
use Rattle.cbf_pixels.proofs.Numbers.{mag-le}
use Rattle.cbf_answers.proofs.Stores.{sets-append, sets_then}
use Rattle.cbf_pixels.proofs.Forms.{Form, form1}
use Rattle.cbf_measure.proofs.WindowLaws.{window-near}

pub small_at : (ps : List ℤ) (i : ℕ) → AllSmall ps → i < length ps → Small (get_or ps i (pos 0))
small_at [] i a h = let y : ⊥ = omega arith in absurd y
small_at (p ∷ ps) zero a h = a.0
small_at (p ∷ ps) (suc i) a h = small_at ps i a.1 (omega arith)

-- ---- a difference as a number: lifted by the count of numbers of a width, it is not negative

abbrev pub lifted : ℤ → ℕ → ℕ
lifted (pos n) size = n + size
lifted (negsuc n) size = size - suc n

pub lifted-is : (d : ℤ) (size : ℕ) → nat_abs d < size → d +ℤ pos size ≡ pos (lifted d size)
lifted-is (pos n) size h = refl
lifted-is (negsuc n) size h = subℕ-pos size (suc n) (omega arith)

pub lifted-bits : (d : ℤ) (size k : ℕ) → nat_abs d < size → size ≡ 256 ^ k → lifted d size % size ≡ bits k d
unfolding bits
lifted-bits (pos n) size k h e = add-mod_right n size ∙ mod-eq_of_lt h
lifted-bits (negsuc n) size k h e =
    let g : size - suc n < size = omega arith in
    mod-eq_of_lt g ∙ ap (λ (s : ℕ). s - suc n) e

-- ---- the low octets of a number

-- the lowest octets of a number are those of its rest
pub octets-block : (k a r : ℕ) → octets k (a * 256 ^ k + r) ≡ octets k r
unfolding octets
octets-block zero a r = refl
octets-block (suc k) a r =
    let p : 256 ^ suc k ≡ 256 * 256 ^ k = omega arith in
    let e : a * 256 ^ suc k + r ≡ a * 256 ^ k * 256 + r = ap (λ (x : ℕ). a * x + r) p ∙ omega arith in
    let u : (a * 256 ^ k * 256 + r) % 256 ≡ r % 256 = omega arith in
    let v : (a * 256 ^ k * 256 + r) / 256 ≡ a * 256 ^ k + r / 256 = omega arith in
    ap (octets (suc k)) e ∙ ap₂ (λ (x y : ℕ). x ∷ octets k y) u v ∙ ap (λ (l : List ℕ). r % 256 ∷ l) (octets-block k a (r / 256))

pub octets-mod : (k n : ℕ) → octets k n ≡ octets k (n % 256 ^ k)
octets-mod k n = ap (octets k) (sym (div-add-mod' n (256 ^ k))) ∙ octets-block k (n / 256 ^ k) (n % 256 ^ k)

low-1 : (d : ℤ) → nat_abs d < 256 → bits 8 d % 256 ^ 1 ≡ bits 1 d
unfolding bits
low-1 (pos n) h = omega arith
low-1 (negsuc n) h = omega arith

low-2 : (d : ℤ) → nat_abs d < 65536 → bits 8 d % 256 ^ 2 ≡ bits 2 d
unfolding bits
low-2 (pos n) h = omega arith
low-2 (negsuc n) h = omega arith

low-4 : (d : ℤ) → nat_abs d < 4294967296 → bits 8 d % 256 ^ 4 ≡ bits 4 d
unfolding bits
low-4 (pos n) h = omega arith
low-4 (negsuc n) h = omega arith

-- the octets of a difference that a width holds are the lowest of its eight
pub octets-1 : (d : ℤ) → nat_abs d < 256 → octets 1 (bits 8 d) ≡ octets 1 (bits 1 d)
octets-1 d h = octets-mod 1 (bits 8 d) ∙ ap (octets 1) (low-1 d h)

pub octets-2 : (d : ℤ) → nat_abs d < 65536 → octets 2 (bits 8 d) ≡ octets 2 (bits 2 d)
octets-2 d h = octets-mod 2 (bits 8 d) ∙ ap (octets 2) (low-2 d h)

pub octets-4 : (d : ℤ) → nat_abs d < 4294967296 → octets 4 (bits 8 d) ≡ octets 4 (bits 4 d)
octets-4 d h = octets-mod 4 (bits 8 d) ∙ ap (octets 4) (low-4 d h)

-- ---- a difference in its form, written

pub form-room : {d : ℤ} {n : ℕ} {xs : List ℕ} (at N : ℕ) → Form d n xs → at + length (pack_difference d) ≤ N → at + n ≤ N
form-room at N f h = omega (arith, ap length f.is, f.long)

pub form-done : {d : ℤ} {n : ℕ} {xs : List ℕ} (out : List ℕ) (at : ℕ) (out' : List ℕ) → Form d n xs → out'
    ≡ sets out at xs → (at + n ≡ at + length (pack_difference d)) × (out' ≡ sets out at (pack_difference d))
form-done out at out' f e = (omega (arith, ap length f.is, f.long), e ∙ ap (sets out at) (sym f.is))

-- the last octet of a run is written over by the next run
pub sets_over : (l : List ℕ) (i n x y : ℕ) (xs ys : List ℕ) → length xs ≡ n → sets (sets l i (xs ++ x ∷ [])) (i + n) (y ∷ ys) ≡ sets l i (xs ++ y ∷ ys)
sets_over l i n x y xs ys e =
    ap (λ (o : List ℕ). sets o (i + n) (y ∷ ys)) (sym (sets_then l i n xs (x ∷ []) e))
    ∙ ap (λ (o : List ℕ). sets o (suc (i + n)) ys) (set-set (sets l i xs) (i + n) x y)
    ∙ sets_then l i n xs (y ∷ ys) e

-- ---- pixels written one part after another

module _ (ps : List ℤ) (k : ℕ) (last : ℤ) (out : List ℕ) (at : ℕ) where
  pub wrote_none : (next : ℕ) → next ≡ at → Wrote ps k 0 last out at out next
  unfolding pack_from
  wrote_none next e = record { octets = refl; after = omega arith }

  pub wrote_then : (n m : ℕ) (out' : List ℕ) (next : ℕ) (out'' : List ℕ) (next' : ℕ) → Wrote ps k n last out at out'
      next → Wrote ps (k + n) m (last_of last (part ps k n)) out' next out'' next' → Wrote ps k (n + m) last out at out''
      next'
  wrote_then n m out' next out'' next' w v =
      let xs = pack_from last (part ps k n) in
      let ys = pack_from (last_of last (part ps k n)) (part ps (k + n) m) in
      let e = pack-add last ps k n m in
      record {
        octets =
            v.octets
            ∙ ap₂ (λ (o : List ℕ) (i : ℕ). sets o i ys) w.octets w.after
            ∙ sets-append out at xs ys
            ∙ ap (sets out at) (sym e);
        after = omega (arith, v.after, w.after, ap length e, length-append xs ys);
      }

  -- what is left has room
  pub writable_then : (N n m : ℕ) (out' : List ℕ) (next : ℕ) → Writable ps k N last out at → n + m ≤ N
      → Wrote ps k n last out at out' next → Writable ps (k + n) m (last_of last (part ps k n)) out' next
  writable_then N n m out' next h l w =
      let xs = pack_from last (part ps k n) in
      let ys = pack_from (last_of last (part ps k n)) (part ps (k + n) m) in
      let r = N - (n + m) in
      let zs = pack_from (last_of last (part ps k (n + m))) (part ps (k + (n + m)) r) in
      let s : n + m + r ≡ N = omega arith in
      let e = pack-add last ps k (n + m) r in
      let f = pack-add last ps k n m in
      let q : length (pack_from last (part ps k N)) ≡ length (pack_from last (part ps k (n + m + r))) =
      ap (λ (i : ℕ). length (pack_from last (part ps k i))) (sym s) in
      let p = h.pixels in
      record {
        small = h.small;
        before = last_has Small last ps k n h.before (omega arith) (λ j i. small_at ps (k + j) h.small (omega arith));
        pixels = omega arith;
        room =
            omega (
              arith,
              h.room,
              q,
              ap length e,
              ap length f,
              length-append (pack_from last (part ps k (n + m))) zs,
              length-append xs ys,
              w.after,
              ap length w.octets,
              length-sets out at xs,
            );
      }

pub wrote-length : {ps : List ℤ} {k n : ℕ} {last : ℤ} {out : List ℕ} {at : ℕ} {out' : List ℕ} {next : ℕ}
    → Wrote ps k n last out at out' next → length out' ≡ length out
wrote-length {ps} {k} {n} {last} {out} {at} w = ap length w.octets ∙ length-sets out at (pack_from last (part ps k n))

pub wrote_as : {ps : List ℤ} {k n : ℕ} {last : ℤ} {out : List ℕ} {at : ℕ} {out' : List ℕ} {next n' : ℕ}
    {out'' : List ℕ} {next' : ℕ} → Wrote ps k n last out at out' next → n' ≡ n → out'' ≡ out' → next' ≡ next
    → Wrote ps k n' last out at out'' next'
wrote_as {ps} {k} {n} {last} {out} {at} w e f g =
    record {
      octets = f ∙ w.octets ∙ ap (λ (m : ℕ). sets out at (pack_from last (part ps k m))) (sym e);
      after = g ∙ w.after ∙ ap (λ (m : ℕ). at + length (pack_from last (part ps k m))) (sym e);
    }

-- ---- one pixel: the machine's difference of the pixel at i and the one before, as the machine holds them

abbrev pub gap : List ℤ → ℕ → ℤ → ℤ
gap ps i prev = to_z w64 (of_z w64 (get_or ps i (pos 0))) -ℤ prev

pub small_word : (z : ℤ) → Small z → to_z w64 (of_z w64 z) ≡ z
small_word z h = let m = mag-le z in to_z-of_z {w = w64} (record { sfits = omega arith })

module _ (prev : ℤ) {ps : List ℤ} {i : ℕ} {out : List ℕ} {at : ℕ} (w : Writable ps i 1 prev out at) where
  pub gap_is : gap ps i prev ≡ get_or ps i (pos 0) -ℤ prev
  gap_is = ap (λ (z : ℤ). z -ℤ prev) (small_word (get_or ps i (pos 0)) (small_at ps i w.small (omega (arith, w.pixels))))

  pub gap-fits : SFits w64 (gap ps i prev)
  gap-fits =
      let z = get_or ps i (pos 0) in
      let h : nat_abs z < 2 ^ 33 = small_at ps i w.small (omega (arith, w.pixels)) in
      let m = mag-sub z prev {H = 2 ^ 33} (omega (arith, mag-le z)) (omega (arith, mag-le prev, w.before)) in
      record { sfits = subst (λ (y : ℤ). mag y < 2 ^ 63) (sym gap_is) (omega arith) }

  pub gap_word : to_z w64 (of_z w64 (gap ps i prev)) ≡ get_or ps i (pos 0) -ℤ prev
  gap_word = to_z-of_z {w = w64} gap-fits ∙ gap_is

  gap-octets : pack_from prev (part ps i 1) ≡ pack_difference (to_z w64 (of_z w64 (gap ps i prev)))
  gap-octets = pack_one prev ps i (omega (arith, w.pixels)) ∙ ap pack_difference (sym gap_word)

  pub gap-room : at + length (pack_difference (to_z w64 (of_z w64 (gap ps i prev)))) ≤ length out
  gap-room = subst (λ (l : List ℕ). at + length l ≤ length out) gap-octets w.room

  pub gap-wrote : {out' : List ℕ} {next : ℕ}
      → (next ≡ at + length (pack_difference (to_z w64 (of_z w64 (gap ps i prev)))))
      × (out' ≡ sets out at (pack_difference (to_z w64 (of_z w64 (gap ps i prev))))) → Wrote ps i 1 prev out at
      out' next
  gap-wrote e =
      record {
        octets = e.1 ∙ ap (sets out at) (sym gap-octets);
        after = e.0 ∙ ap (λ (l : List ℕ). at + length l) (sym gap-octets);
      }

-- a small pixel before, as the machine holds it
pub writable-word : {ps : List ℤ} {k n : ℕ} {last : ℤ} {out : List ℕ} {at : ℕ} → Writable ps k n last out at → Writable ps k n (to_z w64 (of_z w64 last)) out at
writable-word {ps} {k} {n} {last} {out} {at} w = subst (λ (z : ℤ). Writable ps k n z out at) (sym (small_word last w.before)) w

pub wrote-word : {ps : List ℤ} {k n : ℕ} {last : ℤ} {out : List ℕ} {at : ℕ} {out' : List ℕ} {next : ℕ} → Small last
    → Wrote ps k n (to_z w64 (of_z w64 last)) out at out' next → Wrote ps k n last out at out' next
wrote-word {ps} {k} {n} {last} {out} {at} {out'} {next} h w = subst (λ (z : ℤ). Wrote ps k n z out at out' next) (small_word last h) w

-- ---- the first j of n pixels written; prev is the last of them

pub record Upto (ps : List ℤ) (k n : ℕ) (last : ℤ) (out : List ℕ) (at j : ℕ) (out' : List ℕ) (prev : ℤ) (next : ℕ) : Type 0 where
  pub few : j ≤ n
  pub held : prev ≡ last_of last (part ps k j)
  pub wrote : Wrote ps k j last out at out' next

pub upto-none : {ps : List ℤ} {k n : ℕ} {last : ℤ} {out : List ℕ} {at : ℕ} {prev : ℤ} {next : ℕ} → prev ≡ last → next ≡ at → Upto ps k n last out at 0 out prev next
unfolding last_of
upto-none {ps} {k} {n} {last} {out} {at} {prev} {next} e q =
    record { few = omega arith; held = e; wrote = wrote_none ps k last out at next q }

-- all of them
pub upto_all : {ps : List ℤ} {k n : ℕ} {last : ℤ} {out : List ℕ} {at j : ℕ} {out' : List ℕ} {prev : ℤ} {next : ℕ}
    → Upto ps k n (to_z w64 (of_z w64 last)) out at j out' prev next → Small last → n ≤ j → Wrote ps k n last out at
    out' next
upto_all {ps} {k} {n} {last} {out} {at} {j} {out'} {prev} {next} u h l =
    let e : n ≡ j = omega (arith, u.few) in
    wrote-word h (wrote_as u.wrote e refl refl)

module _ {ps : List ℤ} {k n : ℕ} {last : ℤ} {out : List ℕ} {at : ℕ} (w : Writable ps k n last out at) {j : ℕ}
    {out' : List ℕ} {prev : ℤ} {next : ℕ} (u : Upto ps k n last out at j out' prev next) (m i : ℕ) (e : i ≡ k + j)
    (l : j + m ≤ n) where
  -- the next m have room
  pub upto-writable : Writable ps i m prev out' next
  upto-writable =
      subst (λ (r : ℕ). Writable ps r m prev out' next) (sym e)
      (subst (λ (z : ℤ). Writable ps (k + j) m z out' next) (sym u.held) (writable_then ps k last out at n j m out' next w l u.wrote))

  -- and are written
  pub upto-more : (i' : ℕ) {out'' : List ℕ} {next' : ℕ} → i' + 1 ≡ k + (j + m) → 0 < m → Wrote ps i m prev
      out' next out'' next' → Upto ps k n last out at (j + m) out'' (to_z w64 (of_z w64 (get_or ps i' (pos 0)))) next'
  upto-more i' {out''} {next'} e' p v =
      let h = w.pixels in
      let v' : Wrote ps (k + j) m (last_of last (part ps k j)) out' next out'' next' =
      subst (λ (z : ℤ). Wrote ps (k + j) m z out' next out'' next') u.held
      (subst (λ (r : ℕ). Wrote ps r m prev out' next out'' next') e v) in
      record {
        few = l;
        held = small_word (get_or ps i' (pos 0)) (small_at ps i' w.small (omega arith)) ∙ sym (last-at last ps k (j + m) i' e' (omega arith) (omega arith));
        wrote = wrote_then ps k last out at j m out' next out'' next' u.wrote v';
      }

-- the next pixel, where the call of put_difference ensured what it wrote
pub upto-one : {ps : List ℤ} {k n : ℕ} {last : ℤ} {out : List ℕ} {at j : ℕ} {out' : List ℕ} {prev : ℤ} {next : ℕ}
    → Writable ps k n last out at → Upto ps k n last out at j out' prev next
    → (i : ℕ) → i ≡ k + j → j + 1 ≤ n → {out'' : List ℕ} {next' : ℕ}
    → (next' ≡ next + length (pack_difference (to_z w64 (of_z w64 (gap ps i prev)))))
    × (out'' ≡ sets out' next (pack_difference (to_z w64 (of_z w64 (gap ps i prev)))))
    → Upto ps k n last out at (j + 1) out'' (to_z w64 (of_z w64 (get_or ps i (pos 0)))) next'
upto-one {prev = prev} w u i e l p = upto-more w u 1 i e l i (omega arith) (omega arith) (gap-wrote prev (upto-writable w u 1 i e l) p)

-- ---- n pixels in the window of last

pub record InWindow (ps : List ℤ) (k : ℕ) (last : ℤ) (n : ℕ) : Type 0 where
  pub small : AllSmall ps
  pub before : Small last
  pub run : WindowRun ps k last n

pub in-window-word : {ps : List ℤ} {k : ℕ} {last : ℤ} {n : ℕ} → InWindow ps k last n → InWindow ps k (to_z w64 (of_z w64 last)) n
in-window-word {ps} {k} {last} {n} v = subst (λ (z : ℤ). InWindow ps k z n) (sym (small_word last v.before)) v

module _ {ps : List ℤ} {k : ℕ} {last : ℤ} {n : ℕ} (v : InWindow ps k last n) where
  window-last : (j : ℕ) → j ≤ n → SameWindow (last_of last (part ps k j)) last
  unfolding SameWindow
  window-last j l =
      last_has (λ (z : ℤ). SameWindow z last) last ps k j refl (omega (arith, v.run.inside)) (λ i h. v.run.same i (omega arith))

  window-small : (j : ℕ) → j ≤ n → Small (last_of last (part ps k j))
  window-small j l =
      last_has Small last ps k j v.before (omega (arith, v.run.inside)) (λ i h. small_at ps (k + i) v.small (omega (arith, v.run.inside)))

  -- each difference takes one octet
  window-gap : (j : ℕ) → j < n → nat_abs (get_or ps (k + j) (pos 0) -ℤ last_of last (part ps k j)) < 128
  unfolding SameWindow
  window-gap j l =
      window-near (get_or ps (k + j) (pos 0)) (last_of last (part ps k j)) (v.run.same j l ∙ sym (window-last j (omega arith)))

  window-length : (j : ℕ) → j ≤ n → length (pack_from last (part ps k j)) ≡ j
  unfolding pack_from
  window-length zero l = refl
  window-length (suc j) l =
      let b = last_of last (part ps k j) in
      let q : suc j ≡ j + 1 = omega arith in
      let e = ap (λ (i : ℕ). pack_from last (part ps k i)) q ∙ pack-add last ps k j 1 in
      let o = pack_one b ps (k + j) (omega (arith, v.run.inside)) in
      let f = form1 (get_or ps (k + j) (pos 0) -ℤ b) (window-gap j l) in
      let h = window-length j (omega arith) in
      omega (arith, ap length e, length-append (pack_from last (part ps k j)) (pack_from b (part ps (k + j) 1)), ap length o, ap length f.is, f.long)

  pub window-writable : (out : List ℕ) (at : ℕ) → at + n ≤ length out → Writable ps k n last out at
  window-writable out at h =
      record {
        small = v.small;
        before = v.before;
        pixels = v.run.inside;
        room = omega (arith, window-length n (omega arith));
      }

  pub window-room : {out : List ℕ} {at : ℕ} → Writable ps k n last out at → at + n ≤ length out
  window-room w = omega (arith, w.room, window-length n (omega arith))

  pub window-wrote : {out : List ℕ} {at : ℕ} {out' : List ℕ} {next : ℕ} → out'
      ≡ sets out at (pack_from last (part ps k n)) → next ≡ at + n → Wrote ps k n last out at out' next
  window-wrote e q = record { octets = e; after = omega (arith, window-length n (omega arith)) }

  module _ {out : List ℕ} {at j : ℕ} {out' : List ℕ} {prev : ℤ} {next : ℕ} (u : Upto ps k n last out at j out' prev next) where
    pub upto-near : j < n → nat_abs (get_or ps (k + j) (pos 0) -ℤ prev) < 128
    upto-near l = subst (λ (z : ℤ). nat_abs (get_or ps (k + j) (pos 0) -ℤ z) < 128) (sym u.held) (window-gap j l)

    pub upto-window : (m : ℕ) → j + m ≤ n → m % 32 ≡ 0 → InWindow ps (k + j) prev m
    unfolding SameWindow
    upto-window m l r =
        subst (λ (z : ℤ). InWindow ps (k + j) z m) (sym u.held)
        (record {
          small = v.small;
          before = window-small j u.few;
          run =
              record {
                same =
                    λ i h.
                    let q : k + (j + i) ≡ k + j + i = omega arith in
                    subst (λ (p : ℕ). SameWindow (get_or ps p (pos 0)) last) q (v.run.same (j + i) (omega arith))
                    ∙ sym (window-last j u.few);
                inside = omega (arith, v.run.inside);
                blocks = r;
              };
        })

-- ---- all pixels

pub all-writable : (ps : List ℤ) (out : List ℕ) (at : ℕ) → AllSmall ps → at + length (pack_byte_offset ps) ≤ length out → Writable ps 0 (length ps) (pos 0) out at
unfolding pack_byte_offset
all-writable ps out at a h =
    record {
      small = a;
      before = omega arith;
      pixels = omega arith;
      room = omega (arith, ap (λ (l : List ℤ). length (pack_from (pos 0) l)) (take-length ps));
    }

pub all-wrote : {ps : List ℤ} {out out' : List ℕ} {at next : ℕ} → Wrote ps 0 (length ps) (pos 0) out at out' next
    → (next ≡ at + length (pack_byte_offset ps))
    × (out' ≡ sets out at (pack_byte_offset ps))
unfolding pack_byte_offset
all-wrote {ps} {out} {at} w = (
  w.after ∙ ap (λ (l : List ℤ). at + length (pack_from (pos 0) l)) (take-length ps),
  w.octets
      ∙ ap (λ (l : List ℤ). sets out at (pack_from (pos 0) l)) (take-length ps),
)

-- ---- a slice of pixels

small-drop : (k : ℕ) (ps : List ℤ) → AllSmall ps → AllSmall (drop k ps)
small-drop zero ps a = a
small-drop (suc k) [] a = tt
small-drop (suc k) (p ∷ ps) a = small-drop k ps a.1

small-take : (n : ℕ) (ps : List ℤ) → AllSmall ps → AllSmall (take n ps)
small-take zero ps a = tt
small-take (suc n) [] a = tt
small-take (suc n) (p ∷ ps) a = (a.0, small-take n ps a.1)

pub part-all : (ps : List ℤ) (n : ℕ) → length ps ≡ n → part ps 0 n ≡ ps
part-all ps n e = ap (λ (j : ℕ). take j ps) (sym e) ∙ take-length ps

-- a list as its n pixels
pub writable-as : {ps : List ℤ} {last : ℤ} {out : List ℕ} {at : ℕ} → WritableAll ps last out at → (n : ℕ) → length ps ≡ n → Writable ps 0 n last out at
writable-as {ps} {last} {out} {at} w n e = subst (λ (m : ℕ). Writable ps 0 m last out at) e w

pub window-as : {ps : List ℤ} {last : ℤ} → InOneWindow ps last → (n : ℕ) → length ps ≡ n → InWindow ps 0 last n
window-as {ps} {last} v n e = subst (λ (m : ℕ). InWindow ps 0 last m) e (record { small = v.small; before = v.before; run = v.run })

-- the n pixels from k on
module _ (ps : List ℤ) (k : ℕ) {n : ℕ} (m : ℕ) (e : m ≡ n) (h : k + n ≤ length ps) where
  slice-is : part (take m (drop k ps)) 0 (length (take m (drop k ps))) ≡ part ps k n
  slice-is = take-length (take m (drop k ps)) ∙ ap (λ (j : ℕ). take j (drop k ps)) e

  pub slice-long : length (take m (drop k ps)) ≡ n
  slice-long = length-take-le m (drop k ps) (omega (arith, length-drop k ps)) ∙ e

  pub slice-writable : {last : ℤ} {out : List ℕ} {at : ℕ} → Writable ps k n last out at → WritableAll (take m (drop k ps)) last out at
  slice-writable {last} {out} {at} w =
      record {
        small = small-take m (drop k ps) (small-drop k ps w.small);
        before = w.before;
        pixels = omega arith;
        room = subst (λ (l : List ℤ). at + length (pack_from last l) ≤ length out) (sym slice-is) w.room;
      }

  pub slice-wrote : {last : ℤ} {out : List ℕ} {at : ℕ} {out' : List ℕ} {next : ℕ} → WroteAll (take m (drop k ps)) last out at out' next
      → Wrote ps k n last out at out' next
  slice-wrote {last} {out} {at} w =
      record {
        octets = w.octets ∙ ap (λ (l : List ℤ). sets out at (pack_from last l)) slice-is;
        after = w.after ∙ ap (λ (l : List ℤ). at + length (pack_from last l)) slice-is;
      }

  pub slice-window : {last : ℤ} → InWindow ps k last n → InOneWindow (take m (drop k ps)) last
  slice-window {last} v =
      record {
        small = small-take m (drop k ps) (small-drop k ps v.small);
        before = v.before;
        run =
            record {
              same =
                  λ j l.
                  let g : j < m = omega (arith, slice-long) in
                  let q : get_or ps (k + j) (pos 0) ≡ get_or (take m (drop k ps)) j (pos 0)
                  = sym (get_or-take m (drop k ps) j (pos 0) g ∙ get_or-drop k ps j (pos 0)) in
                  let z : j ≡ 0 + j = omega arith in
                  subst (λ (i : ℕ). SameWindow (get_or (take m (drop k ps)) i (pos 0)) last) z
                  (subst (λ (y : ℤ). SameWindow y last) q (v.run.same j (omega arith)));
              inside = omega arith;
              blocks = omega (arith, slice-long, v.run.blocks);
            };
      }

  pub slice-octets : (last : ℤ) (out out' : List ℕ) (at : ℕ) → out' ≡ sets out at (pack_from last (take m (drop k ps))) → out'
      ≡ sets out at (pack_from last (part ps k n))
  slice-octets last out out' at q = q ∙ ap (λ (j : ℕ). sets out at (pack_from last (take j (drop k ps)))) e

-- the first n of m pixels from k on
pub rest-over : (ps : List ℤ) (k m : ℕ) {n : ℕ} {last : ℤ} {out : List ℕ} {at : ℕ} {out' : List ℕ} {next limit : ℕ} → n ≤ m
    → WroteOver (take m (drop k ps)) 0 n last out at out' next limit → WroteOver ps k n last out at out' next limit
rest-over ps k m {n} {last} {out} {at} h w =
    let e : part (take m (drop k ps)) 0 n ≡ part ps k n = take-take n m (drop k ps) h in
    record {
      clean = w.clean;
      wrote =
          record {
            octets = w.wrote.octets ∙ ap (λ (l : List ℤ). sets out at (pack_from last l)) e;
            after = w.wrote.after ∙ ap (λ (l : List ℤ). at + length (pack_from last l)) e;
          };
      behind = w.behind;
      few = w.few;
      seven = w.seven;
      is = w.is;
    }
