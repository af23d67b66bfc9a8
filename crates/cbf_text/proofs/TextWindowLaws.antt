-- Filling a window from a text, and taking pixels from it. Assumes nothing.
use Prim.Native.Nat.{ℕ, ◌+◌, ◌*◌, ◌-◌, ◌/◌, ◌<◌, ◌≤◌}
use native.Mathlib.Omega.{arith}
use native.Mathlib.Nat.{le-div_iff_mul-le}
use Rattle.std.specs.Prelude.{min}
use Rattle.std.specs.List.{copy_within}
use mathlib.Core.Path.{◌≡◌, refl, sym, ap, ap₂, ◌∙◌}
use mathlib.Core.Bool.{Bool, true, false}
use mathlib.Core.Logic.{◌⊎◌, inl, inr, ⊎_elim}
use lib.Dec.{ltb}
use borrow.Author.Tests.{ltb-true, ltb-false}
use mathlib.Core.List.{List, [], ◌++◌, append_assoc, append-nil}
use lib.IntN.{ℤ}
use lib.ListN.{length, take, drop, length-append, length-take, length-drop, drop_of_length-le}
use lib.ListN.{take-append-drop}
use lib.Seq.{slice, drop-drop, sets-eq, length-sets, length-slice}
use lib.Seq.{take-append-le, take-append-add, take-take, take-length, take_at, drop_at, length-take-le}
use borrow.Author.Rules.{part_to_end}
use Rattle.cbf_pixels.specs.declared.ElementType.{ElementType}
use Rattle.cbf_pixels.specs.declared.Compression.TheVariants.{Uncompressed}
use Rattle.cbf_pixels.specs.Uncompressed.{octets_per, is_signed, unpack_uncompressed}
use Rattle.cbf_answers.specs.Limits.{pixel_limit}
use Rattle.cbf_pixels.specs.PixelCalls.{pixels_of, unpack_output}
use Rattle.cbf_unpack.proofs.UncompressedLaws.{pixels_in, pixels-append, read_all, Front, front-none, front-run}
use Rattle.cbf_unpack.proofs.UncompressedLaws.{next_fits}
use Rattle.cbf_unpack.proofs.UnpackingLaws.{uncompressed-output}
use Rattle.cbf_format.proofs.Slices.{slice-take}
use Rattle.cbf_letters.specs.Octets.{Decodes, text_octets}
use Rattle.cbf_text.specs.TextWindow.{Holds, Refilled, content, fresh}
use Rattle.cbf_text.specs.declared.text_window.Window.{Window}

-- ---- filling from the text: what was not used is moved to the front, and octets come behind it

-- the octets that were moved to the front
pub moved-front : (next have : ℕ) (old moved : List ℕ) → next ≤ have → have ≤ length old → moved ≡ copy_within old next have 0
    → take (have - next) moved ≡ slice next have old
moved-front next have old moved h k e =
    let n = have - next in
    let l : length (take n (drop next old)) ≡ n = length-take-le n (drop next old) (omega (arith, length-drop next old)) in
    let f : next + n ≡ have = omega arith in
    ap (take n) e ∙ take_at (take n (drop next old)) (drop (0 + n) old) n l ∙ sym (slice-take old next n (omega arith)) ∙ ap (λ (m : ℕ). slice next m old) f

module _
    (file : List ℕ)
    (to : ℕ)
    (w : Window)
    (moved new : List ℕ)
    (at end : ℕ)
    (H : Holds file to w)
    (size : length moved ≡ length w.octets)
    (M : take (w.have - w.next) moved ≡ slice w.next w.have w.octets)
    (D : Decodes file w.at to moved (w.have - w.next) new at end) where
  filled : (n : ℕ) → n ≤ length D.octets → take (w.have - w.next + n) new ≡ slice w.next w.have w.octets ++ take n D.octets
  filled n h =
      let u = w.have - w.next in
      let p = slice w.next w.have w.octets in
      let l : length p ≡ u = length-slice w.next w.have w.octets H.high in
      let rest = drop (u + length D.octets) moved in
      let e : new ≡ p ++ D.octets ++ rest = D.wrote ∙ sets-eq D.octets moved u (omega arith) ∙ ap (λ (q : List ℕ). q ++ D.octets ++ rest) M in
      ap (take (u + n)) e
      ∙ take-append-le (u + n) (p ++ D.octets) rest (omega (arith, length-append p D.octets))
      ∙ ap (λ (k : ℕ). take (k + n) (p ++ D.octets)) (sym l)
      ∙ take-append-add p D.octets n

  as_long : length new ≡ length moved
  as_long = ap length D.wrote ∙ length-sets moved (w.have - w.next) D.octets

  left-of : length (text_octets file w.at to) ≡ length D.octets + length (text_octets file at to)
  left-of = ap length D.rest ∙ length-append D.octets (text_octets file at to)

  -- all that came are taken, or as many as were to come
  pub refilled : (got : ℕ) → got ≡ min (end - (w.have - w.next)) w.left → (length moved < end + 3) ⊎ (text_octets file at to ≡ [])
      → Refilled file to w (record { octets = new; at = at; left = w.left - got; next = 0; have = w.have - w.next + got })
  refilled got e stop =
      let q = slice w.next w.have w.octets in
      let r = text_octets file at to in
      let n : got ≤ length D.octets = omega arith in
      record {
        front = refl;
        holds = record {
          low = omega arith;
          high = omega (arith, as_long);
          begun = D.high;
          enough = omega (arith, left-of);
          wide = as_long ∙ size ∙ H.wide;
        };
        same = ap (λ (l : List ℕ). l ++ take (w.left - got) r) (filled got n) ∙ append_assoc q (take got D.octets) (take (w.left - got) r)
            ∙ ap (λ (l : List ℕ). q ++ l) (come (ltb w.left (end - (w.have - w.next))) refl);
        full = ⊎_elim (λ s. stopped (ltb w.left (end - (w.have - w.next))) refl (omega (arith, s, size, H.wide))) (λ z. inl (omega (arith, left-of, ap length z))) stop;
        onward = D.low;
      }
    where
      come : (b : Bool) → ltb w.left (end - (w.have - w.next)) ≡ b
          → take got D.octets ++ take (w.left - got) (text_octets file at to) ≡ take w.left (text_octets file w.at to)
      come true p =
          let h = ltb-true w.left (end - (w.have - w.next)) p in
          let m : got ≡ w.left = omega arith in
          let z : w.left - got ≡ 0 = omega arith in
          rw (z, m) (append-nil (take w.left D.octets) ∙ sym (take-append-le w.left D.octets (text_octets file at to) (omega arith)) ∙ ap (take w.left) (sym D.rest))
      come false p =
          let h = ltb-false w.left (end - (w.have - w.next)) p in
          let m : got ≡ length D.octets = omega arith in
          let k : w.left ≡ length D.octets + (w.left - got) = omega arith in
          ap (λ (n : ℕ). take n D.octets ++ take (w.left - got) (text_octets file at to)) m
          ∙ ap (λ (l : List ℕ). l ++ take (w.left - got) (text_octets file at to)) (take-length D.octets)
          ∙ sym (ap₂ take k D.rest ∙ take-append-add D.octets (text_octets file at to) (w.left - got))

      stopped : (b : Bool) → ltb w.left (end - (w.have - w.next)) ≡ b → 1536 < end + 3 → (w.left - got ≡ 0) ⊎ (1536 < w.have - w.next + got + 3)
      stopped true p h = let k = ltb-true w.left (end - (w.have - w.next)) p in inl (omega arith)
      stopped false p h = let k = ltb-false w.left (end - (w.have - w.next)) p in inr (omega arith)

pub fresh-holds : {file : List ℕ} {from to size : ℕ} → from ≤ to → size ≤ length (text_octets file from to) → Holds file to (fresh from size)
fresh-holds h k = record { low = omega arith; high = omega arith; begun = h; enough = k; wide = refl }

-- ---- uncompressed pixels of all octets, which come through the window

-- the octets of count pixels
pub all-octets : (t : ElementType) (count size : ℕ) (os : List ℕ) → size ≡ count * octets_per t → size ≤ length os → length (take size os) ≡ octets_per t * count
all-octets t count size os e h = length-take-le size os h ∙ e ∙ omega arith

-- pixels for which the window has octets; one at least, where it has the octets of one
pub whole-pixels : (n left have o : ℕ) → 0 < o → o ≤ have → 0 < left → n ≡ min left (have / o) → (n * o ≤ have) × (0 < n)
whole-pixels n left have o p h l e =
    let one : 1 * o ≤ have = omega arith in
    let some : 1 ≤ have / o = (le-div_iff_mul-le p).1 one in
    let few : n ≤ have / o = omega arith in
    ((le-div_iff_mul-le p).0 few, omega arith)

-- n pixels unpacked to the output from k on
unpacked-to : (t : ElementType) (o k n : ℕ) (os : List ℕ) (out part : List ℤ) → o ≡ octets_per t → n ≤ pixel_limit → length os ≡ o * n → k + n ≤ length out
    → part ≡ unpack_output Uncompressed t n os (take (length out - k) (drop k out))
    → part ++ drop (length out - k) (drop k out) ≡ pixels_in (is_signed t) o n os ++ drop (k + n) out
unfolding unpack_uncompressed pixels_of
unpacked-to t o k n os out part per h e r q =
    let l : length (drop k out) ≡ length out - k = length-drop k out in
    let g : length (drop k out) ≤ length out - k = omega arith in
    let f : length os ≡ octets_per t * n = e ∙ ap (λ (i : ℕ). i * n) per in
    ap₂ ◌++◌ (q ∙ ap (unpack_output Uncompressed t n os) (part_to_end out k)) (drop_of_length-le (drop k out) g)
    ∙ append-nil (unpack_output Uncompressed t n os (drop k out))
    ∙ uncompressed-output t n os (drop k out) h f (omega arith)
    ∙ ap₂ ◌++◌ (ap pixels_of (read_all (is_signed t) (octets_per t) n os f) ∙ ap (λ (i : ℕ). pixels_in (is_signed t) i n os) (sym per)) (drop-drop n k out)

module _ (t : ElementType) (o : ℕ) (file : List ℕ) (from to : ℕ) (all : List ℕ) (old : List ℤ) where
  -- k pixels are written, and the window brings the octets of the others
  pub record Loaded (k : ℕ) (w : Window) (out : List ℤ) : Type 0 where
    pub holds : Holds file to w
    pub begun : from ≤ w.at
    pub comes : content file to w ≡ drop (o * k) all
    pub front : Front (is_signed t) o k all old out

  pub loaded-none : {w : Window} (n : ℕ) → w ≡ fresh from n → from ≤ to → n ≤ length (text_octets file from to)
      → all ≡ take n (text_octets file from to) → Loaded 0 w old
  loaded-none n q h k e =
      let z : o * 0 ≡ 0 = omega arith in
      rw q
      (record {
        holds = fresh-holds h k;
        begun = omega arith;
        comes = rw z (sym e);
        front = front-none (is_signed t) o all old;
      })

  -- the window was filled
  module _ {k : ℕ} {w v : Window} {out : List ℤ} (L : Loaded k w out) (F : Refilled file to w v) where
    abbrev behind : List ℕ
    behind = take v.left (text_octets file v.at to)

    whole : take v.have v.octets ++ behind ≡ drop (o * k) all
    whole = sym (ap (λ (i : ℕ). slice i v.have v.octets ++ behind) F.front) ∙ F.same ∙ L.comes

    -- it has the octets of a pixel
    pub some-octets : (count : ℕ) → length all ≡ o * count → k < count → o ≤ 4 → o ≤ v.have
    some-octets count A h u =
        ⊎_elim
        (λ e. omega (
          arith,
          ap length whole,
          length-append (take v.have v.octets) behind,
          length-take v.left
              (text_octets file v.at to),
          length-take-le v.have v.octets F.holds.high,
          length-drop (o * k) all,
          next_fits o k count h,
        ))
        (λ m. omega arith)
        F.full

    -- n pixels of it are written
    pub loaded-more : (n : ℕ) (part : List ℤ) → n * o ≤ v.have → o ≡ octets_per t → n ≤ pixel_limit → k + n ≤ length out
        → part ≡ unpack_output Uncompressed t n (take (n * o) v.octets) (take (length out - k) (drop k out))
        → Loaded (k + n) (record { octets = v.octets; at = v.at; left = v.left; next = n * o; have = v.have }) (take k out
        ++ (part ++ drop (length out - k) (drop k out)))
    loaded-more n part i per u r q =
        let x = take (n * o) v.octets in
        let y = slice (n * o) v.have v.octets ++ behind in
        let c : n * o ≡ o * n = omega arith in
        let m : o * k + n * o ≡ o * (k + n) = omega arith in
        let l : length x ≡ n * o = length-take-le (n * o) v.octets (omega arith) in
        let e : x ++ y ≡ drop (o * k) all = sym (append_assoc x (slice (n * o) v.have v.octets) behind)
        ∙ ap (λ (z : List ℕ). z ++ slice (n * o) v.have v.octets ++ behind)
        (sym (take-take (n * o) v.have v.octets i)) ∙ ap (λ (z : List ℕ). z ++ behind) (take-append-drop (n * o)
        (take v.have v.octets)) ∙ whole in
        record {
          holds = record { low = i; high = F.holds.high; begun = F.holds.begun; enough = F.holds.enough; wide = F.holds.wide };
          begun = omega (arith, L.begun, F.onward);
          comes =
              sym (drop_at x y (n * o) l)
              ∙ ap (drop (n * o)) e
              ∙ drop-drop (n * o) (o * k) all
              ∙ ap (λ (j : ℕ). drop j all) m;
          front =
              front-run (is_signed t) o k n all old out (part ++ drop (length out - k) (drop k out)) L.front r
              (unpacked-to t o k n x out part per u (l ∙ c) r q ∙ ap (λ (z : List ℤ). z ++ drop (k + n) out)
              (sym (pixels-append (is_signed t) o n x y (l ∙ c)) ∙ ap (pixels_in (is_signed t) o n) e));
        }
