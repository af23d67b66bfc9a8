-- What follows the empty line after a section's headers, at a place of the file, in either transfer encoding. Assumes
-- nothing.
use mathlib.Core.Path.{◌≡◌, refl, sym, ap, ◌∙◌}
use Rattle.std.specs.Prelude.{Option, None, Some, Result, Ok, Err, nat_eq}
use mathlib.Core.Bool.{Bool, true, false, ◌&&◌, cond}
use mathlib.Core.List.{List, [], ◌∷◌}
use Prim.Native.Nat.{ℕ, ◌+◌, ◌-◌, ◌≤◌, ◌<◌}
use native.Mathlib.Omega.{arith}
use borrow.Author.Tests.{le-leb, lt-leb, eq-eqb, ne_eqb, eqb-true, eqb-false}
use lib.Dec.{leb, eqb}
use Rattle.std.proofs.lemmas.List.{take_rest}
use Rattle.std.specs.List.{starts_with}
use lib.ListN.{length, take, drop, length-drop}
use lib.Seq.{drop-drop}
use Rattle.cbf_walk.specs.Parsers.{Res, bad, cut, ok, Parser, ret, plus, screen, blame, then, bind}
use Rattle.cbf_walk.proofs.ParserLaws.{Unbound, ok-val, unbind, unblame}
use Rattle.cbf_format.specs.Text.{same}
use Rattle.cbf_format.specs.Lines.{exactly, literal, semicolon_line}
use Rattle.cbf_format.specs.declared.Encoding.{Encoding}
use Rattle.cbf_format.specs.Base64.{Letters, letters}
use Rattle.cbf_format.specs.Sections.{closing, marker, closed, closed_after, binary_data, good_text, text_closed}
use Rattle.cbf_format.specs.Sections.{base64_data, data_for}
use Rattle.cbf_answers.specs.Limits.{file_limit}
use Rattle.cbf_format.proofs.LineTame.{unoctets}
use Rattle.cbf_format.proofs.Base64Laws.{Plains}
use Rattle.cbf_format.proofs.SectionTame.{binary_of, base64_of, letters-tame, data_for-tame}
use Rattle.cbf_format.proofs.SectionLaws.{word_count, letters-end, data-says}
use Rattle.cbf_lines.specs.declared.closing.Ending.{Ending}
use Rattle.cbf_reader.specs.declared.data.Data.{Data}
use Rattle.cbf_format.specs.declared.Stop.{Stop}
use Rattle.cbf_format.specs.declared.Stop.TheVariants.{Refused, CutOff}
use Rattle.cbf_lines.specs.Closing.{next_at, closed_at}
use Rattle.cbf_reader.specs.Data.{data_at}
use Rattle.cbf_base64.specs.declared.base64.Groups.{Groups}
use Rattle.cbf_base64.specs.declared.base64_text.Base64Text.{Base64Text}
use Rattle.cbf_base64.specs.Base64.{groups_from, groups_of, groups_hold}
use Rattle.cbf_base64.specs.Base64Text.{letters_at}
use Rattle.cbf_base64.proofs.Base64Laws.{held-decodes, not-held-sized, groups-of}
use Rattle.cbf_base64.proofs.Base64TextLaws.{letters-plain}
use Rattle.cbf_format.specs.Sections as S

-- ---- BINARY

eqb-turned : (x y : ℕ) → eqb x y ≡ eqb y x
eqb-turned x y = go (eqb x y) refl
  where
    go : (t : Bool) → eqb x y ≡ t → t ≡ eqb y x
    go true p = sym (eq-eqb y x (sym (eqb-true x y p)))
    go false p = sym (ne_eqb y x (λ e. eqb-false x y p (sym e)))

pub same-turned : (xs ys : List ℕ) → same xs ys ≡ same ys xs
same-turned [] [] = refl
same-turned [] (y ∷ ys) = refl
same-turned (x ∷ xs) [] = refl
same-turned (x ∷ xs) (y ∷ ys) = (λ i. eqb-turned x y i && same-turned xs ys i)

-- whether bytes start with a word, by the library's test
starts-same : (w s : List ℕ) → starts_with nat_eq s w ≡ same w (take (length w) s)
starts-same [] s = refl
starts-same (x ∷ w) [] = refl
starts-same (x ∷ w) (y ∷ s) = ap (λ (b : Bool). eqb x y && b) (starts-same w s)

module _ (at : ℕ) (w s : List ℕ) where
  front : {b : Bool} → starts_with nat_eq s w ≡ b → same (take (length w) s) w ≡ b
  front e = same-turned (take (length w) s) w ∙ sym (starts-same w s) ∙ e

  not-there : starts_with nat_eq s w ≡ false → None ≡ next_at at (literal w s)
  unfolding literal exactly
  not-there e = go (leb (length w) (length s))
    where
      go : (b : Bool) → None
          ≡ next_at at (screen (λ t. cond (same t w) None (Some (9, 0))) (cond b (ok (take (length w) s) (length w)) (bad 9 (length s))))
      go true = rw (front e)
      go false = refl

  there-at : length w ≤ length s → starts_with nat_eq s w ≡ true → Some (at + length w) ≡ next_at at (literal w s)
  unfolding literal exactly
  there-at h e = rw (le-leb (length w) (length s) h, front e)

-- 8 or 9, at a place
abbrev pub refused_at : ℕ → ℕ → Result Data Stop
refused_at k p = Err (Refused (record { number = k; place = p }))

-- the data of a section whose first octet is at `first`, by what stands after its octets
abbrev pub closed_data : ℕ → ℕ → Option Ending → Result Data Stop
closed_data first after None = refused_at 9 after
closed_data first after (Some e) = Ok (record { first = first; to = e.to; next = e.next })

-- the marker, the octets, their closing
module _ (file : List ℕ) (limit size at : ℕ) where
  after_marker : List ℕ → Parser S.Data
  after_marker m = bind (exactly size) (closed_after limit size)

  unmarked : None ≡ next_at at (literal marker (drop at file)) → refused_at 8 at ≡ data_at at (binary_data limit size (drop at file))
  unfolding binary_data after_marker
  unmarked e = go (literal marker (drop at file)) e
    where
      here : refused_at 8 at ≡ refused_at 8 (at + 0)
      here = let z : at ≡ at + 0 = omega arith in ap (refused_at 8) z

      go : (r : Res (List ℕ)) → None ≡ next_at at r → refused_at 8 at ≡ data_at at (then (blame 8 r) after_marker (drop at file))
      go (bad k p) e = here
      go cut e = here
      go (ok t n) e = absurd cc

  -- the bytes start with the marker, as the code takes them
  abbrev starts : Bool
  starts = starts_with nat_eq (take (length file - at) (drop at file)) marker

  starting : {b : Bool} → starts ≡ b → starts_with nat_eq (drop at file) marker ≡ b
  starting e = ap (λ (l : List ℕ). starts_with nat_eq l marker) (sym (take_rest file at)) ∙ e

  pub binary-unmarked : starts ≡ false → refused_at 8 at ≡ data_at at (binary_data limit size (drop at file))
  binary-unmarked e = unmarked (not-there at marker (drop at file) (starting e))

  module _ {first : ℕ} (h : first ≡ at + 4) (k : first ≤ length file) where
    module _ (there : starts ≡ true) where
      marked : data_at at (plus 4 (after_marker [] (drop first file))) ≡ data_at at (binary_data limit size (drop at file))
      unfolding binary_data after_marker
      marked = go (literal marker (drop at file)) (ap Some h ∙ there-at at marker (drop at file) (omega (arith, length-drop at file)) (starting there))
        where
          go : (r : Res (List ℕ)) → Some first ≡ next_at at r → data_at at (plus 4 (after_marker [] (drop first file)))
              ≡ data_at at (then (blame 8 r) after_marker (drop at file))
          go (bad k p) e = absurd cc
          go cut e = absurd cc
          go (ok t n) e =
              let z : first ≡ at + n = cc in
              let q : n ≡ 4 = omega arith in
              rw (q, drop-drop 4 at file, ← h)

      pub binary-few : length file - first < size → refused_at 9 (length file) ≡ data_at at (binary_data limit size (drop at file))
      unfolding exactly after_marker
      binary-few l = go (drop first file) (length-drop first file) ∙ marked
        where
          go : (s : List ℕ) → length s ≡ length file - first → refused_at 9 (length file) ≡ data_at at (plus 4 (after_marker [] s))
          go s q =
              let z : length file ≡ at + (4 + length s) = omega arith in
              rw (lt-leb size (length s) (omega arith)) (ap (refused_at 9) z)

      pub binary-closed : {after : ℕ} → after ≡ first + size → after ≤ length file → (r : Option Ending) → r ≡ closed_at after (closed limit (drop after file))
          → closed_data first after r ≡ data_at at (binary_data limit size (drop at file))
      unfolding exactly after_marker
      binary-closed {after} a l r q = ap (closed_data first after) q ∙ whole ∙ marked
        where
          wrong : after ≡ at + (4 + (size + 0))
          wrong = omega arith

          go : (os s : List ℕ) (c : Res ℕ)
              → closed_data first after (closed_at after c) ≡ data_at at (plus 4 (plus size (then (blame 9 c) (λ n. ret (binary_of size os n)) s)))
          go os s (bad k p) = ap (refused_at 9) wrong
          go os s cut = ap (refused_at 9) wrong
          go os s (ok n m) =
              let x : after + n ≡ at + (4 + size + n) = omega arith in
              let y : after + m ≡ at + (4 + (size + (m + 0))) = omega arith in
              rw (x, y, h)

          whole : closed_data first after (closed_at after (closed limit (drop after file))) ≡ data_at at (plus 4 (after_marker [] (drop first file)))
          whole =
              rw (le-leb size (length (drop first file)) (omega (arith, length-drop first file)), a, drop-drop size first file, ← a)
              (go (take size (drop first file)) (drop after file) (closed limit (drop after file)))

-- the octets of a BINARY section are those after the marker
pub binary-octets : (limit size : ℕ) (s : List ℕ) (d : S.Data) (n : ℕ) → binary_data limit size s ≡ ok d n → (d.octets ≡ take size (drop 4 s)) × (d.lead ≡ 4)
unfolding binary_data
binary-octets limit size s d n e = go (unbind (λ s. blame 8 (literal marker s)) (λ m. bind (exactly size) (closed_after limit size)) s d n e)
  where
    U₁ : Type 0
    U₁ = Unbound (λ s. blame 8 (literal marker s)) (λ m. bind (exactly size) (closed_after limit size)) s d n

    U₂ : U₁ → Type 0
    U₂ u = Unbound (exactly size) (closed_after limit size) (drop u.first s) d u.second

    U₃ : (u : U₁) → U₂ u → Type 0
    U₃ u v = Unbound (λ s. blame 9 (closed limit s)) (λ c. ret (binary_of size v.val c)) (drop v.first (drop u.first s)) d v.second

    go₃ : (u : U₁) (v : U₂ u) → U₃ u v → (d.octets ≡ take size (drop 4 s)) × (d.lead ≡ 4)
    go₃ u v w =
        let a : u.first ≡ 4 = word_count marker s u.val u.first (unblame 8 (literal marker s) u.val u.first u.did) in
        let q : binary_of size v.val w.val ≡ d = ok-val w.then_did in
        let b : v.val ≡ take size (drop u.first s) = (unoctets size (drop u.first s) v.val v.first v.did).1 in
        (sym (ap (λ (z : S.Data). z.octets) q) ∙ b ∙ ap (λ (k : ℕ). take size (drop k s)) a, sym (ap (λ (z : S.Data). z.lead) q))

    go₂ : (u : U₁) → U₂ u → (d.octets ≡ take size (drop 4 s)) × (d.lead ≡ 4)
    go₂ u v = go₃ u v (unbind (λ s. blame 9 (closed limit s)) (λ c. ret (binary_of size v.val c))
        (drop v.first (drop u.first s)) d v.second v.then_did)

    go : U₁ → (d.octets ≡ take size (drop 4 s)) × (d.lead ≡ 4)
    go u = go₂ u (unbind (exactly size) (closed_after limit size) (drop u.first s) d u.second u.then_did)

-- ---- BASE64

-- the data of a section whose text is at `at` and decodes, by what stands after its closing boundary
abbrev pub closed_text : ℕ → ℕ → Option ℕ → Result Data Stop
closed_text at close None = refused_at 9 close
closed_text at close (Some next) = Ok (record { first = at; to = close + 31; next = next })

module _ (file : List ℕ) (limit size at : ℕ) where
  abbrev found : Res Letters
  found = letters limit closing file_limit 0 (drop at file)

  pub base64-stopped : {s : Stop} → Err s ≡ letters_at at at (groups_of []) found → Err s ≡ data_at at (base64_data limit size (drop at file))
  unfolding base64_data
  base64-stopped {s} e = go found e
    where
      go : (x : Res Letters) → Err s ≡ letters_at at at (groups_of []) x → Err s
          ≡ data_at at (text_closed limit (screen (good_text size) x) (drop at file))
      go (bad k p) e = let z : s ≡ Refused (record { number = k; place = at + p }) = cc in ap Err z
      go cut e = let z : s ≡ CutOff = cc in ap Err z
      go (ok l n) e = absurd cc

  -- the letters of a text that is closed
  record Found (t : Base64Text) : Type 0 where
    text : Letters
    count : ℕ
    is : found ≡ ok text count
    groups : t.groups ≡ groups_of text.symbols
    place : t.closing ≡ at + text.closing
    next : t.next ≡ at + count

  module _ (t : Base64Text) (e : Ok t ≡ letters_at at at (groups_of []) found) where
    letters-found : Found t
    letters-found = go found refl e
      where
        go : (x : Res Letters) → found ≡ x → Ok t ≡ letters_at at at (groups_of []) x → Found t
        go (bad k p) q e = absurd cc
        go cut q e = absurd cc
        go (ok l n) q e =
            let z : t ≡ record { groups = groups_from (groups_of []) l.symbols; closing = at + l.closing; next = at + n } = cc in
            record {
              text = l;
              count = n;
              is = q;
              groups = ap (λ (x : Base64Text). x.groups) z ∙ sym (groups-of l.symbols);
              place = ap (λ (x : Base64Text). x.closing) z;
              next = ap (λ (x : Base64Text). x.next) z;
            }

    plain : Plains letters-found.text.symbols
    plain = let f = letters-found in letters-plain limit closing file_limit 0 (drop at file) f.text f.count f.is

    pub base64-bounds : at ≤ length file → (t.closing ≤ t.next) × (t.next ≤ length file)
    base64-bounds h =
        let f = letters-found in
        let l = letters-end limit closing file_limit 0 (drop at file) f.text f.count f.is in
        let w = (letters-tame limit closing file_limit 0).within (drop at file) f.text f.count f.is in
        (omega (arith, f.place, f.next, l.place, l.sum), omega (arith, f.next, w, length-drop at file))

    pub base64-wrong : groups_hold t.groups size ≡ false → refused_at 10 t.closing ≡ data_at at (base64_data limit size (drop at file))
    unfolding base64_data
    base64-wrong h =
        let f = letters-found in
        ap (refused_at 10) f.place
        ∙ rw (f.is, not-held-sized size plain (ap (λ (x : Groups). groups_hold x size) (sym f.groups) ∙ h))

    pub base64-closed : groups_hold t.groups size ≡ true → (r : Option ℕ) → r ≡ next_at t.next (semicolon_line limit (drop t.next file))
        → closed_text at t.closing r ≡ data_at at (base64_data limit size (drop at file))
    unfolding base64_data
    base64-closed h r q =
        let f = letters-found in
        let d = held-decodes size plain (ap (λ (x : Groups). groups_hold x size) (sym f.groups) ∙ h) in
        ap (closed_text at t.closing) q ∙ rw (f.is, d.fits, drop-drop f.count at file, ← f.next)
        (go f.text f.count f.place f.next (semicolon_line limit (drop t.next file)))
      where
        go : (l : Letters) (n : ℕ) → t.closing ≡ at + l.closing → t.next ≡ at + n → (x : Res (List ℕ))
            → closed_text at t.closing (next_at t.next x) ≡ data_at at (S.blame_at 9 l.closing (plus n (then x (λ e. ret (base64_of l)) (drop t.next file))))
        go l n p a (bad j i) = ap (refused_at 9) p
        go l n p a cut = ap (refused_at 9) p
        go l n p a (ok w m) =
            let x : t.closing + 31 ≡ at + (l.closing + 31) = omega arith in
            let y : t.next + m ≡ at + (n + (m + 0)) = omega arith in
            let z : at ≡ at + 0 = omega arith in
            (λ i. Ok (record { first = z i; to = x i; next = y i }))

-- ---- either encoding

-- the first octet is before the span's end, that before the next line, and all in the file
pub record Within (file : List ℕ) (d : Data) : Type 0 where
  pub low : d.first ≤ d.to
  pub high : d.to ≤ d.next
  pub inside : d.next ≤ length file

pub data-bounds : (file : List ℕ) (limit : ℕ) (e : Encoding) (size at : ℕ) (d : Data) → at ≤ length file
    → Ok d ≡ data_at at (data_for limit e size (drop at file)) → Within file d
data-bounds file limit e size at d h q = go (data_for limit e size (drop at file)) refl q
  where
    go : (r : Res S.Data) → data_for limit e size (drop at file) ≡ r → Ok d ≡ data_at at r → Within file d
    go (bad k p) i q = absurd cc
    go cut i q = absurd cc
    go (ok x n) i q =
        let s = data-says limit e size (drop at file) x n i in
        let w = (data_for-tame limit e size).within (drop at file) x n i in
        let z : d ≡ record { first = at + x.lead; to = at + x.width; next = at + n } = cc in
        let a : d.first ≡ at + x.lead = ap (λ (y : Data). y.first) z in
        let b : d.to ≡ at + x.width = ap (λ (y : Data). y.to) z in
        let c : d.next ≡ at + n = ap (λ (y : Data). y.next) z in
        record { low = omega (arith, a, b, s.lead); high = omega (arith, b, c, s.closes.sum); inside = omega (arith, c, w, length-drop at file) }
