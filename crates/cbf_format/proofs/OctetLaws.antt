-- A section of an accepted file and the bytes of the file that its octets come from: where they stand, how many they
-- are, and what the headers say of them. Assumes nothing.
use mathlib.Core.Path.{◌≡◌, refl, sym, ap, ◌∙◌, subst}
use Rattle.std.specs.Prelude.{Option, None, Some}
use Rattle.std.proofs.lemmas.Option.{none-some}
use mathlib.Core.Bool.{Bool, true, false}
use mathlib.Core.List.{List, [], ◌∷◌, ◌++◌}
use Prim.Native.Nat.{ℕ, zero, suc, ◌+◌, ◌*◌, ◌≤◌}
use native.Mathlib.Omega.{arith}
use lib.Dec.{eqb}
use borrow.Author.Tests.{eqb-true}
use lib.ListN.{length, take, drop, length-append, length-drop}
use lib.Seq.{slice, drop_at, drop-drop, length-take-le}
use Rattle.cbf_walk.specs.Parsers.{ok, ret, blame, bind}
use Rattle.cbf_walk.specs.Reading.{good, flat}
use Rattle.cbf_walk.proofs.Good.{Good}
use Rattle.cbf_walk.proofs.ParserLaws.{Unbound, ok-val, unbind, unscreen, unblame}
use Rattle.cbf_pixels.specs.declared.Compression.TheVariants.{Uncompressed}
use Rattle.cbf_pixels.specs.Uncompressed.{octets_per}
use Rattle.cbf_format.specs.declared.Encoding.{Encoding}
use Rattle.cbf_format.specs.declared.Encoding.TheVariants.{Binary, Base64}
use Rattle.cbf_format.specs.Lines.{exactly, literal, semicolon_line}
use Rattle.cbf_format.specs.Headers.{HeaderLines, header_lines}
use Rattle.cbf_format.specs.Descriptions.{describes, verdict, headers}
use Rattle.cbf_format.specs.Base64.{Letters, letters, decode}
use Rattle.cbf_format.specs.Sections.{closing, marker, Data, closed, closed_after, binary_data, good_text, decoded}
use Rattle.cbf_format.specs.Sections.{base64_data, data_for, Section}
use Rattle.cbf_answers.specs.Limits.{file_limit, pixel_limit}
use Rattle.cbf_format.specs.Files.{State, start, due, step, Tree, read}
use Rattle.cbf_format.specs.Listing.{Placed, add_placed, sections, numbered, position}
use Rattle.cbf_format.proofs.Slices.{slice-take}
use Rattle.cbf_format.proofs.LineTame.{unoctets}
use Rattle.cbf_format.proofs.SectionTame.{unconclude, binary_of, text, base64_of, after_text, unclose}
use Rattle.cbf_format.proofs.SectionLaws.{word_count, DataSays, data-says}
use Rattle.cbf_format.proofs.FileLaws.{Took, took, accepted}
use Rattle.cbf_format.proofs.VerdictLaws.{Known, known, size-agrees}

-- a section's data: what stands behind its headers, at a place of the file
pub record DataAt (limit : ℕ) (file : List ℕ) (p : Placed) : Type 0 where
  pub at : ℕ
  pub found : Data
  pub took : ℕ
  pub read_data : data_for limit p.section.description.encoding p.section.description.size (drop at file) ≡ ok found took
  pub octets : p.section.octets ≡ found.octets
  pub first : position p ≡ at + found.lead
  pub end : p.boundary + p.section.width ≡ at + found.width
  pub inside : at + took ≤ length file
  pub described : (hs : HeaderLines) × (verdict hs ≡ describes p.section.description)

-- ---- each section of a tree

module _ (limit : ℕ) (file : List ℕ) where
  -- the section that a step took, which is at a place of the file
  taken : (at : ℕ) (st t : State) (s : List ℕ) (i : Section) (n : ℕ) → drop at file ≡ s → at + n ≤ length file → Took limit st t s i n
      → DataAt limit file (record { boundary = at; section = i })
  unfolding headers
  taken at st t s i n e h k =
      let c = k.parts in
      let f : k.top + c.head + c.found.lead ≡ i.first = ap (λ (z : Section). z.first) c.is in
      let w : k.top + c.head + c.found.width ≡ i.width = ap (λ (z : Section). z.width) c.is in
      let here : drop (at + k.top + c.head) file ≡ drop c.head (drop k.top s) =
      sym (drop-drop c.head (at + k.top) file) ∙ ap (drop c.head) (sym (drop-drop k.top at file) ∙ ap (drop k.top) e) in
      let u = unconclude (header_lines limit file_limit true 0 (drop k.top s)) i.description c.head c.heads in
      record {
        at = at + k.top + c.head;
        found = c.found;
        took = c.rest;
        read_data = ap (data_for limit i.description.encoding i.description.size) here ∙ c.did;
        octets = sym (ap (λ (z : Section). z.octets) c.is);
        first = omega (arith, f);
        end = omega (arith, w);
        inside = omega (arith, k.sum, c.sum);
        described = (u.0, u.2);
      }

  data-from : (at : ℕ) (its : Tree) (st : State) → at ≤ length file → drop at file ≡ flat its → Good (step limit) due st its
      → (n : ℕ) (p : Placed) → numbered n (sections at its) ≡ Some p → DataAt limit file p
  unfolding Good sections flat numbered
  data-from at [] st h e g zero p q = absurd (none-some p q)
  data-from at [] st h e g (suc n) p q = absurd (none-some p q)
  data-from at (it ∷ its) st h e g n p q = go it.info it.next g.0 n q (λ m r. data-from next its it.next fits rest g.2 m p r)
    where
      next : ℕ
      next = at + length it.bytes

      fits : next ≤ length file
      fits = omega (arith, length-append it.bytes (flat its), length-drop at file, ap length e)

      rest : drop next file ≡ flat its
      rest = sym (drop-drop (length it.bytes) at file) ∙ ap (drop (length it.bytes)) e ∙ drop_at it.bytes (flat its) (length it.bytes) refl

      go : (o : Option Section) (t : State) → step limit st (it.bytes ++ flat its) ≡ ok (o, t) (length it.bytes) → (m : ℕ)
          → numbered m (add_placed at o (sections next its)) ≡ Some p → ((m : ℕ) → numbered m (sections next its)
          ≡ Some p → DataAt limit file p) → DataAt limit file p
      go None t d m r ih = ih m r
      go (Some i) t d zero r ih = absurd (none-some p r)
      go (Some i) t d (suc zero) r ih =
          let s : record { boundary = at; section = i } ≡ p = cc in
          subst (DataAt limit file) s
          (taken at st t (it.bytes ++ flat its) i (length it.bytes) e fits (took limit st t (it.bytes ++ flat its) i (length it.bytes) d))
      go (Some i) t d (suc (suc m)) r ih = ih (suc m) r

pub data-at : (limit n : ℕ) (file : List ℕ) (its : Tree) (p : Placed) → read limit file ≡ good its → numbered n (sections 0 its) ≡ Some p → DataAt limit file p
data-at limit n file its p e q = let a = accepted limit file its e in data-from limit file 0 its start (omega arith) (sym a.whole) a.is_good n p q

-- ---- the data

-- BINARY: the octets are the bytes after the first 4
record BinaryAt (size : ℕ) (s : List ℕ) (d : Data) : Type 0 where
  octets : d.octets ≡ take size (drop 4 s)
  lead : d.lead ≡ 4
  fits : size ≤ length (drop 4 s)

binary-at : (limit size : ℕ) (s : List ℕ) (d : Data) (n : ℕ) → binary_data limit size s ≡ ok d n → BinaryAt size s d
unfolding binary_data
binary-at limit size s d n e = go (unbind (λ s. blame 8 (literal marker s)) (λ m. bind (exactly size) (closed_after limit size)) s d n e)
  where
    U₁ : Type 0
    U₁ = Unbound (λ s. blame 8 (literal marker s)) (λ m. bind (exactly size) (closed_after limit size)) s d n

    U₂ : U₁ → Type 0
    U₂ u = Unbound (exactly size) (closed_after limit size) (drop u.first s) d u.second

    go₃ : (u : U₁) (v : U₂ u) → Unbound (λ s. blame 9 (closed limit s)) (λ c. ret (binary_of size v.val c))
        (drop v.first (drop u.first s)) d v.second
        → BinaryAt size s d
    go₃ u v w =
        let a : u.first ≡ 4 = word_count marker s u.val u.first (unblame 8 (literal marker s) u.val u.first u.did) in
        let b = unoctets size (drop u.first s) v.val v.first v.did in
        let q : binary_of size v.val w.val ≡ d = ok-val w.then_did in
        record {
          octets = sym (ap (λ (z : Data). z.octets) q) ∙ b.1 ∙ ap (λ (k : ℕ). take size (drop k s)) a;
          lead = sym (ap (λ (z : Data). z.lead) q);
          fits = subst (λ (k : ℕ). size ≤ length (drop k s)) a b.0;
        }

    go₂ : (u : U₁) → U₂ u → BinaryAt size s d
    go₂ u v = go₃ u v (unbind (λ s. blame 9 (closed limit s)) (λ c. ret (binary_of size v.val c))
        (drop v.first (drop u.first s)) d v.second v.then_did)

    go : U₁ → BinaryAt size s d
    go u = go₂ u (unbind (exactly size) (closed_after limit size) (drop u.first s) d u.second u.then_did)

-- BASE64: as many octets as declared
good_text_lem : (size : ℕ) (l : Letters) → good_text size l ≡ None → length (decoded (decode l.symbols)) ≡ size
good_text_lem size l e = go (decode l.symbols) refl
  where
    go : (o : Option (List ℕ)) → decode l.symbols ≡ o → length (decoded o) ≡ size
    go None q = absurd (none-some (10, l.closing) (sym (rw q at e)))
    go (Some os) q = by (eqb (length os) size) refl
      where
        by : (b : Bool) → eqb (length os) size ≡ b → length os ≡ size
        by true h = eqb-true (length os) size h
        by false h = absurd (none-some (10, l.closing) (sym (rw (q, h) at e)))

base64-count : (limit size : ℕ) (s : List ℕ) (d : Data) (n : ℕ) → base64_data limit size s ≡ ok d n → length d.octets ≡ size
unfolding base64_data
base64-count limit size s d n e = go (unbind (text limit size) (after_text limit) s d n (unclose limit (text limit size s) s d n e))
  where
    go : Unbound (text limit size) (after_text limit) s d n → length d.octets ≡ size
    go u =
        let v = unbind (semicolon_line limit) (λ e. ret (base64_of u.val)) (drop u.first s) d u.second u.then_did in
        ap (λ (z : Data). length z.octets) (sym (ok-val v.then_did))
        ∙ good_text_lem size u.val (unscreen (good_text size) (letters limit closing file_limit 0 s) u.val u.first u.did).1

data-count : (limit : ℕ) (e : Encoding) (size : ℕ) (s : List ℕ) (d : Data) (n : ℕ) → data_for limit e size s ≡ ok d n → length d.octets ≡ size
data-count limit Binary size s d n e = let b = binary-at limit size s d n e in ap length b.octets ∙ length-take-le size (drop 4 s) b.fits
data-count limit Base64 size s d n e = base64-count limit size s d n e

-- ---- a section and its octets

module _ {limit : ℕ} {file : List ℕ} {p : Placed} (d : DataAt limit file p) where
  says : DataSays limit (drop d.at file) d.found d.took
  says =
      let x = p.section.description in
      data-says limit x.encoding x.size (drop d.at file) d.found d.took d.read_data

  -- the first octet is in the file
  pub position_in : position p ≤ length file
  position_in = omega (arith, d.first, d.inside, says.lead, says.closes.sum)

  -- so is the whole span
  pub span-in : p.boundary + p.section.width ≤ length file
  span-in = omega (arith, d.end, d.inside, says.closes.sum)

  -- BINARY: the octets are a part of the file
  pub binary-octets : p.section.description.encoding ≡ Binary
      → (p.section.octets ≡ slice (position p) (position p + p.section.description.size) file) × (position p + p.section.description.size ≤ length file)
  binary-octets e = go (binary-at limit size (drop d.at file) d.found d.took (rw e at d.read_data))
    where
      size : ℕ
      size = p.section.description.size

      go : BinaryAt size (drop d.at file) d.found → (p.section.octets ≡ slice (position p) (position p + size) file) × (position p + size ≤ length file)
      go b =
          let at : d.at + 4 ≡ position p = omega (arith, d.first, b.lead) in
          let here : drop 4 (drop d.at file) ≡ drop (position p) file = drop-drop 4 d.at file ∙ ap (λ (k : ℕ). drop k file) at in (
            d.octets ∙ b.octets ∙ ap (take size) here ∙ sym (slice-take file (position p) size position_in),
            omega (arith, b.fits, ap length here, length-drop (position p) file, position_in),
          )

  -- "octet count as declared", for both encodings
  pub octet-count : length p.section.octets ≡ p.section.description.size
  octet-count =
      ap length d.octets
      ∙ data-count limit p.section.description.encoding p.section.description.size (drop d.at file) d.found d.took d.read_data

  -- the bounds of the headers' numbers
  pub bounded : Known p.section.description
  bounded = known d.described.0 p.section.description d.described.1

  -- "X-Binary-Number-of-Elements .. 0 to 67,108,864"
  pub few-elements : p.section.description.elements ≤ pixel_limit
  few-elements = bounded.few

  -- "uncompressed size = elements × octets per element"
  pub whole-elements : p.section.description.compression ≡ Uncompressed
      → p.section.description.size ≡ p.section.description.elements * octets_per p.section.description.kind
  whole-elements e =
      let x = p.section.description in
      eqb-true x.size (x.elements * octets_per x.kind) (rw e at (size-agrees d.described.0 x d.described.1))
