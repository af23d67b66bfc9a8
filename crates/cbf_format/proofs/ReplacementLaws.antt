-- A file with any of its sections replaced is accepted and reads back, all other bytes are as they were, and one
-- replacement after another is one replacement. Assumes nothing.
use mathlib.Core.Path.{◌≡◌, refl, sym, ap, ◌∙◌, subst}
use mathlib.Core.Logic.{◌≢◌}
use Rattle.std.specs.Prelude.{Option, None, Some}
use Rattle.std.proofs.lemmas.Option.{none-some}
use mathlib.Core.Bool.{Bool, true, false, cond}
use mathlib.Core.List.{List, [], ◌∷◌}
use Prim.Native.Nat.{ℕ, zero, suc, ◌+◌, ◌-◌, ◌≤◌, ◌<◌}
use native.Mathlib.Nat.{not-suc-le-zero, add_assoc, zero-add, add-zero}
use native.Mathlib.Omega.{arith}
use lib.Dec.{eqb}
use borrow.Author.Tests.{eqb-true, eq-eqb, ne_eqb}
use lib.ListN.{length, drop}
use lib.IntN.{ℤ}
use Rattle.cbf_walk.specs.Parsers.{hd}
use Rattle.cbf_walk.specs.Reading.{good, flat}
use Rattle.cbf_walk.specs.Exchange.{Exchange, exchanged}
use Rattle.cbf_walk.proofs.Sections.{nth, start_of}
use Rattle.cbf_walk.proofs.SectionLaws.{Plain, Section as Sectional, by-items, span-inside}
use Rattle.cbf_walk.proofs.Choices.{Chosen, Choice, chosen_info, rewrite, then_or, after_or, and_then, span_or, chosen_spans}
use Rattle.cbf_walk.proofs.Choices.{Lawful, SameOutside}
use Rattle.cbf_walk.proofs.ChoiceLaws.{info_then, AllLawful, nth-rewrite, rewrite-good, rewrite-then, rewrite-same}
use Rattle.cbf_walk.proofs.ChoiceLaws.{rewrite-outside, rewrite-file}
use Rattle.cbf_pixels.specs.Pixels.{pack_byte_offset}
use Rattle.cbf_pixels.proofs.Bounds.{packed-bounds}
use Rattle.cbf_format.specs.declared.Description.{Description}
use Rattle.cbf_answers.specs.Limits.{file_limit}
use Rattle.cbf_format.specs.Sections.{Section}
use Rattle.cbf_format.specs.Files.{due, step, Tree, read, start as beginning}
use Rattle.cbf_format.specs.Listing.{Placed, sections, numbered}
use Rattle.cbf_format.specs.House.{house_lines, house, in_house, replaced_file, NewOctets, only, later_or, later}
use Rattle.cbf_format.specs.House.{add_exchange, exchanges, replaced_sections}
use Rattle.cbf_format.proofs.FileLaws.{step-tame, accepted, accepts, accepted-spans}
use Rattle.cbf_format.proofs.VerdictLaws.{Known, known}
use Rattle.cbf_format.proofs.OctetLaws.{data-at}
use Rattle.cbf_format.proofs.HouseSections.{housed_section, Fits, house-lawful}

-- ---- the section with a number, and its place

-- a section that is there, at a place
abbrev placed : ℕ → Option Section → Option Placed
placed at None = None
placed at (Some i) = Some (record { boundary = at; section = i })

unplaced : (at : ℕ) (o : Option Section) (p : Placed) → placed at o ≡ Some p → (o ≡ Some p.section) × (at ≡ p.boundary)
unplaced at None p e = absurd (none-some p e)
unplaced at (Some i) p e = let q : record { boundary = at; section = i }
    ≡ p = cc in (ap (λ (z : Placed). Some z.section) q, ap (λ (z : Placed). z.boundary) q)

numbered-placed : (its : Tree) (at n : ℕ) → numbered (suc n) (sections at its) ≡ placed (at + start_of n its) (nth n its)
unfolding nth start_of sections numbered
numbered-placed = by-items P (λ at n. refl) plain go
  where
    P : Tree → Type 0
    P its = (at n : ℕ) → numbered (suc n) (sections at its) ≡ placed (at + start_of n its) (nth n its)

    plain : Plain P
    plain it its ih at n = ih (at + length it.bytes) n ∙ ap (λ (k : ℕ). placed k (nth n its)) (add_assoc at (length it.bytes) (start_of n its))

    go : Sectional P
    go it a its ih at zero = ap (λ (k : ℕ). placed k (Some a)) (sym (add-zero at))
    go it a its ih at (suc n) = plain it its ih at n

numbered_is : (n : ℕ) (its : Tree) → numbered (suc n) (sections 0 its) ≡ placed (start_of n its) (nth n its)
numbered_is n its = numbered-placed its 0 n ∙ ap (λ (k : ℕ). placed k (nth n its)) (zero-add (start_of n its))

-- section n of a tree, from 0, and its place
abbrev pub IsAt : ℕ → Tree → Placed → Type 0
IsAt n its p = (nth n its ≡ Some p.section) × (start_of n its ≡ p.boundary)

pub numbered-nth : (n : ℕ) (its : Tree) (p : Placed) → numbered (suc n) (sections 0 its) ≡ Some p → IsAt n its p
numbered-nth n its p e = unplaced (start_of n its) (nth n its) p (sym (numbered_is n its) ∙ e)

pub nth-numbered : (n : ℕ) (its : Tree) (i : Section) → nth n its ≡ Some i → numbered (suc n) (sections 0 its)
    ≡ Some (record { boundary = start_of n its; section = i })
nth-numbered n its i e = numbered_is n its ∙ ap (placed (start_of n its)) e

-- there is no section 0
no_zero : {A : Type 0} (its : Tree) (p : Placed) → numbered 0 (sections 0 its) ≡ Some p → A
unfolding numbered
no_zero its p e = absurd (none-some p e)

-- the span of a section of an accepted file, and what its headers say
pub record SpanAt (file : List ℕ) (p : Placed) : Type 0 where
  pub inside : p.boundary + p.section.width ≤ length file
  pub short : length file ≤ file_limit
  pub is_known : Known p.section.description

pub span-at : (limit n : ℕ) (file : List ℕ) (its : Tree) (p : Placed) → read limit file ≡ good its → numbered n (sections 0 its) ≡ Some p → SpanAt file p
span-at limit zero file its p r e = no_zero its p e
span-at limit (suc n) file its p r e =
    let a = accepted limit file its r in
    let at = numbered-nth n its p e in
    let d = (data-at limit (suc n) file its p r e).described in
    record {
      inside = omega (
        arith,
        span-inside (λ (i : Section). i.width) its n p.section at.0 (accepted-spans limit file its a),
        ap length a.whole,
        at.1,
      );
      short = a.not_long;
      is_known = known d.0 p.section.description d.1;
    }

-- "Fits: as many pixels as elements": the packed frame is then as long as a section's octets may be
pub packed-fits : (d : Description) (frame : List ℤ) → Known d → length frame ≡ d.elements → Fits d (pack_byte_offset frame)
packed-fits d frame k e =
    let b = packed-bounds frame in
    record { is_known = k; low = omega (arith, e); high = omega (arith, e); small = omega (arith, e, k.few) }

-- ---- sections in house form with new octets

abbrev width : Section → ℕ
width i = i.width

-- a section in house form with these octets: its span, and what is read of it
abbrev in_form : List ℕ → Section → List ℕ × Section
in_form os i = (house i.description os, housed_section os i)

abbrev housed_or : Section → Option (List ℕ) → Chosen Section
housed_or i None = None
housed_or i (Some os) = Some (in_form os i)

abbrev choice : NewOctets → Choice Section
choice f n i = housed_or i (f n)

-- the tree with all sections in house form that have new octets
abbrev pub replaced_tree : NewOctets → Tree → Tree
replaced_tree f its = rewrite width (choice f) 1 its

-- what is then read of a section
abbrev pub section_then : Option (List ℕ) → Section → Section
section_then o i = chosen_info (housed_or i o) i

-- house form of house form is house form
pub house-again : (os os' : List ℕ) (i : Section) → in_form os' (housed_section os i) ≡ in_form os' i
unfolding house house_lines
house-again os os' i = refl

module _ (f : NewOctets) where
  -- the section that is chosen is in house form
  form : (n : ℕ) (i : Section) (wv : List ℕ × Section) → choice f n i ≡ Some wv
      → (os : List ℕ) × (f n ≡ Some os) × (in_form os i ≡ wv)
  form n i wv e = go (f n) refl e
    where
      go : (o : Option (List ℕ)) → f n ≡ o → housed_or i o ≡ Some wv
          → (os : List ℕ) × (f n ≡ Some os) × (in_form os i ≡ wv)
      go None q e = absurd (none-some wv e)
      go (Some os) q e = (os, q, cc)

  again : (n : ℕ) (i : Section) (wv : List ℕ × Section) → choice f n i ≡ Some wv
      → (width wv.1 ≡ length wv.0) × (choice f n wv.1 ≡ Some wv)
  again n i wv e =
      let u = form n i wv e in
      subst (λ (y : List ℕ × Section). (width y.1 ≡ length y.0) × (choice f n y.1 ≡ Some y)) u.2
      (refl, ap (housed_or (housed_section u.0 i)) u.1 ∙ ap Some (house-again u.0 u.0 i))

  -- the spans that are exchanged are those that are chosen
  abbrev SpansChosen : Tree → Type 0
  SpansChosen its = (n at : ℕ) → exchanges f n (sections at its) ≡ chosen_spans width (choice f) n at its

  exchanges-chosen : (its : Tree) → SpansChosen its
  unfolding sections exchanges chosen_spans
  exchanges-chosen = by-items SpansChosen (λ n at. refl) (λ it its ih n at. ih n (at + length it.bytes)) go
    where
      go : Sectional SpansChosen
      go it a its ih n at = (λ k. add_exchange p (f n) (ih (suc n) (at + length it.bytes) k)) ∙ by (f n) _
        where
          p : Placed
          p = record { boundary = at; section = a }

          by : (o : Option (List ℕ)) (xs : List Exchange) → add_exchange p o xs ≡ span_or width (housed_or a o) at a xs
          by None xs = refl
          by (Some os) xs = refl

-- the new octets fit their sections
abbrev pub AllFit : Tree → NewOctets → Type 0
AllFit its f = (n : ℕ) (p : Placed) (os : List ℕ) → numbered n (sections 0 its) ≡ Some p → f n ≡ Some os
    → Fits p.section.description os

-- ---- the file

module _ (limit : ℕ) (file : List ℕ) (its : Tree) (reads : read limit file ≡ good its) (f : NewOctets) where
  abbrev new : List ℕ
  new = replaced_sections file (sections 0 its) f

  pub tree-file : flat (replaced_tree f its) ≡ new
  unfolding replaced_sections
  tree-file =
      let a = accepted limit file its reads in
      rewrite-file width (choice f) (again f) its 1 (accepted-spans limit file its a)
      ∙ (λ k. exchanged 0 (sym (exchanges-chosen f its 1 0) k) (a.whole k))

  -- every byte outside the spans is in its place, and the spans are what they were exchanged for
  pub outside-same : SameOutside file new 0 (exchanges f 1 (sections 0 its))
      0 (exchanges f 1 (sections 0 (replaced_tree f its)))
  outside-same =
      let a = accepted limit file its reads in
      let x = exchanges-chosen f its 1 0 in
      let y = exchanges-chosen f (replaced_tree f its) 1 0 in
      coe 0 1 (k. SameOutside (a.whole k) (tree-file k) 0 (sym x k) 0 (sym y k))
      (rewrite-outside width (choice f) (again f) its 1 (accepted-spans limit file its a))

  -- each section keeps its number
  pub section-then : (n : ℕ) (p : Placed) → numbered n (sections 0 its) ≡ Some p
      → (q : Placed) × (numbered n (sections 0 (replaced_tree f its)) ≡ Some q)
      × (q.section ≡ section_then (f n) p.section)
  section-then zero p e = no_zero its p e
  section-then (suc n) p e =
      let tree = replaced_tree f its in
      let i = section_then (f (suc n)) p.section in
      let z : 1 + n ≡ suc n = omega arith in
      let there : nth n tree ≡ Some i =
      nth-rewrite width (choice f) its 1 n ∙ (λ k. info_then (choice f) (z k) ((numbered-nth n its p e).0 k)) in
      (record { boundary = start_of n tree; section = i }, nth-numbered n tree i there, refl)

  module _ (wide : 48 ≤ limit) (fit : AllFit its f) where
    lawful : AllLawful (step limit) due width (step-tame limit) (choice f) 1 its
    lawful m i wv e q =
        let u = form f (1 + m) i wv q in
        let p : Placed = record { boundary = start_of m its; section = i } in
        let y : suc m ≡ 1 + m = omega arith in
        subst (Lawful (step limit) width i) u.2
        (house-lawful limit u.0 i wide (fit (suc m) p u.0 (nth-numbered m its i e) (ap f y ∙ u.1)))

    -- it is accepted
    pub replaced-read : length new ≤ file_limit → read limit new ≡ good (replaced_tree f its)
    replaced-read l =
        let a = accepted limit file its reads in
        let g = rewrite-good (step limit) due width (step-tame limit) (choice f) its beginning 1 lawful a.is_good in
        accepts limit new (replaced_tree f its)
        (record {
          is_good = g.0;
          whole = tree-file;
          not_empty = some_byte new file (ap hd (sym tree-file) ∙ g.1 ∙ ap hd a.whole) a.not_empty;
          not_long = l;
        })
      where
        some_byte : (s t : List ℕ) → hd s ≡ hd t → 0 < length t → 0 < length s
        some_byte s [] e h = absurd (not-suc-le-zero h)
        some_byte [] (y ∷ t) e h = absurd (none-some y e)
        some_byte (x ∷ s) (y ∷ t) e h = omega arith

-- ---- one replacement after another

then-later : (f g : NewOctets) (n : ℕ) (i : Section) → and_then (choice f) (choice g) n i ≡ choice (later f g) n i
then-later f g n i = go (f n) (g n) refl
  where
    go : (x y : Option (List ℕ)) → g n ≡ y → after_or (choice g) n i (housed_or i x) ≡ housed_or i (later_or x y)
    go None None q = ap (housed_or i) q
    go None (Some os) q = ap (housed_or i) q
    go (Some os) y q = ap (λ (o : Option (List ℕ)). then_or (in_form os i) (housed_or (housed_section os i) o)) q ∙ by y
      where
        by : (y : Option (List ℕ))
            → then_or (in_form os i) (housed_or (housed_section os i) y) ≡ housed_or i (later_or (Some os) y)
        by None = refl
        by (Some os') = ap Some (house-again os os' i)

-- is one replacement, in which the later octets of a section count
pub tree-later : (f g : NewOctets) (its : Tree) → replaced_tree g (replaced_tree f its) ≡ replaced_tree (later f g) its
tree-later f g its =
    rewrite-then width (choice f) (choice g) (λ n i wv e. (again f n i wv e).0) its 1
    ∙ rewrite-same width (and_then (choice f) (choice g)) (choice (later f g)) its 1 (λ m i e. then-later f g (1 + m) i)

pub file-later : (limit : ℕ) (file : List ℕ) (its : Tree) (f g : NewOctets) → read limit file ≡ good its
    → let new = replaced_sections file (sections 0 its) f in
    read limit new ≡ good (replaced_tree f its)
    → replaced_sections new (sections 0 (replaced_tree f its)) g ≡ replaced_sections file (sections 0 its) (later f g)
file-later limit file its f g r r' =
    let new = replaced_sections file (sections 0 its) f in
    sym (tree-file limit new (replaced_tree f its) r' g) ∙ ap flat (tree-later f g its)
    ∙ tree-file limit file its r (later f g)

-- ---- new octets of one section, and of two

-- new octets that agree from a section on
pub exchanges-same : (f g : NewOctets) (n : ℕ) (ps : List Placed) → ((k : ℕ) → n ≤ k → f k ≡ g k)
    → exchanges f n ps ≡ exchanges g n ps
unfolding exchanges
exchanges-same f g n [] h = refl
exchanges-same f g n (p ∷ ps) h =
    λ k. add_exchange p (h n (omega arith) k) (exchanges-same f g (suc n) ps (λ m l. h m (omega arith)) k)

pub replaced-same : (file : List ℕ) (ps : List Placed) (f g : NewOctets) → ((n : ℕ) → f n ≡ g n)
    → replaced_sections file ps f ≡ replaced_sections file ps g
unfolding replaced_sections
replaced-same file ps f g h = λ k. exchanged 0 (exchanges-same f g 1 ps (λ m l. h m) k) file

module _ (f : NewOctets) where
  -- none of these sections has new octets
  pub exchanges-none : (ps : List Placed) (n : ℕ) → ((k : ℕ) → n ≤ k → f k ≡ None) → exchanges f n ps ≡ []
  unfolding exchanges
  exchanges-none [] n h = refl
  exchanges-none (p ∷ ps) n h = rw (h n (omega arith)) (exchanges-none ps (suc n) (λ k l. h k (omega arith)))

  -- the first one that has
  exchanges-first : (ps : List Placed) (n m : ℕ) (p : Placed) (os : List ℕ) → ((k : ℕ) → n ≤ k → k < n + m → f k ≡ None)
      → f (n + m) ≡ Some os → numbered (suc m) ps ≡ Some p
      → exchanges f n ps ≡ in_house p os ∷ exchanges f (suc (n + m)) (drop (suc m) ps)
  unfolding exchanges numbered
  exchanges-first [] n m p os h e q = absurd (none-some p q)
  exchanges-first (x ∷ ps) n zero p os h e q =
      let z : n + 0 ≡ n = omega arith in
      let y : x ≡ p = cc in
      rw (sym (ap f z) ∙ e, y, z)
  exchanges-first (x ∷ ps) n (suc m) p os h e q =
      let z : suc n + m ≡ n + suc m = omega arith in
      rw (h n (omega arith) (omega arith))
      (exchanges-first ps (suc n) m p os (λ k l j. h k (omega arith) (omega arith)) (ap f z ∙ e) q
      ∙ ap (λ (k : ℕ). in_house p os ∷ exchanges f (suc k) (drop (suc m) ps)) z)

numbered-drop : (m k : ℕ) (ps : List Placed) → numbered (suc k) (drop m ps) ≡ numbered (suc (m + k)) ps
unfolding numbered
numbered-drop zero k ps = let z : k ≡ 0 + k = omega arith in ap (λ (j : ℕ). numbered (suc j) ps) z
numbered-drop (suc m) k [] = refl
numbered-drop (suc m) k (p ∷ ps) =
    let z : suc (m + k) ≡ suc m + k = omega arith in
    numbered-drop m k ps ∙ ap (λ (j : ℕ). numbered (suc j) (p ∷ ps)) z

only_same : (n : ℕ) (os : List ℕ) → only n os n ≡ Some os
only_same n os = rw (eq-eqb n n refl)

pub only-other : (n m : ℕ) (os : List ℕ) → m ≢ n → only n os m ≡ None
only-other n m os h = rw (ne_eqb m n h)

-- replacing one section is the choice of one
pub replaced-one : (file : List ℕ) (ps : List Placed) (n : ℕ) (p : Placed) (os : List ℕ) → numbered n ps ≡ Some p
    → replaced_sections file ps (only n os) ≡ replaced_file file p os
unfolding numbered replaced_sections replaced_file
replaced-one file ps zero p os e = absurd (none-some p e)
replaced-one file ps (suc n) p os e =
    let z : suc n ≡ 1 + n = omega arith in
    let f = only (suc n) os in
    let other : (k : ℕ) → k ≢ suc n → f k ≡ None = λ k. only-other (suc n) k os in
    let None-more = exchanges-none f (drop (suc n) ps) (suc (1 + n)) (λ k l. other k (λ q. omega arith)) in
    ap (λ (xs : List Exchange). exchanged 0 xs file)
    (exchanges-first f ps 1 n p os (λ k l h. other k (λ q. omega arith)) (sym (ap f z) ∙ only_same (suc n) os) e
    ∙ ap (λ (xs : List Exchange). in_house p os ∷ xs) None-more)

-- new octets fit where they fit one by one
pub fit-only : (its : Tree) (n : ℕ) {p : Placed} {os : List ℕ} → numbered n (sections 0 its) ≡ Some p
    → Fits p.section.description os → AllFit its (only n os)
fit-only its n {p} {os} e f m q os' e' h = go (eqb m n) refl h
  where
    go : (b : Bool) → eqb m n ≡ b → cond b (Some os) None ≡ Some os' → Fits q.section.description os'
    go true r h =
        let x : os ≡ os' = cc in
        let y : Some p ≡ Some q = sym e ∙ ap (λ (k : ℕ). numbered k (sections 0 its)) (sym (eqb-true m n r)) ∙ e' in
        let z : p ≡ q = cc in
        coe 0 1 (k. Fits (z k).section.description (x k)) f
    go false r h = absurd (none-some os' h)

pub fit-later : (its : Tree) (f g : NewOctets) → AllFit its f → AllFit its g → AllFit its (later f g)
fit-later its f g a b n p os e h = go (f n) (g n) refl refl h
  where
    go : (x y : Option (List ℕ)) → f n ≡ x → g n ≡ y → later_or x y ≡ Some os → Fits p.section.description os
    go x None q r h = a n p os e (q ∙ h)
    go x (Some os') q r h = b n p os e (r ∙ h)

-- the choice of two
pub record Two (f : NewOctets) (i : ℕ) (os : List ℕ) (j : ℕ) (os' : List ℕ) : Type 0 where
  pub first : f i ≡ Some os
  pub second : f j ≡ Some os'
  pub others : (k : ℕ) → k ≢ i → k ≢ j → f k ≡ None

module _ (i j : ℕ) (os os' : List ℕ) (differ : i ≢ j) where
  pub is-two : Two (later (only i os) (only j os')) i os j os'
  is-two = record {
    first = rw (only_same i os, only-other j i os' differ);
    second = rw (only_same j os');
    others = λ k a b. rw (only-other i k os a, only-other j k os' b);
  }

  -- whichever is named first
  pub both_ways : (n : ℕ) → later (only i os) (only j os') n ≡ later (only j os') (only i os) n
  both_ways n = go (eqb n i) (eqb n j) refl refl
    where
      go : (b c : Bool) → eqb n i ≡ b → eqb n j ≡ c → let x = cond b (Some os) None in
          let y = cond c (Some os') None in later_or x y ≡ later_or y x
      go true true q r = absurd (differ (sym (eqb-true n i q) ∙ eqb-true n j r))
      go true false q r = refl
      go false true q r = refl
      go false false q r = refl

pub two-swapped : {f : NewOctets} {i j : ℕ} {os os' : List ℕ} → Two f i os j os' → Two f j os' i os
two-swapped t = record { first = t.second; second = t.first; others = λ k a b. t.others k b a }

-- the spans of the two, in the order of their numbers
exchanges-two : (f : NewOctets) (ps : List Placed) (i j : ℕ) (p q : Placed) (os os' : List ℕ) → i < j
    → Two f i os j os' → numbered i ps ≡ Some p → numbered j ps ≡ Some q
    → exchanges f 1 ps ≡ in_house p os ∷ in_house q os' ∷ []
unfolding numbered
exchanges-two f ps zero j p q os os' l t e e' = absurd (none-some p e)
exchanges-two f ps (suc i) zero p q os os' l t e e' = absurd (none-some q e')
exchanges-two f ps (suc i) (suc j) p q os os' l t e e' =
    let y : 1 + i ≡ suc i = omega arith in
    let m = j - suc i in
    let z : suc (1 + i) + m ≡ suc j = omega arith in
    let w : suc (suc i + m) ≡ suc j = omega arith in
    let rest = drop (suc i) ps in
    let first = exchanges-first f ps 1 i p os (λ k a b. t.others k (λ q. omega arith) (λ q. omega arith))
    (ap f y ∙ t.first) e in
    let second = exchanges-first f rest (suc (1 + i)) m q os'
    (λ k a b. t.others k (λ q. omega arith) (λ q. omega arith)) (ap f z ∙ t.second)
    (numbered-drop (suc i) m ps ∙ ap (λ (k : ℕ). numbered k ps) w ∙ e') in
    let no_more = exchanges-none f (drop (suc m) rest) (suc (suc (1 + i) + m))
    (λ k a. t.others k (λ q. omega arith) (λ q. omega arith)) in
    first ∙ (λ k. in_house p os ∷ (second ∙ (λ k. in_house q os' ∷ no_more k)) k)

-- and what stands outside them, in the file and in the new one, where they are p' and q'
module _ (limit : ℕ) (file : List ℕ) (its : Tree) (reads : read limit file ≡ good its) (f : NewOctets) (i j : ℕ)
    (os os' : List ℕ) (below : i < j) (two : Two f i os j os') where
  pub two-outside : (p q p' q' : Placed) → numbered i (sections 0 its) ≡ Some p → numbered j (sections 0 its) ≡ Some q
      → numbered i (sections 0 (replaced_tree f its)) ≡ Some p' → numbered j (sections 0 (replaced_tree f its)) ≡ Some q'
      → SameOutside file (replaced_sections file (sections 0 its) f) 0 (in_house p os ∷ in_house q os' ∷ [])
      0 (in_house p' os ∷ in_house q' os' ∷ [])
  two-outside p q p' q' e e' n n' =
      let old = exchanges-two f (sections 0 its) i j p q os os' below two e e' in
      let new = exchanges-two f (sections 0 (replaced_tree f its)) i j p' q' os os' below two n n' in
      coe 0 1 (k. SameOutside file (replaced_sections file (sections 0 its) f) 0 (old k) 0 (new k))
      (outside-same limit file its reads f)
