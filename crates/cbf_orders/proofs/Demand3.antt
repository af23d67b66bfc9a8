-- Demand 3 over the definitions of the calls. Assumes nothing.
use mathlib.Core.Path.{◌≡◌, refl, sym, ap, ◌∙◌, subst}
use mathlib.Core.Logic.{◌≢◌}
use Rattle.std.specs.Prelude.{Option, Some}
use mathlib.Core.Bool.{Bool, true, false, cond}
use mathlib.Core.List.{List, [], ◌∷◌}
use Prim.Native.Nat.{ℕ, ◌≤◌}
use native.Mathlib.Omega.{arith}
use lib.Dec.{leb, ltb}
use borrow.Author.Tests.{leb-true, le-leb, lt-leb, ltb-true, ltb-false, eqb-true}
use lib.ListN.{length, take}
use lib.Seq.{slice, take_at}
use lib.IntN.{ℤ}
use Rattle.cbf_walk.specs.Reading.{good}
use Rattle.cbf_walk.proofs.Choices.{SameOutside}
use Rattle.cbf_pixels.specs.Pixels.{least, greatest, all_within, unpack_byte_offset}
use Rattle.cbf_answers.specs.Answers.{Outcome, gives, refuses, written}
use Rattle.cbf_pixels.specs.PixelCalls.{is_some, pixels_of, unpack_pixels}
use Rattle.cbf_answers.specs.Limits.{line_limit, file_limit}
use Rattle.cbf_pixels.proofs.Round.{unpack-pack}
use Rattle.cbf_format.specs.declared.Description.{Description}
use Rattle.cbf_format.specs.Sections.{Section}
use Rattle.cbf_format.specs.Files.{Tree, read}
use Rattle.cbf_format.specs.Listing.{Placed, sections, numbered}
use Rattle.cbf_format.specs.House.{house, in_house, replaced_file, NewOctets, only, later, replaced_sections}
use Rattle.cbf_format.proofs.HouseSections.{housed_section}
use Rattle.cbf_format.proofs.LineTame.{and-true}
use Rattle.cbf_format.proofs.ReplacementLaws.{SpanAt, span-at, packed-fits, replaced_tree, section_then, section-then}
use Rattle.cbf_format.proofs.ReplacementLaws.{AllFit, fit-only, fit-later, replaced-read, file-later, only-other}
use Rattle.cbf_format.proofs.ReplacementLaws.{replaced-one, both_ways, replaced-same, Two, is-two, two-swapped}
use Rattle.cbf_format.proofs.ReplacementLaws.{two-outside}
use Rattle.cbf_format.specs.SectionCalls.{value, or_missing, section_numbered, frame_of, frame_for, frame_outcome}
use Rattle.cbf_format.specs.SectionCalls.{frame_pixels}
use Rattle.cbf_sections.proofs.SectionCallsLaws.{section-answer}
use Rattle.cbf_answers.specs.Rooms.{room_for}
use Rattle.cbf_format.specs.ReplaceCalls.{frame_fits, room_for_file, replace_fitting, replace_outcome, replaced_by}
use Rattle.cbf_orders.specs.Orders.{Edit, packed, Call, Calls, Replaces, answered, ReplacesThen, OrderSays}
use Rattle.cbf_orders.specs.Orders.{Fitting, Premises, Room, CallSays, CallsSay, ReadsBack, span_end, SpansKept}
use Rattle.cbf_orders.specs.Orders.{SpansKeptFrom, at_a, at_b, both, TwoOrders}

-- ---- room, and none

module _ (new old : List ℕ) where
  has_room : Room new old → room_for_file new (length old) ≡ gives (length new)
  unfolding room_for_file room_for
  has_room r = rw (le-leb (length new) file_limit r.0, le-leb (length new) (length old) r.1) refl

  no_room : (Room new old → ⊥) → room_for_file new (length old) ≡ refuses 15 0
  unfolding room_for_file room_for
  no_room h = go (leb (length new) file_limit) (leb (length new) (length old)) refl refl
    where
      go : (a b : Bool) → leb (length new) file_limit ≡ a → leb (length new) (length old) ≡ b
          → cond a (cond b (gives (length new)) (refuses 15 0)) (refuses 15 0) ≡ refuses 15 0
      go true true p q = absurd (h (leb-true (length new) file_limit p, leb-true (length new) (length old) q))
      go true false p q = refl
      go false b p q = refl

-- ---- one call

counted : (d : Description) (frame : List ℤ) → frame_fits d frame ≡ true → (length frame ≡ d.elements)
    × (all_within (least d.kind) (greatest d.kind) frame ≡ true)
unfolding frame_fits
counted d frame e =
    let a = and-true _ (all_within (least d.kind) (greatest d.kind) frame) e in
    (eqb-true (length frame) d.elements a.0, a.1)

-- a section of an accepted file, with a frame that fits it
module _ (file : List ℕ) {tree : Tree} {a : Edit} (reads : read line_limit file ≡ good tree) (c : Fitting tree a) where
  abbrev d : Description
  d = c.at.section.description

  here : section_numbered (read line_limit file) a.number ≡ value c.at
  here = ap (λ (r : _). section_numbered r a.number) reads ∙ ap or_missing c.is_at

  known : SpanAt file c.at
  known = span-at line_limit a.number file tree c.at reads c.is_at

  fit : AllFit tree (only a.number (packed a))
  fit =
      fit-only tree a.number c.is_at
      (packed-fits d a.frame known.is_known (counted d a.frame c.fits).0)

  abbrev new : List ℕ
  new = replaced_file file c.at (packed a)

  -- 12, 18 and 14 are not given
  answer : (room : ℕ) → replace_outcome file (read line_limit file) a.number a.frame room ≡ room_for_file new room
  unfolding replace_outcome replace_fitting
  answer room = section-answer c.at _ here ∙ rw (c.binary, c.fits) refl

  file_is : replaced_by file (read line_limit file) a.number a.frame ≡ new
  unfolding replaced_by
  file_is = rw here refl

  call-says : {x : Call Outcome} → Replaces file a x → CallSays new x
  unfolding written
  call-says {x} s = record { given = λ r. says (has_room new old r); refused = λ h. says (no_room new old h) }
    where
      old : List ℕ
      old = x.before

      says : {o : Outcome} → room_for_file new (length old) ≡ o → (x.answer ≡ o) × (x.after ≡ written o new old)
      says e =
          let z = s.answers ∙ answer (length old) ∙ e in
          (z, s.writes ∙ (λ k. written (z k) (file_is k) old))

-- ---- one order

module _ (file : List ℕ) (tree : Tree) (a b : Edit) (reads : read line_limit file ≡ good tree)
    (differ : a.number ≢ b.number) (c : Fitting tree a) (d : Fitting tree b) where
  abbrev f : NewOctets
  f = only a.number (packed a)

  abbrev g : NewOctets
  g = only b.number (packed b)

  abbrev one : List ℕ
  one = replaced_file file c.at (packed a)

  abbrev all : List ℕ
  all = replaced_sections file (sections 0 tree) (later f g)

  one-is : replaced_sections file (sections 0 tree) f ≡ one
  one-is = replaced-one file (sections 0 tree) a.number c.at (packed a) c.is_at

  -- the file with a section replaced is read, and has the other section, whose replacement gives the file with both
  next : length one ≤ file_limit → (t : Tree) × (read line_limit one ≡ good t)
      × (x : Fitting t b) × (replaced_file one x.at (packed b) ≡ all)
  next l =
      let t = replaced_tree f tree in
      let l' : length (replaced_sections file (sections 0 tree) f) ≤ file_limit = omega (arith, l, ap length one-is) in
      let r = replaced-read line_limit file tree reads f (omega arith) (fit file reads c) l' in
      let s = section-then line_limit file tree reads f b.number d.at d.is_at in
      let stays = only-other a.number b.number (packed a) (λ z. differ (sym z)) in
      let i : s.0.section ≡ d.at.section =
      s.2 ∙ ap (λ (o : Option (List ℕ)). section_then o d.at.section) stays in (
        t,
        ap (read line_limit) (sym one-is) ∙ r,
        record {
          at = s.0;
          is_at = s.1;
          binary = ap (λ (z : Section). z.description.encoding) i ∙ d.binary;
          fits = ap (λ (z : Section). frame_fits z.description b.frame) i ∙ d.fits;
        },
        sym (replaced-one one (sections 0 t) b.number s.0 (packed b) s.1)
            ∙ ap (λ (z : List ℕ). replaced_sections z (sections 0 t) g) (sym one-is)
            ∙ file-later line_limit file tree f g reads r,
      )

  calls-say : {x : Calls} → OrderSays file a b x → CallsSay one all x
  calls-say {x} s = record { first = first; made = made; not_made = λ h. then (first.refused h).0 }
    where
      first : CallSays one x.first
      first = call-says file reads c s.first

      then : {o : Outcome} → x.first.answer ≡ o → ReplacesThen o x.first.after b x.second
      then e = subst (λ (o : Outcome). ReplacesThen o x.first.after b x.second) e s.second

      made : Room one x.first.before
          → (o : Outcome) × (x.second.answer ≡ Some o) × CallSays all (answered x.second o)
      made r =
          let u = first.given r in
          let m = then u.0 in
          let n = next r.0 in
          let y = answered x.second m.0 in
          let front : take (length one) x.first.after ≡ one =
          ap (take (length one)) u.1 ∙ take_at one _ (length one) refl in
          let says = call-says one n.1 n.2 (subst (λ (z : List ℕ). Replaces z b y) front m.2) in
          (m.0, m.1, subst (λ (z : List ℕ). CallSays z y) n.3 says)

-- a file that was given is at the front of its output
given-front : {one all : List ℕ} {x : Calls} → CallsSay one all x → Room one x.first.before
    → Room all x.second.before → take (length all) x.second.after ≡ all
given-front {all} s r r' = ap (take (length all)) ((s.made r).2.given r').1 ∙ take_at all _ (length all) refl

-- ---- reading back

-- a section in house form with a frame that fits unpacks to it
module _ (file : List ℕ) (a : Edit) (i : Section) (tree : Tree) (p : Placed) (reads : read line_limit file ≡ good tree)
    (is_at : numbered a.number (sections 0 tree) ≡ Some p) (housed : p.section ≡ housed_section (packed a) i)
    (fits : frame_fits i.description a.frame ≡ true) where
  at : section_numbered (read line_limit file) a.number ≡ value p
  at = ap (λ (x : _). section_numbered x a.number) reads ∙ ap or_missing is_at

  count : (length a.frame ≡ i.description.elements)
      × (all_within (least i.description.kind) (greatest i.description.kind) a.frame ≡ true)
  count = counted i.description a.frame fits

  abbrev unpacked : Description → List ℕ → Option (List ℤ)
  unpacked d os = unpack_pixels d.compression d.kind d.elements os

  unpacks : frame_of p ≡ Some a.frame
  unfolding frame_of unpack_pixels
  unpacks =
      ap (λ (z : Section). unpacked z.description z.octets) housed
      ∙ ap (λ (k : ℕ). unpack_byte_offset i.description.kind k (packed a)) (sym count.0)
      ∙ unpack-pack i.description.kind a.frame count.1

  answers : (room : ℕ) → frame_outcome (read line_limit file) a.number room
      ≡ cond (leb (length a.frame) room) (gives (length a.frame)) (refuses 15 0)
  unfolding frame_outcome is_some
  answers room =
      section-answer p (λ x. frame_for x room) at
      ∙ rw (unpacks, ap (λ (z : Section). z.description.elements) housed ∙ sym count.0) refl

  reads-back : ReadsBack file a
  unfolding frame_pixels pixels_of
  reads-back = record {
    pixels = rw at (ap pixels_of unpacks);
    unpacked = λ room h. answers room ∙ rw (le-leb (length a.frame) room h) refl;
    too_little = λ room h. answers room ∙ rw (lt-leb (length a.frame) room h) refl;
  }

-- ---- the demand

module _ (file : List ℕ) (a b : Edit) (h : Premises file a b) where
  abbrev p : Placed
  p = at_a file a b h

  abbrev q : Placed
  q = at_b file a b h

  abbrev whole : List ℕ
  whole = both file a b h

  abbrev fg : NewOctets
  fg = later (only a.number (packed a)) (only b.number (packed b))

  two : Two fg a.number (packed a) b.number (packed b)
  two = is-two a.number b.number (packed a) (packed b) h.different

  abbrev tree : Tree
  tree = replaced_tree fg h.tree

  accepted : length whole ≤ file_limit → read line_limit whole ≡ good tree
  accepted = replaced-read line_limit file h.tree h.accepted fg (omega arith)
      (fit-later h.tree _ _ (fit file h.accepted h.fits_a) (fit file h.accepted h.fits_b))

  -- the section of an edit
  housed : {e : Edit} (c : Fitting h.tree e) → fg e.number ≡ Some (packed e)
      → (x : Placed) × (numbered e.number (sections 0 tree) ≡ Some x)
      × (x.section ≡ housed_section (packed e) c.at.section)
  housed {e} c s =
      let t = section-then line_limit file h.tree h.accepted fg e.number c.at c.is_at in
      (t.0, t.1, t.2 ∙ ap (λ (o : Option (List ℕ)). section_then o c.at.section) s)

  reads : {e : Edit} (c : Fitting h.tree e) → fg e.number ≡ Some (packed e) → length whole ≤ file_limit
      → ReadsBack whole e
  reads {e} c s l =
      let t = housed c s in reads-back whole e c.at.section tree t.0 (accepted l) t.1 t.2 c.fits

  abbrev new-p : Placed
  new-p = (housed h.fits_a two.first).0

  abbrev new-q : Placed
  new-q = (housed h.fits_b two.second).0

  -- in either order of their numbers
  abbrev Kept : Bool → Type 0
  Kept c =
      (slice new-p.boundary (span_end new-p) whole ≡ house p.section.description (packed a))
      × (slice new-q.boundary (span_end new-q) whole ≡ house q.section.description (packed b))
      × SpansKeptFrom c file p q whole new-p new-q

  spans-kept : Kept (ltb a.number b.number)
  spans-kept = go (ltb a.number b.number) refl
    where
      x : numbered a.number (sections 0 tree) ≡ Some new-p
      x = (housed h.fits_a two.first).1

      y : numbered b.number (sections 0 tree) ≡ Some new-q
      y = (housed h.fits_b two.second).1

      kept : {x y x' y' : Placed} (os os' : List ℕ)
          → SameOutside file whole 0 (in_house x os ∷ in_house y os' ∷ []) 0 (in_house x' os ∷ in_house y' os' ∷ [])
          → SpansKept file x y whole x' y'
      kept os os' s = record {
        in_order = s.1.0.in_order;
        new_order = s.1.0.new_order;
        before = s.0.same;
        between = s.1.0.same;
        behind = s.1.1;
      }

      go : (c : Bool) → ltb a.number b.number ≡ c → Kept c
      go true e =
          let s = two-outside line_limit file h.tree h.accepted fg a.number b.number (packed a) (packed b)
          (ltb-true a.number b.number e) two p q new-p new-q h.fits_a.is_at h.fits_b.is_at x y in
          (s.0.is_new, s.1.0.is_new, kept (packed a) (packed b) s)
      go false e =
          let s = two-outside line_limit file h.tree h.accepted fg b.number a.number (packed b) (packed a)
          (omega (arith, ltb-false a.number b.number e, h.different)) (two-swapped two)
          q p new-q new-p h.fits_b.is_at h.fits_a.is_at y x in
          (s.1.0.is_new, s.0.is_new, kept (packed b) (packed a) s)

  pub demand-3 : {ab ba : Calls} → OrderSays file a b ab → OrderSays file b a ba → TwoOrders file a b h ab ba
  demand-3 {ab} {ba} s t = record {
    a_then_b = x;
    b_then_a = y;
    same_file = λ r r' z z'. (given-front x r r', given-front y z z');
    reads_a = reads h.fits_a two.first;
    reads_b = reads h.fits_b two.second;
    outside_kept = λ l. record {
      tree = tree;
      accepted = accepted l;
      new_a = record { at = new-p; is_at = (housed h.fits_a two.first).1; span = spans-kept.0 };
      new_b = record { at = new-q; is_at = (housed h.fits_b two.second).1; span = spans-kept.1 };
      kept = spans-kept.2;
    };
  }
    where
      x : CallsSay (replaced_file file p (packed a)) whole ab
      x = calls-say file h.tree a b h.accepted h.different h.fits_a h.fits_b s

      y : CallsSay (replaced_file file q (packed b)) whole ba
      y =
          subst (λ (z : List ℕ). CallsSay (replaced_file file q (packed b)) z ba)
          (sym (replaced-same file (sections 0 h.tree) _ _
          (both_ways a.number b.number (packed a) (packed b) h.different)))
          (calls-say file h.tree b a h.accepted (λ z. h.different (sym z)) h.fits_b h.fits_a t)
