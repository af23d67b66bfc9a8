-- Demand 3: for every accepted file, two different BINARY sections and two fitting frames, both orders of replacement
-- give the same file, both frames read back, every byte outside the two spans is the original, and a call is refused
-- only for want of room. One statement about the four calls together.
use Rattle.std.specs.Prelude.{◌≡◌, ◌≢◌, Bool, true, false, List, ◌++◌, ℕ, ◌+◌, ◌≤◌, ◌<◌, ltb, length, take, drop, ℤ}
use Rattle.std.specs.Prelude.{Option, None, Some, option_map}
use Rattle.std.proofs.Math.Seq.{slice}
use Rattle.cbf_walk.specs.Reading.{good}
use Rattle.cbf_pixels.specs.Pixels.{pack_byte_offset}
use Rattle.cbf_answers.specs.Answers.{Outcome, gives, refuses, outcome, written}
use Rattle.cbf_format.specs.declared.Encoding.TheVariants.{Binary}
use Rattle.cbf_answers.specs.Limits.{line_limit, file_limit}
use Rattle.cbf_format.specs.Files.{Tree, read}
use Rattle.cbf_format.specs.Listing.{Placed, sections, numbered}
use Rattle.cbf_format.specs.House.{house, replaced_file, only, later, replaced_sections}
use Rattle.cbf_format.specs.SectionCalls.{frame_outcome, frame_pixels}
use Rattle.cbf_format.specs.ReplaceCalls.{frame_fits, replace_outcome, replaced_by}
use Rattle.cbf_orders.specs.declared.Order.{Order}

-- ---- the calls

-- a new frame for the section with a number
pub record Edit : Type 0 where
  pub number : ℕ
  pub frame : List ℤ

abbrev pub edit : ℕ → List ℤ → Edit
edit n frame = record { number = n; frame = frame }

abbrev pub packed : Edit → List ℕ
packed a = pack_byte_offset a.frame

-- a call: what it answers, and its lent output before and after it; its room is the output's length
pub record Call (A : Type 0) : Type 0 where
  pub answer : A
  pub before : List ℕ
  pub after : List ℕ

-- the two calls of an order; the second one may not be made
pub record Calls : Type 0 where
  pub first : Call Outcome
  pub second : Call (Option Outcome)

-- the calls that gave these answers, with their lent outputs before and after
abbrev pub calls : Order → List ℕ → List ℕ → List ℕ → List ℕ → Calls
calls o before after before₂ after₂ =
    record {
      first = record { answer = outcome o.first; before = before; after = after };
      second = record { answer = option_map outcome o.second; before = before₂; after = after₂ };
    }

-- the call of replacing a section's frame in a file: what it answers, and what it writes
pub record Replaces (file : List ℕ) (a : Edit) (c : Call Outcome) : Type 0 where
  pub answers : c.answer ≡ replace_outcome file (read line_limit file) a.number a.frame (length c.before)
  pub writes : c.after ≡ written c.answer (replaced_by file (read line_limit file) a.number a.frame) c.before

-- a second call with its answer
abbrev pub answered : Call (Option Outcome) → Outcome → Call Outcome
answered c o = record { answer = o; before = c.before; after = c.after }

-- "A second call reads what the first wrote, up to the answer's length"; without such an answer it is not made
abbrev pub ReplacesThen : Outcome → List ℕ → Edit → Call (Option Outcome) → Type 0
ReplacesThen (gives n) out b c = (o : Outcome) × (c.answer ≡ Some o) × Replaces (take n out) b (answered c o)
ReplacesThen (refuses k p) out b c = (c.answer ≡ None) × (c.after ≡ c.before)

-- one edit, and then the other, for every input
pub record OrderSays (file : List ℕ) (a b : Edit) (c : Calls) : Type 0 where
  pub first : Replaces file a c.first
  pub second : ReplacesThen c.first.answer c.first.after b c.second

-- ---- the premises

-- a BINARY section with the edit's number, which the frame fits: "as many pixels as elements, each inside the integer
-- type"
pub record Fitting (tree : Tree) (a : Edit) : Type 0 where
  pub at : Placed
  pub is_at : numbered a.number (sections 0 tree) ≡ Some at
  pub binary : at.section.description.encoding ≡ Binary
  pub fits : frame_fits at.section.description a.frame ≡ true

-- "Accepted: reading gives no refusal"
pub record Premises (file : List ℕ) (a b : Edit) : Type 0 where
  pub tree : Tree
  pub accepted : read line_limit file ≡ good tree
  pub different : a.number ≢ b.number
  pub fits_a : Fitting tree a
  pub fits_b : Fitting tree b

-- ---- the conclusion

-- "A call has room when neither half of 15 holds": the result file is not too long, and the lent output not shorter
-- than it
abbrev pub Room : List ℕ → List ℕ → Type 0
Room new out = (length new ≤ file_limit) × (length new ≤ length out)

-- a call that is to give the file `new` gives it where it has room, and the rest of the output stays; it is refused
-- exactly where it has not, with 15 at 0, and all of the output stays
pub record CallSays (new : List ℕ) (c : Call Outcome) : Type 0 where
  pub given : Room new c.before
      → (c.answer ≡ gives (length new)) × (c.after ≡ new ++ drop (length new) c.before)
  pub refused : (Room new c.before → ⊥) → (c.answer ≡ refuses 15 0) × (c.after ≡ c.before)

-- an order whose first call is to give the file `one`, and the second the file `both`
pub record CallsSay (one both : List ℕ) (c : Calls) : Type 0 where
  pub first : CallSays one c.first
  pub made : Room one c.first.before
      → (o : Outcome) × (c.second.answer ≡ Some o) × CallSays both (answered c.second o)
  pub not_made : (Room one c.first.before → ⊥)
      → (c.second.answer ≡ None) × (c.second.after ≡ c.second.before)

-- "Reads back: the section of the same number has octets that unpack to exactly the frame; unpacking it is refused
-- for too little pixel room only."
pub record ReadsBack (file : List ℕ) (a : Edit) : Type 0 where
  pub pixels : frame_pixels (read line_limit file) a.number ≡ a.frame
  pub unpacked : (room : ℕ) → length a.frame ≤ room
      → frame_outcome (read line_limit file) a.number room ≡ gives (length a.frame)
  pub too_little : (room : ℕ) → room < length a.frame
      → frame_outcome (read line_limit file) a.number room ≡ refuses 15 0

-- the place after the span of a section
abbrev pub span_end : Placed → ℕ
span_end p = p.boundary + p.section.width

-- the spans of p and q stand in this order and apart, and so do those of p' and q' in the new file; every byte
-- before, between and behind them is the original
pub record SpansKept (file : List ℕ) (p q : Placed) (new : List ℕ) (p' q' : Placed) : Type 0 where
  pub in_order : span_end p ≤ q.boundary
  pub new_order : span_end p' ≤ q'.boundary
  pub before : take p'.boundary new ≡ take p.boundary file
  pub between : slice (span_end p') q'.boundary new ≡ slice (span_end p) q.boundary file
  pub behind : drop (span_end q') new ≡ drop (span_end q) file

-- the section with the lower number stands first: `b` says that it is the one of p
abbrev pub SpansKeptFrom : Bool → List ℕ → Placed → Placed → List ℕ → Placed → Placed → Type 0
SpansKeptFrom true file p q new p' q' = SpansKept file p q new p' q'
SpansKeptFrom false file p q new p' q' = SpansKept file q p new q' p'

-- where the section of an edit is in the new tree; its span is house form with the frame
pub record NewSection (tree : Tree) (a : Edit) (p : Placed) (new : List ℕ) : Type 0 where
  pub at : Placed
  pub is_at : numbered a.number (sections 0 tree) ≡ Some at
  pub span : slice at.boundary (span_end at) new ≡ house p.section.description (packed a)

module _ (file : List ℕ) (a b : Edit) (h : Premises file a b) where
  abbrev pub at_a : Placed
  at_a = h.fits_a.at

  abbrev pub at_b : Placed
  at_b = h.fits_b.at

  -- the new file is accepted, its two spans are house form, and every byte outside them is the original
  pub record OutsideKept (new : List ℕ) : Type 0 where
    pub tree : Tree
    pub accepted : read line_limit new ≡ good tree
    pub new_a : NewSection tree a at_a new
    pub new_b : NewSection tree b at_b new
    pub kept : SpansKeptFrom (ltb a.number b.number) file at_a at_b new new_a.at new_b.at

  -- the file with one section replaced; the one with both: "the original with each of the two spans exchanged for its
  -- section's house form with the new frame"
  abbrev pub one_of : Edit → Placed → List ℕ
  one_of e at = replaced_file file at (packed e)

  abbrev pub both : List ℕ
  both =
      replaced_sections file (sections 0 h.tree) (later (only a.number (packed a)) (only b.number (packed b)))

  -- a first and then b are the calls ab, and b first and then a the calls ba
  pub record TwoOrders (ab ba : Calls) : Type 0 where
    pub a_then_b : CallsSay (one_of a at_a) both ab
    pub b_then_a : CallsSay (one_of b at_b) both ba
    pub same_file :
        Room (one_of a at_a) ab.first.before → Room both ab.second.before
        → Room (one_of b at_b) ba.first.before → Room both ba.second.before
        → (take (length both) ab.second.after ≡ both) × (take (length both) ba.second.after ≡ both)
    pub reads_a : length both ≤ file_limit → ReadsBack both a
    pub reads_b : length both ≤ file_limit → ReadsBack both b
    pub outside_kept : length both ≤ file_limit → OutsideKept both
