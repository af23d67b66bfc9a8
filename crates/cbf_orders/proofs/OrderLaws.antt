-- The two calls of an order: what each says, and that a file that was given can be read in its output. Assumes nothing.
use mathlib.Core.Path.{◌≡◌, refl, sym, ap, ◌∙◌}
use Rattle.std.specs.Prelude.{Option, None, Some}
use mathlib.Core.Bool.{Bool, true, false, cond}
use mathlib.Core.List.{List}
use Prim.Native.Nat.{ℕ, ◌≤◌}
use native.Mathlib.Omega.{arith}
use lib.Dec.{leb}
use borrow.Author.Tests.{leb-true}
use lib.ListN.{length}
use lib.IntN.{ℤ}
use Rattle.cbf_walk.specs.Reading.{Item, Reading, refused, good}
use Rattle.cbf_pixels.specs.Pixels.{pack_byte_offset}
use Rattle.cbf_answers.specs.Answers.{Outcome, gives, refuses, written}
use Rattle.cbf_answers.specs.Limits.{line_limit, file_limit}
use Rattle.cbf_answers.specs.Rooms.{room_for}
use Rattle.cbf_format.specs.declared.Description.{Description}
use Rattle.cbf_format.specs.declared.Encoding.{Encoding}
use Rattle.cbf_format.specs.declared.Encoding.TheVariants.{Binary, Base64}
use Rattle.cbf_format.specs.Sections.{Section}
use Rattle.cbf_format.specs.Files.{State, read}
use Rattle.cbf_format.specs.Listing.{Placed, sections, numbered}
use Rattle.cbf_format.specs.House.{replaced_file}
use Rattle.cbf_format.specs.SectionCalls.{or_missing, section_outcome}
use Rattle.cbf_orders.specs.Orders.{edit, Replaces}
use Rattle.cbf_format.specs.ReplaceCalls as C

-- an answer is within the room
abbrev Within : ℕ → Outcome → Type 0
Within room o = (n : ℕ) → o ≡ gives n → n ≤ room

module _ (frame : List ℤ) (room : ℕ) where
  no_answer : (k p : ℕ) → Within room (refuses k p)
  no_answer k p n e = let z : ◌≡◌ {A = ℕ} 0 1 = cc in absurd (omega arith)

  tested : (b : Bool) (x : Outcome) (k : ℕ) → Within room x → Within room (cond b x (refuses k 0))
  tested true x k h = h
  tested false x k h = no_answer k 0

  roomed : (new : List ℕ) → Within room (room_for new room)
  unfolding room_for
  roomed new = go (leb (length new) room) refl
    where
      go : (b : Bool) → leb (length new) room ≡ b → Within room (cond b (gives (length new)) (refuses 15 0))
      go true q n e = let w : length new ≡ n = cc in omega (arith, leb-true (length new) room q)
      go false q n e = no_answer 15 0 n e

  for : (d : Description) (new : List ℕ) (e : Encoding) → Within room (C.replace_for e d frame new room)
  unfolding C.replace_fitting C.room_for_file
  for d new Binary =
      tested (C.frame_fits d frame) _ 14 (tested (leb (length new) file_limit) _ 15 (roomed new))
  for d new Base64 = no_answer 18 0

  within : (file : List ℕ) (n : ℕ) (r : Reading (Item State Section))
      → Within room (C.replace_outcome file r n frame room)
  unfolding C.replace_outcome
  within file n (refused k p) = no_answer k p
  within file n (good its) = go (numbered n (sections 0 its))
    where
      go : (o : Option Placed) → Within room (section_outcome (or_missing o) (λ p.
          let d = p.section.description in
          C.replace_for d.encoding d frame (replaced_file file p (pack_byte_offset frame)) room))
      go None = no_answer 12 0
      go (Some p) =
          for p.section.description (replaced_file file p (pack_byte_offset frame)) p.section.description.encoding

abbrev reading : List ℕ → Reading (Item State Section)
reading file = read line_limit file

module _ (file : List ℕ) (n : ℕ) (frame : List ℤ) (old : List ℕ) {x : Outcome}
    (answers : x ≡ C.replace_outcome file (reading file) n frame (length old)) where
  -- what the contract of `replace` says
  pub replaces : {out : List ℕ} → out ≡ C.replace_output file (reading file) n frame old
      → Replaces file (edit n frame) (record { answer = x; before = old; after = out })
  replaces writes = record {
    answers = answers;
    writes = writes ∙ ap (λ (o : Outcome). written o (C.replaced_by file (reading file) n frame) old) (sym answers);
  }

  -- the file has room in the output
  pub given-fits : (m : ℕ) → x ≡ gives m → m ≤ length old
  given-fits m e = within frame (length old) file n (reading file) m (sym answers ∙ e)
