-- The walk over a file, section by section.
use Rattle.std.specs.Prelude.{◌≡◌, List, [], ◌∷◌, ◌++◌, ℕ, ◌<◌, ◌≤◌, length}
use Rattle.std.specs.Prelude.{Option, None, Some, Result, Ok, Err, unwrap_or}
use Rattle.std.proofs.Math.Seq.{slice}
use Rattle.cbf_walk.specs.Reading.{Item, Reading, refused, good, flat, read_f, Reached}
use Rattle.cbf_answers.specs.Limits.{file_limit}
use Rattle.cbf_answers.specs.declared.Refusal.{Refusal}
use Rattle.cbf_format.specs.Listing.{Placed, sections}
use Rattle.cbf_reader.specs.Step.{section_at, CursorOf, Ready}
use Rattle.cbf_reader.specs.declared.step.Cursor.{Cursor}
use Rattle.cbf_format.specs.declared.Section.{Section}
use Rattle.cbf_reader.specs.declared.step.Field.{Field}
use Rattle.cbf_reader.specs.declared.step.Field.TheVariants.{First, Outside, Opened, Inside}
use Rattle.cbf_reader.specs.declared.walk.NextSection.{NextSection}
use Rattle.cbf_format.specs.Sections as S
use Rattle.cbf_format.specs.Files as F

-- what reading the whole file gives
abbrev pub whole : ℕ → List ℕ → Reading (Item F.State S.Section)
whole limit file = read_f 11 (F.step limit) F.due file_limit 0 F.start file

-- reading has come to the cursor, with these items
pub record ReadTo (limit : ℕ) (file : List ℕ) (done : F.Tree) (c : Cursor) : Type 0 where
  pub state : F.State
  pub reached : Reached 11 (F.step limit) F.due file_limit file F.start done c.at state
  pub stands : CursorOf file c state
  pub counted : length (sections 0 done) ≡ state.count
  pub ready : Ready file c

-- a section of the code is a section of the file: every field but the place of its block's name is the tree's, and at
-- that place the name stands
pub record SectionOf (file : List ℕ) (p : Placed) (s : Section) : Type 0 where
  pub fields : s ≡ section_at p.boundary s.block p.section
  pub block : slice s.block.from s.block.to file ≡ p.section.block
  pub block_low : s.block.from ≤ s.block.to
  pub block_high : s.block.to ≤ length file

-- what comes after these items: a section after lines without one; or such lines and the file's end; or a refusal of
-- the file
abbrev pub NextSays : ℕ → List ℕ → F.Tree → Result (Option NextSection) Refusal → Type 0
NextSays limit file done (Err r) = whole limit file ≡ refused r.number r.place
NextSays limit file done (Ok None) = (its : F.Tree) × (whole limit file ≡ good (done ++ its)) × (sections 0 its ≡ [])
NextSays limit file done (Ok (Some n)) =
    (its : F.Tree)
    × (it : Item F.State S.Section)
    × (i : S.Section)
    × (it.info ≡ Some i)
    × (sections 0 its ≡ [])
    × SectionOf file (record { boundary = length (flat (done ++ its)); section = i }) n.section
    × (n.after.field ≡ Outside)
    × (length (flat done) < n.after.at)
    × ReadTo limit file (done ++ (its ++ (it ∷ []))) n.after

-- the cursor before the first line
abbrev pub start_cursor : Cursor
start_cursor = record { at = 0; count = 0; block = record { from = 0; to = 0 }; field = First }

-- a file that is refused before its first line, or the cursor before that
abbrev pub StartSays : ℕ → List ℕ → Result Cursor Refusal → Type 0
StartSays limit file (Err r) = F.read limit file ≡ refused r.number r.place
StartSays limit file (Ok c) = (c ≡ start_cursor) × (F.read limit file ≡ whole limit file) × (0 < length file) × (length file ≤ file_limit)

-- a field of the code, at a place
abbrev pub FieldReady : Field → ℕ → Type 0
FieldReady First at = at ≡ 0
FieldReady Outside at = 0 ≤ 0
FieldReady (Opened p) at = p ≤ at
FieldReady (Inside p) at = p ≤ at

-- the place of the open field's `;`
abbrev pub opened_at : Field → Option ℕ
opened_at First = None
opened_at Outside = None
opened_at (Opened p) = Some p
opened_at (Inside p) = Some p

-- 11, where the file ends inside a step: at the open field's `;`, or where that step began
abbrev pub open_place : Field → ℕ → ℕ
open_place field at = unwrap_or (opened_at field) at

-- what the file's end means between two steps, by the open field's `;`
abbrev pub end_of : Option ℕ → Result (Option NextSection) Refusal
end_of None = Ok None
end_of (Some p) = Err (record { number = 11; place = p })
