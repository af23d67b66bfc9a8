-- A step of reading, at a place of the file.
use Rattle.std.specs.Prelude.{◌≡◌, cond, List, ℕ, ◌+◌, ◌-◌, ◌≤◌, leb, length}
use Rattle.std.specs.Prelude.{Option, None, Some, Result, Ok, Err}
use Rattle.std.proofs.Math.Seq.{slice}
use Rattle.cbf_walk.specs.Parsers.{Res, bad, cut, ok, ret, plus, bind}
use Rattle.cbf_answers.specs.Limits.{file_limit}
use Rattle.cbf_lines.specs.Line.{line_at}
use Rattle.cbf_lines.specs.declared.line.Line.{Line}
use Rattle.cbf_answers.specs.declared.Refusal.{Refusal}
use Rattle.cbf_format.specs.declared.Stop.{Stop}
use Rattle.cbf_format.specs.declared.Stop.TheVariants.{Refused, CutOff}
use Rattle.cbf_format.specs.Reads.{read_at}
use Rattle.cbf_format.specs.declared.Range.{Range}
use Rattle.cbf_reader.specs.declared.step.Field.{Field}
use Rattle.cbf_reader.specs.declared.step.Field.TheVariants.{First, Outside, Opened, Inside}
use Rattle.cbf_reader.specs.declared.step.Cursor.{Cursor}
use Rattle.cbf_format.specs.declared.Section.{Section}
use Rattle.cbf_reader.specs.declared.step.SectionRead.{SectionRead}
use Rattle.cbf_reader.specs.declared.step.Stepped.{Stepped}
use Rattle.cbf_format.specs.Sections as S
use Rattle.cbf_format.specs.Files as F

-- ---- a section

abbrev pub section_at : ℕ → Range → S.Section → Section
section_at from block i = record { description = i.description; from = from; to = from + i.width; first = from + i.first; block = block }

abbrev pub section_read_at : ℕ → ℕ → Range → Res S.Section → Result SectionRead Stop
section_read_at from at block r = read_at at (λ i n. record { section = section_at from block i; next = at + n }) r

-- ---- the state, at a place

-- the code holds the place of the opening `;`, the definition how many bytes back it is
abbrev pub field_at : ℕ → F.Field → Field
field_at at F.first_line = First
field_at at F.outside = Outside
field_at at (F.opened n) = Opened (at - n)
field_at at (F.inside n) = Inside (at - n)

-- the first line is at 0, and a `;` is in the file
abbrev pub Back : ℕ → F.Field → Type 0
Back at F.first_line = at ≡ 0
Back at F.outside = 0 ≤ 0
Back at (F.opened n) = n ≤ at
Back at (F.inside n) = n ≤ at

pub record CursorOf (file : List ℕ) (c : Cursor) (st : F.State) : Type 0 where
  pub count : c.count ≡ st.count
  pub block : slice c.block.from c.block.to file ≡ st.block
  pub back : Back c.at st.field
  pub field : c.field ≡ field_at c.at st.field

-- what a step asks of the cursor
pub record Ready (file : List ℕ) (c : Cursor) : Type 0 where
  pub short : length file ≤ file_limit
  pub at_in : c.at ≤ length file
  pub few : c.count ≤ 512
  pub block_low : c.block.from ≤ c.block.to
  pub block_high : c.block.to ≤ length file
  pub stands : (f : F.Field) × (Back c.at f × (c.field ≡ field_at c.at f))

-- the block's name after a line
pub record NextBlock (file : List ℕ) (at to : ℕ) (block r : Range) : Type 0 where
  pub named : slice r.from r.to file ≡ F.next_block F.outside (slice at to file) (slice block.from block.to file)
  pub low : r.from ≤ r.to
  pub high : r.to ≤ length file

abbrev pub line_of_field : ℕ → ℕ → F.Field → List ℕ → Result Line Refusal
line_of_field at limit f s = line_at at (F.step_line limit f s)

-- ---- what a step says

abbrev pub After : List ℕ → Cursor → ℕ → F.State → Cursor → Type 0
After file c n st d = (d.at ≡ c.at + n) × CursorOf file d st × Ready file d

abbrev pub StepSays : List ℕ → Cursor → Res (Option S.Section × F.State) → Result Stepped Stop → Type 0
StepSays file c (bad k p) r = r ≡ Err (Refused (record { number = k; place = c.at + p }))
StepSays file c cut r = r ≡ Err CutOff
StepSays file c (ok (None, st) n) r = (d : Cursor) × (r ≡ Ok (record { section = None; cursor = d })) × After file c n st d
StepSays file c (ok (Some i, st) n) r =
    (d : Cursor) × (r ≡ Ok (record { section = Some (section_at c.at c.block i); cursor = d })) × After file c n st d

-- the step over a section whose boundary line took n bytes
abbrev pub section_step : ℕ → F.State → ℕ → List ℕ → Res (Option S.Section × F.State)
section_step limit st n s =
    cond (leb 512 st.count) (bad 4 0) (plus n (bind (S.section limit st.block n) (λ i. ret (Some i, F.after_section st)) s))
