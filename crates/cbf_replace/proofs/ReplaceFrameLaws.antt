-- The section of the code and the section of the file, and the new file. Assumes nothing.
use mathlib.Core.Path.{◌≡◌, refl, sym, ap, ◌∙◌, subst}
use Rattle.std.specs.Prelude.{Option, None, Some, Ok, Err}
use Rattle.std.proofs.lemmas.Option.{none-some}
use mathlib.Core.List.{List, [], ◌∷◌}
use Prim.Native.Nat.{ℕ, zero, suc, ◌≤◌}
use native.Mathlib.Omega.{arith}
use lib.ListN.{length}
use lib.IntN.{ℤ}
use Rattle.cbf_walk.specs.Reading.{Item, Reading, refused, good}
use Rattle.cbf_pixels.specs.Pixels.{pack_byte_offset}
use Rattle.cbf_answers.specs.Answers.{Outcome, refuses}
use Rattle.cbf_answers.specs.declared.Refusal.{Refusal}
use Rattle.cbf_answers.specs.Limits.{pixel_limit}
use Rattle.cbf_format.specs.declared.Description.{Description}
use Rattle.cbf_format.specs.declared.Encoding.{Encoding}
use Rattle.cbf_format.specs.declared.Encoding.TheVariants.{Binary, Base64}
use Rattle.cbf_format.specs.Listing.{Placed, sections, numbered}
use Rattle.cbf_format.specs.House.{only, replaced_file, replaced_sections}
use Rattle.cbf_format.proofs.ReplacementLaws.{span-at, replaced-one}
use Rattle.cbf_reader.specs.WholeFile.{FoundAt, PlaceIs, PlaceSays}
use Rattle.cbf_reader.specs.declared.whole_file.SectionFound.{SectionFound}
use Rattle.cbf_reader.proofs.WholeFileLaws.{place-numbered}
use Rattle.cbf_format.specs.declared.Section.{Section}
use Rattle.cbf_format.specs.SectionCalls.{Result, value, section_numbered}
use Rattle.cbf_sections.proofs.SectionCallsLaws.{section-answer, section-refused}
use Rattle.cbf_answers.proofs.Rooms.{Says, refusal}
use Rattle.cbf_format.specs.ReplaceCalls.{replace_fitting, replace_for, replace_outcome, new_file, replaced_by}
use Rattle.cbf_rewrite.specs.Rewrite.{sections_of}
use Rattle.cbf_replace.specs.NewFile.{one_replaced, SectionThere}
use Rattle.cbf_replace.proofs.NewFileLaws.{SaysFitting}
use Rattle.cbf_format.specs.Sections as S
use Rattle.cbf_format.specs.Files as F

-- ---- the section of the code

-- the section with a number, as the code has it
pub record Here (limit : ℕ) (file : List ℕ) (n : ℕ) (p : Placed) (f : SectionFound) : Type 0 where
  pub is : section_numbered (F.read limit file) n ≡ value p
  pub description : f.section.description ≡ p.section.description
  pub few : f.section.description.elements ≤ pixel_limit
  pub there : SectionThere limit file n f
  pub new : (os : List ℕ) → one_replaced limit file n os ≡ replaced_file file p os

numbered-in : (n : ℕ) (ps : List Placed) (p : Placed) → numbered n ps ≡ Some p → n ≤ length ps
unfolding numbered
numbered-in zero ps p e = omega arith
numbered-in (suc n) [] p e = absurd (none-some p e)
numbered-in (suc zero) (q ∷ ps) p e = omega arith
numbered-in (suc (suc n)) (q ∷ ps) p e = omega (arith, numbered-in (suc n) ps p e)

pub here_of : (limit n : ℕ) (file : List ℕ) (f : SectionFound)
    → PlaceSays limit file n (F.read limit file) (Ok f) → (p : Placed) × Here limit file n p f
here_of limit n file f h = go (F.read limit file) refl h
  where
    go : (r : Reading (Item F.State S.Section)) → F.read limit file ≡ r → PlaceSays limit file n r (Ok f)
        → (p : Placed) × Here limit file n p f
    go (refused k q) e h = let z : ◌≡◌ {A = ℕ} 0 1 = cc in absurd (omega arith)
    go (good its) e h = by (numbered n (sections 0 its)) refl h
      where
        by : (o : Option Placed) → numbered n (sections 0 its) ≡ o → PlaceIs limit file n o (Ok f)
            → (p : Placed) × Here limit file n p f
        by None q h = let z : ◌≡◌ {A = ℕ} 0 1 = cc in absurd (omega arith)
        by (Some p) q (g, same, i, b) =
            let u : g ≡ f = cc in
            let is_section = sym (ap (λ (z : SectionFound). z.section) u) ∙ i.fields in
            let same-description = ap (λ (z : Section). z.description) is_section in (
              p,
              record {
                is = rw (e, q) refl;
                description = same-description;
                few = subst (λ (d : Description). d.elements ≤ pixel_limit) (sym same-description)
                    (span-at limit n file its p e q).is_known.few;
                there = record {
                  its = its;
                  accepted = e;
                  there = numbered-in n (sections 0 its) p q;
                  here = subst (FoundAt limit file n) u b;
                };
                new = λ os.
                    ap (λ (r : Reading (Item F.State S.Section)). replaced_sections file (sections_of r) (only n os)) e
                    ∙ replaced-one file (sections 0 its) n p os q;
              },
            )

-- ---- what is answered

abbrev pub Replaces : List ℕ → Reading (Item F.State S.Section) → ℕ → List ℤ → List ℕ → Outcome → List ℕ → Type 0
Replaces file r n frame old said out =
    Says (replace_outcome file r n frame (length old)) (replaced_by file r n frame) old said out

pub replace-refused : (limit : ℕ) (file : List ℕ) (n : ℕ) (t : Refusal) (frame : List ℤ) (old : List ℕ)
    → let r = F.read limit file in
    PlaceSays limit file n r (Err t) → Replaces file r n frame old (refuses t.number t.place) old
unfolding replace_outcome
replace-refused limit file n t frame old h =
    let r = F.read limit file in
    refusal (replaced_by file r n frame) old (section-refused file n r t _ (place-numbered limit file n r refl h))

module _ {limit : ℕ} {file : List ℕ} {n : ℕ} {p : Placed} {f : SectionFound}
    (h : Here limit file n p f) (frame : List ℤ) (old : List ℕ) where
  abbrev r : Reading (Item F.State S.Section)
  r = F.read limit file

  answer : {e : Encoding} → f.section.description.encoding ≡ e
      → replace_for e p.section.description frame (replaced_file file p (pack_byte_offset frame)) (length old)
      ≡ replace_outcome file r n frame (length old)
  unfolding replace_outcome
  answer q = rw (sym q ∙ ap (λ (d : Description). d.encoding) h.description) (sym (section-answer p _ h.is))

  file_is : replaced_file file p (pack_byte_offset frame) ≡ replaced_by file r n frame
  unfolding replaced_by
  file_is = sym (ap (λ (x : Result Placed). new_file file x frame) h.is)

  pub replace-text : f.section.description.encoding ≡ Base64 → Replaces file r n frame old (refuses 18 0) old
  replace-text q = refusal (replaced_by file r n frame) old (answer q)

  pub replace-binary : {said : Outcome} {out : List ℕ} → f.section.description.encoding ≡ Binary
      → SaysFitting f.section.description frame (one_replaced limit file n (pack_byte_offset frame)) old said out
      → Replaces file r n frame old said out
  replace-binary {said} {out} q u =
      let v = rw (h.new (pack_byte_offset frame), h.description) at u in
      subst (λ (z : Outcome). Says z (replaced_by file r n frame) old said out) (answer q)
      (subst (λ (z : List ℕ). Says (replace_fitting p.section.description frame
      (replaced_file file p (pack_byte_offset frame)) (length old)) z old said out) file_is v)
