-- What is answered for the catalogue of a file: its refusal, its first long name, no room, or the heading with the
-- entries behind it. Assumes nothing.
use mathlib.Core.Path.{◌≡◌, refl, sym, ap, ◌∙◌}
use Rattle.std.specs.Prelude.{Option, None, Some, Result, Ok, Err}
use mathlib.Core.Bool.{true, false}
use mathlib.Core.List.{List, ◌∷◌, ◌++◌}
use Prim.Native.Nat.{ℕ, ◌+◌, ◌*◌, ◌≤◌, ◌<◌}
use native.Mathlib.Omega.{arith}
use lib.ListN.{length}
use lib.Seq.{sets, length-sets}
use Rattle.cbf_walk.specs.Reading.{Item, Reading, refused, good}
use Rattle.cbf_pixels.specs.Octets.{octets}
use Rattle.cbf_answers.specs.Answers.{Outcome, gives, refuses}
use Rattle.cbf_answers.specs.declared.Refusal.{Refusal}
use Rattle.cbf_format.specs.Text.{bytes}
use Rattle.cbf_format.specs.Listing.{Placed, sections}
use Rattle.cbf_format.specs.Catalogue.{entries, catalogue, long_name}
use Rattle.cbf_format.proofs.FileLaws.{few-sections}
use Rattle.cbf_answers.specs.Rooms.{room_for}
use Rattle.cbf_catalogue.specs.WriteCatalogue.{heading}
use Rattle.cbf_format.specs.CatalogueCalls.{catalogued_or, catalogue_outcome, catalogue_text}
use Rattle.cbf_catalogue.specs.Entries.{finished_by, entries_of, entries_in, EntriesFit}
use Rattle.cbf_answers.proofs.Stores.{sets-append}
use Rattle.cbf_write.proofs.PutLaws.{Put, put_both}
use Rattle.cbf_answers.proofs.Rooms.{Says, refusal, no_room, has_room}
use Rattle.cbf_catalogue.proofs.EntriesLaws.{length-entries}
use Rattle.cbf_format.specs.Sections as S
use Rattle.cbf_format.specs.Files as F

-- the parts of a heading, put one after the other
pub heading-put : (old : List ℕ) (count : ℕ) {mid new : List ℕ} {r s : ℕ} → Put old 0 (bytes "FRC" ++ (0 ∷ octets 2 1)) r mid → Put mid r (octets 2 count) s new
    → new ≡ sets old 0 (heading count)
unfolding octets
heading-put old count p q = (put_both old 0 (bytes "FRC" ++ (0 ∷ octets 2 1)) (octets 2 count) p q).1

-- a catalogue is a heading of 8 octets, and the entries
headed : (ps : List Placed) → catalogue ps ≡ heading (length ps) ++ entries ps
unfolding catalogue octets
headed ps = refl

length-catalogue : (ps : List Placed) → long_name ps ≡ None → length (catalogue ps) ≡ 8 + 64 * length ps
unfolding catalogue octets
length-catalogue ps short = omega (arith, length-entries ps short)

pub catalogue-short : (limit : ℕ) (file : List ℕ) (its : F.Tree) → F.read limit file ≡ good its → long_name (sections 0 its) ≡ None
    → length (catalogue (sections 0 its)) ≤ 8 + 64 * 512
catalogue-short limit file its e short = omega (arith, length-catalogue (sections 0 its) short, few-sections limit file its e)

put-catalogue : (old : List ℕ) (ps : List Placed) {n : ℕ} → n ≡ length ps → sets (sets old 0 (heading n)) 8 (entries ps) ≡ sets old 0 (catalogue ps)
unfolding octets
put-catalogue old ps e = rw e (sets-append old 0 (heading (length ps)) (entries ps) ∙ ap (sets old 0) (sym (headed ps)))

-- ---- the outcome, by what counting the entries gave

abbrev counted_or : Result ℕ Refusal → List ℕ → ℕ → Outcome
counted_or (Err f) text room = refuses f.number f.place
counted_or (Ok n) text room = room_for text room

counted-outcome : (r : Reading (Item F.State S.Section)) (room : ℕ) {x : Result ℕ Refusal} → x ≡ entries_of r
    → catalogue_outcome r room ≡ counted_or x (catalogue_text r) room
unfolding catalogue_outcome catalogue_text
counted-outcome r room {x} e = go r ∙ ap (λ (x : Result ℕ Refusal). counted_or x (catalogue_text r) room) (sym e)
  where
    either : (o : Option ℕ) (n : ℕ) (text : List ℕ) → catalogued_or o text room ≡ counted_or (finished_by o n) text room
    either None n text = refl
    either (Some p) n text = refl

    go : (r : Reading (Item F.State S.Section)) → catalogue_outcome r room ≡ counted_or (entries_of r) (catalogue_text r) room
    go (refused k p) = refl
    go (good its) = either (long_name (sections 0 its)) (length (sections 0 its)) (catalogue (sections 0 its))

-- a file whose sections were counted is accepted, with no long name
record Catalogued (r : Reading (Item F.State S.Section)) (n : ℕ) : Type 0 where
  its : F.Tree
  is_good : r ≡ good its
  short : long_name (sections 0 its) ≡ None
  count_is : n ≡ length (sections 0 its)

catalogued : (r : Reading (Item F.State S.Section)) {n : ℕ} → Ok n ≡ entries_of r → Catalogued r n
catalogued (refused k p) e = let z : ◌≡◌ {A = ℕ} 0 1 = cc in absurd (omega arith)
catalogued (good its) {n} e = go (long_name (sections 0 its)) refl e
  where
    go : (o : Option ℕ) → long_name (sections 0 its) ≡ o → Ok n ≡ finished_by o (length (sections 0 its)) → Catalogued (good its) n
    go None q k = record { its = its; is_good = refl; short = q; count_is = cc }
    go (Some p) q k = let z : ◌≡◌ {A = ℕ} 0 1 = cc in absurd (omega arith)

-- what was counted is not refused after that
pub not-refused : {r : Result ℕ Refusal} {n : ℕ} {f : Refusal} → Ok n ≡ r → Err f ≡ r → ⊥
not-refused e f = cc

pub few-counted : (limit : ℕ) (file : List ℕ) {n : ℕ} → Ok n ≡ entries_of (F.read limit file) → n ≤ 512
few-counted limit file e =
    let k = catalogued (F.read limit file) e in omega (arith, k.count_is, few-sections limit file k.its k.is_good)

-- nothing was written where the entries were only counted
entries-counted : (r : Reading (Item F.State S.Section)) (old : List ℕ) → entries_in false r old ≡ old
entries-counted (refused k p) old = refl
entries-counted (good its) old = refl

-- the call's answers, after the entries were counted
module _ (limit : ℕ) (file old : List ℕ) {out : List ℕ} (counted : out ≡ entries_in false (F.read limit file) old) where
  abbrev r : Reading (Item F.State S.Section)
  r = F.read limit file

  abbrev CatalogueSays : Outcome → List ℕ → Type 0
  CatalogueSays said new = Says (catalogue_outcome r (length old)) (catalogue_text r) old said new

  kept : out ≡ old
  kept = counted ∙ entries-counted r old

  pub catalogue-refused : {f : Refusal} → Err f ≡ entries_of r → CatalogueSays (refuses f.number f.place) out
  catalogue-refused e = rw kept (refusal (catalogue_text r) old (sym (counted-outcome r (length old) e)))

  module _ {n : ℕ} (is : Ok n ≡ entries_of r) where
    abbrev whole : Catalogued r n
    whole = catalogued r is

    length_is : 8 + 64 * n ≡ length (catalogue_text r)
    unfolding catalogue_text
    length_is = rw whole.is_good (omega (arith, whole.count_is, length-catalogue (sections 0 whole.its) whole.short))

    pub catalogue-no-room : length out < 8 + 64 * n → CatalogueSays (refuses 15 0) out
    catalogue-no-room h = rw kept (no_room (catalogue_text r) old (counted-outcome r (length old) is) length_is (rw kept at h))

    -- the heading was written
    module _ (h : 8 + 64 * n ≤ length out) {mid : List ℕ} (put : mid ≡ sets out 0 (heading n)) where
      pub catalogue-fits : EntriesFit r mid
      catalogue-fits = (whole.its, whole.is_good, whole.short, omega (arith, whole.count_is, ap length put, length-sets out 0 (heading n)))

      -- and the entries behind it
      pub catalogue-has-room : {new : List ℕ} → new ≡ entries_in true r mid → CatalogueSays (gives (8 + 64 * n)) new
      unfolding catalogue_text
      catalogue-has-room {new} e =
          let q : new ≡ sets old 0 (catalogue_text r) = e ∙ rw (whole.is_good, put, kept) (put-catalogue old (sections 0 whole.its) whole.count_is) in
          let w = has_room (catalogue_text r) old (counted-outcome r (length old) is) length_is (rw kept at h) in
          (w.0, q ∙ w.1)
