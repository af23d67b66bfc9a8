-- The room for texts written one after the other, the pieces of a section's line, and their lengths. Assumes nothing.
use mathlib.Core.Path.{◌≡◌, refl, ap, ◌∙◌}
use mathlib.Core.List.{List, [], ◌∷◌, ◌++◌, append_assoc}
use Prim.Native.Nat.{ℕ, ◌+◌, ◌-◌, ◌≤◌, ◌<◌}
use native.Mathlib.Omega.{arith}
use lib.ListN.{length, take, drop, length-append}
use lib.Seq.{slice, sets, length-sets}
use Rattle.cbf_format.specs.declared.Description.{Description}
use Rattle.cbf_format.specs.declared.Section.{Section}
use Rattle.cbf_format.specs.Listing.{printed, compression_name, type_name, named, spaced, section_text}
use Rattle.cbf_listing.specs.SectionLine.{line_for, figures}
use Rattle.cbf_write.proofs.PutLaws.{Put}

-- ---- the room for a text, and for what follows it

pub first_fits : (at : ℕ) (a b : List ℕ) {n : ℕ} → at + length (a ++ b) ≤ n → at + length a ≤ n
first_fits at a b h = omega (arith, length-append a b)

pub rest-fits : (old : List ℕ) (at : ℕ) (a b : List ℕ) {r : ℕ} {mid : List ℕ} → at + length (a ++ b) ≤ length old
    → Put old at a r mid → r + length b ≤ length mid
rest-fits old at a b h p = omega (arith, length-append a b, ap length p.1 ∙ length-sets old at a)

-- a text that was put, under another name
pub put-as : (old : List ℕ) (at : ℕ) {text other : List ℕ} {r : ℕ} {new : List ℕ} → text ≡ other → r ≡ at + length text → new ≡ sets old at text
    → Put old at other r new
put-as old at e p q = rw (← e) (p, q)

-- ---- the pieces of a line

pub named_some : (t : List ℕ) → 0 < length t → named t ≡ (32 ∷ []) ++ t
named_some [] h = absurd (omega arith)
named_some (x ∷ t) h = refl

pub length-named : (t : List ℕ) → 0 < length t → length (named t) ≡ 1 + length t
length-named t h = rw (named_some t h) (omega arith)

module _ (file : List ℕ) (number : ℕ) (s : Section) where
  abbrev name : List ℕ
  name = slice s.block.from s.block.to file

  abbrev d : Description
  d = s.description

  abbrev numbers : List ℕ
  numbers = figures number s.first d.size d.elements

  pub line-pieces :
      line_for file number s
      ≡ numbers ++ (compression_name d.compression ++ ((32 ∷ []) ++ (type_name d.kind ++ (named name ++ (10 ∷ [])))))
  unfolding section_text
  line-pieces = simp append_assoc

  -- the room that they take
  pub line-room :
      length (line_for file number s)
      ≡ length numbers + (length (compression_name d.compression) + (1 + (length (type_name d.kind) + (length (named name) + 1))))
  line-room = rw line-pieces (simp length-append (omega arith))

  pub line-lengths :
      length (line_for file number s)
      ≡ length (printed number) + length (printed s.first) + length (printed d.size) + length (printed d.elements)
      + (length (compression_name d.compression) + length (type_name d.kind)) + length (named name) + 6
  unfolding section_text
  line-lengths = simp length-append (omega arith)
