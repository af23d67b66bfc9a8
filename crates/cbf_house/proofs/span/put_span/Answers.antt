-- The head, the octets, a line end and the closing boundary, one after the other.
use Rattle.std.proofs.Common.{◌≡◌, ◌+◌, ◌≤◌, List, ℕ, [], ◌∷◌, ◌++◌, length, refl, append-nil, sym}
use Rattle.std.proofs.lemmas.List.Edits.{sets}
use Rattle.cbf_pixels.specs.Pixels.{pack_byte_offset}
use Rattle.cbf_format.specs.declared.Description.{Description}
use Rattle.cbf_format.specs.House.{house}
use Rattle.cbf_format.specs.Sections.{closing}
use Rattle.cbf_house.specs.Head.{head_text}
use Rattle.cbf_house.proofs.HeadLaws.{Written, written_none, written-more, written_all, next_fits}
use Rattle.cbf_house.proofs.SpanLaws.{span-parts}
use Rattle.cbf_house.proofs.span.put_span.Goals as goal

abbrev line_end : List ℕ
line_end = 13 ∷ 10 ∷ []

-- what is left to write after the head, after the octets, and after the line end
module _ (d : Description) (os : List ℕ) {old : List ℕ} {at size r : ℕ} {out : List ℕ} (e : size ≡ length os)
    (h : at + length (house d os) ≤ length old) (v : r ≡ at + length (head_text d size)) (o : out ≡ sets old at (head_text d size)) where
  after_head : Written old at (house d os) (os ++ (line_end ++ closing)) r out
  after_head = written-more (written_none h) (head_text d size) (os ++ (line_end ++ closing)) (span-parts d os e) v o

  module _ {s : ℕ} {out2 : List ℕ} (v2 : s ≡ r + length os) (o2 : out2 ≡ sets out r os) where
    after_octets : Written old at (house d os) (line_end ++ closing) s out2
    after_octets = written-more after_head os (line_end ++ closing) refl v2 o2

    after_line : {t : ℕ} {out3 : List ℕ} → t ≡ s + 2 → out3 ≡ sets out2 s line_end → Written old at (house d os) closing t out3
    after_line v3 o3 = written-more after_octets line_end closing refl v3 o3

pub put_head-first-requires : goal.put_head-first-requires
put_head-first-requires c =
    let os = pack_byte_offset c.args.frame.now in
    next_fits (written_none c.requires.1) _ _ (span-parts c.args.d os c.requires.0.counted)

pub write_octets-after-requires : goal.write_octets-after-requires
write_octets-after-requires c =
    let a = c.args in
    let e = c.put_head-first.ensures in
    let w = after_head a.d (pack_byte_offset a.frame.now) c.requires.0.counted c.requires.1 e.value e.out_after in
    (c.requires.0.small, next_fits w (pack_byte_offset a.frame.now) (line_end ++ closing) refl)

pub put_text-closing-requires : goal.put_text-closing-requires
put_text-closing-requires c =
    let a = c.args in
    let e = c.put_head-first.ensures in
    let f = c.write_octets-after.ensures in
    let w = after_octets a.d (pack_byte_offset a.frame.now) c.requires.0.counted c.requires.1 e.value e.out_after f.value f.out_after in
    next_fits w line_end closing refl

pub put_text-requires : goal.put_text-requires
put_text-requires c =
    let a = c.args in
    let e = c.put_head-first.ensures in
    let f = c.write_octets-after.ensures in
    let l = c.put_text-closing.ensures in
    let w = after_line a.d (pack_byte_offset a.frame.now) c.requires.0.counted c.requires.1 e.value e.out_after f.value f.out_after l.value l.out_after in
    next_fits w closing [] (sym (append-nil closing))

pub returns : goal.returns
returns c =
    let a = c.args in
    let e = c.put_head-first.ensures in
    let f = c.write_octets-after.ensures in
    let l = c.put_text-closing.ensures in
    let b = c.put_text.ensures in
    let w = after_line a.d (pack_byte_offset a.frame.now) c.requires.0.counted c.requires.1 e.value e.out_after f.value f.out_after l.value l.out_after in
    let p = written_all (written-more w closing [] (sym (append-nil closing)) b.value b.out_after) refl in
    record { value = p.0; out_after = p.1 }
