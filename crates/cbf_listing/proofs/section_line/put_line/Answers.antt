-- `put_line`: the pieces of the line, one after another, in the room that the line has.
use mathlib.Core.Path.{◌≡◌, refl, ap, sym}
use mathlib.Core.List.{List, [], ◌∷◌, ◌++◌}
use native.Mathlib.Omega.{arith}
use lib.ListN.{length, take, drop}
use lib.Seq.{slice}
use Prim.Native.Nat.{ℕ, ◌-◌}
use Rattle.cbf_format.specs.Listing.{compression_name, type_name, named}
use Rattle.cbf_format.proofs.Slices.{slice-part}
use Rattle.cbf_listing.specs.SectionLine.{figures}
use Rattle.cbf_write.proofs.PutLaws.{put_both}
use Rattle.cbf_listing.proofs.SectionLineLaws.{put-as, line-pieces, line-room}
use Rattle.cbf_listing.proofs.section_line.put_line.Goals as goal

pub put_figures-after_figures-requires : goal.put_figures-after_figures-requires
put_figures-after_figures-requires c = omega (arith, line-room c.args.file.now c.args.number c.args.section)

pub put_text-after_compression-requires : goal.put_text-after_compression-requires
put_text-after_compression-requires c =
    omega (arith, line-room c.args.file.now c.args.number c.args.section, ap length c.compression_name.ensures.0)

pub put_text-after_space-requires : goal.put_text-after_space-requires
put_text-after_space-requires c =
    omega (arith, line-room c.args.file.now c.args.number c.args.section, ap length c.compression_name.ensures.0)

pub put_text-after_type-requires : goal.put_text-after_type-requires
put_text-after_type-requires c =
    omega (
      arith,
      line-room c.args.file.now c.args.number c.args.section,
      ap length c.compression_name.ensures.0,
      ap length c.type_name.ensures.0,
    )

pub put_name-after_name-requires : goal.put_name-after_name-requires
put_name-after_name-requires c =
    let b = c.args.section.block in
    omega (
      arith,
      line-room c.args.file.now c.args.number c.args.section,
      ap length c.compression_name.ensures.0,
      ap length c.type_name.ensures.0,
      ap (λ (t : List ℕ). length (named t)) (slice-part c.args.file.now b.from b.to c.requires.0 c.requires.1),
    )

pub put_text-requires : goal.put_text-requires
put_text-requires c =
    let b = c.args.section.block in
    omega (
      arith,
      line-room c.args.file.now c.args.number c.args.section,
      ap length c.compression_name.ensures.0,
      ap length c.type_name.ensures.0,
      ap (λ (t : List ℕ). length (named t)) (slice-part c.args.file.now b.from b.to c.requires.0 c.requires.1),
    )

pub returns : goal.returns
returns c =
    let s = c.args.section in
    let d = s.description in
    let file = c.args.file.now in
    let name = slice s.block.from s.block.to file in
    let f = c.put_figures-after_figures in
    let p = c.put_text-after_compression in
    let q = c.put_text-after_space in
    let t = c.put_text-after_type in
    let n = c.put_name-after_name in
    let part = slice-part file s.block.from s.block.to c.requires.0 c.requires.1 in
    let numbers = figures c.args.number s.first d.size d.elements in
    let after-type = named name ++ (10 ∷ []) in
    let after-space = type_name d.kind ++ after-type in
    let after-compression = (32 ∷ []) ++ after-space in
    let w = put_both c.args.out.now c.args.at numbers (compression_name d.compression ++ after-compression)
    (f.ensures.value, f.ensures.out_after)
    (put_both f.new.out f.result (compression_name d.compression) after-compression
    (put-as _ _ c.compression_name.ensures.0 p.ensures.value p.ensures.out_after)
    (put_both p.new.out p.result (32 ∷ []) after-space (q.ensures.value, q.ensures.out_after)
    (put_both q.new.out q.result (type_name d.kind) after-type
    (put-as _ _ c.type_name.ensures.0 t.ensures.value t.ensures.out_after)
    (put_both t.new.out t.result (named name) (10 ∷ [])
    (put-as _ _ (ap named (sym part)) n.ensures.value n.ensures.out_after)
    (c.put_text.ensures.value, c.put_text.ensures.out_after))))) in
    rw (line-pieces file c.args.number s) (record { value = w.0; out_after = w.1 })
