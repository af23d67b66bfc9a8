-- `put_entry`: the numbers, four at a time, then the label.
use mathlib.Core.List.{List, ◌++◌}
use mathlib.Core.Path.{ap, sym, ◌∙◌}
use Prim.Native.Nat.{ℕ}
use lib.Seq.{sets, slice}
use Rattle.cbf_format.specs.Catalogue.{label}
use Rattle.cbf_format.proofs.Slices.{slice-part}
use Rattle.cbf_catalogue.specs.Entry.{four_numbers}
use Rattle.cbf_catalogue.proofs.EntryLaws.{both-written, length-four, entry-pieces}
use Rattle.cbf_catalogue.proofs.entry.put_entry.Goals as goal

pub returns-clause-out_after : goal.returns-clause-out_after
returns-clause-out_after c =
    let a = c.args in
    let t = a.section in
    let d = t.description in
    let k = c.kinds-numbers in
    let p = c.put_four-after_kinds in
    let q = c.put_four-after_numbers in
    let n = c.put_label in
    let name = slice t.block.from t.block.to a.file.now in
    let first = four_numbers t.first d.size d.elements k.result in
    let second = four_numbers d.id d.fastest d.second d.third in
    let part = ap (λ (t : List ℕ). sets q.new.out q.result (label t)) (sym (slice-part a.file.now t.block.from t.block.to c.requires.0 c.requires.1)) in
    rw (entry-pieces t.first d.size d.elements d.compression d.kind d.encoding d.id d.fastest
    d.second d.third name k.result k.ensures)
    (both-written a.out.now a.at first (second ++ label name) 48 (length-four t.first d.size d.elements k.result)
    (p.ensures.value, p.ensures.out_after)
    (both-written p.new.out p.result second (label name) 32 (length-four d.id d.fastest d.second
    d.third) (q.ensures.value, q.ensures.out_after) (n.ensures.value, n.ensures.out_after ∙ part))).1
