-- A line is its name, its number and its end, one after the other.
use Rattle.std.proofs.Common.{[], ◌∷◌, refl, arith}
use Rattle.cbf_format.specs.Listing.{printed}
use Rattle.cbf_house.proofs.HeadLaws.{line-parts, line-length, written_none, written-more, written_all, next_fits}
use Rattle.cbf_house.proofs.head.Piece.put.Goals as goal

pub put_text-name_end-requires : goal.put_text-name_end-requires
put_text-name_end-requires c =
    let name = c.in-Line.name.now in
    next_fits (written_none (rw c.in-Line.is at c.requires)) name _ (line-parts name c.in-Line.n)

pub put_number-number_end-requires : goal.put_number-number_end-requires
put_number-number_end-requires c =
    let name = c.in-Line.name.now in
    let e = c.put_text-name_end.ensures in
    next_fits (written-more (written_none (rw c.in-Line.is at c.requires)) name _ (line-parts name c.in-Line.n) e.value e.out_after)
    (printed c.in-Line.n) _ refl

pub put_text-requires-in-Line : goal.put_text-requires-in-Line
put_text-requires-in-Line c =
    let name = c.in-Line.name.now in
    let e = c.put_text-name_end.ensures in
    let f = c.put_number-number_end.ensures in
    let w = written-more (written_none (rw c.in-Line.is at c.requires)) name _ (line-parts name c.in-Line.n) e.value e.out_after in
    next_fits (written-more w (printed c.in-Line.n) _ refl f.value f.out_after) (13 ∷ 10 ∷ []) [] refl

pub returns-in-Line-clause-value : goal.returns-in-Line-clause-value
returns-in-Line-clause-value c = rw c.in-Line.is (omega (arith, line-length c.in-Line.name.now c.in-Line.n))

pub returns-in-Line-clause-out_after : goal.returns-in-Line-clause-out_after
returns-in-Line-clause-out_after c =
    let name = c.in-Line.name.now in
    let e = c.put_text-name_end.ensures in
    let f = c.put_number-number_end.ensures in
    let l = c.put_text-in-Line.ensures in
    let w = written-more (written_none (rw c.in-Line.is at c.requires)) name _ (line-parts name c.in-Line.n) e.value e.out_after in
    rw c.in-Line.is (written_all (written-more (written-more w (printed c.in-Line.n) _ refl f.value f.out_after) (13 ∷ 10 ∷ []) [] refl l.value l.out_after) refl).1
