-- The tests are what a cursor that stands in the file keeps; its field is that of some state.
use Rattle.cbf_reader.proofs.WalkLaws.{field_back, back_field}
use Rattle.cbf_reader.proofs.walk.is_ready.Goals as goal

pub returns-then-c-file-2 : goal.returns-then-c-file-2
returns-then-c-file-2 c =
    let a = c.args in
    let t = c.if-c-file-2.true in (
      λ e. record {
        short = t.0;
        at_in = t.1;
        few = t.2;
        block_low = t.3;
        block_high = t.4;
        stands = field_back a.c.field a.c.at (c.field_is_ready.ensures.0 e);
      },
      λ ready. c.field_is_ready.ensures.1 (back_field a.c.field a.c.at ready.stands.0 ready.stands.1.0 ready.stands.1.1),
    )
