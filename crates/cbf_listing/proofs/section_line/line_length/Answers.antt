-- `line_length`: the lengths of the pieces, six bytes more.
use native.Mathlib.Omega.{arith}
use mathlib.Core.Path.{sym, ap}
use lib.ListN.{length}
use lib.Seq.{slice, length-slice}
use Rattle.cbf_listing.proofs.SectionLineLaws.{line-lengths}
use Rattle.cbf_listing.proofs.section_line.line_length.Goals as goal

pub returns : goal.returns
returns c =
    let s = c.args.section in (
      λ file h. let n = length-slice s.block.from s.block.to file h in
          omega (
            arith,
            line-lengths file c.args.number s,
            ap length c.compression_name.ensures.0,
            ap length c.type_name.ensures.0,
            c.name_length.ensures.0 (slice s.block.from s.block.to file) (sym n),
          ),
      omega arith,
    )
