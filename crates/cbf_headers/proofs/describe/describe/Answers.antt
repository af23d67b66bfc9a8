-- The counts are those of values in range.
use Rattle.std.proofs.Common.{rules}
use Rattle.cbf_headers.proofs.DescribeLaws.{few}
use Rattle.cbf_headers.proofs.describe.describe.Goals as goal

pub size_agrees-requires : goal.size_agrees-requires
size_agrees-requires c =
    few c.requires (search rules) (search rules) c.unwrap_or-4.ensures c.unwrap_or-5.ensures c.unwrap_or-6.ensures

pub dimensions_agree-requires : goal.dimensions_agree-requires
dimensions_agree-requires c =
    few c.requires (search rules) (search rules) c.unwrap_or-4.ensures c.unwrap_or-5.ensures c.unwrap_or-6.ensures
