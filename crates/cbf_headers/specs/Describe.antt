-- What a description is made of.
use Rattle.std.specs.Prelude.{cond, eqb, ◌≤◌, ◌^◌, Result, Ok, Err}
use Rattle.cbf_answers.specs.declared.Reason.{Reason}
use Rattle.cbf_answers.specs.declared.Reason.TheVariants.{BadHeader, CountsDisagree}
use Rattle.cbf_format.specs.declared.Description.{Description}
use Rattle.cbf_format.specs.Descriptions.{Verdict, headers_refused, describes}

-- 7 where counts disagree, else 6 for a header that is missing
abbrev pub described_by : Verdict → Result Description Reason
described_by (headers_refused k p) = Err (cond (eqb k 7) CountsDisagree BadHeader)
described_by (describes d) = Ok d

-- each count of a description is at most 2^31
pub record Few (d : Description) : Type 0 where
  pub size : d.size ≤ 2 ^ 31
  pub elements : d.elements ≤ 2 ^ 31
  pub fastest : d.fastest ≤ 2 ^ 31
  pub second : d.second ≤ 2 ^ 31
  pub third : d.third ≤ 2 ^ 31
