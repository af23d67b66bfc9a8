-- The header is one of those that are left, if it is any.
use Rattle.std.proofs.Common.{◌≡◌, drop}
use Rattle.cbf_values.specs.Header.{header_in}
use Rattle.cbf_values.proofs.header.named.Given as goal

abbrev pub invariant-loop-word : goal.invariant-loop-word
invariant-loop-word l = header_in (drop l.word-index l.table) l.name ≡ header_in l.table l.name
