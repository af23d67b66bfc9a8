-- The invariant: what the walk over the header's lines has passed.
use Rattle.std.proofs.Common.{◌+◌, ◌-◌, ◌≤◌}
use Rattle.cbf_headers.specs.HeaderParts.{HeadersHere}
use Rattle.cbf_headers.proofs.HeaderPartsLaws.{Walked}
use Rattle.cbf_headers.proofs.header_parts.header_parts.Given as goal

abbrev pub invariant-loop-next : goal.invariant-loop-next
invariant-loop-next l = record {
  walked : (h : HeadersHere l.file l.from l.empty) → Walked h l.colon l.to l.next;
  name_in : l.from ≤ l.colon;
  value_in : l.colon + 1 ≤ l.to;
  to_in : l.to ≤ l.next;
  next_in : l.next ≤ l.empty;
}

abbrev pub decreases-loop-next : goal.decreases-loop-next
decreases-loop-next l = l.empty - l.next
