-- The number is that of the bytes that are left, added to n, which has as many digits as were passed.
use Rattle.std.proofs.Common.{◌≡◌, ◌^◌, ◌<◌, drop}
use Rattle.cbf_format.specs.Values.{digits, decimal}
use Rattle.cbf_values.proofs.value.number.Given as goal

abbrev pub invariant-loop-b : goal.invariant-loop-b
invariant-loop-b l =
    (l.n < 10 ^ l.b-index)
    × (digits (drop l.b-index l.text) ≡ digits l.text)
    × (decimal l.n (drop l.b-index l.text) ≡ decimal 0 l.text)
