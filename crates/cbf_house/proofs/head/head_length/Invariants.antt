-- the pieces that are left have the rest of the length
use Rattle.std.proofs.Common.{◌≡◌, ◌+◌, length, drop}
use Rattle.cbf_house.specs.Head.{head_text, texts_of}
use Rattle.cbf_house.proofs.head.head_length.Given as goal

abbrev pub invariant-loop-piece : goal.invariant-loop-piece
invariant-loop-piece l =
    l.length + length (texts_of (drop l.piece-index l.piece-items)) ≡ length (head_text l.fn.d l.size)
