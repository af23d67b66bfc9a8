-- the pieces that are left are still to be written
use Rattle.std.proofs.Common.{drop}
use Rattle.cbf_house.specs.Head.{head_text, texts_of}
use Rattle.cbf_house.proofs.HeadLaws.{Written}
use Rattle.cbf_house.proofs.head.put_head.Given as goal

abbrev pub invariant-loop-piece : goal.invariant-loop-piece
invariant-loop-piece l =
    Written l.fn.out l.at (head_text l.fn.d l.size) (texts_of (drop l.piece-index l.piece-items)) l.end l.out
