-- What is written so far, and what is left.
use Rattle.std.proofs.Common.{◌≡◌, ℕ, List, ◌++◌}
use Rattle.std.specs.Io.KnownBytes.{Appends}
use Rattle.std.specs.Slice.Iter.{chunks_rest}
use Rattle.programs.proofs.serving.write_pieces.Given as goal

abbrev pub invariant-loop-piece : goal.invariant-loop-piece
invariant-loop-piece g l =
    (goal.iterator-loop-piece g).can_next l.piece-iterator
    × (goal.iterator-loop-piece g).is_finite l.piece-iterator
    × (done : List ℕ) × Appends (g.O.Write.contents l.initial.output) (g.O.Write.contents l.output) done
    × (done ++ chunks_rest l.piece-iterator ≡ l.bytes)
