-- The elements so far and the words that are left make up all the words.
use Rattle.std.proofs.Common.{length}
use Rattle.kinds.proofs.Filling.{Filled}
use Rattle.kinds.proofs.words.fill.Given as goal

abbrev pub invariant-loop-slot : goal.invariant-loop-slot
invariant-loop-slot g l = Filled g.K.Kind.coding (length l.initial.list) l.words l.slot-index l.list l.rest
