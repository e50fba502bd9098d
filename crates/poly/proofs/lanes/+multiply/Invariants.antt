-- The halves are shorter.
use Rattle.std.proofs.Common.{length}
use Rattle.poly.proofs.lanes.+multiply.Given as goal

abbrev pub decreases-multiply : goal.decreases-multiply
decreases-multiply l = length l.b.now
