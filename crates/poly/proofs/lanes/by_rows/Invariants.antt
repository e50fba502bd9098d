-- The rows so far and those to come make up the product.
use Rattle.std.proofs.Common.{◌*◌}
use Rattle.poly.specs.Lists.{at}
use Rattle.poly.proofs.Windows.{Left}
use Rattle.poly.proofs.lanes.by_rows.Given as goal

abbrev pub invariant-loop-k : goal.invariant-loop-k
invariant-loop-k l = Left (at l.fn.a) (at l.fn.b) (8 * l.k) l.p
