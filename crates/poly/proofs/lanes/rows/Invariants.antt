-- The products so far and those to come make up the rows.
use Rattle.std.proofs.Common.{◌≡◌, ◌+◌, ◌-◌, ◌%◌}
use Rattle.poly.specs.Lanes.{rows_at}
use Rattle.poly.specs.Lists.{at}
use Rattle.poly.proofs.lanes.rows.Given as goal

abbrev pub invariant-loop-j : goal.invariant-loop-j
invariant-loop-j l = (l.sum + rows_at (8 - l.j) (λ i. at l.c (l.j + i)) (at l.b) l.k) % 65536 ≡ rows_at 8 (at l.c) (at l.b) l.k % 65536
