-- The places so far hold what the calls gave, and the others are as they were.
use Rattle.std.proofs.Common.{◌≡◌, ℕ, ◌<◌, ◌≤◌}
use Rattle.poly.specs.Lists.{at}
use Rattle.poly.proofs.lanes.put_each.Given as goal

abbrev pub invariant-loop-k : goal.invariant-loop-k
invariant-loop-k g l =
    ((k : ℕ) → k < l.k → goal.F-post g l.f k (at l.initial.xs k) (at l.xs k))
    × ((k : ℕ) → l.k ≤ k → at l.xs k ≡ at l.initial.xs k)
