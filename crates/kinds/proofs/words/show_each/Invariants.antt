-- Each value so far is what the closure gave for its place.
use Rattle.std.proofs.Common.{ℕ, ◌<◌, get_or}
use Rattle.kinds.proofs.words.show_each.Given as goal

abbrev pub invariant-loop-i : goal.invariant-loop-i
invariant-loop-i g l = (k : ℕ) (d : g.row.T.Denot) → k < l.i → goal.F-post g l.f k (get_or l.out k d)
