-- `ends` holds for none of the bytes so far.
use Rattle.std.proofs.Common.{◌≡◌, ℕ, ◌<◌, ◌≤◌, Bool, false, get_or}
use Rattle.text.specs.Cuts.{IsTest}
use Rattle.text.proofs.cuts.end.Given as goal

abbrev pub invariant-loop-i : goal.invariant-loop-i
invariant-loop-i g l = (p : ℕ → Bool) → IsTest (λ b. g.F.Fn.post l.ends (b, tt)) p → (k : ℕ) → l.from ≤ k → k < l.i → p (get_or l.text k 0) ≡ false
