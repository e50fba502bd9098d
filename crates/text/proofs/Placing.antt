-- A problem that becomes a fault.
use Rattle.std.proofs.Common.{◌≡◌, ℕ, Ok, Err, Result, MatchResult, IsErrAnd, ap, ◌∙◌}
use Rattle.text.specs.declared.faults.Fault.{Fault}
use Rattle.text.specs.declared.faults.Problem.{Problem}
use Rattle.text.specs.Readings.{placed}

-- q is what `map_err` makes of r, with an offset beside the problem
pub placed_is : (i : ℕ) (r s : Result ℕ Problem) (q : Result ℕ Fault) (Makes : Problem → Fault → Type 0) → r ≡ s → MatchResult r (λ n. q ≡ Ok n) (λ p. IsErrAnd q (Makes p)) → ((p : Problem) (f : Fault) → Makes p f → f ≡ record { at = i; problem = p }) → q ≡ placed i s
placed_is i (Ok n) s q Makes same is made = is ∙ ap (placed i) same
placed_is i (Err p) s (Err f) Makes same is made = ap Err (made p f is) ∙ ap (placed i) same
placed_is i (Err p) s (Ok n) Makes same is made = absurd is
