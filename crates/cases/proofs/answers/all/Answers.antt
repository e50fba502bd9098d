-- One more line, a line that is wrong, and the end.
use Rattle.std.proofs.Common.{◌++◌, string_bytes, ap, ◌∙◌, inl, inr, ⊎_elim}
use Rattle.std.proofs.lemmas.Result.{err_from_is_err_and}
use Rattle.text.specs.Tokens.{to_come}
use Rattle.cases.specs.Answers.{Line}
use Rattle.cases.proofs.Running.{came, run_more, run_stops, run_all}
use Rattle.cases.proofs.answers.all.Goals as goal

pub returns-in_err-result : goal.returns-in_err-result
returns-in_err-result c =
    let p = err_from_is_err_and c.from_residual.result c.from_residual.ensures.1 in
    rw (p.1, p.2)
    (⊎_elim (λ wrong. inl (run_stops _ _ _ _ _ c.in-Some.ensures.steps c.loop-line.invariant _ wrong)) (λ none. inr none) c.in_err-result.ensures)

pub loop-line-preserved : goal.loop-line-preserved
loop-line-preserved c =
    run_more _ _ _ _ _ c.in-Some.ensures.steps c.loop-line.invariant _ _
    (c.in_ok-push_str.ensures.bytes ∙ ap (λ t. string_bytes c.loop-line.text ++ t) c.as_str.ensures.value)
    (came (Line (to_come c.in-Some.line)) c.in_ok-result.result c.in_ok-result.ensures)

pub returns : goal.returns
returns c = inl (run_all _ _ _ c.in-None.ensures.steps.0 c.loop-line.invariant)
