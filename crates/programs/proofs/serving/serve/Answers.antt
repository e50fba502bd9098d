-- The bytes are those that were read, and what is written is what was answered to them.
use Rattle.std.proofs.Common.{◌++◌, ap, ◌∙◌}
use Rattle.std.proofs.lemmas.Option.{IfSome_then}
use Rattle.std.proofs.lemmas.Result.{IfOk-weaker}
use Rattle.programs.proofs.serving.serve.Goals as goal

pub returns : goal.returns
returns g c =
    let read = IfSome_then (g.I.Read.remaining c.args.input.now) c.in_ok-read_to_end.ensures.bytes (λ xs e. c.as_slice-input.ensures.value ∙ e ∙ ap (λ l. l ++ xs) c.new-bytes.ensures.items) in
    IfOk-weaker c.write_answer.result _ _ (λ status w. (c.as_slice-input.result, c.answer.result, read, c.answer.ensures, w)) c.write_answer.ensures
