-- The first line, from its offset on.
use Rattle.std.proofs.Common.{◌≡◌, length, drop, sym, ap, ◌∙◌, rules, arith}
use Rattle.std.proofs.lemmas.Bool.{eqb-false}
use Rattle.std.proofs.lemmas.List.{length-drop, take_rest}
use Rattle.text.specs.Lines.{first_line}
use Rattle.text.proofs.Lining.{line_next}
use Rattle.text.proofs.lines.LineReader.peek.Goals as goal

pub returns : goal.returns
returns c =
    let bs = c.args.self.now.text.now in
    let i = c.args.self.now.at in
    let ahead : c.in_ok-ahead.ahead.now ≡ drop i bs = search (rules, take_rest) in
    let line : c.first_line.result.now ≡ first_line (drop i bs) = c.first_line.ensures ∙ ap first_line ahead in
    line_next bs i _ (ap length line) (omega (arith, length-drop i bs, ap length ahead, eqb-false _ _ (sym c.if-is_empty.ensures)))
