-- What comes of the lines that are left, behind the text so far, comes of all.
use Rattle.std.proofs.Common.{string_bytes}
use Rattle.text.specs.Lines.{lines_to_come}
use Rattle.cases.proofs.Running.{Run}
use Rattle.cases.proofs.answers.all.Given as goal

abbrev pub invariant-loop-line : goal.invariant-loop-line
invariant-loop-line l = Run (lines_to_come l.fn.lines) (string_bytes l.text) (lines_to_come l.line-iterator)
