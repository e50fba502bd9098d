-- The numbers so far.
use Rattle.std.proofs.Common.{◌≡◌, ℕ, List, ◌++◌, take, Some, string_bytes}
use Rattle.text.specs.Shown.{spaced}
use Rattle.text.proofs.writing.push_numbers.Given as goal

abbrev pub invariant-loop-number : goal.invariant-loop-number
invariant-loop-number g l =
    (digits : g.row.T.Denot → List ℕ) → ((x : g.row.T.Denot) → g.T.Display.output x ≡ Some (digits x)) →
    string_bytes l.text ≡ string_bytes l.initial.text ++ spaced digits (take l.number-index l.numbers)
