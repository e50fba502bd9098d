-- The invariant of `decimal`: the value of the digits so far, or the cut.
use Rattle.std.proofs.Common.{◌≡◌, ◌+◌, min, take, drop}
use Rattle.std.specs.Str.{all_ascii_digits}
use Rattle.text.specs.Numbers.{value_of}
use Rattle.text.proofs.numbers.decimal.Given as goal

abbrev pub invariant-loop-b : goal.invariant-loop-b
invariant-loop-b l =
    (all_ascii_digits (drop l.b-index l.text) ≡ all_ascii_digits l.text)
    × (l.value ≡ min (value_of (take l.b-index l.text)) (l.fn.most + 1))
