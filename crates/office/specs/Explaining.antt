-- What is told of a trouble, and the offset that it is about. Assumes nothing.
use Rattle.std.specs.Prelude.{ℕ, List, ◌++◌, codes, Some, None, Option}
use Rattle.kinds.specs.Refusals.{refusal_text}
use Rattle.text.specs.Shown.{problem_text}
use Rattle.office.specs.declared.troubles.Trouble.{Trouble}
use Rattle.office.specs.declared.troubles.Trouble.TheVariants.{Header, ShareCount, BadText, Refused, Memory}

abbrev pub message : Trouble → List ℕ
message (Header at) = codes "expected a known kind and a number of shares, as in `Q 509 11 3`, `T 701 3` or `W 3`"
message (ShareCount at) = codes "more than 64 shares"
message (BadText f) = problem_text f.problem
message (Refused e) = codes "refused with " ++ refusal_text e
message Memory = codes "out of memory"

abbrev pub offset : Trouble → Option ℕ
offset (Header at) = Some at
offset (ShareCount at) = Some at
offset (BadText f) = Some f.at
offset (Refused e) = None
offset Memory = None
