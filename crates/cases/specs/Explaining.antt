-- What is told of a trouble, and the offset that it is about. Assumes nothing.
use Rattle.std.specs.Prelude.{ℕ, List, ◌++◌, codes, Some, None, Option}
use Rattle.kinds.specs.Refusals.{refusal_text}
use Rattle.text.specs.Shown.{problem_text}
use Rattle.cases.specs.declared.troubles.Trouble.{Trouble}
use Rattle.cases.specs.declared.troubles.Trouble.TheVariants.{UnknownKind, UnknownOperation, BadText, Refused, Memory}

abbrev pub message : Trouble → List ℕ
message (UnknownKind at) = codes "expected a known kind, as `Q(509,11)`, `T(701)` or `W`"
message (UnknownOperation at) = codes "expected the operation `times` behind the kind"
message (BadText f) = problem_text f.problem
message (Refused at e) = codes "refused with " ++ refusal_text e
message Memory = codes "out of memory"

abbrev pub offset : Trouble → Option ℕ
offset (UnknownKind at) = Some at
offset (UnknownOperation at) = Some at
offset (BadText f) = Some f.at
offset (Refused at e) = Some at
offset Memory = None
