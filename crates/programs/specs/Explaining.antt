-- What is printed of a trouble with an input. Assumes nothing.
use Rattle.std.specs.Prelude.{ℕ, List, Some, None, Option, option_map}
use Rattle.text.specs.Shown.{message_at}

-- a message, behind the line and the column of the offset that it is about, where it is about one
abbrev pub explanation : List ℕ → Option ℕ → List ℕ → List ℕ
explanation input None message = message
explanation input (Some at) message = message_at input at message

-- what is told of a trouble with this input: the explanation of what it is printed as
abbrev pub told : List ℕ → Option ℕ → Option (List ℕ) → Option (List ℕ)
told input at printed = option_map (explanation input at) printed
