-- What is printed.
use Rattle.std.specs.Prelude.{ℕ, ◌-◌, ◌^◌, min, List, ◌∷◌, ◌++◌, codes, decimal}
use Rattle.std.specs.List.{flat_map}
use Rattle.text.specs.Places.{line_of, column_of}
use Rattle.text.specs.declared.faults.Problem.{Problem}
use Rattle.text.specs.declared.faults.Problem.TheVariants.{NotANumber, TooLarge}
use Rattle.text.specs.declared.places.Place.{Place}

-- as `line 3, column 7`
abbrev pub place_text : Place → List ℕ
place_text p = codes "line " ++ (decimal p.line ++ (codes ", column " ++ decimal p.column))

-- the message of a problem
abbrev pub problem_text : Problem → List ℕ
problem_text NotANumber = codes "not a decimal number"
problem_text (TooLarge most) = codes "larger than " ++ decimal most

-- the line and the column of an offset
abbrev pub place_of : List ℕ → ℕ → Place
place_of input at = record { line = min (line_of input at) (2 ^ 64 - 1); column = min (column_of input at) (2 ^ 64 - 1) }

-- a message about the offset `at`, as `line 3, column 7: not a decimal number`
abbrev pub message_at : List ℕ → ℕ → List ℕ → List ℕ
message_at input at message = place_text (place_of input at) ++ (codes ": " ++ message)

-- values, each behind a space
abbrev pub spaced : {X : Type 0} → (X → List ℕ) → List X → List ℕ
spaced digits xs = flat_map (λ x. 32 ∷ digits x) xs
