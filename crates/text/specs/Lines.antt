-- The lines of a byte list: each ends before a line feed, byte 10, or at the end.
use Rattle.std.specs.Prelude.{ℕ, ◌+◌, Bool, false, if◌then◌else◌, not, List, [], ◌∷◌, ◌++◌, drop, ◌==◌}
use Rattle.std.specs.List.{before_first}
use Rattle.text.specs.Tokens.{Word, tokens_from}
use Rattle.text.specs.declared.lines.LineReader.{LineReader}

-- the bytes before the first line feed
abbrev pub first_line : List ℕ → List ℕ
first_line bs = before_first (λ b. b == 10) bs

-- the tokens of the line that starts with bs at offset i; none if it goes on from before, `inside`
abbrev pub starts_line : Bool → ℕ → List ℕ → List (List Word)
starts_line inside i bs = if inside then [] else tokens_from false i (first_line bs) ∷ []

-- the tokens of each line that starts in bs, whose first byte has offset i; `inside` says that the byte before it is no line feed
abbrev pub lines_from : Bool → ℕ → List ℕ → List (List Word)
lines_from inside i [] = []
lines_from inside i (b ∷ bs) = starts_line inside i (b ∷ bs) ++ lines_from (not (b == 10)) (i + 1) bs

-- the tokens of each line of bs from offset i on
abbrev pub lines_at : ℕ → List ℕ → List (List Word)
lines_at i bs = lines_from false i (drop i bs)

-- the tokens of each line of bs
abbrev pub lines_of : List ℕ → List (List Word)
lines_of bs = lines_from false 0 bs

-- the lines that a reader has yet to give
abbrev pub lines_to_come : LineReader → List (List Word)
lines_to_come r = lines_at r.at r.text.now
