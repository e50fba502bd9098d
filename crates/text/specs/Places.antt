-- Lines and columns, both counted from 1.
use Rattle.std.specs.Prelude.{ℕ, ◌+◌, not, List, take, count_by, ◌==◌}
use Rattle.std.specs.List.{suffix_len}

-- how many line feeds, byte 10, there are
abbrev pub feeds : List ℕ → ℕ
feeds bs = count_by (λ b. b == 10) bs

-- how many bytes follow the last line feed, or all where there is none: the longest end with no line feed
abbrev pub since : List ℕ → ℕ
since bs = suffix_len (λ b. not (b == 10)) bs

-- the line of offset `at`: one more than the line feeds before it
abbrev pub line_of : List ℕ → ℕ → ℕ
line_of bs at = feeds (take at bs) + 1

-- its column: one more than the bytes before it on its line
abbrev pub column_of : List ℕ → ℕ → ℕ
column_of bs at = since (take at bs) + 1
