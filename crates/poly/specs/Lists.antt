-- Lists of coefficients. Assumes nothing.
use Rattle.std.specs.Prelude.{ℕ, List, slice_index}

-- the coefficient of X^i in a list of them; missing ones count as 0
abbrev pub at : List ℕ → ℕ → ℕ
at xs i = slice_index xs i
