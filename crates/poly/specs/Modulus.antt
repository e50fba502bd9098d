-- The modulus of the coefficients. Assumes nothing.
use Rattle.std.specs.Prelude.{ℕ, max}

-- coefficients are integers modulo m; a type with M = 0 has one element too
abbrev pub modulus : ℕ → ℕ
modulus m = max m 1
