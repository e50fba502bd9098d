-- The sizes that are served. Assumes nothing.
use Rattle.std.specs.Prelude.{ℕ, ◌%◌, Bool, ◌&&◌, ◌||◌, ◌==◌, nat_le}

-- n = l - 1 coefficients, l from 3 to 821, and a modulus m: 3, or 2^k with k from 1 to 13, that is, 2 or more and a divisor of 2^13
abbrev pub served : ℕ → ℕ → Bool
served n m = nat_le 2 n && (nat_le n 820 && (m == 3 || (nat_le 2 m && 8192 % m == 0)))
