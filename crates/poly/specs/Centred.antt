-- Coefficients as centred numbers. Assumes nothing.
use Rattle.std.specs.Prelude.{ℕ, ◌*◌, cond, List, map, ℤ, pos, ◌-ℤ◌, nat_lt}
use Rattle.poly.specs.Modulus.{modulus}
use Rattle.poly.specs.declared.elements.Poly.{Poly}

-- a coefficient above half of m counts as so much less than 0, any other as itself
abbrev pub centred : ℕ → ℕ → ℤ
centred m c = cond (nat_lt m (2 * c)) (pos c -ℤ pos m) (pos c)

abbrev pub centred_numbers : {n m : ℕ} → Poly n m → List ℤ
centred_numbers {m = m} x = map (centred (modulus m)) x.coeffs
