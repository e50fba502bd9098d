-- The operations on polynomials modulo 1 + X + ... + X^n and m, kept as n coefficients, and their words. Assumes nothing.
use Rattle.std.specs.Prelude.{ℕ, ◌+◌, ◌-◌, List, [], ◌∷◌, map, slice_index}
use Rattle.kinds.specs.Ring.{Ops}
use Rattle.kinds.specs.Words.{Coding}
use Rattle.quotient.specs.Polynomials.{times}
use Rattle.quotient.specs.Reduction.{reduced as folded}
use Rattle.poly.specs.Integers.{Z, of, integers}
use Rattle.poly.specs.Modulus.{modulus}
use Rattle.poly.specs.Reduced.{reduced, reduced_long, reduced_small}
use Rattle.poly.specs.Lists.{at}
use Rattle.poly.specs.declared.elements.Poly.{Poly}

-- the coefficient of X^i
abbrev pub coefficient : {n m : ℕ} → Poly n m → ℕ → ℕ
coefficient x i = slice_index x.coeffs i

-- the polynomial with these coefficients, each taken modulo m
unfoldable pub poly : (n m : ℕ) → (ℕ → ℕ) → Poly n m
poly n m f = record { coeffs = reduced n m f; long = reduced_long n m f; small = reduced_small n m f }

-- the coefficient of X^i in a sum and in a difference, before it is taken modulo m
abbrev pub sum_at : {n m : ℕ} → Poly n m → Poly n m → ℕ → ℕ
sum_at x y i = coefficient x i + coefficient y i

abbrev pub difference_at : {n m : ℕ} → Poly n m → Poly n m → ℕ → ℕ
difference_at {m = m} x y i = coefficient x i + (modulus m - coefficient y i)

-- the element that a polynomial of any degree over the integers modulo m is reduced to
unfoldable pub reduction : (n m : ℕ) → List (Z m) → Poly n m
reduction n m f = poly n m (λ i. (folded (integers m) n f i).number)

-- an element as a polynomial
abbrev pub listing : {n m : ℕ} → Poly n m → List (Z m)
listing {m = m} x = map (of m) x.coeffs

-- plus and minus are taken coefficient by coefficient; times is the product of polynomials, reduced
abbrev pub ops : (n m : ℕ) → Ops (Poly n m)
ops n m = record {
  zero = poly n m (λ i. 0);
  one = poly n m (at (1 ∷ []));
  plus = λ x y. poly n m (sum_at x y);
  minus = λ x y. poly n m (difference_at x y);
  times = λ x y. reduction n m (times (integers m) (listing x) (listing y));
}

-- the words are the coefficients; of other words, missing ones count as 0 and too large ones are reduced
abbrev pub coding : (n m : ℕ) → Coding (Poly n m)
coding n m = record {
  width = n;
  limit = modulus m;
  words = λ x. x.coeffs;
  element = λ ws. poly n m (at ws);
}
