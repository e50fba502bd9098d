-- The reduction of a polynomial of any degree to n coefficients. Assumes nothing.
use Rattle.std.specs.Prelude.{ℕ, suc, ◌%◌, cond, List, [], ◌∷◌, ◌==◌}
use Rattle.kinds.specs.Ring.{Ops}

module _ {A : Type 0} (R : Ops A) (l : ℕ) where
  -- the sum of the coefficients whose exponent modulo l is i; the first of the list belongs to exponent j
  abbrev pub folded_from : ℕ → List A → ℕ → A
  folded_from j [] i = R.zero
  folded_from j (c ∷ f) i = R.plus (cond (j % l == i) c R.zero) (folded_from (suc j) f i)

  -- exponents reduced modulo l: the coefficient of X^i
  abbrev pub folded : List A → ℕ → A
  folded f i = folded_from 0 f i

module _ {A : Type 0} (R : Ops A) (n : ℕ) where
  -- exponents reduced modulo l = n + 1, then the coefficient of X^(l-1) subtracted from every other and dropped
  abbrev pub reduced : List A → ℕ → A
  reduced f i = R.minus (folded R (suc n) f i) (folded R (suc n) f n)
