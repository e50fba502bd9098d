-- Polynomials of any degree over a ring, as lists of coefficients, constant term first. Assumes nothing.
use Rattle.std.specs.Prelude.{ℕ, suc, List, [], ◌∷◌, map, replicate}
use Rattle.kinds.specs.Ring.{Ops}

module _ {A : Type 0} (R : Ops A) where
  -- the sum of two polynomials
  abbrev pub plus : List A → List A → List A
  plus [] g = g
  plus (c ∷ f) [] = c ∷ f
  plus (c ∷ f) (d ∷ g) = R.plus c d ∷ plus f g

  abbrev pub scaled : A → List A → List A
  scaled c f = map (R.times c) f

  -- the product of two polynomials: (c + X f) g = c g + X (f g)
  abbrev pub times : List A → List A → List A
  times [] g = []
  times (c ∷ f) g = plus (scaled c g) (R.zero ∷ times f g)

  -- 1 + X + ... + X^n
  abbrev pub phi : ℕ → List A
  phi n = replicate (suc n) R.one
