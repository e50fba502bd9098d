-- The coefficients of sums, products and reduced products. Assumes nothing.
use Rattle.std.proofs.Common.{◌≡◌, ℕ, zero, suc, ◌+◌, ◌<◌, ◌≤◌, List, [], ◌∷◌, length, get_or, sym, refl, ap, ◌∙◌, ap₂, arith}
use Rattle.std.proofs.lemmas.List.{length-map, get_or_past}
use Rattle.kinds.specs.Ring.{Ops, Laws}
use Rattle.quotient.proofs.Folding.{folded_twice}
use Rattle.quotient.specs.Polynomials.{plus, scaled, times}
use Rattle.quotient.specs.Reduction.{reduced}
use Rattle.quotient.proofs.Rings.{zero_plus, times_zero, zero_times}

module _ {A : Type 0} (R : Ops A) where
  length_plus : (f g : List A) (k : ℕ) → length f ≤ k → length g ≤ k → length (plus R f g) ≤ k
  length_plus [] g k p q = q
  length_plus (c ∷ f) [] k p q = p
  length_plus (c ∷ f) (d ∷ g) zero p q = absurd (omega arith)
  length_plus (c ∷ f) (d ∷ g) (suc k) p q = let r = length_plus f g k (omega arith) (omega arith) in omega arith

  pub length_times : (f g : List A) → length (times R f g) ≤ length f + length g
  length_times [] g = omega arith
  length_times (c ∷ f) g =
      let r = length_times f g in
      length_plus (scaled R c g) (R.zero ∷ times R f g) _ (omega (arith, length-map g (R.times c))) (omega arith)

  -- the coefficient of X^k in the product of two polynomials that are given by theirs
  abbrev pub product_at : (ℕ → A) → (ℕ → A) → ℕ → A
  product_at f g zero = R.times (f 0) (g 0)
  product_at f g (suc k) = R.plus (R.times (f 0) (g (suc k))) (product_at (λ i. f (suc i)) g k)

module _ {A : Type 0} (R : Ops A) (L : Laws R) where
  plus_at : (f g : List A) (k : ℕ) → get_or (plus R f g) k R.zero ≡ R.plus (get_or f k R.zero) (get_or g k R.zero)
  plus_at [] g k = sym (zero_plus R L _)
  plus_at (c ∷ f) [] k = sym (L.plus_zero _)
  plus_at (c ∷ f) (d ∷ g) zero = refl
  plus_at (c ∷ f) (d ∷ g) (suc k) = plus_at f g k

  scaled_at : (c : A) (g : List A) (k : ℕ) → get_or (scaled R c g) k R.zero ≡ R.times c (get_or g k R.zero)
  scaled_at c [] k = sym (times_zero R L c)
  scaled_at c (d ∷ g) zero = refl
  scaled_at c (d ∷ g) (suc k) = scaled_at c g k

  -- exponents modulo n + 1, less the coefficient of X^n, of a product of n coefficients by n
  pub reduced_product_at : (n : ℕ) (f : List A) (i : ℕ) → length f ≤ n + n → i < n
      → reduced R n f i ≡ R.minus (R.plus (get_or f i R.zero) (get_or f (suc n + i) R.zero)) (get_or f n R.zero)
  reduced_product_at n f i long h =
      ap₂ R.minus (folded_twice R L (suc n) i f (omega arith) (omega arith))
      (folded_twice R L (suc n) n f (omega arith) (omega arith)
      ∙ ap (R.plus (get_or f n R.zero)) (get_or_past f (suc n + n) R.zero (omega arith)) ∙ L.plus_zero _)

  pub times_at : (f g : List A) (k : ℕ)
      → get_or (times R f g) k R.zero ≡ product_at R (λ i. get_or f i R.zero) (λ i. get_or g i R.zero) k
  times_at [] g k = sym (none k)
    where
      none : (j : ℕ) → product_at R (λ i. R.zero) (λ i. get_or g i R.zero) j ≡ R.zero
      none zero = zero_times R L _
      none (suc j) = ap₂ R.plus (zero_times R L _) (none j) ∙ L.plus_zero R.zero
  times_at (c ∷ f) g zero = plus_at (scaled R c g) (R.zero ∷ times R f g) zero ∙ L.plus_zero _ ∙ scaled_at c g zero
  times_at (c ∷ f) g (suc k) =
      plus_at (scaled R c g) (R.zero ∷ times R f g) (suc k) ∙ ap₂ R.plus (scaled_at c g (suc k)) (times_at f g k)
