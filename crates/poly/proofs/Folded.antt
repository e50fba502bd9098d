-- From the coefficients of a product modulo 2^16 to the product of two elements. Assumes nothing.
use Rattle.std.proofs.Common.{◌≡◌, ℕ, zero, suc, ◌+◌, ◌-◌, ◌*◌, ◌%◌, ◌<◌, ◌≤◌, List, [], ◌∷◌, map, length, get_or, sym, refl, ap, ◌∙◌, ap₂, arith}
use Rattle.std.proofs.Math.Nat.{mod-add-mod}
use Rattle.std.proofs.lemmas.List.{length-map}
use Rattle.quotient.proofs.Coefficients.{product_at, length_times, times_at, reduced_product_at}
use Rattle.quotient.specs.Polynomials.{times}
use Rattle.poly.specs.Elements.{coefficient, poly, listing, ops}
use Rattle.poly.specs.Integers.{Z, of, integers, same_number, of_plus, of_times, integer_laws}
use Rattle.poly.specs.Lanes.{conv, folded_at}
use Rattle.poly.specs.Lists.{at}
use Rattle.poly.specs.Modulus.{modulus}
use Rattle.poly.specs.Quotient.{poly_at, same_reduction}
use Rattle.poly.specs.declared.elements.Poly.{Poly}
use Rattle.poly.proofs.Exact.{Bounds, one_exact, two_exact}

-- sums of products modulo m
of_conv : (m : ℕ) (f g : ℕ → ℕ) (k : ℕ) → of m (conv f g k) ≡ product_at (integers m) (λ i. of m (f i)) (λ i. of m (g i)) k
of_conv m f g zero = of_times m (f 0) (g 0)
of_conv m f g (suc k) =
    of_plus m (f 0 * g (suc k)) (conv (λ i. f (suc i)) g k)
    ∙ ap₂ (integers m).plus (of_times m (f 0) (g (suc k))) (of_conv m (λ i. f (suc i)) g k)

of_at : (m : ℕ) (xs : List ℕ) (i : ℕ) → get_or (map (of m) xs) i (of m 0) ≡ of m (at xs i)
of_at m [] i = refl
of_at m (x ∷ xs) zero = refl
of_at m (x ∷ xs) (suc i) = of_at m xs i

module _ (n m : ℕ) (s : Bounds n m) (x y : Poly n m) where
  product_of : List (Z m)
  product_of = times (integers m) (listing x) (listing y)

  coefficient_of : (k : ℕ) → get_or product_of k (integers m).zero ≡ of m (conv (coefficient x) (coefficient y) k)
  unfolding product_of
  coefficient_of k =
      times_at (integers m) (integer_laws m) (listing x) (listing y) k
      ∙ ap₂ (λ f g. product_at (integers m) f g k) (λ t i. of_at m x.coeffs i t) (λ t i. of_at m y.coeffs i t)
      ∙ sym (of_conv m (coefficient x) (coefficient y) k)

  -- the folded coefficients of the product are those of the product of elements
  pub folded_product : (xs : List ℕ) → ((k : ℕ) → k < n + n + 1 → at xs k ≡ conv (coefficient x) (coefficient y) k % 65536)
      → poly n m (folded_at n m xs) ≡ (ops n m).times x y
  unfolding product_of
  folded_product xs sums =
      let c = conv (coefficient x) (coefficient y) in
      let small = s.at_most in
      let long : length product_of ≤ n + n =
      omega (arith, length_times (integers m) (listing x) (listing y), length-map x.coeffs (of m), length-map y.coeffs (of m), x.long, y.long) in
      same_reduction n m (poly n m (folded_at n m xs)) product_of (λ i h.
      let two : ((at xs i + at xs (i + n + 1)) % 65536) % modulus m ≡ (c i + c (suc n + i)) % modulus m =
      ap₂ (λ a b. (a + b) % 65536 % modulus m) (sums i (omega arith)) (sums (i + n + 1) (omega arith) ∙ ap (λ k. c k % 65536) (omega arith))
      ∙ two_exact n m s (coefficient x) (coefficient y) x.small y.small i (suc n + i) (omega arith) (omega arith) in
      let top : at xs n % modulus m ≡ c n % modulus m =
      ap (λ a. a % modulus m) (sums n (omega arith)) ∙ one_exact n m s (coefficient x) (coefficient y) x.small y.small n (omega arith) in
      same_number _ _ (poly_at n m (folded_at n m xs) i h ∙ sym (mod-add-mod _ (modulus m) _) ∙ ap₂ (λ a b. (a + (modulus m - b)) % modulus m) two top)
      ∙ sym (reduced_product_at (integers m) (integer_laws m) n product_of i long h
      ∙ ap₂ (integers m).minus (ap₂ (integers m).plus (coefficient_of i) (coefficient_of (suc n + i)) ∙ sym (of_plus m (c i) (c (suc n + i)))) (coefficient_of n)))
