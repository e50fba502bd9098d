-- That the elements are the ring of polynomials modulo 1 + X + ... + X^n and m. Assumes nothing.
use Rattle.std.specs.Prelude.{◌≡◌, ℕ, zero, suc, ◌%◌, ◌<◌, List, [], ◌∷◌, length, slice_index, slice_index_or}
use Rattle.std.proofs.Common.{sym, ap, ap₂, ◌∙◌, arith}
use mathlib.Core.HLevel.{is_prop→PathP, Π_prop}
use Rattle.std.proofs.Math.Bridge.{le_prop}
use Rattle.std.proofs.Math.Nat.{ℕ_set, mod-eq_of_lt}
use Rattle.std.proofs.lemmas.List.{ext_get_or, length-map, get_or-map}
use Rattle.quotient.specs.Polynomials.{plus, times, phi}
use Rattle.quotient.proofs.Quotients.{Reduces, own, reduced_sum, reduced_phi, product_reduced}
use Rattle.quotient.specs.Reduction.{reduced}
use Rattle.poly.specs.Elements.{coefficient, poly, reduction, listing, sum_at, ops}
use Rattle.poly.specs.Integers.{Z, of, integers, same_number, own_number, integer_laws}
use Rattle.poly.specs.Modulus.{modulus}
use Rattle.poly.specs.Reduced.{reduced_at}
use Rattle.poly.specs.Lists.{at}
use Rattle.poly.specs.declared.elements.Poly.{Poly}

-- Reducing polynomials of any degree over the integers modulo m respects sums and products, sends 1 + X + ... + X^n to
-- zero and 1 to one, and leaves every element as it is.
pub record Quotient (n m : ℕ) : Type 0 where
  pub sums : (f g : List (Z m)) → reduction n m (plus (integers m) f g) ≡ (ops n m).plus (reduction n m f) (reduction n m g)
  pub products : (f g : List (Z m)) → reduction n m (times (integers m) f g) ≡ (ops n m).times (reduction n m f) (reduction n m g)
  pub to_zero : reduction n m (phi (integers m) n) ≡ (ops n m).zero
  pub to_one : reduction n m ((integers m).one ∷ []) ≡ (ops n m).one
  pub to_itself : (x : Poly n m) → reduction n m (listing x) ≡ x

module _ {n m : ℕ} where
  -- elements with the same coefficients are the same
  same_coeffs : (x y : Poly n m) → x.coeffs ≡ y.coeffs → x ≡ y
  same_coeffs x y e = λ i. record {
    coeffs = e i;
    long = is_prop→PathP (λ j. length (e j) ≡ n) (λ j. ℕ_set _ _) x.long y.long i;
    small = is_prop→PathP (λ j. (k : ℕ) → slice_index (e j) k < modulus m) (λ j. Π_prop (λ k. le_prop)) x.small y.small i;
  }

  pub same_at : (x y : Poly n m) → ((i : ℕ) → i < n → coefficient x i ≡ coefficient y i) → x ≡ y
  same_at x y e =
      same_coeffs x y (ext_get_or 0 x.coeffs y.coeffs (x.long ∙ sym y.long) (λ i h. e i (omega (arith, x.long))))

  -- a coefficient as an integer modulo m
  abbrev pub integer_at : Poly n m → ℕ → Z m
  integer_at x i = record { number = coefficient x i; small = x.small i }

  -- an element as a polynomial has its coefficients
  listing_long : (x : Poly n m) → length (listing x) ≡ n
  listing_long x = length-map x.coeffs (of m) ∙ x.long

  listing_at : (x : Poly n m) (i : ℕ) → i < n → slice_index_or (listing x) i (integers m).zero ≡ integer_at x i
  listing_at x i h = get_or-map (of m) x.coeffs i 0 (integers m).zero (omega (arith, x.long)) ∙ own_number (integer_at x i)

module _ (n m : ℕ) where
  pub poly_at : (f : ℕ → ℕ) (i : ℕ) → i < n → coefficient (poly n m f) i ≡ f i % modulus m
  unfolding poly
  poly_at f i h = reduced_at n m f i h

  -- what has the coefficients f modulo m is their polynomial
  pub same_poly : (x : Poly n m) (f : ℕ → ℕ) → ((i : ℕ) → i < n → coefficient x i ≡ f i % modulus m) → x ≡ poly n m f
  same_poly x f e = same_at x (poly n m f) (λ i h. e i h ∙ sym (poly_at f i h))

  -- the coefficients of a reduction
  pub reduction_at : (f : List (Z m)) (i : ℕ) → i < n → integer_at (reduction n m f) i ≡ reduced (integers m) n f i
  unfolding reduction
  reduction_at f i h =
      same_number _ _ (poly_at (λ k. (reduced (integers m) n f k).number) i h ∙ mod-eq_of_lt (reduced (integers m) n f i).small)

  -- what has them is the reduction
  pub same_reduction : (x : Poly n m) (f : List (Z m)) → ((i : ℕ) → i < n → integer_at x i ≡ reduced (integers m) n f i) → x ≡ reduction n m f
  same_reduction x f e = same_at x (reduction n m f) (λ i h. ap (λ z. z.number) (e i h ∙ sym (reduction_at f i h)))

  pub same_reductions : (f g : List (Z m)) → ((i : ℕ) → i < n → reduced (integers m) n f i ≡ reduced (integers m) n g i)
      → reduction n m f ≡ reduction n m g
  same_reductions f g e = same_reduction (reduction n m f) g (λ i h. reduction_at f i h ∙ e i h)

  reduces : (f : List (Z m)) → Reduces (integers m) n f (listing (reduction n m f))
  reduces f = record {
    long = omega (arith, listing_long (reduction n m f));
    same = λ i h. listing_at (reduction n m f) i h ∙ reduction_at f i h;
  }

  unit_at : (i : ℕ) → i < n → integer_at (ops n m).one i ≡ slice_index_or ((integers m).one ∷ []) i (integers m).zero
  unit_at zero h = same_number _ _ (poly_at (at (1 ∷ [])) 0 h)
  unit_at (suc i) h = same_number _ _ (poly_at (at (1 ∷ [])) (suc i) h)

  pub quotient : Quotient n m
  quotient = record {
    sums = λ f g. sym (same_reduction ((ops n m).plus (reduction n m f) (reduction n m g)) (plus (integers m) f g) (λ i h.
        same_number _ _ (poly_at (sum_at (reduction n m f) (reduction n m g)) i h)
        ∙ ap₂ (integers m).plus (reduction_at f i h) (reduction_at g i h)
        ∙ sym (reduced_sum (integers m) (integer_laws m) n f g i)));
    products = λ f g. same_reductions (times (integers m) f g) _
        (product_reduced (integers m) (integer_laws m) n f g _ _ (reduces f) (reduces g));
    to_zero = sym (same_reduction (ops n m).zero (phi (integers m) n) (λ i h.
        same_number _ _ (poly_at (λ k. 0) i h) ∙ sym (reduced_phi (integers m) (integer_laws m) n i h)));
    to_one = sym (same_reduction (ops n m).one ((integers m).one ∷ []) (λ i h.
        unit_at i h ∙ sym (own (integers m) (integer_laws m) n ((integers m).one ∷ []) i (omega arith) h)));
    to_itself = λ x. sym (same_reduction x (listing x) (λ i h.
        sym (own (integers m) (integer_laws m) n (listing x) i (omega (arith, listing_long x)) h ∙ listing_at x i h)));
  }
