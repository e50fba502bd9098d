-- That polynomials keep the laws of a kind, for every n and m. Assumes nothing.
use Rattle.std.specs.Prelude.{◌≡◌, ℕ, ◌+◌, ◌-◌, ◌%◌, ◌<◌, [], ◌∷◌, length}
use Rattle.std.proofs.Common.{sym, ap, ap₂, ◌∙◌, add_comm, add-zero, mod-eq_of_lt, arith}
use Rattle.std.proofs.Math.Nat.{zero-mod}
use Rattle.std.proofs.lemmas.List.{ext_get_or}
use Rattle.kinds.specs.Ring.{Laws}
use Rattle.kinds.specs.Words.{Codes}
use Rattle.quotient.specs.Polynomials.{plus, times}
use Rattle.quotient.proofs.Quotients.{product_comm, product_assoc, product_one, product_plus, reduced_sum}
use Rattle.poly.specs.Elements.{coefficient, poly, listing, sum_at, difference_at, ops, coding}
use Rattle.poly.specs.Integers.{integers, integer_laws, added_taken, taken_added, assoc_mod}
use Rattle.poly.specs.Lists.{at}
use Rattle.poly.specs.Modulus.{modulus}
use Rattle.poly.specs.Quotient.{poly_at, same_poly, same_reductions, quotient}
use Rattle.poly.specs.declared.elements.Poly.{Poly}

module _ {n m : ℕ} where
  -- a coefficient is its own remainder
  own : (x : Poly n m) (i : ℕ) → coefficient x i % modulus m ≡ coefficient x i
  own x i = mod-eq_of_lt (x.small i)

module _ (n m : ℕ) where
  -- and so for two that are made of others
  same_polys : (f g : ℕ → ℕ) → ((i : ℕ) → i < n → f i % modulus m ≡ g i % modulus m) → poly n m f ≡ poly n m g
  same_polys f g e = same_poly n m (poly n m f) g (λ i h. poly_at n m f i h ∙ e i h)

pub laws : (n m : ℕ) → Laws (ops n m)
laws n m =
    let sum : (x y : Poly n m) (i : ℕ) → i < n → coefficient ((ops n m).plus x y) i ≡ (coefficient x i + coefficient y i) % modulus m =
    λ x y. poly_at n m (sum_at x y) in
    let difference : (x y : Poly n m) (i : ℕ) → i < n → coefficient ((ops n m).minus x y) i ≡ (coefficient x i + (modulus m - coefficient y i)) % modulus m =
    λ x y. poly_at n m (difference_at x y) in
    let R = integers m in
    let L = integer_laws m in
    let itself = (quotient n m).to_itself in
    let products = (quotient n m).products in
    record {
      plus_assoc = λ x y z. same_polys n m _ _ (λ i h.
          ap (λ c. (c + coefficient z i) % modulus m) (sum x y i h)
          ∙ assoc_mod (coefficient x i) (coefficient y i) (coefficient z i) (modulus m)
          ∙ ap (λ c. (coefficient x i + c) % modulus m) (sym (sum y z i h)));
      plus_comm = λ x y. same_polys n m _ _ (λ i h. ap (λ c. c % modulus m) (add_comm (coefficient x i) (coefficient y i)));
      plus_zero = λ x. sym (same_poly n m x _ (λ i h.
          let none : coefficient (ops n m).zero i ≡ 0 = poly_at n m (λ j. 0) i h ∙ zero-mod (modulus m) in
          sym (ap (λ c. (coefficient x i + c) % modulus m) none ∙ ap (λ c. c % modulus m) (add-zero (coefficient x i)) ∙ own x i)));
      plus_minus = λ x y. sym (same_poly n m x _ (λ i h.
          sym (ap (λ c. (c + (modulus m - coefficient y i)) % modulus m) (sum x y i h)
          ∙ added_taken (coefficient x i) (coefficient y i) (modulus m) (x.small i) (y.small i))));
      minus_plus = λ x y. sym (same_poly n m x _ (λ i h.
          sym (ap (λ c. (c + coefficient y i) % modulus m) (difference x y i h)
          ∙ taken_added (coefficient x i) (coefficient y i) (modulus m) (x.small i) (y.small i))));
      times_assoc = λ x y z.
          ap ((ops n m).times ((ops n m).times x y)) (sym (itself z))
          ∙ sym (products (times R (listing x) (listing y)) (listing z))
          ∙ same_reductions n m _ _ (product_assoc R L n (listing x) (listing y) (listing z))
          ∙ products (listing x) (times R (listing y) (listing z))
          ∙ ap (λ u. (ops n m).times u ((ops n m).times y z)) (itself x);
      times_comm = λ x y. same_reductions n m _ _ (product_comm R L n (listing x) (listing y));
      times_one = λ x.
          ap₂ (ops n m).times (sym (itself x)) (sym (quotient n m).to_one)
          ∙ sym (products (listing x) (R.one ∷ []))
          ∙ same_reductions n m _ _ (product_one R L n (listing x)) ∙ itself x;
      times_plus = λ x y z.
          ap₂ (ops n m).times (sym (itself x)) (sym (ap₂ (ops n m).plus (itself y) (itself z)) ∙ sym ((quotient n m).sums (listing y) (listing z)))
          ∙ sym (products (listing x) (plus R (listing y) (listing z)))
          ∙ same_reductions n m _ (plus R (times R (listing x) (listing y)) (times R (listing x) (listing z))) (λ i h.
          product_plus R L n (listing x) (listing y) (listing z) i h ∙ sym (reduced_sum R L n _ _ i))
          ∙ (quotient n m).sums (times R (listing x) (listing y)) (times R (listing x) (listing z));
    }

pub codes : (n m : ℕ) → Codes (coding n m)
codes n m = record {
  readable = λ x. record { counted = omega (arith, x.long); small = λ i h. x.small i };
  element_words = λ x. sym (same_poly n m x (coefficient x) (λ i h. sym (own x i)));
  words_element = λ ws good.
      let long : length ws ≡ n = omega (arith, good.counted) in
      let x = poly n m (at ws) in
      ext_get_or 0 x.coeffs ws (x.long ∙ sym long) (λ i h.
      let below : i < n = omega (arith, x.long) in
      poly_at n m (at ws) i below ∙ mod-eq_of_lt (good.small i (omega (arith, long))));
}
