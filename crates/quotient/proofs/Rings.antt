-- What follows from the laws of a commutative ring. Assumes nothing.
use Rattle.std.proofs.Common.{◌≡◌, sym, ap, ◌∙◌, ap₂}
use Rattle.kinds.specs.Ring.{Ops, Laws}

module _ {A : Type 0} (R : Ops A) (L : Laws R) where
  -- a difference is the only solution of an equation
  pub is_minus : (x a b : A) → R.plus x b ≡ a → x ≡ R.minus a b
  is_minus x a b e = sym (L.plus_minus x b) ∙ ap (λ z. R.minus z b) e

  pub zero_plus : (x : A) → R.plus R.zero x ≡ x
  zero_plus x = L.plus_comm R.zero x ∙ L.plus_zero x

  pub minus_self : (x : A) → R.minus x x ≡ R.zero
  minus_self x = sym (is_minus R.zero x x (zero_plus x))

  pub minus_zero : (x : A) → R.minus x R.zero ≡ x
  minus_zero x = sym (is_minus x x R.zero (L.plus_zero x))

  pub swap : (a b c d : A) → R.plus (R.plus a b) (R.plus c d) ≡ R.plus (R.plus a c) (R.plus b d)
  swap a b c d =
      L.plus_assoc a b (R.plus c d)
      ∙ ap (R.plus a) (sym (L.plus_assoc b c d) ∙ ap (λ z. R.plus z d) (L.plus_comm b c) ∙ L.plus_assoc c b d)
      ∙ sym (L.plus_assoc a c (R.plus b d))

  -- the difference of two sums
  pub minus_sums : (a b c d : A) → R.plus (R.minus a c) (R.minus b d) ≡ R.minus (R.plus a b) (R.plus c d)
  minus_sums a b c d =
      is_minus _ _ _ (swap (R.minus a c) (R.minus b d) c d ∙ ap₂ R.plus (L.minus_plus a c) (L.minus_plus b d))

  -- what is taken off both sides of a difference
  pub minus_both : (a b c : A) → R.minus (R.minus a c) (R.minus b c) ≡ R.minus a b
  minus_both a b c =
      sym (is_minus _ _ _ (is_minus _ _ _ (L.plus_assoc (R.minus a b) (R.minus b c) c
      ∙ ap (R.plus (R.minus a b)) (L.minus_plus b c) ∙ L.minus_plus a b)))

  pub times_zero : (x : A) → R.times x R.zero ≡ R.zero
  times_zero x =
      let z = R.times x R.zero in
      let twice : R.plus z z ≡ z = sym (L.times_plus x R.zero R.zero) ∙ ap (R.times x) (L.plus_zero R.zero) in
      is_minus z z z twice ∙ minus_self z

  pub zero_times : (x : A) → R.times R.zero x ≡ R.zero
  zero_times x = L.times_comm R.zero x ∙ times_zero x

  pub times_minus : (x a b : A) → R.times x (R.minus a b) ≡ R.minus (R.times x a) (R.times x b)
  times_minus x a b = is_minus _ _ _ (sym (L.times_plus x (R.minus a b) b) ∙ ap (R.times x) (L.minus_plus a b))

  -- two factors in front, exchanged
  pub times_swap : (x y z : A) → R.times x (R.times y z) ≡ R.times y (R.times x z)
  times_swap x y z = sym (L.times_assoc x y z) ∙ ap (λ u. R.times u z) (L.times_comm x y) ∙ L.times_assoc y x z
