-- Polynomials as operators on n = p + 1 coefficients, X as multiplication by X modulo 1 + X + ... + X^n. Assumes nothing.
use Rattle.std.proofs.Common.{◌≡◌, ℕ, zero, suc, ◌<◌, List, [], ◌∷◌, sym, refl, ap, ◌∙◌, ap₂, arith}
use Rattle.kinds.specs.Ring.{Ops, Laws}
use Rattle.quotient.specs.Polynomials.{plus, scaled, times}
use Rattle.quotient.proofs.Rings.{zero_plus, minus_self, minus_sums, swap, times_zero, zero_times, times_minus, times_swap}

module _ {A : Type 0} (R : Ops A) (p : ℕ) where
  -- X times e: each coefficient moves up, and X^n = -(1 + X + ... + X^p)
  abbrev pub turned : (ℕ → A) → ℕ → A
  turned e zero = R.minus R.zero (e p)
  turned e (suc i) = R.minus (e i) (e p)

  -- f times e
  abbrev pub act : List A → (ℕ → A) → ℕ → A
  act [] e i = R.zero
  act (c ∷ f) e i = R.plus (R.times c (e i)) (turned (act f e) i)

module _ {A : Type 0} (R : Ops A) (L : Laws R) (p : ℕ) where
  turned_plus : (e d : ℕ → A) (i : ℕ) → turned R p (λ k. R.plus (e k) (d k)) i ≡ R.plus (turned R p e i) (turned R p d i)
  turned_plus e d zero =
      ap (λ z. R.minus z (R.plus (e p) (d p))) (sym (L.plus_zero R.zero)) ∙ sym (minus_sums R L R.zero R.zero (e p) (d p))
  turned_plus e d (suc i) = sym (minus_sums R L (e i) (d i) (e p) (d p))

  turned_times : (c : A) (e : ℕ → A) (i : ℕ) → turned R p (λ k. R.times c (e k)) i ≡ R.times c (turned R p e i)
  turned_times c e zero =
      ap (λ z. R.minus z (R.times c (e p))) (sym (times_zero R L c)) ∙ sym (times_minus R L c R.zero (e p))
  turned_times c e (suc i) = sym (times_minus R L c (e i) (e p))

  pub turned_none : (i : ℕ) → turned R p (λ k. R.zero) i ≡ R.zero
  turned_none zero = minus_self R L R.zero
  turned_none (suc i) = minus_self R L R.zero

  -- an operator is linear
  act_none : (f : List A) (i : ℕ) → act R p f (λ k. R.zero) i ≡ R.zero
  act_none [] i = refl
  act_none (c ∷ f) i =
      ap₂ R.plus (times_zero R L c) (ap (λ e. turned R p e i) (λ t k. act_none f k t) ∙ turned_none i) ∙ L.plus_zero R.zero

  pub act_plus : (f : List A) (e d : ℕ → A) (i : ℕ) → act R p f (λ k. R.plus (e k) (d k)) i ≡ R.plus (act R p f e i) (act R p f d i)
  act_plus [] e d i = sym (L.plus_zero R.zero)
  act_plus (c ∷ f) e d i =
      ap₂ R.plus (L.times_plus c (e i) (d i))
      (ap (λ g. turned R p g i) (λ t k. act_plus f e d k t) ∙ turned_plus (act R p f e) (act R p f d) i)
      ∙ swap R L (R.times c (e i)) (R.times c (d i)) (turned R p (act R p f e) i) (turned R p (act R p f d) i)

  act_scaled : (f : List A) (c : A) (e : ℕ → A) (i : ℕ) → act R p f (λ k. R.times c (e k)) i ≡ R.times c (act R p f e i)
  act_scaled [] c e i = sym (times_zero R L c)
  act_scaled (d ∷ f) c e i =
      ap₂ R.plus (times_swap R L d c (e i))
      (ap (λ g. turned R p g i) (λ t k. act_scaled f c e k t) ∙ turned_times c (act R p f e) i)
      ∙ sym (L.times_plus c (R.times d (e i)) (turned R p (act R p f e) i))

  -- and X commutes with it
  act_turned : (f : List A) (e : ℕ → A) (i : ℕ) → act R p f (turned R p e) i ≡ turned R p (act R p f e) i
  act_turned [] e i = sym (turned_none i)
  act_turned (c ∷ f) e i =
      ap₂ R.plus (sym (turned_times c e i)) (ap (λ g. turned R p g i) (λ t k. act_turned f e k t))
      ∙ sym (turned_plus (λ k. R.times c (e k)) (turned R p (act R p f e)) i)

  -- so two operators commute
  pub act_comm : (f g : List A) (e : ℕ → A) (i : ℕ) → act R p f (act R p g e) i ≡ act R p g (act R p f e) i
  act_comm [] g e i = sym (act_none g i)
  act_comm (c ∷ f) g e i =
      ap₂ R.plus (sym (act_scaled g c e i))
      (ap (λ d. turned R p d i) (λ t k. act_comm f g e k t) ∙ sym (act_turned g (act R p f e) i))
      ∙ sym (act_plus g (λ k. R.times c (e k)) (turned R p (act R p f e)) i)

  -- the operator of a sum, of a multiple and of a product
  pub act_sum : (f g : List A) (e : ℕ → A) (i : ℕ) → act R p (plus R f g) e i ≡ R.plus (act R p f e i) (act R p g e i)
  act_sum [] g e i = sym (zero_plus R L (act R p g e i))
  act_sum (c ∷ f) [] e i = sym (L.plus_zero (act R p (c ∷ f) e i))
  act_sum (c ∷ f) (d ∷ g) e i =
      ap₂ R.plus (plus_times c d (e i))
      (ap (λ h. turned R p h i) (λ t k. act_sum f g e k t) ∙ turned_plus (act R p f e) (act R p g e) i)
      ∙ swap R L (R.times c (e i)) (R.times d (e i)) (turned R p (act R p f e) i) (turned R p (act R p g e) i)
    where
      plus_times : (x y z : A) → R.times (R.plus x y) z ≡ R.plus (R.times x z) (R.times y z)
      plus_times x y z =
          L.times_comm (R.plus x y) z ∙ L.times_plus z x y ∙ ap₂ R.plus (L.times_comm z x) (L.times_comm z y)

  act_multiple : (c : A) (g : List A) (e : ℕ → A) (i : ℕ) → act R p (scaled R c g) e i ≡ R.times c (act R p g e i)
  act_multiple c [] e i = sym (times_zero R L c)
  act_multiple c (d ∷ g) e i =
      ap₂ R.plus (L.times_assoc c d (e i))
      (ap (λ h. turned R p h i) (λ t k. act_multiple c g e k t) ∙ turned_times c (act R p g e) i)
      ∙ sym (L.times_plus c (R.times d (e i)) (turned R p (act R p g e) i))

  pub act_product : (f g : List A) (e : ℕ → A) (i : ℕ) → act R p (times R f g) e i ≡ act R p f (act R p g e) i
  act_product [] g e i = refl
  act_product (c ∷ f) g e i =
      act_sum (scaled R c g) (R.zero ∷ times R f g) e i
      ∙ ap₂ R.plus (act_multiple c g e i)
      (ap₂ R.plus (zero_times R L (e i)) (ap (λ h. turned R p h i) (λ t k. act_product f g e k t)) ∙ zero_plus R L _)

  -- only the first n coefficients matter
  pub turned_below : (e d : ℕ → A) → ((i : ℕ) → i < suc p → e i ≡ d i) → (i : ℕ) → i < suc p → turned R p e i ≡ turned R p d i
  turned_below e d same zero h = ap (R.minus R.zero) (same p (omega arith))
  turned_below e d same (suc i) h = ap₂ R.minus (same i (omega arith)) (same p (omega arith))

  pub act_below : (f : List A) (e d : ℕ → A) → ((i : ℕ) → i < suc p → e i ≡ d i) → (i : ℕ) → i < suc p → act R p f e i ≡ act R p f d i
  act_below [] e d same i h = refl
  act_below (c ∷ f) e d same i h =
      ap₂ R.plus (ap (R.times c) (same i h)) (turned_below (act R p f e) (act R p f d) (act_below f e d same) i h)
