-- That reduced coefficients are the ring of polynomials modulo 1 + X + ... + X^n. Assumes nothing.
use Rattle.std.proofs.Common.{◌≡◌, ℕ, zero, suc, ◌%◌, ◌<◌, ◌≤◌, cond, eqb, List, [], ◌∷◌, length, get_or, sym, ap, ◌∙◌, ap₂, arith}
use native.Mathlib.Nat.{zero-mod}
use Rattle.std.proofs.lemmas.List.{get_or_past, get_or-replicate, length-replicate}
use Rattle.std.proofs.lemmas.Bool.{ne_eqb, eq-eqb}
use Rattle.kinds.specs.Ring.{Ops, Laws}
use Rattle.quotient.proofs.Acting.{turned, act, act_plus, act_sum, act_comm, act_product, act_below, turned_below, turned_none}
use Rattle.quotient.proofs.Folding.{folded_next, folded_wrap, folded_sum, folded_once}
use Rattle.quotient.specs.Polynomials.{plus, times, phi}
use Rattle.quotient.specs.Reduction.{folded_from, folded, reduced}
use Rattle.quotient.proofs.Rings.{minus_self, minus_zero, minus_sums, minus_both, times_zero}

module _ {A : Type 0} (R : Ops A) where
  -- the coefficients of 1
  abbrev pub unit : ℕ → A
  unit zero = R.one
  unit (suc i) = R.zero

  -- u has the coefficients of f reduced
  pub record Reduces (n : ℕ) (f u : List A) : Type 0 where
    pub long : length u ≤ n
    pub same : (i : ℕ) → i < n → get_or u i R.zero ≡ reduced R n f i

module _ {A : Type 0} (R : Ops A) (L : Laws R) where
  -- reduction step by step: of c + X f
  reduced_step : (p : ℕ) (c : A) (f : List A) (i : ℕ) → i < suc p
      → reduced R (suc p) (c ∷ f) i ≡ R.plus (R.times c (unit R i)) (turned R p (reduced R (suc p) f) i)
  reduced_step p c f i h =
      ap (R.minus (folded R (suc (suc p)) (c ∷ f) i))
      (ap₂ (λ t d. R.plus (cond t c R.zero) d) (ne_eqb (0 % suc (suc p)) (suc p) (λ e. absurd (omega (arith, e, zero-mod (suc (suc p))))))
      (folded_next R (suc p) 0 f p (omega arith)))
      ∙ sym (minus_sums R L _ _ R.zero (folded R (suc (suc p)) f p))
      ∙ ap₂ R.plus (minus_zero R L _ ∙ constant i) (moved i h)
    where
      constant : (k : ℕ) → cond (eqb (0 % suc (suc p)) k) c R.zero ≡ R.times c (unit R k)
      constant zero = ap (λ t. cond t c R.zero) (eq-eqb _ 0 (zero-mod (suc (suc p)))) ∙ sym (L.times_one c)
      constant (suc k) =
          ap (λ t. cond t c R.zero) (ne_eqb (0 % suc (suc p)) (suc k) (λ e. absurd (omega (arith, e, zero-mod (suc (suc p)))))) ∙ sym (times_zero R L c)

      moved : (k : ℕ) → k < suc p
          → R.minus (folded_from R (suc (suc p)) 1 f k) (folded R (suc (suc p)) f p) ≡ turned R p (reduced R (suc p) f) k
      moved zero z =
          let top = folded R (suc (suc p)) f (suc p) in
          ap (λ d. R.minus d (folded R (suc (suc p)) f p)) (folded_wrap R (suc p) 0 f)
          ∙ sym (minus_both R L top (folded R (suc (suc p)) f p) top)
          ∙ ap (λ d. R.minus d (R.minus (folded R (suc (suc p)) f p) top)) (minus_self R L top)
      moved (suc k) z =
          let top = folded R (suc (suc p)) f (suc p) in
          ap (λ d. R.minus d (folded R (suc (suc p)) f p)) (folded_next R (suc p) 0 f k (omega arith))
          ∙ sym (minus_both R L (folded R (suc (suc p)) f k) (folded R (suc (suc p)) f p) top)

  -- so it is the operator of f at 1
  reduced_act : (p : ℕ) (f : List A) (i : ℕ) → i < suc p → reduced R (suc p) f i ≡ act R p f (unit R) i
  reduced_act p [] i h = minus_self R L R.zero
  reduced_act p (c ∷ f) i h =
      reduced_step p c f i h
      ∙ ap (R.plus (R.times c (unit R i))) (turned_below R L p (reduced R (suc p) f) (act R p f (unit R)) (reduced_act p f) i h)

  reduced_product : (p : ℕ) (f g : List A) (i : ℕ) → i < suc p → reduced R (suc p) (times R f g) i ≡ act R p f (act R p g (unit R)) i
  reduced_product p f g i h = reduced_act p (times R f g) i h ∙ act_product R L p f g (unit R) i

  -- what has at most n coefficients is its own reduction
  pub own : (n : ℕ) (u : List A) (i : ℕ) → length u ≤ n → i < n → reduced R n u i ≡ get_or u i R.zero
  own n u i long h =
      ap₂ R.minus (folded_once R L (suc n) i u (omega arith) (omega arith))
      (folded_once R L (suc n) n u (omega arith) (omega arith) ∙ get_or_past u n R.zero long) ∙ minus_zero R L _

  -- 1 + X + ... + X^n is reduced to nothing
  pub reduced_phi : (n i : ℕ) → i < n → reduced R n (phi R n) i ≡ R.zero
  reduced_phi n i h = ap₂ R.minus (ones i (omega arith)) (ones n (omega arith)) ∙ minus_self R L R.one
    where
      ones : (k : ℕ) → k < suc n → folded R (suc n) (phi R n) k ≡ R.one
      ones k z =
          folded_once R L (suc n) k (phi R n) (omega (arith, length-replicate (suc n) R.one)) z
          ∙ get_or-replicate (suc n) k R.one R.zero z

  pub reduced_sum : (n : ℕ) (f g : List A) (i : ℕ) → reduced R n (plus R f g) i ≡ R.plus (reduced R n f i) (reduced R n g i)
  reduced_sum n f g i =
      ap₂ R.minus (folded_sum R L (suc n) 0 f g i) (folded_sum R L (suc n) 0 f g n) ∙ sym (minus_sums R L _ _ _ _)

  -- the laws of a product, reduced
  pub product_comm : (n : ℕ) (f g : List A) (i : ℕ) → i < n → reduced R n (times R f g) i ≡ reduced R n (times R g f) i
  product_comm zero f g i h = absurd (omega arith)
  product_comm (suc p) f g i h = reduced_product p f g i h ∙ act_comm R L p f g (unit R) i ∙ sym (reduced_product p g f i h)

  pub product_assoc : (n : ℕ) (f g h : List A) (i : ℕ) → i < n
      → reduced R n (times R (times R f g) h) i ≡ reduced R n (times R f (times R g h)) i
  product_assoc zero f g h i z = absurd (omega arith)
  product_assoc (suc p) f g h i z =
      reduced_product p (times R f g) h i z ∙ act_product R L p f g (act R p h (unit R)) i
      ∙ sym (reduced_product p f (times R g h) i z ∙ ap (λ e. act R p f e i) (λ t k. act_product R L p g h (unit R) k t))

  pub product_one : (n : ℕ) (f : List A) (i : ℕ) → i < n → reduced R n (times R f (R.one ∷ [])) i ≡ reduced R n f i
  product_one zero f i h = absurd (omega arith)
  product_one (suc p) f i h =
      reduced_product p f (R.one ∷ []) i h ∙ ap (λ e. act R p f e i) (λ t k. once k t) ∙ sym (reduced_act p f i h)
    where
      once : (k : ℕ) → act R p (R.one ∷ []) (unit R) k ≡ unit R k
      once k =
          ap₂ R.plus (L.times_comm R.one (unit R k) ∙ L.times_one (unit R k)) (turned_none R L p k) ∙ L.plus_zero (unit R k)

  pub product_plus : (n : ℕ) (f g h : List A) (i : ℕ) → i < n
      → reduced R n (times R f (plus R g h)) i ≡ R.plus (reduced R n (times R f g) i) (reduced R n (times R f h) i)
  product_plus zero f g h i z = absurd (omega arith)
  product_plus (suc p) f g h i z =
      reduced_product p f (plus R g h) i z
      ∙ ap (λ e. act R p f e i) (λ t k. act_sum R L p g h (unit R) k t)
      ∙ act_plus R L p f (act R p g (unit R)) (act R p h (unit R)) i
      ∙ sym (ap₂ R.plus (reduced_product p f g i z) (reduced_product p f h i z))

  -- and factors may be reduced first
  act_reduced : (p : ℕ) (f u : List A) → Reduces R (suc p) f u → (i : ℕ) → i < suc p → act R p u (unit R) i ≡ act R p f (unit R) i
  act_reduced p f u r i h =
      sym (reduced_act p u i h) ∙ own (suc p) u i r.long h ∙ r.same i h ∙ reduced_act p f i h

  pub product_reduced : (n : ℕ) (f g u v : List A) → Reduces R n f u → Reduces R n g v
      → (i : ℕ) → i < n → reduced R n (times R f g) i ≡ reduced R n (times R u v) i
  product_reduced zero f g u v r s i h = absurd (omega arith)
  product_reduced (suc p) f g u v r s i h =
      reduced_product p f g i h
      ∙ act_comm R L p f g (unit R) i
      ∙ act_below R L p g _ _ (λ k z. sym (act_reduced p f u r k z)) i h
      ∙ act_comm R L p g u (unit R) i
      ∙ act_below R L p u _ _ (λ k z. sym (act_reduced p g v s k z)) i h
      ∙ sym (reduced_product p u v i h)
