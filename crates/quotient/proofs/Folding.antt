-- Exponents modulo l. Assumes nothing.
use Rattle.std.proofs.Common.{◌≡◌, ℕ, zero, suc, ◌+◌, ◌%◌, ◌<◌, ◌≤◌, Bool, true, false, cond, eqb, List, [], ◌∷◌, ◌++◌, length, get_or, take, drop, sym, refl, ap, ◌∙◌, ap₂, ⊎_elim, add-zero, mod-lt, mod-eq_of_lt, add_comm, zero-add, arith}
use native.Mathlib.Nat.{add-mod_right, suc-mod, mod_self}
use Rattle.std.proofs.lemmas.List.{get_or_past, get_or-take, get_or-drop, length-take-le, length-drop, take-append-drop}
use Rattle.std.proofs.lemmas.Bool.{cases_lt, eq-eqb, ne_eqb}
use Rattle.std.proofs.lemmas.Bool.Decides.{nat_tests}
use Rattle.kinds.specs.Ring.{Ops, Laws}
use Rattle.quotient.specs.Polynomials.{plus}
use Rattle.quotient.specs.Reduction.{folded_from, folded}
use Rattle.quotient.proofs.Rings.{zero_plus, swap}

-- one more, modulo l = n + 1: from n it goes to 0
next_mod : (n j : ℕ) → j % suc n < n → suc j % suc n ≡ suc (j % suc n)
next_mod n j h = suc-mod j (suc n) ∙ mod-eq_of_lt (omega arith)

wrap_mod : (n j : ℕ) → j % suc n ≡ n → suc j % suc n ≡ 0
wrap_mod n j h = suc-mod j (suc n) ∙ ap (λ r. suc r % suc n) h ∙ mod_self (suc n)

next_test : (n j i : ℕ) → i < n → eqb (suc j % suc n) (suc i) ≡ eqb (j % suc n) i
next_test n j i h =
    let small : j % suc n < suc n = mod-lt j (omega arith) in
    ⊎_elim (λ z. let s = next_mod n j z in grind (arith, nat_tests)) (λ z. let s = wrap_mod n j (omega arith) in grind (arith, nat_tests))
    (cases_lt (j % suc n) n)

wrap_test : (n j : ℕ) → eqb (suc j % suc n) 0 ≡ eqb (j % suc n) n
wrap_test n j =
    let small : j % suc n < suc n = mod-lt j (omega arith) in
    ⊎_elim (λ z. let s = next_mod n j z in grind (arith, nat_tests)) (λ z. let s = wrap_mod n j (omega arith) in grind (arith, nat_tests))
    (cases_lt (j % suc n) n)

module _ {A : Type 0} (R : Ops A) where
  -- a list that begins one exponent later
  pub folded_next : (n j : ℕ) (f : List A) (i : ℕ) → i < n → folded_from R (suc n) (suc j) f (suc i) ≡ folded_from R (suc n) j f i
  folded_next n j [] i h = refl
  folded_next n j (c ∷ f) i h =
      ap₂ (λ t d. R.plus (cond t c R.zero) d) (next_test n j i h) (folded_next n (suc j) f i h)

  pub folded_wrap : (n j : ℕ) (f : List A) → folded_from R (suc n) (suc j) f 0 ≡ folded_from R (suc n) j f n
  folded_wrap n j [] = refl
  folded_wrap n j (c ∷ f) = ap₂ (λ t d. R.plus (cond t c R.zero) d) (wrap_test n j) (folded_wrap n (suc j) f)

module _ {A : Type 0} (R : Ops A) (L : Laws R) where
  cond_plus : (t : Bool) (c d : A) → cond t (R.plus c d) R.zero ≡ R.plus (cond t c R.zero) (cond t d R.zero)
  cond_plus true c d = refl
  cond_plus false c d = sym (L.plus_zero R.zero)

  pub folded_sum : (l j : ℕ) (f g : List A) (i : ℕ)
      → folded_from R l j (plus R f g) i ≡ R.plus (folded_from R l j f i) (folded_from R l j g i)
  folded_sum l j [] g i = sym (zero_plus R L (folded_from R l j g i))
  folded_sum l j (c ∷ f) [] i = sym (L.plus_zero (folded_from R l j (c ∷ f) i))
  folded_sum l j (c ∷ f) (d ∷ g) i =
      ap₂ R.plus (cond_plus (eqb (j % l) i) c d) (folded_sum l (suc j) f g i)
      ∙ swap R L (cond (eqb (j % l) i) c R.zero) (cond (eqb (j % l) i) d R.zero) (folded_from R l (suc j) f i) (folded_from R l (suc j) g i)

  -- a list of at most l coefficients keeps them
  past : (l j i : ℕ) (f : List A) → j + length f ≤ l → i < j → folded_from R l j f i ≡ R.zero
  past l j i [] long h = refl
  past l j i (c ∷ f) long h =
      ap₂ (λ t d. R.plus (cond t c R.zero) d)
      (ne_eqb (j % l) i (λ e. let s : j % l ≡ j = mod-eq_of_lt (omega arith) in absurd (omega arith)))
      (past l (suc j) i f (omega arith) (omega arith))
      ∙ L.plus_zero R.zero

  pub folded_short : (l j k : ℕ) (f : List A) → j + length f ≤ l → j + k < l → folded_from R l j f (j + k) ≡ get_or f k R.zero
  folded_short l j k [] long h = refl
  folded_short l j zero (c ∷ f) long h =
      ap₂ (λ t d. R.plus (cond t c R.zero) d)
      (eq-eqb (j % l) (j + zero) (let s : j % l ≡ j = mod-eq_of_lt (omega arith) in omega arith))
      (past l (suc j) (j + zero) f (omega arith) (omega arith))
      ∙ L.plus_zero c
  folded_short l j (suc k) (c ∷ f) long h =
      ap₂ (λ t d. R.plus (cond t c R.zero) d)
      (ne_eqb (j % l) (j + suc k) (λ e. let s : j % l ≡ j = mod-eq_of_lt (omega arith) in absurd (omega arith)))
      (ap (folded_from R l (suc j) f) (omega arith) ∙ folded_short l (suc j) k f (omega arith) (omega arith))
      ∙ zero_plus R L (get_or f k R.zero)

  -- a list in two parts, and one that begins l exponents later
  folded_append : (l j : ℕ) (f g : List A) (i : ℕ)
      → folded_from R l j (f ++ g) i ≡ R.plus (folded_from R l j f i) (folded_from R l (j + length f) g i)
  folded_append l j [] g i = ap (λ k. folded_from R l k g i) (sym (add-zero j)) ∙ sym (zero_plus R L _)
  folded_append l j (c ∷ f) g i =
      ap (R.plus (cond (eqb (j % l) i) c R.zero))
      (folded_append l (suc j) f g i ∙ ap (λ k. R.plus (folded_from R l (suc j) f i) (folded_from R l k g i)) (omega arith))
      ∙ sym (L.plus_assoc _ _ _)

  folded_later : (l j : ℕ) (f : List A) (i : ℕ) → folded_from R l (l + j) f i ≡ folded_from R l j f i
  folded_later l j [] i = refl
  folded_later l j (c ∷ f) i =
      ap₂ (λ r d. R.plus (cond (eqb r i) c R.zero) d) (ap (λ k. k % l) (add_comm l j) ∙ add-mod_right j l)
      (ap (λ k. folded_from R l k f i) (omega arith) ∙ folded_later l (suc j) f i)

  -- of at most l coefficients each stays, of at most 2 l two come together
  pub folded_once : (l i : ℕ) (f : List A) → length f ≤ l → i < l → folded R l f i ≡ get_or f i R.zero
  folded_once l i f long h = ap (folded R l f) (sym (zero-add i)) ∙ folded_short l 0 i f (omega arith) (omega arith)

  pub folded_twice : (l i : ℕ) (f : List A) → length f ≤ l + l → i < l
      → folded R l f i ≡ R.plus (get_or f i R.zero) (get_or f (l + i) R.zero)
  folded_twice l i f long h = ⊎_elim short full (cases_lt (length f) l)
    where
      short : length f < l → folded R l f i ≡ R.plus (get_or f i R.zero) (get_or f (l + i) R.zero)
      short z =
          folded_once l i f (omega arith) h
          ∙ sym (ap (R.plus (get_or f i R.zero)) (get_or_past f (l + i) R.zero (omega arith)) ∙ L.plus_zero _)

      full : l ≤ length f → folded R l f i ≡ R.plus (get_or f i R.zero) (get_or f (l + i) R.zero)
      full z =
          let front : length (take l f) ≡ l = length-take-le l f z in
          ap (λ g. folded R l g i) (sym (take-append-drop l f)) ∙ folded_append l 0 (take l f) (drop l f) i
          ∙ ap₂ R.plus
          (folded_once l i (take l f) (omega arith) h ∙ get_or-take l f i R.zero h)
          (ap (λ k. folded_from R l k (drop l f) i) (omega arith) ∙ folded_later l 0 (drop l f) i
          ∙ folded_once l i (drop l f) (omega (arith, length-drop l f)) h ∙ get_or-drop l f i R.zero)
