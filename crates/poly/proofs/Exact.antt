-- Sums of products in 16 bits: when they are exact modulo m. Assumes nothing.
use Rattle.std.proofs.Common.{◌≡◌, ℕ, zero, suc, ◌+◌, ◌*◌, ◌%◌, ◌<◌, ◌≤◌, true, ◌&&◌, ◌||◌, eqb, leb, ◌⊎◌, sym, ap, ◌∙◌, inl, inr, ⊎_elim, mod-eq_of_lt, arith}
use native.Mathlib.Nat.{add-mod, dvd_of_mod-eq-zero, dvd-mul_right_of_dvd, mod-mod_of_dvd}
use Rattle.std.proofs.lemmas.Nat.{mul-le}
use Rattle.std.proofs.lemmas.Bool.{and_parts, or_cases, leb-true, eqb-true}
use Rattle.poly.specs.Lanes.{conv}
use Rattle.poly.specs.Modulus.{modulus}
use Rattle.poly.specs.Sizes.{served}

-- what a served size gives
pub record Bounds (n m : ℕ) : Type 0 where
  pub at_most : n ≤ 820
  pub modulus_is : (m ≡ 3) ⊎ ((2 ≤ m) × (8192 % m ≡ 0))

pub bounds : (n m : ℕ) → served n m ≡ true → Bounds n m
bounds n m h =
    let a = and_parts (leb 2 n) (leb n 820 && (eqb m 3 || (leb 2 m && eqb (8192 % m) 0))) h in
    let b = and_parts (leb n 820) (eqb m 3 || (leb 2 m && eqb (8192 % m) 0)) a.1 in
    record {
      at_most = leb-true n 820 b.0;
      modulus_is = ⊎_elim (λ e. inl (eqb-true m 3 e))
          (λ e. let d = and_parts (leb 2 m) (eqb (8192 % m) 0) e in inr (leb-true 2 m d.0, eqb-true (8192 % m) 0 d.1))
          (or_cases (eqb m 3) (leb 2 m && eqb (8192 % m) 0) b.1);
    }

-- sums of products of numbers below 3 are small
small_conv : (f g : ℕ → ℕ) → ((i : ℕ) → f i < 3) → ((i : ℕ) → g i < 3) → (k : ℕ) → conv f g k ≤ 4 * (k + 1)
small_conv f g p q zero = let r = mul-le (f 0) (g 0) 2 2 (let z = p 0 in omega arith) (let z = q 0 in omega arith) in omega arith
small_conv f g p q (suc k) =
    let r = mul-le (f 0) (g (suc k)) 2 2 (let z = p 0 in omega arith) (let z = q (suc k) in omega arith) in
    let s = small_conv (λ i. f (suc i)) g (λ i. p (suc i)) q k in
    omega arith

-- a number of 16 bits in place of v gives the same modulo m: always where m divides 2^16, and where v is small
exact : (n m v : ℕ) → Bounds n m → (m ≡ 3 → v < 65536) → v % 65536 % modulus m ≡ v % modulus m
exact n m v s low = ⊎_elim three power s.modulus_is
  where
    three : m ≡ 3 → v % 65536 % modulus m ≡ v % modulus m
    three e = ap (λ w. w % modulus m) (mod-eq_of_lt (low e))

    power : (2 ≤ m) × (8192 % m ≡ 0) → v % 65536 % modulus m ≡ v % modulus m
    power e =
        let same : modulus m ≡ m = omega (arith, e.0) in
        let divides = dvd-mul_right_of_dvd m (dvd_of_mod-eq-zero m e.1) 8 in
        ap (λ d. v % 65536 % d) same ∙ mod-mod_of_dvd m v divides ∙ ap (λ d. v % d) (sym same)

module _ (n m : ℕ) (s : Bounds n m) (f g : ℕ → ℕ) (p : (i : ℕ) → f i < modulus m) (q : (i : ℕ) → g i < modulus m) where
  low : m ≡ 3 → (k : ℕ) → conv f g k ≤ 4 * (k + 1)
  low e = small_conv f g (λ i. let z = p i in omega arith) (λ i. let z = q i in omega arith)

  -- one coefficient of a product, and two of them
  pub one_exact : (k : ℕ) → k ≤ 1642 → conv f g k % 65536 % modulus m ≡ conv f g k % modulus m
  one_exact k h = exact n m (conv f g k) s (λ e. let z = low e k in omega arith)

  pub two_exact : (j k : ℕ) → j ≤ 1642 → k ≤ 1642
      → (conv f g j % 65536 + conv f g k % 65536) % 65536 % modulus m ≡ (conv f g j + conv f g k) % modulus m
  two_exact j k h i =
      ap (λ v. v % modulus m) (sym (add-mod (conv f g j) (conv f g k) 65536))
      ∙ exact n m (conv f g j + conv f g k) s (λ e. let z = low e j in let y = low e k in omega arith)
