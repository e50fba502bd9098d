-- A list of n coefficients, each taken modulo m. Assumes nothing.
use Rattle.std.specs.Prelude.{◌≡◌, ℕ, ◌%◌, ◌<◌, ◌≤◌, List, map, length, slice_index}
use Rattle.std.proofs.Common.{sym, subst, ⊎_elim, mod-lt, zero-add, arith}
use Rattle.std.proofs.lemmas.List.FromFn.{length-map-range_with_len, get_or-map-range_with_len}
use Rattle.std.proofs.lemmas.List.{get_or_past}
use Rattle.std.proofs.lemmas.Bool.{cases_lt}
use Rattle.std.specs.List.{range_with_len}
use Rattle.poly.specs.Modulus.{modulus}

abbrev pub reduced : ℕ → ℕ → (ℕ → ℕ) → List ℕ
reduced n m f = map (λ i. f i % modulus m) (range_with_len 0 n)

pub reduced_long : (n m : ℕ) (f : ℕ → ℕ) → length (reduced n m f) ≡ n
reduced_long n m f = length-map-range_with_len (λ i. f i % modulus m) 0 n

pub reduced_at : (n m : ℕ) (f : ℕ → ℕ) (i : ℕ) → i < n → slice_index (reduced n m f) i ≡ f i % modulus m
reduced_at n m f i h = get_or-map-range_with_len (λ j. f j % modulus m) 0 n i i 0 h (zero-add i)

pub reduced_small : (n m : ℕ) (f : ℕ → ℕ) (i : ℕ) → slice_index (reduced n m f) i < modulus m
reduced_small n m f i =
    ⊎_elim (λ h. subst (λ c. c < modulus m) (sym (reduced_at n m f i h)) (mod-lt (f i) (omega arith)))
    (λ h. let past : length (reduced n m f) ≤ i = omega (arith, reduced_long n m f) in
    subst (λ c. c < modulus m) (sym (get_or_past (reduced n m f) i 0 past)) (omega arith))
    (cases_lt i n)
