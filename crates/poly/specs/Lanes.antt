-- Products of polynomials whose coefficients are numbers of 16 bits, modulo 2^16. Assumes nothing.
use Rattle.std.specs.Prelude.{◌≡◌, ℕ, zero, suc, ◌+◌, ◌-◌, ◌*◌, ◌/◌, ◌%◌, ◌<◌, ◌≤◌, List, length}
use Rattle.poly.specs.Modulus.{modulus}
use Rattle.poly.specs.Lists.{at}
use Rattle.poly.specs.declared.lanes.TheConstants.{LONGEST}

-- the coefficient of X^k in the product of f and g
abbrev pub conv : (ℕ → ℕ) → (ℕ → ℕ) → ℕ → ℕ
conv f g zero = f 0 * g 0
conv f g (suc k) = f 0 * g (suc k) + conv (λ i. f (suc i)) g k

-- X^h times f
abbrev pub shifted : ℕ → (ℕ → ℕ) → ℕ → ℕ
shifted zero f k = f k
shifted (suc h) f zero = 0
shifted (suc h) f (suc k) = shifted h f k

-- r rows of a product at k, f 0 to f (r-1) times g, where g holds the other factor r places later
abbrev pub rows_at : ℕ → (ℕ → ℕ) → (ℕ → ℕ) → ℕ → ℕ
rows_at zero f g k = 0
rows_at (suc r) f g k = f 0 * g (k + suc r) + rows_at r (λ i. f (suc i)) g k

-- each place k of the list holds d k modulo 2^16
abbrev pub Holds : (ℕ → ℕ) → List ℕ → Type 0
Holds d xs = (k : ℕ) → k < length xs → at xs k % 65536 ≡ d k % 65536

-- the list holds X^8 b
abbrev pub Padded : List ℕ → List ℕ → Type 0
Padded b xs = (k : ℕ) → at xs k ≡ shifted 8 (at b) k

-- two factors of equally many coefficients, at most LONGEST and a multiple of 8, and room for their product
pub record Factors (a b p : List ℕ) : Type 0 where
  pub alike : length a ≡ length b
  pub room : length p ≡ 2 * length b
  pub most : length b ≤ LONGEST
  pub eights : length b % 8 ≡ 0

-- Of middle, the two halves of p are taken away, and what is left, d, is added to p from the middle of its first half on.
pub record Joined (p middle r : List ℕ) : Type 0 where
  pub d : ℕ → ℕ
  pub left : (k : ℕ) → k < length middle → (d k + at p k + at p (length middle + k)) % 65536 ≡ at middle k % 65536
  pub past : (k : ℕ) → length middle ≤ k → d k ≡ 0
  pub added : (k : ℕ) → at r k % 65536 ≡ (at p k + shifted (length middle / 2) d k) % 65536

-- r begins with the coefficients of the product of a and b, modulo 2^16, and a zero behind them
abbrev pub Coefficients : List ℕ → List ℕ → List ℕ → Type 0
Coefficients a b r = (k : ℕ) → k ≤ length a + length b → at r k ≡ conv (at a) (at b) k % 65536

-- from the coefficients of a product modulo 2^16: that of X^i and of X^(n+1+i), less that of X^n, before it is taken modulo m
abbrev pub folded_at : ℕ → ℕ → List ℕ → ℕ → ℕ
folded_at n m xs i = (at xs i + at xs (i + n + 1)) % 65536 + (modulus m - at xs n % modulus m)
