-- Integers modulo m, the coefficients of a polynomial, and that they are a commutative ring. Assumes nothing.
use Rattle.std.specs.Prelude.{◌≡◌, ℕ, ◌+◌, ◌-◌, ◌*◌, ◌/◌, ◌%◌, ◌<◌}
use Rattle.std.proofs.Common.{sym, ap, ◌∙◌, add_comm, add_assoc, add-zero, mul_comm, mul_assoc, mul-one, mul-add, add-mul, mod-lt, mod-eq_of_lt, arith}
use mathlib.Core.HLevel.{is_prop→PathP}
use Rattle.std.proofs.Math.Bridge.{le_prop}
use Rattle.std.proofs.Math.Nat.{zero-mod, mod-add-mod, add-mod-mod, add-mod, add-mod_right, add-mul-mod_self_right, mod-add-div'}
use Rattle.kinds.specs.Ring.{Ops, Laws}
use Rattle.poly.specs.Modulus.{modulus}

pub record Z (m : ℕ) : Type 0 where
  pub number : ℕ
  pub small : number < modulus m

-- a number modulo m
abbrev pub of : (m : ℕ) → ℕ → Z m
of m a = record { number = a % modulus m; small = mod-lt a (omega arith) }

abbrev pub integers : (m : ℕ) → Ops (Z m)
integers m = record {
  zero = of m 0;
  one = of m 1;
  plus = λ a b. of m (a.number + b.number);
  minus = λ a b. of m (a.number + (modulus m - b.number));
  times = λ a b. of m (a.number * b.number);
}

module _ {m : ℕ} where
  pub same_number : (a b : Z m) → a.number ≡ b.number → a ≡ b
  same_number a b e = λ i. record { number = e i; small = is_prop→PathP (λ j. e j < modulus m) (λ j. le_prop) a.small b.small i }

  -- a number below m is itself modulo m
  pub own_number : (a : Z m) → of m a.number ≡ a
  own_number a = same_number _ _ (mod-eq_of_lt a.small)

-- what is added modulo m and then taken away, in either order
pub added_taken : (a b m : ℕ) → a < m → b < m → ((a + b) % m + (m - b)) % m ≡ a
added_taken a b m p q =
    mod-add-mod (a + b) m (m - b) ∙ ap (λ c. c % m) (omega arith) ∙ add-mod_right a m ∙ mod-eq_of_lt p

pub taken_added : (a b m : ℕ) → a < m → b < m → ((a + (m - b)) % m + b) % m ≡ a
taken_added a b m p q =
    mod-add-mod (a + (m - b)) m b ∙ ap (λ c. c % m) (omega arith) ∙ add-mod_right a m ∙ mod-eq_of_lt p

pub assoc_mod : (a b c m : ℕ) → ((a + b) % m + c) % m ≡ (a + (b + c) % m) % m
assoc_mod a b c m =
    mod-add-mod (a + b) m c ∙ ap (λ d. d % m) (add_assoc a b c) ∙ sym (add-mod-mod a (b + c) m)

-- a factor may be taken modulo m first
mod_mul : (a b m : ℕ) → (a % m) * b % m ≡ a * b % m
mod_mul a b m =
    sym (add-mul-mod_self_right ((a % m) * b) (a / m * b) m)
    ∙ ap (λ c. c % m) (ap ((a % m) * b +◌) (turn (a / m)) ∙ sym (add-mul (a % m) (a / m * m) b) ∙ ap (λ c. c * b) (mod-add-div' a m))
  where
    turn : (q : ℕ) → q * b * m ≡ q * m * b
    turn q = mul_assoc q b m ∙ ap (q *◌) (mul_comm b m) ∙ sym (mul_assoc q m b)

mul_mod : (a b m : ℕ) → a * (b % m) % m ≡ a * b % m
mul_mod a b m = ap (λ c. c % m) (mul_comm a (b % m)) ∙ mod_mul b a m ∙ ap (λ c. c % m) (mul_comm b a)

-- so factors count modulo m alone
pub mod_times : (a b c d m : ℕ) → a % m ≡ c % m → b % m ≡ d % m → a * b % m ≡ c * d % m
mod_times a b c d m p q =
    sym (mod_mul a b m) ∙ ap (λ e. e * b % m) p ∙ mod_mul c b m
    ∙ sym (mul_mod c b m) ∙ ap (λ e. c * e % m) q ∙ mul_mod c d m

module _ (m : ℕ) where
  pub of_plus : (a b : ℕ) → of m (a + b) ≡ (integers m).plus (of m a) (of m b)
  of_plus a b = same_number _ _ (add-mod a b (modulus m))

  pub of_times : (a b : ℕ) → of m (a * b) ≡ (integers m).times (of m a) (of m b)
  of_times a b = same_number _ _ (sym (mod_mul a (b % modulus m) (modulus m) ∙ mul_mod a b (modulus m)))

  pub integer_laws : Laws (integers m)
  integer_laws = record {
    plus_assoc = λ a b c. same_number _ _ (assoc_mod a.number b.number c.number (modulus m));
    plus_comm = λ a b. ap (of m) (add_comm a.number b.number);
    plus_zero = λ a. ap (of m) (ap (a.number +◌) (zero-mod (modulus m)) ∙ add-zero a.number) ∙ own_number a;
    plus_minus = λ a b. same_number _ _ (added_taken a.number b.number (modulus m) a.small b.small);
    minus_plus = λ a b. same_number _ _ (taken_added a.number b.number (modulus m) a.small b.small);
    times_assoc = λ a b c. same_number _ _ (mod_mul (a.number * b.number) c.number (modulus m)
        ∙ ap (λ d. d % modulus m) (mul_assoc a.number b.number c.number)
        ∙ sym (mul_mod a.number (b.number * c.number) (modulus m)));
    times_comm = λ a b. ap (of m) (mul_comm a.number b.number);
    times_one = λ a. same_number _ _ (mul_mod a.number 1 (modulus m) ∙ ap (λ d. d % modulus m) (mul-one a.number) ∙ mod-eq_of_lt a.small);
    times_plus = λ a b c. same_number _ _ (mul_mod a.number (b.number + c.number) (modulus m)
        ∙ ap (λ d. d % modulus m) (mul-add a.number b.number c.number)
        ∙ add-mod (a.number * b.number) (a.number * c.number) (modulus m));
  }
