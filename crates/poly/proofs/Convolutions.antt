-- Products of polynomials with natural coefficients, as functions of the exponent. Assumes nothing.
use Rattle.std.proofs.Common.{◌≡◌, ℕ, zero, suc, ◌+◌, ◌-◌, ◌*◌, ◌%◌, ◌<◌, ◌≤◌, sym, refl, ap, ◌∙◌, ap₂, add-zero, add_assoc, add-suc, add-mul, suc-add, mul-zero, zero-add, zero-mul, mul-add, arith}
use native.Mathlib.Nat.{add-mod}
use Rattle.poly.specs.Integers.{mod_times}
use Rattle.poly.specs.Lanes.{conv, shifted, rows_at}

pub shifted_below : (h : ℕ) (f : ℕ → ℕ) (k : ℕ) → k < h → shifted h f k ≡ 0
shifted_below zero f k p = absurd (omega arith)
shifted_below (suc h) f zero p = refl
shifted_below (suc h) f (suc k) p = shifted_below h f k (omega arith)

pub shifted_above : (h : ℕ) (f : ℕ → ℕ) (k : ℕ) → h ≤ k → shifted h f k ≡ f (k - h)
shifted_above zero f k p = ap f (omega arith)
shifted_above (suc h) f zero p = absurd (omega arith)
shifted_above (suc h) f (suc k) p = shifted_above h f k (omega arith) ∙ ap f (omega arith)

-- shifts go along with equations, sums and one another
pub shifted_same : (h : ℕ) (f g : ℕ → ℕ) → ((k : ℕ) → f k ≡ g k) → (k : ℕ) → shifted h f k ≡ shifted h g k
shifted_same h f g e k = ap (λ d. shifted h d k) (λ t i. e i t)

pub shifted_mod : (h q : ℕ) (f g : ℕ → ℕ) → ((k : ℕ) → f k % q ≡ g k % q) → (k : ℕ) → shifted h f k % q ≡ shifted h g k % q
shifted_mod zero q f g e k = e k
shifted_mod (suc h) q f g e zero = refl
shifted_mod (suc h) q f g e (suc k) = shifted_mod h q f g e k

pub shifted_plus : (h : ℕ) (f g : ℕ → ℕ) (k : ℕ) → shifted h (λ i. f i + g i) k ≡ shifted h f k + shifted h g k
shifted_plus zero f g k = refl
shifted_plus (suc h) f g zero = refl
shifted_plus (suc h) f g (suc k) = shifted_plus h f g k

pub shifted_none : (h k : ℕ) → shifted h (λ i. 0) k ≡ 0
shifted_none zero k = refl
shifted_none (suc h) zero = refl
shifted_none (suc h) (suc k) = shifted_none h k

pub shifted_shifted : (h j : ℕ) (f : ℕ → ℕ) (k : ℕ) → shifted h (shifted j f) k ≡ shifted (h + j) f k
shifted_shifted zero j f k = ap (λ i. shifted i f k) (sym (zero-add j))
shifted_shifted (suc h) j f zero = ap (λ i. shifted i f zero) (sym (suc-add h j))
shifted_shifted (suc h) j f (suc k) = shifted_shifted h j f k ∙ ap (λ i. shifted i f (suc k)) (sym (suc-add h j))

-- the first coefficient of f, and the others
pub conv_first : (f g : ℕ → ℕ) (k : ℕ) → conv f g k ≡ f 0 * g k + shifted 1 (conv (λ i. f (suc i)) g) k
conv_first f g zero = omega arith
conv_first f g (suc k) = refl

-- products are linear in both factors, and shifts come out of them
pub conv_none : (g : ℕ → ℕ) (k : ℕ) → conv (λ i. 0) g k ≡ 0
conv_none g zero = zero-mul (g 0)
conv_none g (suc k) = ap₂ ◌+◌ (zero-mul (g (suc k))) (conv_none g k)

pub plus_conv : (f d g : ℕ → ℕ) (k : ℕ) → conv (λ i. f i + d i) g k ≡ conv f g k + conv d g k
plus_conv f d g zero = add-mul (f 0) (d 0) (g 0)
plus_conv f d g (suc k) =
    omega (arith, add-mul (f 0) (d 0) (g (suc k)), plus_conv (λ i. f (suc i)) (λ i. d (suc i)) g k)

pub conv_plus : (f g d : ℕ → ℕ) (k : ℕ) → conv f (λ i. g i + d i) k ≡ conv f g k + conv f d k
conv_plus f g d zero = mul-add (f 0) (g 0) (d 0)
conv_plus f g d (suc k) =
    omega (arith, mul-add (f 0) (g (suc k)) (d (suc k)), conv_plus (λ i. f (suc i)) g d k)

pub shifted_conv : (h : ℕ) (f g : ℕ → ℕ) (k : ℕ) → conv (shifted h f) g k ≡ shifted h (conv f g) k
shifted_conv zero f g k = refl
shifted_conv (suc h) f g zero = zero-mul (g 0)
shifted_conv (suc h) f g (suc k) = ap₂ ◌+◌ (zero-mul (g (suc k))) (shifted_conv h f g k) ∙ omega arith

later_conv : (f g : ℕ → ℕ) (k : ℕ) → conv f (shifted 1 g) k ≡ shifted 1 (conv f g) k
later_conv f g zero = mul-zero (f 0)
later_conv f g (suc k) = ap (f 0 * g k +◌) (later_conv (λ i. f (suc i)) g k) ∙ sym (conv_first f g k)

pub conv_shifted : (h : ℕ) (f g : ℕ → ℕ) (k : ℕ) → conv f (shifted h g) k ≡ shifted h (conv f g) k
conv_shifted zero f g k = refl
conv_shifted (suc h) f g k =
    ap (λ d. conv f d k) (λ t i. split h g i t) ∙ later_conv f (shifted h g) k
    ∙ shifted_same 1 _ _ (conv_shifted h f g) k ∙ shifted_shifted 1 h (conv f g) k ∙ ap (λ i. shifted i (conv f g) k) (one_add h)
  where
    one_add : (h : ℕ) → 1 + h ≡ suc h
    one_add h = omega arith

    split : (h : ℕ) (g : ℕ → ℕ) (i : ℕ) → shifted (suc h) g i ≡ shifted 1 (shifted h g) i
    split h g zero = refl
    split h g (suc i) = refl

-- past the degrees of both factors there is nothing
pub conv_past : (a b : ℕ) (f g : ℕ → ℕ) → ((i : ℕ) → a ≤ i → f i ≡ 0) → ((i : ℕ) → b ≤ i → g i ≡ 0) → (k : ℕ) → a + b ≤ k → conv f g k ≡ 0
conv_past zero b f g p q k h = ap (λ d. conv d g k) (λ t i. p i (omega arith) t) ∙ conv_none g k
conv_past (suc a) b f g p q zero h = absurd (omega arith)
conv_past (suc a) b f g p q (suc k) h =
    ap₂ ◌+◌ (ap (f 0 *◌) (q (suc k) (omega arith)) ∙ mul-zero (f 0))
    (conv_past a b (λ i. f (suc i)) g (λ i z. p (suc i) (omega arith)) q k (omega arith))

-- factors count modulo q alone
pub conv_mod : (q : ℕ) (f g c d : ℕ → ℕ) → ((i : ℕ) → f i % q ≡ c i % q) → ((i : ℕ) → g i % q ≡ d i % q)
    → (k : ℕ) → conv f g k % q ≡ conv c d k % q
conv_mod q f g c d p r zero = mod_times (f 0) (g 0) (c 0) (d 0) q (p 0) (r 0)
conv_mod q f g c d p r (suc k) =
    add-mod (f 0 * g (suc k)) _ q
    ∙ ap₂ (λ x y. (x + y) % q) (mod_times (f 0) (g (suc k)) (c 0) (d (suc k)) q (p 0) (r (suc k)))
    (conv_mod q (λ i. f (suc i)) g (λ i. c (suc i)) d (λ i. p (suc i)) r k)
    ∙ sym (add-mod (c 0 * d (suc k)) _ q)

-- the first row of a product that begins s places later
shifted_first : (s : ℕ) (f g : ℕ → ℕ) (k : ℕ) → f 0 * shifted s g k + shifted (suc s) (conv (λ i. f (suc i)) g) k ≡ shifted s (conv f g) k
shifted_first zero f g k = later k
  where
    later : (k : ℕ) → f 0 * g k + shifted 1 (conv (λ i. f (suc i)) g) k ≡ conv f g k
    later k = sym (conv_first f g k)
shifted_first (suc s) f g zero = ap (◌+ 0) (mul-zero (f 0))
shifted_first (suc s) f g (suc k) = shifted_first s f g k

together : (j s : ℕ) (g : ℕ → ℕ) (k : ℕ) → shifted (s + j) g (k + j) ≡ shifted s g k
together zero s g k = ap₂ (λ a b. shifted a g b) (add-zero s) (add-zero k)
together (suc j) s g k = ap₂ (λ a b. shifted a g b) (add-suc s j) (add-suc k j) ∙ together j s g k

-- the first r rows, and the others
pub rows_shifted : (r s : ℕ) (f g : ℕ → ℕ) (k : ℕ)
    → rows_at r f (shifted (s + r) g) k + shifted (s + r) (conv (λ i. f (r + i)) g) k ≡ shifted s (conv f g) k
rows_shifted zero s f g k =
    zero-add _ ∙ ap₂ (λ j d. shifted j (conv d g) k) (add-zero s) (λ t i. f (zero-add i t))
rows_shifted (suc r) s f g k =
    ap₂ ◌+◌ (ap₂ (λ a j. f 0 * a + rows_at r (λ i. f (suc i)) (shifted j g) k) (together (suc r) s g k) (add-suc s r ∙ sym (suc-add s r)))
    (ap₂ (λ j d. shifted j (conv d g) k) (add-suc s r ∙ sym (suc-add s r)) (λ t i. f (suc-add r i t)))
    ∙ add_assoc _ _ _
    ∙ ap (f 0 * shifted s g k +◌) (rows_shifted r (suc s) (λ i. f (suc i)) g k)
    ∙ shifted_first s f g k
