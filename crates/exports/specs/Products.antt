-- The product of two elements that come as words and goes out as words. Assumes nothing.
use Rattle.std.specs.Prelude.{◌≡◌, ℕ, ◌≢◌, ◌⊎◌, List, length, Ok, Err, Result}
use Rattle.kinds.specs.Refusals.{number}
use Rattle.kinds.specs.Ring.{Ops}
use Rattle.kinds.specs.Words.{Coding, Unread}
use Rattle.kinds.specs.declared.refusals.Refusal.{Refusal}
use Rattle.kinds.specs.declared.refusals.Refusal.TheVariants.{WordCount, BufferLength}
use Rattle.poly.specs.Elements.{ops, coding}

-- these are the words of an element
abbrev pub Read : {M : Type 0} → Coding M → List ℕ → Type 0
Read {M} C ws = (x : M) × (C.words x ≡ ws)

-- reading one element from these words is refused
abbrev pub Misread : {M : Type 0} → Coding M → List ℕ → Refusal → Type 0
Misread C ws e = Unread C 1 ws e

-- Why there is no product: either count of words is wrong, or else a word is too large, or else the buffer has the wrong length.
abbrev pub NoProduct : {M : Type 0} → Coding M → List ℕ → List ℕ → List ℕ → Refusal → Type 0
NoProduct C xs ys before e =
    ((e ≡ WordCount) × ((length xs ≢ C.width) ⊎ (length ys ≢ C.width)))
    ⊎ ((length xs ≡ C.width) × (length ys ≡ C.width) × (Misread C xs e ⊎ Misread C ys e))
    ⊎ (Read C xs × Read C ys × (e ≡ BufferLength) × (length before ≢ C.width))

-- The buffer holds exactly the words of the product of the elements with these words.
pub record ProductOf {M : Type 0} (R : Ops M) (C : Coding M) (xs ys before after : List ℕ) : Type 0 where
  pub x : M
  pub y : M
  pub x_words : C.words x ≡ xs
  pub y_words : C.words y ≡ ys
  pub fits : length before ≡ C.width
  pub product : after ≡ C.words (R.times x y)

-- What multiplying answers, and what the buffer holds before and after.
abbrev pub Multiplies : {M : Type 0} → Ops M → Coding M → List ℕ → List ℕ → List ℕ → List ℕ → Result (Unit {0}) Refusal → Type 0
Multiplies R C xs ys before after (Ok u) = ProductOf R C xs ys before after
Multiplies R C xs ys before after (Err e) = NoProduct C xs ys before e × (after ≡ before)

-- 0 where all went well, or the refusal's number
abbrev pub code : Result (Unit {0}) Refusal → ℕ
code (Ok u) = 0
code (Err e) = (number e).0

-- What multiplying answers as a number.
abbrev pub Answers : {M : Type 0} → Ops M → Coding M → List ℕ → List ℕ → List ℕ → List ℕ → ℕ → Type 0
Answers R C xs ys before after n = (r : Result (Unit {0}) Refusal) × Multiplies R C xs ys before after r × (n ≡ code r)

-- The same for polynomials of n coefficients modulo q.
abbrev pub Sized : ℕ → ℕ → List ℕ → List ℕ → List ℕ → List ℕ → ℕ → Type 0
Sized n q = Answers (ops n q) (coding n q)
