-- Elements as words of 16 bits: what reading and showing answer, and what they leave. Assumes nothing.
use Rattle.std.specs.Prelude.{◌≡◌, ℕ, ◌+◌, ◌*◌, ◌<◌, ◌≤◌, ◌≢◌, ◌⊎◌, List, length, Ok, Err, Result, slice_index}
use Rattle.std.specs.List.{flat_map}
use Rattle.kinds.specs.declared.refusals.Refusal.{Refusal}
use Rattle.kinds.specs.declared.refusals.Refusal.TheVariants.{WordCount, CoefficientTooLarge, BufferLength}

-- How a kind writes an element as words, and which element it takes words for. A word of an element is below limit.
pub record Coding (M : Type 0) : Type 0 where
  pub width : ℕ
  pub limit : ℕ
  pub words : M → List ℕ
  pub element : List ℕ → M

-- the words of m elements: as many as they should be, and none too large
pub record Readable {M : Type 0} (C : Coding M) (m : ℕ) (ws : List ℕ) : Type 0 where
  pub counted : length ws ≡ m * C.width
  pub small : (i : ℕ) → i < length ws → slice_index ws i < C.limit

-- That elements and the words of one element are the same thing.
pub record Codes {M : Type 0} (C : Coding M) : Type 0 where
  pub readable : (x : M) → Readable C 1 (C.words x)
  pub element_words : (x : M) → C.element (C.words x) ≡ x
  pub words_element : (ws : List ℕ) → Readable C 1 ws → C.words (C.element ws) ≡ ws

-- of the words of m elements, the one at this exponent of this element is too large
pub record TooLarge {M : Type 0} (C : Coding M) (m : ℕ) (ws : List ℕ) (element exponent : ℕ) : Type 0 where
  pub counted : length ws ≡ m * C.width
  pub element_within : element < m
  pub exponent_within : exponent < C.width
  pub above : C.limit ≤ slice_index ws (element * C.width + exponent)

-- why m elements are not read from words
abbrev pub Unread : {M : Type 0} → Coding M → ℕ → List ℕ → Refusal → Type 0
Unread C m ws e =
    ((e ≡ WordCount) × (length ws ≢ m * C.width))
    ⊎ ((i : ℕ) × (p : ℕ) × (e ≡ CoefficientTooLarge i p) × TooLarge C m ws i p)

-- what is answered of words before any of them is used
abbrev pub Judged : {M : Type 0} → Coding M → ℕ → List ℕ → Result (Unit {0}) Refusal → Type 0
Judged C m ws (Ok u) = Readable C m ws
Judged C m ws (Err e) = Unread C m ws e

-- What reading one element answers: the words of an element are read as that element, and no others are read.
pub record Reads {M : Type 0} (C : Coding M) (ws : List ℕ) (r : Result M Refusal) : Type 0 where
  pub same_words : (x : M) → r ≡ Ok x → C.words x ≡ ws
  pub same_element : (x : M) → C.words x ≡ ws → r ≡ Ok x
  pub refused : (e : Refusal) → r ≡ Err e → Unread C 1 ws e

-- What reading a list answers, and what the list holds before and after.
abbrev pub Lists : {M : Type 0} → Coding M → List ℕ → List M → List M → Result (Unit {0}) Refusal → Type 0
Lists C ws before after (Ok u) = flat_map C.words after ≡ ws
Lists C ws before after (Err e) = Unread C (length before) ws e × (after ≡ before)

-- What showing n values in a buffer answers, and what the buffer holds before and after.
abbrev pub Shows : {X : Type 0} → ℕ → List X → List X → List X → Result (Unit {0}) Refusal → Type 0
Shows n shown before after (Ok u) = (length before ≡ n) × (after ≡ shown)
Shows n shown before after (Err e) = (e ≡ BufferLength) × (length before ≢ n) × (after ≡ before)
