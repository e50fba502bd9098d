-- Refusals: their numbers, the values that come along, and how they are printed. Assumes nothing.
use Rattle.std.specs.Prelude.{ℕ, List, [], ◌∷◌, ◌++◌, codes, decimal}
use Rattle.kinds.specs.declared.refusals.Refusal.{Refusal}
use Rattle.kinds.specs.declared.refusals.Refusal.TheVariants.{WordCount, CoefficientTooLarge, ShareCount, EngineNotEmpty, NoSuchHolding, TableFull, NoSuchPosition, BufferLength, TooFewCells, TooLittleTape, NoSecretLeft, NoPublicLeft, MaskedValueNotInvertible, NoSuchCell, NoFreeCell, ListAtEnd, NotInvertible}

-- the number of a refusal, and the values that come with it
abbrev pub number : Refusal → ℕ × List ℕ
number WordCount = (1, [])
number (CoefficientTooLarge element exponent) = (2, element ∷ exponent ∷ [])
number ShareCount = (3, [])
number EngineNotEmpty = (4, [])
number NoSuchHolding = (5, [])
number TableFull = (6, [])
number NoSuchPosition = (7, [])
number BufferLength = (8, [])
number TooFewCells = (9, [])
number TooLittleTape = (10, [])
number NoSecretLeft = (11, [])
number NoPublicLeft = (12, [])
number MaskedValueNotInvertible = (13, [])
number NoSuchCell = (14, [])
number NoFreeCell = (15, [])
number ListAtEnd = (16, [])
number NotInvertible = (17, [])

-- what went wrong
abbrev pub words : Refusal → List ℕ
words WordCount = codes "the count of words does not match"
words (CoefficientTooLarge element exponent) = codes "a coefficient is too large"
words ShareCount = codes "the number of shares is outside 2 to 8"
words EngineNotEmpty = codes "the engine already had a cell"
words NoSuchHolding = codes "no such holding"
words TableFull = codes "64 holdings exist"
words NoSuchPosition = codes "no such position"
words BufferLength = codes "the buffer has the wrong length"
words TooFewCells = codes "fewer free cells than the whole call needs"
words TooLittleTape = codes "less tape than the whole call needs"
words NoSecretLeft = codes "no secret left"
words NoPublicLeft = codes "no public left"
words MaskedValueNotInvertible = codes "the masked value has no inverse"
words NoSuchCell = codes "an unwritten cell, or a wrong count of cells"
words NoFreeCell = codes "no free cell"
words ListAtEnd = codes "the list is at its end"
words NotInvertible = codes "no inverse"

-- the values that come along, as they are printed: element and exponent, or nothing
abbrev pub values : List ℕ → List ℕ
values [] = []
values (element ∷ []) = []
values (element ∷ exponent ∷ vs) = codes ": element " ++ (decimal element ++ (codes " (counted from 0), exponent " ++ decimal exponent))

abbrev pub refusal_text : Refusal → List ℕ
refusal_text e = decimal (number e).0 ++ (codes ": " ++ (words e ++ values (number e).1))
