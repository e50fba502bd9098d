-- Tokens as numbers.
use Rattle.std.specs.Prelude.{◌≡◌, ℕ, List, [], ◌∷◌, ◌++◌, Ok, Err, vec_items, Result, Vec, ⊤}
use Rattle.std.specs.declared.alloc.Global.{Global}
use Rattle.text.specs.declared.faults.Fault.{Fault}
use Rattle.text.specs.declared.faults.Problem.{Problem}
use Rattle.text.specs.declared.lists.WordsError.{WordsError}
use Rattle.text.specs.declared.lists.WordsError.TheVariants.{Bad, Memory}
use Rattle.text.specs.Numbers.{reading}
use Rattle.text.specs.Tokens.{Word}

-- a problem becomes a fault at the offset i
abbrev pub placed : ℕ → Result ℕ Problem → Result ℕ Fault
placed i (Ok n) = Ok n
placed i (Err p) = Err (record { at = i; problem = p })

-- what a token gives as a number of at most `most`
abbrev pub reading_of : Word → ℕ → Result ℕ Fault
reading_of w most = placed w.offset (reading w.bytes most)

-- the numbers ns, and then those of the second list, where it has them
abbrev pub after : List ℕ → Result (List ℕ) Fault → Result (List ℕ) Fault
after ns (Ok ms) = Ok (ns ++ ms)
after ns (Err f) = Err f

-- a first number before the others, or its fault
abbrev pub first : Result ℕ Fault → Result (List ℕ) Fault → Result (List ℕ) Fault
first (Ok n) rest = after (n ∷ []) rest
first (Err f) rest = Err f

-- the tokens as numbers of at most `most`, or the fault of the first that is no such number
abbrev pub numbers_of : ℕ → List Word → Result (List ℕ) Fault
numbers_of most [] = Ok []
numbers_of most (w ∷ ws) = first (reading_of w most) (numbers_of most ws)

-- the tokens as words of 16 bits, or that fault
abbrev pub words_of : List Word → Result (List ℕ) Fault
words_of ws = numbers_of 65535 ws

-- what comes of tokens that read as `all`: the numbers, or the fault; nothing is said where memory ran out
abbrev pub Gives : Result (List ℕ) Fault → Result (Vec ℕ Global) WordsError → Type 0
Gives all (Ok v) = all ≡ Ok (vec_items v)
Gives all (Err (Bad f)) = all ≡ Err f
Gives all (Err Memory) = ⊤
