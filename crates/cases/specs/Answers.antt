-- What is answered to an input. Assumes nothing.
use Rattle.std.specs.Prelude.{◌≡◌, ℕ, ◌⊎◌, List, [], ◌∷◌, ◌++◌, Ok, Err, Result, String}
use Rattle.std.specs.declared.alloc.Global.{Global}
use Rattle.kinds.specs.Bits.{ops as bit_ops, coding as bit_coding}
use Rattle.names.specs.Names.{by_size}
use Rattle.poly.specs.Elements.{ops, coding}
use Rattle.text.specs.Lines.{lines_of}
use Rattle.text.specs.Tokens.{Word}
use Rattle.cases.specs.Questions.{Case, asked}
use Rattle.cases.specs.Results.{Works}
use Rattle.cases.specs.Troubles.{UnlessMemory}
use Rattle.cases.specs.declared.troubles.Trouble.{Trouble}

-- a case in the kind that it names
abbrev pub ByName : Case → Result (List ℕ) Trouble → Type 0
ByName c r = by_size c.name (λ n q. Works (ops n q) (coding n q) c r) (Works bit_ops bit_coding c r)

-- what comes of what was asked
abbrev pub Answered : Result Case Trouble → Result (List ℕ) Trouble → Type 0
Answered (Ok c) r = ByName c r
Answered (Err t) r = r ≡ Err t

-- what is printed for a line with these tokens, or its trouble
abbrev pub Line : List Word → Result (List ℕ) Trouble → Type 0
Line [] r = r ≡ Ok []
Line (k ∷ ws) r = Answered (asked k ws) r

-- what is printed for these lines, one after another, or the trouble of the first that has one
abbrev pub Lines : List (List Word) → Result (List ℕ) Trouble → Type 0
Lines [] (Ok text) = text ≡ []
Lines [] (Err t) = ⊥
Lines (ts ∷ lines) (Ok text) = (first : List ℕ) × (rest : List ℕ) × Line ts (Ok first) × Lines lines (Ok rest) × (text ≡ first ++ rest)
Lines (ts ∷ lines) (Err t) = Line ts (Err t) ⊎ ((first : List ℕ) × Line ts (Ok first) × Lines lines (Err t))

abbrev pub Answers : List ℕ → Result (String Global) Trouble → Type 0
Answers input r = UnlessMemory (Lines (lines_of input)) r
