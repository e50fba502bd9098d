-- The results of operations, and how they are printed. Assumes nothing.
use Rattle.std.specs.Prelude.{◌≡◌, ℕ, ◌⊎◌, List, [], ◌∷◌, ◌++◌, Ok, Err, codes, decimal, Result}
use Rattle.kinds.specs.Ring.{Ops}
use Rattle.kinds.specs.Words.{Coding, Unread}
use Rattle.kinds.specs.declared.refusals.Refusal.{Refusal}
use Rattle.text.specs.Shown.{spaced}
use Rattle.cases.specs.Questions.{Case}
use Rattle.cases.specs.declared.operations.Operation.{Operation}
use Rattle.cases.specs.declared.operations.Operation.TheVariants.{Times}
use Rattle.cases.specs.declared.troubles.Trouble.{Trouble}
use Rattle.cases.specs.declared.troubles.Trouble.TheVariants.{Refused, Memory}

-- z is the product of the two elements with these words
pub record Product {M : Type 0} (R : Ops M) (C : Coding M) (ws : List ℕ) (z : M) : Type 0 where
  pub x : M
  pub y : M
  pub words : C.words x ++ C.words y ≡ ws
  pub product : z ≡ R.times x y

-- what an operation gives of its operands, or why their words are refused
abbrev pub Computes : {M : Type 0} → Ops M → Coding M → Operation → List ℕ → Result M Refusal → Type 0
Computes R C Times ws (Ok z) = Product R C ws z
Computes R C Times ws (Err e) = Unread C 2 ws e

-- numbers with single spaces between them
abbrev pub separated : List ℕ → List ℕ
separated [] = []
separated (w ∷ ws) = decimal w ++ spaced decimal ws

-- the line for the result of a case, or its refusal
abbrev pub Works : {M : Type 0} → Ops M → Coding M → Case → Result (List ℕ) Trouble → Type 0
Works {M} R C c (Ok text) = (z : M) × Computes R C c.operation c.words (Ok z) × (text ≡ separated (C.words z) ++ codes "\n")
Works R C c (Err t) = (e : Refusal) × Computes R C c.operation c.words (Err e) × (t ≡ Refused c.at e)

-- the same before it is printed, where memory may run out
abbrev pub Computed : {M : Type 0} → Ops M → Coding M → Case → Result M Trouble → Type 0
Computed R C c (Ok z) = Computes R C c.operation c.words (Ok z)
Computed R C c (Err t) = Works R C c (Err t) ⊎ (t ≡ Memory)
