-- What comes of the words of shares. Assumes nothing.
use Rattle.std.specs.Prelude.{◌≡◌, ℕ, List, length, Ok, Err, Result}
use Rattle.std.specs.List.{flat_map}
use Rattle.kinds.specs.Ring.{Ops, total}
use Rattle.kinds.specs.Words.{Coding, Unread}
use Rattle.kinds.specs.declared.refusals.Refusal.{Refusal}
use Rattle.office.specs.declared.troubles.Trouble.{Trouble}
use Rattle.office.specs.declared.troubles.Trouble.TheVariants.{Header, ShareCount, BadText, Refused, Memory}

-- x is the sum of the m elements with these words
pub record SumOf {M : Type 0} (R : Ops M) (C : Coding M) (m : ℕ) (ws : List ℕ) (x : M) : Type 0 where
  pub shares : List M
  pub count : length shares ≡ m
  pub words : flat_map C.words shares ≡ ws
  pub sum : x ≡ total R R.zero shares

-- what adding m elements answers, or why they are not read
abbrev pub Summed : {M : Type 0} → Ops M → Coding M → ℕ → List ℕ → Result M Refusal → Type 0
Summed R C m ws (Ok x) = SumOf R C m ws x
Summed R C m ws (Err e) = Unread C m ws e

-- P of what came, Q of a refusal; nothing is said where memory runs out, and no other trouble comes
abbrev pub Came : {X : Type 0} → (X → Type 0) → (Refusal → Type 0) → Result X Trouble → Type 0
Came P Q (Ok x) = P x
Came P Q (Err (Header at)) = ⊥
Came P Q (Err (ShareCount at)) = ⊥
Came P Q (Err (BadText f)) = ⊥
Came P Q (Err (Refused e)) = Q e
Came P Q (Err Memory) = Unit {0}

abbrev pub Recombined : {M : Type 0} → Ops M → Coding M → ℕ → List ℕ → Result M Trouble → Type 0
Recombined R C m ws r = Came (SumOf R C m ws) (Unread C m ws) r
