-- Tests of bytes.
use Rattle.std.specs.Prelude.{◌≡◌, ℕ, Bool}

-- what a closure answers is what p gives
abbrev pub IsTest : (ℕ → Bool → Type 0) → (ℕ → Bool) → Type 0
IsTest post p = (b : ℕ) (r : Bool) → post b r → r ≡ p b
