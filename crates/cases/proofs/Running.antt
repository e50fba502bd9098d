-- The lines one after another. Assumes nothing.
use Rattle.std.proofs.Common.{◌≡◌, ℕ, List, [], ◌∷◌, ◌++◌, Ok, Err, string_bytes, Result, String, sym, refl, ap, ◌∙◌, subst, inl, inr, ⊎_elim, arith}
use Rattle.std.proofs.lemmas.List.{append_assoc, append-nil}
use Rattle.std.specs.declared.alloc.Global.{Global}
use Rattle.text.specs.Tokens.{Word}
use Rattle.cases.specs.Answers.{Line, Lines}
use Rattle.cases.specs.Troubles.{UnlessMemory}
use Rattle.cases.specs.declared.troubles.Trouble.{Trouble}

-- a text that came did not want memory
pub came : (P : Result (List ℕ) Trouble → Type 0) (t : String Global) → UnlessMemory P (Ok t) → P (Ok (string_bytes t))
came P t = ⊎_elim (λ h. h) (λ e. let z : ◌≡◌ {A = ℕ} 0 1 = cc in absurd (omega arith))

-- text in front of what comes
abbrev pub behind : List ℕ → Result (List ℕ) Trouble → Result (List ℕ) Trouble
behind text (Ok more) = Ok (text ++ more)
behind text (Err t) = Err t

-- what comes of the lines that are left, behind the text so far, comes of all
abbrev pub Run : List (List Word) → List ℕ → List (List Word) → Type 0
Run all text left = (r : Result (List ℕ) Trouble) → Lines left r → Lines all (behind text r)

-- a line that comes out well, before what comes of the others
before : (ts : List Word) (lines : List (List Word)) (first : List ℕ) (r : Result (List ℕ) Trouble) → Line ts (Ok first) → Lines lines r → Lines (ts ∷ lines) (behind first r)
before ts lines first (Ok rest) well so = (first, rest, well, so, refl)
before ts lines first (Err t) well so = inr (first, well, so)

behind_behind : (text first : List ℕ) (r : Result (List ℕ) Trouble) → behind text (behind first r) ≡ behind (text ++ first) r
behind_behind text first (Ok rest) = ap Ok (sym (append_assoc text first rest))
behind_behind text first (Err t) = refl

module _ (all left : List (List Word)) (text : List ℕ) where
  -- the next line
  module _ (ts : List Word) (lines : List (List Word)) (next : left ≡ ts ∷ lines) (so : Run all text left) where
    pub run_more : (first after : List ℕ) → after ≡ text ++ first → Line ts (Ok first) → Run all after lines
    run_more first after now well r more =
        subst (Lines all) (behind_behind text first r ∙ ap (λ t. behind t r) (sym now))
        (so (behind first r) (subst (λ l. Lines l (behind first r)) (sym next) (before ts lines first r well more)))

    pub run_stops : (t : Trouble) → Line ts (Err t) → Lines all (Err t)
    run_stops t wrong = so (Err t) (subst (λ l. Lines l (Err t)) (sym next) (inl wrong))

  pub run_all : left ≡ [] → Run all text left → Lines all (Ok text)
  run_all none so = subst (λ u. Lines all (Ok u)) (append-nil text) (so (Ok []) (subst (λ l. Lines l (Ok [])) (sym none) refl))
