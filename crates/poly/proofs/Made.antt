-- What `from_fn` made of the calls of a closure. Assumes nothing.
use Rattle.std.proofs.Common.{◌≡◌, ℕ, zero, suc, ◌+◌, ◌<◌, ◌≤◌, List, get_or, sym, subst, ⊎_elim, arith}
use denote.Param.Members.{Mut, Called}
use Rattle.std.specs.Array.{IsFromFnResultFrom}
use Rattle.std.proofs.lemmas.Bool.{cases_lt}

-- the element at k is what a call at k gave, from a state that keeps what each call keeps
pub call_at : {F B : Type 0} (g : Mut F (ℕ × Unit {0}) B) (Keeps : F → Type 0)
    → ((p q : F) (i : ℕ) (y : B) → Called g p (i, tt) y q → Keeps p → Keeps q)
    → (f : F) (ys : List B) (i n k : ℕ) (e : B) → Keeps f → IsFromFnResultFrom g f ys i n → i ≤ k → k < i + n
    → (p : F) × (q : F) × Keeps p × Called g p (k, tt) (get_or ys k e) q
call_at g Keeps more f ys i zero k e kept calls from below = absurd (omega arith)
call_at g Keeps more f ys i (suc n) k e kept calls from below =
    ⊎_elim
    (λ h. call_at g Keeps more calls.0 ys (i + 1) n k e (more f calls.0 i calls.1 calls.3 kept) calls.4 (omega arith) (omega arith))
    (λ h. let here : i ≡ k = omega arith in
    subst (λ j. (p : _) × (q : _) × Keeps p × Called g p (j, tt) (get_or ys j e) q) here
    (f, calls.0, kept, subst (λ y. Called g f (i, tt) y calls.0) (sym (calls.2.1 e)) calls.3))
    (cases_lt i k)
