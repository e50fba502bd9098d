-- A list up to the first byte that passes a test, and from there on.
use Rattle.std.proofs.Common.{◌≡◌, ℕ, ◌+◌, ◌-◌, ◌<◌, ◌≤◌, suc, Bool, true, false, not, cond, List, [], ◌∷◌, length, get_or, take, drop, ap, ◌∙◌, refl, arith}
use Rattle.std.specs.List.{position_or_len, prefix_len}
use Rattle.std.proofs.lemmas.List.{drop-drop, drop_all, get_or-drop, length-drop}
use Rattle.std.proofs.lemmas.List.Folds.{length-prefix_len}
use Rattle.std.proofs.lemmas.List.Sums.{position_or_len_is}

-- as many are taken as pass before the first that fails
pub taken_len : {X : Type 0} (test : X → Bool) (xs : List X) → length (take (prefix_len test xs) xs) ≡ prefix_len test xs
taken_len test xs = length-prefix_len test xs

-- where none from offset `from` to i passes, and the one at i does if there is one, i is the first that passes, or the end
pub first_at : (test : ℕ → Bool) (xs : List ℕ) (from i : ℕ) → from ≤ i → i ≤ length xs → ((k : ℕ) → from ≤ k → k < i → test (get_or xs k 0) ≡ false) → (i < length xs → test (get_or xs i 0) ≡ true) → i ≡ from + position_or_len test (drop from xs)
first_at test xs from i behind within none here =
    let n = i - from in
    let is : position_or_len test (drop from xs) ≡ n =
    position_or_len_is test (drop from xs) n 0 (omega (arith, length-drop from xs))
    (λ k h. ap test (get_or-drop from xs k 0) ∙ none (from + k) (omega arith) (omega arith))
    (λ h. ap test (get_or-drop from xs n 0 ∙ ap (λ j. get_or xs j 0) (omega arith)) ∙ here (omega (arith, length-drop from xs))) in
    omega (arith, is)

-- past the end none is ahead
pub none_ahead : {X : Type 0} (test : X → Bool) (xs : List X) (from : ℕ) → length xs ≤ from → from ≡ from + position_or_len test (drop from xs)
none_ahead test xs from past = let none : position_or_len test (drop from xs) ≡ 0 = ap (position_or_len test) (drop_all from xs past) in omega (arith, none)

-- F at a list whose first byte has offset i: the same at what follows a byte that fails, and G where one passes or none is left
module _ {Y : Type 0} (test : ℕ → Bool) (F G : ℕ → List ℕ → Y)
    (none : (i : ℕ) → F i [] ≡ G i [])
    (on : (i b : ℕ) (bs : List ℕ) → test b ≡ false → F i (b ∷ bs) ≡ F (i + 1) bs)
    (stop : (i b : ℕ) (bs : List ℕ) → test b ≡ true → F i (b ∷ bs) ≡ G i (b ∷ bs)) where
  cut : (i : ℕ) (bs : List ℕ) → F i bs ≡ G (i + position_or_len test bs) (drop (position_or_len test bs) bs)
  cut i [] = none i ∙ ap (λ j. G j []) (omega arith)
  cut i (b ∷ bs) = by (test b) refl (cut (i + 1) bs)
    where
      by : (t : Bool) → test b ≡ t → F (i + 1) bs ≡ G (i + 1 + position_or_len test bs) (drop (position_or_len test bs) bs) → F i (b ∷ bs) ≡ G (i + cond (not t) (1 + position_or_len test bs) 0) (drop (cond (not t) (1 + position_or_len test bs) 0) (b ∷ bs))
      by true e so = stop i b bs e ∙ ap (λ j. G j (b ∷ bs)) (omega arith)
      by false e so =
          let offset : i + 1 + position_or_len test bs ≡ i + (1 + position_or_len test bs) = omega arith in
          let next : suc (position_or_len test bs) ≡ 1 + position_or_len test bs = omega arith in
          on i b bs e ∙ so ∙ (λ k. G (offset k) (drop (next k) (b ∷ bs)))

  -- the same from offset i of a list on
  pub cut_at : (i : ℕ) (bs : List ℕ) → F i (drop i bs) ≡ G (i + position_or_len test (drop i bs)) (drop (i + position_or_len test (drop i bs)) bs)
  cut_at i bs = cut i (drop i bs) ∙ ap (G (i + position_or_len test (drop i bs))) (drop-drop (position_or_len test (drop i bs)) i bs)
