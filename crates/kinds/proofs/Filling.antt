-- A list of n elements that is filled from readable words, one element after another. Assumes nothing.
use Rattle.std.proofs.Common.{◌≡◌, ℕ, ◌+◌, ◌-◌, ◌*◌, ◌<◌, List, ◌++◌, length, take, drop, set, subst, add-mul, arith}
use Rattle.std.proofs.lemmas.List.{take_more_set}
use Rattle.std.proofs.lemmas.Grind.{common_steps}
use Rattle.std.specs.List.{flat_map}
use Rattle.kinds.specs.Words.{Coding, Codes, Readable}

module _ {M : Type 0} (C : Coding M) (k : ℕ) (ws : List ℕ) where
  -- the words of one element and of k more
  front_counted : Readable C (k + 1) ws → length ws ≡ C.width + k * C.width
  front_counted good = omega (arith, good.counted, add-mul k 1 C.width)

  readable_front : Readable C (k + 1) ws → Readable C 1 (take C.width ws)
  readable_front good =
      let long = front_counted good in
      record { counted = grind (arith, common_steps); small = λ i h. grind (arith, common_steps, good.small i) }

  readable_back : Readable C (k + 1) ws → Readable C k (drop C.width ws)
  readable_back good =
      let long = front_counted good in
      record { counted = grind (arith, common_steps); small = λ i h. grind (arith, common_steps, good.small (C.width + i)) }

module _ {M : Type 0} (C : Coding M) (n : ℕ) (ws : List ℕ) where
  -- the first i elements and the words that are left make up all the words
  abbrev pub Filled : ℕ → List M → List ℕ → Type 0
  Filled i xs rest = Readable C (n - i) rest × (flat_map C.words (take i xs) ++ rest ≡ ws)

  pub filled_more : Codes C → (i : ℕ) (xs : List M) (rest : List ℕ) → i < n → length xs ≡ n → Filled i xs rest → Filled (i + 1) (set xs i (C.element (take C.width rest))) (drop C.width rest)
  filled_more codes i xs rest h long filled =
      let x = C.element (take C.width rest) in
      let good : Readable C ((n - (i + 1)) + 1) rest = subst (λ k. Readable C k rest) (omega arith) filled.0 in
      let words : C.words x ≡ take C.width rest = codes.words_element (take C.width rest) (readable_front C (n - (i + 1)) rest good) in
      (readable_back C (n - (i + 1)) rest good, grind (arith, common_steps, take_more_set, filled.1, words))
