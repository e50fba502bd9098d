-- Additions into a part of a list, and the rows of a product, modulo 2^16. Assumes nothing.
use Rattle.std.proofs.Common.{◌≡◌, ℕ, zero, suc, ◌+◌, ◌-◌, ◌*◌, ◌%◌, ◌<◌, ◌≤◌, List, [], length, get_or, take, drop, replicate, sym, refl, ap, ◌∙◌, ap₂, ⊎_elim, add_assoc, mul-zero, arith, rules}
use borrow.Rule.Slice.PartMut.{mid_of, put_mid}
use Rattle.std.proofs.lemmas.List.{places, length-replicate, get_or_past, get_or-replicate, get_or-take, get_or-drop}
use Rattle.std.proofs.lemmas.Bool.{cases_lt}
use Rattle.std.specs.Simd.{first_chunks}
use Rattle.poly.specs.Lanes.{conv, shifted, rows_at, Holds, Padded}
use Rattle.poly.specs.Lists.{at}
use Rattle.poly.specs.declared.lanes.TheConstants.{LONGEST, PADDED}
use Rattle.poly.proofs.Convolutions.{shifted_below, shifted_above, shifted_plus, shifted_same, shifted_shifted, shifted_none, rows_shifted, conv_none}

-- the places of a list of which a part of w places from i on is written anew
module _ (i w : ℕ) (p s : List ℕ) (inside : i + w ≤ length p) (long : length s ≡ w) where
  pub put_before : (k : ℕ) → k < i → at (put_mid i w p s) k ≡ at p k
  put_before k h = search (rules, places)

  pub put_within : (k : ℕ) → i ≤ k → k < i + w → at (put_mid i w p s) k ≡ at s (k - i)
  put_within k h j = search (rules, places)

  put_after : (k : ℕ) → i + w ≤ k → at (put_mid i w p s) k ≡ at p k
  put_after k h = search (rules, places)

  mid_at : (k : ℕ) → i ≤ k → k < i + w → at (mid_of i w p) (k - i) ≡ at p k
  mid_at k h j = search (rules, places)

  -- so where d was added to the part, it was added to the list, i places later
  pub added : (d : ℕ → ℕ) → Holds (λ k. at (mid_of i w p) k + d k) s → ((k : ℕ) → w ≤ k → d k ≡ 0)
      → (k : ℕ) → at (put_mid i w p s) k % 65536 ≡ (at p k + shifted i d k) % 65536
  added d holds none k = ⊎_elim before from (cases_lt k i)
    where
      before : k < i → at (put_mid i w p s) k % 65536 ≡ (at p k + shifted i d k) % 65536
      before h = omega (arith, put_before k h, shifted_below i d k h)

      from : i ≤ k → at (put_mid i w p s) k % 65536 ≡ (at p k + shifted i d k) % 65536
      from h =
          ⊎_elim
          (λ j. ap (λ v. v % 65536) (put_within k h j) ∙ holds (k - i) (omega arith)
          ∙ ap₂ (λ a b. (a + b) % 65536) (mid_at k h j) (sym (shifted_above i d k h)))
          (λ j. omega (arith, put_after k j, shifted_above i d k h, none (k - i) (omega arith)))
          (cases_lt k (i + w))

-- rows depend on r coefficients of one factor and on r places of the other
rows_same : (r : ℕ) (f c g b : ℕ → ℕ) (k : ℕ) → ((j : ℕ) → j < r → f j ≡ c j) → ((j : ℕ) → j < r → g (k + suc j) ≡ b (k + suc j))
    → rows_at r f g k ≡ rows_at r c b k
rows_same zero f c g b k p q = refl
rows_same (suc r) f c g b k p q =
    ap₂ ◌+◌ (ap₂ ◌*◌ (p 0 (omega arith)) (q r (omega arith)))
    (rows_same r (λ i. f (suc i)) (λ i. c (suc i)) g b k (λ j h. p (suc j) (omega arith)) (λ j h. q j (omega arith)))

rows_none : (r : ℕ) (f g : ℕ → ℕ) (k : ℕ) → ((j : ℕ) → j < r → g (k + suc j) ≡ 0) → rows_at r f g k ≡ 0
rows_none zero f g k q = refl
rows_none (suc r) f g k q =
    ap₂ ◌+◌ (ap (f 0 *◌) (q r (omega arith)) ∙ mul-zero (f 0)) (rows_none r (λ i. f (suc i)) g k (λ j h. q j (omega arith)))

-- zeros at every place, past the end too
zeros_at : (n k : ℕ) → at (replicate n 0) k ≡ 0
zeros_at n k = ⊎_elim (get_or-replicate n k 0 0) (λ h. get_or_past (replicate n 0) k 0 (omega (arith, length-replicate {A = ℕ} n 0))) (cases_lt k n)

-- b, written into zeros eight places later
pub padded_places : (w : ℕ) (b s : List ℕ) → w ≡ length b → s ≡ b → length b ≤ LONGEST → Padded b (put_mid 8 w (replicate PADDED 0) s)
padded_places w b s wide same most k =
    ⊎_elim before from (cases_lt k 8)
  where
    zeros : List ℕ
    zeros = replicate PADDED 0

    inside : 8 + w ≤ length zeros
    inside = omega arith

    long : length s ≡ w
    long = ap length same ∙ sym wide

    before : k < 8 → at (put_mid 8 w zeros s) k ≡ shifted 8 (at b) k
    before h = put_before 8 w zeros s inside long k h ∙ zeros_at PADDED k ∙ sym (shifted_below 8 (at b) k h)

    from : 8 ≤ k → at (put_mid 8 w zeros s) k ≡ shifted 8 (at b) k
    from h =
        ⊎_elim
        (λ j. put_within 8 w zeros s inside long k h j ∙ ap (λ xs. at xs (k - 8)) same)
        (λ j. put_after 8 w zeros s inside long k j ∙ zeros_at PADDED k ∙ sym (get_or_past b (k - 8) 0 (omega arith)))
        (cases_lt k (8 + w))
        ∙ sym (shifted_above 8 (at b) k h)

-- the k-th of the chunks of eight
pub chunk_at : (count k j : ℕ) (xs : List ℕ) → k < count → j < 8 → at (get_or (first_chunks 8 count xs) k []) j ≡ at xs (8 * k + j)
chunk_at zero k j xs h i = absurd (omega arith)
chunk_at (suc count) zero j xs h i = get_or-take 8 xs j 0 i ∙ ap (at xs) (omega arith)
chunk_at (suc count) (suc k) j xs h i =
    chunk_at count k j (drop 8 xs) (omega arith) i ∙ get_or-drop 8 xs (8 * k + j) 0 ∙ ap (at xs) (omega arith)

module _ (f g : ℕ → ℕ) where
  -- what is in p and the rows from i on make up the product of f and g, modulo 2^16
  abbrev pub Left : ℕ → List ℕ → Type 0
  Left i p = (k : ℕ) → (at p k + shifted i (conv (λ j. f (i + j)) g) k) % 65536 ≡ conv f g k % 65536

  -- eight rows more
  pub left_more : (n i w : ℕ) (p c b s : List ℕ) → ((k : ℕ) → n ≤ k → g k ≡ 0) → w ≡ n + 8 → i + w ≤ length p → length s ≡ w
      → ((j : ℕ) → j < 8 → at c j ≡ f (i + j)) → ((k : ℕ) → at b k ≡ shifted 8 g k)
      → Holds (λ k. at (mid_of i w p) k + rows_at 8 (at c) (at b) k) s → Left i p → Left (i + 8) (put_mid i w p s)
  left_more n i w p c b s short wide inside long cs bs holds left k =
      let F : ℕ → ℕ = λ j. f (i + j) in
      let d : ℕ → ℕ = rows_at 8 F (shifted 8 g) in
      let none : (j : ℕ) → w ≤ j → d j ≡ 0 =
      λ j h. rows_none 8 F (shifted 8 g) j (λ t z. shifted_above 8 g (j + suc t) (omega arith) ∙ short (j + suc t - 8) (omega arith)) in
      let put : at (put_mid i w p s) k % 65536 ≡ (at p k + shifted i d k) % 65536 =
      added i w p s inside long d (λ j h. holds j h
      ∙ ap (λ v. (at (mid_of i w p) j + v) % 65536) (rows_same 8 (at c) F (at b) (shifted 8 g) j cs (λ t z. bs (j + suc t)))) none k in
      let rest : shifted i d k + shifted (i + 8) (conv (λ j. f (i + 8 + j)) g) k ≡ shifted i (conv F g) k =
      ap (shifted i d k +◌) (sym (shifted_shifted i 8 (conv (λ j. f (i + 8 + j)) g) k))
      ∙ sym (shifted_plus i d (shifted 8 (conv (λ j. f (i + 8 + j)) g)) k)
      ∙ shifted_same i _ _ (λ j. ap (λ h. d j + shifted 8 (conv h g) j) (λ t u. f (add_assoc i 8 u t)) ∙ rows_shifted 8 0 F g j) k in
      omega (arith, put, rest, left k)

  -- no rows are left
  pub left_all : (i : ℕ) (p : List ℕ) → ((j : ℕ) → f (i + j) ≡ 0) → Left i p → (k : ℕ) → at p k % 65536 ≡ conv f g k % 65536
  left_all i p past left k =
      let empty : shifted i (conv (λ j. f (i + j)) g) k ≡ 0 =
      shifted_same i _ _ (λ j. ap (λ d. conv d g j) (λ t u. past u t) ∙ conv_none g j) k ∙ shifted_none i k in
      omega (arith, empty, left k)

-- the part of a padded list behind the zeros is the list, widened
pub widened : (w n : ℕ) (xs ys : List ℕ) → w ≡ n → length xs ≤ n → Padded xs ys
    → (k : ℕ) → at (take w (drop 8 ys)) k ≡ at xs k
widened w n xs ys wide short places_of k = ⊎_elim within past (cases_lt k n)
  where
    within : k < n → at (take w (drop 8 ys)) k ≡ at xs k
    within h = let p : at ys (8 + k) ≡ shifted 8 (at xs) (8 + k) = places_of (8 + k) in search (rules, places, p, shifted_above 8 (at xs) (8 + k) (omega arith))

    past : n ≤ k → at (take w (drop 8 ys)) k ≡ at xs k
    past h = search (rules, places)
