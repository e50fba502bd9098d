-- A product from three products of halves, modulo 2^16. Assumes nothing.
use Rattle.std.proofs.Common.{◌≡◌, ℕ, ◌+◌, ◌-◌, ◌/◌, ◌%◌, ◌<◌, ◌≤◌, List, ◌++◌, length, sym, ap, ◌∙◌, ap₂, ⊎_elim, arith}
use borrow.Rule.Slice.PartMut.{mid_of, put_mid}
use Rattle.std.proofs.lemmas.List.{get_or_past, get_or_append_left, get_or-append_right}
use Rattle.std.proofs.lemmas.Bool.{cases_lt}
use Rattle.poly.specs.Lanes.{conv, shifted, Holds, Joined}
use Rattle.poly.specs.Lists.{at}
use Rattle.poly.proofs.Convolutions.{shifted_below, shifted_above, shifted_same, shifted_plus, shifted_mod, shifted_shifted, plus_conv, conv_plus, shifted_conv, conv_shifted, conv_past, conv_mod}
use Rattle.poly.proofs.Windows.{added}

-- what is left of the middle, l, is added to p, half way
pub joined : (n w : ℕ) (p m l s : List ℕ) → w ≡ n → n / 2 + w ≤ length p → length s ≡ w → length m ≡ n → length l ≡ n
    → ((k : ℕ) → k < n → (at l k + at p k + at p (n + k)) % 65536 ≡ at m k % 65536)
    → Holds (λ k. at (mid_of (n / 2) w p) k + at l k) s → Joined p m (put_mid (n / 2) w p s)
joined n w p m l s wide inside long long_m long_l taken holds = record {
  d = at l;
  left = λ k z. ap (λ j. (at l k + at p k + at p (j + k)) % 65536) long_m ∙ taken k (omega arith);
  past = λ k z. get_or_past l k 0 (omega arith);
  added = λ k. added (n / 2) w p s inside long (at l) holds (λ j z. get_or_past l j 0 (omega arith)) k
      ∙ ap (λ j. (at p k + shifted (j / 2) (at l) k) % 65536) (sym long_m);
}

-- a list in two parts: the first h places and the others, h places later
split : (h : ℕ) (xs ys : List ℕ) → length xs ≡ h → (k : ℕ) → at (xs ++ ys) k ≡ at xs k + shifted h (at ys) k
split h xs ys long k =
    ⊎_elim
    (λ z. omega (arith, get_or_append_left xs ys 0 k (omega arith), shifted_below h (at ys) k z))
    (λ z. omega (arith, get_or-append_right xs ys h k 0 long z, get_or_past xs k 0 (omega arith), shifted_above h (at ys) k z))
    (cases_lt k h)

-- the product of two sums of halves
four : (h : ℕ) (f d g e : ℕ → ℕ) (k : ℕ)
    → conv (λ i. f i + shifted h d i) (λ i. g i + shifted h e i) k
    ≡ conv f g k + shifted h (λ j. conv f e j + conv d g j) k + shifted (h + h) (conv d e) k
four h f d g e k =
    let a = plus_conv f (shifted h d) (λ i. g i + shifted h e i) k in
    let b = conv_plus f g (shifted h e) k ∙ ap (conv f g k +◌) (conv_shifted h f e k) in
    let c = shifted_conv h d (λ i. g i + shifted h e i) k
    ∙ shifted_same h _ _ (λ j. conv_plus d g (shifted h e) j ∙ ap (conv d g j +◌) (conv_shifted h d e j)) k
    ∙ shifted_plus h (conv d g) (shifted h (conv d e)) k
    ∙ ap (shifted h (conv d g) k +◌) (shifted_shifted h h (conv d e) k) in
    omega (arith, a, b, c, shifted_plus h (conv f e) (conv d g) k)

-- a list with the product of two halves has it at every place
module _ (n h : ℕ) (whole : n ≡ h + h) where
  everywhere : (f g : ℕ → ℕ) (xs : List ℕ) → ((i : ℕ) → h ≤ i → f i ≡ 0) → ((i : ℕ) → h ≤ i → g i ≡ 0)
      → length xs ≡ n → Holds (conv f g) xs → (k : ℕ) → at xs k % 65536 ≡ conv f g k % 65536
  everywhere f g xs p q long holds k =
      ⊎_elim (λ z. holds k (omega arith))
      (λ z. ap (λ v. v % 65536) (get_or_past xs k 0 (omega arith) ∙ sym (conv_past h h f g p q k (omega arith))))
      (cases_lt k n)

  -- and one with the sums of two halves has these
  sums_everywhere : (f g : ℕ → ℕ) (xs : List ℕ) → ((i : ℕ) → h ≤ i → f i ≡ 0) → ((i : ℕ) → h ≤ i → g i ≡ 0)
      → length xs ≡ h → Holds (λ k. f k + g k) xs → (k : ℕ) → at xs k % 65536 ≡ (f k + g k) % 65536
  sums_everywhere f g xs p q long holds k =
      ⊎_elim (λ z. holds k (omega arith)) (λ z. omega (arith, get_or_past xs k 0 (omega arith), p k z, q k z)) (cases_lt k h)

  -- the product of a and b from those of the lower halves, of the upper halves and of the sums of both
  pub halves : (a b a0 a1 b0 b1 sa sb low high m r : List ℕ)
      → a ≡ a0 ++ a1 → b ≡ b0 ++ b1 → length a0 ≡ h → length a1 ≡ h → length b0 ≡ h → length b1 ≡ h
      → length sa ≡ h → Holds (λ k. at a0 k + at a1 k) sa → length sb ≡ h → Holds (λ k. at b0 k + at b1 k) sb
      → length low ≡ n → Holds (conv (at a0) (at b0)) low → length high ≡ n → Holds (conv (at a1) (at b1)) high
      → length m ≡ n → Holds (conv (at sa) (at sb)) m
      → Joined (low ++ high) m r → (k : ℕ) → at r k % 65536 ≡ conv (at a) (at b) k % 65536
  halves a b a0 a1 b0 b1 sa sb low high m r parts_a parts_b long_a0 long_a1 long_b0 long_b1
      long_sa holds_sa long_sb holds_sb long_low holds_low long_high holds_high long_m holds_m join k =
      let end : (xs : List ℕ) → length xs ≡ h → (i : ℕ) → h ≤ i → at xs i ≡ 0 = λ xs e i z. get_or_past xs i 0 (omega arith) in
      let past : (xs ys : List ℕ) → length xs ≡ h → length ys ≡ h → (j : ℕ) → n ≤ j → conv (at xs) (at ys) j ≡ 0 =
      λ xs ys e f j z. conv_past h h (at xs) (at ys) (end xs e) (end ys f) j (omega arith) in
      let lows = everywhere (at a0) (at b0) low (end a0 long_a0) (end b0 long_b0) long_low holds_low in
      let highs = everywhere (at a1) (at b1) high (end a1 long_a1) (end b1 long_b1) long_high holds_high in
      let middles = everywhere (at sa) (at sb) m (end sa long_sa) (end sb long_sb) long_m holds_m in
      let sums_a = sums_everywhere (at a0) (at a1) sa (end a0 long_a0) (end a1 long_a1) long_sa holds_sa in
      let sums_b = sums_everywhere (at b0) (at b1) sb (end b0 long_b0) (end b1 long_b1) long_sb holds_sb in
      -- the products of one half with the other
      let d : ℕ → ℕ = λ j. conv (at a0) (at b1) j + conv (at a1) (at b0) j in
      let none : (j : ℕ) → n ≤ j → d j ≡ 0 =
      λ j z. omega (arith, past a0 b1 long_a0 long_b1 j z, past a1 b0 long_a1 long_b0 j z) in
      let all : (j : ℕ) → at m j % 65536 ≡ (conv (at a0) (at b0) j + d j + conv (at a1) (at b1) j) % 65536 =
      λ j. middles j ∙ conv_mod 65536 (at sa) (at sb) _ _ sums_a sums_b j
      ∙ ap (λ v. v % 65536) (nine j) in
      let left : (j : ℕ) → join.d j % 65536 ≡ d j % 65536 =
      λ j. ⊎_elim
      (λ z. omega (
        arith,
        ap (λ l. (join.d j + at (low ++ high) j + at (low ++ high) (l + j)) % 65536) (sym long_m) ∙ join.left j (omega arith),
        get_or_append_left low high 0 j (omega arith),
        get_or-append_right low high n (n + j) 0 long_low (omega arith) ∙ ap (at high) (behind j),
        lows j,
        highs j,
        all j,
      ))
      (λ z. omega (arith, join.past j (omega arith), none j z))
      (cases_lt j n) in
      let both : at (low ++ high) k % 65536 ≡ (conv (at a0) (at b0) k + shifted n (conv (at a1) (at b1)) k) % 65536 =
      omega (arith, split n low high long_low k, lows k, shifted_mod n 65536 (at high) (conv (at a1) (at b1)) highs k) in
      let result : at r k % 65536 ≡ (at (low ++ high) k + shifted h join.d k) % 65536 =
      join.added k ∙ ap (λ i. (at (low ++ high) k + shifted i join.d k) % 65536) (half (length m) long_m) in
      let whole_product : conv (at a) (at b) k ≡ conv (at a0) (at b0) k + shifted h d k + shifted (h + h) (conv (at a1) (at b1)) k =
      ap₂ (λ f g. conv f g k) (λ t i. (ap (λ xs. at xs i) parts_a ∙ split h a0 a1 long_a0 i) t) (λ t i. (ap (λ xs. at xs i) parts_b ∙ split h b0 b1 long_b0 i) t)
      ∙ four h (at a0) (at a1) (at b0) (at b1) k in
      omega (arith, result, shifted_mod h 65536 join.d d left k, whole_product, both, ap (λ i. shifted i (conv (at a1) (at b1)) k) whole)
    where
      behind : (j : ℕ) → n + j - n ≡ j
      behind j = omega arith

      half : (l : ℕ) → l ≡ n → l / 2 ≡ h
      half l e = omega arith

      nine : (j : ℕ) → conv (λ i. at a0 i + at a1 i) (λ i. at b0 i + at b1 i) j
          ≡ conv (at a0) (at b0) j + (conv (at a0) (at b1) j + conv (at a1) (at b0) j) + conv (at a1) (at b1) j
      nine j = omega (arith, plus_conv (at a0) (at a1) (λ i. at b0 i + at b1 i) j, conv_plus (at a0) (at b0) (at b1) j, conv_plus (at a1) (at b0) (at b1) j)
