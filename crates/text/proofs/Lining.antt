-- A line and what comes after it, by the definitions of specs/Lines.antt.
use Rattle.std.proofs.Common.{◌≡◌, ℕ, ◌+◌, ◌<◌, ◌≤◌, min, true, false, not, List, [], ◌∷◌, length, take, drop, ◌==◌, sym, refl, ap, ◌∙◌, arith, inl, inr}
use Rattle.std.specs.List.{position_or_len}
use Rattle.std.proofs.lemmas.Bool.{cases_lt}
use Rattle.std.proofs.lemmas.List.{at_drop_more, drop_all, drop-drop, drop-take, length-take, length-drop}
use Rattle.std.proofs.lemmas.List.Folds.{length-prefix_len}
use Rattle.std.proofs.lemmas.List.Sums.{prefix_len-le-length}
use Rattle.text.proofs.Cutting.{cut_at}
use Rattle.text.specs.Lines.{first_line, lines_from, lines_at}
use Rattle.text.specs.Tokens.{tokens_from, tokens_at}

module _ (bs : List ℕ) (i : ℕ) where
  -- the next line starts behind the line feed
  past_line : lines_from true i (drop i bs) ≡ lines_at (i + length (first_line (drop i bs)) + 1) bs
  past_line =
      cut_at (λ b. b == 10) (lines_from true) (λ i l. lines_from false (i + 1) (drop 1 l))
      (λ i. refl) (λ i b l other. ap (λ t. lines_from (not t) (i + 1) l) other) (λ i b l feed. ap (λ t. lines_from (not t) (i + 1) l) feed) i bs
      ∙ ap (lines_from false _) (drop-drop 1 _ bs)
      ∙ ap (λ n. lines_at (i + n + 1) bs) (sym (length-prefix_len (λ b. not (b == 10)) (drop i bs)))

  -- a line starts at i
  line_here : i < length bs → lines_at i bs ≡ tokens_from false i (first_line (drop i bs)) ∷ lines_from true i (drop i bs)
  line_here h =
      at_drop_more (lines_from false i) bs i 0 h
      ∙ sym (at_drop_more (λ l. tokens_from false i (first_line l) ∷ lines_from true i l) bs i 0 h)

  -- the first line is n bytes long
  module _ (n : ℕ) (is : n ≡ length (first_line (drop i bs))) (h : i < length bs) where
    len_is : n ≡ position_or_len (λ b. b == 10) (drop i bs)
    len_is = is ∙ length-prefix_len (λ b. not (b == 10)) (drop i bs)

    line_ends : length (take (i + n) bs) ≡ i + n
    line_ends = omega (arith, length-take (i + n) bs, length-drop i bs, prefix_len-le-length (λ b. not (b == 10)) (drop i bs), len_is)

    pub line_next : lines_at i bs ≡ tokens_at i (take (i + n) bs) ∷ lines_at (length (take (i + n) bs) + 1) bs
    line_next =
        let bytes : first_line (drop i bs) ≡ drop i (take (i + n) bs) = ap (λ k. take k (drop i bs)) (sym len_is) ∙ sym (drop-take i n bs) in
        let after : i + length (first_line (drop i bs)) + 1 ≡ length (take (i + n) bs) + 1 = omega (arith, is, line_ends) in
        line_here h ∙ (λ k. tokens_from false i (bytes k) ∷ (past_line ∙ ap (λ j. lines_at j bs) after) k)

-- past the end there are as few lines as at the end
pub lines_capped : (i : ℕ) (bs : List ℕ) → lines_at (min i (length bs)) bs ≡ lines_at i bs
lines_capped i bs =
    elim (cases_lt (length bs) i) [
      | inl past ↦ let none : (j : ℕ) → length bs ≤ j → lines_at j bs ≡ [] = λ j h. ap (lines_from false j) (drop_all j bs h) in none _ (omega arith) ∙ sym (none i (omega arith))
      | inr within ↦ ap (λ j. lines_at j bs) (omega arith)
    ]
