-- A token and what stands around it, by the definitions of specs/Tokens.antt.
use Rattle.std.proofs.Common.{◌≡◌, ℕ, ◌+◌, ◌<◌, ◌≤◌, Bool, true, false, not, List, [], ◌∷◌, length, get_or, drop, sym, refl, ap, ◌∙◌, arith}
use Rattle.std.specs.Char.{is_ascii_whitespace}
use Rattle.std.specs.List.{position_or_len}
use Rattle.std.proofs.lemmas.Bool.{cond-true, cond-false, not-true, not-false}
use Rattle.std.proofs.lemmas.List.{at_drop_more, drop_all, get_or-drop, length-drop}
use Rattle.std.proofs.lemmas.List.Folds.{length-prefix_len}
use Rattle.std.proofs.lemmas.List.Sums.{passes_at_first}
use Rattle.text.proofs.Cutting.{cut_at}
use Rattle.text.specs.Tokens.{run, tokens_from, tokens_at}

-- a byte of a token
abbrev pub in_token : ℕ → Bool
in_token b = not (is_ascii_whitespace b)

-- a token starts at a byte that is not white space
token_starts : (i b : ℕ) (l : List ℕ) → is_ascii_whitespace b ≡ false → tokens_from false i (b ∷ l) ≡ record { bytes = run (b ∷ l); offset = i } ∷ tokens_from true i (b ∷ l)
token_starts i b l e = cond-false _ _ _ e ∙ ap (λ ws. record { bytes = run (b ∷ l); offset = i } ∷ ws) (sym (cond-false _ _ _ e))

module _ (bs : List ℕ) (i : ℕ) where
  -- white space holds no token
  past_white : tokens_at i bs ≡ tokens_at (i + position_or_len in_token (drop i bs)) bs
  past_white =
      cut_at in_token (tokens_from false) (tokens_from false)
      (λ i. refl) (λ i b l e. cond-true _ _ _ (not-false _ e)) (λ i b l e. refl) i bs

  -- nor does the rest of a token hold another one
  past_token : tokens_from true i (drop i bs) ≡ tokens_at (i + length (run (drop i bs))) bs
  past_token =
      cut_at is_ascii_whitespace (tokens_from true) (tokens_from false)
      (λ i. refl) (λ i b l e. cond-false _ _ _ e) (λ i b l e. cond-true _ _ _ e ∙ sym (cond-true _ _ _ e)) i bs
      ∙ ap (λ n. tokens_at (i + n) bs) (sym (length-prefix_len in_token (drop i bs)))

  -- a token starts at i where that byte is part of one
  token_here : i < length bs → is_ascii_whitespace (get_or bs i 0) ≡ false → tokens_at i bs ≡ record { bytes = run (drop i bs); offset = i } ∷ tokens_from true i (drop i bs)
  token_here h e =
      at_drop_more (tokens_from false i) bs i 0 h
      ∙ token_starts i (get_or bs i 0) (drop (i + 1) bs) e
      ∙ sym (at_drop_more (λ l. record { bytes = run l; offset = i } ∷ tokens_from true i l) bs i 0 h)

module _ (bs : List ℕ) (i a : ℕ) (is : a ≡ i + position_or_len in_token (drop i bs)) where
  -- where no byte of a token is left, no token is
  pub no_token : length bs ≤ a → tokens_at i bs ≡ []
  no_token none = past_white bs i ∙ ap (tokens_from false _) (drop_all _ bs (omega (arith, is, none)))

  -- the first token starts at a
  pub token_next : (word : List ℕ) → a < length bs → word ≡ run (drop a bs) → tokens_at i bs ≡ record { bytes = word; offset = a } ∷ tokens_at (a + length word) bs
  token_next word h word_is =
      let n = position_or_len in_token (drop i bs) in
      let starts : in_token (get_or (drop i bs) n 0) ≡ true = passes_at_first in_token (drop i bs) 0 (omega (arith, length-drop i bs, is, h)) in
      let other : is_ascii_whitespace (get_or bs a 0) ≡ false = ap (λ j. is_ascii_whitespace (get_or bs j 0)) is ∙ ap is_ascii_whitespace (sym (get_or-drop i bs n 0)) ∙ not-true _ starts in
      past_white bs i
      ∙ ap (λ j. tokens_at j bs) (sym is)
      ∙ token_here bs a h other
      ∙ ap (λ ws. record { bytes = run (drop a bs); offset = a } ∷ ws) (past_token bs a)
      ∙ ap (λ l. record { bytes = l; offset = a } ∷ tokens_at (a + length l) bs) (sym word_is)
