-- White space, and the tokens of a byte list.
use Rattle.std.specs.Prelude.{ℕ, ◌+◌, Bool, true, false, if◌then◌else◌, List, [], ◌∷◌, ◌++◌, drop}
use Rattle.std.specs.Char.{is_ascii_whitespace}
use Rattle.std.specs.List.{before_first}
use Rattle.text.specs.declared.tokens.Reader.{Reader}
use Rattle.text.specs.declared.tokens.Token.{Token}

-- the bytes before the first white space: tab 9, line feed 10, form feed 12, carriage return 13 or space 32
abbrev pub run : List ℕ → List ℕ
run bs = before_first is_ascii_whitespace bs

-- a token's bytes, and the offset of the first of them
pub record Word : Type 0 where
  pub bytes : List ℕ
  pub offset : ℕ

-- the token that starts with bs at offset i; none if it goes on from before, `inside`
abbrev pub starts : Bool → ℕ → List ℕ → List Word
starts inside i bs = if inside then [] else record { bytes = run bs; offset = i } ∷ []

-- the tokens that start in bs, whose first byte has offset i; `inside` says that the byte before it is part of a token
abbrev pub tokens_from : Bool → ℕ → List ℕ → List Word
tokens_from inside i [] = []
tokens_from inside i (b ∷ bs) = if is_ascii_whitespace b then tokens_from false (i + 1) bs else starts inside i (b ∷ bs) ++ tokens_from true (i + 1) bs

-- the tokens of bs from offset i on
abbrev pub tokens_at : ℕ → List ℕ → List Word
tokens_at i bs = tokens_from false i (drop i bs)

-- all the tokens of bs
abbrev pub tokens_of : List ℕ → List Word
tokens_of bs = tokens_from false 0 bs

-- the tokens that a reader has yet to give
abbrev pub to_come : Reader → List Word
to_come r = tokens_at r.at r.text.now

-- a token of the code
abbrev pub word : Token → Word
word t = record { bytes = t.text.now; offset = t.at }
