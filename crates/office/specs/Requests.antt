-- What is asked for. Assumes nothing.
use Rattle.std.specs.Prelude.{◌≡◌, ℕ, ◌⊎◌, List, length, Ok, Err, vec_items, Result}
use Rattle.text.specs.Lines.{first_line}
use Rattle.text.specs.Readings.{words_of}
use Rattle.text.specs.Tokens.{tokens_of, tokens_at}
use Rattle.text.specs.declared.faults.Fault.{Fault}
use Rattle.office.specs.Headers.{header}
use Rattle.office.specs.declared.headers.Header.{Header}
use Rattle.office.specs.declared.requests.Request.{Request}
use Rattle.office.specs.declared.troubles.Trouble.{Trouble}
use Rattle.office.specs.declared.troubles.Trouble.TheVariants.{BadText, Memory}

-- a header and the words behind it
abbrev pub with_words : Result Header Trouble → Result (List ℕ) Fault → Result (Header × List ℕ) Trouble
with_words (Ok h) (Ok ws) = Ok (h, ws)
with_words (Ok h) (Err f) = Err (BadText f)
with_words (Err t) ws = Err t

-- what the whole input asks for: the first line has the kind and the number of shares, the others have the words
abbrev pub asked : List ℕ → Result (Header × List ℕ) Trouble
asked input = with_words (header (tokens_of (first_line input))) (words_of (tokens_at (length (first_line input)) input))

-- a request of the code
abbrev pub contents : Request → Header × List ℕ
contents q = (q.header, vec_items q.words)

-- what is found in the input, unless memory runs out
abbrev pub Requested : List ℕ → Result Request Trouble → Type 0
Requested input (Ok q) = asked input ≡ Ok (contents q)
Requested input (Err t) = (asked input ≡ Err t) ⊎ (t ≡ Memory)
