-- What is answered to an input. Assumes nothing.
use Rattle.std.specs.Prelude.{◌≡◌, ℕ, ◌⊎◌, List, ◌++◌, ℤ, Ok, Err, string_bytes, Result, String}
use Rattle.std.specs.declared.alloc.Global.{Global}
use Rattle.kinds.specs.Bits.{ops as bit_ops, coding as bit_coding}
use Rattle.kinds.specs.Ring.{Ops}
use Rattle.kinds.specs.Words.{Coding, Unread}
use Rattle.names.specs.Names.{by_size}
use Rattle.poly.specs.Centred.{centred_numbers}
use Rattle.poly.specs.Elements.{ops, coding}
use Rattle.office.specs.Report.{element_lines, centred_line}
use Rattle.office.specs.Requests.{asked}
use Rattle.office.specs.Sums.{SumOf, Came}
use Rattle.office.specs.declared.headers.Header.{Header}
use Rattle.office.specs.declared.troubles.Trouble.{Trouble}
use Rattle.office.specs.declared.troubles.Trouble.TheVariants.{Memory}

-- a text that the sum of m elements with these words gives, or why they are refused
abbrev pub Reported : {M : Type 0} → Ops M → Coding M → (M → List ℕ) → ℕ → List ℕ → Result (String Global) Trouble → Type 0
Reported {M} R C page m ws r =
    Came (λ t. (x : M) × SumOf R C m ws x × (string_bytes t ≡ page x)) (Unread C m ws) r

-- a polynomial's page has its words and its centred numbers
abbrev pub Polynomial : {M : Type 0} → Ops M → Coding M → (M → List ℤ) → Header → List ℕ → Result (String Global) Trouble → Type 0
Polynomial R C numbers h ws r =
    Reported R C (λ x. element_lines h (C.words x) ++ centred_line (numbers x)) h.shares ws r

-- the page of an element of W has its words
abbrev pub Bits : {M : Type 0} → Ops M → Coding M → Header → List ℕ → Result (String Global) Trouble → Type 0
Bits R C h ws r = Reported R C (λ x. element_lines h (C.words x)) h.shares ws r

-- polynomials of n coefficients modulo q
abbrev pub Sized : ℕ → ℕ → Header → List ℕ → Result (String Global) Trouble → Type 0
Sized n q h ws r = Polynomial (ops n q) (coding n q) centred_numbers h ws r

-- the report in the kind that the header names
abbrev pub ByName : Header → List ℕ → Result (String Global) Trouble → Type 0
ByName h ws r = by_size h.name (λ n q. Sized n q h ws r) (Bits bit_ops bit_coding h ws r)

-- the answer to what was asked, or what is wrong with the text
abbrev pub Answered : Result (Header × List ℕ) Trouble → Result (String Global) Trouble → Type 0
Answered (Ok q) r = ByName q.0 q.1 r
Answered (Err t) r = (r ≡ Err t) ⊎ (r ≡ Err Memory)

abbrev pub Answers : List ℕ → Result (String Global) Trouble → Type 0
Answers input r = Answered (asked input) r
