-- What the first line asks for. Assumes nothing.
use Rattle.std.specs.Prelude.{ℕ, cond, ◌&&◌, List, [], ◌∷◌, codes, Some, None, Ok, Err, Option, Result, ◌==◌, nat_le}
use Rattle.std.specs.Str.{bytes_eq}
use Rattle.names.specs.declared.naming.Name.{Name}
use Rattle.names.specs.declared.naming.Name.TheVariants.{Q3, Q509, Q677, Q701, Q821, T3, T509, T677, T701, T821, W}
use Rattle.text.specs.Readings.{words_of}
use Rattle.text.specs.Tokens.{Word}
use Rattle.text.specs.declared.faults.Fault.{Fault}
use Rattle.office.specs.declared.headers.Header.{Header}
use Rattle.office.specs.declared.troubles.Trouble.{Trouble}
use Rattle.office.specs.declared.troubles.Trouble.TheVariants.{Header as NoHeader, ShareCount, BadText}

-- the kind Q(l, k), where it is put together
abbrev pub q_name : ℕ → ℕ → Option Name
q_name l k =
    cond (l == 3 && k == 3) (Some Q3)
    (cond (l == 509 && k == 11) (Some Q509)
    (cond (l == 677 && k == 11) (Some Q677)
    (cond (l == 701 && k == 13) (Some Q701)
    (cond (l == 821 && k == 12) (Some Q821) None))))

-- the kind T(l), where it is put together
abbrev pub t_name : ℕ → Option Name
t_name l =
    cond (l == 3) (Some T3)
    (cond (l == 509) (Some T509)
    (cond (l == 677) (Some T677)
    (cond (l == 701) (Some T701)
    (cond (l == 821) (Some T821) None))))

-- a kind, with a number of shares
abbrev pub with_shares : ℕ → Option Name → Option Header
with_shares m None = None
with_shares m (Some name) = Some (record { name = name; shares = m })

-- Q l k shares
abbrev pub q_named : List ℕ → Option Header
q_named [] = None
q_named (l ∷ []) = None
q_named (l ∷ k ∷ []) = None
q_named (l ∷ k ∷ m ∷ []) = with_shares m (q_name l k)
q_named (l ∷ k ∷ m ∷ n ∷ ns) = None

-- T l shares
abbrev pub t_named : List ℕ → Option Header
t_named [] = None
t_named (l ∷ []) = None
t_named (l ∷ m ∷ []) = with_shares m (t_name l)
t_named (l ∷ m ∷ n ∷ ns) = None

-- W shares
abbrev pub w_named : List ℕ → Option Header
w_named [] = None
w_named (m ∷ []) = with_shares m (Some W)
w_named (m ∷ n ∷ ns) = None

-- the first token, Q, T or W, and the numbers behind it
abbrev pub named : List ℕ → List ℕ → Option Header
named token ns =
    cond (bytes_eq token (codes "Q")) (q_named ns)
    (cond (bytes_eq token (codes "T")) (t_named ns)
    (cond (bytes_eq token (codes "W")) (w_named ns) None))

-- a kind with at most 64 shares, or what is wrong with the line whose first token has this offset
abbrev pub limited : ℕ → Option Header → Result Header Trouble
limited at None = Err (NoHeader at)
limited at (Some h) = cond (nat_le h.shares 64) (Ok h) (Err (ShareCount at))

-- the same, from the numbers behind the first token
abbrev pub from_numbers : Word → Result (List ℕ) Fault → Result Header Trouble
from_numbers w (Ok ns) = limited w.offset (named w.bytes ns)
from_numbers w (Err f) = Err (BadText f)

-- what the tokens of the first line ask for
abbrev pub header : List Word → Result Header Trouble
header [] = Err (NoHeader 0)
header (w ∷ ws) = from_numbers w (words_of ws)
