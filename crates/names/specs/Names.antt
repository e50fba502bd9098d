-- The kinds that are put together: their sizes, and how each is printed and read. Assumes nothing.
use Rattle.std.specs.Prelude.{ℕ, ◌-◌, ◌^◌, List, [], ◌∷◌, codes, find, Option}
use Rattle.std.specs.Str.{bytes_eq}
use Rattle.names.specs.declared.naming.Name.{Name}
use Rattle.names.specs.declared.naming.Name.TheVariants.{Q3, Q509, Q677, Q701, Q821, T3, T509, T677, T701, T821, W}

-- how a kind is printed
abbrev pub name_text : Name → List ℕ
name_text Q3 = codes "Q(3,3)"
name_text Q509 = codes "Q(509,11)"
name_text Q677 = codes "Q(677,11)"
name_text Q701 = codes "Q(701,13)"
name_text Q821 = codes "Q(821,12)"
name_text T3 = codes "T(3)"
name_text T509 = codes "T(509)"
name_text T677 = codes "T(677)"
name_text T701 = codes "T(701)"
name_text T821 = codes "T(821)"
name_text W = codes "W"

-- the first of these kinds that is printed so
abbrev pub among : List Name → List ℕ → Option Name
among names bs = find (λ n. bytes_eq (name_text n) bs) names

-- the kind that is printed so
abbrev pub name_of : List ℕ → Option Name
name_of bs = among (Q3 ∷ Q509 ∷ Q677 ∷ Q701 ∷ Q821 ∷ T3 ∷ T509 ∷ T677 ∷ T701 ∷ T821 ∷ W ∷ []) bs

-- for polynomials of n coefficients modulo q, what `poly` says of n and q: Q(l, k) has l - 1 modulo 2^k, T(l) has l - 1 modulo 3; for W, `bits`
abbrev pub by_size : Name → (ℕ → ℕ → Type 0) → Type 0 → Type 0
by_size Q3 poly bits = poly (3 - 1) (2 ^ 3)
by_size Q509 poly bits = poly (509 - 1) (2 ^ 11)
by_size Q677 poly bits = poly (677 - 1) (2 ^ 11)
by_size Q701 poly bits = poly (701 - 1) (2 ^ 13)
by_size Q821 poly bits = poly (821 - 1) (2 ^ 12)
by_size T3 poly bits = poly (3 - 1) 3
by_size T509 poly bits = poly (509 - 1) 3
by_size T677 poly bits = poly (677 - 1) 3
by_size T701 poly bits = poly (701 - 1) 3
by_size T821 poly bits = poly (821 - 1) 3
by_size W poly bits = bits
