-- What is printed. Assumes nothing.
use Rattle.std.specs.Prelude.{ℕ, List, ◌++◌, ℤ, codes, decimal}
use Rattle.std.specs.Fmt.{signed_decimal}
use Rattle.names.specs.Names.{name_text}
use Rattle.text.specs.Shown.{spaced}
use Rattle.office.specs.declared.headers.Header.{Header}

-- the kind, how many shares there were, and the label of their sum
abbrev pub heading : Header → List ℕ
heading h = codes "kind: " ++ (name_text h.name ++ (codes "\nshares: " ++ (decimal h.shares ++ codes "\nelement:")))

-- three lines: the last has the words of the sum
abbrev pub element_lines : Header → List ℕ → List ℕ
element_lines h ws = heading h ++ (spaced decimal ws ++ codes "\n")

-- a line with the centred numbers
abbrev pub centred_line : List ℤ → List ℕ
centred_line zs = codes "centred:" ++ (spaced signed_decimal zs ++ codes "\n")
