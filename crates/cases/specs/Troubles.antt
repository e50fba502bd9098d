-- Troubles of the text, and want of memory. Assumes nothing.
use Rattle.std.specs.Prelude.{◌≡◌, ℕ, ◌⊎◌, List, Ok, Err, string_bytes, Result, String}
use Rattle.std.specs.declared.alloc.Global.{Global}
use Rattle.text.specs.declared.lists.WordsError.{WordsError}
use Rattle.text.specs.declared.lists.WordsError.TheVariants.{Bad, Memory as NoMemory}
use Rattle.cases.specs.declared.troubles.Trouble.{Trouble}
use Rattle.cases.specs.declared.troubles.Trouble.TheVariants.{BadText, Memory}

-- why there are no words, as a trouble
abbrev pub trouble_of : WordsError → Trouble
trouble_of (Bad f) = BadText f
trouble_of NoMemory = Memory

-- the bytes of a text, or why there is none
abbrev pub bytes_of : Result (String Global) Trouble → Result (List ℕ) Trouble
bytes_of (Ok t) = Ok (string_bytes t)
bytes_of (Err t) = Err t

-- what P says of the text or the trouble, unless memory runs out
abbrev pub UnlessMemory : (Result (List ℕ) Trouble → Type 0) → Result (String Global) Trouble → Type 0
UnlessMemory P r = P (bytes_of r) ⊎ (r ≡ Err Memory)
