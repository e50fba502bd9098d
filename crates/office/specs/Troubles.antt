-- Troubles of the text, and want of memory. Assumes nothing.
use Rattle.std.specs.Prelude.{◌≡◌, ◌⊎◌, Err, Result}
use Rattle.text.specs.declared.lists.WordsError.{WordsError}
use Rattle.text.specs.declared.lists.WordsError.TheVariants.{Bad, Memory as NoMemory}
use Rattle.office.specs.declared.troubles.Trouble.{Trouble}
use Rattle.office.specs.declared.troubles.Trouble.TheVariants.{BadText, Memory}

-- why there are no words, as a trouble
abbrev pub trouble_of : WordsError → Trouble
trouble_of (Bad f) = BadText f
trouble_of NoMemory = Memory

-- the expected answer, unless memory runs out
abbrev pub UnlessMemory : {X : Type 0} → Result X Trouble → Result X Trouble → Type 0
UnlessMemory expected r = (r ≡ expected) ⊎ (r ≡ Err Memory)
