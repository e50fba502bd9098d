-- What a program writes of its answer. Assumes nothing.
use Rattle.std.specs.Prelude.{◌≡◌, ℕ, List, IfSome, Ok, Err, string_bytes, Option, Result, String}
use Rattle.std.specs.Fmt.{with_newline}
use Rattle.std.specs.Io.KnownBytes.{Appends}
use Rattle.std.specs.declared.alloc.Global.{Global}
use Rattle.std.specs.declared.process.ExitCode.{ExitCode}
use Rattle.std.specs.declared.process.TheConstants.ExitCode.{SUCCESS, FAILURE}

-- what two streams hold before and after an answer, and the status: a text went to the first; what is told of a trouble, as a line, to the second
abbrev pub Writes : {T : Type 0} → (T → Option (List ℕ)) → Result (String Global) T → Option (List ℕ) → Option (List ℕ) → Option (List ℕ) → Option (List ℕ) → ExitCode → Type 0
Writes told (Ok text) output output' errors errors' status = Appends output output' (string_bytes text) × (errors' ≡ errors) × (status ≡ SUCCESS)
Writes told (Err e) output output' errors errors' status = (output' ≡ output) × IfSome (with_newline (told e)) (Appends errors errors') × (status ≡ FAILURE)
