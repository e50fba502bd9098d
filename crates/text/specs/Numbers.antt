-- Decimal numbers.
use Rattle.std.specs.Prelude.{ℕ, ◌+◌, ◌-◌, ◌*◌, Bool, if◌then◌else◌, ◌&&◌, List, length, Ok, Err, fold, Result, nat_le, nat_lt}
use Rattle.std.specs.Str.{all_ascii_digits}
use Rattle.text.specs.declared.faults.Problem.{Problem}
use Rattle.text.specs.declared.faults.Problem.TheVariants.{NotANumber, TooLarge}

-- one digit or more, and nothing else: `all_ascii_digits` says that each byte is from 48 to 57
abbrev pub is_number : List ℕ → Bool
is_number bs = nat_lt 0 (length bs) && all_ascii_digits bs

-- the number n with one more digit b, by its byte
abbrev pub shifted : ℕ → ℕ → ℕ
shifted n b = 10 * n + (b - 48)

-- the number that the digits write, read from the left
abbrev pub value_of : List ℕ → ℕ
value_of bs = fold shifted 0 bs

-- what bs give as a number of at most `most`
abbrev pub reading : List ℕ → ℕ → Result ℕ Problem
reading bs most =
    if is_number bs
    then if nat_le (value_of bs) most then Ok (value_of bs) else Err (TooLarge most)
    else Err NotANumber
