-- The number that a word writes.
use Rattle.std.specs.Prelude.{ℕ, List, if◌then◌else◌, Ok, Err, Result, nat_lt}
use Rattle.std.specs.Str.Parse.{digits_value}
use Rattle.commands.specs.Words.{is_numeral}
use Rattle.commands.specs.declared.fault.Fault.{Fault}
use Rattle.commands.specs.declared.fault.Fault.TheVariants.{NotANumber, NumberTooLarge}

-- The largest number that a command takes.
abbrev pub largest_number : ℕ
largest_number = 4294967295

unfoldable pub number_in : List ℕ → Result ℕ Fault
number_in word =
    if is_numeral word
    then (if nat_lt largest_number (digits_value 10 word) then Err NumberTooLarge else Ok (digits_value 10 word))
    else Err NotANumber
