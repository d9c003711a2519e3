-- The command that a line is, and what is wrong with a line that is none.
use Rattle.std.specs.Prelude.{ℕ, Bool, not, ◌&&◌, if◌then◌else◌, List, [], ◌∷◌, length, codes, Some, None, Ok, Err, Option, Result, ◌==◌, nat_lt, slice_index}
use Rattle.std.specs.Option.{unwrap_or}
use Rattle.std.specs.Str.{bytes_eq}
use Rattle.commands.specs.declared.command.Command.{Command}
use Rattle.commands.specs.declared.command.Command.TheVariants.{Nothing, New, Keeps, FirstKept, Kept, Why, Help}
use Rattle.commands.specs.declared.fault.Fault.{Fault}
use Rattle.commands.specs.declared.fault.Fault.TheVariants.{LineTooLong, NotText, UnknownCommand}
use Rattle.commands.specs.Arguments.{and_then, unless_faulty, moment_and_now, only_now, nothing_more}
use Rattle.commands.specs.Settings.{new_setting, level_setting}
use Rattle.commands.specs.Words.{is_empty, first_word, after_word}

-- What stands beside a word in a table, if the word stands there.
abbrev pub in_table : {X : Type 0} → List (List ℕ × X) → List ℕ → Option X
in_table [] word = None
in_table (row ∷ rows) word = if bytes_eq word row.0 then Some row.1 else in_table rows word

-- The command with this first word, and these arguments behind it.
abbrev pub with_arguments : (word arguments : List ℕ) → Result Command Fault
with_arguments word arguments = unwrap_or (in_table (
    (codes "new", and_then (new_setting arguments) (λ s. Ok (New s)))
    ∷ (codes "level", and_then (level_setting arguments) (λ s. Ok (New s)))
    ∷ (codes "keeps", and_then (moment_and_now arguments) (λ q. Ok (Keeps q)))
    ∷ (codes "first-kept", and_then (moment_and_now arguments) (λ q. Ok (FirstKept q)))
    ∷ (codes "kept", and_then (only_now arguments) (λ at. Ok (Kept at)))
    ∷ (codes "why", and_then (moment_and_now arguments) (λ q. Ok (Why q)))
    ∷ (codes "help", nothing_more arguments Help)
    ∷ []) word) (Err UnknownCommand)

-- The command that the words of a line are. A line without a word is passed over.
abbrev pub command_of : (line : List ℕ) → Result Command Fault
command_of line = if is_empty (first_word line) then Ok Nothing else with_arguments (first_word line) (after_word line)

-- A comment begins with `#` (35).
abbrev pub is_comment : (line : List ℕ) → Bool
is_comment line = nat_lt 0 (length line) && slice_index line 0 == 35

-- The command that a line is, where `text` says whether its bytes are UTF-8.
abbrev pub command_in : (text : Bool) (line : List ℕ) → Result Command Fault
command_in text line =
    if is_comment line then Ok Nothing
    else unless_faulty ((nat_lt 4096 (length line), LineTooLong) ∷ (not text, NotText) ∷ []) (command_of line)
