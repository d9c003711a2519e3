-- The arguments of a command.
use Rattle.std.specs.Prelude.{ℕ, Bool, not, if◌then◌else◌, List, [], ◌∷◌, Some, None, Ok, Err, Option, Result}
use Rattle.commands.specs.declared.arguments.Question.{Question}
use Rattle.commands.specs.declared.fault.Fault.{Fault}
use Rattle.commands.specs.declared.fault.Fault.TheVariants.{TooFewWords, TooManyWords}
use Rattle.commands.specs.Numbers.{number_in}
use Rattle.commands.specs.Words.{is_empty, word_at}

-- One thing read after another; the first fault is the outcome.
abbrev pub and_then : {X Y : Type 0} → Result X Fault → (X → Result Y Fault) → Result Y Fault
and_then (Ok x) next = next x
and_then (Err e) next = Err e

-- Tests with their faults in order: the first that applies, or the outcome.
abbrev pub unless_faulty : {Y : Type 0} → List (Bool × Fault) → Result Y Fault → Result Y Fault
unless_faulty [] outcome = outcome
unless_faulty (t ∷ ts) outcome = if t.0 then Err t.1 else unless_faulty ts outcome

-- A number that may be left out.
abbrev pub optional_number : List ℕ → Result (Option ℕ) Fault
optional_number word = if is_empty word then Ok None else and_then (number_in word) (λ n. Ok (Some n))

-- MOMENT [NOW]
abbrev pub moment_and_now : (arguments : List ℕ) → Result Question Fault
moment_and_now arguments =
    unless_faulty ((is_empty (word_at 0 arguments), TooFewWords) ∷ (not (is_empty (word_at 2 arguments)), TooManyWords) ∷ [])
    (and_then (number_in (word_at 0 arguments)) (λ t. and_then (optional_number (word_at 1 arguments)) (λ at. Ok (record { moment = t; at = at }))))

-- [NOW]
abbrev pub only_now : (arguments : List ℕ) → Result (Option ℕ) Fault
only_now arguments = unless_faulty ((not (is_empty (word_at 1 arguments)), TooManyWords) ∷ []) (optional_number (word_at 0 arguments))

-- N
abbrev pub only_number : (arguments : List ℕ) → Result ℕ Fault
only_number arguments =
    unless_faulty ((is_empty (word_at 0 arguments), TooFewWords) ∷ (not (is_empty (word_at 1 arguments)), TooManyWords) ∷ [])
    (number_in (word_at 0 arguments))

-- What was read, where no word follows.
abbrev pub nothing_more : {X : Type 0} (arguments : List ℕ) → X → Result X Fault
nothing_more arguments read = unless_faulty ((not (is_empty (word_at 0 arguments)), TooManyWords) ∷ []) (Ok read)
