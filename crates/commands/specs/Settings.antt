-- The policies that commands ask for.
use Rattle.std.specs.Prelude.{ℕ, not, if◌then◌else◌, List, [], ◌∷◌, Ok, Err, codes, Result}
use Rattle.std.specs.Str.{bytes_eq}
use Rattle.commands.specs.declared.fault.Fault.{Fault}
use Rattle.commands.specs.declared.fault.Fault.TheVariants.{TooManyWords, UnknownSetting, UnknownPolicy, UnknownLevel}
use Rattle.commands.specs.declared.setting.Setting.{Setting}
use Rattle.commands.specs.declared.setting.Setting.TheVariants.{All, Window, Halving}
use Rattle.commands.specs.Arguments.{and_then, unless_faulty, only_number, nothing_more}
use Rattle.commands.specs.Numbers.{number_in}
use Rattle.commands.specs.Words.{is_empty, word_at, first_word, after_word, before_byte, behind_byte}

-- window:N or halving:N, from what stands before and behind the colon (58).
abbrev pub limited_setting : (kind limit : List ℕ) → Result Setting Fault
limited_setting kind limit =
    if bytes_eq kind (codes "window") then and_then (number_in limit) (λ n. Ok (Window n))
    else (if bytes_eq kind (codes "halving") then and_then (number_in limit) (λ n. Ok (Halving n))
    else Err UnknownPolicy)

-- all, window:N or halving:N
abbrev pub policy_setting : List ℕ → Result Setting Fault
policy_setting text =
    if bytes_eq text (codes "all") then Ok All else limited_setting (before_byte 58 text) (behind_byte 58 text)

-- keep=POLICY, with the equals sign as 61
abbrev pub keep_setting : List ℕ → Result Setting Fault
keep_setting word =
    if bytes_eq (before_byte 61 word) (codes "keep") then policy_setting (behind_byte 61 word) else Err UnknownSetting

-- [keep=POLICY]
abbrev pub new_setting : (arguments : List ℕ) → Result Setting Fault
new_setting arguments =
    unless_faulty ((not (is_empty (word_at 1 arguments)), TooManyWords) ∷ [])
    (if is_empty (word_at 0 arguments) then Ok All else keep_setting (word_at 0 arguments))

-- solo N, studio N or archive
abbrev pub level_setting : (arguments : List ℕ) → Result Setting Fault
level_setting arguments =
    if bytes_eq (first_word arguments) (codes "solo") then and_then (only_number (after_word arguments)) (λ n. Ok (Window n))
    else (if bytes_eq (first_word arguments) (codes "studio") then and_then (only_number (after_word arguments)) (λ n. Ok (Halving n))
    else (if bytes_eq (first_word arguments) (codes "archive") then nothing_more (after_word arguments) All
    else Err UnknownLevel))
