-- What the program replies to a command, in the state that the command finds.
use Rattle.std.specs.Prelude.{◌≡◌, ℕ, ◌||◌, if◌then◌else◌, [], ◌∷◌, Some, None, Ok, Err, Option, Result, nat_lt}
use Rattle.values.specs.Answers.{unless_refused}
use Rattle.values.specs.Moments.{last_moment}
use Rattle.values.specs.Refusals.{number_of}
use Rattle.values.specs.declared.refusal.Refusal.{Refusal}
use Rattle.policies.specs.FirstKept.{first_kept}
use Rattle.policies.specs.Retentions.{kept_by}
use Rattle.policies.specs.Settings.{window_setting, halving_setting}
use Rattle.policies.specs.declared.retention.Retention.{Retention}
use Rattle.policies.specs.declared.retention.Retention.TheVariants as retention
use Rattle.reports.specs.Grounds.{grounds_of}
use Rattle.reports.specs.declared.reason.Grounds.{Grounds}
use Rattle.console.specs.declared.session.Session.{Session}
use Rattle.console.specs.declared.answer.Answer.{Answer}
use Rattle.console.specs.declared.answer.Answer.TheVariants as answer
use Rattle.commands.specs.declared.arguments.Question.{Question}
use Rattle.commands.specs.declared.command.Command.{Command}
use Rattle.commands.specs.declared.command.Command.TheVariants.{Nothing, New, Keeps, FirstKept, Kept, Why, Help}
use Rattle.commands.specs.declared.fault.Fault.{Fault}
use Rattle.commands.specs.declared.setting.Setting.{Setting}
use Rattle.commands.specs.declared.setting.Setting.TheVariants.{All, Window, Halving}

-- A reply, with the numbers that it shows.
pub data Reply : Type 0 where
  silence : Reply
  ready : Reply
  yes : Reply
  no : Reply
  moment : ℕ → Reply
  none : Reply
  picture : Retention → ℕ → Reply
  reason : ℕ → ℕ → Grounds → Reply
  help : Reply
  refused : ℕ → Reply
  wrong : Fault → Reply

abbrev pub reply_of : Answer → Reply
reply_of answer.Silence = silence
reply_of answer.Ready = ready
reply_of answer.Yes = yes
reply_of answer.No = no
reply_of (answer.At m) = moment m.value
reply_of answer.Absent = none
reply_of (answer.Picture p) = picture p.retention p.present.value
reply_of (answer.Reason r) = reason r.moment.value r.present.value r.grounds
reply_of answer.Help = help
reply_of (answer.Refused r) = refused (number_of r)
reply_of (answer.Wrong f) = wrong f

-- The setting of a policy.
abbrev pub setting_of : Retention → Setting
setting_of retention.All = All
setting_of (retention.Window w) = Window w.length
setting_of (retention.Halving h) = Halving h.reach

-- A setting with a number that a policy takes or turns down.
abbrev pub with_limit : (ℕ → Setting) → Result ℕ ℕ → Result Setting ℕ
with_limit make (Ok n) = Ok (make n)
with_limit make (Err e) = Err e

-- A setting that a policy is asked to have.
abbrev pub made_setting : Setting → Result Setting ℕ
made_setting All = Ok All
made_setting (Window length) = with_limit Window (window_setting length)
made_setting (Halving reach) = with_limit Halving (halving_setting reach)

-- The present moment that a command supposes, or the vault's own.
abbrev pub now_or : Option ℕ → ℕ → ℕ
now_or None m = m
now_or (Some n) m = n

-- The moment that is asked about, and the one that counts as the present where the vault's own is `m`.
abbrev pub moments_asked : Question → (m : ℕ) → Result (ℕ × ℕ) ℕ
moments_asked q m =
    unless_refused ((nat_lt last_moment q.moment, 24) ∷ (nat_lt last_moment (now_or q.at m), 24) ∷ []) (q.moment, now_or q.at m)

-- A question about two moments, turned down where one of the numbers is no moment.
abbrev pub at_moments : (t n : ℕ) → Reply → Reply
at_moments t n reply = if nat_lt last_moment t || nat_lt last_moment n then refused 24 else reply

abbrev pub first_reply : Option ℕ → Reply
first_reply None = none
first_reply (Some t) = moment t

abbrev pub keeps_reply : Retention → (t n : ℕ) → Reply
keeps_reply r t n = at_moments t n (if kept_by r t n then yes else no)

abbrev pub first_kept_reply : Retention → (t n : ℕ) → Reply
first_kept_reply r t n = at_moments t n (first_reply (first_kept (λ u. kept_by r u n) t n))

abbrev pub kept_reply : Retention → (n : ℕ) → Reply
kept_reply r n = at_moments 0 n (picture r n)

abbrev pub why_reply : Retention → (t n : ℕ) → Reply
why_reply r t n = at_moments t n (reason t n (grounds_of r t n))

-- A vault with this setting is made, or the setting is turned down.
abbrev pub new_reply : Result Setting ℕ → Reply
new_reply (Ok s) = ready
new_reply (Err n) = refused n

-- The reply to a command, in a vault with this policy at the moment `m`.
abbrev pub reply_to : Retention → (m : ℕ) → Command → Reply
reply_to r m Nothing = silence
reply_to r m (New s) = new_reply (made_setting s)
reply_to r m (Keeps q) = keeps_reply r q.moment (now_or q.at m)
reply_to r m (FirstKept q) = first_kept_reply r q.moment (now_or q.at m)
reply_to r m (Kept at) = kept_reply r (now_or at m)
reply_to r m (Why q) = why_reply r q.moment (now_or q.at m)
reply_to r m Help = help

-- What a new vault leaves in place of the setting and the moment before: where it is turned down, both stay.
abbrev pub setting_made : Result Setting ℕ → Setting → Setting
setting_made (Ok s) old = s
setting_made (Err n) old = old

abbrev pub moment_made : Result Setting ℕ → (m : ℕ) → ℕ
moment_made (Ok s) m = 0
moment_made (Err n) m = m

abbrev pub setting_after : Setting → Command → Setting
setting_after old Nothing = old
setting_after old (New s) = setting_made (made_setting s) old
setting_after old (Keeps q) = old
setting_after old (FirstKept q) = old
setting_after old (Kept at) = old
setting_after old (Why q) = old
setting_after old Help = old

abbrev pub moment_after : (m : ℕ) → Command → ℕ
moment_after m Nothing = m
moment_after m (New s) = moment_made (made_setting s) m
moment_after m (Keeps q) = m
moment_after m (FirstKept q) = m
moment_after m (Kept at) = m
moment_after m (Why q) = m
moment_after m Help = m

-- The same for a line, which is a command, or is answered by what is wrong with it and alters nothing.
abbrev pub line_reply : Retention → (m : ℕ) → Result Command Fault → Reply
line_reply r m (Ok c) = reply_to r m c
line_reply r m (Err f) = wrong f

abbrev pub line_setting : Setting → Result Command Fault → Setting
line_setting old (Ok c) = setting_after old c
line_setting old (Err f) = old

abbrev pub line_moment : (m : ℕ) → Result Command Fault → ℕ
line_moment m (Ok c) = moment_after m c
line_moment m (Err f) = m

-- That a session answered a line, read as a command or a fault, by a reply.
pub record Answered (before after : Session) (line : Result Command Fault) (reply : Reply) : Type 0 where
  pub replies : reply ≡ line_reply before.retention before.present.value line
  pub setting : setting_of after.retention ≡ line_setting (setting_of before.retention) line
  pub moment : after.present.value ≡ line_moment before.present.value line

-- The reply of a call that may be turned down.
abbrev pub result_reply : Result Answer Refusal → Reply
result_reply (Ok a) = reply_of a
result_reply (Err e) = refused (number_of e)
