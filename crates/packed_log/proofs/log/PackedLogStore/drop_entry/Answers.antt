use Rattle.std.proofs.Common.{◌≡◌, ℕ, Some, Err, Result, sym, refl, ap, ◌∙◌, arith}
use Rattle.std.specs.Option.{option_map}
use Rattle.values.specs.declared.refusal.Refusal.{Refusal}
use Rattle.values.specs.declared.refusal.Refusal.TheVariants.{NoSuchEntry}
use Rattle.std.proofs.lemmas.Result.{err_from_is_err_and}
use Rattle.entry_layout.specs.declared.entry.EntryRef.{EntryRef}
use Rattle.packed_log.specs.Log.{found_from}
use Rattle.packed_log.specs.Meaning.{contents_of}
use Rattle.packed_log.specs.State.{state_of}
use Rattle.packed_log.specs.Walk.{placed}
use Rattle.packed_log.proofs.Steps.{size_within, log_dropped, drop_found, drop_refused}
use Rattle.packed_log.proofs.log.PackedLogStore.drop_entry.Goals as goal
use Rattle.packed_log.proofs.log.PackedLogStore.drop_entry.Goals.{In_ok-at}

-- Where the entry stands that was found.
stands : (c : In_ok-at) → Some (placed (c.in_ok-at.at, c.in_ok-at.entry)) ≡ found_from c.args.number 0 (contents_of (state_of c.self.inside)).held
stands c = sym (ap (option_map placed) c.in_ok-at.ensures.ok_part) ∙ (rw (← c.self.view_is) at c.find.ensures)

pub overflow_sub-self : goal.overflow_sub-self
overflow_sub-self c =
    let within = size_within c.args.number c.self.invariant (stands (goal.at.overflow_sub-self c).In_ok-at) in
    let size = c.size-size.ensures in
    omega arith

pub returns-in_err-at-clause-drops : goal.returns-in_err-at-clause-drops
returns-in_err-at-clause-drops c =
    let nothing = sym (ap (option_map placed) c.in_err-at.ensures.ok_part) ∙ c.find.ensures in
    let missing : ◌≡◌ {A = Result (ℕ × EntryRef) Refusal} (Err c.in_err-at.field-0.0) (Err NoSuchEntry) =
    rw c.in_err-at.ensures.ok_part at c.in_err-at.ensures.value in
    let same : c.in_err-at.field-0.0 ≡ NoSuchEntry = cc in
    let p = err_from_is_err_and c.from_residual.result c.from_residual.ensures.1 in
    rw (p.1, p.2, same) (record { answered = drop_refused (contents_of c.args.self.now) c.args.number nothing; unaltered = refl })

pub invariant_of-self : goal.invariant_of-self
invariant_of-self c =
    (log_dropped c.args.number c.self.invariant (stands (goal.at.invariant_of-self c).In_ok-at) c.size-size.ensures c.take_out.ensures).sound

pub returns : goal.returns
returns c =
    let found = stands (goal.at.returns c).In_ok-at in
    let done = log_dropped c.args.number c.self.invariant found c.size-size.ensures c.take_out.ensures in
    rw (← c.self.view_is) (record {
      drops = record { answered = drop_found _ _ c.args.number found done.contents; unaltered = tt };
      sound = done.sound;
      lawful = done.sound.lawful;
      bytes = done.laid;
      same = tt;
    })
