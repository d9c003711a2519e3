-- What filling, freeing and zeroing slots makes of the contents of a slot store.
use Rattle.std.proofs.Common.{◌≡◌, ℕ, suc, ◌+◌, ◌-◌, ◌*◌, ◌^◌, ◌<◌, ◌≤◌, true, false, List, [], ◌∷◌, ◌++◌, length, get_or, drop, set, replicate, is_some, Some, None, Ok, Option, refl, sym, ap, ◌∙◌, subst, ap₂, arith}
use Rattle.std.specs.Option.{option_map}
use Rattle.std.specs.List.{All}
use Rattle.std.proofs.lemmas.List.Elements.{All-set, All-weaker}
use Rattle.std.proofs.lemmas.List.{length-set, length-replicate, length_push, get_or-set_same, set-set, set-get_or}
use Rattle.std.proofs.lemmas.Bool.{cond-true, and_from, le-leb}
use Rattle.values.specs.Bytes.{over}
use Rattle.stores.specs.Calls.{admission, appending, dropping}
use Rattle.stores.specs.Contents.{Entry, entry, Contents, emptied, appended, dropped, block_of, without}
use Rattle.stores.specs.Laws.{Lawful}
use Rattle.stores.proofs.Entries.{Lacks, Storable, nothing_found, rising_all_up_to, lacks_if_below, lawful_storable}
use Rattle.entry_layout.specs.Layout.{block_at, capacity_of, entry_bytes, entry_in, with_entry, zeroed}
use Rattle.stores.proofs.Kept.{admitted, append_accepted, drop_accepted, Lawful-appended, Lawful-dropped, Lawful-emptied}
use Rattle.slot_store.specs.Meaning.{SlotState, contents_of, Sound}
use Rattle.slot_store.specs.Ranked.{placed, ranked}
use Rattle.slot_store.specs.Search.{Finds, going_round, holds}
use Rattle.slot_store.specs.Slots.{slotted, slots_of, tail_of, zeroed_slots}
use Rattle.slot_store.proofs.Placing.{InSlot, length-placed, all_in_slots, placed_last, found_placed, without_placed, ranked_at, others_lack, none_found, all_taken, ranked_none, holding_entry}
use Rattle.slot_store.proofs.Searches.{round_none, round_some, free_slot}
use Rattle.slot_store.proofs.SlotBytes.{Relaid, relaid, count_of_slots, slot_at, slot_filled, slot_freed, slots_within, free_slots_bytes, free_slots_storable}

-- The contents of bytes with this last number.
abbrev pub contents_in : (bytes : List ℕ) (last : ℕ) → Contents
contents_in bytes last = record { held = ranked (slots_of bytes); last = last; capacity = capacity_of (length bytes) }

abbrev pub LaidOut : (bytes : List ℕ) → Type 0
LaidOut bytes = bytes ≡ slotted (slots_of bytes) (tail_of bytes)

-- The entries of a lawful store can be written to slots.
pub storable_slots : (bytes : List ℕ) (last : ℕ) → Lawful (contents_in bytes last) → All (InSlot Storable) (slots_of bytes)
storable_slots bytes last l = all_in_slots Storable (slots_of bytes) (lawful_storable (contents_in bytes last) l)

contents_of_relaid : (bytes after : List ℕ) (last : ℕ) (new : List (Option Entry)) (held : List Entry) → Relaid bytes after new → ranked new ≡ held
    → contents_in after last ≡ record { held = held; last = last; capacity = capacity_of (length bytes) }
contents_of_relaid bytes after last new held r e =
    ap₂ (λ (h : List Entry) (n : ℕ). let c : Contents = record { held = h; last = last; capacity = capacity_of n } in c) (ap ranked r.slots ∙ e) r.long

-- An entry appended to a store with these fields.

pub record Appended (s : SlotState) (after : List ℕ) (slot : ℕ) (e : Entry) : Type 0 where
  pub free : going_round (holds None) s.next (slots_of s.bytes.now) ≡ Some slot
  pub accepted : Ok (contents_in after e.number) ≡ appending e.number e.block (contents_of s)
  pub laid : LaidOut after
  pub counted : s.held + 1 ≡ length (contents_in after e.number).held
  pub lawful : Lawful (contents_in after e.number)
  pub filled : after ≡ slotted (set (slots_of s.bytes.now) slot (Some e)) (tail_of s.bytes.now)

pub append_step : (s : SlotState) (after : List ℕ) (slot : ℕ) (e : Entry) → Sound s → Ok tt ≡ admission e.number e.block (length (contents_of s).held) s.last (capacity_of (length s.bytes.now))
    → e.number < 2 ^ 32
    → going_round (holds None) s.next (slots_of s.bytes.now) ≡ Some slot → after ≡ with_entry (slot * 69) e s.bytes.now → Appended s after slot e
append_step store after slot e sound admits narrow g w =
    let bytes = store.bytes.now in
    let last : ℕ = store.last in
    let next : ℕ = store.next in
    let laid = sound.laid in
    let l = sound.lawful in
    let a = (admitted e.number e.block (length (ranked (slots_of bytes))) last (capacity_of (length bytes)) tt tt admits).0 in
    let s = a.sized in
    let above = a.above in
    let n = count_of_slots (capacity_of (length bytes)) bytes in
    let p = round_some (holds None) next (slots_of bytes) slot None g in
    let i = p.0 in
    let f = free_slot (get_or (slots_of bytes) slot None) p.1 in
    let v = storable_slots bytes last l in
    let r = slots_within bytes in
    let m = s.1 in
    let fits : slot * 69 + 5 + length e.block ≤ length bytes = omega arith in
    let new : List (Option Entry) = set (slots_of bytes) slot (Some e) in
    let filled : after ≡ slotted new (tail_of bytes) =
    w ∙ cond-true _ _ _ (and_from _ _ (le-leb _ _ m) (le-leb _ _ fits))
    ∙ ap (over (slot * 69) (entry_bytes e)) laid ∙ slot_filled slot e (slots_of bytes) (tail_of bytes) v (narrow, s) i f in
    let again = relaid bytes after new (length-set (slots_of bytes) slot (Some e) ∙ n) (All-set (InSlot Storable) (slots_of bytes) slot (Some e) (narrow, s) v) filled in
    let here : get_or new slot None ≡ Some e = get_or-set_same (slots_of bytes) slot (Some e) None i in
    let freed : set new slot None ≡ slots_of bytes =
    set-set (slots_of bytes) slot (Some e) None ∙ ap (set (slots_of bytes) slot) (sym f) ∙ set-get_or (slots_of bytes) slot None in
    let lacks : Lacks e.number (ranked (set new slot None)) =
    subst (λ (ss : List (Option Entry)). Lacks e.number (ranked ss)) (sym freed) (lacks_if_below e.number 0 last (ranked (slots_of bytes)) above l.rising) in
    let rank : ranked new ≡ ranked (slots_of bytes) ++ e ∷ [] =
    ranked_at new slot e (omega (arith, length-set (slots_of bytes) slot (Some e))) here lacks
    ∙ ap (λ (ss : List (Option Entry)). placed e (ranked ss)) freed
    ∙ placed_last e (ranked (slots_of bytes))
    (All-weaker (λ x. x.number ≤ last) (λ x. x.number < e.number) (λ x h. omega arith) (ranked (slots_of bytes)) (rising_all_up_to 0 last (ranked (slots_of bytes)) l.rising)) in
    let contents : contents_in after e.number ≡ appended e.number e.block (contents_in bytes last) =
    contents_of_relaid bytes after e.number new (ranked (slots_of bytes) ++ e ∷ []) again rank in
    let k = sound.counted in
    let j = length_push (ranked (slots_of bytes)) e in
    let held : length (contents_in after e.number).held ≡ length (ranked (slots_of bytes) ++ e ∷ []) = ap (λ (d : Contents). length d.held) contents in
    record {
      free = g;
      accepted = append_accepted (contents_in bytes last) (contents_in after e.number) e.number e.block (length (ranked (slots_of bytes))) (capacity_of (length bytes)) admits refl refl contents;
      laid = again.laid;
      counted = omega arith;
      lawful = subst Lawful (sym contents) (Lawful-appended (contents_in bytes last) e.number e.block l narrow a);
      filled = filled;
    }

-- Where there is room, some slot is free.
pub room_has_a_slot : (bytes : List ℕ) (next : ℕ) → length (ranked (slots_of bytes)) < capacity_of (length bytes) → going_round (holds None) next (slots_of bytes) ≡ None → ⊥
room_has_a_slot bytes next h e =
    let n = count_of_slots (capacity_of (length bytes)) bytes in
    let t = all_taken (slots_of bytes) (round_none (holds None) next (slots_of bytes) e) in
    omega arith

-- So a store that admits an append has one.
pub admission_has_a_slot : (v : SlotState) (number : ℕ) (block : List ℕ) → Ok tt ≡ admission number block (length (contents_of v).held) v.last (contents_of v).capacity
    → going_round (holds None) v.next (slots_of v.bytes.now) ≡ None → ⊥
admission_has_a_slot v number block admits e =
    room_has_a_slot v.bytes.now v.next (admitted number block (length (contents_of v).held) v.last (contents_of v).capacity tt tt admits).0.room e

-- What a search by number found.

pub found_block : (bytes : List ℕ) (last number slot : ℕ) → Lawful (contents_in bytes last) → slot < length (slots_of bytes) → holds (Some number) (get_or (slots_of bytes) slot None) ≡ true
    → (block_at (Some (slot * 69)) bytes ≡ block_of number (ranked (slots_of bytes))) × (is_some (block_of number (ranked (slots_of bytes))) ≡ true)
found_block bytes last number slot l h t =
    let p = holding_entry number (get_or (slots_of bytes) slot None) t in
    let e : Entry = entry number p.0 in
    let n = count_of_slots (capacity_of (length bytes)) bytes in
    let there : entry_in (drop (slot * 69) bytes) ≡ Some e = sym (slot_at (capacity_of (length bytes)) slot bytes (omega arith)) ∙ p.1 in
    let lacks = others_lack 0 last (slots_of bytes) slot e h p.1 l.rising in
    let found : block_of number (ranked (slots_of bytes)) ≡ Some p.0 =
    ap (block_of number) (ranked_at (slots_of bytes) slot e h p.1 lacks) ∙ found_placed number p.0 (ranked (set (slots_of bytes) slot None)) lacks in
    (ap (option_map (λ x. x.block)) there ∙ sym found, ap is_some found)

pub no_block_found : (bytes : List ℕ) (number : ℕ) → All (λ o. holds (Some number) o ≡ false) (slots_of bytes) → block_of number (ranked (slots_of bytes)) ≡ None
no_block_found bytes number h = nothing_found number (ranked (slots_of bytes)) (none_found number (slots_of bytes) h)

pub block_where_found : (bytes : List ℕ) (last number : ℕ) (r : Option ℕ) → Lawful (contents_in bytes last) → Finds number (slots_of bytes) r
    → block_at (option_map (λ slot. slot * 69) r) bytes ≡ block_of number (ranked (slots_of bytes))
block_where_found bytes last number None l f = sym (no_block_found bytes number f)
block_where_found bytes last number (Some slot) l f = (found_block bytes last number slot l f.0 f.1).0

-- An entry dropped from a store with these fields.

pub record Dropped (s : SlotState) (after : List ℕ) (slot number : ℕ) : Type 0 where
  pub held : holds (Some number) (get_or (slots_of s.bytes.now) slot None) ≡ true
  pub accepted : Ok (contents_in after s.last) ≡ dropping number (contents_of s)
  pub laid : LaidOut after
  pub counted : s.held ≡ length (contents_in after s.last).held + 1
  pub lawful : Lawful (contents_in after s.last)
  pub freed : after ≡ slotted (set (slots_of s.bytes.now) slot None) (tail_of s.bytes.now)

pub drop_step : (s : SlotState) (after : List ℕ) (slot number : ℕ) → Sound s → slot < length (slots_of s.bytes.now)
    → holds (Some number) (get_or (slots_of s.bytes.now) slot None) ≡ true → after ≡ zeroed (slot * 69) (slot * 69 + 69) s.bytes.now → Dropped s after slot number
drop_step store after slot number sound h t w =
    let bytes = store.bytes.now in
    let last : ℕ = store.last in
    let laid = sound.laid in
    let l = sound.lawful in
    let n = count_of_slots (capacity_of (length bytes)) bytes in
    let p = holding_entry number (get_or (slots_of bytes) slot None) t in
    let e : Entry = entry number p.0 in
    let v = storable_slots bytes last l in
    let r = slots_within bytes in
    let fits : slot * 69 + 69 ≤ length bytes = omega arith in
    let new : List (Option Entry) = set (slots_of bytes) slot None in
    let freed : after ≡ slotted new (tail_of bytes) =
    w ∙ cond-true _ _ _ (and_from _ _ (le-leb (slot * 69) (slot * 69 + 69) (omega arith)) (le-leb _ _ fits))
    ∙ ap (over (slot * 69) (replicate (slot * 69 + 69 - slot * 69) 0)) laid
    ∙ slot_freed slot (slot * 69 + 69 - slot * 69) (slots_of bytes) (tail_of bytes) v h (omega arith) in
    let again = relaid bytes after new (length-set (slots_of bytes) slot None ∙ n) (All-set (InSlot Storable) (slots_of bytes) slot None tt v) freed in
    let lacks = others_lack 0 last (slots_of bytes) slot e h p.1 l.rising in
    let rank = ranked_at (slots_of bytes) slot e h p.1 lacks in
    let left : ranked new ≡ without number (ranked (slots_of bytes)) = sym (ap (without number) rank ∙ without_placed number p.0 (ranked new) lacks) in
    let contents : contents_in after last ≡ dropped number (contents_in bytes last) =
    contents_of_relaid bytes after last new (without number (ranked (slots_of bytes))) again left in
    let fewer : length (ranked (slots_of bytes)) ≡ suc (length (ranked (slots_of after))) =
    ap length rank ∙ length-placed e (ranked new) ∙ ap (λ (ss : List (Option Entry)). suc (length (ranked ss))) (sym again.slots) in
    let k = sound.counted in
    record {
      held = t;
      accepted = drop_accepted (contents_in bytes last) (contents_in after last) number (found_block bytes last number slot l h t).1 contents;
      laid = again.laid;
      counted = omega arith;
      lawful = subst Lawful (sym contents) (Lawful-dropped (contents_in bytes last) number l);
      freed = freed;
    }

-- All slots zeroed.

pub record Cleared (bytes after : List ℕ) : Type 0 where
  pub contents : contents_in after 0 ≡ emptied (capacity_of (length bytes))
  pub laid : LaidOut after
  pub counted : 0 ≡ length (contents_in after 0).held
  pub lawful : Lawful (contents_in after 0)
  pub zeroed : after ≡ zeroed_slots bytes

pub clear_step : (bytes : List ℕ) {after : List ℕ} → after ≡ zeroed 0 (capacity_of (length bytes) * 69) bytes → Cleared bytes after
clear_step bytes {after} w =
    let n : ℕ = capacity_of (length bytes) in
    let r = slots_within bytes in
    let lz : length (replicate {A = ℕ} (n * 69) 0) ≡ n * 69 = length-replicate (n * 69) 0 in
    let k : 0 + length (replicate {A = ℕ} (n * 69) 0) ≡ n * 69 = omega arith in
    let m : n * 69 - 0 ≡ n * 69 = omega arith in
    let z : after ≡ zeroed_slots bytes =
    w ∙ cond-true _ _ _ (and_from _ _ (le-leb 0 (n * 69) (omega arith)) (le-leb _ _ r))
    ∙ ap (λ (j : ℕ). over 0 (replicate j 0) bytes) m
    ∙ ap (λ (j : ℕ). replicate (n * 69) 0 ++ drop j bytes) k in
    let new : List (Option Entry) = replicate n None in
    let free : after ≡ slotted new (tail_of bytes) = z ∙ ap (λ (f : List ℕ). f ++ tail_of bytes) (sym (free_slots_bytes n)) in
    let again = relaid bytes after new (length-replicate n None) (free_slots_storable n) free in
    let contents : contents_in after 0 ≡ emptied n = contents_of_relaid bytes after 0 new [] again (ranked_none n) in
    record {
      contents = contents;
      laid = again.laid;
      counted = sym (ap (λ (d : Contents). length d.held) contents);
      lawful = subst Lawful (sym contents) (Lawful-emptied n (omega arith));
      zeroed = z;
    }
