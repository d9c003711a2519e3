use Rattle.std.proofs.Common.{◌≡◌, ℕ, ◌*◌, ◌-◌, ◌<◌, min, List, drop, length, IfSome, None, Option, sym, ap, ◌∙◌, subst, rules, arith}
use Rattle.std.specs.List.{find, range_with_len}
use Rattle.std.specs.Option.{option_or}
use Rattle.entry_layout.specs.Layout.{capacity_of, entry_in}
use Rattle.slot_store.specs.Search.{going_round, holds}
use Rattle.slot_store.specs.Slots.{slots_of}
use Rattle.slot_store.proofs.Searches.{first_or_second, found_in_turn, round_within}
use Rattle.slot_store.proofs.SlotBytes.{count_of_slots, slot_at}
use Rattle.slot_store.proofs.search.slot_from.Goals as goal

-- What a search among the slots from one place to another finds.
abbrev found_among : (sought : Option ℕ) (bytes : List ℕ) (from to : ℕ) → Option ℕ
found_among sought bytes from to = find (λ k. holds sought (entry_in (drop (k * 69) bytes))) (range_with_len from (to - from))

place : (sought : Option ℕ) (start : ℕ) (bytes : List ℕ) → option_or (found_among sought bytes start (capacity_of (length bytes))) (found_among sought bytes 0 (min start (capacity_of (length bytes))))
    ≡ going_round (holds sought) start (slots_of bytes)
place sought start bytes =
    let e : capacity_of (length bytes) ≡ length (slots_of bytes) = sym (count_of_slots _ bytes) in
    ap (λ (n : ℕ). option_or (found_among sought bytes start n) (found_among sought bytes 0 (min start n))) e
    ∙ found_in_turn (λ k. holds sought (entry_in (drop (k * 69) bytes))) (holds sought) start (slots_of bytes) None
    (λ k l. ap (holds sought) (sym (slot_at _ k bytes (omega (arith, count_of_slots (capacity_of (length bytes)) bytes)))))

pub returns-clause-place : goal.returns-clause-place
returns-clause-place c =
    let bytes = c.args.bytes.now in
    let count = capacity_of (length bytes) in
    let end : c.min-below.result ≡ min c.args.start count = cc in
    first_or_second (found_among c.args.sought bytes c.args.start count) (found_among c.args.sought bytes 0 c.min-below.result) c.or_else.result (search rules)
    ∙ ap (λ (k : ℕ). option_or (found_among c.args.sought bytes c.args.start count) (found_among c.args.sought bytes 0 k)) end
    ∙ place c.args.sought c.args.start bytes

pub returns-clause-within : goal.returns-clause-within
returns-clause-within c =
    let bytes = c.args.bytes.now in
    let n = count_of_slots (capacity_of (length bytes)) bytes in
    subst (λ (k : ℕ). IfSome c.or_else.result (λ slot. slot < k)) n (round_within (holds c.args.sought) c.args.start (slots_of bytes) None c.or_else.result (returns-clause-place c))
