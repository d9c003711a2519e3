-- Searches among slots.
use Rattle.std.specs.Prelude.{◌≡◌, ℕ, suc, ◌-◌, ◌<◌, ◌≤◌, Bool, true, false, ◌⊎◌, List, [], ◌∷◌, length, take, drop, Some, None, Option, MatchOption, ◌==◌, nat_le, slice_index_or, if◌then◌else◌}
use Rattle.std.specs.List.{All}
use Rattle.std.specs.Option.{option_or}
use Rattle.stores.specs.Contents.{Entry}

-- Whether a slot holds the number sought, or is free where none is sought.
abbrev pub holds : (sought : Option ℕ) → Option Entry → Bool
holds None None = true
holds None (Some e) = false
holds (Some number) None = false
holds (Some number) (Some e) = e.number == number

-- The place of the first that passes a test, the first of the list standing at `at`.
abbrev pub first_place : {X : Type 0} → (test : X → Bool) (at : ℕ) → List X → Option ℕ
first_place test at [] = None
first_place test at (x ∷ xs) = if test x then Some at else first_place test (suc at) xs

-- The first place from `start` on, and round to the front, that passes a test.
abbrev pub going_round : {X : Type 0} → (test : X → Bool) (start : ℕ) → List X → Option ℕ
going_round test start xs = option_or (first_place test start (drop start xs)) (first_place test 0 (take start xs))

-- The slot so many places below another among `count` slots, going round.
abbrev pub slot_below : (slot places count : ℕ) → ℕ
slot_below slot places count = if nat_le places slot then slot - places else count - (places - slot)

-- Where the search for a number begins: where its entry stands if no slot was passed over since it was appended, as far
-- below the slot filled last (the one below `next`) as the number is below the last number accepted.
abbrev pub likely_slot : (number last next count : ℕ) → ℕ
likely_slot number last next count = slot_below (next - 1) (last - number) count

-- A place that is met before the one found, on the way from `start` on and round to the front.
abbrev pub MetBefore : (start found place : ℕ) → Type 0
MetBefore start found place = ((start ≤ place) × (place < found)) ⊎ ((found < start) × ((start ≤ place) ⊎ (place < found)))

-- A search that goes round finds a slot that passes the test, and none that is met before it passes; where it finds
-- nothing, no slot passes.
abbrev pub NearestIsFound : Type 0
NearestIsFound =
    (test : Option Entry → Bool) (start : ℕ) (slots : List (Option Entry))
    → MatchOption (going_round test start slots) (All (λ o. test o ≡ false) slots)
    (λ found. (found < length slots) × (test (slice_index_or slots found None) ≡ true)
    × ((place : ℕ) → place < length slots → MetBefore start found place → test (slice_index_or slots place None) ≡ false))

-- What a search found: a slot that holds the number, or none where no slot does.
abbrev pub Finds : (number : ℕ) → List (Option Entry) → Option ℕ → Type 0
Finds number slots r =
    MatchOption r (All (λ o. holds (Some number) o ≡ false) slots)
    (λ slot. (slot < length slots) × (holds (Some number) (slice_index_or slots slot None) ≡ true))
