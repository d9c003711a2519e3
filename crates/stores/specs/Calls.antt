-- What each call of a store does, and when it is refused.
use Rattle.std.specs.Prelude.{ℕ, Bool, not, ◌||◌, List, [], ◌∷◌, length, is_some, Option, Result, ◌==◌, nat_le, nat_lt}
use Rattle.std.specs.Option.{unwrap_or}
use Rattle.values.specs.Answers.{unless_refused, Settles}
use Rattle.values.specs.Blocks.{max_block_length}
use Rattle.values.specs.Bytes.{over_front}
use Rattle.values.specs.declared.refusal.Refusal.{Refusal}
use Rattle.stores.specs.Contents.{Contents, appended, dropped, block_of}

-- The tests of an append in checking order: its length, its number, and the store's room.
abbrev pub append_tests : (number : ℕ) (block : List ℕ) (held last capacity : ℕ) → List (Bool × ℕ)
append_tests number block held last capacity =
    (length block == 0 || nat_lt max_block_length (length block), 3) ∷ (nat_le number last, 18) ∷ (nat_le capacity held, 19) ∷ []

-- Whether a store that holds so many entries accepts an append.
abbrev pub admission : (number : ℕ) (block : List ℕ) (held last capacity : ℕ) → Result (Unit {0}) ℕ
admission number block held last capacity = unless_refused (append_tests number block held last capacity) tt

abbrev pub appending : (number : ℕ) (block : List ℕ) → Contents → Result Contents ℕ
appending number block c =
    unless_refused (append_tests number block (length c.held) c.last c.capacity) (appended number block c)

-- Reading a block, if there is one, into a buffer: its length, and the buffer afterwards.
abbrev pub copying : Option (List ℕ) → (buffer : List ℕ) → Result (ℕ × List ℕ) ℕ
copying block buffer = unless_refused
    ((nat_lt (length buffer) max_block_length, 4) ∷ (not (is_some block), 20) ∷ [])
    (length (unwrap_or block []), over_front (unwrap_or block []) buffer)

abbrev pub reading : (number : ℕ) → Contents → (buffer : List ℕ) → Result (ℕ × List ℕ) ℕ
reading number c buffer = copying (block_of number c.held) buffer

abbrev pub dropping : (number : ℕ) → Contents → Result Contents ℕ
dropping number c = unless_refused ((not (is_some (block_of number c.held)), 20) ∷ []) (dropped number c)

-- An append that was answered by `r`: the contents before and after.
abbrev pub Appends : (number : ℕ) (block : List ℕ) (before after : Contents) → Result Unit Refusal → Type 0
Appends number block before after r = Settles r (λ _. after) (appending number block before) before after

-- A read that was answered by `r`: the buffer before and after.
abbrev pub Reads : (number : ℕ) → Contents → (before after : List ℕ) → Result ℕ Refusal → Type 0
Reads number c before after r = Settles r (λ n. (n, after)) (reading number c before) before after

-- A drop that was answered by `r`: the contents before and after.
abbrev pub Drops : (number : ℕ) (before after : Contents) → Result Unit Refusal → Type 0
Drops number before after r = Settles r (λ _. after) (dropping number before) before after
