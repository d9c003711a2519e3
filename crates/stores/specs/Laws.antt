-- What holds of the contents of every store, and what becomes of its blocks.
use Rattle.std.specs.Prelude.{◌≡◌, ℕ, ◌^◌, ◌<◌, ◌≤◌, ◌≢◌, List, [], ◌∷◌, length, Some, None, Ok}
use Rattle.std.specs.List.{All}
use Rattle.values.specs.Blocks.{max_block_length}
use Rattle.stores.specs.Calls.{appending, dropping}
use Rattle.stores.specs.Contents.{Entry, Contents, emptied, block_of}

-- The numbers rise, from above `low` up to `last`.
abbrev pub Rising : (low last : ℕ) → List Entry → Type 0
Rising low last [] = low ≤ last
Rising low last (e ∷ es) = (low < e.number) × Rising e.number last es

-- A block of 1 to 64 bytes.
abbrev pub BlockSized : List ℕ → Type 0
BlockSized block = (0 < length block) × (length block ≤ max_block_length)

pub record Lawful (c : Contents) : Type 0 where
  pub rising : Rising 0 c.last c.held
  pub sized : All (λ e. BlockSized e.block) c.held
  pub within : length c.held ≤ c.capacity
  pub bounded : c.capacity ≤ 4096
  pub narrow : c.last < 2 ^ 32

-- Between two contents, every number but one shows the same block or none.
abbrev pub OthersStay : (number : ℕ) (before after : Contents) → Type 0
OthersStay number before after = (other : ℕ) → other ≢ number → block_of other after.held ≡ block_of other before.held

pub record EntriesAreKept : Type 0 where
  pub empty : (capacity : ℕ) → capacity ≤ 4096 → Lawful (emptied capacity)
  pub append : (c d : Contents) (number : ℕ) (block : List ℕ) → Lawful c → number < 2 ^ 32 → appending number block c ≡ Ok d
      → Lawful d × (block_of number d.held ≡ Some block) × OthersStay number c d
  pub drop : (c d : Contents) (number : ℕ) → Lawful c → dropping number c ≡ Ok d
      → Lawful d × (block_of number d.held ≡ None) × OthersStay number c d
