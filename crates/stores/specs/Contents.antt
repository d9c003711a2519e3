-- What a store holds.
use Rattle.std.specs.Prelude.{ℕ, List, [], ◌∷◌, ◌++◌, length, Some, None, Option, ◌==◌, if◌then◌else◌}
use Rattle.stores.specs.declared.admission.Standing.{Standing}

-- A block under its number.
pub record Entry : Type 0 where
  pub number : ℕ
  pub block : List ℕ

abbrev pub entry : (number : ℕ) (block : List ℕ) → Entry
entry number block = record { number = number; block = block }

-- The entries by rising number, the last number accepted, and how many entries there is room for.
pub record Contents : Type 0 where
  pub held : List Entry
  pub last : ℕ
  pub capacity : ℕ

-- Where a store with these contents stands.
abbrev pub standing_of : Contents → Standing
standing_of c = record { held = length c.held; last = c.last; capacity = c.capacity }

-- A new store, or one that was cleared.
abbrev pub emptied : (capacity : ℕ) → Contents
emptied capacity = record { held = []; last = 0; capacity = capacity }

abbrev pub appended : (number : ℕ) (block : List ℕ) → Contents → Contents
appended number block c = record { held = c.held ++ entry number block ∷ []; last = number; capacity = c.capacity }

-- Entries without the one with this number.
abbrev pub without : (number : ℕ) → List Entry → List Entry
without number [] = []
without number (e ∷ es) = if e.number == number then es else (e ∷ without number es)

-- The last number accepted stays, so a number is never accepted twice.
abbrev pub dropped : (number : ℕ) → Contents → Contents
dropped number c = record { held = without number c.held; last = c.last; capacity = c.capacity }

-- The block under this number.
abbrev pub block_of : (number : ℕ) → List Entry → Option (List ℕ)
block_of number [] = None
block_of number (e ∷ es) = if e.number == number then Some e.block else block_of number es
