-- The entries of slots by rising number.
use Rattle.std.specs.Prelude.{List, [], ◌∷◌, Some, None, Option, nat_lt, if◌then◌else◌}
use Rattle.stores.specs.Contents.{Entry}

-- An entry put among others, before the first with a larger number.
abbrev pub placed : Entry → List Entry → List Entry
placed e [] = e ∷ []
placed e (x ∷ xs) = if nat_lt e.number x.number then e ∷ x ∷ xs else (x ∷ placed e xs)

abbrev pub ranked : List (Option Entry) → List Entry
ranked [] = []
ranked (None ∷ slots) = ranked slots
ranked (Some e ∷ slots) = placed e (ranked slots)
