-- Writes over a part of a list, and one write behind another.
use Rattle.std.proofs.Common.{◌≡◌, ℕ, ◌+◌, ◌<◌, ◌≤◌, List, [], ◌∷◌, ◌++◌, length, take, drop, set, sym, ap, ◌∙◌, append_assoc, add_assoc, add-one, arith, length-append, rules}
use borrow.Rule.Slice.PartMut.{put_mid}
use lib.Seq.{take-append-add, drop-append-add}
use Rattle.std.proofs.lemmas.List.{take_at, drop_at, drop-drop, set_split, length-take-le, places}
use Rattle.values.specs.Bytes.{over}

-- What is written to a part.
pub part_written : (at size : ℕ) (xs part ys : List ℕ) → part ≡ ys → length ys ≡ size → put_mid at size xs part ≡ over at ys xs
part_written at size xs part ys e h = rw (e, ← h, drop-drop)

-- What is written to one place.
pub place_written : (xs : List ℕ) (i b : ℕ) → i < length xs → set xs i b ≡ over i (b ∷ []) xs
place_written xs i b h = rw (set_split xs i b h, ← add-one)

pub length-over : (at : ℕ) (ys xs : List ℕ) → at + length ys ≤ length xs → length (over at ys xs) ≡ length xs
length-over at ys xs h = search (rules, places)

-- One write directly behind another is one write.
pub over_next : (at next : ℕ) (ys zs xs : List ℕ) → at + length ys ≡ next → at ≤ length xs → over next zs (over at ys xs) ≡ over at (ys ++ zs) xs
over_next at next ys zs xs e h =
    let l : length (take at xs) ≡ at = length-take-le at xs h in
    let m : length (take at xs ++ ys) ≡ next = rw (length-append, l, e) in
    let g : take at xs ++ ys ++ drop (at + length ys) xs ≡ over at ys xs = append_assoc (take at xs) ys (drop (at + length ys) xs) in
    let t : take next (over at ys xs) ≡ take at xs ++ ys = rw (← g) (take_at (take at xs ++ ys) _ next m) in
    let u : drop next (over at ys xs) ≡ drop (at + length ys) xs = rw (← g) (drop_at (take at xs ++ ys) _ next m) in
    let d : drop (next + length zs) (over at ys xs) ≡ drop (at + length (ys ++ zs)) xs =
    sym (drop-drop (length zs) next (over at ys xs)) ∙ ap (λ (w : List ℕ). drop (length zs) w) u
    ∙ drop-drop (length zs) (at + length ys) xs ∙ ap (λ (n : ℕ). drop n xs) (simp length-append (omega arith)) in
    rw (t, d) (simp append_assoc)

-- A write behind a list leaves that list alone.
pub over_behind : (at place : ℕ) (front ys xs : List ℕ) → length front + at ≡ place → over place ys (front ++ xs) ≡ front ++ over at ys xs
over_behind at place front ys xs e = rw (← e, take-append-add, add_assoc, drop-append-add, append_assoc)

-- A write over the front of a list that is as long as what is written.
pub over_front_part : (ys front xs : List ℕ) → length ys ≡ length front → over 0 ys (front ++ xs) ≡ ys ++ xs
over_front_part ys front xs e = ap (λ (w : List ℕ). ys ++ w) (drop_at front xs (0 + length ys) (omega arith))
