-- Bytes moved down within others, with zeros written over the end of the part.
use Rattle.std.proofs.Common.{◌≡◌, ℕ, ◌+◌, ◌-◌, ◌≤◌, List, ◌++◌, length, take, drop, replicate, sym, ap, ◌∙◌, append_assoc, arith, length-append, length-drop}
use Rattle.std.specs.List.{copy_within}
use Rattle.std.proofs.lemmas.List.{length-replicate, length-take-le}
use Rattle.std.proofs.lemmas.Slice.{between_is}
use Rattle.std.proofs.lemmas.Bool.{cond-true, and_from, le-leb}
use Rattle.values.specs.Bytes.{over}
use Rattle.values.proofs.Over.{length-over, over_next}
use Rattle.entry_layout.specs.Layout.{zeroed}
use Rattle.packed_log.specs.Log.{taken_out}

pub moved_and_zeroed : (at size end : ℕ) (xs : List ℕ) → at ≤ end → size ≤ end - at → end ≤ length xs
    → zeroed (end - size) end (copy_within xs (at + size) end at) ≡ taken_out at size end xs
moved_and_zeroed at size end xs a s e =
    let moved : List ℕ = take (end - (at + size)) (drop (at + size) xs) in
    let zeros : List ℕ = replicate (end - (end - size)) 0 in
    let lm : length moved ≡ end - (at + size) = length-take-le (end - (at + size)) (drop (at + size) xs) (rw (length-drop (at + size) xs) (omega arith)) in
    let lz : length zeros ≡ end - (end - size) = length-replicate (end - (end - size)) 0 in
    let lb : at + length (moved ++ zeros) ≡ end = ap (λ (k : ℕ). at + k) (length-append moved zeros) ∙ omega arith in
    let lo : length (over at moved xs) ≡ length xs = length-over at moved xs (omega arith) in
    let copied : copy_within xs (at + size) end at ≡ over at moved xs =
    append_assoc (take at xs) moved (drop (at + (end - (at + size))) xs) ∙ ap (λ (k : ℕ). take at xs ++ (moved ++ drop (at + k) xs)) (sym lm) in
    let all : end - (end - size) ≡ size = omega arith in
    ap (zeroed (end - size) end) copied
    ∙ cond-true _ _ _ (and_from _ _ (le-leb (end - size) end (omega arith)) (le-leb end (length (over at moved xs)) (omega arith)))
    ∙ over_next at (end - size) moved zeros xs (omega arith) (omega arith)
    ∙ ap (λ (k : ℕ). take at xs ++ (moved ++ zeros ++ drop k xs)) lb
    ∙ ap (λ (w : List ℕ). take at xs ++ w) (append_assoc moved zeros (drop end xs))
    ∙ ap (λ (k : ℕ). take at xs ++ (moved ++ (replicate k 0 ++ drop end xs))) all
    ∙ ap (λ (w : List ℕ). take at xs ++ (w ++ (replicate size 0 ++ drop end xs))) (between_is xs (at + size) end)
    ∙ sym (cond-true _ _ _ (and_from _ _ (le-leb end (length xs) e) (le-leb (at + size) end (omega arith))))
