-- Searches: what they pass over, and what they find.
use Rattle.std.proofs.Common.{◌≡◌, ℕ, zero, suc, ◌+◌, ◌-◌, ◌<◌, ◌≤◌, min, Bool, true, false, cond, List, [], ◌∷◌, length, get_or, take, drop, Some, None, Option, sym, refl, ap, ◌∙◌, ap₂, subst, inl, inr, add-one, arith, MatchOption, IfSome}
use Rattle.std.specs.Option.{option_or}
use Rattle.std.specs.List.{All, find, range_with_len}
use Rattle.std.proofs.lemmas.List.Elements.{All-nil, All-cons, All-append}
use Rattle.std.proofs.lemmas.List.{get_or-drop, get_or-take, length-drop, length-take, take-append-drop}
use Rattle.std.proofs.lemmas.Bool.{cases_Bool}
use Rattle.std.proofs.lemmas.Option.{none-some, same_Some}
use Rattle.slot_store.specs.Search.{first_place, going_round, Finds, MetBefore, NearestIsFound, holds}
use Rattle.stores.specs.Contents.{Entry}

-- A search through places by number, in terms of what stands there.

in_range : {X : Type 0} (by_place : ℕ → Bool) (test : X → Bool) (at : ℕ) (xs : List X) (d : X) → ((k : ℕ) → k < length xs → by_place (at + k) ≡ test (get_or xs k d))
    → find by_place (range_with_len at (length xs)) ≡ first_place test at xs
in_range by_place test at [] d h = refl
in_range by_place test at (x ∷ xs) d h =
    let z : at ≡ at + 0 = omega arith in
    let here : by_place at ≡ test x = ap by_place z ∙ h 0 (omega arith) in
    let step : (k : ℕ) → k < length xs → by_place (at + 1 + k) ≡ test (get_or xs k d) = λ k l. let m : at + 1 + k ≡ at + suc k = omega arith in ap by_place m ∙ h (suc k) (omega arith) in
    ap₂ (λ (b : Bool) (o : Option ℕ). cond b (Some at) o) here
    (in_range by_place test (at + 1) xs d step ∙ ap (λ (n : ℕ). first_place test n xs) (add-one at))

-- A search through the places from `start` on, and then through those before it.
pub found_in_turn : {X : Type 0} (by_place : ℕ → Bool) (test : X → Bool) (start : ℕ) (xs : List X) (d : X) → ((k : ℕ) → k < length xs → by_place k ≡ test (get_or xs k d))
    → option_or (find by_place (range_with_len start (length xs - start))) (find by_place (range_with_len 0 (min start (length xs) - 0))) ≡ going_round test start xs
found_in_turn by_place test start xs d h =
    let n : length xs - start ≡ length (drop start xs) = sym (length-drop start xs) in
    let l = length-take start xs in
    let m : min start (length xs) - 0 ≡ length (take start xs) = omega arith in
    let above : (k : ℕ) → k < length (drop start xs) → by_place (start + k) ≡ test (get_or (drop start xs) k d) =
    λ k l. h (start + k) (omega arith) ∙ ap test (sym (get_or-drop start xs k d)) in
    let below : (k : ℕ) → k < length (take start xs) → by_place (0 + k) ≡ test (get_or (take start xs) k d) =
    λ k l. let z : 0 + k ≡ k = omega arith in ap by_place z ∙ h k (omega arith) ∙ ap test (sym (get_or-take start xs k d (omega arith))) in
    ap₂ option_or
    (ap (λ (k : ℕ). find by_place (range_with_len start k)) n ∙ in_range by_place test start (drop start xs) d above)
    (ap (λ (k : ℕ). find by_place (range_with_len 0 k)) m ∙ in_range by_place test 0 (take start xs) d below)

-- The first answer, or else the second.
pub first_or_second : (a b r : Option ℕ) → MatchOption a (r ≡ b) (λ x. r ≡ Some x) → r ≡ option_or a b
first_or_second None b r h = h
first_or_second (Some x) b r h = h

pub none_passes : {X : Type 0} (test : X → Bool) (at : ℕ) (xs : List X) → first_place test at xs ≡ None → All (λ x. test x ≡ false) xs
none_passes test at [] e = All-nil (λ x. test x ≡ false)
none_passes test at (x ∷ xs) e =
    elim (cases_Bool (test x)) [
      | inl t ↦ absurd (none-some _ (sym (rw t at e)))
      | inr t ↦ All-cons (λ x. test x ≡ false) x xs t (none_passes test (suc at) xs (rw t at e))
    ]

pub one_passes : {X : Type 0} (test : X → Bool) (at : ℕ) (xs : List X) (place : ℕ) (d : X) → first_place test at xs ≡ Some place
    → (at ≤ place) × (place < at + length xs) × (test (get_or xs (place - at) d) ≡ true)
one_passes test at [] place d e = absurd (none-some _ e)
one_passes test at (x ∷ xs) place d e =
    elim (cases_Bool (test x)) [
      | inl t ↦
          let p : at ≡ place = same_Some _ _ (rw t at e) in
          let z : place - at ≡ 0 = omega arith in
          (omega arith, omega arith, rw z t)
      | inr t ↦
          let q = one_passes test (suc at) xs place d (rw t at e) in
          let a = q.0 in
          let b = q.1 in
          let k : place - at ≡ suc (place - suc at) = omega arith in
          (omega arith, omega arith, rw k q.2)
    ]

pub round_none : {X : Type 0} (test : X → Bool) (start : ℕ) (xs : List X) → going_round test start xs ≡ None → All (λ x. test x ≡ false) xs
round_none test start xs e =
    split (first_place test start (drop start xs)) refl
  where
    split : (o : Option ℕ) → first_place test start (drop start xs) ≡ o → All (λ x. test x ≡ false) xs
    split None f =
        let g : first_place test 0 (take start xs) ≡ None = rw f at e in
        subst (All (λ x. test x ≡ false)) (take-append-drop start xs)
        (All-append (λ x. test x ≡ false) (take start xs) (drop start xs) (none_passes test 0 (take start xs) g) (none_passes test start (drop start xs) f))
    split (Some p) f = absurd (none-some _ (sym (rw f at e)))

pub round_some : {X : Type 0} (test : X → Bool) (start : ℕ) (xs : List X) (place : ℕ) (d : X) → going_round test start xs ≡ Some place
    → (place < length xs) × (test (get_or xs place d) ≡ true)
round_some {X = X} test start xs place d e =
    split (first_place test start (drop start xs)) refl
  where
    split : (o : Option ℕ) → first_place test start (drop start xs) ≡ o → (place < length xs) × (test (get_or xs place d) ≡ true)
    split None f =
        let p = one_passes test 0 (take start xs) place d (rw f at e) in
        let b = p.1 in
        let l = length-take start xs in
        let z : place - 0 ≡ place = omega arith in
        let g : get_or (take start xs) (place - 0) d ≡ get_or xs place d = ap (λ (i : ℕ). get_or (take start xs) i d) z ∙ get_or-take start xs place d (omega arith) in
        (omega arith, ap test (sym g) ∙ p.2)
    split (Some q) f =
        let s : q ≡ place = same_Some _ _ (rw f at e) in
        let p = one_passes test start (drop start xs) q d f in
        let a = p.0 in
        let b = p.1 in
        let l = length-drop start xs in
        let k : start + (q - start) ≡ place = omega arith in
        let g : get_or (drop start xs) (q - start) d ≡ get_or xs place d = get_or-drop start xs (q - start) d ∙ ap (λ (i : ℕ). get_or xs i d) k in
        (omega arith, ap test (sym g) ∙ p.2)

pub round_within : {X : Type 0} (test : X → Bool) (start : ℕ) (xs : List X) (d : X) (r : Option ℕ) → r ≡ going_round test start xs → IfSome r (λ slot. slot < length xs)
round_within test start xs d None e = tt
round_within test start xs d (Some slot) e = (round_some test start xs slot d (sym e)).0

-- From wherever it starts, a search that goes round finds the number where some slot holds it.
pub round_finds : (number start : ℕ) (slots : List (Option Entry)) (r : Option ℕ) → r ≡ going_round (holds (Some number)) start slots → Finds number slots r
round_finds number start slots None e = round_none (holds (Some number)) start slots (sym e)
round_finds number start slots (Some slot) e = round_some (holds (Some number)) start slots slot None (sym e)

pub free_slot : (o : Option Entry) → holds None o ≡ true → o ≡ None
free_slot None e = refl
free_slot (Some x) e = let z : ◌≡◌ {A = ℕ} 0 1 = cc in absurd (omega arith)

-- What is passed over does not pass.
pub passed_by : {X : Type 0} (test : X → Bool) (at : ℕ) (xs : List X) (place : ℕ) (d : X) → first_place test at xs ≡ Some place
    → (k : ℕ) → at + k < place → test (get_or xs k d) ≡ false
passed_by test at [] place d e k h = absurd (none-some _ e)
passed_by test at (x ∷ xs) place d e k h =
    elim (cases_Bool (test x)) [
      | inl t ↦ let p : at ≡ place = same_Some _ _ (rw t at e) in absurd (omega arith)
      | inr t ↦ first_or_later k h t (passed_by test (suc at) xs place d (rw t at e))
    ]
  where
    first_or_later : (k : ℕ) → at + k < place → test x ≡ false → ((j : ℕ) → suc at + j < place → test (get_or xs j d) ≡ false) → test (get_or (x ∷ xs) k d) ≡ false
    first_or_later zero h t later = t
    first_or_later (suc k) h t later = later k (omega arith)

pub nearest_is_found : NearestIsFound
nearest_is_found test start slots = found (going_round test start slots) refl
  where
    above : (place q : ℕ) → first_place test start (drop start slots) ≡ Some q → start ≤ place → place < q → test (get_or slots place None) ≡ false
    above place q f a b =
        let k : start + (place - start) ≡ place = omega arith in
        ap test (sym (get_or-drop start slots (place - start) None ∙ ap (λ (i : ℕ). get_or slots i None) k))
        ∙ passed_by test start (drop start slots) q None f (place - start) (omega arith)

    rest : (place : ℕ) → first_place test start (drop start slots) ≡ None → start ≤ place → place < length slots → test (get_or slots place None) ≡ false
    rest place f a b =
        let k : start + (place - start) ≡ place = omega arith in
        let l = length-drop start slots in
        ap test (sym (get_or-drop start slots (place - start) None ∙ ap (λ (i : ℕ). get_or slots i None) k))
        ∙ none_passes test start (drop start slots) f (place - start) None (omega arith)

    below : (place q : ℕ) → first_place test 0 (take start slots) ≡ Some q → q < start → place < q → test (get_or slots place None) ≡ false
    below place q g a b =
        ap test (sym (get_or-take start slots place None (omega arith))) ∙ passed_by test 0 (take start slots) q None g place (omega arith)

    met : (q place : ℕ) (o : Option ℕ) → first_place test start (drop start slots) ≡ o → going_round test start slots ≡ Some q → place < length slots → MetBefore start q place
        → test (get_or slots place None) ≡ false
    met q place (Some p) f e h m =
        let s : p ≡ q = same_Some _ _ (rw f at e) in
        let a = (one_passes test start (drop start slots) p None f).0 in
        elim m [ inl n ↦ above place p f n.0 (omega (arith, n.1)) | inr n ↦ absurd (omega (arith, n.0)) ]
    met q place None f e h m =
        let g : first_place test 0 (take start slots) ≡ Some q = rw f at e in
        let l = length-take start slots in
        let b = (one_passes test 0 (take start slots) q None g).1 in
        elim m [
          | inl n ↦ absurd (omega (arith, n.0, n.1))
          | inr n ↦ elim n.1 [ inl o ↦ rest place f o h | inr o ↦ below place q g (omega arith) o ]
        ]

    found : (r : Option ℕ) → going_round test start slots ≡ r → MatchOption r (All (λ o. test o ≡ false) slots)
        (λ found. (found < length slots) × (test (get_or slots found None) ≡ true) × ((place : ℕ) → place < length slots → MetBefore start found place → test (get_or slots place None) ≡ false))
    found None e = round_none test start slots e
    found (Some q) e =
        let p = round_some test start slots q None e in
        (p.0, p.1, λ place h m. met q place (first_place test start (drop start slots)) refl e h m)
