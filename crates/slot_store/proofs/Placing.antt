-- Entries of slots by rising number: what filling and freeing a slot makes of them.
use Rattle.std.proofs.Common.{◌≡◌, ℕ, zero, suc, ◌<◌, ◌≤◌, true, false, cond, ltb, ◌≢◌, List, [], ◌∷◌, ◌++◌, length, get_or, set, replicate, Some, None, Option, sym, refl, ap, ◌∙◌, subst, inl, inr, arith}
use Rattle.std.specs.List.{All}
use Rattle.std.proofs.lemmas.List.Elements.{All-nil, All-cons, All-head, All-tail, All-get_or}
use Rattle.std.proofs.lemmas.Bool.{both_ways, cases_Bool, cond-true, cond-false, ltb-true, ltb-false, lt-ltb, le-ltb, eqb-true, eq-eqb, ne_eqb}
use Rattle.std.proofs.lemmas.Option.{none-some, same_Some}
use Rattle.stores.specs.Contents.{Entry, entry, without, block_of}
use Rattle.stores.specs.Laws.{Rising}
use Rattle.stores.proofs.Entries.{OtherNumber, Lacks, lacks_if_above, rising_all_above, rising_lower}
use Rattle.slot_store.specs.Ranked.{placed, ranked}
use Rattle.slot_store.specs.Search.{holds}

-- One entry among others.

pub length-placed : (e : Entry) (xs : List Entry) → length (placed e xs) ≡ suc (length xs)
length-placed e [] = refl
length-placed e (x ∷ xs) =
    elim (ltb e.number x.number) as (λ t. length (cond t (e ∷ x ∷ xs) (x ∷ placed e xs)) ≡ suc (suc (length xs)))
    [ true ↦ refl | false ↦ ap suc (length-placed e xs) ]

pub All-placed : (P : Entry → Type 0) (e : Entry) (xs : List Entry) → P e → All P xs → All P (placed e xs)
All-placed P e [] p h = All-cons P e [] p h
All-placed P e (x ∷ xs) p h =
    elim (ltb e.number x.number) as (λ t. All P (cond t (e ∷ x ∷ xs) (x ∷ placed e xs)))
    [ true ↦ All-cons P e (x ∷ xs) p h | false ↦ All-cons P x (placed e xs) (All-head P x xs h) (All-placed P e xs p (All-tail P x xs h)) ]

pub all_before_placing : (P : Entry → Type 0) (e : Entry) (xs : List Entry) → All P (placed e xs) → P e × All P xs
all_before_placing P e [] h = (All-head P e [] h, All-nil P)
all_before_placing P e (x ∷ xs) h =
    elim (cases_Bool (ltb e.number x.number)) [
      | inl t ↦ let g : All P (e ∷ x ∷ xs) = rw t at h in (All-head P e (x ∷ xs) g, All-tail P e (x ∷ xs) g)
      | inr t ↦ let g : All P (x ∷ placed e xs) = rw t at h in let p = all_before_placing P e xs (All-tail P x (placed e xs) g) in (p.0, All-cons P x xs (All-head P x (placed e xs) g) p.1)
    ]

pub placed_last : (e : Entry) (xs : List Entry) → All (λ x. x.number < e.number) xs → placed e xs ≡ xs ++ e ∷ []
placed_last e [] h = refl
placed_last e (x ∷ xs) h =
    let first = All-head (λ x. x.number < e.number) x xs h in
    cond-false _ _ _ (le-ltb e.number x.number (omega arith))
    ∙ ap (λ (l : List Entry). x ∷ l) (placed_last e xs (All-tail (λ x. x.number < e.number) x xs h))

pub found_placed : (number : ℕ) (block : List ℕ) (xs : List Entry) → Lacks number xs → block_of number (placed (entry number block) xs) ≡ Some block
found_placed number block [] h = cond-true _ _ _ (eq-eqb number number refl)
found_placed number block (x ∷ xs) h =
    elim (ltb number x.number) as (λ t. block_of number (cond t (entry number block ∷ x ∷ xs) (x ∷ placed (entry number block) xs)) ≡ Some block) [
      | true ↦ cond-true _ _ _ (eq-eqb number number refl)
      | false ↦ cond-false _ _ _ (ne_eqb x.number number (All-head (OtherNumber number) x xs h)) ∙ found_placed number block xs (All-tail (OtherNumber number) x xs h)
    ]

pub without_placed : (number : ℕ) (block : List ℕ) (xs : List Entry) → Lacks number xs → without number (placed (entry number block) xs) ≡ xs
without_placed number block [] h = cond-true _ _ _ (eq-eqb number number refl)
without_placed number block (x ∷ xs) h =
    elim (ltb number x.number) as (λ t. without number (cond t (entry number block ∷ x ∷ xs) (x ∷ placed (entry number block) xs)) ≡ x ∷ xs) [
      | true ↦ cond-true _ _ _ (eq-eqb number number refl)
      | false ↦ cond-false _ _ _ (ne_eqb x.number number (All-head (OtherNumber number) x xs h)) ∙ ap (λ (l : List Entry). x ∷ l) (without_placed number block xs (All-tail (OtherNumber number) x xs h))
    ]

-- Two entries with different numbers can be put in either first.
below : (a b : Entry) (xs : List Entry) → a.number < b.number → placed a (placed b xs) ≡ placed b (placed a xs)
below a b [] h = cond-true _ _ _ (lt-ltb a.number b.number h) ∙ sym (cond-false _ _ _ (le-ltb b.number a.number (omega arith)))
below a b (x ∷ xs) h =
    elim (cases_Bool (ltb b.number x.number)) [
      | inl q ↦
          let bx = ltb-true b.number x.number q in
          let ax : ltb a.number x.number ≡ true = lt-ltb _ _ (omega arith) in
          let ab : ltb a.number b.number ≡ true = lt-ltb _ _ h in
          let ba : ltb b.number a.number ≡ false = le-ltb _ _ (omega arith) in
          ap (placed a) (cond-true _ (b ∷ x ∷ xs) (x ∷ placed b xs) q)
          ∙ cond-true _ (a ∷ b ∷ x ∷ xs) (b ∷ placed a (x ∷ xs)) ab
          ∙ ap (λ (l : List Entry). a ∷ l) (sym (cond-true _ (b ∷ x ∷ xs) (x ∷ placed b xs) q))
          ∙ sym (cond-false _ (b ∷ a ∷ x ∷ xs) (a ∷ placed b (x ∷ xs)) ba)
          ∙ ap (placed b) (sym (cond-true _ (a ∷ x ∷ xs) (x ∷ placed a xs) ax))
      | inr q ↦
          let xb = ltb-false b.number x.number q in
          let left : placed a (placed b (x ∷ xs)) ≡ placed a (x ∷ placed b xs) = ap (placed a) (cond-false _ (b ∷ x ∷ xs) (x ∷ placed b xs) q) in
          elim (cases_Bool (ltb a.number x.number)) [
            | inl r ↦
                let ba : ltb b.number a.number ≡ false = le-ltb _ _ (omega arith) in
                left
                ∙ cond-true _ (a ∷ x ∷ placed b xs) (x ∷ placed a (placed b xs)) r
                ∙ ap (λ (l : List Entry). a ∷ l) (sym (cond-false _ (b ∷ x ∷ xs) (x ∷ placed b xs) q))
                ∙ sym (cond-false _ (b ∷ a ∷ x ∷ xs) (a ∷ placed b (x ∷ xs)) ba)
                ∙ ap (placed b) (sym (cond-true _ (a ∷ x ∷ xs) (x ∷ placed a xs) r))
            | inr r ↦
                left
                ∙ cond-false _ (a ∷ x ∷ placed b xs) (x ∷ placed a (placed b xs)) r
                ∙ ap (λ (l : List Entry). x ∷ l) (below a b xs h)
                ∙ sym (cond-false _ (b ∷ x ∷ placed a xs) (x ∷ placed b (placed a xs)) q)
                ∙ ap (placed b) (sym (cond-false _ (a ∷ x ∷ xs) (x ∷ placed a xs) r))
          ]
    ]

pub placed_in_either_order : (a b : Entry) (xs : List Entry) → a.number ≢ b.number → placed a (placed b xs) ≡ placed b (placed a xs)
placed_in_either_order a b xs h =
    elim (cases_Bool (ltb a.number b.number)) [
      | inl q ↦ below a b xs (ltb-true _ _ q)
      | inr q ↦ let le = ltb-false a.number b.number q in sym (below b a xs (less b.number a.number le (λ e. h (sym e))))
    ]
  where
    less : (m n : ℕ) → m ≤ n → (m ≡ n → ⊥) → m < n
    less m n l e = omega arith

-- Where the numbers of a list with an entry put in rise, the others have other numbers, and rise as well.
pub rising_before_placing : (low last : ℕ) (e : Entry) (xs : List Entry) → Rising low last (placed e xs) → Rising low last xs × Lacks e.number xs
rising_before_placing low last e [] h = (omega (arith, h.0, h.1), All-nil (OtherNumber e.number))
rising_before_placing low last e (x ∷ xs) h =
    elim (cases_Bool (ltb e.number x.number)) [
      | inl t ↦
          let g : Rising low last (e ∷ x ∷ xs) = rw t at h in
          let a = g.0 in
          let r : Rising e.number last (x ∷ xs) = g.1 in
          (rising_lower low e.number last (x ∷ xs) (omega arith) r, lacks_if_above e.number e.number last (x ∷ xs) (omega arith) r)
      | inr t ↦
          let g : Rising low last (x ∷ placed e xs) = rw t at h in
          let p = rising_before_placing x.number last e xs g.1 in
          let q = ltb-false e.number x.number t in
          let ne : x.number ≢ e.number = above x.number e xs last g.1 in
          ((g.0, p.0), All-cons (OtherNumber e.number) x xs ne p.1)
    ]
  where
    above : (low : ℕ) (e : Entry) (xs : List Entry) (last : ℕ) → Rising low last (placed e xs) → low ≢ e.number
    above low e xs last r q = let p = (all_before_placing (λ y. low < y.number) e xs (rising_all_above low last (placed e xs) r)).0 in omega arith

-- Slots.

-- What holds of every entry of slots.
abbrev pub InSlot : (P : Entry → Type 0) → Option Entry → Type 0
InSlot P None = Unit {0}
InSlot P (Some e) = P e

pub all_in_slots : (P : Entry → Type 0) (slots : List (Option Entry)) → All P (ranked slots) → All (InSlot P) slots
all_in_slots P [] h = All-nil (InSlot P)
all_in_slots P (None ∷ slots) h = All-cons (InSlot P) None slots tt (all_in_slots P slots h)
all_in_slots P (Some e ∷ slots) h = let p = all_before_placing P e (ranked slots) h in All-cons (InSlot P) (Some e) slots p.0 (all_in_slots P slots p.1)

-- A slot's entry is one among those of the other slots.
pub ranked_at : (slots : List (Option Entry)) (s : ℕ) (e : Entry) → s < length slots → get_or slots s None ≡ Some e → Lacks e.number (ranked (set slots s None))
    → ranked slots ≡ placed e (ranked (set slots s None))
ranked_at [] s e h g l = absurd (omega arith)
ranked_at (None ∷ slots) zero e h g l = absurd (none-some _ g)
ranked_at (Some y ∷ slots) zero e h g l = ap (λ (z : Entry). placed z (ranked slots)) (same_Some _ _ g)
ranked_at (None ∷ slots) (suc s) e h g l = ranked_at slots s e (omega arith) g l
ranked_at (Some y ∷ slots) (suc s) e h g l =
    let p = all_before_placing (OtherNumber e.number) y (ranked (set slots s None)) l in
    ap (placed y) (ranked_at slots s e (omega arith) g p.1) ∙ placed_in_either_order y e (ranked (set slots s None)) p.0

-- No other slot has its number.
pub others_lack : (low last : ℕ) (slots : List (Option Entry)) (s : ℕ) (e : Entry) → s < length slots → get_or slots s None ≡ Some e → Rising low last (ranked slots)
    → Lacks e.number (ranked (set slots s None))
others_lack low last [] s e h g r = absurd (omega arith)
others_lack low last (None ∷ slots) zero e h g r = absurd (none-some _ g)
others_lack low last (Some y ∷ slots) zero e h g r =
    subst (λ (z : Entry). Lacks z.number (ranked slots)) (same_Some _ _ g) (rising_before_placing low last y (ranked slots) r).1
others_lack low last (None ∷ slots) (suc s) e h g r = others_lack low last slots s e (omega arith) g r
others_lack low last (Some y ∷ slots) (suc s) e h g r =
    let p = rising_before_placing low last y (ranked slots) r in
    let rest = others_lack low last slots s e (omega arith) g p.0 in
    let at = All-get_or (InSlot (OtherNumber y.number)) slots s None (omega arith) (all_in_slots (OtherNumber y.number) slots p.1) in
    let ne : e.number ≢ y.number = subst (InSlot (OtherNumber y.number)) g at in
    All-placed (OtherNumber e.number) y (ranked (set slots s None)) (λ q. ne (sym q)) rest

pub none_found : (number : ℕ) (slots : List (Option Entry)) → All (λ o. holds (Some number) o ≡ false) slots → Lacks number (ranked slots)
none_found number [] h = All-nil (OtherNumber number)
none_found number (None ∷ slots) h = none_found number slots (All-tail (λ o. holds (Some number) o ≡ false) None slots h)
none_found number (Some y ∷ slots) h =
    let first = All-head (λ o. holds (Some number) o ≡ false) (Some y) slots h in
    let rest = none_found number slots (All-tail (λ o. holds (Some number) o ≡ false) (Some y) slots h) in
    All-placed (OtherNumber number) y (ranked slots) (λ q. both_ways _ first (eq-eqb y.number number q)) rest

-- Where no slot is free, there are as many entries as slots.
pub all_taken : (slots : List (Option Entry)) → All (λ o. holds None o ≡ false) slots → length (ranked slots) ≡ length slots
all_taken [] h = refl
all_taken (None ∷ slots) h = let z : ◌≡◌ {A = ℕ} 0 1 = let q = All-head (λ o. holds None o ≡ false) None slots h in cc in absurd (omega arith)
all_taken (Some y ∷ slots) h = length-placed y (ranked slots) ∙ ap suc (all_taken slots (All-tail (λ o. holds None o ≡ false) (Some y) slots h))

pub ranked_none : (n : ℕ) → ranked (replicate n None) ≡ []
ranked_none zero = refl
ranked_none (suc n) = ranked_none n

-- What holds a number is an entry with that number.
pub holding_entry : (number : ℕ) (o : Option Entry) → holds (Some number) o ≡ true → (block : List ℕ) × (o ≡ Some (entry number block))
holding_entry number None h = let z : ◌≡◌ {A = ℕ} 0 1 = cc in absurd (omega arith)
holding_entry number (Some e) h = (e.block, ap (λ (n : ℕ). Some (entry n e.block)) (eqb-true e.number number h))
