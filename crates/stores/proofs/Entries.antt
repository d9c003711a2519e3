-- Lists of entries by rising number: what is found in them, and what an entry more or less makes of them.
use Rattle.std.proofs.Common.{◌≡◌, ℕ, suc, ◌^◌, ◌<◌, ◌≤◌, true, false, cond, eqb, ◌≢◌, List, [], ◌∷◌, ◌++◌, length, is_some, Some, None, Option, sym, refl, ap, ◌∙◌, inl, inr, arith}
use Rattle.std.specs.List.{All}
use Rattle.std.proofs.lemmas.List.Elements.{All-nil, All-cons, All-head, All-tail}
use Rattle.std.proofs.lemmas.Bool.{both_ways, cases_Bool, cond-true, cond-false, eqb-true, eq-eqb, ne_eqb}
use Rattle.stores.specs.Contents.{Entry, entry, Contents, without, block_of}
use Rattle.stores.specs.Laws.{BlockSized, Lawful, Rising}

abbrev pub OtherNumber : (number : ℕ) → Entry → Type 0
OtherNumber number e = e.number ≢ number

-- No entry has this number.
abbrev pub Lacks : (number : ℕ) → List Entry → Type 0
Lacks number es = All (OtherNumber number) es

pub nothing_found : (number : ℕ) (es : List Entry) → Lacks number es → block_of number es ≡ None
nothing_found number [] h = refl
nothing_found number (e ∷ es) h = cond-false _ _ _ (ne_eqb e.number number (All-head (OtherNumber number) e es h)) ∙ nothing_found number es (All-tail (OtherNumber number) e es h)

-- An entry at the end is found, and what stands before it as before.
pub found_at_end : (number : ℕ) (block : List ℕ) (es : List Entry) → Lacks number es → block_of number (es ++ entry number block ∷ []) ≡ Some block
found_at_end number block [] h = cond-true _ _ _ (eq-eqb number number refl)
found_at_end number block (e ∷ es) h = cond-false _ _ _ (ne_eqb e.number number (All-head (OtherNumber number) e es h)) ∙ found_at_end number block es (All-tail (OtherNumber number) e es h)

pub found_before_end : (other number : ℕ) (block : List ℕ) (es : List Entry) → other ≢ number → block_of other (es ++ entry number block ∷ []) ≡ block_of other es
found_before_end other number block [] h = cond-false _ _ _ (ne_eqb number other (λ q. h (sym q)))
found_before_end other number block (e ∷ es) h =
    ap (λ (o : Option (List ℕ)). cond (eqb e.number other) (Some e.block) o) (found_before_end other number block es h)

pub found_without : (other number : ℕ) (es : List Entry) → other ≢ number → block_of other (without number es) ≡ block_of other es
found_without other number [] h = refl
found_without other number (e ∷ es) h =
    elim (cases_Bool (eqb e.number number)) [
      | inl q ↦
          let n = eqb-true e.number number q in
          let p : block_of other (e ∷ es) ≡ block_of other es = cond-false _ _ _ (ne_eqb e.number other (λ r. h (sym r ∙ n))) in
          ap (block_of other) (cond-true _ es (e ∷ without number es) q) ∙ sym p
      | inr q ↦
          ap (block_of other) (cond-false _ es (e ∷ without number es) q)
          ∙ ap (λ (o : Option (List ℕ)). cond (eqb e.number other) (Some e.block) o) (found_without other number es h)
    ]

pub All-without : (P : Entry → Type 0) (number : ℕ) (es : List Entry) → All P es → All P (without number es)
All-without P number [] h = All-nil P
All-without P number (e ∷ es) h =
    elim (eqb e.number number) as (λ t. All P (cond t es (e ∷ without number es)))
    [ true ↦ All-tail P e es h | false ↦ All-cons P e _ (All-head P e es h) (All-without P number es (All-tail P e es h)) ]

pub length-without : (number : ℕ) (es : List Entry) → is_some (block_of number es) ≡ true → length es ≡ suc (length (without number es))
length-without number [] h = let z : ◌≡◌ {A = ℕ} 0 1 = cc in absurd (omega arith)
length-without number (e ∷ es) h =
    elim (cases_Bool (eqb e.number number)) [
      | inl q ↦ ap (λ (l : List Entry). suc (length l)) (sym (cond-true _ es (e ∷ without number es) q))
      | inr q ↦
          let f : is_some (block_of number es) ≡ true = ap is_some (sym (cond-false _ (Some e.block) (block_of number es) q)) ∙ h in
          ap suc (length-without number es f) ∙ ap (λ (l : List Entry). suc (length l)) (sym (cond-false _ es (e ∷ without number es) q))
    ]

pub length_without_within : (number : ℕ) (es : List Entry) → length (without number es) ≤ length es
length_without_within number [] = omega arith
length_without_within number (e ∷ es) =
    let p = length_without_within number es in
    elim (eqb e.number number) as (λ t. length (cond t es (e ∷ without number es)) ≤ suc (length es))
    [ true ↦ omega arith | false ↦ omega arith ]

-- Rising numbers.
pub rising_bound : (low last : ℕ) (es : List Entry) → Rising low last es → low ≤ last
rising_bound low last [] h = h
rising_bound low last (e ∷ es) h = let p = rising_bound e.number last es h.1 in omega (arith, h.0)

pub rising_lower : (low more last : ℕ) (es : List Entry) → low ≤ more → Rising more last es → Rising low last es
rising_lower low more last [] l h = omega arith
rising_lower low more last (e ∷ es) l h = (omega (arith, h.0), h.1)

pub rising_all_above : (low last : ℕ) (es : List Entry) → Rising low last es → All (λ e. low < e.number) es
rising_all_above low last [] h = All-nil (λ e. low < e.number)
rising_all_above low last (e ∷ es) h = All-cons (λ e. low < e.number) e es h.0 (rising_all_above low last es (rising_lower low e.number last es (omega (arith, h.0)) h.1))

pub rising_all_up_to : (low last : ℕ) (es : List Entry) → Rising low last es → All (λ e. e.number ≤ last) es
rising_all_up_to low last [] h = All-nil (λ e. e.number ≤ last)
rising_all_up_to low last (e ∷ es) h = All-cons (λ e. e.number ≤ last) e es (rising_bound e.number last es h.1) (rising_all_up_to e.number last es h.1)

pub rising_at_end : (low last number : ℕ) (block : List ℕ) (es : List Entry) → last < number → Rising low last es → Rising low number (es ++ entry number block ∷ [])
rising_at_end low last number block [] l h = (omega arith, omega arith)
rising_at_end low last number block (e ∷ es) l h = (h.0, rising_at_end e.number last number block es l h.1)

pub Rising-without : (low last number : ℕ) (es : List Entry) → Rising low last es → Rising low last (without number es)
Rising-without low last number [] h = h
Rising-without low last number (e ∷ es) h =
    elim (eqb e.number number) as (λ t. Rising low last (cond t es (e ∷ without number es)))
    [ true ↦ rising_lower low e.number last es (omega (arith, h.0)) h.1 | false ↦ (h.0, Rising-without e.number last number es h.1) ]

pub lacks_if_above : (number low last : ℕ) (es : List Entry) → number ≤ low → Rising low last es → Lacks number es
lacks_if_above number low last [] l h = All-nil (OtherNumber number)
lacks_if_above number low last (e ∷ es) l h = All-cons (OtherNumber number) e es (λ q. omega (arith, h.0)) (lacks_if_above number e.number last es (omega (arith, h.0)) h.1)

pub lacks_if_below : (number low last : ℕ) (es : List Entry) → last < number → Rising low last es → Lacks number es
lacks_if_below number low last [] l h = All-nil (OtherNumber number)
lacks_if_below number low last (e ∷ es) l h =
    let p = rising_bound e.number last es h.1 in
    All-cons (OtherNumber number) e es (λ q. omega arith) (lacks_if_below number e.number last es l h.1)

-- Where numbers rise, none stands twice.
pub Lacks-without : (number low last : ℕ) (es : List Entry) → Rising low last es → Lacks number (without number es)
Lacks-without number low last [] h = All-nil (OtherNumber number)
Lacks-without number low last (e ∷ es) h =
    elim (cases_Bool (eqb e.number number)) [
      | inl q ↦
          let n = eqb-true e.number number q in
          let p : Lacks number es = lacks_if_above number e.number last es (omega arith) h.1 in
          rw q p
      | inr q ↦ rw q (All-cons (OtherNumber number) e _ (λ n. both_ways _ q (eq-eqb e.number number n)) (Lacks-without number e.number last es h.1))
    ]

-- An entry that bytes can hold: it is read back as it was written.
abbrev pub Storable : Entry → Type 0
Storable e = (e.number < 2 ^ 32) × BlockSized e.block

pub lawful_storable : (c : Contents) → Lawful c → All Storable c.held
lawful_storable c l k d h =
    let within = rising_all_up_to 0 c.last c.held l.rising k d h in
    let narrow = l.narrow in
    (omega arith, l.sized k d h)
