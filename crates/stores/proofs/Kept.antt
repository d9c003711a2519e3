-- What the calls of a store make of its contents.
use Rattle.std.proofs.Common.{◌≡◌, ℕ, ◌^◌, ◌<◌, ◌≤◌, true, not, ◌||◌, eqb, ltb, leb, List, length, is_some, Some, None, Ok, Err, Result, sym, refl, ap, ◌∙◌, subst, inl, inr, arith, lit<, lit≤}
use Rattle.std.proofs.lemmas.List.Elements.{All-nil, All-push}
use Rattle.std.proofs.lemmas.List.{length_push}
use Rattle.std.proofs.lemmas.Bool.{cases_Bool, or_parts, eqb-false, ltb-false, leb-false}
use Rattle.values.specs.Answers.{unless_refused}
use Rattle.values.specs.Blocks.{max_block_length}
use Rattle.values.specs.Refusals.{number_of}
use Rattle.values.specs.declared.refusal.Refusal.{Refusal}
use Rattle.values.proofs.Answers.{accepted_is_not_refused, accepted, also_accepted, also_refused}
use Rattle.stores.specs.Calls.{Appends, append_tests, admission, appending, dropping}
use Rattle.stores.specs.Contents.{Entry, entry, Contents, emptied, appended, dropped, block_of, without}
use Rattle.stores.specs.Laws.{BlockSized, Lawful, OthersStay, EntriesAreKept}
use Rattle.stores.proofs.Entries.{nothing_found, found_at_end, found_before_end, found_without, All-without, length_without_within, rising_at_end, Rising-without, lacks_if_below, Lacks-without}

-- What an accepted append tells.
pub record Admitted (number : ℕ) (block : List ℕ) (held last capacity : ℕ) : Type 0 where
  pub sized : BlockSized block
  pub above : last < number
  pub room : held < capacity

pub admitted : {B : Type 0} (number : ℕ) (block : List ℕ) (held last capacity : ℕ) (x y : B) → Ok y ≡ unless_refused (append_tests number block held last capacity) x → Admitted number block held last capacity × (y ≡ x)
admitted {B = B} number block held last capacity x y e =
    elim (cases_Bool (eqb (length block) 0 || ltb max_block_length (length block))) [
      | inl p ↦ absurd (accepted_is_not_refused (rw p at e))
      | inr p ↦
          elim (cases_Bool (leb number last)) [
            | inl q ↦ absurd (accepted_is_not_refused (rw (p, q) at e))
            | inr q ↦
                elim (cases_Bool (leb capacity held)) [
                  | inl r ↦ absurd (accepted_is_not_refused (rw (p, q, r) at e))
                  | inr r ↦
                      let s = or_parts _ _ p in
                      let z = eqb-false (length block) 0 s.0 in
                      let f : ◌≡◌ {A = Result B ℕ} (Ok y) (Ok x) = rw (p, q, r) at e in
                      (record { sized = (positive (length block) z, ltb-false _ _ s.1); above = leb-false _ _ q; room = leb-false _ _ r }, cc)
                ]
          ]
    ]
  where
    positive : (n : ℕ) → (n ≡ 0 → ⊥) → 0 < n
    positive n h = omega arith

pub Lawful-emptied : (capacity : ℕ) → capacity ≤ 4096 → Lawful (emptied capacity)
Lawful-emptied capacity h = record { rising = lit≤ tt; sized = All-nil (λ e. BlockSized e.block); within = omega arith; bounded = h; narrow = lit< tt }

pub Lawful-appended : (c : Contents) (number : ℕ) (block : List ℕ) → Lawful c → number < 2 ^ 32 → Admitted number block (length c.held) c.last c.capacity
    → Lawful (appended number block c)
Lawful-appended c number block l n a =
    let p = length_push c.held (entry number block) in
    let q = a.room in
    record {
      rising = rising_at_end 0 c.last number block c.held a.above l.rising;
      sized = All-push (λ e. BlockSized e.block) c.held (entry number block) l.sized a.sized;
      within = omega arith;
      bounded = l.bounded;
      narrow = n;
    }

pub Lawful-dropped : (c : Contents) (number : ℕ) → Lawful c → Lawful (dropped number c)
Lawful-dropped c number l =
    let p = length_without_within number c.held in
    let q = l.within in
    record {
      rising = Rising-without 0 c.last number c.held l.rising;
      sized = All-without (λ e. BlockSized e.block) number c.held l.sized;
      within = omega arith;
      bounded = l.bounded;
      narrow = l.narrow;
    }

-- Of an accepted drop: the contents afterwards.
pub is_dropped : (c d : Contents) (number : ℕ) → Ok d ≡ dropping number c → d ≡ dropped number c
is_dropped c d number e =
    elim (cases_Bool (not (is_some (block_of number c.held)))) [
      | inl p ↦ absurd (accepted_is_not_refused (rw p at e))
      | inr p ↦ let f : ◌≡◌ {A = Result Contents ℕ} (Ok d) (Ok (dropped number c)) = rw p at e in cc
    ]

pub same_contents : (c d : Contents) → c.held ≡ d.held → c.last ≡ d.last → c.capacity ≡ d.capacity → c ≡ d
same_contents c d h l k =
    ap (λ (es : List Entry). let e : Contents = record { held = es; last = c.last; capacity = c.capacity } in e) h
    ∙ ap (λ (n : ℕ). let e : Contents = record { held = d.held; last = n; capacity = c.capacity } in e) l
    ∙ ap (λ (n : ℕ). let e : Contents = record { held = d.held; last = d.last; capacity = n } in e) k

-- The answers of calls on a store that counts its entries, by its contents.

same_tests : (number : ℕ) (block : List ℕ) (c : Contents) (held capacity : ℕ) → held ≡ length c.held → capacity ≡ c.capacity
    → unless_refused (append_tests number block held c.last capacity) (appended number block c) ≡ appending number block c
same_tests number block c held capacity h k =
    ap (λ (n : ℕ). unless_refused (append_tests number block n c.last capacity) (appended number block c)) h
    ∙ ap (λ (n : ℕ). unless_refused (append_tests number block (length c.held) c.last n) (appended number block c)) k

pub append_accepted : (c d : Contents) (number : ℕ) (block : List ℕ) (held capacity : ℕ) → Ok tt ≡ admission number block held c.last capacity
    → held ≡ length c.held → capacity ≡ c.capacity → d ≡ appended number block c → Ok d ≡ appending number block c
append_accepted c d number block held capacity a h k e =
    ap (λ (x : Contents). Ok x) e
    ∙ also_accepted (append_tests number block held c.last capacity) tt tt (appended number block c) a
    ∙ same_tests number block c held capacity h k

pub append_refused : (c : Contents) (number : ℕ) (block : List ℕ) (held capacity : ℕ) (r : Result Unit Refusal) (e : Refusal) → r ≡ Err e
    → Err (number_of e) ≡ admission number block held c.last capacity → held ≡ length c.held → capacity ≡ c.capacity → Appends number block c c r
append_refused c number block held capacity r e is a h k =
    subst (Appends number block c c) (sym is) (record {
      answered =
          also_refused (append_tests number block held c.last capacity) (number_of e) tt (appended number block c) a
          ∙ same_tests number block c held capacity h k;
      unaltered = refl;
    })

pub drop_accepted : (c d : Contents) (number : ℕ) → is_some (block_of number c.held) ≡ true → d ≡ dropped number c → Ok d ≡ dropping number c
drop_accepted c d number h e = accepted (is_some (block_of number c.held)) 20 d (dropped number c) h e

pub entries_are_kept : EntriesAreKept
entries_are_kept = record {
  empty = Lawful-emptied;
  append = λ c d number block l n e.
      let p = admitted number block (length c.held) c.last c.capacity (appended number block c) d (sym e) in
      let a = p.0 in
      subst (λ (d : Contents). Lawful d × (block_of number d.held ≡ Some block) × OthersStay number c d) (sym p.1) (
        Lawful-appended c number block l n a,
        found_at_end number block c.held (lacks_if_below number 0 c.last c.held a.above l.rising),
        λ other h. found_before_end other number block c.held h,
      );
  drop = λ c d number l e.
      subst (λ (d : Contents). Lawful d × (block_of number d.held ≡ None) × OthersStay number c d) (sym (is_dropped c d number (sym e))) (
        Lawful-dropped c number l,
        nothing_found number (without number c.held) (Lacks-without number 0 c.last c.held l.rising),
        λ other h. found_without other number c.held h,
      );
}
