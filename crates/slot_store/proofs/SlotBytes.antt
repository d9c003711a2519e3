-- Slots in bytes: reading them back, and writing one.
use Rattle.std.proofs.Common.{◌≡◌, ℕ, zero, suc, ◌+◌, ◌-◌, ◌*◌, ◌<◌, ◌≤◌, List, [], ◌∷◌, ◌++◌, length, get_or, drop, set, replicate, Some, None, Option, sym, refl, ap, ◌∙◌, ap₂, append_assoc, arith, length-append}
use Rattle.std.specs.List.{flat_map, All}
use Rattle.std.proofs.lemmas.List.{drop_at, drop-drop, length-replicate, length-drop, drop-replicate, drop-append-le, replicate-append-replicate}
use Rattle.std.proofs.lemmas.List.Elements.{All-head, All-tail, All-get_or, All-replicate}
use Rattle.values.specs.Bytes.{over}
use Rattle.values.proofs.Over.{over_behind, over_front_part}
use Rattle.stores.specs.Contents.{Entry}
use Rattle.stores.proofs.Entries.{Storable}
use Rattle.entry_layout.specs.Layout.{capacity_of, entry_bytes, entry_in}
use Rattle.entry_layout.proofs.EntryBytes.{length-entry, entry_read_back}
use Rattle.slot_store.specs.Slots.{slot_bytes, slotted, slots_in, slots_of, tail_of}
use Rattle.slot_store.proofs.Placing.{InSlot}

pub length-slot : (o : Option Entry) → InSlot Storable o → length (slot_bytes o) ≡ 69
length-slot None v = refl
length-slot (Some e) v =
    let r : length (replicate {A = ℕ} (64 - length e.block) 0) ≡ 64 - length e.block = length-replicate (64 - length e.block) 0 in
    let m = v.1.1 in
    simp length-append (omega arith)

pub length-slots : (slots : List (Option Entry)) → All (InSlot Storable) slots → length (flat_map slot_bytes slots) ≡ length slots * 69
length-slots [] v = refl
length-slots (o ∷ slots) v =
    let a = length-slot o (All-head (InSlot Storable) o slots v) in
    let b = length-slots slots (All-tail (InSlot Storable) o slots v) in
    simp length-append (omega arith)

slot_read_back : (o : Option Entry) (rest : List ℕ) → InSlot Storable o → entry_in (slot_bytes o ++ rest) ≡ o
slot_read_back None rest v = refl
slot_read_back (Some e) rest v =
    ap entry_in (append_assoc (entry_bytes e) (replicate (64 - length e.block) 0) rest)
    ∙ entry_read_back e (replicate (64 - length e.block) 0 ++ rest) v.0 v.1

pub slots_read_back : (slots : List (Option Entry)) (tail : List ℕ) → All (InSlot Storable) slots → slots_in (length slots) (slotted slots tail) ≡ slots
slots_read_back [] tail v = refl
slots_read_back (o ∷ slots) tail v =
    let g : slotted (o ∷ slots) tail ≡ slot_bytes o ++ slotted slots tail = append_assoc (slot_bytes o) (flat_map slot_bytes slots) tail in
    let first : entry_in (slotted (o ∷ slots) tail) ≡ o = ap entry_in g ∙ slot_read_back o (slotted slots tail) (All-head (InSlot Storable) o slots v) in
    let rest : drop 69 (slotted (o ∷ slots) tail) ≡ slotted slots tail = ap (drop 69) g ∙ drop_at (slot_bytes o) (slotted slots tail) 69 (length-slot o (All-head (InSlot Storable) o slots v)) in
    ap₂ (λ (x : Option Entry) (xs : List (Option Entry)). x ∷ xs) first (ap (slots_in (length slots)) rest ∙ slots_read_back slots tail (All-tail (InSlot Storable) o slots v))

pub count_of_slots : (n : ℕ) (bytes : List ℕ) → length (slots_in n bytes) ≡ n
count_of_slots zero bytes = refl
count_of_slots (suc n) bytes = ap suc (count_of_slots n (drop 69 bytes))

-- The slot at a place in the bytes.
pub slot_at : (n s : ℕ) (bytes : List ℕ) → s < n → get_or (slots_in n bytes) s None ≡ entry_in (drop (s * 69) bytes)
slot_at zero s bytes h = absurd (omega arith)
slot_at (suc n) zero bytes h = refl
slot_at (suc n) (suc s) bytes h =
    let m : 69 + s * 69 ≡ suc s * 69 = omega arith in
    slot_at n s (drop 69 bytes) (omega arith) ∙ ap entry_in (drop-drop (s * 69) 69 bytes ∙ ap (λ (k : ℕ). drop k bytes) m)

-- A write within one slot.
written_in_slot : (s : ℕ) (ys : List ℕ) (o : Option Entry) (slots : List (Option Entry)) (tail : List ℕ) → All (InSlot Storable) slots → s < length slots
    → ((rest : List ℕ) → over 0 ys (slot_bytes (get_or slots s None) ++ rest) ≡ slot_bytes o ++ rest) → over (s * 69) ys (slotted slots tail) ≡ slotted (set slots s o) tail
written_in_slot s ys o [] tail v h f = absurd (omega arith)
written_in_slot zero ys o (x ∷ slots) tail v h f =
    ap (over 0 ys) (append_assoc (slot_bytes x) (flat_map slot_bytes slots) tail)
    ∙ f (slotted slots tail)
    ∙ sym (append_assoc (slot_bytes o) (flat_map slot_bytes slots) tail)
written_in_slot (suc s) ys o (x ∷ slots) tail v h f =
    let l = length-slot x (All-head (InSlot Storable) x slots v) in
    ap (over (suc s * 69) ys) (append_assoc (slot_bytes x) (flat_map slot_bytes slots) tail)
    ∙ over_behind (s * 69) (suc s * 69) (slot_bytes x) ys (slotted slots tail) (omega arith)
    ∙ ap (λ (w : List ℕ). slot_bytes x ++ w) (written_in_slot s ys o slots tail (All-tail (InSlot Storable) x slots v) (omega arith) f)
    ∙ sym (append_assoc (slot_bytes x) (flat_map slot_bytes (set slots s o)) tail)

-- An entry written into a free slot.
pub slot_filled : (s : ℕ) (e : Entry) (slots : List (Option Entry)) (tail : List ℕ) → All (InSlot Storable) slots → Storable e → s < length slots → get_or slots s None ≡ None
    → over (s * 69) (entry_bytes e) (slotted slots tail) ≡ slotted (set slots s (Some e)) tail
slot_filled s e slots tail v w h g =
    written_in_slot s (entry_bytes e) (Some e) slots tail v h (λ rest. ap (λ (o : Option Entry). over 0 (entry_bytes e) (slot_bytes o ++ rest)) g ∙ filled rest)
  where
    filled : (rest : List ℕ) → over 0 (entry_bytes e) (replicate 69 0 ++ rest) ≡ slot_bytes (Some e) ++ rest
    filled rest =
        let l = length-entry e in
        let m = w.1.1 in
        let z : length (replicate {A = ℕ} 69 0) ≡ 69 = refl in
        let k : 0 + length (entry_bytes e) ≡ 5 + length e.block = omega arith in
        let n : 69 - (5 + length e.block) ≡ 64 - length e.block = omega arith in
        let d : drop (5 + length e.block) (replicate 69 0 ++ rest) ≡ replicate (64 - length e.block) 0 ++ rest =
        drop-append-le (5 + length e.block) (replicate 69 0) rest (omega arith)
        ∙ ap (λ (w : List ℕ). w ++ rest) (drop-replicate (5 + length e.block) 69 0 ∙ ap (λ (j : ℕ). replicate j 0) n) in
        ap (λ (j : ℕ). entry_bytes e ++ drop j (replicate 69 0 ++ rest)) k
        ∙ ap (λ (w : List ℕ). entry_bytes e ++ w) d
        ∙ sym (append_assoc (entry_bytes e) (replicate (64 - length e.block) 0) rest)

-- A slot that is zeroed.
pub slot_freed : (s size : ℕ) (slots : List (Option Entry)) (tail : List ℕ) → All (InSlot Storable) slots → s < length slots → size ≡ 69
    → over (s * 69) (replicate size 0) (slotted slots tail) ≡ slotted (set slots s None) tail
slot_freed s size slots tail v h e =
    let l = length-slot (get_or slots s None) (All-get_or (InSlot Storable) slots s None h v) in
    ap (λ (k : ℕ). over (s * 69) (replicate k 0) (slotted slots tail)) e
    ∙ written_in_slot s (replicate 69 0) None slots tail v h (λ rest. over_front_part (replicate 69 0) (slot_bytes (get_or slots s None)) rest (sym l))

pub free_slots_bytes : (n : ℕ) → flat_map slot_bytes (replicate n None) ≡ replicate (n * 69) 0
free_slots_bytes zero = refl
free_slots_bytes (suc n) =
    let m : 69 + n * 69 ≡ suc n * 69 = omega arith in
    ap (λ (w : List ℕ). replicate 69 0 ++ w) (free_slots_bytes n) ∙ replicate-append-replicate {A = ℕ} 69 (n * 69) 0 ∙ ap (λ (k : ℕ). replicate k 0) m

pub free_slots_storable : (n : ℕ) → All (InSlot Storable) (replicate n None)
free_slots_storable n = All-replicate (InSlot Storable) n None tt

pub slots_within : (bytes : List ℕ) → capacity_of (length bytes) * 69 ≤ length bytes
slots_within bytes = omega arith

-- Bytes that are laid out anew, with the same tail.
pub record Relaid (bytes after : List ℕ) (new : List (Option Entry)) : Type 0 where
  pub long : length after ≡ length bytes
  pub slots : slots_of after ≡ new
  pub tail : tail_of after ≡ tail_of bytes
  pub laid : after ≡ slotted (slots_of after) (tail_of after)

pub relaid : (bytes after : List ℕ) (slots : List (Option Entry)) → length slots ≡ capacity_of (length bytes) → All (InSlot Storable) slots
    → after ≡ slotted slots (tail_of bytes) → Relaid bytes after slots
relaid bytes after slots l v e =
    let n : ℕ = capacity_of (length bytes) in
    let w = slots_within bytes in
    let j : length (flat_map slot_bytes slots) ≡ n * 69 = length-slots slots v ∙ ap (λ (k : ℕ). k * 69) l in
    let t : length (tail_of bytes) ≡ length bytes - n * 69 = length-drop (n * 69) bytes in
    let long : length after ≡ length bytes = ap length e ∙ length-append (flat_map slot_bytes slots) (tail_of bytes) ∙ omega arith in
    let read : slots_in n after ≡ slots = ap (slots_in n) e ∙ ap (λ (k : ℕ). slots_in k (slotted slots (tail_of bytes))) (sym l) ∙ slots_read_back slots (tail_of bytes) v in
    let rest : drop (n * 69) after ≡ tail_of bytes = ap (drop (n * 69)) e ∙ drop_at (flat_map slot_bytes slots) (tail_of bytes) (n * 69) j in
    let s : slots_of after ≡ slots = ap (λ (k : ℕ). slots_in (capacity_of k) after) long ∙ read in
    let u : tail_of after ≡ tail_of bytes = ap (λ (k : ℕ). drop (capacity_of k * 69) after) long ∙ rest in
    record { long = long; slots = s; tail = u; laid = e ∙ ap₂ (λ (x : List (Option Entry)) (y : List ℕ). slotted x y) (sym s) (sym u) }
