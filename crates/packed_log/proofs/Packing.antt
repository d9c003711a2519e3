-- Entries packed into bytes: what is read back, and what an entry more or less makes of the bytes.
use Rattle.std.proofs.Common.{◌≡◌, ℕ, suc, ◌+◌, ◌-◌, ◌*◌, ◌≤◌, eqb, List, [], ◌∷◌, ◌++◌, length, take, drop, replicate, Some, None, Option, sym, refl, ap, ◌∙◌, subst, inl, inr, append_assoc, add-zero, zero-add, arith, length-append}
use Rattle.std.specs.Option.{option_map}
use Rattle.std.specs.List.{flat_map, All}
use Rattle.std.proofs.lemmas.List.{take_at, drop_at, drop-append-le, drop-replicate, length-replicate, replicate-append-replicate, flat_map_more}
use Rattle.std.proofs.Math.Seq.{get_or-append_seam}
use Rattle.std.proofs.lemmas.List.Elements.{All-head, All-tail}
use Rattle.std.proofs.lemmas.Grind.{flat_map-append}
use Rattle.std.proofs.lemmas.Bool.{cases_Bool, cond-true, cond-false, and_from, le-leb}
use Rattle.values.specs.Bytes.{over}
use Rattle.values.proofs.Over.{over_behind}
use Rattle.stores.specs.Contents.{Entry, block_of, without}
use Rattle.stores.proofs.Entries.{Storable}
use Rattle.entry_layout.specs.Layout.{block_at, entry_bytes, entry_in}
use Rattle.entry_layout.proofs.EntryBytes.{length-entry, entry_read_back}
use Rattle.packed_log.specs.Log.{packed_length, packed, followed, entries_in, found_from, taken_out}

-- How long packed entries are.

pub packed_length_bound : (es : List Entry) → All Storable es → packed_length es ≤ length es * 69
packed_length_bound [] f = omega arith
packed_length_bound (e ∷ es) f =
    let p = packed_length_bound es (All-tail Storable e es f) in
    let q = (All-head Storable e es f).1.1 in
    let l = length-entry e in
    simp length-append (omega arith)

-- Reading back.

entries_begin : (count : ℕ) (bytes : List ℕ) (e : Entry) → entry_in bytes ≡ Some e → entries_in (suc count) bytes ≡ e ∷ entries_in count (drop (5 + length e.block) bytes)
entries_begin count bytes e h = ap (λ (o : Option Entry). followed o (λ e. entries_in count (drop (5 + length e.block) bytes))) h

entries_read_back : (es : List Entry) (rest : List ℕ) → All Storable es → entries_in (length es) (flat_map entry_bytes es ++ rest) ≡ es
entries_read_back [] rest f = refl
entries_read_back (e ∷ es) rest f =
    let behind : List ℕ = flat_map entry_bytes es ++ rest in
    let g : flat_map entry_bytes (e ∷ es) ++ rest ≡ entry_bytes e ++ behind = append_assoc (entry_bytes e) (flat_map entry_bytes es) rest in
    let d : drop (5 + length e.block) (entry_bytes e ++ behind) ≡ behind = drop_at (entry_bytes e) behind _ (length-entry e) in
    let h = All-head Storable e es f in
    ap (entries_in (suc (length es))) g
    ∙ entries_begin (length es) (entry_bytes e ++ behind) e (entry_read_back e behind h.0 h.1)
    ∙ ap (λ (w : List ℕ). e ∷ entries_in (length es) w) d
    ∙ ap (λ (fs : List Entry). e ∷ fs) (entries_read_back es rest (All-tail Storable e es f))

pub packed_read_back : (room count : ℕ) (es : List Entry) (tail : List ℕ) → All Storable es → count ≡ length es → entries_in count (packed room es tail) ≡ es
packed_read_back room count es tail f c = ap (λ (n : ℕ). entries_in n (packed room es tail)) c ∙ entries_read_back es (replicate (room - packed_length es) 0 ++ tail) f

pub packed_tail : (room : ℕ) (es : List Entry) (tail : List ℕ) → packed_length es ≤ room → drop room (packed room es tail) ≡ tail
packed_tail room es tail h =
    let zeros : List ℕ = replicate (room - packed_length es) 0 in
    let l : length zeros ≡ room - packed_length es = length-replicate (room - packed_length es) 0 in
    let m : length (flat_map entry_bytes es ++ zeros) ≡ room = length-append (flat_map entry_bytes es) zeros ∙ omega arith in
    ap (drop room) (sym (append_assoc (flat_map entry_bytes es) zeros tail)) ∙ drop_at (flat_map entry_bytes es ++ zeros) tail room m

pub length-packed : (room : ℕ) (es : List Entry) (tail : List ℕ) → packed_length es ≤ room → length (packed room es tail) ≡ room + length tail
length-packed room es tail h =
    let zeros : List ℕ = replicate (room - packed_length es) 0 in
    let l : length zeros ≡ room - packed_length es = length-replicate (room - packed_length es) 0 in
    let m = length-append zeros tail in
    length-append (flat_map entry_bytes es) (zeros ++ tail) ∙ omega arith

-- An entry more at the end.

pub length_one_more : (es : List Entry) (e : Entry) → packed_length (es ++ e ∷ []) ≡ packed_length es + length (entry_bytes e)
length_one_more es e = ap length (sym (flat_map_more entry_bytes [] es e)) ∙ length-append (flat_map entry_bytes es) (entry_bytes e)

-- Zeros that something was written over.
fewer_zeros : (size free : ℕ) (tail : List ℕ) → size ≤ free → drop (0 + size) (replicate free 0 ++ tail) ≡ replicate (free - size) 0 ++ tail
fewer_zeros size free tail h =
    let l : length (replicate {A = ℕ} free 0) ≡ free = length-replicate free 0 in
    ap (λ (k : ℕ). drop k (replicate free 0 ++ tail)) (zero-add size)
    ∙ drop-append-le size (replicate free 0) tail (omega arith)
    ∙ ap (λ (w : List ℕ). w ++ tail) (drop-replicate size free 0)

pub packed_one_more : (room : ℕ) (es : List Entry) (e : Entry) (tail : List ℕ) → packed_length es + length (entry_bytes e) ≤ room
    → over (packed_length es) (entry_bytes e) (packed room es tail) ≡ packed room (es ++ e ∷ []) tail
packed_one_more room es e tail h =
    let js : List ℕ = flat_map entry_bytes es in
    let free : ℕ = room - packed_length es in
    let size : ℕ = length (entry_bytes e) in
    let m = length_one_more es e in
    let less : free - size ≡ room - packed_length (es ++ e ∷ []) = omega arith in
    over_behind 0 (packed_length es) js (entry_bytes e) (replicate free 0 ++ tail) (add-zero (packed_length es))
    ∙ ap (λ (w : List ℕ). js ++ (entry_bytes e ++ w)) (fewer_zeros size free tail (omega arith))
    ∙ sym (append_assoc js (entry_bytes e) (replicate (free - size) 0 ++ tail))
    ∙ ap (λ (w : List ℕ). w ++ (replicate (free - size) 0 ++ tail)) (flat_map_more entry_bytes [] es e)
    ∙ ap (λ (k : ℕ). flat_map entry_bytes (es ++ e ∷ []) ++ (replicate k 0 ++ tail)) less

-- Where an entry stands.

pub record Found (number from place : ℕ) (e : Entry) (es : List Entry) : Type 0 where
  pub before : List Entry
  pub behind : List Entry
  pub whole : es ≡ before ++ e ∷ behind
  pub left : without number es ≡ before ++ behind
  pub block : block_of number es ≡ Some e.block
  pub placed : from + packed_length before ≡ place

pub found_at_place : (number from place : ℕ) (e : Entry) (es : List Entry) → found_from number from es ≡ Some (place, e) → Found number from place e es
found_at_place number from place e [] h = let z : ◌≡◌ {A = ℕ} 0 1 = cc in absurd (omega arith)
found_at_place number from place e (x ∷ es) h =
    elim (cases_Bool (eqb x.number number)) [
      | inl q ↦
          let s : ◌≡◌ {A = Option (ℕ × Entry)} (Some (from, x)) (Some (place, e)) = rw q at h in
          let same : ◌≡◌ {A = ℕ × Entry} (from, x) (place, e) = cc in
          let is : x ≡ e = ap (λ p. p.1) same in
          record {
            before = [];
            behind = es;
            whole = ap (λ (y : Entry). y ∷ es) is;
            left = cond-true _ es (x ∷ without number es) q;
            block = cond-true _ (Some x.block) (block_of number es) q ∙ ap (λ (y : Entry). Some y.block) is;
            placed = add-zero from ∙ ap (λ p. p.0) same;
          }
      | inr q ↦
          let next : ℕ = from + (5 + length x.block) in
          let s : found_from number next es ≡ Some (place, e) = rw q at h in
          let p = found_at_place number next place e es s in
          let l = length-entry x in
          let m = length-append (entry_bytes x) (flat_map entry_bytes p.before) in
          let n = p.placed in
          record {
            before = x ∷ p.before;
            behind = p.behind;
            whole = ap (λ (fs : List Entry). x ∷ fs) p.whole;
            left = cond-false _ es (x ∷ without number es) q ∙ ap (λ (fs : List Entry). x ∷ fs) p.left;
            block = cond-false _ (Some x.block) (block_of number es) q ∙ p.block;
            placed = omega arith;
          }
    ]

pub nothing_at_no_place : (number from : ℕ) (es : List Entry) → found_from number from es ≡ None → block_of number es ≡ None
nothing_at_no_place number from [] h = refl
nothing_at_no_place number from (e ∷ es) h =
    elim (cases_Bool (eqb e.number number)) [
      | inl q ↦
          let s : ◌≡◌ {A = Option (ℕ × Entry)} (Some (from, e)) None = rw q at h in
          let z : ◌≡◌ {A = ℕ} 0 1 = cc in absurd (omega arith)
      | inr q ↦
          let s : found_from number (from + (5 + length e.block)) es ≡ None = rw q at h in
          cond-false _ (Some e.block) (block_of number es) q ∙ nothing_at_no_place number (from + (5 + length e.block)) es s
    ]

-- The bytes around a found entry.
bytes_around : (before behind : List Entry) (e : Entry) (rest : List ℕ)
    → flat_map entry_bytes (before ++ e ∷ behind) ++ rest ≡ flat_map entry_bytes before ++ (entry_bytes e ++ (flat_map entry_bytes behind ++ rest))
bytes_around before behind e rest =
    ap (λ (w : List ℕ). w ++ rest) (flat_map-append entry_bytes before (e ∷ behind))
    ∙ append_assoc (flat_map entry_bytes before) (entry_bytes e ++ flat_map entry_bytes behind) rest
    ∙ ap (λ (w : List ℕ). flat_map entry_bytes before ++ w) (append_assoc (entry_bytes e) (flat_map entry_bytes behind) rest)

all_in_the_middle : (P : Entry → Type 0) (before behind : List Entry) (e : Entry) → All P (before ++ e ∷ behind) → P e
all_in_the_middle P before behind e h =
    subst P (get_or-append_seam before e behind e) (h (length before) e (omega (arith, length-append before (e ∷ behind))))

entry_read_at_place : (number place : ℕ) (e : Entry) (es : List Entry) (rest : List ℕ) → Found number 0 place e es → All Storable es
    → entry_in (drop place (flat_map entry_bytes es ++ rest)) ≡ Some e
entry_read_at_place number place e es rest f h =
    let behind : List ℕ = flat_map entry_bytes f.behind ++ rest in
    let r : Storable e = all_in_the_middle Storable f.before f.behind e (subst (All Storable) f.whole h) in
    let p : packed_length f.before ≡ place = let q = f.placed in omega arith in
    ap (λ (fs : List Entry). entry_in (drop place (flat_map entry_bytes fs ++ rest))) f.whole
    ∙ ap (λ (w : List ℕ). entry_in (drop place w)) (bytes_around f.before f.behind e rest)
    ∙ ap entry_in (drop_at (flat_map entry_bytes f.before) (entry_bytes e ++ behind) place p)
    ∙ entry_read_back e behind r.0 r.1

pub block_read_at_place : (number : ℕ) (es : List Entry) (rest : List ℕ) (found : Option (ℕ × Entry)) → All Storable es → found ≡ found_from number 0 es
    → block_at (option_map (λ p. p.0) found) (flat_map entry_bytes es ++ rest) ≡ block_of number es
block_read_at_place number es rest None h p = sym (nothing_at_no_place number 0 es (sym p))
block_read_at_place number es rest (Some (place, e)) h p =
    let f = found_at_place number 0 place e es (sym p) in
    ap (option_map (λ e. e.block)) (entry_read_at_place number place e es rest f h) ∙ sym f.block

-- An entry less.

middle_taken_out : (at size end : ℕ) (front middle back rest : List ℕ) → length front ≡ at → length middle ≡ size → at + size + length back ≡ end
    → taken_out at size end (front ++ (middle ++ (back ++ rest))) ≡ front ++ (back ++ (replicate size 0 ++ rest))
middle_taken_out at size end front middle back rest a s e =
    let bytes : List ℕ = front ++ (middle ++ (back ++ rest)) in
    let lm : length (front ++ middle) ≡ at + size = length-append front middle ∙ omega arith in
    let lb : length (front ++ middle ++ back) ≡ end = length-append (front ++ middle) back ∙ omega arith in
    let two : bytes ≡ front ++ middle ++ (back ++ rest) = sym (append_assoc front middle (back ++ rest)) in
    let three : bytes ≡ front ++ middle ++ back ++ rest = two ∙ sym (append_assoc (front ++ middle) back rest) in
    let long : length bytes ≡ end + length rest = ap length three ∙ length-append (front ++ middle ++ back) rest ∙ ap (λ (k : ℕ). k + length rest) lb in
    let first : take at bytes ≡ front = take_at front (middle ++ (back ++ rest)) at a in
    let kept : take end bytes ≡ front ++ middle ++ back = ap (take end) three ∙ take_at (front ++ middle ++ back) rest end lb in
    let moved : drop (at + size) (take end bytes) ≡ back = ap (drop (at + size)) kept ∙ drop_at (front ++ middle) back (at + size) lm in
    let last : drop end bytes ≡ rest = ap (drop end) three ∙ drop_at (front ++ middle ++ back) rest end lb in
    cond-true _ _ _ (and_from _ _ (le-leb end (length bytes) (omega arith)) (le-leb (at + size) end (omega arith)))
    ∙ ap (λ (w : List ℕ). w ++ (drop (at + size) (take end bytes) ++ (replicate size 0 ++ drop end bytes))) first
    ∙ ap (λ (w : List ℕ). front ++ (w ++ (replicate size 0 ++ drop end bytes))) moved
    ∙ ap (λ (w : List ℕ). front ++ (back ++ (replicate size 0 ++ w))) last

-- How long entries are with and without a found one.
pub length_around : (number from place : ℕ) (e : Entry) (es : List Entry) (f : Found number from place e es)
    → (packed_length es ≡ packed_length f.before + (5 + length e.block) + packed_length f.behind) × (packed_length (without number es) ≡ packed_length f.before + packed_length f.behind)
length_around number from place e es f =
    let a = ap packed_length f.whole in
    let b = ap length (flat_map-append entry_bytes f.before (e ∷ f.behind)) in
    let c = length-append (flat_map entry_bytes f.before) (entry_bytes e ++ flat_map entry_bytes f.behind) in
    let d = length-append (entry_bytes e) (flat_map entry_bytes f.behind) in
    let l = length-entry e in (
      omega arith,
      ap packed_length f.left ∙ ap length (flat_map-append entry_bytes f.before f.behind) ∙ length-append (flat_map entry_bytes f.before) (flat_map entry_bytes f.behind),
    )

pub packed_one_less : (room number place size : ℕ) (e : Entry) (es : List Entry) (tail : List ℕ) → Found number 0 place e es → size ≡ 5 + length e.block → packed_length es ≤ room
    → taken_out place size (packed_length es) (packed room es tail) ≡ packed room (without number es) tail
packed_one_less room number place size e es tail f s h =
    let front : List ℕ = flat_map entry_bytes f.before in
    let back : List ℕ = flat_map entry_bytes f.behind in
    let free : ℕ = room - packed_length es in
    let rest : List ℕ = replicate free 0 ++ tail in
    let l = length_around number 0 place e es f in
    let la = l.0 in
    let lb = l.1 in
    let p = f.placed in
    let m = length-entry e in
    let more : size + free ≡ room - packed_length (without number es) = omega arith in
    let zeros : replicate size 0 ++ rest ≡ replicate (room - packed_length (without number es)) 0 ++ tail =
    sym (append_assoc (replicate size 0) (replicate free 0) tail)
    ∙ ap (λ (w : List ℕ). w ++ tail) (replicate-append-replicate {A = ℕ} size free 0)
    ∙ ap (λ (k : ℕ). replicate k 0 ++ tail) more in
    let fewer : front ++ back ≡ flat_map entry_bytes (without number es) = sym (ap (flat_map entry_bytes) f.left ∙ flat_map-append entry_bytes f.before f.behind) in
    ap (taken_out place size (packed_length es)) (ap (λ (fs : List Entry). flat_map entry_bytes fs ++ rest) f.whole ∙ bytes_around f.before f.behind e rest)
    ∙ middle_taken_out place size (packed_length es) front (entry_bytes e) back rest (omega arith) (omega arith) (omega arith)
    ∙ sym (append_assoc front back (replicate size 0 ++ rest))
    ∙ ap (λ (w : List ℕ). front ++ back ++ w) zeros
    ∙ ap (λ (w : List ℕ). w ++ (replicate (room - packed_length (without number es)) 0 ++ tail)) fewer
