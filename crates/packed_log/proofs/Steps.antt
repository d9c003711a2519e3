-- What the calls of a log make of it.
use Rattle.std.proofs.Common.{◌≡◌, ℕ, ◌+◌, ◌-◌, ◌*◌, ◌^◌, ◌<◌, ◌≤◌, List, [], ◌∷◌, ◌++◌, length, drop, replicate, is_some, Some, None, Ok, Err, Option, sym, refl, ap, ◌∙◌, subst, arith, length-drop}
use Rattle.std.specs.Option.{option_map}
use Rattle.std.proofs.lemmas.List.{length_push}
use Rattle.std.proofs.lemmas.Bool.{cond-true, and_from, le-leb}
use Rattle.values.specs.Bytes.{over}
use Rattle.values.proofs.Answers.{refused}
use Rattle.stores.specs.Calls.{admission, dropping}
use Rattle.stores.specs.Contents.{Entry, entry, Contents, appended, dropped, block_of, without}
use Rattle.stores.specs.Laws.{Lawful}
use Rattle.stores.proofs.Entries.{length-without, lawful_storable}
use Rattle.stores.proofs.Kept.{admitted, Lawful-appended, Lawful-dropped, drop_accepted, same_contents}
use Rattle.entry_layout.specs.Layout.{block_at, capacity_of, entry_bytes, with_entry}
use Rattle.entry_layout.proofs.EntryBytes.{length-entry}
use Rattle.packed_log.specs.Log.{room, packed_length, packed, entries_in, found_from, taken_out}
use Rattle.packed_log.specs.Meaning.{LogState, contents_of, Sound}
use Rattle.packed_log.proofs.Packing.{packed_length_bound, packed_read_back, packed_tail, length-packed, length_one_more, packed_one_more, found_at_place, nothing_at_no_place, block_read_at_place, length_around, packed_one_less}

-- What contracts see of a log with other bytes and counters behind the same reference.
abbrev pub log_state : (before : LogState) (bytes : List ℕ) (held last used : ℕ) → LogState
log_state before bytes held last used =
    record { bytes = record { ref_ptr = before.bytes.ref_ptr; ghost_name = before.bytes.ghost_name; now = bytes }; held = held; last = last; used = used }

-- A log in bytes that were lent, with these contents.
pub record LaidOut (s : LogState) (lent : List ℕ) (c : Contents) : Type 0 where
  pub contents : contents_of s ≡ c
  pub sound : Sound s
  pub laid : s.bytes.now ≡ packed (room lent) (contents_of s).held (drop (room lent) lent)

room_within : (lent : List ℕ) → room lent ≤ length lent
room_within lent = omega arith

laid_out : (s : LogState) (lent : List ℕ) (c : Contents) → Lawful c → c.capacity ≡ capacity_of (length lent)
    → s.bytes.now ≡ packed (room lent) c.held (drop (room lent) lent) → s.held ≡ length c.held → s.last ≡ c.last → s.used ≡ packed_length c.held
    → LaidOut s lent c
laid_out s lent c l k b h i u =
    let bytes : List ℕ = s.bytes.now in
    let tail : List ℕ = drop (room lent) lent in
    let f = lawful_storable c l in
    let bound = packed_length_bound c.held f in
    let within = l.within in
    let r = room_within lent in
    let fits : packed_length c.held ≤ room lent = omega arith in
    let held : entries_in s.held bytes ≡ c.held = ap (entries_in s.held) b ∙ packed_read_back (room lent) s.held c.held tail f h in
    let ld = length-drop (room lent) lent in
    let long : length bytes ≡ length lent = ap length b ∙ length-packed (room lent) c.held tail fits ∙ omega arith in
    let same_room : room bytes ≡ room lent = ap (λ (n : ℕ). capacity_of n * 69) long in
    let same_tail : drop (room bytes) bytes ≡ tail = ap (λ (n : ℕ). drop n bytes) same_room ∙ ap (drop (room lent)) b ∙ packed_tail (room lent) c.held tail fits in
    let contents : contents_of s ≡ c = same_contents (contents_of s) c held i (ap capacity_of long ∙ sym k) in
    let laid : bytes ≡ packed (room lent) (entries_in s.held bytes) tail = b ∙ ap (λ (es : List Entry). packed (room lent) es tail) (sym held) in
    record {
      contents = contents;
      sound = record {
        laid =
            laid
            ∙ ap (λ (n : ℕ). packed n (entries_in s.held bytes) tail) (sym same_room)
            ∙ ap (packed (room bytes) (entries_in s.held bytes)) (sym same_tail);
        used = u ∙ ap packed_length (sym held);
        counted = h ∙ ap length (sym held);
        lawful = subst Lawful (sym contents) l;
      };
      laid = laid;
    }

-- How many bytes the entries of a sound log take.
used_bound : (s : LogState) → Sound s → s.used ≤ s.held * 69
used_bound s h =
    let b = packed_length_bound (contents_of s).held (lawful_storable (contents_of s) h.lawful) in
    let u = h.used in
    let n = h.counted in
    omega arith

pub log_appended : {before : LogState} (number : ℕ) (block : List ℕ) {bytes : List ℕ} → Sound before
    → Ok tt ≡ admission number block (length (contents_of before).held) before.last (contents_of before).capacity → number < 2 ^ 32
    → bytes ≡ with_entry before.used (entry number block) before.bytes.now
    → LaidOut (log_state before bytes (before.held + 1) number (before.used + (5 + length block))) before.bytes.now (appended number block (contents_of before))
log_appended {before = before} number block {bytes} s ok n b =
    let lent : List ℕ = before.bytes.now in
    let es : List Entry = (contents_of before).held in
    let e : Entry = entry number block in
    let tail : List ℕ = drop (room lent) lent in
    let a = (admitted number block (length es) before.last (capacity_of (length lent)) tt tt ok).0 in
    let more = a.room in
    let small = a.sized.1 in
    let r = room_within lent in
    let low = used_bound before s in
    let le = length-entry e in
    let was_used = s.used in
    let longer = length_one_more es e in
    let counted = s.counted in
    let push = length_push es e in
    let written : with_entry before.used e lent ≡ packed (room lent) (es ++ e ∷ []) tail =
    cond-true _ _ _ (and_from _ _ (le-leb (length block) 64 small) (le-leb (before.used + 5 + length block) (length lent) (omega arith)))
    ∙ ap (over before.used (entry_bytes e)) s.laid
    ∙ ap (λ (k : ℕ). over k (entry_bytes e) (packed (room lent) es tail)) was_used
    ∙ packed_one_more (room lent) es e tail (omega arith) in
    laid_out (log_state before bytes (before.held + 1) number (before.used + (5 + length block))) lent (appended number block (contents_of before))
    (Lawful-appended (contents_of before) number block s.lawful n a) refl (b ∙ written) (omega arith) refl (omega arith)

-- What reading where a found entry begins finds.
pub block_at_found : {s : LogState} (number : ℕ) (found : Option (ℕ × Entry)) → Sound s → found ≡ found_from number 0 (contents_of s).held
    → block_at (option_map (λ p. p.0) found) s.bytes.now ≡ block_of number (contents_of s).held
block_at_found {s = s} number found h p =
    let es : List Entry = (contents_of s).held in
    ap (block_at (option_map (λ p. p.0) found)) h.laid
    ∙ block_read_at_place number es (replicate (room s.bytes.now - packed_length es) 0 ++ drop (room s.bytes.now) s.bytes.now) found (lawful_storable (contents_of s) h.lawful) p

-- A found entry's bytes are among those used.
pub size_within : {s : LogState} (number : ℕ) {place : ℕ} {e : Entry} → Sound s → Some (place, e) ≡ found_from number 0 (contents_of s).held → 5 + length e.block ≤ s.used
size_within {s = s} number {place} {e} h p =
    let es : List Entry = (contents_of s).held in
    let l = (length_around number 0 place e es (found_at_place number 0 place e es (sym p))).0 in
    let u = h.used in
    omega arith

pub log_dropped : {before : LogState} (number : ℕ) {place size : ℕ} {e : Entry} {bytes : List ℕ} → Sound before → Some (place, e) ≡ found_from number 0 (contents_of before).held
    → size ≡ 5 + length e.block → bytes ≡ taken_out place size before.used before.bytes.now
    → LaidOut (log_state before bytes (before.held - 1) before.last (before.used - size)) before.bytes.now (dropped number (contents_of before))
log_dropped {before = before} number {place} {size} {e} {bytes} s p z b =
    let lent : List ℕ = before.bytes.now in
    let es : List Entry = (contents_of before).held in
    let tail : List ℕ = drop (room lent) lent in
    let f = found_at_place number 0 place e es (sym p) in
    let fewer = length-without number es (ap is_some f.block) in
    let la = length_around number 0 place e es f in
    let whole = la.0 in
    let less = la.1 in
    let was_used = s.used in
    let counted = s.counted in
    let low = used_bound before s in
    let within = s.lawful.within in
    let written : taken_out place size before.used lent ≡ packed (room lent) (without number es) tail =
    ap (taken_out place size before.used) s.laid
    ∙ ap (λ (k : ℕ). taken_out place size k (packed (room lent) es tail)) was_used
    ∙ packed_one_less (room lent) number place size e es tail f z (omega arith) in
    laid_out (log_state before bytes (before.held - 1) before.last (before.used - size)) lent (dropped number (contents_of before))
    (Lawful-dropped (contents_of before) number s.lawful) refl (b ∙ written) (omega arith) refl (omega arith)

-- What a drop answers, by what was found.

pub drop_found : (c d : Contents) (number : ℕ) {place : ℕ} {e : Entry} → Some (place, e) ≡ found_from number 0 c.held → d ≡ dropped number c → Ok d ≡ dropping number c
drop_found c d number {place} {e} p h = drop_accepted c d number (ap is_some (found_at_place number 0 place e c.held (sym p)).block) h

pub drop_refused : (c : Contents) (number : ℕ) → None ≡ found_from number 0 c.held → Err 20 ≡ dropping number c
drop_refused c number p = refused (is_some (block_of number c.held)) 20 (dropped number c) (ap is_some (nothing_at_no_place number 0 c.held (sym p)))
