-- Words that are a given text.
use Rattle.std.proofs.Common.{◌≡◌, ℕ, true, List, length}
use Rattle.std.proofs.lemmas.Slice.Eq.{HasBytesAt, bytes_eq-Decides, text_from_reads}
use Rattle.std.specs.Str.{bytes_eq}

-- A word with the length and the bytes of a text is this text. The first part shows `grind` where to look.
pub word_with_bytes : (word text : List ℕ) → length word ≡ length text → HasBytesAt word 0 text → (bytes_eq word text ≡ true) × (word ≡ text)
word_with_bytes word text l h = let e = text_from_reads word text l h in ((bytes_eq-Decides word text).1 e, e)
