-- The exclusive or of words, one word at a time.
use Rattle.std.proofs.Common.{◌≡◌, ℕ, ◌+◌, ◌*◌, List, drop, refl, add-one}
use Rattle.std.specs.Prelude.{bit_xor}
use Rattle.std.proofs.lemmas.List.{drop-drop}
use Rattle.byteorder.specs.Endian.{little_number}
use Rattle.page_image.specs.Page.{xor_of_words}

pub xor_of_words-more : (bytes : List ℕ) (w sum x : ℕ) → sum ≡ xor_of_words w (drop 8 bytes) → x ≡ little_number 8 (drop (8 + 8 * w) bytes) → bit_xor sum x ≡ xor_of_words (w + 1) (drop 8 bytes)
unfolding xor_of_words
xor_of_words-more bytes w sum x before read =
    let far : drop (8 * w) (drop 8 bytes) ≡ drop (8 + 8 * w) bytes = drop-drop (8 * w) 8 bytes in
    rw (before, read, add-one, far) refl
