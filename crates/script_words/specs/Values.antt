-- How a value is written: `null`, or two bytes that say the form and what follows them.
use Rattle.std.specs.Prelude.{◌^◌, ℕ, ◌==◌, if◌then◌else◌, List, [], ◌∷◌, take, drop, codes, Option, Some, None}
use Rattle.std.specs.Char.{is_ascii_graphic}
use Rattle.std.specs.List.{list_all, slice_split}
use Rattle.std.specs.Str.{bytes_eq}
use Rattle.jet_base.specs.declared.words.Given.{Given}
use Rattle.jet_base.specs.declared.words.Given.TheVariants.{Null, Number, Bytes, Fill}
use Rattle.script_words.specs.Words.{◌>>=◌, two_words, choice_of, number_within, signed_number_of, byte_of, hex_bytes_of}

-- `n:` and a number from -2^63 to 2^63 - 1
unfoldable pub number_value : List ℕ → Option Given
number_value text = signed_number_of (2 ^ 63) text >>= λ n. Some (Number n)

-- `x:` and pairs of hexadecimal digits, none included
unfoldable pub hex_value : List ℕ → Option Given
hex_value text = hex_bytes_of text >>= λ bytes. Some (Bytes bytes)

-- `t:` and bytes from 21 to 7E, none included, which stand for themselves
unfoldable pub text_value : List ℕ → Option Given
text_value text = if list_all is_ascii_graphic text then Some (Bytes text) else None

-- the byte of the two hexadecimal digits that are the text
unfoldable pub single_byte_of : List ℕ → Option ℕ
single_byte_of (high ∷ low ∷ []) = byte_of high low
single_byte_of _ = None

-- a count from 0 to 2,097,152, and the two hexadecimal digits of the byte that is repeated
unfoldable pub fill_of : List (List ℕ) → Option Given
fill_of parts = do
  part ← two_words parts
  count ← number_within 0 2097152 part.0
  byte ← single_byte_of part.1
  Some (Fill count byte)

-- `r:COUNT:HH`, with a colon (byte 3A) between the two
unfoldable pub fill_value : List ℕ → Option Given
fill_value text = fill_of (slice_split (λ b. b == 58) text)

-- the forms of a value by their first two bytes
abbrev pub value_forms : List (List ℕ × (List ℕ → Option Given))
value_forms =
    (codes "n:", number_value) ∷
    (codes "x:", hex_value) ∷
    (codes "t:", text_value) ∷
    (codes "r:", fill_value) ∷ []

-- a value
unfoldable pub given_of : List ℕ → Option Given
given_of word =
    if bytes_eq word (codes "null")
    then Some Null
    else (choice_of value_forms (take 2 word) >>= λ form. form (drop 2 word))
