-- How a script is cut into lines and words, and how a word is read.
use Rattle.std.specs.Prelude.{ℕ, true, false, ◌+◌, ◌-◌, ◌*◌, Bool, true, ◌&&◌, ◌||◌, not, ◌==◌, nat_le, nat_lt, if◌then◌else◌, List, [], ◌∷◌, ◌++◌, length, take, drop, Option, Some, None, ℤ, pos, neg_ℤ}
use Rattle.std.specs.Char.{is_ascii_digit, is_ascii_alphabetic, is_ascii_alphanumeric, is_ascii_hexdigit, digit_value}
use Rattle.std.specs.List.{flat_map, list_all, list_any, slice_split}
use Rattle.std.specs.Str.{bytes_eq}
use Rattle.std.specs.Map.{lookup}

-- one reading after another: there is none where either has none
infixl 10 ◌>>=◌
abbrev pub ◌>>=◌ : {A B : Type 0} → Option A → (A → Option B) → Option B
None >>= f = None
(Some x) >>= f = f x

-- a script of these lines, each ended by byte 0A
abbrev pub text_of_lines : List (List ℕ) → List ℕ
text_of_lines lines = flat_map (λ line. line ++ 10 ∷ []) lines

-- the lines of a script: byte 0A ends a line, and the last may lack it
abbrev pub lines_of : List ℕ → List (List ℕ)
lines_of bytes = slice_split (λ b. b == 10) bytes

-- the parts of a text that is not taken yet, between the bytes that are the separator
abbrev pub parts_left : ℕ → Option (List ℕ) → List (List ℕ)
parts_left separator None = []
parts_left separator (Some text) = slice_split (λ b. b == separator) text

-- the words of a line: a single space, byte 20, stands between two of them
abbrev pub words_of : List ℕ → List (List ℕ)
words_of line = slice_split (λ b. b == 32) line

-- the first of some words, and the others
abbrev pub first_word : List (List ℕ) → Option (List ℕ × List (List ℕ))
first_word [] = None
first_word (word ∷ others) = Some (word, others)

-- the word, where there is exactly one
abbrev pub only_word : List (List ℕ) → Option (List ℕ)
only_word (word ∷ []) = Some word
only_word _ = None

-- the words, where there are exactly two
abbrev pub two_words : List (List ℕ) → Option (List ℕ × List ℕ)
two_words (first ∷ second ∷ []) = Some (first, second)
two_words _ = None

-- the words, where there are exactly three
abbrev pub three_words : List (List ℕ) → Option (List ℕ × List ℕ × List ℕ)
three_words (first ∷ second ∷ third ∷ []) = Some (first, second, third)
three_words _ = None

-- whether there is none
abbrev pub is_empty_list : {A : Type 0} → List A → Bool
is_empty_list [] = true
is_empty_list (x ∷ xs) = false

-- whether the first word is this one
abbrev pub begins_with_word : List ℕ → List (List ℕ) → Bool
begins_with_word expected [] = false
begins_with_word expected (word ∷ words) = bytes_eq word expected

-- whether the one word stands, where nothing else does
unfoldable pub optional_word : List ℕ → List (List ℕ) → Option Bool
optional_word expected words =
    if is_empty_list words
    then Some false
    else (only_word words >>= λ word. if bytes_eq word expected then Some true else None)

-- whether the word is among the words
abbrev pub has_word : List ℕ → List (List ℕ) → Bool
has_word word words = list_any (bytes_eq word) words

-- whether no word stands twice
abbrev pub are_distinct : List (List ℕ) → Bool
are_distinct [] = true
are_distinct (word ∷ words) = not (has_word word words) && are_distinct words

-- what a table has for the word
abbrev pub choice_of : {A : Type 0} → List (List ℕ × A) → List ℕ → Option A
choice_of table word = lookup (bytes_eq word) table

-- what follows a prefix, where the word begins with it
abbrev pub after_prefix : List ℕ → List ℕ → Option (List ℕ)
after_prefix prefix word = if bytes_eq prefix (take (length prefix) word) then Some (drop (length prefix) word) else None

-- the number that n and the decimal digits behind it stand for, where each byte is a digit
abbrev pub number_from : ℕ → List ℕ → Option ℕ
number_from n [] = Some n
number_from n (digit ∷ digits) = if is_ascii_digit digit then number_from (10 * n + (digit - 48)) digits else None

-- whether no digit leads the word, or a zero (byte 30) that stands before another byte
abbrev pub is_badly_led : List ℕ → Bool
is_badly_led [] = true
is_badly_led (digit ∷ digits) = digit == 48 && nat_lt 0 (length digits)

-- a number: one decimal digit or more, and no leading zero
unfoldable pub number_of : List ℕ → Option ℕ
number_of word = if is_badly_led word then None else number_from 0 word

-- the number, where it lies from least to most
abbrev pub where_within : ℕ → ℕ → ℕ → Option ℕ
where_within least most n = if nat_le least n && nat_le n most then Some n else None

-- a number from least to most
unfoldable pub number_within : ℕ → ℕ → List ℕ → Option ℕ
number_within least most word = number_of word >>= where_within least most

-- the label of a session or a cursor: 1 to 99
unfoldable pub label_of : List ℕ → Option ℕ
label_of word = number_within 1 99 word

-- a number from -limit to limit - 1; the minus sign is byte 2D
unfoldable pub signed_number_of : ℕ → List ℕ → Option ℤ
signed_number_of limit [] = None
signed_number_of limit (sign ∷ digits) =
    if sign == 45
    then (number_within 0 limit digits >>= λ n. Some (neg_ℤ (pos n)))
    else (number_within 0 (limit - 1) (sign ∷ digits) >>= λ n. Some (pos n))

-- whether a byte may stand in a name behind its first: a letter, a digit or a low line (byte 5F)
abbrev pub is_name_byte : ℕ → Bool
is_name_byte byte = is_ascii_alphanumeric byte || byte == 95

-- whether a word is a name: a letter, and up to 63 such bytes
abbrev pub is_name : List ℕ → Bool
is_name [] = false
is_name (letter ∷ rest) = is_ascii_alphabetic letter && (nat_le (length rest) 63 && list_all is_name_byte rest)

-- a name
unfoldable pub name_of : List ℕ → Option (List ℕ)
name_of word = if is_name word then Some word else None

-- the value of a hexadecimal digit of either case
unfoldable pub nibble_of : ℕ → Option ℕ
nibble_of digit = if is_ascii_hexdigit digit then Some (digit_value digit) else None

-- the byte of two hexadecimal digits, the high one first
unfoldable pub byte_of : ℕ → ℕ → Option ℕ
byte_of high low = do
  h ← nibble_of high
  l ← nibble_of low
  Some (16 * h + l)

-- the bytes that pairs of hexadecimal digits stand for
unfoldable pub hex_bytes_of : List ℕ → Option (List ℕ)
hex_bytes_of [] = Some []
hex_bytes_of (digit ∷ []) = None
hex_bytes_of (high ∷ low ∷ digits) = do
  byte ← byte_of high low
  bytes ← hex_bytes_of digits
  Some (byte ∷ bytes)
