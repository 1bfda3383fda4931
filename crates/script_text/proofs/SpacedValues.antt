-- The last word of a line is what is left of it: a text with a space in it is no value, and one without is one word.
use Rattle.std.proofs.Common.{◌≡◌, ℕ, ◌+◌, ◌*◌, ◌≤◌, Bool, true, false, cond, Option, Some, None, List, [], ◌∷◌, length, take, drop, codes, refl, sym, ap, subst, ◌∙◌, arith}
use Rattle.std.specs.Prelude.{◌==◌, ◌||◌, ◌&&◌, ◌^◌, ◌-◌, pos, neg_ℤ, ℤ}
use Rattle.std.specs.Char.{is_ascii_digit, is_ascii_graphic, is_ascii_hexdigit}
use Rattle.std.specs.List.{list_all, list_any, onto_first, slice_split}
use Rattle.std.specs.Str.{bytes_eq}
use Rattle.std.proofs.lemmas.Bool.Decides.{nat_tests}
use Rattle.std.proofs.lemmas.Slice.Eq.{bytes_eq-Decides}
use Rattle.jet_base.specs.declared.words.Given.{Given}
use Rattle.jet_base.specs.declared.words.Given.TheVariants.{Null, Number, Bytes, Fill}
use Rattle.script_words.specs.Words.{◌>>=◌, words_of, only_word, is_badly_led, number_from, number_of, where_within, number_within, signed_number_of, nibble_of, byte_of, hex_bytes_of}
use Rattle.script_words.specs.Values.{number_value, hex_value, text_value, single_byte_of, fill_of, fill_value, given_of}

abbrev pub has_space : List ℕ → Bool
has_space text = list_any (λ b. b == 32) text

-- ---- the words of a text with a space and without

one_step : (b others : Bool) (x : ℕ) (xs : List ℕ) (parts : List (List ℕ)) → (b || others) ≡ false → (others ≡ false → parts ≡ xs ∷ [])
    → cond b ([] ∷ parts) (onto_first x parts) ≡ (x ∷ xs) ∷ []
one_step true others x xs parts h is = absurd cc
one_step false others x xs parts h is = ap (onto_first x) (is h)

pub words_of-one : (text : List ℕ) → has_space text ≡ false → words_of text ≡ text ∷ []
words_of-one [] h = refl
words_of-one (x ∷ xs) h = one_step (x == 32) (has_space xs) x xs (words_of xs) h (words_of-one xs)

some_step : (b : Bool) (x : ℕ) (parts : List (List ℕ)) → 1 ≤ length (cond b ([] ∷ parts) (onto_first x parts))
some_step true x parts = omega arith
some_step false x [] = omega arith
some_step false x (part ∷ parts) = omega arith

words_of-some : (text : List ℕ) → 1 ≤ length (words_of text)
words_of-some [] = omega arith
words_of-some (x ∷ xs) = some_step (x == 32) x (words_of xs)

more_step : (b others : Bool) (x : ℕ) (parts : List (List ℕ)) → (b || others) ≡ true → 1 ≤ length parts → (others ≡ true → 2 ≤ length parts)
    → 2 ≤ length (cond b ([] ∷ parts) (onto_first x parts))
more_step true others x parts h some more = omega (arith, some)
more_step false others x [] h some more = absurd (omega (arith, some))
more_step false others x (part ∷ parts) h some more = more h

words_of-more : (text : List ℕ) → has_space text ≡ true → 2 ≤ length (words_of text)
words_of-more [] h = absurd cc
words_of-more (x ∷ xs) h = more_step (x == 32) (has_space xs) x (words_of xs) h (words_of-some xs) (words_of-more xs)

only_word-many : (words : List (List ℕ)) → 2 ≤ length words → only_word words ≡ None
only_word-many [] h = absurd (omega (arith, h))
only_word-many (a ∷ []) h = absurd (omega (arith, h))
only_word-many (a ∷ b ∷ words) h = refl

pub only_word-space : (text : List ℕ) → has_space text ≡ true → only_word (words_of text) ≡ None
only_word-space text h = only_word-many (words_of text) (words_of-more text h)

-- ---- a number

digit_step : (b space others : Bool) (next : Option ℕ) → (space ≡ true → b ≡ false) → (space || others) ≡ true → (others ≡ true → next ≡ None) → cond b next None ≡ None
digit_step true true others next apart h is = let never : true ≡ false = apart refl in absurd cc
digit_step true false others next apart h is = is h
digit_step false space others next apart h is = refl

no_digit : (x : ℕ) → (x == 32) ≡ true → is_ascii_digit x ≡ false
no_digit x h = grind (arith, nat_tests)

number_from-space : (n : ℕ) (digits : List ℕ) → has_space digits ≡ true → number_from n digits ≡ None
number_from-space n [] h = absurd cc
number_from-space n (x ∷ xs) h =
    digit_step (is_ascii_digit x) (x == 32) (has_space xs) (number_from (10 * n + (x - 48)) xs) (no_digit x) h (number_from-space (10 * n + (x - 48)) xs)

none_or : (b : Bool) (number : Option ℕ) → number ≡ None → cond b None number ≡ None
none_or true number h = refl
none_or false number h = h

number_within-space : (least most : ℕ) (word : List ℕ) → has_space word ≡ true → number_within least most word ≡ None
unfolding number_within number_of
number_within-space least most word h =
    ap (λ (number : Option ℕ). number >>= where_within least most) (none_or (is_badly_led word) (number_from 0 word) (number_from-space 0 word h))

signed_step : (minus space others : Bool) (below above : Option ℕ) → (minus ≡ true → space ≡ false) → (space || others) ≡ true → (others ≡ true → below ≡ None) → above ≡ None
    → cond minus (below >>= λ n. Some (neg_ℤ (pos n))) (above >>= λ n. Some (pos n)) ≡ None
signed_step true true others below above apart h is none = let never : true ≡ false = apart refl in absurd cc
signed_step true false others below above apart h is none = ap (λ (number : Option ℕ). number >>= λ n. Some (neg_ℤ (pos n))) (is h)
signed_step false space others below above apart h is none = ap (λ (number : Option ℕ). number >>= λ n. Some (pos n)) none

no_minus : (x : ℕ) → (x == 45) ≡ true → (x == 32) ≡ false
no_minus x h = grind (arith, nat_tests)

signed_number_of-space : (limit : ℕ) (word : List ℕ) → has_space word ≡ true → signed_number_of limit word ≡ None
unfolding signed_number_of
signed_number_of-space limit [] h = absurd cc
signed_number_of-space limit (x ∷ xs) h =
    signed_step (x == 45) (x == 32) (has_space xs) (number_within 0 limit xs) (number_within 0 (limit - 1) (x ∷ xs)) (no_minus x) h
    (number_within-space 0 limit xs) (number_within-space 0 (limit - 1) (x ∷ xs) h)

number_value-space : (text : List ℕ) → has_space text ≡ true → number_value text ≡ None
unfolding number_value
number_value-space text h = ap (λ (number : Option ℤ). number >>= λ n. Some (Number n)) (signed_number_of-space (2 ^ 63) text h)

-- ---- hexadecimal digits

no_nibble : (x : ℕ) → (x == 32) ≡ true → is_ascii_hexdigit x ≡ false
no_nibble x h = grind (arith, nat_tests)

nibble_of-space : (x : ℕ) → (x == 32) ≡ true → nibble_of x ≡ None
unfolding nibble_of
nibble_of-space x h = rw (no_nibble x h) refl

low_none : (high : Option ℕ) → (high >>= λ h. None >>= λ l. Some (16 * h + l)) ≡ None
low_none None = refl
low_none (Some h) = refl

byte_of-high : (high low : ℕ) → (high == 32) ≡ true → byte_of high low ≡ None
unfolding byte_of
byte_of-high high low h = ap (λ (digit : Option ℕ). digit >>= λ h. nibble_of low >>= λ l. Some (16 * h + l)) (nibble_of-space high h)

byte_of-low : (high low : ℕ) → (low == 32) ≡ true → byte_of high low ≡ None
unfolding byte_of
byte_of-low high low h = ap (λ (digit : Option ℕ). nibble_of high >>= λ h. digit >>= λ l. Some (16 * h + l)) (nibble_of-space low h) ∙ low_none (nibble_of high)

pair_step : (byte : Option ℕ) (rest : Option (List ℕ)) (high low others : Bool) → (high ≡ true → byte ≡ None) → (low ≡ true → byte ≡ None) → (high || (low || others)) ≡ true → (others ≡ true → rest ≡ None)
    → (byte >>= λ b. rest >>= λ bytes. Some (b ∷ bytes)) ≡ None
pair_step None rest high low others no_high no_low h is = refl
pair_step (Some b) rest true low others no_high no_low h is = let never : Some b ≡ None = no_high refl in absurd cc
pair_step (Some b) rest false true others no_high no_low h is = let never : Some b ≡ None = no_low refl in absurd cc
pair_step (Some b) rest false false others no_high no_low h is = ap (λ (found : Option (List ℕ)). found >>= λ bytes. Some (b ∷ bytes)) (is h)

hex_bytes_of-space : (digits : List ℕ) → has_space digits ≡ true → hex_bytes_of digits ≡ None
unfolding hex_bytes_of
hex_bytes_of-space [] h = absurd cc
hex_bytes_of-space (x ∷ []) h = refl
hex_bytes_of-space (x ∷ y ∷ digits) h =
    pair_step (byte_of x y) (hex_bytes_of digits) (x == 32) (y == 32) (has_space digits) (byte_of-high x y) (byte_of-low x y) h (hex_bytes_of-space digits)

hex_value-space : (text : List ℕ) → has_space text ≡ true → hex_value text ≡ None
unfolding hex_value
hex_value-space text h = ap (λ (found : Option (List ℕ)). found >>= λ bytes. Some (Bytes bytes)) (hex_bytes_of-space text h)

-- ---- a text

graphic_step : (b space others rest : Bool) → (space ≡ true → b ≡ false) → (space || others) ≡ true → (others ≡ true → rest ≡ false) → (b && rest) ≡ false
graphic_step true true others rest apart h is = let never : true ≡ false = apart refl in absurd cc
graphic_step true false others rest apart h is = is h
graphic_step false space others rest apart h is = refl

no_graphic : (x : ℕ) → (x == 32) ≡ true → is_ascii_graphic x ≡ false
no_graphic x h = grind (arith, nat_tests)

graphic-space : (text : List ℕ) → has_space text ≡ true → list_all is_ascii_graphic text ≡ false
graphic-space [] h = absurd cc
graphic-space (x ∷ xs) h = graphic_step (is_ascii_graphic x) (x == 32) (has_space xs) (list_all is_ascii_graphic xs) (no_graphic x) h (graphic-space xs)

text_value-space : (text : List ℕ) → has_space text ≡ true → text_value text ≡ None
unfolding text_value
text_value-space text h = rw (graphic-space text h) refl

-- ---- a fill

abbrev spaced : List (List ℕ) → Bool
spaced parts = list_any has_space parts

part_step : (colon space others : Bool) (x : ℕ) (parts : List (List ℕ)) → (x == 32) ≡ space → (space ≡ true → colon ≡ false) → (space || others) ≡ true → (others ≡ true → spaced parts ≡ true)
    → spaced (cond colon ([] ∷ parts) (onto_first x parts)) ≡ true
part_step true true others x parts at apart h is = let never : true ≡ false = apart refl in absurd cc
part_step true false others x parts at apart h is = is h
part_step false true others x [] at apart h is = rw at refl
part_step false true others x (part ∷ parts) at apart h is = rw at refl
part_step false false others x [] at apart h is = let never : false ≡ true = is h in absurd cc
part_step false false others x (part ∷ parts) at apart h is = rw at (is h)

no_colon : (x : ℕ) → (x == 32) ≡ true → (x == 58) ≡ false
no_colon x h = grind (arith, nat_tests)

parts-space : (text : List ℕ) → has_space text ≡ true → spaced (slice_split (λ b. b == 58) text) ≡ true
parts-space [] h = absurd cc
parts-space (x ∷ xs) h = part_step (x == 58) (x == 32) (has_space xs) x (slice_split (λ b. b == 58) xs) refl (no_colon x) h (parts-space xs)

pair_none : (byte : Option ℕ) (high low : Bool) → (high ≡ true → byte ≡ None) → (low ≡ true → byte ≡ None) → (high || (low || false)) ≡ true → byte ≡ None
pair_none byte true low no_high no_low h = no_high refl
pair_none byte false true no_high no_low h = no_low refl
pair_none byte false false no_high no_low h = absurd cc

single_byte_of-space : (digits : List ℕ) → has_space digits ≡ true → single_byte_of digits ≡ None
unfolding single_byte_of
single_byte_of-space [] h = refl
single_byte_of-space (x ∷ []) h = refl
single_byte_of-space (x ∷ y ∷ []) h = pair_none (byte_of x y) (x == 32) (y == 32) (byte_of-high x y) (byte_of-low x y) h
single_byte_of-space (x ∷ y ∷ z ∷ digits) h = refl

fill_step : (first second : Bool) (count : Option ℕ) (byte : Option ℕ) → (first || (second || false)) ≡ true → (first ≡ true → count ≡ None) → (second ≡ true → byte ≡ None)
    → (count >>= λ n. byte >>= λ b. Some (Fill n b)) ≡ None
fill_step first second None byte h no_count no_byte = refl
fill_step true second (Some n) byte h no_count no_byte = let never : Some n ≡ None = no_count refl in absurd cc
fill_step false true (Some n) byte h no_count no_byte = ap (λ (found : Option ℕ). found >>= λ b. Some (Fill n b)) (no_byte refl)
fill_step false false (Some n) byte h no_count no_byte = absurd cc

fill_of-space : (parts : List (List ℕ)) → spaced parts ≡ true → fill_of parts ≡ None
unfolding fill_of
fill_of-space [] h = refl
fill_of-space (a ∷ []) h = refl
fill_of-space (a ∷ b ∷ []) h =
    fill_step (has_space a) (has_space b) (number_within 0 2097152 a) (single_byte_of b) h (number_within-space 0 2097152 a) (single_byte_of-space b)
fill_of-space (a ∷ b ∷ c ∷ parts) h = refl

fill_value-space : (text : List ℕ) → has_space text ≡ true → fill_value text ≡ None
unfolding fill_value
fill_value-space text h = fill_of-space (slice_split (λ b. b == 58) text) (parts-space text h)

-- ---- a value

behind_step : (a b others : Bool) → (a || (b || false)) ≡ false → (a || (b || others)) ≡ true → others ≡ true
behind_step true b others none h = absurd cc
behind_step false true others none h = absurd cc
behind_step false false others none h = h

-- what stands behind a form without a space has the space
behind_form : (word form : List ℕ) → has_space form ≡ false → take 2 word ≡ form → has_space word ≡ true → has_space (drop 2 word) ≡ true
behind_form [] form none is h = absurd cc
behind_form (x ∷ []) form none is h = let never : has_space (x ∷ []) ≡ false = subst (λ (text : List ℕ). has_space text ≡ false) (sym is) none in absurd cc
behind_form (x ∷ y ∷ rest) form none is h =
    behind_step (x == 32) (y == 32) (has_space rest) (subst (λ (text : List ℕ). has_space text ≡ false) (sym is) none) h

forms-space : (number hex text fill : Bool) (rest : List ℕ) → (number ≡ true → has_space rest ≡ true) → (hex ≡ true → has_space rest ≡ true) → (text ≡ true → has_space rest ≡ true) → (fill ≡ true → has_space rest ≡ true)
    → (cond number (Some number_value) (cond hex (Some hex_value) (cond text (Some text_value) (cond fill (Some fill_value) None))) >>= λ form. form rest) ≡ None
forms-space true hex text fill rest n x t r = number_value-space rest (n refl)
forms-space false true text fill rest n x t r = hex_value-space rest (x refl)
forms-space false false true fill rest n x t r = text_value-space rest (t refl)
forms-space false false false true rest n x t r = fill_value-space rest (r refl)
forms-space false false false false rest n x t r = refl

null_step : (null : Bool) (others : Option Given) → (null ≡ true → ⊥) → others ≡ None → cond null (Some Null) others ≡ None
null_step true others apart is = absurd (apart refl)
null_step false others apart is = is

no_null : (word : List ℕ) → has_space word ≡ true → bytes_eq word (codes "null") ≡ true → ⊥
no_null word h is =
    let same : word ≡ codes "null" = (bytes_eq-Decides word (codes "null")).0 is in
    let never : has_space (codes "null") ≡ true = subst (λ (text : List ℕ). has_space text ≡ true) same h in absurd cc

-- a text with a space in it is no value
pub given_of-space : (word : List ℕ) → has_space word ≡ true → given_of word ≡ None
unfolding given_of
given_of-space word h =
    null_step (bytes_eq word (codes "null")) _ (no_null word h)
    (forms-space (bytes_eq (take 2 word) (codes "n:")) (bytes_eq (take 2 word) (codes "x:")) (bytes_eq (take 2 word) (codes "t:")) (bytes_eq (take 2 word) (codes "r:")) (drop 2 word)
    (λ t. behind_form word (codes "n:") refl ((bytes_eq-Decides (take 2 word) (codes "n:")).0 t) h)
    (λ t. behind_form word (codes "x:") refl ((bytes_eq-Decides (take 2 word) (codes "x:")).0 t) h)
    (λ t. behind_form word (codes "t:") refl ((bytes_eq-Decides (take 2 word) (codes "t:")).0 t) h)
    (λ t. behind_form word (codes "r:") refl ((bytes_eq-Decides (take 2 word) (codes "r:")).0 t) h))
