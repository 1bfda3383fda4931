-- The frequent calls by the text behind their cursor.
use Rattle.std.proofs.Common.{◌≡◌, ℕ, ◌+◌, ◌-◌, ◌<◌, Bool, true, false, cond, Option, Some, None, List, [], ◌∷◌, length, take, drop, refl, sym, ap, ◌∙◌, arith}
use Rattle.std.specs.Prelude.{◌==◌, ◌&&◌, nat_le, nat_lt}
use Rattle.std.specs.List.{position, position_or_len}
use Rattle.std.proofs.Math.Seq.{take-length}
use Rattle.std.proofs.lemmas.List.Splits.{slice_split_first}
use Rattle.std.proofs.lemmas.Bool.Decides.{nat_tests}
use Rattle.jet_base.specs.declared.ids.CursorId.{CursorId}
use Rattle.jet_base.specs.declared.words.Given.{Given}
use Rattle.session_local.specs.declared.request.Request.{Request}
use Rattle.session_local.specs.declared.request.Request.TheVariants as call
use Rattle.script_words.specs.Words.{◌>>=◌, words_of, only_word, three_words, label_of, number_of, number_within, where_within, name_of}
use Rattle.script_words.specs.Values.{given_of}
use Rattle.script_text.specs.Calls.{sequence_of, most_bytes_of, set_column_call, retrieve_column_call}
use Rattle.script_text.specs.LastWords.{set_reading, retrieve_reading}
use Rattle.script_text.proofs.FirstWords.{tail_slice}
use Rattle.script_text.proofs.SpacedValues.{has_space, words_of-one, only_word-space, given_of-space}

-- ---- the first word, by the place of the space that ends it

where_found : (b : Bool) (i end : ℕ) → cond b (Some i) None ≡ Some end → (b ≡ true) × (i ≡ end)
where_found true i end h = (refl, cc)
where_found false i end h = absurd cc

first_part : (text : List ℕ) (end : ℕ) → position (λ b. b == 32) text ≡ Some end → words_of text ≡ take end text ∷ words_of (drop (end + 1) text)
first_part text end h =
    let (below, here) = where_found (nat_lt (position_or_len (λ b. b == 32) text) (length text)) (position_or_len (λ b. b == 32) text) end h in
    let inside : position_or_len (λ b. b == 32) text < length text = grind (arith, nat_tests) in
    rw here at (slice_split_first (λ b. b == 32) text 0 inside)

-- the same, as the code has it: the slices before and behind the space
pub word_by_place : (text front rest : List ℕ) (end : ℕ) → position (λ b. b == 32) text ≡ Some end → front ≡ take end text → rest ≡ take (length text - (end + 1)) (drop (end + 1) text)
    → words_of text ≡ front ∷ words_of rest
word_by_place text front rest end h before behind =
    first_part text end h
    ∙ ap (λ (word : List ℕ). word ∷ words_of (drop (end + 1) text)) (sym before)
    ∙ ap (λ (xs : List ℕ). front ∷ words_of xs) (sym (behind ∙ tail_slice (end + 1) text))

-- ---- a word

pub whole_word : (text word : List ℕ) → length text ≡ length word → take (length word) text ≡ word → text ≡ word
whole_word text word long same = sym (take-length text) ∙ ap (λ (n : ℕ). take n text) long ∙ same

-- ---- the place of a value

within_step : (b b' : Bool) (m n : ℕ) → (b ≡ true → b' ≡ true) → cond b (Some m) None ≡ Some n → cond b' (Some m) None ≡ Some n
within_step true true m n h is = is
within_step true false m n h is = let never : false ≡ true = h refl in absurd cc
within_step false b' m n h is = absurd cc

wider : (m : ℕ) → (nat_le 1 m && nat_le m 99) ≡ true → (nat_le 0 m && nat_le m 65535) ≡ true
wider m h = grind (arith, nat_tests)

within_wider : (number : Option ℕ) (n : ℕ) → (number >>= where_within 1 99) ≡ Some n → (number >>= where_within 0 65535) ≡ Some n
within_wider None n h = absurd cc
within_wider (Some m) n h = within_step (nat_le 1 m && nat_le m 99) (nat_le 0 m && nat_le m 65535) m n (wider m) h

-- a label is the place of a value too
pub sequence_of-label : (word : List ℕ) (n : ℕ) → label_of word ≡ Some n → sequence_of word ≡ Some n
unfolding label_of sequence_of number_within
sequence_of-label word n h = within_wider (number_of word) n h

-- ---- the two calls

three_words-last : (a b : List ℕ) (words : List (List ℕ)) → three_words (a ∷ b ∷ words) ≡ (only_word words >>= λ c. Some (a, b, c))
three_words-last a b [] = refl
three_words-last a b (c ∷ []) = refl
three_words-last a b (c ∷ d ∷ words) = refl

abbrev set_words : CursorId → Option (List ℕ × List ℕ × List ℕ) → Option Request
set_words cursor words = do
  word ← words
  column ← name_of word.0
  sequence ← sequence_of word.1
  value ← given_of word.2
  Some (call.SetColumn cursor column sequence value)

no_value : (cursor : CursorId) (column : Option (List ℕ)) (n : ℕ) (value : Option Given) → value ≡ None → None ≡ (column >>= λ name. value >>= λ given. Some (call.SetColumn cursor name n given))
no_value cursor None n value h = refl
no_value cursor (Some name) n value h = ap (λ (found : Option Given). found >>= λ given. Some (call.SetColumn cursor name n given)) (sym h)

set_last : (spaced : Bool) (cursor : CursorId) (column digit value : List ℕ) (n : ℕ) → has_space value ≡ spaced → sequence_of digit ≡ Some n
    → set_words cursor (only_word (words_of value) >>= λ word. Some (column, digit, word)) ≡ set_reading cursor column n value
set_last true cursor column digit value n space is =
    ap (λ (found : Option (List ℕ)). set_words cursor (found >>= λ word. Some (column, digit, word))) (only_word-space value space)
    ∙ no_value cursor (name_of column) n (given_of value) (given_of-space value space)
set_last false cursor column digit value n space is =
    ap (λ (words : List (List ℕ)). set_words cursor (only_word words >>= λ word. Some (column, digit, word))) (words_of-one value space)
    ∙ ap (λ (sequence : Option ℕ). name_of column >>= λ name. sequence >>= λ s. given_of value >>= λ given. Some (call.SetColumn cursor name s given)) is

pub set_column_call-last : (cursor : CursorId) (words : List (List ℕ)) (column digit value : List ℕ) (n : ℕ) → words ≡ column ∷ digit ∷ words_of value → sequence_of digit ≡ Some n
    → set_column_call cursor words ≡ set_reading cursor column n value
unfolding set_column_call
set_column_call-last cursor words column digit value n cut is =
    ap (λ (ws : List (List ℕ)). set_words cursor (three_words ws)) cut
    ∙ ap (set_words cursor) (three_words-last column digit (words_of value))
    ∙ set_last (has_space value) cursor column digit value n refl is

pub retrieve_column_call-last : (cursor : CursorId) (words : List (List ℕ)) (column digit : List ℕ) (n : ℕ) → words ≡ column ∷ digit ∷ [] → sequence_of digit ≡ Some n
    → retrieve_column_call cursor words ≡ retrieve_reading cursor column n
unfolding retrieve_column_call most_bytes_of
retrieve_column_call-last cursor words column digit n cut is =
    ap (λ (ws : List (List ℕ)). retrieve_column_call cursor ws) cut
    ∙ ap (λ (sequence : Option ℕ). name_of column >>= λ name. sequence >>= λ s. Some (call.RetrieveColumn cursor name s false 255)) is
