-- A call of the grammar is one that the engine answers.
use Rattle.std.proofs.Common.{◌≡◌, ℕ, zero, suc, ◌+◌, ◌-◌, Bool, true, false, not, ◌&&◌, ◌||◌, cond, List, [], ◌∷◌, length, Option, Some, None, refl, arith}
use Rattle.std.specs.Prelude.{◌^◌, ◌==◌, drop, codes, nat_le, unwrap_or, if◌then◌else◌, IfSome, bytes_eq, ℤ, pos, neg_ℤ}
use Rattle.std.specs.Char.{is_ascii_alphabetic}
use Rattle.std.specs.List.{AllByRecursion, list_all}
use Rattle.std.specs.Map.{lookup}
use Rattle.std.proofs.lemmas.Bool.{and_from, and_parts, not_from_false}
use Rattle.std.proofs.lemmas.Bool.Decides.{nat_tests}
use Rattle.jet_base.specs.declared.ids.CursorId.{CursorId}
use Rattle.jet_base.specs.declared.words.ColumnFlags.{ColumnFlags}
use Rattle.database_state.specs.Lawful.{is_name as is_short_name}
use Rattle.temp_table.specs.declared.columns.TempColumn.{TempColumn}
use Rattle.temp_table.specs.TempColumns.{are_temp_columns}
use Rattle.session_local.specs.declared.request.Request.{Request}
use Rattle.session_local.specs.declared.request.Request.TheVariants as call
use Rattle.session_local.specs.BuiltCalls.{is_amount, is_built_request}
use Rattle.script_words.specs.Words.{◌>>=◌, after_prefix, are_distinct, begins_with_word, choice_of, first_word, has_word, hex_bytes_of, is_empty_list, is_name, is_name_byte, label_of, name_of, number_of, number_within, only_word, optional_word, signed_number_of, three_words, two_words, where_within, words_of}
use Rattle.script_words.specs.Values.{given_of}
use Rattle.script_text.specs.Calls.{add_column_call, are_index_words, bare_call, call_of_cursor, column_flags_of, column_types, commit_call, comparisons, count_call, create_index_call, cursor_call, cursor_calls, cursor_of, each_of, escrow_update_call, goto_bookmark_call, intersect_indexes_call, is_column_flag, limit_call, limited_count_call, make_key_call, most_bytes_of, move_call, named_call, only_cursor, open_table_call, part_call, place_call, place_calls, preparations, prepare_update_call, record_call, record_calls, retrieve_column_call, rollback_call, schema_call, schema_calls, seek_call, sequence_of, set_column_call, set_current_index_call, set_index_range_call, table_call, temp_call, temp_calls, temp_column_of, temp_columns_of, temp_move_call, temp_open_call, temp_put_call, temp_read_call, transaction_calls, ways}
use Rattle.script_text.specs.Grammar.{line_request, words_request}

-- ---- names

abbrev IsShort : List ℕ → Type 0
IsShort name = is_short_name name ≡ true

front : (a b c : Bool) → (a && (b && c)) ≡ true → b ≡ true
front true true c h = refl
front true false c h = h
front false b c h = absurd cc

one_more : (n m : ℕ) → m ≡ n + 1 → nat_le n 63 ≡ true → (nat_le 1 m && nat_le m 64) ≡ true
one_more n m more few = grind (arith, nat_tests)

short : (word : List ℕ) → is_name word ≡ true → IsShort word
short [] e = absurd cc
short (letter ∷ rest) e = one_more (length rest) (length (letter ∷ rest)) (omega arith) (front (is_ascii_alphabetic letter) (nat_le (length rest) 63) (list_all is_name_byte rest) e)

-- ---- readings

-- a call that the engine answers
abbrev Serves : Request → Type 0
Serves request = is_built_request request ≡ true

-- what is read, if anything, is one of these
abbrev IsServed : Option Request → Type 0
IsServed reading = IfSome reading Serves

abbrev ReadsServed : (List (List ℕ) → Option Request) → Type 0
ReadsServed reading = (words : List (List ℕ)) → IsServed (reading words)

abbrev ReadsServedAt : (CursorId → List (List ℕ) → Option Request) → Type 0
ReadsServedAt reading = (cursor : CursorId) → ReadsServed (reading cursor)

behind : {A : Type 0} (found : Option A) (next : A → Option Request) → ((a : A) → IsServed (next a)) → IsServed (found >>= next)
behind None next each = tt
behind (Some a) next each = each a

either : (test : Bool) (one other : Option Request) → IsServed one → IsServed other → IsServed (if test then one else other)
either true one other h k = h
either false one other h k = k

behind_name : (word : List ℕ) (next : List ℕ → Option Request) → ((name : List ℕ) → IsShort name → IsServed (next name)) → IsServed (name_of word >>= next)
unfolding name_of
behind_name word next each = elim (is_name word) as (λ b. is_name word ≡ b → IsServed ((if b then Some word else None) >>= next)) [
  | true ↦ λ e. each word (short word e)
  | false ↦ λ e. tt
] refl

-- the flags of a column: the grammar has none for a column that the engine numbers
behind_flags : (words : List (List ℕ)) (next : ColumnFlags → Option Request) → ((flags : ColumnFlags) → (flags.version || flags.auto) ≡ false → IsServed (next flags)) → IsServed (column_flags_of words >>= next)
unfolding column_flags_of
behind_flags words next each = by (list_all is_column_flag words && are_distinct words)
  where
    flags : ColumnFlags
    flags = record {
      not_null = has_word (codes "notnull") words;
      tagged = has_word (codes "tagged") words;
      multi = has_word (codes "multi") words;
      escrow = has_word (codes "escrow") words;
      version = false;
      auto = false;
    }

    by : (test : Bool) → IsServed ((if test then Some flags else None) >>= next)
    by true = each flags refl
    by false = tt

column_served : (named numbered : Bool) → named ≡ true → numbered ≡ false → (named && not numbered) ≡ true
column_served named numbered is none = and_from named (not numbered) is (not_from_false numbered none)

-- the amount of a sum: a number of 32 bits
less : (n m : ℕ) → m ≡ n + 1 → nat_le m 2147483648 ≡ true → nat_le n 2147483647 ≡ true
less n m more few = grind (arith, nat_tests)

amount_below : (n : ℕ) → (nat_le 0 n && nat_le n (2 ^ 31 - 1)) ≡ true → is_amount (pos n) ≡ true
amount_below n e = (and_parts (nat_le 0 n) (nat_le n (2 ^ 31 - 1)) e).1

amount_above : (n : ℕ) → (nat_le 0 n && nat_le n (2 ^ 31)) ≡ true → is_amount (neg_ℤ (pos n)) ≡ true
amount_above zero e = refl
amount_above (suc n) e = less n (suc n) (omega arith) (and_parts (nat_le 0 (suc n)) (nat_le (suc n) (2 ^ 31)) e).1

within : (most : ℕ) (made : ℕ → ℤ) → ((n : ℕ) → (nat_le 0 n && nat_le n most) ≡ true → is_amount (made n) ≡ true)
    → (next : ℤ → Option Request) → ((amount : ℤ) → is_amount amount ≡ true → IsServed (next amount))
    → (number : Option ℕ) → IsServed (((number >>= where_within 0 most) >>= λ n. Some (made n)) >>= next)
within most made fits next each None = tt
within most made fits next each (Some n) = by (nat_le 0 n && nat_le n most) refl
  where
    by : (test : Bool) → (nat_le 0 n && nat_le n most) ≡ test → IsServed (((if test then Some n else None) >>= λ n. Some (made n)) >>= next)
    by true e = each (made n) (fits n e)
    by false e = tt

behind_amount : (word : List ℕ) (next : ℤ → Option Request) → ((amount : ℤ) → is_amount amount ≡ true → IsServed (next amount)) → IsServed (signed_number_of (2 ^ 31) word >>= next)
unfolding signed_number_of number_within
behind_amount [] next each = tt
behind_amount (sign ∷ digits) next each = by (sign == 45)
  where
    by : (minus : Bool)
        → IsServed ((if minus then ((number_of digits >>= where_within 0 (2 ^ 31)) >>= λ n. Some (neg_ℤ (pos n))) else ((number_of (sign ∷ digits) >>= where_within 0 (2 ^ 31 - 1)) >>= λ n. Some (pos n))) >>= next)
    by true = within (2 ^ 31) (λ n. neg_ℤ (pos n)) amount_above next each (number_of digits)
    by false = within (2 ^ 31 - 1) (λ n. pos n) amount_below next each (number_of (sign ∷ digits))

chosen : {A : Type 0} (P : A → Type 0) (test : List ℕ → Bool) (table : List (List ℕ × A)) → AllByRecursion (λ entry. P entry.1) table → IfSome (lookup test table) P
chosen P test [] each = tt
chosen P test (entry ∷ table) each = elim (test entry.0) as (λ b. IfSome (cond b (Some entry.1) (lookup test table)) P) [
  | true ↦ each.0
  | false ↦ chosen P test table each.1
]

otherwise : {A : Type 0} (P : A → Type 0) (found : Option A) (other : A) → IfSome found P → P other → P (unwrap_or found other)
otherwise P None other h k = k
otherwise P (Some a) other h k = h

-- ---- the calls of records

bare : (request : Request) → Serves request → ReadsServed (bare_call request)
unfolding bare_call
bare request named words = either (is_empty_list words) (Some request) None named tt

at_cursor : (request : CursorId → Request) → ((cursor : CursorId) → Serves (request cursor)) → ReadsServedAt (only_cursor request)
unfolding only_cursor
at_cursor request named cursor = bare (request cursor) (named cursor)

prepares : ReadsServedAt prepare_update_call
unfolding prepare_update_call
prepares cursor words = behind (only_word words) _ (λ word. behind (choice_of preparations word) _ (λ how. refl))

sets_column : ReadsServedAt set_column_call
unfolding set_column_call
sets_column cursor words = behind (three_words words) _ (λ word. behind (name_of word.0) _ (λ column. behind (sequence_of word.1) _ (λ sequence. behind (given_of word.2) _ (λ value. refl))))

retrieves : ReadsServedAt retrieve_column_call
unfolding retrieve_column_call
retrieves cursor words =
    behind (first_word words) _ (λ first. behind (first_word first.1) _ (λ second. behind (name_of first.0) _ (λ column. behind (sequence_of second.0) _ (λ sequence.
    behind (most_bytes_of (if begins_with_word (codes "copy") second.1 then drop 1 second.1 else second.1)) _ (λ most. refl)))))

sums : ReadsServedAt escrow_update_call
unfolding escrow_update_call
sums cursor words = behind (two_words words) _ (λ word. behind (name_of word.0) _ (λ column. behind_amount word.1 _ (λ amount fits. fits)))

-- ---- the calls on temporary tables

-- the columns that are read are those that a temporary table may have
legal_columns : (columns : List TempColumn) (next : List TempColumn → Option Request) → ((columns : List TempColumn) → are_temp_columns columns ≡ true → IsServed (next columns)) → (test : Bool) → are_temp_columns columns ≡ test
    → IsServed ((if test then Some columns else None) >>= next)
legal_columns columns next each true e = each columns e
legal_columns columns next each false e = tt

behind_columns : (words : List (List ℕ)) (next : List TempColumn → Option Request) → ((columns : List TempColumn) → are_temp_columns columns ≡ true → IsServed (next columns)) → IsServed (temp_columns_of words >>= next)
unfolding temp_columns_of
behind_columns words next each = by (each_of temp_column_of words)
  where
    by : (found : Option (List TempColumn)) → IsServed ((found >>= λ columns. if are_temp_columns columns then Some columns else None) >>= next)
    by None = tt
    by (Some columns) = legal_columns columns next each (are_temp_columns columns) refl

opens_temp : ReadsServedAt temp_open_call
unfolding temp_open_call
opens_temp temp words = behind_columns (if begins_with_word (codes "unique") words then drop 1 words else words) _ (λ columns legal. legal)

puts_row : ReadsServedAt temp_put_call
unfolding temp_put_call
puts_row temp words = behind (each_of given_of words) _ (λ values. either (nat_le 1 (length values) && nat_le (length values) 12) _ _ refl tt)

moves_temp : ReadsServedAt temp_move_call
unfolding temp_move_call
moves_temp temp words = behind (only_word words) _ (λ word. behind (choice_of ways word) _ (λ way. refl))

reads_row : ReadsServedAt temp_read_call
unfolding temp_read_call
reads_row temp words = behind (only_word words) _ (λ word. behind (number_within 1 99 word) _ (λ column. refl))

intersects : ReadsServedAt intersect_indexes_call
unfolding intersect_indexes_call
intersects temp words = behind (each_of cursor_of words) _ (λ cursors. either (nat_le 2 (length cursors) && nat_le (length cursors) 6) _ _ refl tt)

temps : (name : List ℕ) → ReadsServedAt (temp_call name)
unfolding temp_call
temps name temp words = by (choice_of temp_calls name) (chosen ReadsServedAt (bytes_eq name) temp_calls (opens_temp, (puts_row, (moves_temp, (reads_row, (at_cursor call.TempCount (λ c. refl), (at_cursor call.TempClose (λ c. refl), (intersects, tt))))))))
  where
    by : (found : Option (CursorId → List (List ℕ) → Option Request)) → IfSome found ReadsServedAt → IsServed (found >>= λ reading. reading temp words)
    by None each = tt
    by (Some reading) each = each temp words

records : (name : List ℕ) → ReadsServedAt (record_call name)
unfolding record_call
records name = otherwise ReadsServedAt (choice_of record_calls name) (temp_call name)
    (chosen ReadsServedAt (bytes_eq name) record_calls (prepares, (sets_column, (retrieves, (at_cursor call.Update (λ c. refl), (at_cursor call.Delete (λ c. refl), (at_cursor call.GetLock (λ c. refl), (sums, tt)))))))) (temps name)

-- ---- the calls of navigation

moves : ReadsServedAt move_call
unfolding move_call
moves cursor words = behind (only_word words) _ (λ word. behind (choice_of ways word) _ (λ way. refl))

seeks : ReadsServedAt seek_call
unfolding seek_call
seeks cursor words = behind (only_word words) _ (λ word. behind (choice_of comparisons word) _ (λ by. refl))

limits : (cursor : CursorId) (upper : Bool) → ReadsServed (limit_call cursor upper)
unfolding limit_call
limits cursor upper words = behind (optional_word (codes "inclusive") words) _ (λ inclusive. refl)

ranges : ReadsServedAt set_index_range_call
unfolding set_index_range_call
ranges cursor words =
    either (begins_with_word (codes "remove") words) _ _ (bare (call.RemoveIndexRange cursor) refl (drop 1 words))
    (either (begins_with_word (codes "upper") words) _ _ (limits cursor true (drop 1 words)) (limits cursor false words))

counts_few : ReadsServedAt limited_count_call
unfolding limited_count_call
counts_few cursor words = behind (only_word words) _ (λ word. behind (number_within 1 4294967295 word) _ (λ most. refl))

counts : ReadsServedAt count_call
unfolding count_call
counts cursor words = either (is_empty_list words) _ _ refl (counts_few cursor words)

goes : ReadsServedAt goto_bookmark_call
unfolding goto_bookmark_call
goes cursor words = behind (only_word words) _ (λ word. behind (after_prefix (codes "x:") word) _ (λ text. behind (hex_bytes_of text) _ (λ bookmark. refl)))

places : (name : List ℕ) → ReadsServedAt (place_call name)
unfolding place_call
places name = otherwise ReadsServedAt (choice_of place_calls name) (record_call name)
    (chosen ReadsServedAt (bytes_eq name) place_calls (moves, (seeks, (ranges, (counts, (at_cursor call.RetrieveKey (λ c. refl), (at_cursor call.GetBookmark (λ c. refl), (goes, tt)))))))) (records name)

-- ---- the other calls of a cursor

table_named : (request : List ℕ → Request) → ((name : List ℕ) → IsShort name → Serves (request name)) → ReadsServed (table_call request)
unfolding table_call
table_named request named words = behind (only_word words) _ (λ word. behind_name word _ named)

opens : ReadsServedAt open_table_call
unfolding open_table_call
opens cursor = table_named (call.OpenTable cursor) (λ name is. refl)

chooses_index : ReadsServedAt set_current_index_call
unfolding set_current_index_call
chooses_index cursor words = either (is_empty_list words) _ _ refl (table_named (λ index. call.SetCurrentIndex cursor (Some index)) (λ name is. refl) words)

makes_key : ReadsServedAt make_key_call
unfolding make_key_call
makes_key cursor words = behind (only_word (if begins_with_word (codes "new") words then drop 1 words else words)) _ (λ word. behind (given_of word) _ (λ value. refl))

of_cursor : (name : List ℕ) → ReadsServedAt (call_of_cursor name)
unfolding call_of_cursor
of_cursor name = otherwise ReadsServedAt (choice_of cursor_calls name) (place_call name)
    (chosen ReadsServedAt (bytes_eq name) cursor_calls (opens, (at_cursor call.CloseTable (λ c. refl), (chooses_index, (makes_key, tt))))) (places name)

labelled : (reading : CursorId → List (List ℕ) → Option Request) → ReadsServedAt reading → ReadsServed (cursor_call reading)
unfolding cursor_call
labelled reading each words = behind (first_word words) _ (λ first. behind (label_of first.0) _ (λ cursor. each (record { 0 = cursor }) first.1))

-- ---- the calls of the schema

parts : (request : List ℕ → List ℕ → Request) → ((table part : List ℕ) → Serves (request table part)) → ReadsServed (part_call request)
unfolding part_call
parts request named words = behind (two_words words) _ (λ word. behind (name_of word.0) _ (λ table. behind (name_of word.1) _ (λ part. named table part)))

adds_column : ReadsServed add_column_call
unfolding add_column_call
adds_column words =
    behind (first_word words) _ (λ first. behind (first_word first.1) _ (λ second. behind (first_word second.1) _ (λ third. behind (name_of first.0) _ (λ table.
    behind_name second.0 _ (λ column is. behind (choice_of column_types third.0) _ (λ type. behind_flags third.1 _ (λ flags unnumbered. column_served _ _ is unnumbered)))))))

creates_index : ReadsServed create_index_call
unfolding create_index_call
creates_index words =
    behind (first_word words) _ (λ first. behind (first_word first.1) _ (λ second. behind (name_of first.0) _ (λ table.
    behind_name second.0 _ (λ index is. either (are_index_words second.1) _ _ (and_from _ _ is refl) tt))))

schemas : (name : List ℕ) → ReadsServed (schema_call name)
unfolding schema_call
schemas name = otherwise ReadsServed (choice_of schema_calls name) (cursor_call (call_of_cursor name))
    (chosen ReadsServed (bytes_eq name) schema_calls
    (table_named call.CreateTable (λ name is. and_from _ _ is refl), (table_named call.DeleteTable (λ name is. refl), (adds_column, (parts call.DeleteColumn (λ table part. refl), (creates_index, (parts call.DeleteIndex (λ table part. refl), tt)))))))
    (labelled (call_of_cursor name) (of_cursor name))

-- ---- all calls

commits : ReadsServed commit_call
unfolding commit_call
commits words = behind (optional_word (codes "lazy") words) _ (λ lazy. refl)

rolls_back : ReadsServed rollback_call
unfolding rollback_call
rolls_back words = behind (optional_word (codes "all") words) _ (λ all. refl)

calls : (name : List ℕ) → ReadsServed (named_call name)
unfolding named_call
calls name = otherwise ReadsServed (choice_of transaction_calls name) (schema_call name)
    (chosen ReadsServed (bytes_eq name) transaction_calls (bare call.BeginSession refl, (bare call.EndSession refl, (bare call.BeginTransaction refl, (commits, (rolls_back, tt)))))) (schemas name)

-- ---- a line

abbrev SaysServed : Option (ℕ × Request) → Type 0
SaysServed reading = IfSome reading (λ said. Serves said.1)

said_behind : {A : Type 0} (found : Option A) (next : A → Option (ℕ × Request)) → ((a : A) → SaysServed (next a)) → SaysServed (found >>= next)
said_behind None next each = tt
said_behind (Some a) next each = each a

by_session : (session : ℕ) (found : Option Request) → IsServed found → SaysServed (found >>= λ request. Some (session, request))
by_session session None served = tt
by_session session (Some request) served = served

words-served : (words : List (List ℕ)) → SaysServed (words_request words)
unfolding words_request
words-served words =
    said_behind (first_word words) _ (λ first. said_behind (first_word first.1) _ (λ second. said_behind (label_of first.0) _ (λ session. by_session session (named_call second.0 second.1) (calls second.0 second.1))))

pub line-served : (line : List ℕ) → IfSome (line_request line) (λ said. is_built_request said.1 ≡ true)
unfolding line_request
line-served line = words-served (words_of line)
