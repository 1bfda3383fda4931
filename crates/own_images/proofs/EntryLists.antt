-- Pairs in order, each once, and the entries of all variants.
use Rattle.std.proofs.Common.{◌≡◌, ℕ, Bool, true, false, not, cond, ◌&&◌, ◌||◌, List, [], ◌∷◌, ◌++◌, Option, Some, None, refl, sym, ap, ◌∙◌, arith, bytes_eq}
use Rattle.std.specs.Prelude.{◌==◌, map, option_map, if◌then◌else◌}
use Rattle.std.specs.Cmp.Lexicographic.{slice_cmp}
use Rattle.std.specs.List.{AllByRecursion, flat_map, list_any}
use Rattle.std.specs.Ordering.{eq_by_cmp, is_eq, is_lt, nat_cmp}
use Rattle.std.proofs.lemmas.Bool.Decides.{nat_tests}
use Rattle.std.proofs.lemmas.Grind.{flat_map-append}
use Rattle.std.proofs.lemmas.List.Folds.{list_any-append}
use Rattle.column_set.specs.RecordValues.{RecordFields}
use Rattle.common_lemmas.proofs.Booleans.{and_false, and_left, and_right, by_test, impossible}
use Rattle.common_lemmas.proofs.Numbers.{equal_bytes, same_bytes}
use Rattle.common_lemmas.proofs.Options.{some_apart}
use Rattle.common_lemmas.proofs.Orders.{is_equal, is_less, less-irreflexive}
use Rattle.cursor_nav.specs.Places.{Pair, are_sorted, pair_lt}
use Rattle.database_state.specs.Conflicts.{yields_key}
use Rattle.database_state.specs.State.{is_undone}
use Rattle.database_state.specs.Table.{Rows, row_at}
use Rattle.index_derive.specs.Entries.{derive, insert_entry, own_order}
use Rattle.index_derive.specs.declared.rules.IndexRule.{IndexRule}
use Rattle.index_derive.specs.declared.rules.Schema.{Schema}
use Rattle.laws_engine.specs.HeldRecords.{HeldRecord, is_standing_rewrite}
use Rattle.laws_versions.proofs.IndexLemmas.Adding.{any_derived}
use Rattle.laws_versions.proofs.IndexLemmas.Members.{any_insert}
use Rattle.laws_versions.proofs.IndexLemmas.PairOrder.{exact_pairs, pair_cmp, rising-sorted, sorted-rising}
use Rattle.laws_versions.proofs.IndexLemmas.Rising.{IsApart, IsFresh, rising_insert}
use Rattle.laws_versions.proofs.IndexLemmas.Standing.{same_test, stands}
use Rattle.laws_versions.specs.KeptEntries.{has_entry}
use Rattle.long_value.specs.Values.{Values}
use Rattle.stored_variants.specs.RecordRows.{TableValues, held_record_in, record_of}
use Rattle.live_part.specs.LiveBytes.{standing}
use Rattle.version_store.specs.HeldChanges.{HeldChange, is_rewrite}
use Rattle.image_findings.specs.EntryFindings.{differing, in_order, pairs_of, row_before}
use Rattle.image_findings.specs.Images.{Finding}
use Rattle.image_findings.specs.TableContents.{TableContents, long_values}

and_true : (b : Bool) → (b && true) ≡ b
and_true true = refl
and_true false = refl

abbrev is_entry : List ℕ → List ℕ → Pair → Bool
is_entry key bookmark p = bytes_eq p.0 key && bytes_eq p.1 bookmark

-- ---- in order, each once

fresh : (p : Pair) (pairs : List Pair) → has_entry p.0 p.1 pairs ≡ false → IsFresh p pairs
fresh p [] h = tt
fresh p (q ∷ pairs) h = (apart (is_entry p.0 p.1 q) refl h, fresh p pairs (rest (is_entry p.0 p.1 q) h))
  where
    rest : (b : Bool) → (b || has_entry p.0 p.1 pairs) ≡ false → has_entry p.0 p.1 pairs ≡ false
    rest true e = impossible (sym e)
    rest false e = e

    same : is_eq (pair_cmp p q) ≡ true → is_entry p.0 p.1 q ≡ true
    same e =
        let one : p ≡ q = exact_pairs p q (is_equal (pair_cmp p q) e) in
        ap (λ (x : Pair). is_entry x.0 x.1 q) one ∙ ap (λ (b : Bool). b && bytes_eq q.1 q.1) (equal_bytes q.0 q.0 refl) ∙ equal_bytes q.1 q.1 refl

    apart : (b : Bool) → is_entry p.0 p.1 q ≡ b → (b || has_entry p.0 p.1 pairs) ≡ false → IsApart p q
    apart true e f = impossible (sym f)
    apart false e f = by_test (is_eq (pair_cmp p q)) (λ t. impossible (sym e ∙ same t)) (λ other. other)

pub sorted_in_order : (pairs : List Pair) → are_sorted (in_order pairs) ≡ true
sorted_in_order [] = refl
sorted_in_order (p ∷ pairs) = by (has_entry p.0 p.1 (in_order pairs)) refl (sorted_in_order pairs)
  where
    by : (b : Bool) → has_entry p.0 p.1 (in_order pairs) ≡ b → are_sorted (in_order pairs) ≡ true → are_sorted (if b then in_order pairs else insert_entry p (in_order pairs)) ≡ true
    by true e rest = rest
    by false e rest = sorted-rising (insert_entry p (in_order pairs)) (rising_insert p (in_order pairs) (rising-sorted (in_order pairs) rest) (fresh p (in_order pairs) e))

pub any_in_order : (key bookmark : List ℕ) (pairs : List Pair) → has_entry key bookmark (in_order pairs) ≡ has_entry key bookmark pairs
any_in_order key bookmark [] = refl
any_in_order key bookmark (p ∷ pairs) = by (has_entry p.0 p.1 (in_order pairs)) refl (any_in_order key bookmark pairs)
  where
    is_there : (b : Bool) → is_entry key bookmark p ≡ b → has_entry p.0 p.1 (in_order pairs) ≡ true → has_entry key bookmark (in_order pairs) ≡ (b || has_entry key bookmark (in_order pairs))
    is_there true e has =
        let keys : p.0 ≡ key = same_bytes p.0 key (and_left (bytes_eq p.0 key) (bytes_eq p.1 bookmark) e) in
        let bookmarks : p.1 ≡ bookmark = same_bytes p.1 bookmark (and_right (bytes_eq p.0 key) (bytes_eq p.1 bookmark) e) in
        ap (λ (k : List ℕ). has_entry k bookmark (in_order pairs)) (sym keys) ∙ ap (λ (k : List ℕ). has_entry p.0 k (in_order pairs)) (sym bookmarks) ∙ has
    is_there false e has = refl

    by : (b : Bool) → has_entry p.0 p.1 (in_order pairs) ≡ b → has_entry key bookmark (in_order pairs) ≡ has_entry key bookmark pairs
        → has_entry key bookmark (if b then in_order pairs else insert_entry p (in_order pairs)) ≡ (is_entry key bookmark p || has_entry key bookmark pairs)
    by true e rest = is_there (is_entry key bookmark p) refl e ∙ ap (λ (b : Bool). is_entry key bookmark p || b) rest
    by false e rest = any_insert (is_entry key bookmark) p (in_order pairs) ∙ ap (λ (b : Bool). is_entry key bookmark p || b) rest

-- ---- nothing differs from itself

not_less : (a : List ℕ) → is_lt (slice_cmp nat_cmp a a) ≡ false
not_less a = by_test (is_lt (slice_cmp nat_cmp a a)) (λ t. absurd (less-irreflexive a (is_less (slice_cmp nat_cmp a a) t))) (λ other. other)

not_below : (p : Pair) → pair_lt p p ≡ false
not_below p =
    ap (λ (b : Bool). b || (bytes_eq p.0 p.0 && is_lt (slice_cmp nat_cmp p.1 p.1))) (not_less p.0)
    ∙ ap (λ (b : Bool). bytes_eq p.0 p.0 && b) (not_less p.1) ∙ and_false (bytes_eq p.0 p.0)

pub nothing_differs : (found : Pair → ℕ → ℕ → Finding) (entries : List Pair) → differing found entries entries ≡ None
nothing_differs found [] = refl
nothing_differs found (p ∷ entries) =
    ap (λ (b : Bool). if b then Some (found p 1 0) else if b then Some (found p 0 1) else differing found entries entries) (not_below p) ∙ nothing_differs found entries

-- ---- entries of rows

pub entries_of_rows : (rule : IndexRule) (schema : Schema) (rows : Rows) (key bookmark : List ℕ) → are_sorted (own_order rows) ≡ true → has_entry key bookmark (flat_map (pairs_of rule schema) rows) ≡ yields_key rule schema key (row_at rows bookmark)
entries_of_rows rule schema rows key bookmark sorted = sym (any_derived (is_entry key bookmark) rule schema rows) ∙ stands rule schema rows key bookmark sorted

one_row : (rule : IndexRule) (schema : Schema) (own : List ℕ) (fields : RecordFields) (key bookmark : List ℕ) → has_entry key bookmark (flat_map (pairs_of rule schema) ((own, fields) ∷ [])) ≡ (bytes_eq own bookmark && yields_key rule schema key (Some fields))
one_row rule schema own fields key bookmark =
    entries_of_rows rule schema ((own, fields) ∷ []) key bookmark refl ∙ at (eq_by_cmp (slice_cmp nat_cmp) bookmark own)
    ∙ ap (λ (b : Bool). b && yields_key rule schema key (Some fields)) (sym (same_test bookmark own))
  where
    at : (b : Bool) → yields_key rule schema key (cond b (Some fields) None) ≡ (b && yields_key rule schema key (Some fields))
    at true = refl
    at false = refl

-- ---- entries of the rows before held changes

abbrev rows_of_before : Bool → Values → List ℕ → Option (List ℕ) → Rows
rows_of_before here values own None = []
rows_of_before here values own (Some bytes) = if here then (own, record_of values bytes) ∷ [] else []

before_is : (t : TableContents) (h : HeldChange) → row_before t h ≡ rows_of_before (h.table == t.table.id) (long_values t) h.bookmark h.before
before_is t h = at h.before
  where
    at : (o : Option (List ℕ)) → (elim o [ Some bytes ↦ if h.table == t.table.id then (h.bookmark, record_of (long_values t) bytes) ∷ [] else [] | None ↦ [] ]) ≡ rows_of_before (h.table == t.table.id) (long_values t) h.bookmark o
    at None = refl
    at (Some bytes) = refl

before_yields : (rule : IndexRule) (schema : Schema) (key bookmark own : List ℕ) (values others : Values) (o : Option (List ℕ)) (here rewrite gone : Bool) → gone ≡ false → (rewrite ≡ false → o ≡ None) → (here ≡ true → others ≡ values)
    → has_entry key bookmark (flat_map (pairs_of rule schema) (rows_of_before here values own o))
    ≡ ((here && bytes_eq own bookmark && rewrite && not gone) && yields_key rule schema key (if rewrite && not gone then option_map (record_of others) o else None))
before_yields rule schema key bookmark own values others None here rewrite gone stands whole same = sym (nothing (rewrite && not gone))
  where
    nothing : (b : Bool) → ((here && bytes_eq own bookmark && rewrite && not gone) && yields_key rule schema key (if b then None else None)) ≡ false
    nothing true = and_false (here && bytes_eq own bookmark && rewrite && not gone)
    nothing false = and_false (here && bytes_eq own bookmark && rewrite && not gone)
before_yields rule schema key bookmark own values others (Some bytes) here rewrite true stands whole same = impossible (sym stands)
before_yields rule schema key bookmark own values others (Some bytes) here false false stands whole same = absurd (some_apart bytes (whole refl))
before_yields rule schema key bookmark own values others (Some bytes) false true false stands whole same = refl
before_yields rule schema key bookmark own values others (Some bytes) true true false stands whole same =
    one_row rule schema own (record_of values bytes) key bookmark
    ∙ ap (λ (v : Values). bytes_eq own bookmark && yields_key rule schema key (Some (record_of v bytes))) (sym (same refl))
    ∙ ap (λ (b : Bool). b && yields_key rule schema key (Some (record_of others bytes))) (sym (and_true (bytes_eq own bookmark && true) ∙ and_true (bytes_eq own bookmark)))

-- what is asked of a change here: one that holds no row before it is no put and no drop
abbrev pub HoldsOwn : HeldChange → Type 0
HoldsOwn h = is_rewrite h.kind ≡ false → h.before ≡ None

abbrev is_variant : TableValues → TableContents → IndexRule → Schema → List ℕ → List ℕ → HeldChange → Bool
is_variant longs t rule schema key bookmark h = is_standing_rewrite t.table.id bookmark (held_record_in longs h) && yields_key rule schema key (held_record_in longs h).before

number_is : (m n : ℕ) → (m == n) ≡ true → m ≡ n
number_is m n e = grind (arith, nat_tests, e)

undone_yields : (longs : TableValues) (t : TableContents) (rule : IndexRule) (schema : Schema) (key bookmark : List ℕ) (h : HeldChange) → is_undone h.status ≡ true → is_variant longs t rule schema key bookmark h ≡ false
undone_yields longs t rule schema key bookmark h e =
    ap (λ (b : Bool). ((h.table == t.table.id) && bytes_eq h.bookmark bookmark && is_rewrite h.kind && not b) && yields_key rule schema key (held_record_in longs h).before) e
    ∙ ap (λ (b : Bool). b && yields_key rule schema key (held_record_in longs h).before) (and_false ((h.table == t.table.id) && bytes_eq h.bookmark bookmark && is_rewrite h.kind))

pub entries_before : (longs : TableValues) (t : TableContents) (rule : IndexRule) (schema : Schema) (key bookmark : List ℕ) (held : List HeldChange) → longs t.table.id ≡ long_values t → AllByRecursion HoldsOwn held
    → has_entry key bookmark (flat_map (pairs_of rule schema) (flat_map (row_before t) (standing held)))
    ≡ list_any (λ (change : HeldRecord). is_standing_rewrite t.table.id bookmark change && yields_key rule schema key change.before) (map (held_record_in longs) held)
entries_before longs t rule schema key bookmark [] same own = refl
entries_before longs t rule schema key bookmark (h ∷ held) same own = at (is_undone h.status) refl (entries_before longs t rule schema key bookmark held same own.1)
  where
    abbreviated : flat_map (pairs_of rule schema) (flat_map (row_before t) (h ∷ standing held)) ≡ flat_map (pairs_of rule schema) (row_before t h) ++ flat_map (pairs_of rule schema) (flat_map (row_before t) (standing held))
    abbreviated = flat_map-append (pairs_of rule schema) (row_before t h) (flat_map (row_before t) (standing held))

    values_here : (h.table == t.table.id) ≡ true → longs h.table ≡ long_values t
    values_here e = ap longs (number_is h.table t.table.id e) ∙ same

    first : is_undone h.status ≡ false → has_entry key bookmark (flat_map (pairs_of rule schema) (row_before t h)) ≡ is_variant longs t rule schema key bookmark h
    first e =
        ap (λ (rows : Rows). has_entry key bookmark (flat_map (pairs_of rule schema) rows)) (before_is t h)
        ∙ before_yields rule schema key bookmark h.bookmark (long_values t) (longs h.table) h.before (h.table == t.table.id) (is_rewrite h.kind) (is_undone h.status) e own.0 values_here

    at : (b : Bool) → is_undone h.status ≡ b
        → has_entry key bookmark (flat_map (pairs_of rule schema) (flat_map (row_before t) (standing held))) ≡ list_any (λ (change : HeldRecord). is_standing_rewrite t.table.id bookmark change && yields_key rule schema key change.before) (map (held_record_in longs) held)
        → has_entry key bookmark (flat_map (pairs_of rule schema) (flat_map (row_before t) (if not b then h ∷ standing held else standing held)))
        ≡ (is_variant longs t rule schema key bookmark h || list_any (λ (change : HeldRecord). is_standing_rewrite t.table.id bookmark change && yields_key rule schema key change.before) (map (held_record_in longs) held))
    at true e rest = rest ∙ ap (λ (b : Bool). b || list_any (λ (change : HeldRecord). is_standing_rewrite t.table.id bookmark change && yields_key rule schema key change.before) (map (held_record_in longs) held)) (sym (undone_yields longs t rule schema key bookmark h e))
    at false e rest =
        ap (has_entry key bookmark) abbreviated
        ∙ list_any-append (is_entry key bookmark) (flat_map (pairs_of rule schema) (row_before t h)) (flat_map (pairs_of rule schema) (flat_map (row_before t) (standing held)))
        ∙ ap (λ (b : Bool). b || has_entry key bookmark (flat_map (pairs_of rule schema) (flat_map (row_before t) (standing held)))) (first e)
        ∙ ap (λ (b : Bool). is_variant longs t rule schema key bookmark h || b) rest
