-- A key that no wanted entry of an index has is one that no record has, before any of the held changes.
use Rattle.std.proofs.Common.{◌≡◌, ℕ, Bool, true, false, ◌&&◌, ◌||◌, cond, List, [], ◌∷◌, ◌++◌, Option, Some, None, refl, sym, ap, ◌∙◌}
use Rattle.std.specs.Prelude.{neg_ℤ, ◌==◌, map, flat_map, option_map, bytes_eq}
use Rattle.std.specs.List.{AllByRecursion, list_any}
use Rattle.std.specs.Ordering.{eq_by_cmp, nat_cmp}
use Rattle.std.specs.Cmp.Lexicographic.{slice_cmp}
use Rattle.std.proofs.lemmas.Bool.{eqb-true}
use Rattle.std.proofs.lemmas.List.Concat.{flat_map-cons}
use Rattle.column_set.specs.ChangedRecords.{changed_table}
use Rattle.column_set.specs.RecordValues.{RecordFields}
use Rattle.common_lemmas.proofs.Booleans.{and_left, impossible, or_swap}
use Rattle.common_lemmas.proofs.Numbers.{same_bytes}
use Rattle.cursor_nav.specs.Places.{Pair}
use Rattle.database_state.specs.Conflicts.{yields_key}
use Rattle.database_state.specs.Table.{Rows, Table, row_at, rows_of, schema_of}
use Rattle.index_derive.specs.Entries.{entry_le, insert_entry, key_list}
use Rattle.index_derive.specs.declared.rules.IndexRule.{IndexRule}
use Rattle.index_derive.specs.declared.rules.Schema.{Schema}
use Rattle.index_tree.specs.Entries.{insert_entry_if_absent}
use Rattle.laws_engine.specs.HeldRecords.{inverse, inverse_of}
use Rattle.laws_images.proofs.OpenedLemmas.TakenBack.{made_table}
use Rattle.laws_images.specs.ShownStates.{past_of}
use Rattle.laws_versions.proofs.KeyLemmas.KeySums.{keys_with_sum}
use Rattle.laws_versions.specs.KeptEntries.{has_entry}
use Rattle.laws_versions.specs.KeySums.{IsPlainIndex}
use Rattle.laws_versions.specs.Records.{record_after}
use Rattle.long_value.specs.Values.{Values}
use Rattle.stored_variants.specs.RecordRows.{held_record_in, record_of, rows_of_nodes}
use Rattle.version_cleanup.specs.LiveSessions.{LiveState}
use Rattle.version_store.specs.HeldChanges.{HeldChange}
use Rattle.version_store.specs.declared.calls.ChangeKind.{ChangeKind}
use Rattle.version_store.specs.declared.calls.ChangeKind.TheVariants as kind
use Rattle.image_findings.specs.EntryFindings.{in_order, pairs_of, row_before, variants_of, wanted_entries}
use Rattle.image_findings.specs.Findings.{values_by_table}
use Rattle.image_findings.specs.LiveFindings.{adds_to_sum}
use Rattle.image_findings.specs.TableContents.{TableContents, contents_with_id, long_values, newest_table}
use Rattle.image_findings.proofs.Befores.{names_no_sum}
use Rattle.image_findings.proofs.Changes.{IsKnown, table_found}
use Rattle.image_findings.proofs.Tests.{or_first, or_second}
use Rattle.image_findings.proofs.Turns.{before_is, kept_before, records_before, step_back}

-- ---- pairs with a key

-- whether a pair has the key
abbrev pub is_named : List ℕ → List Pair → Bool
is_named key pairs = list_any (λ (p : Pair). bytes_eq key p.0) pairs

named_entry : (key : List ℕ) (p : Pair) (pairs : List Pair) → is_named key (insert_entry p pairs) ≡ (bytes_eq key p.0 || is_named key pairs)
named_entry key p [] = refl
named_entry key p (q ∷ pairs) = by (entry_le p q) (named_entry key p pairs)
  where
    by : (b : Bool) → is_named key (insert_entry p pairs) ≡ (bytes_eq key p.0 || is_named key pairs) → is_named key (cond b (p ∷ q ∷ pairs) (q ∷ insert_entry p pairs)) ≡ (bytes_eq key p.0 || is_named key (q ∷ pairs))
    by true rest = refl
    by false rest = ap (λ b. bytes_eq key q.0 || b) rest ∙ or_swap (bytes_eq key q.0) (bytes_eq key p.0) (is_named key pairs)

there_named : (key : List ℕ) (p : Pair) (pairs : List Pair) → has_entry p.0 p.1 pairs ≡ true → bytes_eq key p.0 ≡ true → is_named key pairs ≡ true
there_named key p [] has is = has
there_named key p (q ∷ pairs) has is = by (bytes_eq q.0 p.0 && bytes_eq q.1 p.1) refl has (λ more. there_named key p pairs more is)
  where
    by : (b : Bool) → (bytes_eq q.0 p.0 && bytes_eq q.1 p.1) ≡ b → (b || has_entry p.0 p.1 pairs) ≡ true → (has_entry p.0 p.1 pairs ≡ true → is_named key pairs ≡ true) → (bytes_eq key q.0 || is_named key pairs) ≡ true
    by true e has rest = or_first (bytes_eq key q.0) (is_named key pairs) (ap (bytes_eq key) (same_bytes q.0 p.0 (and_left (bytes_eq q.0 p.0) (bytes_eq q.1 p.1) e)) ∙ is)
    by false e has rest = or_second (bytes_eq key q.0) (is_named key pairs) (rest has)

named_if_absent : (key : List ℕ) (p : Pair) (pairs : List Pair) → (bytes_eq key p.0 || is_named key pairs) ≡ true → is_named key (insert_entry_if_absent p pairs) ≡ true
named_if_absent key p pairs h = by (has_entry p.0 p.1 pairs) refl
  where
    there : (b : Bool) → bytes_eq key p.0 ≡ b → (b || is_named key pairs) ≡ true → has_entry p.0 p.1 pairs ≡ true → is_named key pairs ≡ true
    there true e f has = there_named key p pairs has e
    there false e f has = f

    by : (b : Bool) → has_entry p.0 p.1 pairs ≡ b → is_named key (cond b pairs (insert_entry p pairs)) ≡ true
    by true has = there (bytes_eq key p.0) refl h has
    by false has = named_entry key p pairs ∙ h

named_in_order : (key : List ℕ) (pairs : List Pair) → is_named key pairs ≡ true → is_named key (in_order pairs) ≡ true
named_in_order key [] h = h
named_in_order key (p ∷ pairs) h = named_if_absent key p (in_order pairs) (by (bytes_eq key p.0) h (named_in_order key pairs))
  where
    by : (b : Bool) → (b || is_named key pairs) ≡ true → (is_named key pairs ≡ true → is_named key (in_order pairs) ≡ true) → (b || is_named key (in_order pairs)) ≡ true
    by true h rest = refl
    by false h rest = rest h

-- ---- the keys of variants

any_append : {X : Type 0} (p : X → Bool) (xs ys : List X) → list_any p xs ≡ true → list_any p (xs ++ ys) ≡ true
any_append p [] ys h = impossible h
any_append {X} p (x ∷ xs) ys h = by (p x) h (any_append p xs ys)
  where
    by : (b : Bool) → (b || list_any p xs) ≡ true → (list_any p xs ≡ true → list_any p (xs ++ ys) ≡ true) → (b || list_any p (xs ++ ys)) ≡ true
    by true h rest = refl
    by false h rest = rest h

any_behind : {X : Type 0} (p : X → Bool) (xs ys : List X) → list_any p ys ≡ true → list_any p (xs ++ ys) ≡ true
any_behind p [] ys h = h
any_behind p (x ∷ xs) ys h = or_second (p x) (list_any p (xs ++ ys)) (any_behind p xs ys h)

abbrev has_it : IndexRule → Schema → List ℕ → List ℕ × RecordFields → Bool
has_it rule schema key row = yields_key rule schema key (Some row.1)

named_row : (key bookmark : List ℕ) (keys : List (List ℕ)) → list_any (bytes_eq key) keys ≡ true → is_named key (map (λ (k : List ℕ). (k, bookmark)) keys) ≡ true
named_row key bookmark [] h = h
named_row key bookmark (k ∷ keys) h = by (bytes_eq key k) h (named_row key bookmark keys)
  where
    by : (b : Bool) → (b || list_any (bytes_eq key) keys) ≡ true → (list_any (bytes_eq key) keys ≡ true → is_named key (map (λ (k : List ℕ). (k, bookmark)) keys) ≡ true) → (b || is_named key (map (λ (k : List ℕ). (k, bookmark)) keys)) ≡ true
    by true h rest = refl
    by false h rest = rest h

named_rows : (rule : IndexRule) (schema : Schema) (key : List ℕ) (rows : Rows) → list_any (has_it rule schema key) rows ≡ true → is_named key (flat_map (pairs_of rule schema) rows) ≡ true
named_rows rule schema key [] h = impossible h
named_rows rule schema key (row ∷ rows) h = ap (is_named key) (flat_map-cons (pairs_of rule schema) row rows) ∙ by (has_it rule schema key row) refl h (named_rows rule schema key rows)
  where
    by : (b : Bool) → has_it rule schema key row ≡ b → (b || list_any (has_it rule schema key) rows) ≡ true → (list_any (has_it rule schema key) rows ≡ true → is_named key (flat_map (pairs_of rule schema) rows) ≡ true)
        → is_named key (pairs_of rule schema row ++ flat_map (pairs_of rule schema) rows) ≡ true
    by true e h rest = any_append (λ (p : Pair). bytes_eq key p.0) (pairs_of rule schema row) (flat_map (pairs_of rule schema) rows) (named_row key row.0 (key_list rule schema row.1) e)
    by false e h rest = any_behind (λ (p : Pair). bytes_eq key p.0) (pairs_of rule schema row) (flat_map (pairs_of rule schema) rows) (rest h)

found_any : (rule : IndexRule) (schema : Schema) (key : List ℕ) (rows : Rows) (b : List ℕ) → yields_key rule schema key (row_at rows b) ≡ true → list_any (has_it rule schema key) rows ≡ true
found_any rule schema key [] b h = impossible h
found_any rule schema key (row ∷ rows) b h = by (eq_by_cmp (slice_cmp nat_cmp) b row.0) h (found_any rule schema key rows b)
  where
    by : (x : Bool) → yields_key rule schema key (cond x (Some row.1) (row_at rows b)) ≡ true → (yields_key rule schema key (row_at rows b) ≡ true → list_any (has_it rule schema key) rows ≡ true) → (has_it rule schema key row || list_any (has_it rule schema key) rows) ≡ true
    by true h rest = or_first (has_it rule schema key row) (list_any (has_it rule schema key) rows) h
    by false h rest = or_second (has_it rule schema key row) (list_any (has_it rule schema key) rows) (rest h)

contradicted : (a b : Bool) → (a ≡ true → b ≡ true) → b ≡ false → a ≡ false
contradicted true b f e = impossible (sym e ∙ f refl)
contradicted false b f e = refl

wanted_variant : (held : List HeldChange) (t : TableContents) (rule : IndexRule) (key : List ℕ) → list_any (has_it rule (schema_of t.table) key) (variants_of held t) ≡ true → is_named key (wanted_entries held t rule) ≡ true
wanted_variant held t rule key h = named_in_order key (flat_map (pairs_of rule (schema_of t.table)) (variants_of held t)) (named_rows rule (schema_of t.table) key (variants_of held t) h)

newest_absent : (held : List HeldChange) (t : TableContents) (rule : IndexRule) (key : List ℕ) → is_named key (wanted_entries held t rule) ≡ false → (b : List ℕ) → yields_key rule (schema_of t.table) key (row_at (rows_of_nodes (long_values t) t.nodes) b) ≡ false
newest_absent held t rule key none b =
    contradicted (yields_key rule (schema_of t.table) key (row_at (rows_of_nodes (long_values t) t.nodes) b)) (is_named key (wanted_entries held t rule))
    (λ has. wanted_variant held t rule key (any_append (has_it rule (schema_of t.table) key) (rows_of_nodes (long_values t) t.nodes) (flat_map (row_before t) held) (found_any rule (schema_of t.table) key (rows_of_nodes (long_values t) t.nodes) b has))) none

-- the record before a change of the table has not the key
abbrev BeforeLacks : TableContents → IndexRule → List ℕ → HeldChange → Type 0
BeforeLacks t rule key h = (h.table == t.table.id) ≡ true → yields_key rule (schema_of t.table) key (option_map (record_of (long_values t)) h.before) ≡ false

before_any : (t : TableContents) (rule : IndexRule) (key : List ℕ) (h : HeldChange) → (h.table == t.table.id) ≡ true → yields_key rule (schema_of t.table) key (option_map (record_of (long_values t)) h.before) ≡ true → list_any (has_it rule (schema_of t.table) key) (row_before t h) ≡ true
before_any t rule key h own has = by h.before has
  where
    by : (o : Option (List ℕ)) → yields_key rule (schema_of t.table) key (option_map (record_of (long_values t)) o) ≡ true
        → list_any (has_it rule (schema_of t.table) key) (elim o [ Some bytes ↦ cond (h.table == t.table.id) ((h.bookmark, record_of (long_values t) bytes) ∷ []) [] | None ↦ [] ]) ≡ true
    by None has = impossible has
    by (Some bytes) has =
        ap (λ b. list_any (has_it rule (schema_of t.table) key) (cond b ((h.bookmark, record_of (long_values t) bytes) ∷ []) [])) own
        ∙ or_first (has_it rule (schema_of t.table) key (h.bookmark, record_of (long_values t) bytes)) false has

befores_lack : (t : TableContents) (rule : IndexRule) (key : List ℕ) (held : List HeldChange) → list_any (has_it rule (schema_of t.table) key) (flat_map (row_before t) held) ≡ false → AllByRecursion (BeforeLacks t rule key) held
befores_lack t rule key [] none = tt
befores_lack t rule key (h ∷ held) none = (
  λ own. contradicted (yields_key rule (schema_of t.table) key (option_map (record_of (long_values t)) h.before)) (list_any (has_it rule (schema_of t.table) key) (row_before t h ++ flat_map (row_before t) held))
      (λ has. any_append (has_it rule (schema_of t.table) key) (row_before t h) (flat_map (row_before t) held) (before_any t rule key h own has)) split,
  befores_lack t rule key held (contradicted (list_any (has_it rule (schema_of t.table) key) (flat_map (row_before t) held)) (list_any (has_it rule (schema_of t.table) key) (row_before t h ++ flat_map (row_before t) held))
      (λ has. any_behind (has_it rule (schema_of t.table) key) (row_before t h) (flat_map (row_before t) held) has) split),
)
  where
    split : list_any (has_it rule (schema_of t.table) key) (row_before t h ++ flat_map (row_before t) held) ≡ false
    split = ap (list_any (has_it rule (schema_of t.table) key)) (sym (flat_map-cons (row_before t) h held)) ∙ none

all_lack : (held : List HeldChange) (t : TableContents) (rule : IndexRule) (key : List ℕ) → is_named key (wanted_entries held t rule) ≡ false → AllByRecursion (BeforeLacks t rule key) held
all_lack held t rule key none =
    befores_lack t rule key held
    (contradicted (list_any (has_it rule (schema_of t.table) key) (flat_map (row_before t) held)) (is_named key (wanted_entries held t rule))
    (λ has. wanted_variant held t rule key (any_behind (has_it rule (schema_of t.table) key) (rows_of_nodes (long_values t) t.nodes) (flat_map (row_before t) held) has)) none)

-- ---- the records before the held changes

lacks_back : (table : Table) (rule : IndexRule) → IsPlainIndex table rule → (key : List ℕ) (values : Values) (what : ChangeKind) (id : ℕ) (bookmark : List ℕ) (o : Option (List ℕ)) (after : Option RecordFields) → adds_to_sum table what ≡ true
    → yields_key rule (schema_of table) key (option_map (record_of values) o) ≡ false → yields_key rule (schema_of table) key after ≡ false → yields_key rule (schema_of table) key (record_after (inverse_of what id bookmark (kept_before values what o)) after) ≡ false
lacks_back table rule plain key values kind.Put id bookmark None after adds before has = refl
lacks_back table rule plain key values kind.Put id bookmark (Some row) after adds before has = before
lacks_back table rule plain key values kind.Drop id bookmark None after adds before has = refl
lacks_back table rule plain key values kind.Drop id bookmark (Some row) after adds before has = before
lacks_back table rule plain key values kind.Hold id bookmark o after adds before has = has
lacks_back table rule plain key values (kind.Add column amount) id bookmark o None adds before has = refl
lacks_back table rule plain key values (kind.Add column amount) id bookmark o (Some fields) adds before has =
    keys_with_sum rule (schema_of table) key fields column.0 (neg_ℤ amount) (names_no_sum table rule column.0 adds plain) ∙ has

same_contents : (t u : TableContents) → Some t ≡ Some u → t ≡ u
same_contents t u e = cc

module _ (number : ℕ) (tables : List TableContents) (sessions : List LiveState) (t : TableContents) (found : contents_with_id tables t.table.id ≡ Some t) (rule : IndexRule) (plain : IsPlainIndex (newest_table t) rule) (key : List ℕ)
    (newest : (b : List ℕ) → yields_key rule (schema_of t.table) key (row_at (rows_of_nodes (long_values t) t.nodes) b) ≡ false) where
  absent_before : (held : List HeldChange) → AllByRecursion (IsKnown number tables sessions) held → AllByRecursion (BeforeLacks t rule key) held → (b : List ℕ) → yields_key rule (schema_of t.table) key (records_before tables held t.table.id b) ≡ false
  absent_before [] known lack b = ap (λ o. yields_key rule (schema_of t.table) key (row_at (rows_of o) b)) (table_found tables t.table.id t found) ∙ newest b
  absent_before (g ∷ held) known lack b =
      ap (yields_key rule (schema_of t.table) key) (step_back number tables sessions g known.0 held t.table.id b) ∙ by ((g.table == t.table.id) && bytes_eq g.bookmark b) refl (absent_before held known.1 lack.1 b)
    where
      k : IsKnown number tables sessions g
      k = known.0

      own : (g.table == t.table.id) ≡ true → k.t ≡ t
      own e = same_contents k.t t (sym k.found ∙ ap (contents_with_id tables) (eqb-true g.table t.table.id e) ∙ found)

      back : (g.table == t.table.id) ≡ true → (after : Option RecordFields) → yields_key rule (schema_of t.table) key after ≡ false → yields_key rule (schema_of t.table) key (record_after (inverse (held_record_in (values_by_table tables) g)) after) ≡ false
      back e after has =
          ap (λ (o : Option RecordFields). yields_key rule (schema_of t.table) key (record_after (inverse_of g.kind g.table g.bookmark o) after))
          (before_is number tables sessions g k ∙ ap (λ (u : TableContents). kept_before (long_values u) g.kind g.before) (own e))
          ∙ lacks_back (newest_table t) rule plain key (long_values t) g.kind g.table g.bookmark g.before after (ap (λ (u : TableContents). adds_to_sum u.table g.kind) (sym (own e)) ∙ k.adds) (lack.0 e) has

      by : (x : Bool) → ((g.table == t.table.id) && bytes_eq g.bookmark b) ≡ x → yields_key rule (schema_of t.table) key (records_before tables held t.table.id b) ≡ false
          → yields_key rule (schema_of t.table) key (cond x (record_after (inverse (held_record_in (values_by_table tables) g)) (records_before tables held t.table.id b)) (records_before tables held t.table.id b)) ≡ false
      by true e has = back (and_left (g.table == t.table.id) (bytes_eq g.bookmark b) e) (records_before tables held t.table.id b) has
      by false e has = has

  absent_after : (held : List HeldChange) → AllByRecursion (IsKnown number tables sessions) held → AllByRecursion (BeforeLacks t rule key) held
      → AllByRecursion (λ item. changed_table item.change ≡ t.table.id → yields_key rule (schema_of t.table) key item.after ≡ false) (past_of (map (held_record_in (values_by_table tables)) held) (map newest_table tables))
  absent_after [] known lack = tt
  absent_after (g ∷ held) known lack = (
    λ own. ap (λ n. yields_key rule (schema_of t.table) key (records_before tables held n g.bookmark)) (sym (made_table g.kind g.table g.bookmark (records_before tables held g.table g.bookmark)) ∙ own) ∙ absent_before held known.1 lack.1 g.bookmark,
    absent_after held known.1 lack.1,
  )

pub record IsAbsent (tables : List TableContents) (t : TableContents) (rule : IndexRule) (key : List ℕ) (held : List HeldChange) : Type 0 where
  pub first : (b : List ℕ) → yields_key rule (schema_of t.table) key (records_before tables held t.table.id b) ≡ false
  pub after : AllByRecursion (λ item. changed_table item.change ≡ t.table.id → yields_key rule (schema_of t.table) key item.after ≡ false) (past_of (map (held_record_in (values_by_table tables)) held) (map newest_table tables))

pub unwanted : (number : ℕ) (tables : List TableContents) (sessions : List LiveState) (held : List HeldChange) → AllByRecursion (IsKnown number tables sessions) held → (t : TableContents) → contents_with_id tables t.table.id ≡ Some t
    → (rule : IndexRule) → IsPlainIndex (newest_table t) rule → (key : List ℕ) → is_named key (wanted_entries held t rule) ≡ false → IsAbsent tables t rule key held
unwanted number tables sessions held known t found rule plain key none = record {
  first = absent_before number tables sessions t found rule plain key (newest_absent held t rule key none) held known (all_lack held t rule key none);
  after = absent_after number tables sessions t found rule plain key (newest_absent held t rule key none) held known (all_lack held t rule key none);
}
