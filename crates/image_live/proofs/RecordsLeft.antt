-- Which keys a record of a table has while the held changes of an image are taken back, the newest first.
use Rattle.std.proofs.Common.{◌≡◌, ℕ, Bool, true, false, ◌&&◌, ◌||◌, cond, List, [], ◌∷◌, ◌++◌, Option, Some, None, refl, sym, ap, ◌∙◌}
use Rattle.std.specs.Prelude.{neg_ℤ, not, ◌==◌, map, is_some, option_map, bytes_eq}
use Rattle.std.specs.List.{list_any}
use Rattle.std.proofs.lemmas.Bool.{eqb-true}
use Rattle.column_set.specs.ChangedRecords.{changed_bookmark, changed_table}
use Rattle.column_set.specs.RecordValues.{RecordFields}
use Rattle.common_lemmas.proofs.Booleans.{and_left, by_test, impossible}
use Rattle.common_lemmas.proofs.Finding.{find_map}
use Rattle.common_lemmas.proofs.Numbers.{equal_bytes}
use Rattle.common_lemmas.proofs.Options.{is_some-map}
use Rattle.database_state.specs.Conflicts.{yields_key}
use Rattle.database_state.specs.SchemaChanges.{rule_columns}
use Rattle.database_state.specs.Table.{Table, schema_of, table_with_id}
use Rattle.image_findings.specs.Findings.{values_by_table}
use Rattle.image_findings.specs.LiveFindings.{adds_to_sum}
use Rattle.image_findings.specs.TableContents.{TableContents, contents_with_id, long_values, newest_table}
use Rattle.index_derive.specs.Entries.{condition_columns, is_escrow_column, key_columns}
use Rattle.index_derive.specs.declared.rules.IndexRule.{IndexRule}
use Rattle.index_derive.specs.declared.rules.Schema.{Schema}
use Rattle.laws_engine.specs.HeldRecords.{HeldRecord, inverse, inverse_of}
use Rattle.laws_images.proofs.OpenedLemmas.TakenBack.{inverse_bookmark, inverse_table, stays_before}
use Rattle.laws_images.specs.ShownStates.{tables_before}
use Rattle.laws_versions.proofs.ChangeLemmas.Projecting.{projected}
use Rattle.laws_versions.proofs.KeyLemmas.KeySums.{keys_with_sum}
use Rattle.laws_versions.specs.KeySums.{names_column}
use Rattle.laws_versions.specs.Records.{Records, is_change_of, record_after, records_of}
use Rattle.long_value.specs.Values.{Values}
use Rattle.stored_variants.specs.RecordRows.{held_record_in, record_of}
use Rattle.version_store.specs.HeldChanges.{HeldChange, is_rewrite, is_standing_rewrite}
use Rattle.version_store.specs.declared.calls.ChangeKind.{ChangeKind}
use Rattle.version_store.specs.declared.calls.ChangeKind.TheVariants as kind
use Rattle.database_state.specs.State.{is_undone}

abbrev pub one_held : List TableContents → HeldChange → HeldRecord
one_held tables h = held_record_in (values_by_table tables) h

abbrev pub shown_held : List TableContents → List HeldChange → List HeldRecord
shown_held tables held = map (one_held tables) held

-- the records once these held changes are taken back
abbrev pub records_left : List TableContents → List HeldChange → Records
records_left tables held = records_of (tables_before (shown_held tables held) (map newest_table tables))

-- What is known of a held change beside a table: its own table is there, it stands, and where it is one of the table, a sum is one of an
-- escrow column, and only what sets or removes the row has a row before it.
pub record IsTold (tables : List TableContents) (t : TableContents) (h : HeldChange) : Type 0 where
  pub there : is_some (contents_with_id tables h.table) ≡ true
  pub stands : is_undone h.status ≡ false
  pub adds : (h.table == t.table.id) ≡ true → adds_to_sum t.table h.kind ≡ true
  pub before : (h.table == t.table.id) ≡ true → is_some h.before ≡ true → is_rewrite h.kind ≡ true

-- ---- sums and keys

-- the index names no escrow column
abbrev pub NamesNoSum : IndexRule → Schema → Type 0
NamesNoSum rule schema = (c : ℕ) → is_escrow_column schema c ≡ true → names_column rule c ≡ false

pub names_no_sum : (rule : IndexRule) (schema : Schema) → list_any (is_escrow_column schema) (key_columns rule ++ condition_columns rule) ≡ false → NamesNoSum rule schema
names_no_sum rule schema none c escrow = each (rule_columns rule) none
  where
    other : (id : ℕ) → is_escrow_column schema id ≡ false → (id == c) ≡ false
    other id plain = by_test (id == c) (λ e. impossible (sym plain ∙ ap (is_escrow_column schema) (eqb-true id c e) ∙ escrow)) (λ e. e)

    or_both : (a b : Bool) → a ≡ false → b ≡ false → (a || b) ≡ false
    or_both a b e f = ap (λ x. x || b) e ∙ f

    first : (a b : Bool) → (a || b) ≡ false → a ≡ false
    first true b e = e
    first false b e = refl

    rest : (a b : Bool) → (a || b) ≡ false → b ≡ false
    rest true b e = impossible (sym e)
    rest false b e = e

    each : (ids : List ℕ) → list_any (is_escrow_column schema) ids ≡ false → list_any (λ id. id == c) ids ≡ false
    each [] e = refl
    each (id ∷ ids) e = or_both (id == c) (list_any (λ i. i == c) ids) (other id (first (is_escrow_column schema id) (list_any (is_escrow_column schema) ids) e)) (each ids (rest (is_escrow_column schema id) (list_any (is_escrow_column schema) ids) e))

-- ---- one change taken back

abbrev kept_before : Values → ChangeKind → Option (List ℕ) → Option RecordFields
kept_before values what o = cond (is_rewrite what) (option_map (record_of values) o) None

-- the keys of a record before a change are those of the row before it, or the same as behind it
keys_back : (table : Table) (rule : IndexRule) → NamesNoSum rule (schema_of table) → (key : List ℕ) (values : Values) (what : ChangeKind) (id : ℕ) (bookmark : List ℕ) (o : Option (List ℕ)) (after : Option RecordFields) → adds_to_sum table what ≡ true
    → yields_key rule (schema_of table) key (record_after (inverse_of what id bookmark (kept_before values what o)) after)
    ≡ cond (is_rewrite what) (yields_key rule (schema_of table) key (option_map (record_of values) o)) (yields_key rule (schema_of table) key after)
keys_back table rule plain key values kind.Put id bookmark None after adds = refl
keys_back table rule plain key values kind.Put id bookmark (Some row) after adds = refl
keys_back table rule plain key values kind.Drop id bookmark None after adds = refl
keys_back table rule plain key values kind.Drop id bookmark (Some row) after adds = refl
keys_back table rule plain key values kind.Hold id bookmark o after adds = refl
keys_back table rule plain key values (kind.Add column amount) id bookmark o None adds = refl
keys_back table rule plain key values (kind.Add column amount) id bookmark o (Some fields) adds = keys_with_sum rule (schema_of table) key fields column.0 (neg_ℤ amount) (plain column.0 adds)

is_there : (tables : List TableContents) (h : HeldChange) → is_some (contents_with_id tables h.table) ≡ true → (held : List HeldChange) → is_some (table_with_id (tables_before (shown_held tables held) (map newest_table tables)) h.table) ≡ true
is_there tables h there held =
    stays_before (shown_held tables held) (map newest_table tables) h.table
    ∙ ap is_some (find_map newest_table (λ (u : Table). u.id == h.table) tables)
    ∙ is_some-map newest_table (contents_with_id tables h.table)
    ∙ there

step_back : (tables : List TableContents) (g : HeldChange) → is_some (contents_with_id tables g.table) ≡ true → (held : List HeldChange) (id : ℕ) (bookmark : List ℕ)
    → records_left tables (g ∷ held) id bookmark ≡ cond ((g.table == id) && bytes_eq g.bookmark bookmark) (record_after (inverse (one_held tables g)) (records_left tables held id bookmark)) (records_left tables held id bookmark)
step_back tables g known held id bookmark =
    ap (λ (r : Records). r id bookmark) (projected (tables_before (shown_held tables held) (map newest_table tables)) (inverse (one_held tables g)) there)
    ∙ ap (λ (b : Bool). cond b (record_after (inverse (one_held tables g)) (records_left tables held id bookmark)) (records_left tables held id bookmark)) place
  where
    there : is_some (table_with_id (tables_before (shown_held tables held) (map newest_table tables)) (changed_table (inverse (one_held tables g)))) ≡ true
    there = ap (λ n. is_some (table_with_id (tables_before (shown_held tables held) (map newest_table tables)) n)) (inverse_table g.kind g.table g.bookmark (one_held tables g).before) ∙ is_there tables g known held

    place : is_change_of id bookmark (inverse (one_held tables g)) ≡ ((g.table == id) && bytes_eq g.bookmark bookmark)
    place =
        ap (λ n. (n == id) && bytes_eq (changed_bookmark (inverse (one_held tables g))) bookmark) (inverse_table g.kind g.table g.bookmark (one_held tables g).before)
        ∙ ap (λ (b : List ℕ). (g.table == id) && bytes_eq b bookmark) (inverse_bookmark g.kind g.table g.bookmark (one_held tables g).before)

and_true : (b : Bool) → (b && true) ≡ b
and_true true = refl
and_true false = refl

before_is : (tables : List TableContents) (t : TableContents) (g : HeldChange) → contents_with_id tables g.table ≡ Some t → is_undone g.status ≡ false → (one_held tables g).before ≡ kept_before (long_values t) g.kind g.before
before_is tables t g found stands =
    ap (λ (values : Values). cond (is_rewrite g.kind && not (is_undone g.status)) (option_map (record_of values) g.before) None) (ap (λ (o : Option TableContents). elim o [ Some u ↦ long_values u | None ↦ [] ]) found)
    ∙ ap (λ b. cond (is_rewrite g.kind && not b) (option_map (record_of (long_values t)) g.before) None) stands
    ∙ ap (λ b. cond b (option_map (record_of (long_values t)) g.before) None) (and_true (is_rewrite g.kind))

-- whether a record has a key once some changes are taken back
abbrev pub has_left : List TableContents → TableContents → IndexRule → List ℕ → List HeldChange → List ℕ → Bool
has_left tables t rule key held b = yields_key rule (schema_of t.table) key (records_left tables held t.table.id b)

-- One more change taken back: it sets or removes the row of the record, which has the keys of the row before it, or they stay.
pub left_step : (tables : List TableContents) (t : TableContents) → contents_with_id tables t.table.id ≡ Some t → (rule : IndexRule) → NamesNoSum rule (schema_of t.table) → (key : List ℕ) (g : HeldChange) → IsTold tables t g → (held : List HeldChange) (b : List ℕ)
    → has_left tables t rule key (g ∷ held) b ≡ cond (is_standing_rewrite t.table.id b g) (yields_key rule (schema_of t.table) key (option_map (record_of (long_values t)) g.before)) (has_left tables t rule key held b)
left_step tables t found rule plain key g told held b =
    ap (yields_key rule (schema_of t.table) key) (step_back tables g told.there held t.table.id b)
    ∙ by ((g.table == t.table.id) && bytes_eq g.bookmark b) refl
  where
    after : Option RecordFields
    after = records_left tables held t.table.id b

    row : Bool
    row = yields_key rule (schema_of t.table) key (option_map (record_of (long_values t)) g.before)

    own : (g.table == t.table.id) ≡ true → contents_with_id tables g.table ≡ Some t
    own e = ap (contents_with_id tables) (eqb-true g.table t.table.id e) ∙ found

    back : (g.table == t.table.id) ≡ true → yields_key rule (schema_of t.table) key (record_after (inverse (one_held tables g)) after) ≡ cond (is_rewrite g.kind) row (yields_key rule (schema_of t.table) key after)
    back e =
        ap (λ (o : Option RecordFields). yields_key rule (schema_of t.table) key (record_after (inverse_of g.kind g.table g.bookmark o) after)) (before_is tables t g (own e) told.stands)
        ∙ keys_back t.table rule plain key (long_values t) g.kind g.table g.bookmark g.before after (told.adds e)

    by : (x : Bool) → ((g.table == t.table.id) && bytes_eq g.bookmark b) ≡ x
        → yields_key rule (schema_of t.table) key (cond x (record_after (inverse (one_held tables g)) after) after) ≡ cond (is_standing_rewrite t.table.id b g) row (yields_key rule (schema_of t.table) key after)
    by true e =
        back (and_left (g.table == t.table.id) (bytes_eq g.bookmark b) e)
        ∙ sym (ap (λ y. cond ((y && is_rewrite g.kind) && not (is_undone g.status)) row (yields_key rule (schema_of t.table) key after)) e
        ∙ ap (λ y. cond (is_rewrite g.kind && not y) row (yields_key rule (schema_of t.table) key after)) told.stands
        ∙ ap (λ y. cond y row (yields_key rule (schema_of t.table) key after)) (and_true (is_rewrite g.kind)))
    by false e = sym (ap (λ y. cond ((y && is_rewrite g.kind) && not (is_undone g.status)) row (yields_key rule (schema_of t.table) key after)) e)

-- ---- what a change of the table leaves, and what was before it

pub after_left : (tables : List TableContents) (t : TableContents) (rule : IndexRule) (key : List ℕ) (g : HeldChange) (held : List HeldChange) → (g.table == t.table.id) ≡ true
    → yields_key rule (schema_of t.table) key (records_left tables held g.table g.bookmark) ≡ has_left tables t rule key held g.bookmark
after_left tables t rule key g held own = ap (λ n. yields_key rule (schema_of t.table) key (records_left tables held n g.bookmark)) (eqb-true g.table t.table.id own)

pub before_left : (tables : List TableContents) (t : TableContents) (rule : IndexRule) (key : List ℕ) (g : HeldChange) → IsTold tables t g → (held : List HeldChange) → (g.table == t.table.id) ≡ true
    → yields_key rule (schema_of t.table) key (record_after (inverse (one_held tables g)) (records_left tables held g.table g.bookmark)) ≡ has_left tables t rule key (g ∷ held) g.bookmark
before_left tables t rule key g told held own =
    ap (λ n. yields_key rule (schema_of t.table) key (record_after (inverse (one_held tables g)) (records_left tables held n g.bookmark))) (eqb-true g.table t.table.id own)
    ∙ sym (ap (yields_key rule (schema_of t.table) key) (step_back tables g told.there held t.table.id g.bookmark)
    ∙ ap (λ b. yields_key rule (schema_of t.table) key (cond b (record_after (inverse (one_held tables g)) (records_left tables held t.table.id g.bookmark)) (records_left tables held t.table.id g.bookmark))) (and_both (g.table == t.table.id) (bytes_eq g.bookmark g.bookmark) own (equal_bytes g.bookmark g.bookmark refl)))
  where
    and_both : (a b : Bool) → a ≡ true → b ≡ true → (a && b) ≡ true
    and_both a b e f = ap (λ x. x && b) e ∙ f
