-- The indexes of the engine that is made of a consistent image are over columns that are there and are no sums.
use Rattle.std.proofs.Common.{◌≡◌, ℕ, Bool, true, false, ◌&&◌, ◌||◌, List, [], ◌∷◌, Option, Some, None, refl, sym, ap, ◌∙◌}
use Rattle.std.specs.Prelude.{not, cond, ◌==◌, nat_le, map, filter, length, count_by, is_some, bytes_eq, IfSome, ◌++◌}
use Rattle.std.specs.List.{AllByRecursion, list_all, list_any}
use Rattle.column_set.specs.declared.columns.Column.{Column}
use Rattle.column_set.specs.RecordValues.{column_of_id}
use Rattle.catalog_grammar.specs.Catalogs.{CatalogTable}
use Rattle.common_lemmas.proofs.Booleans.{and_left, and_right, impossible}
use Rattle.common_lemmas.proofs.Lists.{all_stronger, all_weaker}
use Rattle.database_state.specs.Lawful.{is_name}
use Rattle.database_state.specs.SchemaChanges.{has_column, rule_columns}
use Rattle.database_state.specs.Table.{Table, schema_of, table_with_id}
use Rattle.index_derive.specs.declared.rules.IndexRule.{IndexRule}
use Rattle.index_derive.specs.declared.rules.Schema.{Schema}
use Rattle.index_derive.specs.Entries.{condition_columns, has_double_number, is_escrow_column, is_legal, is_legal_primary, is_legal_tuples, is_multi_column, key_columns}
use Rattle.laws_images.specs.SoundStates.{is_sound_index}
use Rattle.laws_versions.specs.KeySums.{IsPlainIndex, is_plain_column}
use Rattle.page_space.specs.Frames.{Frames}
use Rattle.image_findings.specs.CatalogFindings.{has_sound_columns, has_sound_indexes, is_sound_catalog, is_sound_table, table_of}
use Rattle.image_findings.specs.CatalogFindings.{differ}
use Rattle.laws_engine.specs.ColumnNumbers.{has_own_numbers}
use Rattle.image_findings.proofs.Lists.{each_passes, if_found}
use Rattle.image_findings.proofs.Tables.{shown, shown_tests, sound_tables}

-- ---- what a legal index asks

fifth : (a s b c d e f : Bool) → (a && s && b && c && d && e && f) ≡ true → s ≡ true
fifth a s b c d e f h =
    and_right a s (and_left (a && s) b (and_left (a && s && b) c (and_left (a && s && b && c) d (and_left (a && s && b && c && d) e (and_left (a && s && b && c && d && e) f h)))))

names_no_sum : (rule : IndexRule) (schema : Schema) → is_legal rule schema ≡ true → not (list_any (is_escrow_column schema) (rule_columns rule)) ≡ true
unfolding is_legal
names_no_sum rule schema h =
    fifth (nat_le 1 (length rule.segments) && nat_le (length rule.segments) 12 && not (has_double_number (key_columns rule)) && nat_le (length rule.conditions) 12)
    (not (list_any (is_escrow_column schema) (key_columns rule ++ condition_columns rule))) (nat_le 255 rule.key_most) (nat_le rule.key_most 500)
    (not rule.flags.primary || is_legal_primary rule schema) (not rule.flags.crossproduct || nat_le (count_by (is_multi_column schema) (key_columns rule)) 2) (not rule.flags.tuples || is_legal_tuples rule schema) h

-- ---- columns

there_is : (columns : List Column) (id : ℕ) → list_any (λ c. c.id.0 == id) columns ≡ is_some (column_of_id columns id)
there_is [] id = refl
there_is (c ∷ columns) id = by (c.id.0 == id) (there_is columns id)
  where
    by : (b : Bool) → list_any (λ c. c.id.0 == id) columns ≡ is_some (column_of_id columns id) → (b || list_any (λ c. c.id.0 == id) columns) ≡ is_some (cond b (Some c) (column_of_id columns id))
    by true e = refl
    by false e = e

plain_column : (t : Table) (id : ℕ) → has_column t id ≡ true → is_escrow_column (schema_of t) id ≡ false → is_plain_column t id ≡ true
plain_column t id has plain = by (column_of_id t.columns id) (sym (there_is t.columns id) ∙ has) plain
  where
    by : (o : Option Column) → is_some o ≡ true → elim o [ Some column ↦ column.escrow | None ↦ false ] ≡ false → elim o [ Some column ↦ not column.escrow | None ↦ false ] ≡ true
    by None e p = e
    by (Some column) e p = ap not p

plain_columns : (t : Table) (ids : List ℕ) → list_all (has_column t) ids ≡ true → not (list_any (is_escrow_column (schema_of t)) ids) ≡ true → AllByRecursion (λ id. is_plain_column t id ≡ true) ids
plain_columns t [] has plain = tt
plain_columns t (id ∷ ids) has plain = by (is_escrow_column (schema_of t) id) refl plain (plain_columns t ids (and_right (has_column t id) (list_all (has_column t) ids) has))
  where
    by : (b : Bool) → is_escrow_column (schema_of t) id ≡ b → not (b || list_any (is_escrow_column (schema_of t)) ids) ≡ true → (not (list_any (is_escrow_column (schema_of t)) ids) ≡ true → AllByRecursion (λ id. is_plain_column t id ≡ true) ids)
        → AllByRecursion (λ id. is_plain_column t id ≡ true) (id ∷ ids)
    by true e p rest = impossible p
    by false e p rest = (plain_column t id (and_left (has_column t id) (list_all (has_column t) ids) has) e, rest p)

-- ---- indexes

plain_index : (t : Table) (rule : IndexRule) → is_sound_index t rule ≡ true → IsPlainIndex t rule
plain_index t rule h =
    let named = is_name rule.name && nat_le 1 rule.id.0 in
    plain_columns t (rule_columns rule)
    (and_right named (list_all (has_column t) (rule_columns rule)) (and_left (named && list_all (has_column t) (rule_columns rule)) (is_legal rule (schema_of t)) h))
    (names_no_sum rule (schema_of t) (and_right (named && list_all (has_column t) (rule_columns rule)) (is_legal rule (schema_of t)) h))

abbrev pub are_sound_indexes : Table → Bool
are_sound_indexes t = list_all (is_sound_index t) t.indexes

pub sound_indexes : (t : Table) → is_sound_table t ≡ true → are_sound_indexes t ≡ true
sound_indexes t h =
    and_left (are_sound_indexes t)
    ((differ (λ (r s : IndexRule). bytes_eq r.name s.name) t.indexes && differ (λ (r s : IndexRule). r.order == s.order) t.indexes) && (nat_le (length t.indexes) 64 && nat_le (length (filter (λ (r : IndexRule). r.flags.primary) t.indexes)) 1))
    (and_right (has_sound_columns t) (has_sound_indexes t) (and_right (has_own_numbers t) (has_sound_columns t && has_sound_indexes t) h))

pub plain_table : (t : Table) → are_sound_indexes t ≡ true → AllByRecursion (IsPlainIndex t) t.indexes
plain_table t h = all_weaker (λ rule. is_sound_index t rule ≡ true) (IsPlainIndex t) (plain_index t) t.indexes (each_passes (is_sound_index t) t.indexes h)

pub plain_indexes : (frames : Frames) (greatest : ℕ) (xs : List CatalogTable) → is_sound_catalog greatest (map table_of xs) ≡ true → (id : ℕ) → IfSome (table_with_id (shown frames xs) id) (λ t. AllByRecursion (IsPlainIndex t) t.indexes)
plain_indexes frames greatest xs h id =
    if_found (λ t. AllByRecursion (IsPlainIndex t) t.indexes) (λ t. t.id == id) (shown frames xs)
    (all_weaker (λ t. are_sound_indexes t ≡ true) (λ t. AllByRecursion (IsPlainIndex t) t.indexes) plain_table (shown frames xs)
    (each_passes are_sound_indexes (shown frames xs) (shown_tests frames are_sound_indexes (λ x. refl) xs (all_stronger is_sound_table are_sound_indexes sound_indexes (map table_of xs) (sound_tables greatest (map table_of xs) h)))))
