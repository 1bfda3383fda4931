-- What a put asks of the trees and of the held changes, in a store.
use Rattle.std.proofs.Common.{◌≡◌, ℕ, Bool, true, false, not, ◌&&◌, ◌||◌, cond, List, [], ◌∷◌, filter, find, map, Option, Some, None, option_map, refl, sym, ap, subst, ◌∙◌}
use Rattle.std.specs.Prelude.{◌==◌, IfSome, IsOk, unwrap_or}
use Rattle.std.specs.List.{AllByRecursion, list_any}
use Rattle.std.proofs.lemmas.Bool.{eqb-true}
use Rattle.common_lemmas.proofs.Booleans.{and_left, and_right, impossible}
use Rattle.common_lemmas.proofs.Lists.{all_append, all_filter}
use Rattle.common_lemmas.proofs.Numbers.{self_equal}
use Rattle.column_set.specs.RecordValues.{RecordFields, record_fits}
use Rattle.cursor_nav.specs.Places.{are_sorted}
use Rattle.database_state.specs.Conflicts.{yields_key}
use Rattle.database_state.specs.Lawful.{is_indexable}
use Rattle.database_state.specs.Table.{Table, row_at, schema_of, table_with_id}
use Rattle.laws_versions.specs.KeptEntries.{has_entry}
use Rattle.index_derive.specs.declared.rules.IndexRule.{IndexRule}
use Rattle.index_derive.specs.Entries.{entries}
use Rattle.page_image.specs.Page.{Node}
use Rattle.table_trees.specs.StoredNodes.{bookmark_entries}
use Rattle.table_trees.specs.StoredTables.{StoredIndex, StoredTable, index_entries, is_table, table_indexes, table_nodes}
use Rattle.version_store.specs.HeldChanges.{HeldChange, is_rewrite, is_standing}
use Rattle.laws_engine.specs.HeldRecords.{HeldRecord, is_change_at, is_standing_rewrite}
use Rattle.laws_engine.specs.Variants.{HoldsVariants, is_variant_key}
use Rattle.stored_variants.specs.PutRecords.{HasKeysOf}
use Rattle.variant_trees.specs.GoneKeys.{AreRows, held_from, index_numbers}
use Rattle.variant_trees.specs.PutStages.{AreKeysOfRecords, CanTake, HasVariantKeys, IsKeyOfRecord}
use Rattle.stored_variants.specs.RecordRows.{TableValues, held_record_in, record_of, row_under, rows_of_nodes}
use Rattle.stored_variants.specs.VersionsKept.{AreKeptWith, IsKeptChange, IsKeptTable, IsRowUnder, IsStoredRule, needed_trees, only_secondary, secondary_rule, secondary_rules, tree_numbers}
use Rattle.stored_variants.proofs.FoundRules.{list_any_numbers}
use Rattle.stored_variants.proofs.NodeRecords.{record_at}
use Rattle.table_versions.proofs.SeenRecords.{before_is_row}
use Rattle.stored_variants.proofs.Tables.{found_number}
use Rattle.long_value.specs.Values.{Values}
use Rattle.stored_variants.proofs.TakenRecords.{record_taken}
use Rattle.stored_variants.proofs.SameRecords.{AreInOrder}

-- ---- indexes that take a record

all_have : (table : Table) (values : RecordFields) (rules : List IndexRule) → AllByRecursion (IsStoredRule table) rules → AllByRecursion (λ rule. IsOk (entries rule (schema_of table) values)) rules → AllByRecursion (HasKeysOf (schema_of table) values) rules
all_have table values [] stored taken = tt
all_have table values (rule ∷ rules) stored taken =
    (record { found = stored.0.found; legal = stored.0.legal; short = stored.0.short; taken = taken.0 }, all_have table values rules stored.1 taken.1)

-- in the order of the schema
by_schema : (P : IndexRule → Type 0) (table : Table) → AllByRecursion P table.indexes → AllByRecursion P (schema_of table).indexes
by_schema P table all =
    all_append P (filter (λ r. r.flags.primary) table.indexes) (filter (λ r. not r.flags.primary) table.indexes)
    (all_filter P (λ r. r.flags.primary) table.indexes all) (all_filter P (λ r. not r.flags.primary) table.indexes all)

pub rules_take : (table : Table) (values : RecordFields) → AllByRecursion (IsStoredRule table) table.indexes → is_indexable (schema_of table) values ≡ true → AllByRecursion (HasKeysOf (schema_of table) values) (schema_of table).indexes
rules_take table values stored taken =
    all_have table values (schema_of table).indexes (by_schema (IsStoredRule table) table stored) (record_taken (schema_of table) values (schema_of table).indexes taken)

-- ---- the trees of a table

abbrev first_pair : List (ℕ × List ℕ) → ℕ × List ℕ
first_pair [] = (0, [])
first_pair (x ∷ xs) = x

abbrev other_pairs : List (ℕ × List ℕ) → List (ℕ × List ℕ)
other_pairs [] = []
other_pairs (x ∷ xs) = xs

abbrev is_empty : List (ℕ × List ℕ) → Bool
is_empty [] = true
is_empty (x ∷ xs) = false

abbrev rule_numbers : List IndexRule → List ℕ
rule_numbers rules = map (λ (rule : IndexRule). rule.id.0) rules

needed_indexes : (trees : List StoredTable) (tables : List Table) (id : ℕ) (t : Table) → map tree_numbers trees ≡ map needed_trees tables → table_with_id tables id ≡ Some t → index_numbers trees id ≡ rule_numbers (secondary_rules t)
needed_indexes trees [] id t same found = cc
needed_indexes [] (x ∷ tables) id t same found = impossible (sym (ap is_empty same))
needed_indexes (y ∷ trees) (x ∷ tables) id t same found = by (x.id == id) refl found (needed_indexes trees tables id t (ap other_pairs same))
  where
    by : (b : Bool) → (x.id == id) ≡ b → cond b (Some x) (table_with_id tables id) ≡ Some t → (table_with_id tables id ≡ Some t → index_numbers trees id ≡ rule_numbers (secondary_rules t))
        → index_numbers (y ∷ trees) id ≡ rule_numbers (secondary_rules t)
    by true e is rest =
        ap (λ (b : Bool). map (λ (i : StoredIndex). i.0) (unwrap_or (option_map (λ (z : StoredTable). z.indexes) (cond b (Some y) (find (is_table id) trees))) [])) (ap (λ (p : ℕ × List ℕ). p.0 == id) (ap first_pair same) ∙ e)
        ∙ ap (λ (p : ℕ × List ℕ). p.1) (ap first_pair same)
        ∙ ap (λ (o : Option Table). rule_numbers (secondary_rules (unwrap_or o x))) is
    by false e is rest =
        ap (λ (b : Bool). map (λ (i : StoredIndex). i.0) (unwrap_or (option_map (λ (z : StoredTable). z.indexes) (cond b (Some y) (find (is_table id) trees))) [])) (ap (λ (p : ℕ × List ℕ). p.0 == id) (ap first_pair same) ∙ e)
        ∙ rest is

-- a rule that has a tree, where it is not the primary one
abbrev HasTree : List ℕ → IndexRule → Type 0
HasTree numbers rule = rule.flags.primary ≡ false → list_any (λ n. n == rule.id.0) numbers ≡ true

primary_rules : (numbers : List ℕ) (rules : List IndexRule) → AllByRecursion (HasTree numbers) (filter (λ r. r.flags.primary) rules)
primary_rules numbers [] = tt
primary_rules numbers (r ∷ rules) = by r.flags.primary refl (primary_rules numbers rules)
  where
    by : (b : Bool) → r.flags.primary ≡ b → AllByRecursion (HasTree numbers) (filter (λ r. r.flags.primary) rules) → AllByRecursion (HasTree numbers) (cond b (r ∷ filter (λ r. r.flags.primary) rules) (filter (λ r. r.flags.primary) rules))
    by true e rest = (λ secondary. impossible (sym secondary ∙ e), rest)
    by false e rest = rest

own_trees : (all rules : List IndexRule) → ((n : ℕ) → list_any (λ m. m == n) (rule_numbers rules) ≡ true → list_any (λ m. m == n) (rule_numbers all) ≡ true) → AllByRecursion (HasTree (rule_numbers all)) rules
own_trees all [] within = tt
own_trees all (r ∷ rules) within = (
  λ secondary. within r.id.0 (ap (λ b. b || list_any (λ m. m == r.id.0) (rule_numbers rules)) (self_equal r.id.0)),
  own_trees all rules (λ n e. within n (later (r.id.0 == n) (list_any (λ m. m == n) (rule_numbers rules)) e)),
)
  where
    later : (a b : Bool) → b ≡ true → (a || b) ≡ true
    later true b e = refl
    later false b e = e

have_trees : (t : Table) → AllByRecursion (HasTree (rule_numbers (secondary_rules t))) (schema_of t).indexes
have_trees t =
    all_append (HasTree (rule_numbers (secondary_rules t))) (filter (λ r. r.flags.primary) t.indexes) (secondary_rules t)
    (primary_rules (rule_numbers (secondary_rules t)) t.indexes) (own_trees (secondary_rules t) (secondary_rules t) (λ n e. e))

-- ---- keys of records

-- the record before a held change fits the columns
abbrev FitsBefore : Table → HeldRecord → Type 0
FitsBefore t change = (change.table == t.id) ≡ true → IfSome change.before (λ values. record_fits t.columns values ≡ true)

before_fits : (longs : TableValues) (tables : List Table) (trees : List StoredTable) (id : ℕ) (t : Table) → table_with_id tables id ≡ Some t → (held : List HeldChange) → AllByRecursion (IsKeptChange longs tables trees) held → AllByRecursion (FitsBefore t) (map (held_record_in longs) held)
before_fits longs tables trees id t found [] kept = tt
before_fits longs tables trees id t found (h ∷ held) kept = (λ same. fits same (is_standing h) refl, before_fits longs tables trees id t found held kept.1)
  where
    under : (h.table == t.id) ≡ true → is_standing h ≡ true → IfSome h.before (IsRowUnder (longs h.table) t h.bookmark)
    under same standing =
        subst (λ (o : Option Table). IfSome o (λ table. IfSome h.before (IsRowUnder (longs h.table) table h.bookmark))) (ap (table_with_id tables) (eqb-true h.table t.id same ∙ found_number id tables t found) ∙ found) (kept.0.before standing)

    fit : (row : Option (List ℕ)) → IfSome row (IsRowUnder (longs h.table) t h.bookmark) → IfSome (option_map (record_of (longs h.table)) row) (λ values. record_fits t.columns values ≡ true)
    fit None is = tt
    fit (Some row) is = is.fits.columns

    fits : (h.table == t.id) ≡ true → (b : Bool) → is_standing h ≡ b → IfSome (cond b (option_map (record_of (longs h.table)) h.before) None) (λ values. record_fits t.columns values ≡ true)
    fits same true standing = fit h.before (under same standing)
    fits same false standing = tt

key_of : (rule : IndexRule) (t : Table) (key : List ℕ) (o : Option RecordFields) → IfSome o (λ values. record_fits t.columns values ≡ true) → yields_key rule (schema_of t) key o ≡ true → IsKeyOfRecord rule (schema_of t) key
key_of rule t key None fits e = impossible e
key_of rule t key (Some values) fits e = (values, fits, e)

key_before : (rule : IndexRule) (t : Table) (key own : List ℕ) (held : List HeldRecord) → AllByRecursion (FitsBefore t) held → list_any (λ (change : HeldRecord). is_standing_rewrite t.id own change && yields_key rule (schema_of t) key change.before) held ≡ true
    → IsKeyOfRecord rule (schema_of t) key
key_before rule t key own [] fits e = impossible e
key_before rule t key own (c ∷ held) fits e = by (is_standing_rewrite t.id own c && yields_key rule (schema_of t) key c.before) refl e (key_before rule t key own held fits.1)
  where
    by : (b : Bool) → (is_standing_rewrite t.id own c && yields_key rule (schema_of t) key c.before) ≡ b → (b || list_any (λ (change : HeldRecord). is_standing_rewrite t.id own change && yields_key rule (schema_of t) key change.before) held) ≡ true
        → (list_any (λ (change : HeldRecord). is_standing_rewrite t.id own change && yields_key rule (schema_of t) key change.before) held ≡ true → IsKeyOfRecord rule (schema_of t) key) → IsKeyOfRecord rule (schema_of t) key
    by true h e rest =
        key_of rule t key c.before
        (fits.0 (and_left (c.table == t.id) _ (and_left (is_change_at t.id own c) _ (and_left (is_change_at t.id own c && is_rewrite c.kind) _ (and_left (is_standing_rewrite t.id own c) _ h)))))
        (and_right (is_standing_rewrite t.id own c) _ h)
    by false h e rest = rest e

newest_fits : (vals : Values) (t : Table) (own : List ℕ) (row : Option (List ℕ)) → IfSome row (IsRowUnder vals t own) → IfSome (option_map (record_of vals) row) (λ values. record_fits t.columns values ≡ true)
newest_fits vals t own None is = tt
newest_fits vals t own (Some row) is = is.fits.columns

keys_are_of_records : (longs : TableValues) (trees : List StoredTable) (t : Table) (held : List HeldRecord) → are_sorted (bookmark_entries (table_nodes trees t.id)) ≡ true → AllByRecursion (FitsBefore t) held → IsKeptTable trees (longs t.id) (table_nodes trees t.id) held t
    → (rule : IndexRule) (index : ℕ) → secondary_rule t index ≡ Some rule → AreKeysOfRecords rule (schema_of t) (index_entries trees t.id index)
keys_are_of_records longs trees t held sorted fits kept rule index found key own there =
    by (row_at (rows_of_nodes (longs t.id) nodes) own) newest (yields_key rule (schema_of t) key (row_at (rows_of_nodes (longs t.id) nodes) own)) refl (sym (holds key own) ∙ there)
  where
    nodes : List Node
    nodes = table_nodes trees t.id

    holds : HoldsVariants (rows_of_nodes (longs t.id) nodes) held rule (schema_of t) t.id (index_entries trees t.id index)
    holds = subst (λ (o : Option IndexRule). IfSome o (λ rule. HoldsVariants (rows_of_nodes (longs t.id) nodes) held rule (schema_of t) t.id (index_entries trees t.id index))) found (kept.entries index)

    newest : IfSome (row_at (rows_of_nodes (longs t.id) nodes) own) (λ values. record_fits t.columns values ≡ true)
    newest = subst (λ (o : Option RecordFields). IfSome o (λ values. record_fits t.columns values ≡ true)) (sym (record_at (longs t.id) nodes sorted own)) (newest_fits (longs t.id) t own (row_under nodes own) (kept.rows own))

    by : (o : Option RecordFields) → IfSome o (λ values. record_fits t.columns values ≡ true) → (b : Bool) → yields_key rule (schema_of t) key o ≡ b → (b || list_any (λ (change : HeldRecord). is_standing_rewrite t.id own change && yields_key rule (schema_of t) key change.before) held) ≡ true
        → IsKeyOfRecord rule (schema_of t) key
    by o is true e h = key_of rule t key o is e
    by o is false e h = key_before rule t key own held fits h

-- ---- in a store

can_take_all : (longs : TableValues) (trees : List StoredTable) (t : Table) (held : List HeldRecord) (values : RecordFields) → are_sorted (bookmark_entries (table_nodes trees t.id)) ≡ true → AllByRecursion (FitsBefore t) held → IsKeptTable trees (longs t.id) (table_nodes trees t.id) held t
    → index_numbers trees t.id ≡ rule_numbers (secondary_rules t) → (rules : List IndexRule) → AllByRecursion (HasKeysOf (schema_of t) values) rules → AllByRecursion (HasTree (rule_numbers (secondary_rules t))) rules
    → AllByRecursion (CanTake (schema_of t) values t.id trees) rules
can_take_all longs trees t held values sorted fits kept numbers [] has tree = tt
can_take_all longs trees t held values sorted fits kept numbers (r ∷ rules) has tree = (
  record {
    keys = has.0;
    there = λ secondary. list_any_numbers r.id.0 (table_indexes trees t.id) ∙ ap (list_any (λ n. n == r.id.0)) numbers ∙ tree.0 secondary;
    derived = λ secondary. keys_are_of_records longs trees t held sorted fits kept r r.id.0 (ap only_secondary has.0.found ∙ ap (λ b. cond b None (Some r)) secondary);
  },
  can_take_all longs trees t held values sorted fits kept numbers rules has.1 tree.1,
)

pub own_kept : (longs : TableValues) (tables : List Table) (trees : List StoredTable) (held : List HeldChange) → AreKeptWith longs tables trees held → (id : ℕ) (t : Table) → table_with_id tables id ≡ Some t → IsKeptTable trees (longs id) (table_nodes trees id) (map (held_record_in longs) held) t
own_kept longs tables trees held kept id t found = subst (λ (o : Option Table). IfSome o (IsKeptTable trees (longs id) (table_nodes trees id) (map (held_record_in longs) held))) found (kept.each id)

-- what a put asks, of the table of this number
pub record PutAsks (longs : TableValues) (tables : List Table) (trees : List StoredTable) (held : List HeldChange) (id : ℕ) (t : Table) (bookmark : List ℕ) (values : RecordFields) : Type 0 where
  pub rules : AllByRecursion (HasKeysOf (schema_of t) values) (schema_of t).indexes
  pub take : AllByRecursion (CanTake (schema_of t) values id trees) (schema_of t).indexes
  pub keys : HasVariantKeys (option_map (record_of (longs id)) (row_under (table_nodes trees id) bookmark)) (held_from longs 0 held) (schema_of t) id bookmark trees

variant_keys : (longs : TableValues) (trees : List StoredTable) (t : Table) (held : List HeldChange) (bookmark : List ℕ) → are_sorted (bookmark_entries (table_nodes trees t.id)) ≡ true → IsKeptTable trees (longs t.id) (table_nodes trees t.id) (map (held_record_in longs) held) t
    → HasVariantKeys (option_map (record_of (longs t.id)) (row_under (table_nodes trees t.id) bookmark)) (map (held_record_in longs) held) (schema_of t) t.id bookmark trees
variant_keys longs trees t held bookmark sorted kept index = by (secondary_rule t index) (kept.entries index)
  where
    by : (o : Option IndexRule) → IfSome o (λ rule. HoldsVariants (rows_of_nodes (longs t.id) (table_nodes trees t.id)) (map (held_record_in longs) held) rule (schema_of t) t.id (index_entries trees t.id index))
        → IfSome o (λ rule. (key : List ℕ) → has_entry key bookmark (index_entries trees t.id index) ≡ is_variant_key (option_map (record_of (longs t.id)) (row_under (table_nodes trees t.id) bookmark)) (map (held_record_in longs) held) rule (schema_of t) t.id key bookmark)
    by None holds = tt
    by (Some rule) holds = λ key. holds key bookmark ∙ ap (λ newest. is_variant_key newest (map (held_record_in longs) held) rule (schema_of t) t.id key bookmark) (record_at (longs t.id) (table_nodes trees t.id) sorted bookmark)

pub put_asks : (longs : TableValues) (tables : List Table) (trees : List StoredTable) (held : List HeldChange) → AreKeptWith longs tables trees held → AreInOrder trees → (id : ℕ) (t : Table) → table_with_id tables id ≡ Some t → (bookmark : List ℕ) (values : RecordFields) → is_indexable (schema_of t) values ≡ true
    → PutAsks longs tables trees held id t bookmark values
put_asks longs tables trees held kept sorted id t found bookmark values indexable =
    subst (λ (n : ℕ). PutAsks longs tables trees held n t bookmark values) number (record {
      rules = rules;
      take = can_take_all longs trees t (map (held_record_in longs) held) values (sorted t.id) (before_fits longs tables trees id t found held kept.changes) own (needed_indexes trees tables t.id t kept.numbers at) (schema_of t).indexes rules (have_trees t);
      keys = variant_keys longs trees t held bookmark (sorted t.id) own;
    })
  where
    number : t.id ≡ id
    number = found_number id tables t found

    at : table_with_id tables t.id ≡ Some t
    at = ap (table_with_id tables) number ∙ found

    own : IsKeptTable trees (longs t.id) (table_nodes trees t.id) (map (held_record_in longs) held) t
    own = own_kept longs tables trees held kept t.id t at

    rules : AllByRecursion (HasKeysOf (schema_of t) values) (schema_of t).indexes
    rules = rules_take t values own.rules indexable

-- the rows before held changes are spelled as records
pub are_rows : (longs : TableValues) (tables : List Table) (trees : List StoredTable) (held : List HeldChange) → AllByRecursion (IsKeptChange longs tables trees) held → AreRows longs held
are_rows longs tables trees [] kept = tt
are_rows longs tables trees (h ∷ held) kept =
    (λ standing. before_is_row (longs h.table) (table_with_id tables h.table) h.bookmark h.before kept.0.named (kept.0.before standing), are_rows longs tables trees held kept.1)
