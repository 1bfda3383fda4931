-- The oldest held change is forgotten.
use Rattle.std.proofs.Common.{◌≡◌, ℕ, ◌<◌, ◌≤◌, zero, suc, ◌+◌, Bool, true, false, not, ◌&&◌, ◌||◌, ◌⊎◌, inl, inr, cond, List, [], ◌∷◌, length, take, drop, Option, Some, None, find, filter, map, option_map, refl, sym, ap, subst, ◌∙◌, arith}
use Rattle.std.specs.Prelude.{◌==◌, IfSome, IsOk, MatchOption, is_some, nat_lt, slice_get, sum_by, IsSome}
use Rattle.std.specs.List.{AllByRecursion, list_any}
use Rattle.column_set.specs.RecordValues.{RecordFields}
use Rattle.database_state.specs.Conflicts.{yields_key}
use Rattle.database_state.specs.Lawful.{is_indexable}
use Rattle.database_state.specs.State.{is_undone}
use Rattle.database_state.specs.Table.{Table, row_at, schema_of, table_with_id}
use Rattle.index_derive.specs.Schemas.{primary_rule, rule_with_id}
use Rattle.laws_versions.specs.KeptEntries.{has_entry}
use Rattle.index_derive.specs.declared.rules.IndexRule.{IndexRule}
use Rattle.index_derive.specs.declared.rules.Schema.{Schema}
use Rattle.index_derive.specs.Entries.{entries, is_legal, primary_key}
use Rattle.jet_catalog.specs.Catalog.{CatalogState, IsNumbered, ids_rise}
use Rattle.page_image.specs.Page.{Node}
use Rattle.table_trees.specs.StoredTables.{StoredTable, index_entries, table_long_values, table_nodes}
use Rattle.version_store.specs.HeldChanges.{HeldChange, is_rewrite, is_standing}
use Rattle.laws_engine.specs.HeldRecords.{HeldRecord, is_standing_rewrite}
use Rattle.laws_engine.specs.Variants.{HoldsVariants, has_variant, is_variant_key}
use Rattle.stored_variants.specs.PutRecords.{HasKeysOf}
use Rattle.stored_variants.specs.RecordRows.{TableValues, some_before, IsRecordRow, held_record_in, record_of, rows_of_nodes}
use Rattle.variant_trees.specs.GoneKeys.{AreRows, KeepsValues, is_gone_key}
use Rattle.variant_trees.specs.LeftVariants.{AreLeft, DistinctIds, IsForgotten, IsLeft, first_table, is_this}
use Rattle.stored_variants.specs.VersionsKept.{AreKept, AreKeptWith, IsBookmarkOf, IsKeptChange, IsKeptTable, IsRowUnder, IsStoredRule, secondary_rule}
use Rattle.stored_variants.proofs.ChangesKept.{SameVariants, changes_kept}
use Rattle.column_set.specs.RowReading.{row_in}
use Rattle.table_trees.specs.ValuesChanged.{HasLongValues}
use Rattle.long_rows.specs.ReferenceCounts.{HasCounts, NewestRows, RowBefore, identifiers_before, references_before, with_all_released}
use Rattle.long_rows.specs.RowReferences.{identifiers, references}
use Rattle.long_rows.specs.RowsInUse.{before}
use Rattle.long_value.specs.Values.{Values, value_of}
use Rattle.std.proofs.lemmas.List.Sums.{sum_by-cons}
use Rattle.std.proofs.lemmas.Bool.{eqb-true, false_from_ne_true, ltb-true}
use Rattle.common_lemmas.proofs.Options.{none_some, same_some}
use Rattle.common_lemmas.proofs.Booleans.{and_left, and_right, impossible}
use Rattle.common_lemmas.proofs.Lists.{all_append, all_filter}
use Rattle.common_lemmas.proofs.Numbers.{self_equal}
use Rattle.stored_variants.specs.CountedValues.{AreCounted, newest_rows, row_before, rows_before}
use Rattle.stored_variants.proofs.CountedRows.{first_of_other, first_of_table}
use Rattle.variant_trees.proofs.CountedUndone.{no_references}
use Rattle.variant_trees.proofs.EntryTrees.{other_number}
use Rattle.variant_trees.proofs.Released.{named_is_there}
use Rattle.stored_variants.proofs.TakenRecords.{record_taken}

-- ---- the keys of a row that an index took

rules_have : (table : Table) (schema : Schema) (values : RecordFields) (rules : List IndexRule) → schema ≡ schema_of table → AllByRecursion (IsStoredRule table) rules → AllByRecursion (λ rule. IsOk (entries rule schema values)) rules → AllByRecursion (HasKeysOf schema values) rules
rules_have table schema values [] same stored taken = tt
rules_have table schema values (rule ∷ rules) same stored taken = (
  record {
    found = ap (λ (s : Schema). rule_with_id s rule.id.0) same ∙ stored.0.found;
    legal = ap (is_legal rule) same ∙ stored.0.legal;
    short = stored.0.short;
    taken = taken.0;
  },
  rules_have table schema values rules same stored.1 taken.1,
)

-- the indexes of a table have the keys of a row that they took
pub has_keys : (table : Table) (schema : Schema) (values : RecordFields) → schema ≡ schema_of table → AllByRecursion (IsStoredRule table) table.indexes → is_indexable (schema_of table) values ≡ true → AllByRecursion (HasKeysOf schema values) schema.indexes
has_keys table schema values same stored taken =
    subst (λ (s : Schema). AllByRecursion (HasKeysOf s values) s.indexes) (sym same)
    (rules_have table (schema_of table) values (schema_of table).indexes refl
    (all_append (IsStoredRule table) (filter (λ r. r.flags.primary) table.indexes) (filter (λ r. not r.flags.primary) table.indexes)
    (all_filter (IsStoredRule table) (λ r. r.flags.primary) table.indexes stored) (all_filter (IsStoredRule table) (λ r. not r.flags.primary) table.indexes stored))
    (record_taken (schema_of table) values (schema_of table).indexes taken))

-- ---- bookmarks are short

short_take : (n : ℕ) (xs : List ℕ) → length (take n xs) ≤ n
short_take zero [] = omega arith
short_take zero (x ∷ xs) = omega arith
short_take (suc n) [] = omega arith
short_take (suc n) (x ∷ xs) = let rest : length (take n xs) ≤ n = short_take n xs in omega arith

short_key : (rule : IndexRule) (schema : Schema) (values : RecordFields) → rule.key_most ≤ 255 → length (primary_key rule schema values) ≤ 255
unfolding primary_key
short_key rule schema values short = lower (short_take rule.key_most _) short
  where
    lower : {a b c : ℕ} → a ≤ b → b ≤ c → a ≤ c
    lower h g = omega arith

found_rule : (P : IndexRule → Type 0) (q : IndexRule → Bool) (rules : List IndexRule) → AllByRecursion P rules → IfSome (find q rules) P
found_rule P q [] all = tt
found_rule P q (rule ∷ rules) all = by (q rule) (found_rule P q rules all.1)
  where
    by : (b : Bool) → IfSome (find q rules) P → IfSome (cond b (Some rule) (find q rules)) P
    by true rest = all.0
    by false rest = rest

pub short_bookmark : (table : Table) (values : RecordFields) (bookmark : List ℕ) → AllByRecursion (IsStoredRule table) table.indexes → IsBookmarkOf table values bookmark → length bookmark ≤ 255
short_bookmark table values bookmark stored own =
    by (primary_rule (schema_of table)) own
    (found_rule (IsStoredRule table) (λ r. r.flags.primary) (schema_of table).indexes
    (all_append (IsStoredRule table) (filter (λ r. r.flags.primary) table.indexes) (filter (λ r. not r.flags.primary) table.indexes)
    (all_filter (IsStoredRule table) (λ r. r.flags.primary) table.indexes stored) (all_filter (IsStoredRule table) (λ r. not r.flags.primary) table.indexes stored)))
  where
    eight : (n : ℕ) → n ≡ 8 → n ≤ 255
    eight n e = omega arith

    by : (o : Option IndexRule) → MatchOption o (length bookmark ≡ 8) (λ rule. bookmark ≡ primary_key rule (schema_of table) values) → IfSome o (IsStoredRule table) → length bookmark ≤ 255
    by None own stored = eight (length bookmark) own
    by (Some rule) own stored = subst (λ (key : List ℕ). length key ≤ 255) (sym own) (short_key rule (schema_of table) values stored.short)

-- ---- rows are spelled

rows_of_changes : (longs : TableValues) (tables : List Table) (trees : List StoredTable) (held : List HeldChange) → AllByRecursion (IsKeptChange longs tables trees) held → AreRows longs held
rows_of_changes longs tables trees [] kept = tt
rows_of_changes longs tables trees (h ∷ held) kept = (λ standing. by (table_with_id tables h.table) kept.0.named h.before (kept.0.before standing), rows_of_changes longs tables trees held kept.1)
  where
    by : (o : Option Table) → is_some o ≡ true → (row : Option (List ℕ)) → IfSome o (λ t. IfSome row (IsRowUnder (longs h.table) t h.bookmark)) → IfSome row (IsRecordRow (longs h.table))
    by None some row is = impossible some
    by (Some t) some None is = tt
    by (Some t) some (Some row) is = is.fits.row

pub are_rows : (longs : TableValues) (tables : List Table) (trees : List StoredTable) (held : List HeldChange) → AreKeptWith longs tables trees held → AreRows longs held
are_rows longs tables trees held kept = rows_of_changes longs tables trees held kept.changes

-- ---- what is left

-- the variants of the others, the forgotten one, and its keys
cleaned : (n y l k : Bool) → (y ≡ true → k ≡ true) → (n || l) ≡ ((n || (y || l)) && not (true && (k && not (n || l))))
cleaned true y l true f = refl
cleaned true y l false f = refl
cleaned false true true true f = refl
cleaned false true true false f = refl
cleaned false true false true f = refl
cleaned false true false false f = impossible (f refl)
cleaned false false true true f = refl
cleaned false false true false f = refl
cleaned false false false true f = refl
cleaned false false false false f = refl

untouched : (n l k : Bool) → (n || l) ≡ ((n || (false || l)) && not (false && (k && not (n || l))))
untouched true l k = refl
untouched false true k = refl
untouched false false k = refl

-- a test of the record before the oldest change, and of the others
left_of : (longs : TableValues) (test : Option RecordFields → Bool) → test None ≡ false → (h : HeldChange) (row : List ℕ) → h.before ≡ Some row → (newest : Option RecordFields) (rest : List HeldRecord) (table : ℕ) (own : List ℕ)
    → (test newest || some_before test table own rest)
    ≡ ((test newest || some_before test table own (held_record_in longs h ∷ rest)) && not (is_this h.table h.bookmark table own && (test (Some (record_of (longs h.table) row)) && not (test newest || some_before test table own rest))))
left_of longs test none h row is newest rest table own = by (is_this h.table h.bookmark table own) refl
  where
    k : Bool
    k = test (Some (record_of (longs h.table) row))

    passes : (this : Bool) → Bool
    passes this = ((this && is_rewrite h.kind) && not (is_undone h.status)) && test (held_record_in longs h).before

    before_is : (w u : Bool) → (o : Option (List ℕ)) → o ≡ Some row → ((((true && w) && not u)) && test (cond (w && not u) (option_map (record_of (longs h.table)) o) None)) ≡ true → k ≡ true
    before_is true true o e p = impossible p
    before_is true false o e p = sym (ap (λ (r : Option (List ℕ)). test (option_map (record_of (longs h.table)) r)) e) ∙ p
    before_is false u o e p = impossible p

    by : (this : Bool) → is_this h.table h.bookmark table own ≡ this
        → (test newest || some_before test table own rest)
        ≡ ((test newest || (passes (is_this h.table h.bookmark table own) || some_before test table own rest)) && not (is_this h.table h.bookmark table own && (k && not (test newest || some_before test table own rest))))
    by true e =
        cleaned (test newest) (passes true) (some_before test table own rest) k (before_is (is_rewrite h.kind) (is_undone h.status) h.before is)
        ∙ (λ i. (test newest || (passes (sym e i) || some_before test table own rest)) && not (sym e i && (k && not (test newest || some_before test table own rest))))
    by false e =
        untouched (test newest) (some_before test table own rest) k
        ∙ (λ i. (test newest || (passes (sym e i) || some_before test table own rest)) && not (sym e i && (k && not (test newest || some_before test table own rest))))

table_left : (longs : TableValues) (vals : Values) (trees : List StoredTable) (nodes : List Node) (h : HeldChange) (rest : List HeldRecord) (row : List ℕ) → h.before ≡ Some row → (t : Table) → IsKeptTable trees vals nodes (held_record_in longs h ∷ rest) t → IsLeft trees vals nodes rest h.table h.bookmark (record_of (longs h.table) row) t
table_left longs vals trees nodes h rest row is t kept = record {
  rules = kept.rules;
  rows = kept.rows;
  stands = λ own.
      left_of longs is_some refl h row is (row_at (rows_of_nodes vals nodes) own) rest t.id own
      ∙ ap (λ b. b && not (is_this h.table h.bookmark t.id own && not (has_variant (row_at (rows_of_nodes vals nodes) own) rest t.id own))) (sym (kept.stands own));
  entries = λ index. by index (secondary_rule t index) (kept.entries index);
}
  where
    by : (index : ℕ) (o : Option IndexRule) → IfSome o (λ rule. HoldsVariants (rows_of_nodes vals nodes) (held_record_in longs h ∷ rest) rule (schema_of t) t.id (index_entries trees t.id index))
        → IfSome o (λ rule. (key own : List ℕ) → is_variant_key (row_at (rows_of_nodes vals nodes) own) rest rule (schema_of t) t.id key own
        ≡ (has_entry key own (index_entries trees t.id index) && not (is_this h.table h.bookmark t.id own && is_gone_key (row_at (rows_of_nodes vals nodes) own) rest rule (schema_of t) t.id own (record_of (longs h.table) row) key)))
    by index None holds = tt
    by index (Some rule) holds = λ key own.
        left_of longs (yields_key rule (schema_of t) key) refl h row is (row_at (rows_of_nodes vals nodes) own) rest t.id own
        ∙ ap (λ b. b && not (is_this h.table h.bookmark t.id own && is_gone_key (row_at (rows_of_nodes vals nodes) own) rest rule (schema_of t) t.id own (record_of (longs h.table) row) key)) (sym (holds key own))

-- without the oldest change what it held is left
pub oldest_left : (longs : TableValues) (tables : List Table) (trees : List StoredTable) (h : HeldChange) (rest : List HeldChange) (row : List ℕ) → h.before ≡ Some row → AreKeptWith longs tables trees (h ∷ rest) → AreLeft longs tables trees rest h.table h.bookmark (record_of (longs h.table) row)
oldest_left longs tables trees h rest row is kept = record {
  plain = kept.plain;
  numbers = kept.numbers;
  each = λ table. by table (table_with_id tables table) (kept.each table);
  changes = kept.changes.1;
}
  where
    by : (table : ℕ) (o : Option Table) → IfSome o (IsKeptTable trees (longs table) (table_nodes trees table) (map (held_record_in longs) (h ∷ rest))) → IfSome o (IsLeft trees (longs table) (table_nodes trees table) (map (held_record_in longs) rest) h.table h.bookmark (record_of (longs h.table) row))
    by table None is_kept = tt
    by table (Some t) is_kept = table_left longs (longs table) trees (table_nodes trees table) h (map (held_record_in longs) rest) row is t is_kept

-- ---- tables have ids of their own

not_same : (a b n : ℕ) → n ≤ a → a < b → (b == n) ≡ false
not_same a b n h g = false_from_ne_true (b == n) (λ e. no (eqb-true b n e))
  where
    no : b ≡ n → ⊥
    no e = omega arith

none_above : (low high n : ℕ) (tables : List Table) → n ≤ low → ids_rise low high tables ≡ true → list_any (λ (x : Table). x.id == n) tables ≡ false
none_above low high n [] under rise = refl
none_above low high n (t ∷ tables) under rise =
    let above : low < t.id = ltb-true low t.id (and_left (nat_lt low t.id) (ids_rise t.id high tables) rise) in
    (λ i. not_same low t.id n under above i || none_above t.id high n tables (omega arith) (and_right (nat_lt low t.id) (ids_rise t.id high tables) rise) i)

distinct : (low high : ℕ) (tables : List Table) → ids_rise low high tables ≡ true → DistinctIds tables
distinct low high [] rise = tt
distinct low high (t ∷ tables) rise =
    let rest = and_right (nat_lt low t.id) (ids_rise t.id high tables) rise in
    (none_above t.id high t.id tables (omega arith) rest, distinct t.id high tables rest)

pub distinct_ids : (catalog : CatalogState) → IsNumbered catalog → DistinctIds catalog.tables
distinct_ids catalog numbered = distinct 0 catalog.greatest_table catalog.tables numbered

-- ---- the oldest change

pub first_within : (held : List HeldChange) (table : ℕ) → first_table held ≡ Some table → 0 < length held
first_within [] table first = none_some table first
first_within (h ∷ held) table first = omega arith

-- What is known of the oldest change, once it is read: it stands, and holds this row.
pub record IsOldest (held : List HeldChange) (table : ℕ) (bookmark row : List ℕ) : Type 0 where
  pub change : HeldChange
  pub rest : List HeldChange
  pub is : held ≡ change ∷ rest
  pub of_table : change.table ≡ table
  pub standing : is_standing change ≡ true
  pub at_bookmark : change.bookmark ≡ bookmark
  pub before : change.before ≡ Some row

pub oldest_is : (held : List HeldChange) (table : ℕ) (bookmark row : List ℕ) → first_table held ≡ Some table → slice_get (map is_standing held) 0 ≡ Some true
    → slice_get (map (λ (h : HeldChange). h.before) held) 0 ≡ Some (Some row) → slice_get (map (λ (h : HeldChange). h.bookmark) held) 0 ≡ Some bookmark → IsOldest held table bookmark row
oldest_is [] table bookmark row first stands was at = none_some table first
oldest_is (h ∷ rest) table bookmark row first stands was at = record {
  change = h;
  rest = rest;
  is = refl;
  of_table = same_some h.table table first;
  standing = same_some (is_standing h) true stands;
  at_bookmark = same_some h.bookmark bookmark at;
  before = same_some h.before (Some row) was;
}

-- what the row before it is
abbrev pub IsTaken : Values → Schema → List ℕ → List ℕ → Type 0
IsTaken vals schema bookmark row = IsRecordRow vals row × AllByRecursion (HasKeysOf schema (record_of vals row)) schema.indexes × (length bookmark ≤ 255)

taken_of : (trees : List StoredTable) (vals : Values) (nodes : List Node) (held : List HeldRecord) (schema : Schema) (bookmark row : List ℕ) (o : Option Table) → is_some o ≡ true → IfSome o (λ t. schema ≡ schema_of t) → IfSome o (λ t. IsRowUnder vals t bookmark row)
    → IfSome o (IsKeptTable trees vals nodes held) → IsTaken vals schema bookmark row
taken_of trees vals nodes held schema bookmark row None some same is kept = impossible some
taken_of trees vals nodes held schema bookmark row (Some t) some same is kept =
    (is.fits.row, has_keys t schema (record_of vals row) same kept.rules is.indexable, short_bookmark t (record_of vals row) bookmark kept.rules is.own)

pub oldest_named : (longs : TableValues) (tables : List Table) (trees : List StoredTable) (held : List HeldChange) (table : ℕ) (bookmark row : List ℕ) → IsOldest held table bookmark row → AreKeptWith longs tables trees held → is_some (table_with_id tables table) ≡ true
oldest_named longs tables trees held table bookmark row k was =
    let kept : AreKeptWith longs tables trees (k.change ∷ k.rest) = subst (AreKeptWith longs tables trees) k.is was in
    ap (λ n. is_some (table_with_id tables n)) (sym k.of_table) ∙ kept.changes.0.named

pub oldest_taken : (longs : TableValues) (tables : List Table) (trees : List StoredTable) (held : List HeldChange) (table : ℕ) (bookmark row : List ℕ) → IsOldest held table bookmark row → AreKeptWith longs tables trees held → (schema : Schema) → IfSome (table_with_id tables table) (λ t. schema ≡ schema_of t)
    → IsTaken (longs table) schema bookmark row
oldest_taken longs tables trees held table bookmark row k was schema same =
    let kept : AreKeptWith longs tables trees (k.change ∷ k.rest) = subst (AreKeptWith longs tables trees) k.is was in
    taken_of trees (longs table) (table_nodes trees table) (map (held_record_in longs) (k.change ∷ k.rest)) schema bookmark row (table_with_id tables table)
    (ap (λ n. is_some (table_with_id tables n)) (sym k.of_table) ∙ kept.changes.0.named) same
    (subst (λ (n : ℕ). IfSome (table_with_id tables n) (λ t. IsRowUnder (longs n) t bookmark row)) k.of_table
    (subst (λ (b : List ℕ). IfSome (table_with_id tables k.change.table) (λ t. IsRowUnder (longs k.change.table) t b row)) k.at_bookmark
    (subst (λ (o : Option (List ℕ)). IfSome (table_with_id tables k.change.table) (λ t. IfSome o (IsRowUnder (longs k.change.table) t k.change.bookmark))) k.before (kept.changes.0.before k.standing))))
    (kept.each table)

pub oldest_leaves : (longs : TableValues) (tables : List Table) (trees : List StoredTable) (held : List HeldChange) (table : ℕ) (bookmark row : List ℕ) → IsOldest held table bookmark row → AreKeptWith longs tables trees held
    → AreLeft longs tables trees (drop 1 held) table bookmark (record_of (longs table) row)
oldest_leaves longs tables trees held table bookmark row k was =
    subst (λ (hs : List HeldChange). AreLeft longs tables trees (drop 1 hs) table bookmark (record_of (longs table) row)) (sym k.is)
    (subst (λ (n : ℕ). AreLeft longs tables trees k.rest n bookmark (record_of (longs n) row)) k.of_table
    (subst (λ (b : List ℕ). AreLeft longs tables trees k.rest k.change.table b (record_of (longs k.change.table) row)) k.at_bookmark
    (oldest_left longs tables trees k.change k.rest row k.before (subst (AreKeptWith longs tables trees) k.is was))))

-- ---- one that leaves nothing

-- it is undone, or holds no row
abbrev pub LeavesNothing : HeldChange → Type 0
LeavesNothing h = (is_standing h ≡ false) ⊎ (h.before ≡ None)

nothing_before : (longs : TableValues) (h : HeldChange) → LeavesNothing h → (held : List HeldChange) → SameVariants (map (held_record_in longs) held) (map (held_record_in longs) (h ∷ held))
nothing_before longs h nothing held test none table bookmark = sym (ap (λ b. b || some_before test table bookmark (map (held_record_in longs) held)) (elim nothing [ inl fallen ↦ undone fallen | inr empty ↦ no_row empty ]))
  where
    fails : (a w u t : Bool) → (w && u) ≡ false → (((a && w) && u) && t) ≡ false
    fails true true true t e = impossible (sym e)
    fails true true false t e = refl
    fails true false u t e = refl
    fails false w u t e = refl

    undone : is_standing h ≡ false → (is_standing_rewrite table bookmark (held_record_in longs h) && test (held_record_in longs h).before) ≡ false
    undone e = fails (is_this h.table h.bookmark table bookmark) (is_rewrite h.kind) (not (is_undone h.status)) (test (held_record_in longs h).before) e

    either_none : (b : Bool) → cond b (option_map (record_of (longs h.table)) None) None ≡ None
    either_none true = refl
    either_none false = refl

    never : (b : Bool) → (b && test None) ≡ false
    never true = none
    never false = refl

    no_row : h.before ≡ None → (is_standing_rewrite table bookmark (held_record_in longs h) && test (held_record_in longs h).before) ≡ false
    no_row e =
        ap (λ (r : Option RecordFields). is_standing_rewrite table bookmark (held_record_in longs h) && test r)
        (ap (λ (row : Option (List ℕ)). cond (is_standing h) (option_map (record_of (longs h.table)) row) None) e ∙ either_none (is_standing h))
        ∙ never (is_standing_rewrite table bookmark (held_record_in longs h))

fallen_references : (id : List ℕ) (h : HeldChange) → (is_rewrite h.kind ≡ false → h.before ≡ None) → LeavesNothing h → references_before id (row_before h) ≡ 0
fallen_references id h other (inr empty) = no_references id h empty
fallen_references id h other (inl fallen) = by (is_rewrite h.kind) (is_undone h.status) refl refl fallen
  where
    by : (w u : Bool) → is_rewrite h.kind ≡ w → is_undone h.status ≡ u → (w && not u) ≡ false → references_before id (row_before h) ≡ 0
    by false u e f fallen = no_references id h (other e)
    by true true e f fallen = ap (λ b. cond b 0 (references id (option_map row_in h.before))) f
    by true false e f fallen = impossible (sym fallen)

none_more : (n : ℕ) → 0 + n ≡ n
none_more n = omega arith

nothing_counted : (trees : List StoredTable) (h : HeldChange) (held : List HeldChange) → (is_rewrite h.kind ≡ false → h.before ≡ None) → LeavesNothing h → AreCounted trees (h ∷ held) → AreCounted trees held
nothing_counted trees h held other nothing counts = λ table id. counts table id ∙ ap (λ n. sum_by (λ row. references id (Some row.1)) (newest_rows (table_nodes trees table)) + n) (by table id (h.table == table))
  where
    rest : ℕ → List HeldChange
    rest table = filter (λ (y : HeldChange). y.table == table) held

    by : (table : ℕ) (id : List ℕ) (b : Bool) → sum_by (references_before id) (map row_before (cond b (h ∷ rest table) (rest table))) ≡ sum_by (references_before id) (map row_before (rest table))
    by table id true =
        sum_by-cons (references_before id) (row_before h) (map row_before (rest table))
        ∙ ap (λ n. n + sum_by (references_before id) (map row_before (rest table))) (fallen_references id h other nothing)
        ∙ none_more (sum_by (references_before id) (map row_before (rest table)))
    by table id false = refl

pub nothing_forgotten : (tables : List Table) (trees : List StoredTable) (held : List HeldChange) → ((h : HeldChange) → slice_get held 0 ≡ Some h → LeavesNothing h) → 0 < length held → AreKept tables trees held → AreCounted trees held → IsForgotten tables trees trees held
nothing_forgotten tables trees [] nothing some kept counts = absurd (no some)
  where
    no : 0 < 0 → ⊥
    no h = omega arith
nothing_forgotten tables trees (h ∷ held) nothing some kept counts = record {
  kept = changes_kept (table_long_values trees) tables trees (h ∷ held) held kept kept.changes.1 (nothing_before (table_long_values trees) h (nothing h refl) held);
  counts = nothing_counted trees h held kept.changes.0.other (nothing h refl) counts;
  newest = refl;
  held_records = refl;
  values = λ table id none. none;
}

-- the first change, as it was read
pub first_fallen : (held : List HeldChange) (h : HeldChange) → slice_get (map is_standing held) 0 ≡ Some false → slice_get held 0 ≡ Some h → LeavesNothing h
first_fallen [] h told at = none_some h at
first_fallen (x ∷ held) h told at = inl (sym (ap is_standing (same_some x h at)) ∙ same_some (is_standing x) false told)

pub first_empty : (held : List HeldChange) (h : HeldChange) → slice_get (map (λ (x : HeldChange). x.before) held) 0 ≡ Some None → slice_get held 0 ≡ Some h → LeavesNothing h
first_empty [] h told at = none_some h at
first_empty (x ∷ held) h told at = inr (sym (ap (λ (y : HeldChange). y.before) (same_some x h at)) ∙ same_some x.before None told)

-- ---- counts without the oldest change

abbrev pub CleanedLaw : Type 0
CleanedLaw = (values : Values) (rows : NewestRows) (oldest : RowBefore) (held : List RowBefore) → HasCounts values rows (oldest ∷ held) → HasCounts (with_all_released (identifiers_before oldest) values) rows held

pub oldest_counted : CleanedLaw → (old mid new : List StoredTable) (held : List HeldChange) (table : ℕ) (bookmark row : List ℕ) → IsOldest held table bookmark row → KeepsValues old mid
    → ((other : ℕ) → newest_rows (table_nodes mid other) ≡ newest_rows (table_nodes old other)) → HasLongValues table (with_all_released (identifiers (Some (row_in row))) (table_long_values mid table)) mid new → AreCounted old held → AreCounted new (drop 1 held)
oldest_counted law old mid new held table bookmark row k values rows released counts = λ n.
    subst (λ (hs : List HeldChange). HasCounts (table_long_values new n) (newest_rows (table_nodes new n)) (rows_before n (drop 1 hs))) (sym k.is)
    (subst (λ (r : NewestRows). HasCounts (table_long_values new n) r (rows_before n k.rest)) (sym (rows n) ∙ sym (ap newest_rows (released.nodes n))) (by n (table == n) refl))
  where
    was : (n : ℕ) → HasCounts (table_long_values old n) (newest_rows (table_nodes old n)) (rows_before n (k.change ∷ k.rest))
    was n = subst (λ (hs : List HeldChange). HasCounts (table_long_values old n) (newest_rows (table_nodes old n)) (rows_before n hs)) k.is (counts n)

    undone_not : (w u : Bool) → (w && not u) ≡ true → u ≡ false
    undone_not true true e = sym e
    undone_not true false e = refl
    undone_not false u e = impossible e

    gone : identifiers_before (row_before k.change) ≡ identifiers (Some (row_in row))
    gone =
        ap (λ b. cond b [] (identifiers (option_map row_in k.change.before))) (undone_not (is_rewrite k.change.kind) (is_undone k.change.status) k.standing)
        ∙ ap (λ (o : Option (List ℕ)). identifiers (option_map row_in o)) k.before

    by : (n : ℕ) (b : Bool) → (table == n) ≡ b → HasCounts (table_long_values new n) (newest_rows (table_nodes old n)) (rows_before n k.rest)
    by n true e =
        let own : (k.change.table == n) ≡ true = ap (λ m. m == n) k.of_table ∙ e in
        let now : table_long_values new n ≡ with_all_released (identifiers (Some (row_in row))) (table_long_values old n) =
        subst (λ (m : ℕ). table_long_values new m ≡ with_all_released (identifiers (Some (row_in row))) (table_long_values mid m)) (eqb-true table n e) released.named
        ∙ ap (with_all_released (identifiers (Some (row_in row)))) (values n) in
        subst (λ (v : Values). HasCounts v (newest_rows (table_nodes old n)) (rows_before n k.rest)) (ap (λ (ids : List (List ℕ)). with_all_released ids (table_long_values old n)) gone ∙ sym now)
        (law (table_long_values old n) (newest_rows (table_nodes old n)) (row_before k.change) (rows_before n k.rest)
        (subst (HasCounts (table_long_values old n) (newest_rows (table_nodes old n))) (first_of_table n k.change k.rest own) (was n)))
    by n false e =
        subst (λ (v : Values). HasCounts v (newest_rows (table_nodes old n)) (rows_before n k.rest)) (sym (released.others n (λ same. other_number table n e (sym same)) ∙ values n))
        (subst (HasCounts (table_long_values old n) (newest_rows (table_nodes old n))) (first_of_other n k.change k.rest (ap (λ m. m == n) k.of_table ∙ e)) (was n))

-- what it names is there
pub oldest_there : (trees : List StoredTable) (held : List HeldChange) (table : ℕ) (bookmark row : List ℕ) → IsOldest held table bookmark row → AreCounted trees held → (id : List ℕ) → 0 < references id (Some (row_in row)) → IsSome (value_of id (table_long_values trees table))
oldest_there trees held table bookmark row k counts id some =
    named_is_there (table_long_values trees table) (newest_rows (table_nodes trees table)) (row_before k.change ∷ rows_before table k.rest) (row_in row)
    (subst (HasCounts (table_long_values trees table) (newest_rows (table_nodes trees table))) (ap (rows_before table) k.is ∙ first_of_table table k.change k.rest (ap (λ m. m == table) k.of_table ∙ self_equal table)) (counts table))
    (before [] (rows_before table k.rest) (row_before k.change) refl (undone_not (is_rewrite k.change.kind) (is_undone k.change.status) k.standing) (ap (option_map row_in) k.before)) id some
  where
    undone_not : (w u : Bool) → (w && not u) ≡ true → u ≡ false
    undone_not true true e = sym e
    undone_not true false e = refl
    undone_not false u e = impossible e

-- ---- that there is one

pub always_first : {A : Type 0} (held : List HeldChange) → 0 < length held → None ≡ first_table held → A
always_first [] some e = absurd (no some)
  where
    no : 0 < 0 → ⊥
    no h = omega arith
always_first (h ∷ held) some e = none_some h.table e

pub always_named : (longs : TableValues) → {A : Type 0} (tables : List Table) (trees : List StoredTable) (held : List HeldChange) (table : ℕ) → AreKeptWith longs tables trees held → Some table ≡ first_table held → None ≡ table_with_id tables table → A
always_named longs {A} tables trees [] table kept first none = none_some table (sym first)
always_named longs {A} tables trees (h ∷ held) table kept first none =
    impossible (ap is_some none ∙ ap (λ n. is_some (table_with_id tables n)) (same_some table h.table first) ∙ kept.changes.0.named)
