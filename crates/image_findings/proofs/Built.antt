-- The tables of the engine that is made of a consistent image have only what is built.
use Rattle.std.proofs.Common.{◌≡◌, ℕ, Bool, true, false, ◌&&◌, ◌||◌, List, [], ◌∷◌, refl, sym, ap, subst, ◌∙◌, arith}
use Rattle.std.specs.Prelude.{not, ◌++◌, ◌==◌, ◌^◌, nat_le, nat_lt, map, length, flat_map, if◌then◌else◌}
use Rattle.std.specs.List.{AllByRecursion, list_all}
use Rattle.std.proofs.lemmas.Bool.{and_from, eqb-true}
use Rattle.std.proofs.lemmas.List.Concat.{flat_map-cons}
use Rattle.jet_base.specs.declared.words.ColType.{ColType}
use Rattle.jet_base.specs.declared.words.ColType.TheVariants as kind
use Rattle.column_set.specs.declared.columns.Column.{Column}
use Rattle.column_set.specs.RecordValues.{tagged_if_long}
use Rattle.catalog_grammar.specs.CatalogBytes.{item_fits}
use Rattle.catalog_grammar.specs.Catalogs.{CatalogTable, catalog_fits, catalog_items, column_items, has_rising_parts, index_items, rise_above, tables_told, with_tagged_longs}
use Rattle.catalog_grammar.specs.declared.items.CatalogItem.TheVariants as item
use Rattle.common_lemmas.proofs.Booleans.{and_left, and_right, impossible}
use Rattle.database_state.specs.Lawful.{is_name}
use Rattle.database_state.specs.SchemaChanges.{is_long_column, is_type_long}
use Rattle.database_state.specs.Table.{Table}
use Rattle.index_derive.specs.declared.rules.IndexRule.{IndexRule}
use Rattle.laws_images.specs.SoundStates.{is_number_of_kind, is_sound_column}
use Rattle.log_grammar.specs.EntryBytes.{column_fits, condition_fits, index_fits, name_fits, segment_fits}
use Rattle.page_space.specs.Frames.{Frames}
use Rattle.session_local.specs.BuiltTables.{are_built, is_built_column, is_built_rule, is_built_sum, is_built_table, is_unnumbered, is_unnumbered_column}
use Rattle.image_findings.specs.CatalogFindings.{CatalogTold, in_order_of_making, is_sound_catalog, is_sound_table, table_of, with_order}
use Rattle.image_findings.proofs.Tables.{all_sound_columns, shown, shown_tests, sound_tables}
use Rattle.image_findings.proofs.Told.{IsTold}

-- ---- parts of lists

pub left_part : {X : Type 0} (p : X → Bool) (xs ys : List X) → list_all p (xs ++ ys) ≡ true → list_all p xs ≡ true
left_part p [] ys h = refl
left_part p (x ∷ xs) ys h = and_from (p x) (list_all p xs) (and_left (p x) (list_all p (xs ++ ys)) h) (left_part p xs ys (and_right (p x) (list_all p (xs ++ ys)) h))

pub right_part : {X : Type 0} (p : X → Bool) (xs ys : List X) → list_all p (xs ++ ys) ≡ true → list_all p ys ≡ true
right_part p [] ys h = h
right_part p (x ∷ xs) ys h = right_part p xs ys (and_right (p x) (list_all p (xs ++ ys)) h)

pub each_part : {X Y : Type 0} (p : Y → Bool) (f : X → List Y) (xs : List X) → list_all p (flat_map f xs) ≡ true → AllByRecursion (λ x. list_all p (f x) ≡ true) xs
each_part p f [] h = tt
each_part p f (x ∷ xs) h =
    let split : list_all p (f x ++ flat_map f xs) ≡ true = ap (list_all p) (sym (flat_map-cons f x xs)) ∙ h in
    (left_part p (f x) (flat_map f xs) split, each_part p f xs (right_part p (f x) (flat_map f xs) split))

-- ---- columns

-- a sum among the columns of its kind
sum_of : (type : ColType) (tagged : Bool) (id : ℕ) → is_type_long type ≡ true → not tagged ≡ true → is_number_of_kind type tagged id ≡ true → (nat_le 1 id && nat_le id 127) ≡ true
sum_of kind.Long false id l t h = h
sum_of kind.Long true id l t h = impossible t
sum_of kind.Bit tagged id l t h = impossible l
sum_of kind.UnsignedByte tagged id l t h = impossible l
sum_of kind.Short tagged id l t h = impossible l
sum_of kind.UnsignedShort tagged id l t h = impossible l
sum_of kind.UnsignedLong tagged id l t h = impossible l
sum_of kind.LongLong tagged id l t h = impossible l
sum_of kind.Currency tagged id l t h = impossible l
sum_of kind.Guid tagged id l t h = impossible l
sum_of kind.Binary tagged id l t h = impossible l
sum_of kind.Text tagged id l t h = impossible l
sum_of kind.LongBinary tagged id l t h = impossible l
sum_of kind.LongText tagged id l t h = impossible l

built_sum : (escrow : Bool) (type : ColType) (tagged multi : Bool) (id : ℕ) → is_number_of_kind type tagged id ≡ true → (not escrow || (is_type_long type && (not tagged && not multi))) ≡ true
    → (not escrow || (is_type_long type && (not multi && (nat_le 1 id && nat_le id 127)))) ≡ true
built_sum false type tagged multi id n h = refl
built_sum true type tagged multi id n h =
    let long = and_left (is_type_long type) (not tagged && not multi) h in
    let plain = and_right (is_type_long type) (not tagged && not multi) h in
    and_from (is_type_long type) (not multi && (nat_le 1 id && nat_le id 127)) long
    (and_from (not multi) (nat_le 1 id && nat_le id 127) (and_right (not tagged) (not multi) plain) (sum_of type tagged id long (and_left (not tagged) (not multi) plain) n))

sound_sum : (c : Column) → is_sound_column c ≡ true → is_built_sum c ≡ true
sound_sum c h =
    let named = is_name c.name in
    let number = is_number_of_kind c.kind c.tagged c.id.0 in
    let long = c.tagged || not (is_long_column c) in
    let many = not c.multi || c.tagged in
    let sum = not c.escrow || (is_type_long c.kind && (not c.tagged && not c.multi)) in
    built_sum c.escrow c.kind c.tagged c.multi c.id.0
    (and_right named number (and_left (named && number) long (and_left (named && number && long) many (and_left (named && number && long && many) sum h))))
    (and_right (named && number && long && many) sum h)

unnumbered : (version auto : Bool) → (not version && not auto) ≡ true → is_unnumbered version auto ≡ true
unnumbered false false h = refl
unnumbered true auto h = impossible h
unnumbered false true h = impossible h

built_column : (c : Column) → column_fits c ≡ true → is_sound_column (tagged_if_long c) ≡ true → is_built_column (tagged_if_long c) ≡ true
built_column c fits sound =
    and_from (is_unnumbered_column (tagged_if_long c)) (is_built_sum (tagged_if_long c))
    (unnumbered c.version c.auto (and_right (name_fits c.name) (not c.version && not c.auto) (and_right (nat_lt c.id.0 (2 ^ 16)) (name_fits c.name && (not c.version && not c.auto)) fits)))
    (sound_sum (tagged_if_long c) sound)

built_columns : (id : ℕ) (y : CatalogTable) (columns : List Column) → list_all item_fits (map (item.Column y.table.id) columns) ≡ true → list_all is_sound_column (map tagged_if_long columns) ≡ true → list_all is_built_column (map tagged_if_long columns) ≡ true
built_columns id y [] fits sound = refl
built_columns id y (c ∷ columns) fits sound =
    and_from (is_built_column (tagged_if_long c)) (list_all is_built_column (map tagged_if_long columns))
    (built_column c (and_right (nat_lt y.table.id.0 (2 ^ 32)) (column_fits c) (and_left (item_fits (item.Column y.table.id c)) (list_all item_fits (map (item.Column y.table.id) columns)) fits)) (and_left (is_sound_column (tagged_if_long c)) (list_all is_sound_column (map tagged_if_long columns)) sound))
    (built_columns id y columns (and_right (item_fits (item.Column y.table.id c)) (list_all item_fits (map (item.Column y.table.id) columns)) fits) (and_right (is_sound_column (tagged_if_long c)) (list_all is_sound_column (map tagged_if_long columns)) sound))

-- ---- indexes

built_limit : (key_most : ℕ) → (key_most == 255) ≡ true → nat_le key_most 255 ≡ true
built_limit key_most e = ap (λ n. nat_le n 255) (eqb-true key_most 255 e)

built_rule : (rule : IndexRule) → index_fits rule ≡ true → is_built_rule rule ≡ true
built_rule rule h =
    let number = nat_lt rule.id.0 (2 ^ 16) in
    let order = nat_lt rule.order (2 ^ 32) in
    let segments = nat_lt (length rule.segments) 256 && list_all segment_fits rule.segments in
    let conditions = nat_lt (length rule.conditions) 256 && list_all condition_fits rule.conditions in
    let named = name_fits rule.name in
    let most = rule.key_most == 255 in
    built_limit rule.key_most
    (and_right named most (and_right conditions (named && most) (and_right segments (conditions && (named && most)) (and_right order (segments && (conditions && (named && most))) (and_right number (order && (segments && (conditions && (named && most)))) h)))))

with_order_built : (rule : IndexRule) (rules : List IndexRule) → is_built_rule rule ≡ true → list_all is_built_rule rules ≡ true → list_all is_built_rule (with_order rule rules) ≡ true
with_order_built rule [] one all = and_from (is_built_rule rule) true one refl
with_order_built rule (other ∷ rules) one all = by (nat_lt rule.order other.order) (with_order_built rule rules one (and_right (is_built_rule other) (list_all is_built_rule rules) all))
  where
    by : (b : Bool) → list_all is_built_rule (with_order rule rules) ≡ true → list_all is_built_rule (if b then rule ∷ other ∷ rules else other ∷ with_order rule rules) ≡ true
    by true rest = and_from (is_built_rule rule) (is_built_rule other && list_all is_built_rule rules) one all
    by false rest = and_from (is_built_rule other) (list_all is_built_rule (with_order rule rules)) (and_left (is_built_rule other) (list_all is_built_rule rules) all) rest

built_rules : (y : CatalogTable) (indexes : List (ℕ × IndexRule)) → list_all item_fits (map (λ index. item.Index y.table.id index.0 index.1) indexes) ≡ true → list_all is_built_rule (in_order_of_making (map (λ index. index.1) indexes)) ≡ true
built_rules y [] h = refl
built_rules y (index ∷ indexes) h =
    let fits = and_left (item_fits (item.Index y.table.id index.0 index.1)) (list_all item_fits (map (λ index. item.Index y.table.id index.0 index.1) indexes)) h in
    with_order_built index.1 (in_order_of_making (map (λ index. index.1) indexes))
    (built_rule index.1 (and_right (nat_lt index.0 (2 ^ 32)) (index_fits index.1) (and_right (nat_lt y.table.id.0 (2 ^ 32)) (nat_lt index.0 (2 ^ 32) && index_fits index.1) fits)))
    (built_rules y indexes (and_right (item_fits (item.Index y.table.id index.0 index.1)) (list_all item_fits (map (λ index. item.Index y.table.id index.0 index.1) indexes)) h))

-- ---- tables

built_tables : (ys : List CatalogTable) → AllByRecursion (λ y. list_all item_fits (column_items y) ≡ true) ys → AllByRecursion (λ y. list_all item_fits (index_items y) ≡ true) ys
    → list_all is_sound_table (map table_of (map with_tagged_longs ys)) ≡ true → list_all is_built_table (map table_of (map with_tagged_longs ys)) ≡ true
built_tables [] columns indexes sound = refl
built_tables (y ∷ ys) columns indexes sound =
    let t = table_of (with_tagged_longs y) in
    let others = map table_of (map with_tagged_longs ys) in
    and_from (is_built_table t) (list_all is_built_table others)
    (and_from (list_all is_built_column t.columns) (list_all is_built_rule t.indexes)
    (built_columns 0 y y.columns columns.0 (all_sound_columns t (and_left (is_sound_table t) (list_all is_sound_table others) sound)))
    (built_rules y y.indexes indexes.0))
    (built_tables ys columns.1 indexes.1 (and_right (is_sound_table t) (list_all is_sound_table others) sound))

told_built : (greatest : ℕ) (ys : List CatalogTable) → catalog_fits greatest ys ≡ true → list_all is_sound_table (map table_of (map with_tagged_longs ys)) ≡ true → list_all is_built_table (map table_of (map with_tagged_longs ys)) ≡ true
told_built greatest ys fits sound =
    let all = and_left (list_all item_fits (catalog_items greatest ys)) (rise_above 0 (map (λ x. x.table.id.0) ys) && list_all has_rising_parts ys) fits in
    let behind = and_right (item_fits (item.Greatest greatest)) (list_all item_fits (map (λ x. item.Table x.table) ys ++ (flat_map column_items ys ++ flat_map index_items ys))) all in
    let parts = right_part item_fits (map (λ x. item.Table x.table) ys) (flat_map column_items ys ++ flat_map index_items ys) behind in
    built_tables ys (each_part item_fits column_items ys (left_part item_fits (flat_map column_items ys) (flat_map index_items ys) parts)) (each_part item_fits index_items ys (right_part item_fits (flat_map column_items ys) (flat_map index_items ys) parts)) sound

pub told_are_built : (told : CatalogTold) → IsTold told → is_sound_catalog told.greatest (map table_of told.tables) ≡ true → are_built (map table_of told.tables) ≡ true
told_are_built told t h =
    let sound : list_all is_sound_table (map table_of (map with_tagged_longs (tables_told t.items))) ≡ true = subst (λ xs. list_all is_sound_table (map table_of xs) ≡ true) t.tables (sound_tables told.greatest (map table_of told.tables) h) in
    subst (λ xs. list_all is_built_table (map table_of xs) ≡ true) (sym t.tables) (told_built told.greatest (tables_told t.items) t.fits sound)

pub tables_are_built : (frames : Frames) (told : CatalogTold) → IsTold told → is_sound_catalog told.greatest (map table_of told.tables) ≡ true → are_built (shown frames told.tables) ≡ true
tables_are_built frames told t h = shown_tests frames is_built_table (λ x. refl) told.tables (told_are_built told t h)
