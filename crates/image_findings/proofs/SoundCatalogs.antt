-- The catalog of the state that a consistent image shows is within its limits.
use Rattle.std.proofs.Common.{◌≡◌, ◌≤◌, ◌<◌, ℕ, suc, Bool, true, false, ◌&&◌, ◌||◌, List, [], ◌∷◌, ◌++◌, cond, length, refl, sym, ap, subst, ◌∙◌, arith, bytes_eq}
use Rattle.std.specs.Prelude.{◌==◌, ◌^◌, filter, map, flat_map, nat_le, nat_lt, not, if◌then◌else◌}
use Rattle.std.specs.List.{AllByRecursion, list_all, list_any}
use Rattle.std.proofs.lemmas.Bool.{eqb-true, leb-true, ltb-true}
use Rattle.std.proofs.lemmas.Bool.Decides.{nat_tests}
use Rattle.std.proofs.lemmas.List.{length-map}
use Rattle.catalog_grammar.specs.CatalogBytes.{greatest_fits, item_fits}
use Rattle.catalog_grammar.specs.Catalogs.{CatalogTable, catalog_fits, catalog_items, column_items, has_rising_parts, index_items, rise_above, tables_told, with_tagged_longs}
use Rattle.catalog_grammar.specs.declared.items.CatalogItem.TheVariants as item
use Rattle.column_set.specs.declared.columns.Column.{Column}
use Rattle.common_lemmas.proofs.Booleans.{and_left, and_right, by_test, impossible}
use Rattle.common_lemmas.proofs.Lists.{all_listed, all_stronger, all_weaker}
use Rattle.common_lemmas.proofs.Numbers.{self_equal}
use Rattle.database_state.specs.Lawful.{is_name}
use Rattle.database_state.specs.SchemaChanges.{rule_columns}
use Rattle.database_state.specs.Table.{Table}
use Rattle.index_derive.specs.declared.rules.IndexRule.{IndexRule}
use Rattle.laws_engine.specs.ColumnNumbers.{has_own_numbers}
use Rattle.laws_engine.specs.HoldsState.{HoldsState}
use Rattle.laws_engine.specs.PlainColumns.{has_plain_indexes, is_plain_column, names_plain_columns}
use Rattle.laws_images.proofs.OpenedLemmas.CarriedTables.{all_carried, each_carried, test_carried}
use Rattle.laws_images.specs.SoundStates.{HasSoundCatalog, IndexesDiffer, IsSoundTable, TableNamesDiffer, is_sound_column, is_sound_index}
use Rattle.laws_versions.proofs.HistoryLemmas.Lists.{each_and, each_weaker}
use Rattle.laws_versions.specs.History.{EachTwo, without_rows}
use Rattle.laws_versions.specs.KeySums.{IsPlainIndex}
use Rattle.log_grammar.specs.EntryBytes.{condition_fits, index_fits, name_fits, segment_fits}
use Rattle.page_space.specs.Frames.{Frames}
use Rattle.image_findings.specs.CatalogFindings.{CatalogTold, are_given, differ, has_sound_columns, has_sound_indexes, have_own_names, in_order_of_making, is_sound_catalog, is_sound_table, table_of, with_order}
use Rattle.image_findings.specs.Findings.{engine_in, state_in, told_in}
use Rattle.image_findings.specs.Images.{ImageContents}
use Rattle.image_findings.specs.NoFindings.{HasNoFinding}
use Rattle.image_findings.specs.TableContents.{contents_below, newest_table}
use Rattle.image_findings.specs.TreeFindings.{nodes_below}
use Rattle.image_findings.proofs.Built.{each_part, left_part, right_part}
use Rattle.image_findings.proofs.Indexes.{plain_table, sound_indexes}
use Rattle.image_findings.proofs.Lists.{each_passes, if_found}
use Rattle.image_findings.proofs.NumberedRules.{unmapped}
use Rattle.image_findings.proofs.SoundIndexes.{HaveOwnNumbers, each_own, in_order_all, with_order_all}
use Rattle.image_findings.proofs.Tables.{all_sound_columns, sound_tables}
use Rattle.image_findings.proofs.Told.{IsTold, is_told}

-- ---- lists whose elements differ

none_any : {X : Type 0} (p : X → Bool) (xs : List X) → not (list_any p xs) ≡ true → AllByRecursion (λ x. p x ≡ false) xs
none_any p [] h = tt
none_any p (x ∷ xs) h = by (p x) refl h (none_any p xs)
  where
    by : (b : Bool) → p x ≡ b → not (b || list_any p xs) ≡ true → (not (list_any p xs) ≡ true → AllByRecursion (λ y. p y ≡ false) xs) → (p x ≡ false) × AllByRecursion (λ y. p y ≡ false) xs
    by true e h rest = impossible h
    by false e h rest = (e, rest h)

two_differ : {X : Type 0} (same : X → X → Bool) (xs : List X) → differ same xs ≡ true → EachTwo (λ x y. same x y ≡ false) xs
two_differ same [] h = tt
two_differ same (x ∷ xs) h = (none_any (same x) xs (and_left (not (list_any (same x) xs)) (differ same xs) h), two_differ same xs (and_right (not (list_any (same x) xs)) (differ same xs) h))

-- what each has with all, each two have
two_of_all : {X : Type 0} (R : X → X → Type 0) (xs : List X) → AllByRecursion (λ x. AllByRecursion (R x) xs) xs → EachTwo R xs
two_of_all R [] h = tt
two_of_all R (x ∷ xs) h = (h.0.1, two_of_all R xs (all_weaker (λ y. AllByRecursion (R y) (x ∷ xs)) (λ y. AllByRecursion (R y) xs) (λ y all. all.1) xs h.1))

-- ---- the order of making

abbrev UpTo : IndexRule → IndexRule → Type 0
UpTo earlier later = earlier.order ≤ later.order

before : (m n : ℕ) → nat_lt m n ≡ true → m ≤ n
before m n h = grind (arith, nat_tests, h)

not_before : (m n : ℕ) → nat_lt m n ≡ false → n ≤ m
not_before m n h = grind (arith, nat_tests, h)

upto : (l m n : ℕ) → l ≤ m → m ≤ n → l ≤ n
upto l m n p q = omega (arith, p, q)

put_in_order : (rule : IndexRule) (rules : List IndexRule) → EachTwo UpTo rules → EachTwo UpTo (with_order rule rules)
put_in_order rule [] h = (tt, tt)
put_in_order rule (other ∷ rules) h = by (nat_lt rule.order other.order) refl (put_in_order rule rules h.1)
  where
    by : (b : Bool) → nat_lt rule.order other.order ≡ b → EachTwo UpTo (with_order rule rules) → EachTwo UpTo (if b then rule ∷ other ∷ rules else other ∷ with_order rule rules)
    by true e rest = let up = before rule.order other.order e in ((up, all_weaker (UpTo other) (UpTo rule) (λ r more. upto rule.order other.order r.order up more) rules h.0), h)
    by false e rest = (with_order_all (UpTo other) rule rules (not_before rule.order other.order e) h.0, rest)

made_in_order : (rules : List IndexRule) → EachTwo UpTo (in_order_of_making rules)
made_in_order [] = tt
made_in_order (rule ∷ rules) = put_in_order rule (in_order_of_making rules) (made_in_order rules)

-- ---- one primary index

few_none : (rule : IndexRule) (rules : List IndexRule) → nat_le (length (rule ∷ filter (λ (r : IndexRule). r.flags.primary) rules)) 1 ≡ true → filter (λ (r : IndexRule). r.flags.primary) rules ≡ []
few_none rule rules h = by (filter (λ (r : IndexRule). r.flags.primary) rules) h
  where
    many : (n : ℕ) → nat_le (suc (suc n)) 1 ≡ true → false ≡ true
    many n h = grind (arith, nat_tests)

    by : (found : List IndexRule) → nat_le (length (rule ∷ found)) 1 ≡ true → found ≡ []
    by [] e = refl
    by (other ∷ found) e = impossible (many (length found) e)

no_cons : {X A : Type 0} (x : X) (xs : List X) → x ∷ xs ≡ [] → A
no_cons x xs e = cc

none_primary : (rules : List IndexRule) → filter (λ (r : IndexRule). r.flags.primary) rules ≡ [] → AllByRecursion (λ (r : IndexRule). r.flags.primary ≡ false) rules
none_primary [] e = tt
none_primary (rule ∷ rules) e = by rule.flags.primary refl e (none_primary rules)
  where
    by : (b : Bool) → rule.flags.primary ≡ b → cond b (rule ∷ filter (λ (r : IndexRule). r.flags.primary) rules) (filter (λ (r : IndexRule). r.flags.primary) rules) ≡ []
        → (filter (λ (r : IndexRule). r.flags.primary) rules ≡ [] → AllByRecursion (λ (r : IndexRule). r.flags.primary ≡ false) rules) → (rule.flags.primary ≡ false) × AllByRecursion (λ (r : IndexRule). r.flags.primary ≡ false) rules
    by true p e rest = no_cons rule (filter (λ (r : IndexRule). r.flags.primary) rules) e
    by false p e rest = (p, rest e)

abbrev OnePrimary : IndexRule → IndexRule → Type 0
OnePrimary earlier later = later.flags.primary ≡ true → earlier.flags.primary ≡ false

one_primary : (rules : List IndexRule) → nat_le (length (filter (λ (r : IndexRule). r.flags.primary) rules)) 1 ≡ true → EachTwo OnePrimary rules
one_primary [] h = tt
one_primary (rule ∷ rules) h = by rule.flags.primary refl h (one_primary rules)
  where
    by : (b : Bool) → rule.flags.primary ≡ b → nat_le (length (cond b (rule ∷ filter (λ (r : IndexRule). r.flags.primary) rules) (filter (λ (r : IndexRule). r.flags.primary) rules))) 1 ≡ true
        → (nat_le (length (filter (λ (r : IndexRule). r.flags.primary) rules)) 1 ≡ true → EachTwo OnePrimary rules) → AllByRecursion (OnePrimary rule) rules × EachTwo OnePrimary rules
    by true p h rest =
        let none = few_none rule rules h in (
          all_weaker (λ (r : IndexRule). r.flags.primary ≡ false) (OnePrimary rule) (λ r plain primary. impossible (sym plain ∙ primary)) rules (none_primary rules none),
          rest (ap (λ (found : List IndexRule). nat_le (length found) 1) none),
        )
    by false p h rest = (all_each rules, rest h)
      where
        all_each : (others : List IndexRule) → AllByRecursion (OnePrimary rule) others
        all_each [] = tt
        all_each (other ∷ others) = ((λ primary. p), all_each others)

-- ---- indexes

abbrev NamesDiffer : IndexRule → IndexRule → Type 0
NamesDiffer r s = bytes_eq r.name s.name ≡ false

abbrev OrdersDiffer : IndexRule → IndexRule → Type 0
OrdersDiffer r s = (r.order == s.order) ≡ false

abbrev SameRule : IndexRule → IndexRule → Type 0
SameRule r s = r.id.0 ≡ s.id.0 → r ≡ s

strictly : (m n : ℕ) → m ≤ n → (m == n) ≡ false → m < n
strictly m n h e = grind (arith, nat_tests, h, e)

two_indexes : (r s : IndexRule) → (NamesDiffer r s × OrdersDiffer r s) × ((SameRule r s × UpTo r s) × OnePrimary r s) → IndexesDiffer r s
two_indexes r s h = record {
  names = h.0.0;
  numbers = by_test (r.id.0 == s.id.0) (λ e. impossible (sym h.0.1 ∙ (ap (λ (x : IndexRule). r.order == x.order) (sym (h.1.0.0 (eqb-true r.id.0 s.id.0 e))) ∙ self_equal r.order))) (λ e. e);
  orders = strictly r.order s.order h.1.0.1 h.0.1;
  primary = h.1.1;
}

indexes_differ : (rules : List IndexRule) → differ (λ (r s : IndexRule). bytes_eq r.name s.name) rules ≡ true → differ (λ (r s : IndexRule). r.order == s.order) rules ≡ true → EachTwo UpTo rules → HaveOwnNumbers rules
    → nat_le (length (filter (λ (r : IndexRule). r.flags.primary) rules)) 1 ≡ true → EachTwo IndexesDiffer rules
indexes_differ rules names orders up own one =
    each_weaker (λ r s. (NamesDiffer r s × OrdersDiffer r s) × ((SameRule r s × UpTo r s) × OnePrimary r s)) IndexesDiffer two_indexes rules
    (each_and (λ r s. NamesDiffer r s × OrdersDiffer r s) (λ r s. (SameRule r s × UpTo r s) × OnePrimary r s) rules
    (each_and NamesDiffer OrdersDiffer rules (two_differ (λ (r s : IndexRule). bytes_eq r.name s.name) rules names) (two_differ (λ (r s : IndexRule). r.order == s.order) rules orders))
    (each_and (λ r s. SameRule r s × UpTo r s) OnePrimary rules (each_and SameRule UpTo rules (two_of_all SameRule rules own) up) (one_primary rules one)))

below32 : (n : ℕ) → n < 4294967296 → n ≤ 4294967295
below32 n h = omega (arith, h)

fits32 : (n : ℕ) → nat_lt n (2 ^ 32) ≡ true → n ≤ 4294967295
fits32 n h = below32 n (ltb-true n 4294967296 h)

order_fits : (rule : IndexRule) → index_fits rule ≡ true → rule.order ≤ 4294967295
order_fits rule h =
    let segments = nat_lt (length rule.segments) 256 && list_all segment_fits rule.segments in
    let conditions = nat_lt (length rule.conditions) 256 && list_all condition_fits rule.conditions in
    let rest = segments && (conditions && (name_fits rule.name && (rule.key_most == 255))) in
    fits32 rule.order (and_left (nat_lt rule.order (2 ^ 32)) rest (and_right (nat_lt rule.id.0 (2 ^ 16)) (nat_lt rule.order (2 ^ 32) && rest) h))

abbrev HasOrder : IndexRule → Type 0
HasOrder rule = rule.order ≤ 4294967295

orders_fit : (y : CatalogTable) (indexes : List (ℕ × IndexRule)) → list_all item_fits (map (λ index. item.Index y.table.id index.0 index.1) indexes) ≡ true → AllByRecursion HasOrder (map (λ index. index.1) indexes)
orders_fit y [] h = tt
orders_fit y (index ∷ indexes) h =
    let first = item_fits (item.Index y.table.id index.0 index.1) in
    let others = list_all item_fits (map (λ index. item.Index y.table.id index.0 index.1) indexes) in (
      order_fits index.1 (and_right (nat_lt index.0 (2 ^ 32)) (index_fits index.1) (and_right (nat_lt y.table.id.0 (2 ^ 32)) (nat_lt index.0 (2 ^ 32) && index_fits index.1) (and_left first others h))),
      orders_fit y indexes (and_right first others h),
    )

-- ---- tables

name_of : (y : CatalogTable) → item_fits (item.Table y.table) ≡ true → is_name y.table.name ≡ true
name_of y h =
    let greatest = greatest_fits y.table.greatest && name_fits y.table.name in
    and_right (greatest_fits y.table.greatest) (name_fits y.table.name)
    (and_right (nat_lt y.table.long_values (2 ^ 32)) greatest (and_right (nat_lt y.table.records (2 ^ 32)) (nat_lt y.table.long_values (2 ^ 32) && greatest)
    (and_right (nat_lt y.table.id.0 (2 ^ 32)) (nat_lt y.table.records (2 ^ 32) && (nat_lt y.table.long_values (2 ^ 32) && greatest)) h)))

sound_table : (y : CatalogTable) → item_fits (item.Table y.table) ≡ true → list_all item_fits (index_items y) ≡ true → is_sound_table (table_of (with_tagged_longs y)) ≡ true → HaveOwnNumbers (table_of (with_tagged_longs y)).indexes → IsSoundTable (table_of (with_tagged_longs y))
sound_table y named indexes sound own =
    let t = table_of (with_tagged_longs y) in
    let tests = list_all (is_sound_index t) t.indexes in
    let names = differ (λ (r s : IndexRule). bytes_eq r.name s.name) t.indexes in
    let orders = differ (λ (r s : IndexRule). r.order == s.order) t.indexes in
    let few = nat_le (length t.indexes) 64 in
    let one = nat_le (length (filter (λ (r : IndexRule). r.flags.primary) t.indexes)) 1 in
    let parts = and_right (has_own_numbers t) (has_sound_columns t && has_sound_indexes t) sound in
    let columns = and_left (has_sound_columns t) (has_sound_indexes t) parts in
    let rules = and_right (has_sound_columns t) (has_sound_indexes t) parts in
    let apart = and_right tests ((names && orders) && (few && one)) rules in
    let both = and_left (names && orders) (few && one) apart in
    let counts = and_right (names && orders) (few && one) apart in
    record {
      name = name_of y named;
      columns = each_passes is_sound_column t.columns (all_sound_columns t sound);
      column_names = two_differ (λ (c d : Column). bytes_eq c.name d.name) t.columns (and_right (list_all is_sound_column t.columns) (differ (λ (c d : Column). bytes_eq c.name d.name) t.columns) columns);
      indexes = each_passes (is_sound_index t) t.indexes (and_left tests ((names && orders) && (few && one)) rules);
      indexes_differ = indexes_differ t.indexes (and_left names orders both) (and_right names orders both) (made_in_order (map (λ index. index.1) y.indexes)) own (and_right few one counts);
      most = leb-true (length t.indexes) 64 (and_left few one counts);
      orders = in_order_all HasOrder (map (λ index. index.1) y.indexes) (orders_fit y y.indexes indexes);
    }

each_sound : (frames : Frames) (ys : List CatalogTable) → AllByRecursion (λ (y : CatalogTable). item_fits (item.Table y.table) ≡ true) ys → AllByRecursion (λ y. list_all item_fits (index_items y) ≡ true) ys
    → list_all is_sound_table (map table_of (map with_tagged_longs ys)) ≡ true → AllByRecursion (λ t. HaveOwnNumbers t.table.indexes) (map (contents_below frames) (map with_tagged_longs ys)) → AllByRecursion IsSoundTable (map table_of (map with_tagged_longs ys))
each_sound frames [] named indexes sound own = tt
each_sound frames (y ∷ ys) named indexes sound own =
    let t = table_of (with_tagged_longs y) in
    let others = map table_of (map with_tagged_longs ys) in (
      sound_table y named.0 indexes.0 (and_left (is_sound_table t) (list_all is_sound_table others) sound) own.0,
      each_sound frames ys named.1 indexes.1 (and_right (is_sound_table t) (list_all is_sound_table others) sound) own.1,
    )

-- ---- the catalog that is told

record HasItems (greatest : ℕ) (ys : List CatalogTable) : Type 0 where
  most : greatest ≤ 4294967295
  tables : AllByRecursion (λ (y : CatalogTable). item_fits (item.Table y.table) ≡ true) ys
  indexes : AllByRecursion (λ y. list_all item_fits (index_items y) ≡ true) ys

items_of : (greatest : ℕ) (ys : List CatalogTable) → catalog_fits greatest ys ≡ true → HasItems greatest ys
items_of greatest ys fits =
    let tables = map (λ x. item.Table x.table) ys in
    let parts = flat_map column_items ys ++ flat_map index_items ys in
    let all = and_left (list_all item_fits (catalog_items greatest ys)) (rise_above 0 (map (λ x. x.table.id.0) ys) && list_all has_rising_parts ys) fits in
    let behind = and_right (item_fits (item.Greatest greatest)) (list_all item_fits (tables ++ parts)) all in
    record {
      most = fits32 greatest (and_left (item_fits (item.Greatest greatest)) (list_all item_fits (tables ++ parts)) all);
      tables = unmapped (λ x. item_fits x ≡ true) (λ (y : CatalogTable). item.Table y.table) ys (each_passes item_fits tables (left_part item_fits tables parts behind));
      indexes = each_part item_fits index_items ys (right_part item_fits (flat_map column_items ys) (flat_map index_items ys) (right_part item_fits tables parts behind));
    }

tables_sound : (frames : Frames) (told : CatalogTold) → IsTold told → is_sound_catalog told.greatest (map table_of told.tables) ≡ true → AllByRecursion IsSoundTable (map table_of told.tables)
tables_sound frames told is sound =
    let ys = tables_told is.items in
    let items = items_of told.greatest ys is.fits in
    subst (λ (xs : List CatalogTable). AllByRecursion IsSoundTable (map table_of xs)) (sym is.tables)
    (each_sound frames ys items.tables items.indexes (subst (λ (xs : List CatalogTable). list_all is_sound_table (map table_of xs) ≡ true) is.tables (sound_tables told.greatest (map table_of told.tables) sound))
    (subst (λ (xs : List CatalogTable). AllByRecursion (λ t. HaveOwnNumbers t.table.indexes) (map (contents_below frames) xs)) is.tables (each_own frames told is)))

plain_test : (t : Table) → is_sound_table t ≡ true → has_plain_indexes t ≡ true
plain_test t sound =
    all_listed (names_plain_columns t.columns) t.indexes
    (all_weaker (IsPlainIndex t) (λ rule. names_plain_columns t.columns rule ≡ true) (λ rule plain. all_listed (is_plain_column t.columns) (rule_columns rule) plain) t.indexes (plain_table t (sound_indexes t sound)))

-- ---- carried over to the state

-- the tables without records are those of the catalog
same_shown : (frames : Frames) (xs : List CatalogTable) → map without_rows (map table_of xs) ≡ map without_rows (map newest_table (map (contents_below frames) xs))
same_shown frames [] = refl
same_shown frames (x ∷ xs) = ap (λ (l : List Table). table_of x ∷ l) (same_shown frames xs)

down : (t : Table) → IsSoundTable t → IsSoundTable (without_rows t)
down t s = record { name = s.name; columns = s.columns; column_names = s.column_names; indexes = s.indexes; indexes_differ = s.indexes_differ; most = s.most; orders = s.orders }

up : (t : Table) → IsSoundTable (without_rows t) → IsSoundTable t
up t s = record { name = s.name; columns = s.columns; column_names = s.column_names; indexes = s.indexes; indexes_differ = s.indexes_differ; most = s.most; orders = s.orders }

as_many : (one other : List Table) → map without_rows one ≡ map without_rows other → length other ≡ length one
as_many one other e = sym (length-map other without_rows) ∙ ap length (sym e) ∙ length-map one without_rows

pub sound_catalog : (image : ImageContents) → HoldsState (engine_in 0 image) (state_in image) → HasNoFinding image → HasSoundCatalog (state_in image)
sound_catalog image holds n =
    let told = told_in image in
    let state = state_in image in
    let tables = map table_of told.tables in
    let is = is_told (nodes_below image.pages image.catalog_root) told n.told in
    let e : map without_rows tables ≡ map without_rows state.tables = same_shown image.pages told.tables ∙ holds.holds.defined in
    let own = and_left (have_own_names tables) (are_given told.greatest tables && list_all is_sound_table tables) n.catalog in
    let few = nat_le (length tables) 64 in
    let names = differ (λ (t u : Table). bytes_eq t.name u.name) tables in
    let each = all_carried IsSoundTable down up tables state.tables e (tables_sound image.pages told is n.catalog) in
    record {
      indexes = record {
        order = holds.reached.order;
        numbers = holds.reached.columns;
        plain = test_carried has_plain_indexes (λ t. refl) tables state.tables e (all_stronger is_sound_table has_plain_indexes plain_test tables (sound_tables told.greatest tables n.catalog));
      };
      most = subst (λ (k : ℕ). k ≤ 64) (sym (as_many tables state.tables e)) (leb-true (length tables) 64 (and_left few names own));
      greatest = (items_of told.greatest (tables_told is.items) is.fits).most;
      names = each_carried TableNamesDiffer (λ t u h. h) (λ t u h. h) tables state.tables e (two_differ (λ (t u : Table). bytes_eq t.name u.name) tables (and_right few names own));
      tables = λ id. if_found IsSoundTable (λ (t : Table). t.id == id) state.tables each;
    }
