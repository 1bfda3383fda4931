-- What is left of a variant that is none any more goes: its keys, and the node where it was the last.
use Rattle.std.proofs.Common.{◌≡◌, ℕ, ◌≤◌, Bool, true, false, not, ◌&&◌, ◌||◌, cond, List, [], ◌∷◌, length, Option, Some, None, find, map, option_map, refl, sym, ap, subst, ◌∙◌}
use Rattle.std.specs.Prelude.{◌==◌, IfSome, IsSomeAnd, bytes_eq, is_some, option_and_then, unwrap_or}
use Rattle.std.specs.List.{AllByRecursion, list_any}
use Rattle.std.proofs.lemmas.Bool.{eqb-true, or_left, or_right}
use Rattle.common_lemmas.proofs.Booleans.{and_left, and_right, impossible}
use Rattle.common_lemmas.proofs.Numbers.{bytes_turned, same_bytes, self_equal}
use Rattle.btree_inplace.specs.Order.{extent_in, get_in, has_key}
use Rattle.column_set.specs.RecordValues.{RecordFields}
use Rattle.database_state.specs.State.{is_open}
use Rattle.database_state.specs.Table.{Rows, Table, row_at, schema_of, table_with_id}
use Rattle.index_derive.specs.Schemas.{rule_with_id}
use Rattle.laws_versions.specs.KeptEntries.{has_entry}
use Rattle.index_derive.specs.declared.rules.IndexRule.{IndexRule}
use Rattle.index_derive.specs.declared.rules.Schema.{Schema}
use Rattle.page_image.specs.Page.{Node}
use Rattle.table_trees.specs.StoredTables.{StoredIndex, StoredTable, has_table, index_entries, is_index, is_table, part_of, table_nodes}
use Rattle.version_store.specs.HeldChanges.{HeldChange, is_rewrite}
use Rattle.laws_engine.specs.HeldRecords.{HeldRecord, is_standing_rewrite}
use Rattle.laws_engine.specs.Variants.{HoldsVariants, has_variant, is_variant_key}
use Rattle.stored_variants.specs.RecordRows.{TableValues, some_before, held_record_in, record_of, row_in_node, row_under, rows_of_nodes}
use Rattle.variant_trees.specs.GoneKeys.{ChangesEntries, LosesRecord, index_numbers, is_gone_key, table_numbers}
use Rattle.variant_trees.specs.LeftVariants.{AreLeft, DistinctIds, IsLeft, LosesNode, is_this}
use Rattle.stored_variants.specs.VersionsView.{with_newest_by}
use Rattle.stored_variants.specs.VersionsKept.{AreKeptWith, IsKeptChange, IsKeptTable, IsRowUnder, needed_trees, only_secondary, secondary_rule, tree_numbers}
use Rattle.variant_trees.proofs.EntryTrees.{no_part, other_number}
use Rattle.variant_trees.proofs.TreeNumbers.{first_or_none, is_empty}
use Rattle.stored_variants.proofs.Tables.{found_number, others}
use Rattle.stored_variants.proofs.ChangesKept.{open_stands}

-- ---- numbers

abbrev first_of : List ℕ → ℕ
first_of [] = 0
first_of (n ∷ ns) = n

abbrev rest_of : List ℕ → List ℕ
rest_of [] = []
rest_of (n ∷ ns) = ns

abbrev is_none_left : List ℕ → Bool
is_none_left [] = true
is_none_left (n ∷ ns) = false

same_ids : (trees : List StoredTable) (tables : List Table) → map tree_numbers trees ≡ map needed_trees tables → (n : ℕ) → has_table trees n ≡ list_any (λ (x : Table). x.id == n) tables
same_ids [] [] same n = refl
same_ids [] (t ∷ tables) same n = impossible (sym (ap is_empty same))
same_ids (x ∷ trees) [] same n = impossible (ap is_empty same)
same_ids (x ∷ trees) (t ∷ tables) same n = λ i. ((first_or_none (same i)).0 == n) || same_ids trees tables (ap others same) n i

same_has : (new trees : List StoredTable) → table_numbers new ≡ table_numbers trees → (n : ℕ) → has_table new n ≡ has_table trees n
same_has [] [] same n = refl
same_has [] (y ∷ trees) same n = impossible (sym (ap is_none_left same))
same_has (x ∷ new) [] same n = impossible (ap is_none_left same)
same_has (x ∷ new) (y ∷ trees) same n = λ i. (first_of (same i) == n) || same_has new trees (ap rest_of same) n i

no_indexes : (trees : List StoredTable) (n : ℕ) → has_table trees n ≡ false → index_numbers trees n ≡ []
no_indexes trees n none = ap (map (λ (x : StoredIndex). x.0)) (no_part (is_table n) (λ x. x.indexes) trees none)

own_indexes : (x : StoredTable) (trees : List StoredTable) (n : ℕ) → x.number ≡ n → index_numbers (x ∷ trees) n ≡ map (λ (i : StoredIndex). i.0) x.indexes
own_indexes x trees n is =
    ap (index_numbers (x ∷ trees)) (sym is)
    ∙ ap (λ (b : Bool). map (λ (i : StoredIndex). i.0) (unwrap_or (option_map (λ (y : StoredTable). y.indexes) (cond b (Some x) (find (is_table x.number) trees))) [])) (self_equal x.number)

-- tables with the same numbers and the same indexes are those that are needed
pub numbers_needed : (new trees : List StoredTable) (tables : List Table) → DistinctIds tables → map tree_numbers trees ≡ map needed_trees tables → table_numbers new ≡ table_numbers trees → ((n : ℕ) → index_numbers new n ≡ index_numbers trees n) → map tree_numbers new ≡ map needed_trees tables
numbers_needed [] [] tables ids needed same indexes = needed
numbers_needed [] (y ∷ trees) tables ids needed same indexes = impossible (sym (ap is_none_left same))
numbers_needed (x ∷ new) [] tables ids needed same indexes = impossible (ap is_none_left same)
numbers_needed (x ∷ new) (y ∷ trees) [] ids needed same indexes = impossible (ap is_empty needed)
numbers_needed (x ∷ new) (y ∷ trees) (t ∷ tables) ids needed same indexes =
    λ i. (here ∙ ap first_or_none needed) i ∷ numbers_needed new trees tables ids.1 (ap others needed) (ap rest_of same) (λ n. later n (y.number == n) refl) i
  where
    number : x.number ≡ y.number
    number = ap first_of same

    here : tree_numbers x ≡ tree_numbers y
    here = λ i. (number i, (sym (own_indexes x new y.number number) ∙ indexes y.number ∙ own_indexes y trees y.number refl) i)

    none : (n : ℕ) → (y.number == n) ≡ true → has_table trees n ≡ false
    none n e = same_ids trees tables (ap others needed) n ∙ ap (λ (m : ℕ). list_any (λ (z : Table). z.id == m) tables) (sym (eqb-true y.number n e) ∙ ap (λ (p : ℕ × List ℕ). p.0) (ap first_or_none needed)) ∙ ids.0

    past : (z : StoredTable) (zs : List StoredTable) (n : ℕ) → (z.number == n) ≡ false → index_numbers (z ∷ zs) n ≡ index_numbers zs n
    past z zs n e = ap (λ (b : Bool). map (λ (i : StoredIndex). i.0) (unwrap_or (option_map (λ (y : StoredTable). y.indexes) (cond b (Some z) (find (is_table n) zs))) [])) e

    later : (n : ℕ) (b : Bool) → (y.number == n) ≡ b → index_numbers new n ≡ index_numbers trees n
    later n true e = no_indexes new n (same_has new trees (ap rest_of same) n ∙ none n e) ∙ sym (no_indexes trees n (none n e))
    later n false e = sym (past x new n (ap (λ m. m == n) number ∙ e)) ∙ indexes n ∙ past y trees n e

-- ---- a table

-- what is known of the trees before and after
pub record Goes (newest : Option RecordFields) (held : List HeldRecord) (schema : Schema) (id : ℕ) (bookmark : List ℕ) (gone : RecordFields) (old between new : List StoredTable) : Type 0 where
  pub changes : ChangesEntries id old between
  pub keys : LosesRecord newest held schema id bookmark gone old between
  pub node : LosesNode (has_variant newest held id bookmark) id bookmark between new

rows_stay : (longs : TableValues) (newest : Option RecordFields) (held : List HeldRecord) (schema : Schema) (id : ℕ) (bookmark : List ℕ) (gone : RecordFields) (old between new : List StoredTable) → Goes newest held schema id bookmark gone old between new
    → (table : ℕ) → rows_of_nodes (longs table) (table_nodes new table) ≡ rows_of_nodes (longs table) (table_nodes old table)
rows_stay longs newest held schema id bookmark gone old between new goes table = goes.node.rows (longs table) table ∙ ap (rows_of_nodes (longs table)) (goes.changes.nodes table)

found_then : (newest : Option RecordFields) (held : List HeldRecord) (schema : Schema) (id : ℕ) (bookmark : List ℕ) (gone : RecordFields) (old between new : List StoredTable) → Goes newest held schema id bookmark gone old between new
    → (table : ℕ) (own : List ℕ) → find (has_key own) (table_nodes new table) ≡ cond (not (has_variant newest held id bookmark) && is_this id bookmark table own) None (find (has_key own) (table_nodes old table))
found_then newest held schema id bookmark gone old between new goes table own =
    goes.node.nodes table own
    ∙ ap (λ nodes. cond (not (has_variant newest held id bookmark) && is_this id bookmark table own) None (find (has_key own) nodes)) (goes.changes.nodes table)

-- the record is the one
this_table : (id : ℕ) (bookmark : List ℕ) (table : ℕ) (own : List ℕ) → is_this id bookmark table own ≡ true → id ≡ table
this_table id bookmark table own e = eqb-true id table (and_left (id == table) (bytes_eq bookmark own) e)

this_bookmark : (id : ℕ) (bookmark : List ℕ) (table : ℕ) (own : List ℕ) → is_this id bookmark table own ≡ true → bookmark ≡ own
this_bookmark id bookmark table own e = same_bytes bookmark own (and_right (id == table) (bytes_eq bookmark own) e)

pub table_kept_then : (longs : TableValues) (newest : Option RecordFields) (held : List HeldRecord) (schema : Schema) (id : ℕ) (bookmark : List ℕ) (gone : RecordFields) (old between new : List StoredTable) → Goes newest held schema id bookmark gone old between new
    → newest ≡ row_at (rows_of_nodes (longs id) (table_nodes old id)) bookmark → (t : Table) → (t.id ≡ id → schema ≡ schema_of t)
    → IsLeft old (longs t.id) (table_nodes old t.id) held id bookmark gone t → IsKeptTable new (longs t.id) (table_nodes new t.id) held t
table_kept_then longs newest held schema id bookmark gone old between new goes is_newest t same_schema left = record {
  rules = left.rules;
  rows = λ own.
      subst (λ (o : Option Node). IfSome (option_and_then row_in_node (option_map (λ (n : Node). n.data) o)) (IsRowUnder (longs t.id) t own)) (sym (found_then newest held schema id bookmark gone old between new goes t.id own))
      (row_left own (not (has_variant newest held id bookmark) && is_this id bookmark t.id own) (left.rows own));
  stands = λ own.
      ap (λ (o : Option Node). is_some (option_map (λ (n : Node). n.data) o)) (found_then newest held schema id bookmark gone old between new goes t.id own)
      ∙ node_left own (is_this id bookmark t.id own) refl
      ∙ sym (left.stands own)
      ∙ ap (λ (rows : Rows). has_variant (row_at rows own) held t.id own) (sym (rows_stay longs newest held schema id bookmark gone old between new goes t.id));
  entries = λ index. entries_left index (secondary_rule t index) refl (left.entries index);
}
  where
    row_left : (own : List ℕ) (b : Bool) → IfSome (row_under (table_nodes old t.id) own) (IsRowUnder (longs t.id) t own)
        → IfSome (option_and_then row_in_node (option_map (λ (n : Node). n.data) (cond b None (find (has_key own) (table_nodes old t.id))))) (IsRowUnder (longs t.id) t own)
    row_left own true is = tt
    row_left own false is = is

    left_here : (own : List ℕ) → is_this id bookmark t.id own ≡ true → has_variant newest held id bookmark ≡ has_variant (row_at (rows_of_nodes (longs t.id) (table_nodes old t.id)) own) held t.id own
    left_here own e =
        ap (λ n. has_variant n held id bookmark) is_newest
        ∙ (λ i. has_variant (row_at (rows_of_nodes (longs (this_table id bookmark t.id own e i)) (table_nodes old (this_table id bookmark t.id own e i))) (this_bookmark id bookmark t.id own e i)) held (this_table id bookmark t.id own e i) (this_bookmark id bookmark t.id own e i))

    taken_node : (v : Bool) (o : Option Node) → is_some (option_map (λ (n : Node). n.data) (cond (not v && true) None o)) ≡ (is_some (option_map (λ (n : Node). n.data) o) && not (true && not v))
    taken_node true None = refl
    taken_node true (Some n) = refl
    taken_node false None = refl
    taken_node false (Some n) = refl

    other_node : (v w : Bool) (o : Option Node) → is_some (option_map (λ (n : Node). n.data) (cond (not v && false) None o)) ≡ (is_some (option_map (λ (n : Node). n.data) o) && not (false && not w))
    other_node true w None = refl
    other_node true w (Some n) = refl
    other_node false w None = refl
    other_node false w (Some n) = refl

    node_left : (own : List ℕ) (b : Bool) → is_this id bookmark t.id own ≡ b
        → is_some (option_map (λ (n : Node). n.data) (cond (not (has_variant newest held id bookmark) && is_this id bookmark t.id own) None (find (has_key own) (table_nodes old t.id))))
        ≡ (is_some (get_in (table_nodes old t.id) own) && not (is_this id bookmark t.id own && not (has_variant (row_at (rows_of_nodes (longs t.id) (table_nodes old t.id)) own) held t.id own)))
    node_left own true e =
        (λ i. is_some (option_map (λ (n : Node). n.data) (cond (not (left_here own e i) && e i) None (find (has_key own) (table_nodes old t.id)))))
        ∙ taken_node (has_variant (row_at (rows_of_nodes (longs t.id) (table_nodes old t.id)) own) held t.id own) (find (has_key own) (table_nodes old t.id))
        ∙ (λ i. is_some (get_in (table_nodes old t.id) own) && not (sym e i && not (has_variant (row_at (rows_of_nodes (longs t.id) (table_nodes old t.id)) own) held t.id own)))
    node_left own false e =
        (λ i. is_some (option_map (λ (n : Node). n.data) (cond (not (has_variant newest held id bookmark) && e i) None (find (has_key own) (table_nodes old t.id)))))
        ∙ other_node (has_variant newest held id bookmark) (has_variant (row_at (rows_of_nodes (longs t.id) (table_nodes old t.id)) own) held t.id own) (find (has_key own) (table_nodes old t.id))
        ∙ (λ i. is_some (get_in (table_nodes old t.id) own) && not (sym e i && not (has_variant (row_at (rows_of_nodes (longs t.id) (table_nodes old t.id)) own) held t.id own)))

    same_entries : (index : ℕ) → index_entries new t.id index ≡ index_entries between t.id index
    same_entries index = ap (λ (indexes : List StoredIndex). part_of (is_index index) (λ x. x.1) indexes) (goes.node.indexes t.id)

    nothing : (a : Bool) → a ≡ (a && true)
    nothing true = refl
    nothing false = refl

    -- the keys that the record loses are those that are left
    gone_keys : (index : ℕ) (rule : IndexRule) → secondary_rule t index ≡ Some rule → (key own : List ℕ) (b : Bool) → (id == t.id) ≡ b
        → has_entry key own (index_entries between t.id index) ≡ (has_entry key own (index_entries old t.id index) && not (is_this id bookmark t.id own && is_gone_key (row_at (rows_of_nodes (longs t.id) (table_nodes old t.id)) own) held rule (schema_of t) t.id own gone key))
    gone_keys index rule found key own false e =
        ap (has_entry key own) (goes.changes.entries t.id index (λ same. other_number id t.id e (sym same)))
        ∙ nothing (has_entry key own (index_entries old t.id index))
        ∙ ap (λ b. has_entry key own (index_entries old t.id index) && not (b && is_gone_key (row_at (rows_of_nodes (longs t.id) (table_nodes old t.id)) own) held rule (schema_of t) t.id own gone key)) (sym (ap (λ b. b && bytes_eq bookmark own) e))
    gone_keys index rule found key own true e =
        subst (λ (n : ℕ). has_entry key own (index_entries between n index) ≡ (has_entry key own (index_entries old n index) && not (bytes_eq own bookmark && is_gone_key newest held rule schema id bookmark gone key))) (eqb-true id t.id e) (lost key own)
        ∙ ap (λ b. has_entry key own (index_entries old t.id index) && not b) (this (bytes_eq own bookmark) refl)
      where
        rule_is : only_secondary (rule_with_id schema index) ≡ Some rule
        rule_is = ap (λ (s : Schema). only_secondary (rule_with_id s index)) (same_schema (sym (eqb-true id t.id e))) ∙ found

        lost : (key own : List ℕ) → has_entry key own (index_entries between id index) ≡ (has_entry key own (index_entries old id index) && not (bytes_eq own bookmark && is_gone_key newest held rule schema id bookmark gone key))
        lost = subst (λ (o : Option IndexRule). IfSome o (λ r. (key own : List ℕ) → has_entry key own (index_entries between id index) ≡ (has_entry key own (index_entries old id index) && not (bytes_eq own bookmark && is_gone_key newest held r schema id bookmark gone key)))) rule_is (goes.keys index)

        this : (b : Bool) → bytes_eq own bookmark ≡ b
            → (bytes_eq own bookmark && is_gone_key newest held rule schema id bookmark gone key) ≡ (is_this id bookmark t.id own && is_gone_key (row_at (rows_of_nodes (longs t.id) (table_nodes old t.id)) own) held rule (schema_of t) t.id own gone key)
        this true f =
            ap (λ n. bytes_eq own bookmark && is_gone_key n held rule schema id bookmark gone key) is_newest
            ∙ (λ i. bytes_eq own bookmark && is_gone_key (row_at (rows_of_nodes (longs (eqb-true id t.id e i)) (table_nodes old (eqb-true id t.id e i))) (sym (same_bytes own bookmark f) i)) held rule (same_schema (sym (eqb-true id t.id e)) i) (eqb-true id t.id e i) (sym (same_bytes own bookmark f) i) gone key)
            ∙ ap (λ b. b && is_gone_key (row_at (rows_of_nodes (longs t.id) (table_nodes old t.id)) own) held rule (schema_of t) t.id own gone key) (bytes_turned own bookmark ∙ sym (ap (λ b. b && bytes_eq bookmark own) e))
        this false f =
            ap (λ b. b && is_gone_key newest held rule schema id bookmark gone key) f
            ∙ sym (ap (λ b. b && is_gone_key (row_at (rows_of_nodes (longs t.id) (table_nodes old t.id)) own) held rule (schema_of t) t.id own gone key) (ap (λ b. b && bytes_eq bookmark own) e ∙ sym (bytes_turned own bookmark) ∙ f))

    entries_left : (index : ℕ) (o : Option IndexRule) → secondary_rule t index ≡ o
        → IfSome o (λ rule. (key own : List ℕ) → is_variant_key (row_at (rows_of_nodes (longs t.id) (table_nodes old t.id)) own) held rule (schema_of t) t.id key own
        ≡ (has_entry key own (index_entries old t.id index) && not (is_this id bookmark t.id own && is_gone_key (row_at (rows_of_nodes (longs t.id) (table_nodes old t.id)) own) held rule (schema_of t) t.id own gone key)))
        → IfSome o (λ rule. HoldsVariants (rows_of_nodes (longs t.id) (table_nodes new t.id)) held rule (schema_of t) t.id (index_entries new t.id index))
    entries_left index None found h = tt
    entries_left index (Some rule) found h = λ key own.
        ap (has_entry key own) (same_entries index)
        ∙ gone_keys index rule found key own (id == t.id) refl
        ∙ sym (h key own)
        ∙ ap (λ (rows : Rows). is_variant_key (row_at rows own) held rule (schema_of t) t.id key own) (sym (rows_stay longs newest held schema id bookmark gone old between new goes t.id))

-- ---- held changes

-- an open change with a row before it leaves a variant
leaves_one : (longs : TableValues) (tables : List Table) (trees : List StoredTable) (id : ℕ) (bookmark : List ℕ) (h : HeldChange) → IsKeptChange longs tables trees h → is_open h.status ≡ true → is_some h.before ≡ true → is_this id bookmark h.table h.bookmark ≡ true
    → (is_standing_rewrite id bookmark (held_record_in longs h) && is_some (held_record_in longs h).before) ≡ true
leaves_one longs tables trees id bookmark h kept is_uncommitted some this =
    by (is_rewrite h.kind) refl
  where
    here : ((h.table == id) && bytes_eq h.bookmark bookmark) ≡ true
    here =
        (λ i. (sym (this_table id bookmark h.table h.bookmark this) i == id) && bytes_eq (sym (this_bookmark id bookmark h.table h.bookmark this) i) bookmark)
        ∙ (λ i. self_equal id i && self_bytes bookmark i)
      where
        self_bytes : (a : List ℕ) → bytes_eq a a ≡ true
        self_bytes [] = refl
        self_bytes (x ∷ xs) = λ i. self_equal x i && self_bytes xs i

    no_row : (o : Option (List ℕ)) → o ≡ None → is_some o ≡ true → false ≡ true
    no_row o e s = sym (ap is_some e) ∙ s

    mapped : (o : Option (List ℕ)) → is_some o ≡ true → is_some (option_map (record_of (longs h.table)) o) ≡ true
    mapped None e = e
    mapped (Some row) e = refl

    by : (b : Bool) → is_rewrite h.kind ≡ b → (is_standing_rewrite id bookmark (held_record_in longs h) && is_some (held_record_in longs h).before) ≡ true
    by true e =
        (λ i. (here i && e i && not (open_stands h.status is_uncommitted i)) && is_some (cond (e i && not (open_stands h.status is_uncommitted i)) (option_map (record_of (longs h.table)) h.before) None))
        ∙ mapped h.before some
    by false e = impossible (no_row h.before (kept.other e) some)

change_kept_then : (longs : TableValues) (newest : Option RecordFields) (all : List HeldRecord) (schema : Schema) (id : ℕ) (bookmark : List ℕ) (gone : RecordFields) (old between new : List StoredTable) → Goes newest all schema id bookmark gone old between new
    → (tables : List Table) (h : HeldChange) → ((is_standing_rewrite id bookmark (held_record_in longs h) && is_some (held_record_in longs h).before) ≡ true → has_variant newest all id bookmark ≡ true) → IsKeptChange longs tables old h → IsKeptChange longs tables new h
change_kept_then longs newest all schema id bookmark gone old between new goes tables h leaves kept = record {
  named = kept.named;
  before = kept.before;
  drop = kept.drop;
  room = λ is_uncommitted. room is_uncommitted h.before refl (kept.room is_uncommitted);
  other = kept.other;
  sum = kept.sum;
}
  where
    taken : Bool
    taken = not (has_variant newest all id bookmark) && is_this id bookmark h.table h.bookmark

    no : (v t : Bool) → (t ≡ true → v ≡ true) → (not v && t) ≡ false
    no true t f = refl
    no false true f = impossible (f refl)
    no false false f = refl

    room : is_open h.status ≡ true → (o : Option (List ℕ)) → h.before ≡ o → IfSome o (λ row. IsSomeAnd (extent_in (table_nodes old h.table) h.bookmark) (λ extent. length row ≤ extent))
        → IfSome o (λ row. IsSomeAnd (extent_in (table_nodes new h.table) h.bookmark) (λ extent. length row ≤ extent))
    room is_uncommitted None e has = tt
    room is_uncommitted (Some row) e has =
        subst (λ (found : Option Node). IsSomeAnd (option_map (λ (n : Node). n.extent) found) (λ extent. length row ≤ extent))
        (sym (found_then newest all schema id bookmark gone old between new goes h.table h.bookmark ∙ ap (λ b. cond b None (find (has_key h.bookmark) (table_nodes old h.table))) none_taken)) has
      where
        none_taken : taken ≡ false
        none_taken = no (has_variant newest all id bookmark) (is_this id bookmark h.table h.bookmark) (λ this. leaves (leaves_one longs tables old id bookmark h kept is_uncommitted (ap is_some e) this))

changes_kept_then : (longs : TableValues) (newest : Option RecordFields) (all : List HeldRecord) (schema : Schema) (id : ℕ) (bookmark : List ℕ) (gone : RecordFields) (old between new : List StoredTable) → Goes newest all schema id bookmark gone old between new
    → (tables : List Table) (held : List HeldChange) → (some_before is_some id bookmark (map (held_record_in longs) held) ≡ true → has_variant newest all id bookmark ≡ true) → AllByRecursion (IsKeptChange longs tables old) held → AllByRecursion (IsKeptChange longs tables new) held
changes_kept_then longs newest all schema id bookmark gone old between new goes tables [] leaves kept = tt
changes_kept_then longs newest all schema id bookmark gone old between new goes tables (h ∷ held) leaves kept = (
  change_kept_then longs newest all schema id bookmark gone old between new goes tables h (λ e. leaves (or_left (is_standing_rewrite id bookmark (held_record_in longs h) && is_some (held_record_in longs h).before) (some_before is_some id bookmark (map (held_record_in longs) held)) e)) kept.0,
  changes_kept_then longs newest all schema id bookmark gone old between new goes tables held (λ e. leaves (or_right (is_standing_rewrite id bookmark (held_record_in longs h) && is_some (held_record_in longs h).before) (some_before is_some id bookmark (map (held_record_in longs) held)) e)) kept.1,
)

-- ---- the store

pub left_goes : (longs : TableValues) (newest : Option RecordFields) (held : List HeldChange) (schema : Schema) (id : ℕ) (bookmark : List ℕ) (gone : RecordFields) (old between new : List StoredTable) → Goes newest (map (held_record_in longs) held) schema id bookmark gone old between new
    → newest ≡ row_at (rows_of_nodes (longs id) (table_nodes old id)) bookmark → (tables : List Table) → DistinctIds tables → IfSome (table_with_id tables id) (λ t. schema ≡ schema_of t) → AreLeft longs tables old held id bookmark gone → AreKeptWith longs tables new held
left_goes longs newest held schema id bookmark gone old between new goes is_newest tables ids same_schema left = record {
  plain = left.plain;
  numbers = goes.node.numbers ∙ numbers_needed between old tables ids left.numbers goes.changes.numbers goes.changes.indexes;
  each = λ table. each table (table_with_id tables table) refl (left.each table);
  changes = changes_kept_then longs newest (map (held_record_in longs) held) schema id bookmark gone old between new goes tables held (λ e. or_right (is_some newest) (some_before is_some id bookmark (map (held_record_in longs) held)) e) left.changes;
}
  where
    each : (table : ℕ) (o : Option Table) → table_with_id tables table ≡ o → IfSome o (IsLeft old (longs table) (table_nodes old table) (map (held_record_in longs) held) id bookmark gone) → IfSome o (IsKeptTable new (longs table) (table_nodes new table) (map (held_record_in longs) held))
    each table None e is = tt
    each table (Some t) e is =
        let found : t.id ≡ table = found_number table tables t e in
        subst (λ (n : ℕ). IsKeptTable new (longs n) (table_nodes new n) (map (held_record_in longs) held) t) found
        (table_kept_then longs newest (map (held_record_in longs) held) schema id bookmark gone old between new goes is_newest t
        (λ same. subst (λ (o : Option Table). IfSome o (λ u. schema ≡ schema_of u)) (ap (table_with_id tables) (sym same ∙ found) ∙ e) same_schema)
        (subst (λ (n : ℕ). IsLeft old (longs n) (table_nodes old n) (map (held_record_in longs) held) id bookmark gone t) (sym found) is))

pub rows_then : (longs : TableValues) (newest : Option RecordFields) (held : List HeldRecord) (schema : Schema) (id : ℕ) (bookmark : List ℕ) (gone : RecordFields) (old between new : List StoredTable) → Goes newest held schema id bookmark gone old between new
    → (tables : List Table) → map (with_newest_by longs new) tables ≡ map (with_newest_by longs old) tables
rows_then longs newest held schema id bookmark gone old between new goes [] = refl
rows_then longs newest held schema id bookmark gone old between new goes (t ∷ tables) =
    λ i. record t { rows = rows_stay longs newest held schema id bookmark gone old between new goes t.id i } ∷ rows_then longs newest held schema id bookmark gone old between new goes tables i
