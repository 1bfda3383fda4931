-- A row gives up its references to long values, and each row in use stands for the record that it stood for.
use Rattle.std.proofs.Common.{◌≡◌, ℕ, ◌<◌, Bool, true, false, inl, inr, List, [], ◌∷◌, Option, Some, None, map, option_map, refl, sym, ap, subst, ◌∙◌, true≢false}
use Rattle.std.specs.Prelude.{◌==◌, IfSome, IsSome, IsTrue, bytes_eq, is_some, not, unwrap_or}
use Rattle.std.specs.List.{AllByRecursion}
use Rattle.std.proofs.lemmas.Bool.{eqb-true}
use Rattle.common_lemmas.proofs.Booleans.{and_right, by_test}
use Rattle.common_lemmas.proofs.Numbers.{same_bytes}
use Rattle.column_set.specs.RowReading.{row_in}
use Rattle.column_set.specs.Rows.{RowFields}
use Rattle.database_state.specs.State.{is_undone}
use Rattle.database_state.specs.Table.{Table, table_with_id}
use Rattle.table_trees.specs.ValuesChanged.{HasLongValues}
use Rattle.long_rows.specs.ReferenceCounts.{HasCounts, NewestRows, RowBefore, with_all_released}
use Rattle.long_rows.specs.RowReferences.{references}
use Rattle.long_rows.proofs.Taken.{ValueLaws}
use Rattle.long_rows.proofs.Totals.{itself}
use Rattle.long_rows.specs.RowsInUse.{IsInUse, newest, before as before_change}
use Rattle.long_rows.specs.WholeRows.{is_whole, record_in}
use Rattle.long_rows.proofs.InUse.{counted, is_there, stands_less}
use Rattle.long_value.specs.Values.{LongValue, Values, released, value_of, without_reference}
use Rattle.page_image.specs.Page.{Node}
use Rattle.table_trees.specs.StoredTables.{StoredIndex, StoredTable, long_value_of, table_long_values, table_nodes}
use Rattle.version_store.specs.HeldChanges.{HeldChange, is_rewrite, is_standing}
use Rattle.laws_engine.proofs.TableLemmas.Neighbours.{IsIn}
use Rattle.stored_variants.specs.CountedValues.{AreCounted, BringsNoValue, newest_rows, row_before, rows_before}
use Rattle.stored_variants.specs.RecordRows.{IsRecordRow, TableValues, held_record_in, row_under}
use Rattle.stored_variants.specs.VersionsKept.{AreKept, AreKeptWith, IsKeptChange, IsRowUnder}
use Rattle.stored_variants.specs.VersionsView.{with_newest, with_newest_by}
use Rattle.stored_variants.proofs.CountedRows.{all_members, amid, among_rows, own_row}
use Rattle.stored_variants.proofs.SameRecords.{AreInOrder, AreSame, HaveSameNodes, StaysSame, kept_moved, kept_with_others, newest_moved, same_held, same_newest_records}
use Rattle.stored_variants.proofs.Tables.{newest_is_row}
use Rattle.variant_trees.specs.GoneKeys.{KeepsValues}
use Rattle.variant_trees.specs.LeftVariants.{DistinctIds}
use Rattle.variant_trees.proofs.EntryTrees.{other_number}
use Rattle.variant_trees.proofs.LeftNodes.{numbers_needed}

-- ---- values that are not there

no_value : (values : Values) (id : List ℕ) → value_of id values ≡ None → without_reference id values ≡ values
no_value values id e = ap (λ (o : Option LongValue). unwrap_or (option_map (λ (v : LongValue). released id v values) o) values) e

none_beside : ValueLaws → (k x : List ℕ) (values : Values) → value_of x values ≡ None → value_of x (without_reference k values) ≡ None
none_beside laws k x values none =
    by_test (bytes_eq x k)
    (λ t. ap (value_of x) (no_value values k (ap (λ (id : List ℕ). value_of id values) (sym (same_bytes x k t)) ∙ none)) ∙ none)
    (λ f. laws.less_beside values k x (λ e. true≢false (sym (itself x) ∙ ap (bytes_eq x) e ∙ f)) ∙ none)

pub none_stays : ValueLaws → (ids : List (List ℕ)) (x : List ℕ) (values : Values) → value_of x values ≡ None → value_of x (with_all_released ids values) ≡ None
none_stays laws [] x values none = none
none_stays laws (id ∷ ids) x values none = none_stays laws ids x (without_reference id values) (none_beside laws id x values none)

-- ---- what is known of the trees before and after

-- The trees were kept, with the long values that the older ones have. One table has given up references, and each value is counted.
pub record Releases (laws : ValueLaws) (tables : List Table) (old mid new : List StoredTable) (id : ℕ) (ids : List (List ℕ)) (held : List HeldChange) : Type 0 where
  pub distinct : DistinctIds tables
  pub values : KeepsValues old mid
  pub kept : AreKeptWith (table_long_values old) tables mid held
  pub sorted : AreInOrder mid
  pub released : HasLongValues id (with_all_released ids (table_long_values mid id)) mid new
  pub counts : AreCounted new held

-- the long values of each table, as the newer trees have them
values_path : (old mid : List StoredTable) → KeepsValues old mid → table_long_values mid ≡ table_long_values old
values_path old mid same = λ i table. same table i

kept_mid : (laws : ValueLaws) (tables : List Table) (old mid new : List StoredTable) (id : ℕ) (ids : List (List ℕ)) (held : List HeldChange) → Releases laws tables old mid new id ids held → AreKept tables mid held
kept_mid laws tables old mid new id ids held r = subst (λ (longs : TableValues). AreKeptWith longs tables mid held) (sym (values_path old mid r.values)) r.kept

-- a row of another table reads the same values
untouched : (one other : Values) (row : List ℕ) → other ≡ one → IsRecordRow one row → StaysSame one other row
untouched one other row same is = record {
  shown = ap (λ (v : Values). record_in v (row_in row)) same;
  whole = subst (λ (v : Values). IsTrue (is_whole v (row_in row))) (sym same) is.whole;
}

-- and one that is in use reads what it read
pub used : (laws : ValueLaws) (ids : List (List ℕ)) (one other : Values) (rows : NewestRows) (held : List RowBefore) (row : List ℕ) → other ≡ with_all_released ids one → HasCounts other rows held → IsInUse rows held (row_in row) → IsRecordRow one row → StaysSame one other row
used laws ids one other rows held row same counts needed is =
    let stands = stands_less laws ids one rows held (row_in row) (record_in one (row_in row)) (subst (λ (v : Values). HasCounts v rows held) same counts) needed (record { formed = is.formed; whole = is.whole; shown = refl }) in
    subst (λ (v : Values). StaysSame one v row) (sym same) (record { shown = stands.shown; whole = stands.whole })

-- ---- each row in needed stands for its record

in_use : (laws : ValueLaws) (tables : List Table) (old mid new : List StoredTable) (id : ℕ) (ids : List (List ℕ)) (held : List HeldChange) → Releases laws tables old mid new id ids held
    → (table : ℕ) (row : List ℕ) → IsInUse (newest_rows (table_nodes mid table)) (rows_before table held) (row_in row) → IsRecordRow (table_long_values mid table) row → StaysSame (table_long_values mid table) (table_long_values new table) row
in_use laws tables old mid new id ids held r table row needed is = by (id == table) refl
  where
    counts : HasCounts (table_long_values new table) (newest_rows (table_nodes mid table)) (rows_before table held)
    counts = subst (λ (nodes : List Node). HasCounts (table_long_values new table) (newest_rows nodes) (rows_before table held)) (r.released.nodes table) (r.counts table)

    by : (b : Bool) → (id == table) ≡ b → StaysSame (table_long_values mid table) (table_long_values new table) row
    by true e =
        used laws ids (table_long_values mid table) (table_long_values new table) (newest_rows (table_nodes mid table)) (rows_before table held) row
        (subst (λ (n : ℕ). table_long_values new n ≡ with_all_released ids (table_long_values mid n)) (eqb-true id table e) r.released.named) counts needed is
    by false e = untouched (table_long_values mid table) (table_long_values new table) row (r.released.others table (λ same. other_number id table e (sym same))) is

are_same : (laws : ValueLaws) (tables : List Table) (old mid new : List StoredTable) (id : ℕ) (ids : List (List ℕ)) (held : List HeldChange) → Releases laws tables old mid new id ids held → AreSame (table_long_values mid) (table_long_values new) mid held
are_same laws tables old mid new id ids held r = record {
  newest = λ table bookmark. under table bookmark (row_under (table_nodes mid table) bookmark) refl;
  before = all_members (λ h. is_standing h ≡ true → IfSome h.before (StaysSame (table_long_values mid h.table) (table_long_values new h.table))) held (λ h i standing. before h i standing h.before refl);
}
  where
    kept : AreKept tables mid held
    kept = kept_mid laws tables old mid new id ids held r

    under : (table : ℕ) (bookmark : List ℕ) (o : Option (List ℕ)) → row_under (table_nodes mid table) bookmark ≡ o → IfSome o (StaysSame (table_long_values mid table) (table_long_values new table))
    under table bookmark None e = tt
    under table bookmark (Some row) e =
        in_use laws tables old mid new id ids held r table row
        (newest bookmark (own_row (table_nodes mid table) (r.sorted table) bookmark ∙ ap (option_map row_in) e))
        (subst (λ (o : Option (List ℕ)). IfSome o (IsRecordRow (table_long_values mid table))) e (newest_is_row (table_long_values mid) tables mid held kept table bookmark))

    own : (P : HeldChange → Type 0) (h : HeldChange) (hs : List HeldChange) → AllByRecursion P hs → IsIn h hs → P h
    own P h [] all i = absurd i
    own P h (x ∷ hs) all (inl same) = subst P same all.0
    own P h (x ∷ hs) all (inr i) = own P h hs all.1 i

    row_of : (o : Option Table) → is_some o ≡ true → (longs : Values) (bookmark row : List ℕ) → IfSome o (λ t. IsRowUnder longs t bookmark row) → IsRecordRow longs row
    row_of None some longs bookmark row is = absurd (true≢false (sym some))
    row_of (Some t) some longs bookmark row is = is.fits.row

    not_true : (b : Bool) → not b ≡ true → b ≡ false
    not_true true e = sym e
    not_true false e = refl

    before : (h : HeldChange) → IsIn h held → is_standing h ≡ true → (o : Option (List ℕ)) → h.before ≡ o → IfSome o (StaysSame (table_long_values mid h.table) (table_long_values new h.table))
    before h i standing None e = tt
    before h i standing (Some row) e =
        let change : IsKeptChange (table_long_values mid) tables mid h = own (IsKeptChange (table_long_values mid) tables mid) h held kept.changes i in
        let at = amid (row_before h) (rows_before h.table held) (among_rows h held i) in
        in_use laws tables old mid new id ids held r h.table row
        (before_change at.earlier at.later (row_before h) at.is (not_true (is_undone h.status) (and_right (is_rewrite h.kind) (not (is_undone h.status)) standing)) (ap (option_map row_in) e))
        (row_of (table_with_id tables h.table) change.named (table_long_values mid h.table) h.bookmark row
        (subst (λ (r : Option (List ℕ)). IfSome (table_with_id tables h.table) (λ t. IfSome r (IsRowUnder (table_long_values mid h.table) t h.bookmark))) e (change.before standing)))

-- ---- the store

same_nodes : (laws : ValueLaws) (tables : List Table) (old mid new : List StoredTable) (id : ℕ) (ids : List (List ℕ)) (held : List HeldChange) → Releases laws tables old mid new id ids held → HaveSameNodes mid new
same_nodes laws tables old mid new id ids held r = record {
  numbers =
      numbers_needed new mid tables r.distinct r.kept.numbers r.released.numbers (λ n. ap (λ (indexes : List StoredIndex). map (λ (x : StoredIndex). x.0) indexes) (r.released.indexes n))
      ∙ sym r.kept.numbers;
  nodes = r.released.nodes;
  indexes = r.released.indexes;
}

pub still_kept : (laws : ValueLaws) (tables : List Table) (old mid new : List StoredTable) (id : ℕ) (ids : List (List ℕ)) (held : List HeldChange) → Releases laws tables old mid new id ids held → AreKept tables new held
still_kept laws tables old mid new id ids held r =
    kept_moved (table_long_values new) mid new (same_nodes laws tables old mid new id ids held r) tables held
    (kept_with_others (table_long_values mid) (table_long_values new) tables mid held r.sorted (are_same laws tables old mid new id ids held r) (kept_mid laws tables old mid new id ids held r))

pub still_shown : (laws : ValueLaws) (tables : List Table) (old mid new : List StoredTable) (id : ℕ) (ids : List (List ℕ)) (held : List HeldChange) → Releases laws tables old mid new id ids held
    → map (with_newest new) tables ≡ map (with_newest_by (table_long_values old) mid) tables
still_shown laws tables old mid new id ids held r =
    newest_moved (table_long_values new) mid new (same_nodes laws tables old mid new id ids held r) tables
    ∙ same_newest_records (table_long_values mid) (table_long_values new) mid held r.sorted (are_same laws tables old mid new id ids held r) tables
    ∙ ap (λ (longs : TableValues). map (with_newest_by longs mid) tables) (values_path old mid r.values)

pub still_held : (laws : ValueLaws) (tables : List Table) (old mid new : List StoredTable) (id : ℕ) (ids : List (List ℕ)) (held : List HeldChange) → Releases laws tables old mid new id ids held
    → map (held_record_in (table_long_values new)) held ≡ map (held_record_in (table_long_values old)) held
still_held laws tables old mid new id ids held r =
    same_held (table_long_values mid) (table_long_values new) held (are_same laws tables old mid new id ids held r).before
    ∙ ap (λ (longs : TableValues). map (held_record_in longs) held) (values_path old mid r.values)

pub no_value_came : (laws : ValueLaws) (tables : List Table) (old mid new : List StoredTable) (id : ℕ) (ids : List (List ℕ)) (held : List HeldChange) → Releases laws tables old mid new id ids held → BringsNoValue old new
no_value_came laws tables old mid new id ids held r = λ table x none.
    let before : long_value_of mid table x ≡ None = ap (value_of x) (r.values table) ∙ none in
    by_test (id == table)
    (λ e. ap (value_of x) (subst (λ (n : ℕ). table_long_values new n ≡ with_all_released ids (table_long_values mid n)) (eqb-true id table e) r.released.named) ∙ none_stays laws ids x (table_long_values mid table) before)
    (λ e. ap (value_of x) (r.released.others table (λ same. other_number id table e (sym same))) ∙ before)

-- ---- a row that gives up its references

-- what a row in use names is there
pub named_is_there : (values : Values) (rows : NewestRows) (held : List RowBefore) (row : RowFields) → HasCounts values rows held → IsInUse rows held row → (id : List ℕ) → 0 < references id (Some row) → IsSome (value_of id values)
named_is_there values rows held row counts needed id some = is_there (value_of id values) (counted values rows held row id counts needed some)
