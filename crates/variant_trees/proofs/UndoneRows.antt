-- Long values once a put or a drop is undone: the row that was newest gives up its references, and each value is counted.
use Rattle.std.proofs.Common.{◌≡◌, ℕ, ◌<◌, Bool, true, false, cond, List, Option, Some, map, option_map, refl, sym, ap, subst, ◌∙◌}
use Rattle.std.specs.Prelude.{◌==◌, ◌++◌, ◌∷◌, IfSome, IsSome, is_some}
use Rattle.std.proofs.lemmas.Bool.{eqb-true}
use Rattle.column_set.specs.RecordValues.{lookup_by_key}
use Rattle.column_set.specs.RowReading.{row_in}
use Rattle.database_state.specs.State.{undone}
use Rattle.database_state.specs.Table.{Table, table_with_id}
use Rattle.table_trees.specs.ValuesChanged.{HasLongValues}
use Rattle.long_rows.specs.ReferenceCounts.{AreRows, HasCounts, NewestRows, RowBefore, as_undone, with_all_released, with_row}
use Rattle.long_rows.specs.RowReferences.{identifiers, references}
use Rattle.long_rows.proofs.Taken.{ValueLaws}
use Rattle.long_rows.specs.RowsInUse.{newest}
use Rattle.long_value.specs.Values.{Values, value_of}
use Rattle.table_trees.specs.StoredTables.{StoredTable, table_long_values, table_nodes}
use Rattle.version_store.specs.HeldChanges.{HeldChange, is_rewrite, undone_at}
use Rattle.stored_variants.specs.CountedValues.{AreCounted, newest_rows, row_before, rows_before}
use Rattle.stored_variants.specs.RecordRows.{IsRecordRow, row_under}
use Rattle.stored_variants.specs.VersionsKept.{AreKept, IsKeptChange}
use Rattle.stored_variants.specs.VersionsView.{with_newest, with_newest_by}
use Rattle.stored_variants.proofs.CountedRows.{AreUndone, others_undone, own_row, own_rows_are, own_undone}
use Rattle.stored_variants.proofs.SameRecords.{AreInOrder}
use Rattle.stored_variants.proofs.Tables.{newest_is_row}
use Rattle.variant_trees.specs.GoneKeys.{KeepsValues}
use Rattle.variant_trees.specs.UndoneChanges.{IsBack, WasOpen, rows_put_back, tables_put_back}
use Rattle.variant_trees.proofs.EntryTrees.{other_number}
use Rattle.variant_trees.proofs.OpenUndone.{all_place, before_is}
use Rattle.variant_trees.proofs.PutBack.{inverse_back}
use Rattle.variant_trees.proofs.Released.{Releases, named_is_there, no_value_came, still_held, still_kept, still_shown}
use Rattle.stored_variants.proofs.ChangesKept.{open_stands}

abbrev pub UndoneLaw : Type 0
UndoneLaw = (values : Values) (rows : NewestRows) (earlier later : List RowBefore) (change : RowBefore) → AreRows rows → change.is_undone ≡ false
    → HasCounts values rows (earlier ++ change ∷ later) → HasCounts (with_all_released (identifiers (lookup_by_key change.bookmark rows)) values) (with_row change.bookmark change.row rows) (earlier ++ as_undone change ∷ later)

pub undone_counted : UndoneLaw → (tables : List Table) (old mid new : List StoredTable) (now : List HeldChange) (place table : ℕ) (held : List HeldChange) (h : HeldChange) → WasOpen tables old now place table held h → AreInOrder old → KeepsValues old mid
    → ((other : ℕ) → newest_rows (table_nodes mid other) ≡ rows_put_back h table other (newest_rows (table_nodes old other)))
    → (ids : List (List ℕ)) → identifiers (option_map row_in (row_under (table_nodes old table) h.bookmark)) ≡ ids → HasLongValues table (with_all_released ids (table_long_values mid table)) mid new → AreCounted new now
undone_counted law tables old mid new now place table held h was sorted values rows ids names released = λ n.
    subst (λ (hs : List HeldChange). HasCounts (table_long_values new n) (newest_rows (table_nodes new n)) (rows_before n hs)) (sym was.after)
    (subst (λ (r : NewestRows). HasCounts (table_long_values new n) r (rows_before n after)) (sym (rows n) ∙ sym (ap newest_rows (released.nodes n))) (by n (table == n) refl))
  where
    after : List HeldChange
    after = undone_at (Some place) held

    own_rows : ℕ → NewestRows
    own_rows n = newest_rows (table_nodes old n)

    here : (n : ℕ) (b : Bool) → (table == n) ≡ b → rows_put_back h table n (own_rows n) ≡ cond b (with_row h.bookmark (option_map row_in h.before) (own_rows n)) (own_rows n)
    here n b e = ap (λ t. cond t (with_row h.bookmark (option_map row_in h.before) (own_rows n)) (own_rows n)) e

    named : (n : ℕ) → (table == n) ≡ true → identifiers (lookup_by_key h.bookmark (own_rows n)) ≡ ids
    named n e =
        ap identifiers (own_row (table_nodes old n) (sorted n) h.bookmark)
        ∙ (λ i. identifiers (option_map row_in (row_under (table_nodes old (sym (eqb-true table n e) i)) h.bookmark)))
        ∙ names

    by : (n : ℕ) (b : Bool) → (table == n) ≡ b → HasCounts (table_long_values new n) (rows_put_back h table n (own_rows n)) (rows_before n after)
    by n true e =
        let own : (h.table == n) ≡ true = ap (λ m. m == n) was.named ∙ e in
        let u : AreUndone n place h held = own_undone n place h held own was.at in
        let now_has : table_long_values new n ≡ with_all_released ids (table_long_values old n) =
        subst (λ (m : ℕ). table_long_values new m ≡ with_all_released ids (table_long_values mid m)) (eqb-true table n e) released.named
        ∙ ap (with_all_released ids) (values n) in
        subst (λ (r : NewestRows). HasCounts (table_long_values new n) r (rows_before n after)) (sym (here n true e))
        (subst (HasCounts (table_long_values new n) (with_row h.bookmark (option_map row_in h.before) (own_rows n))) (sym u.is)
        (subst (λ (v : Values). HasCounts v (with_row h.bookmark (option_map row_in h.before) (own_rows n)) (u.earlier ++ as_undone (row_before h) ∷ u.later))
        (ap (λ (names : List (List ℕ)). with_all_released names (table_long_values old n)) (named n e) ∙ sym now_has)
        (law (table_long_values old n) (own_rows n) u.earlier u.later (row_before h) (own_rows_are (table_nodes old n) (sorted n)) (open_stands h.status was.is_uncommitted)
        (subst (HasCounts (table_long_values old n) (own_rows n)) u.was (was.counts n)))))
    by n false e =
        let other : (h.table == n) ≡ false = ap (λ m. m == n) was.named ∙ e in
        subst (λ (r : NewestRows). HasCounts (table_long_values new n) r (rows_before n after)) (sym (here n false e))
        (subst (HasCounts (table_long_values new n) (own_rows n)) (sym (others_undone n place h held other was.at))
        (subst (λ (v : Values). HasCounts v (own_rows n) (rows_before n held)) (sym (released.others n (λ same. other_number table n e (sym same)) ∙ values n)) (was.counts n)))

-- ---- the row that was newest

-- it stands for a record
pub newest_spelled : (tables : List Table) (old : List StoredTable) (held : List HeldChange) → AreKept tables old held → (table : ℕ) (bookmark row : List ℕ) → row_under (table_nodes old table) bookmark ≡ Some row → IsRecordRow (table_long_values old table) row
newest_spelled tables old held kept table bookmark row e = subst (λ (o : Option (List ℕ)). IfSome o (IsRecordRow (table_long_values old table))) e (newest_is_row (table_long_values old) tables old held kept table bookmark)

-- what it names is there
pub newest_there : (old : List StoredTable) (held : List HeldChange) → AreCounted old held → AreInOrder old → (table : ℕ) (bookmark row : List ℕ) → row_under (table_nodes old table) bookmark ≡ Some row → (id : List ℕ) → 0 < references id (Some (row_in row)) → IsSome (value_of id (table_long_values old table))
newest_there old held counts sorted table bookmark row e id some =
    named_is_there (table_long_values old table) (newest_rows (table_nodes old table)) (rows_before table held) (row_in row) (counts table)
    (newest bookmark (own_row (table_nodes old table) (sorted table) bookmark ∙ ap (option_map row_in) e)) id some

pub change_named : (tables : List Table) (old : List StoredTable) (now : List HeldChange) (place table : ℕ) (held : List HeldChange) (h : HeldChange) → WasOpen tables old now place table held h → is_some (table_with_id tables table) ≡ true
change_named tables old now place table held h was = ap (λ n. is_some (table_with_id tables n)) (sym was.named) ∙ (all_place (IsKeptChange (table_long_values old) tables old) held place h was.kept.changes was.at).named

-- ---- the store

-- a row that has given up nothing
pub gives_up_nothing : (table : ℕ) (trees : List StoredTable) → HasLongValues table (table_long_values trees table) trees trees
gives_up_nothing table trees = record { named = refl; others = λ other apart. refl; nodes = λ other. refl; indexes = λ other. refl; numbers = refl }

pub is_back : (laws : ValueLaws) (tables : List Table) (old mid new : List StoredTable) (now : List HeldChange) (place table : ℕ) (held : List HeldChange) (h : HeldChange) → WasOpen tables old now place table held h → is_rewrite h.kind ≡ true
    → (ids : List (List ℕ)) → Releases laws tables old mid new table ids now → map (with_newest_by (table_long_values old) mid) tables ≡ tables_put_back (table_long_values old table) (map (with_newest old) tables) h → IsBack tables old new now h
is_back laws tables old mid new now place table held h was rewrites ids r shown = record {
  kept = still_kept laws tables old mid new table ids now r;
  counts = r.counts;
  shown =
      still_shown laws tables old mid new table ids now r ∙ shown
      ∙ (λ i. tables_put_back (table_long_values old (sym was.named i)) (map (with_newest old) tables) h)
      ∙ sym (inverse_back (table_long_values old) (map (with_newest old) tables) h rewrites (before_is (table_long_values old) h rewrites was.is_uncommitted));
  held = still_held laws tables old mid new table ids now r;
  values = no_value_came laws tables old mid new table ids now r;
}
