-- An open change is undone: what the trees keep and show.
use Rattle.std.proofs.Common.{◌≡◌, ℕ, zero, suc, ◌+◌, ◌≤◌, Bool, true, false, not, ◌&&◌, ◌||◌, cond, List, [], ◌∷◌, length, Option, Some, None, map, option_map, refl, sym, ap, subst, ◌∙◌}
use Rattle.std.specs.Prelude.{IfSome, IsSomeAnd, is_some, slice_get, sum_by}
use Rattle.std.specs.List.{AllByRecursion}
use Rattle.common_lemmas.proofs.Options.{none_some, same_some}
use Rattle.common_lemmas.proofs.Booleans.{and_right, impossible}
use Rattle.btree_inplace.specs.Order.{extent_in}
use Rattle.database_state.specs.Changes.{tables_after}
use Rattle.database_state.specs.State.{undone, is_open, is_undone}
use Rattle.database_state.specs.Table.{Table, schema_of, table_with_id}
use Rattle.index_derive.specs.declared.rules.Schema.{Schema}
use Rattle.table_trees.specs.StoredTables.{table_long_values, StoredTable, table_nodes}
use Rattle.version_store.specs.declared.calls.ChangeKind.{ChangeKind}
use Rattle.version_store.specs.declared.calls.ChangeKind.TheVariants as kind
use Rattle.version_store.specs.HeldChanges.{HeldChange, is_rewrite, is_standing, undone_at, with_status}
use Rattle.laws_engine.specs.HeldRecords.{inverse, is_change_at, is_standing_rewrite}
use Rattle.long_rows.specs.RowReferences.{references}
use Rattle.stored_variants.specs.CountedValues.{AreCounted, newest_rows}
use Rattle.stored_variants.specs.PutRecords.{HasKeysOf}
use Rattle.stored_variants.specs.RecordRows.{TableValues, some_before, IsRecordRow, held_record_in, record_of, row_under}
use Rattle.variant_trees.specs.GoneKeys.{AreRows}
use Rattle.variant_trees.specs.UndoneChanges.{CanPutBack, IsBack, IsUndone, WasOpen}
use Rattle.stored_variants.specs.VersionsKept.{AreKeptWith, IsKeptChange, IsKeptTable, IsRowUnder}
use Rattle.stored_variants.specs.VersionsView.{with_newest_by}
use Rattle.stored_variants.proofs.ChangesKept.{SameVariants, changes_kept, open_stands}
use Rattle.variant_trees.proofs.Forgotten.{are_rows, has_keys, short_bookmark}
use Rattle.stored_variants.proofs.Tables.{unchanged}
use Rattle.variant_trees.proofs.Refilled.{all_undone, undone_kept}
use Rattle.variant_trees.proofs.CountedUndone.{none_counts}
use Rattle.variant_trees.proofs.UndoneThere.{mapped_at, undone_there}

-- what holds of each change holds of the one at a place
pub all_place : (P : HeldChange → Type 0) (held : List HeldChange) (place : ℕ) (h : HeldChange) → AllByRecursion P held → slice_get held place ≡ Some h → P h
all_place P [] place h all at = none_some h at
all_place P (x ∷ held) zero h all at = subst P (same_some x h at) all.0
all_place P (x ∷ held) (suc place) h all at = all_place P held place h all.1 at

-- ---- a lock or a sum

lock_leaves : (longs : TableValues) (h : HeldChange) → is_rewrite h.kind ≡ false → (held : List HeldChange) (place : ℕ) → slice_get held place ≡ Some h → SameVariants (map (held_record_in longs) (undone_at (Some place) held)) (map (held_record_in longs) held)
lock_leaves longs h other [] place at test none table bookmark = refl
lock_leaves longs h other (x ∷ held) zero at test none table bookmark =
    λ i. (gone (is_change_at table bookmark (held_record_in longs x)) (is_rewrite x.kind) (not (is_undone undone)) (test (held_record_in longs (with_status undone x)).before) same
    ∙ sym (gone (is_change_at table bookmark (held_record_in longs x)) (is_rewrite x.kind) (not (is_undone x.status)) (test (held_record_in longs x).before) same)) i
    || some_before test table bookmark (map (held_record_in longs) held)
  where
    same : is_rewrite x.kind ≡ false
    same = ap (λ (y : HeldChange). is_rewrite y.kind) (same_some x h at) ∙ other

    gone : (a w u t : Bool) → w ≡ false → (((a && w) && u) && t) ≡ false
    gone true true u t e = impossible (sym e)
    gone true false u t e = refl
    gone false w u t e = refl
lock_leaves longs h other (x ∷ held) (suc place) at test none table bookmark =
    ap (λ b. (is_standing_rewrite table bookmark (held_record_in longs x) && test (held_record_in longs x).before) || b) (lock_leaves longs h other held place at test none table bookmark)

-- the store is kept with a lock or a sum undone
pub kept_alike : (tables : List Table) (trees : List StoredTable) (now : List HeldChange) (place table : ℕ) (held : List HeldChange) (h : HeldChange) → WasOpen tables trees now place table held h → is_rewrite h.kind ≡ false → AreKeptWith (table_long_values trees) tables trees now
kept_alike tables trees now place table held h was other =
    subst (AreKeptWith (table_long_values trees) tables trees) (sym was.after)
    (changes_kept (table_long_values trees) tables trees held (undone_at (Some place) held) was.kept (all_undone (IsKeptChange (table_long_values trees) tables trees) (IsKeptChange (table_long_values trees) tables trees) (λ x kept. kept) (undone_kept (table_long_values trees) tables trees) held place was.kept.changes) (lock_leaves (table_long_values trees) h other held place was.at))

-- and each long value has as many references
pub counts_alike : (tables : List Table) (trees : List StoredTable) (now : List HeldChange) (place table : ℕ) (held : List HeldChange) (h : HeldChange) → WasOpen tables trees now place table held h → is_rewrite h.kind ≡ false → AreCounted trees now
counts_alike tables trees now place table held h was other =
    subst (AreCounted trees) (sym was.after)
    (λ id value. was.counts id value
    ∙ sym (ap (λ n. sum_by (λ row. references value (Some row.1)) (newest_rows (table_nodes trees id)) + n) (none_counts value id place h held was.at ((all_place (IsKeptChange (table_long_values trees) tables trees) held place h was.kept.changes was.at).other other))))

pub lock_back : (tables : List Table) (trees : List StoredTable) (now : List HeldChange) (place table : ℕ) (held : List HeldChange) (h : HeldChange) → WasOpen tables trees now place table held h → h.kind ≡ kind.Hold → IsBack tables trees trees now h
lock_back tables trees now place table held h was lock = record {
  kept = kept_alike tables trees now place table held h was (ap is_rewrite lock);
  counts = counts_alike tables trees now place table held h was (ap is_rewrite lock);
  held = refl;
  values = λ id bytes none. none;
  shown =
      sym (ap (λ (k : ChangeKind). tables_after (map (with_newest_by (table_long_values trees) trees) tables) (inverse (record (held_record_in (table_long_values trees) h) { kind = k }))) lock
      ∙ unchanged h.table (map (with_newest_by (table_long_values trees) trees) tables));
}

-- ---- a put or a drop

pub place_now : (tables : List Table) (trees : List StoredTable) (now : List HeldChange) (place table : ℕ) (held : List HeldChange) (h : HeldChange) → WasOpen tables trees now place table held h → slice_get now place ≡ Some (with_status undone h)
place_now tables trees now place table held h was = ap (λ (changes : List HeldChange). slice_get changes place) was.after ∙ undone_there held place h was.at

-- the kind that was told is the change's
pub kind_now : (tables : List Table) (trees : List StoredTable) (now : List HeldChange) (place table : ℕ) (held : List HeldChange) (h : HeldChange) → WasOpen tables trees now place table held h → (k : ChangeKind) → slice_get (map (λ (x : HeldChange). x.kind) now) place ≡ Some k → h.kind ≡ k
kind_now tables trees now place table held h was k told = mapped_at (λ (x : HeldChange). x.kind) now place (with_status undone h) k (place_now tables trees now place table held h was) told

pub rewrites_now : (now : List HeldChange) (place : ℕ) (k : ChangeKind) → is_rewrite k ≡ true → slice_get (map (λ (x : HeldChange). x.kind) now) place ≡ Some k → (h : HeldChange) → slice_get now place ≡ Some h → is_rewrite h.kind ≡ true
rewrites_now now place k rewrites told h at = ap is_rewrite (mapped_at (λ (x : HeldChange). x.kind) now place h k at told) ∙ rewrites

pub rows_now : (tables : List Table) (trees : List StoredTable) (now : List HeldChange) (place table : ℕ) (held : List HeldChange) (h : HeldChange) → WasOpen tables trees now place table held h → AreRows (table_long_values trees) now
rows_now tables trees now place table held h was =
    subst (AreRows (table_long_values trees)) (sym was.after)
    (all_undone P P (λ x row. row) (λ x row standing. impossible (and_right (is_rewrite x.kind) false standing)) held place (are_rows (table_long_values trees) tables trees held was.kept))
  where
    P : HeldChange → Type 0
    P x = is_standing x ≡ true → IfSome x.before (IsRecordRow (table_long_values trees x.table))

pub can_put_back : (tables : List Table) (trees : List StoredTable) (now : List HeldChange) (place table : ℕ) (held : List HeldChange) (h : HeldChange) → WasOpen tables trees now place table held h → is_rewrite h.kind ≡ true → (schema : Schema) → IsSomeAnd (table_with_id tables table) (λ t. schema ≡ schema_of t)
    → CanPutBack schema table trees now place (with_status undone h)
can_put_back tables trees now place table held h was rewrites schema same = record {
  at = place_now tables trees now place table held h was;
  named = was.named;
  row =
      subst (λ (n : ℕ). IfSome h.before (IsRecordRow (table_long_values trees n))) was.named
      (all_place (λ (x : HeldChange). is_standing x ≡ true → IfSome x.before (IsRecordRow (table_long_values trees x.table))) held place h (are_rows (table_long_values trees) tables trees held was.kept) was.at
      (λ i. rewrites i && not (open_stands h.status was.is_uncommitted i)));
  room = subst (λ (n : ℕ). IfSome h.before (λ row. IsSomeAnd (extent_in (table_nodes trees n) h.bookmark) (λ extent. length row ≤ extent))) was.named ((all_place (IsKeptChange (table_long_values trees) tables trees) held place h was.kept.changes was.at).room was.is_uncommitted);
  newest = of (table_with_id tables table) same (was.kept.each table) (row_under (table_nodes trees table) h.bookmark) refl;
}
  where
    of : (o : Option Table) → IsSomeAnd o (λ t. schema ≡ schema_of t) → IfSome o (IsKeptTable trees (table_long_values trees table) (table_nodes trees table) (map (held_record_in (table_long_values trees)) held)) → (row : Option (List ℕ)) → row_under (table_nodes trees table) h.bookmark ≡ row
        → IfSome row (λ r. IsRecordRow (table_long_values trees table) r × AllByRecursion (HasKeysOf schema (record_of (table_long_values trees table) r)) schema.indexes × (length h.bookmark ≤ 255))
    of None same kept row is = absurd same
    of (Some t) same kept None is = tt
    of (Some t) same kept (Some row) is =
        let under : IsRowUnder (table_long_values trees table) t h.bookmark row = subst (λ (o : Option (List ℕ)). IfSome o (IsRowUnder (table_long_values trees table) t h.bookmark)) is (kept.rows h.bookmark) in
        (under.fits.row, has_keys t schema (record_of (table_long_values trees table) row) same kept.rules under.indexable, short_bookmark t (record_of (table_long_values trees table) row) h.bookmark kept.rules under.own)

pub was_undone : (tables : List Table) (trees : List StoredTable) (now : List HeldChange) (place table : ℕ) (held : List HeldChange) (h : HeldChange) → WasOpen tables trees now place table held h → is_rewrite h.kind ≡ true → IsUndone held place h now
was_undone tables trees now place table held h was rewrites = record { at = was.at; rewrites = rewrites; is_uncommitted = was.is_uncommitted; after = was.after }

pub before_is : (longs : TableValues) (h : HeldChange) → is_rewrite h.kind ≡ true → is_open h.status ≡ true → (held_record_in longs h).before ≡ option_map (record_of (longs h.table)) h.before
before_is longs h rewrites is_uncommitted = λ i. cond (rewrites i && not (open_stands h.status is_uncommitted i)) (option_map (record_of (longs h.table)) h.before) None

pub always_found : {A : Type 0} (tables : List Table) (trees : List StoredTable) (now : List HeldChange) (place table : ℕ) (held : List HeldChange) (h : HeldChange) → WasOpen tables trees now place table held h → None ≡ table_with_id tables table → A
always_found tables trees now place table held h was none =
    impossible (ap is_some none ∙ ap (λ n. is_some (table_with_id tables n)) (sym was.named) ∙ (all_place (IsKeptChange (table_long_values trees) tables trees) held place h was.kept.changes was.at).named)
