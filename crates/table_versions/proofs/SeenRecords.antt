-- What a reader sees of a record among held changes, by their rows.
use Rattle.std.proofs.Common.{◌≡◌, ℕ, Bool, true, false, not, ◌&&◌, cond, List, [], ◌∷◌, Option, Some, None, find, map, option_map, refl, ap, subst, ◌∙◌}
use Rattle.std.specs.Prelude.{◌==◌, IfSome, bytes_eq, is_some}
use Rattle.std.specs.List.{AllByRecursion}
use Rattle.std.proofs.lemmas.Bool.{and_from, eqb-true}
use Rattle.common_lemmas.proofs.Booleans.{and_left, and_right, impossible}
use Rattle.column_set.specs.RecordValues.{RecordFields}
use Rattle.database_state.specs.State.{is_undone}
use Rattle.database_state.specs.Table.{Table, table_with_id}
use Rattle.table_trees.specs.StoredTables.{StoredTable}
use Rattle.version_store.specs.declared.calls.Reader.{Reader}
use Rattle.version_store.specs.HeldChanges.{HeldChange, SeenRow, current, row_before, absent, hides, is_record, is_rewrite, seen_at, seen_before, seen_row, is_standing}
use Rattle.laws_engine.specs.HeldRecords.{before_or, hides as hides_record, seen_record}
use Rattle.laws_engine.proofs.TableLemmas.ShownEntries.{unseen_stands}
use Rattle.stored_variants.specs.RecordRows.{TableValues, IsRecordRow, held_record_in, record_of}
use Rattle.stored_variants.specs.VersionsKept.{IsKeptChange, IsRowUnder}
use Rattle.long_value.specs.Values.{Values}
use Rattle.table_versions.specs.SeenRows.{row_seen}

-- the record that is seen, given the newest one
abbrev pub record_seen : Values → Option RecordFields → SeenRow → Option RecordFields
record_seen vals newest current = newest
record_seen vals newest (row_before row) = Some (record_of vals row)
record_seen vals newest absent = None

pub hidden_stands : (table : ℕ) (bookmark : List ℕ) (reader : Reader) (h : HeldChange) → hides table bookmark reader h ≡ true → is_standing h ≡ true
hidden_stands table bookmark reader h hit =
    and_from (is_rewrite h.kind) (not (is_undone h.status))
    (and_right (is_record table bookmark h) _ (and_left (is_record table bookmark h && is_rewrite h.kind) _ hit))
    (unseen_stands reader h.session h.status (and_right (is_record table bookmark h && is_rewrite h.kind) _ hit))

-- and it is of the record
pub hidden_of : (table : ℕ) (bookmark : List ℕ) (reader : Reader) (h : HeldChange) → hides table bookmark reader h ≡ true → h.table ≡ table
hidden_of table bookmark reader h hit =
    eqb-true h.table table (and_left (h.table == table) (bytes_eq h.bookmark bookmark) (and_left (is_record table bookmark h) (is_rewrite h.kind) (and_left (is_record table bookmark h && is_rewrite h.kind) _ hit)))

shown_before : (vals : Values) (newest : Option RecordFields) (row : Option (List ℕ)) → option_map (record_of vals) row ≡ record_seen vals newest (seen_before row)
shown_before vals newest None = refl
shown_before vals newest (Some row) = refl

-- what is seen by the records before held changes is what is seen by the rows before them
pub seen_is : (longs : TableValues) (table : ℕ) (bookmark : List ℕ) (reader : Reader) (newest : Option RecordFields) (held : List HeldChange)
    → seen_record table bookmark reader newest (map (held_record_in longs) held) ≡ record_seen (longs table) newest (seen_row table bookmark reader held)
seen_is longs table bookmark reader newest [] = refl
seen_is longs table bookmark reader newest (h ∷ held) = by (hides table bookmark reader h) refl (seen_is longs table bookmark reader newest held)
  where
    by : (b : Bool) → hides table bookmark reader h ≡ b → seen_record table bookmark reader newest (map (held_record_in longs) held) ≡ record_seen (longs table) newest (seen_row table bookmark reader held)
        → before_or newest (cond b (Some (held_record_in longs h)) (find (hides_record table bookmark reader) (map (held_record_in longs) held))) ≡ record_seen (longs table) newest (seen_at (cond b (Some h) (find (hides table bookmark reader) held)))
    by true hit rest =
        ap (λ b. cond b (option_map (record_of (longs h.table)) h.before) None) (hidden_stands table bookmark reader h hit)
        ∙ ap (λ (n : ℕ). option_map (record_of (longs n)) h.before) (hidden_of table bookmark reader h hit) ∙ shown_before (longs table) newest h.before
    by false miss rest = rest

-- ---- the rows before standing changes are rows

pub before_is_row : (vals : Values) (found : Option Table) (bookmark : List ℕ) (row : Option (List ℕ)) → is_some found ≡ true → IfSome found (λ table. IfSome row (IsRowUnder vals table bookmark)) → IfSome row (IsRecordRow vals)
before_is_row vals None bookmark row named is = impossible named
before_is_row vals (Some table) bookmark None named is = tt
before_is_row vals (Some table) bookmark (Some row) named is = is.fits.row

abbrev pub IsSeenRow : Values → SeenRow → Type 0
IsSeenRow vals current = Unit {0}
IsSeenRow vals (row_before row) = IsRecordRow vals row
IsSeenRow vals absent = Unit {0}

seen_before_is_row : (vals : Values) (row : Option (List ℕ)) → IfSome row (IsRecordRow vals) → IsSeenRow vals (seen_before row)
seen_before_is_row vals None is = tt
seen_before_is_row vals (Some row) is = is

pub seen_is_row : (longs : TableValues) (tables : List Table) (trees : List StoredTable) (table : ℕ) (bookmark : List ℕ) (reader : Reader) (held : List HeldChange) → AllByRecursion (IsKeptChange longs tables trees) held → IsSeenRow (longs table) (seen_row table bookmark reader held)
seen_is_row longs tables trees table bookmark reader [] kept = tt
seen_is_row longs tables trees table bookmark reader (h ∷ held) kept = by (hides table bookmark reader h) refl (seen_is_row longs tables trees table bookmark reader held kept.1)
  where
    by : (b : Bool) → hides table bookmark reader h ≡ b → IsSeenRow (longs table) (seen_row table bookmark reader held) → IsSeenRow (longs table) (seen_at (cond b (Some h) (find (hides table bookmark reader) held)))
    by true hit rest =
        seen_before_is_row (longs table) h.before
        (subst (λ (n : ℕ). IfSome h.before (IsRecordRow (longs n))) (hidden_of table bookmark reader h hit)
        (before_is_row (longs h.table) (table_with_id tables h.table) h.bookmark h.before kept.0.named (kept.0.before (hidden_stands table bookmark reader h hit))))
    by false miss rest = rest

-- ---- the row that is seen

pub seen_shows : (vals : Values) (newest : Option (List ℕ)) (seen : SeenRow) → option_map (record_of vals) (row_seen newest seen) ≡ record_seen vals (option_map (record_of vals) newest) seen
seen_shows vals newest current = refl
seen_shows vals newest (row_before row) = refl
seen_shows vals newest absent = refl

pub row_seen_is : (vals : Values) (newest : Option (List ℕ)) (seen : SeenRow) → IfSome newest (IsRecordRow vals) → IsSeenRow vals seen → IfSome (row_seen newest seen) (IsRecordRow vals)
row_seen_is vals newest current own is = own
row_seen_is vals newest (row_before row) own is = is
row_seen_is vals newest absent own is = tt
