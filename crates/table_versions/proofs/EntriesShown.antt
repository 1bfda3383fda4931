-- Entries of an index that are gone over where they lie, up to the first that a reader is shown.
use Rattle.std.proofs.Common.{◌≡◌, ◌≤◌, ℕ, Bool, Bor, true, false, not, ◌&&◌, ◌||◌, cond, inl, inr, List, [], ◌∷◌, drop, Option, Some, None, filter, find, length, map, refl, sym, ap, subst, ◌∙◌}
use Rattle.std.specs.Prelude.{IfSome, IsSomeAnd, bytes_eq}
use Rattle.std.specs.List.{list_any}
use Rattle.column_set.specs.RecordValues.{RecordFields}
use Rattle.cursor_nav.specs.Places.{Pair, are_sorted, entry_after, entry_before, is_beyond, is_short_of}
use Rattle.database_state.specs.Conflicts.{yields_key}
use Rattle.database_state.specs.State.{is_undone}
use Rattle.database_state.specs.Table.{Table, record_in, row_at, schema_of, table_with_id}
use Rattle.index_derive.specs.Schemas.{rule_with_id}
use Rattle.laws_versions.specs.KeptEntries.{has_entry}
use Rattle.index_derive.specs.declared.entries.Place.{Place}
use Rattle.index_derive.specs.declared.rules.IndexRule.{IndexRule}
use Rattle.index_derive.specs.declared.rules.Schema.{Schema}
use Rattle.jet_catalog.specs.Catalog.{CatalogState}
use Rattle.common_lemmas.proofs.Numbers.{equal_bytes}
use Rattle.table_trees.specs.StoredTables.{table_long_values, StoredTable, index_entries, table_nodes}
use Rattle.version_store.specs.declared.calls.Reader.{Reader}
use Rattle.version_store.specs.HeldChanges.{HeldChange, is_record, is_rewrite, last_place}
use Rattle.laws_engine.specs.HeldRecords.{before_or, hides, is_standing_rewrite, is_unseen, seen_record}
use Rattle.laws_engine.specs.Variants.{HoldsVariants}
use Rattle.laws_engine.proofs.TableLemmas.Neighbours.{IsIn, found_in, last_in, shown_after, shown_before, shown_from, shown_to}
use Rattle.stored_variants.specs.RecordRows.{TableValues, held_record_in, rows_of_nodes}
use Rattle.stored_variants.specs.StoredVersions.{StoredVersions}
use Rattle.stored_variants.specs.VersionsKept.{AreKept, IsKeptTable, only_secondary}
use Rattle.stored_variants.specs.VersionsView.{stored_versions}
use Rattle.table_versions.specs.Walks.{is_shown}
use Rattle.table_versions.proofs.NodesShown.{parts_of}
use Rattle.table_versions.proofs.RecordConflicts.{skipped_newest, up_to}
use Rattle.table_versions.proofs.ShownEntries.{rule_number}
use Rattle.table_versions.proofs.StoredConflicts.{in_store, newest_rows}

-- ---- where the walk stands

-- an entry's key and bookmark fit a place
abbrev pub IsShortPair : Pair → Type 0
IsShortPair e = (length e.0 ≤ 255) × (length e.1 ≤ 255)

-- The entry that was found is one of the index, and it, or else the next one that is shown, is the one that is looked for.
pub record StandsOn (wanted : Option Pair) (next_shown : Option Pair → Option Pair) (entries : List Pair) (found : Option Pair) : Type 0 where
  pub shown : wanted ≡ next_shown found
  pub there : IfSome found (λ (e : Pair). has_entry e.0 e.1 entries ≡ true)
  pub short : IfSome found IsShortPair

is_there : (e : Pair) (entries : List Pair) → IsIn e entries → has_entry e.0 e.1 entries ≡ true
is_there e [] i = absurd i
is_there e (x ∷ entries) (inl same) =
    ap (λ b. b || has_entry e.0 e.1 entries) (λ i. equal_bytes x.0 e.0 (ap (λ (p : Pair). p.0) same) i && equal_bytes x.1 e.1 (ap (λ (p : Pair). p.1) same) i)
is_there e (x ∷ entries) (inr later) = either (bytes_eq x.0 e.0 && bytes_eq x.1 e.1) (is_there e entries later)
  where
    either : (b : Bool) → has_entry e.0 e.1 entries ≡ true → (b || has_entry e.0 e.1 entries) ≡ true
    either true h = refl
    either false h = h

pub stands_after : (test : Pair → Bool) (wanted : Option Pair) (place : Place) (entries : List Pair) (found : Option Pair) → are_sorted entries ≡ true → wanted ≡ entry_after place (filter test entries) → found ≡ entry_after place entries → IfSome found IsShortPair
    → StandsOn wanted (shown_from test entries) entries found
stands_after test wanted place entries found sorted is e short = record {
  shown = is ∙ shown_after test place found entries sorted e;
  there = is_in found e;
  short = short;
}
  where
    is_in : (o : Option Pair) → o ≡ entry_after place entries → IfSome o (λ (x : Pair). has_entry x.0 x.1 entries ≡ true)
    is_in None e = tt
    is_in (Some x) e = is_there x entries (found_in (is_beyond place) x entries (sym e)).0

pub stands_before : (test : Pair → Bool) (wanted : Option Pair) (place : Place) (entries : List Pair) (found : Option Pair) → are_sorted entries ≡ true → wanted ≡ entry_before place (filter test entries) → found ≡ entry_before place entries → IfSome found IsShortPair
    → StandsOn wanted (shown_to test entries) entries found
stands_before test wanted place entries found sorted is e short = record {
  shown = is ∙ shown_before test place found entries sorted e;
  there = is_in found e;
  short = short;
}
  where
    is_in : (o : Option Pair) → o ≡ entry_before place entries → IfSome o (λ (x : Pair). has_entry x.0 x.1 entries ≡ true)
    is_in None e = tt
    is_in (Some x) e = is_there x entries (last_in (is_short_of place) x entries (sym e)).0

-- an entry that is shown is the one that is looked for
pub shown_is_it : (test : Pair → Bool) (e : Pair) (others : Option Pair) → test e ≡ true → cond (test e) (Some e) others ≡ Some e
shown_is_it test e others passes = ap (λ b. cond b (Some e) others) passes

-- one that is not is passed over
pub passed_over : (test : Pair → Bool) (e : Pair) (others : Option Pair) → test e ≡ false → cond (test e) (Some e) others ≡ others
passed_over test e others fails = ap (λ b. cond b (Some e) others) fails

pub short_pairs : (found : Option (Bor (List ℕ) × Bor (List ℕ))) → IfSome found (λ f. (length f.0.now ≤ 255) × (length f.1.now ≤ 255)) → IfSome (parts_of found) IsShortPair
short_pairs None short = tt
short_pairs (Some f) short = short

-- ---- a record that no held change touches

abbrev key_before : TableValues → IndexRule → Schema → List ℕ → ℕ → List ℕ → List HeldChange → Bool
key_before longs rule schema key table bookmark held = list_any (λ change. is_standing_rewrite table bookmark change && yields_key rule schema key change.before) (map (held_record_in longs) held)

no_key_before : (longs : TableValues) (rule : IndexRule) (schema : Schema) (key : List ℕ) (table : ℕ) (bookmark : List ℕ) (held : List HeldChange) → last_place (is_record table bookmark) held ≡ None → key_before longs rule schema key table bookmark held ≡ false
no_key_before longs rule schema key table bookmark held none =
    ap (λ (o : Option ℕ). key_before longs rule schema key table bookmark (drop (up_to o) held)) (sym none)
    ∙ skipped_newest (is_record table bookmark) (key_before longs rule schema key table bookmark)
    (λ h rest other. ap (λ b. ((b && is_rewrite h.kind && not (is_undone h.status)) && yields_key rule schema key (held_record_in longs h).before) || key_before longs rule schema key table bookmark rest) other) held

abbrev seen_of : TableValues → Reader → Option RecordFields → ℕ → List ℕ → List HeldChange → Option RecordFields
seen_of longs reader newest table bookmark held = seen_record table bookmark reader newest (map (held_record_in longs) held)

newest_is_seen : (longs : TableValues) (reader : Reader) (newest : Option RecordFields) (table : ℕ) (bookmark : List ℕ) (held : List HeldChange) → last_place (is_record table bookmark) held ≡ None → seen_of longs reader newest table bookmark held ≡ newest
newest_is_seen longs reader newest table bookmark held none =
    ap (λ (o : Option ℕ). seen_of longs reader newest table bookmark (drop (up_to o) held)) (sym none)
    ∙ skipped_newest (is_record table bookmark) (seen_of longs reader newest table bookmark)
    (λ h rest other. ap (λ b. before_or newest (cond (b && is_rewrite h.kind && is_unseen reader (held_record_in longs h)) (Some (held_record_in longs h)) (find (hides table bookmark reader) (map (held_record_in longs) rest)))) other) held

secondary_found : (o : Option IndexRule) (rule : IndexRule) → only_secondary o ≡ Some rule → o ≡ Some rule
secondary_found None rule e = e
secondary_found (Some r) rule e = by r.flags.primary e
  where
    by : (b : Bool) → cond b None (Some r) ≡ Some rule → Some r ≡ Some rule
    by true e = absurd cc
    by false e = e

-- each entry of it is one of the record that every reader sees
pub untouched_is_shown : (reader : Reader) (key bookmark : List ℕ) (index : ℕ) (latest : ℕ) (catalog : CatalogState) (trees : List StoredTable) (held : List HeldChange) → AreKept catalog.tables trees held → (now : StoredVersions) → stored_versions latest catalog trees held ≡ now
    → (table : ℕ) (schema : Schema) → IsSomeAnd (table_with_id now.store.tables table) (λ t. schema ≡ schema_of t) → (rule : IndexRule) → only_secondary (rule_with_id schema index) ≡ Some rule
    → has_entry key bookmark (index_entries trees table rule.id.0) ≡ true → last_place (is_record table bookmark) held ≡ None → is_shown reader now.store table schema (Some rule) (key, bookmark) ≡ true
untouched_is_shown reader key bookmark index latest catalog trees held kept now shows table schema known rule found =
    in_store P latest catalog trees held kept each now shows table schema known rule found
  where
    P : StoredVersions → ℕ → Schema → Type 0
    P v n s =
        (rule : IndexRule) → only_secondary (rule_with_id s index) ≡ Some rule → has_entry key bookmark (index_entries trees n rule.id.0) ≡ true → last_place (is_record n bookmark) held ≡ None
        → is_shown reader v.store n s (Some rule) (key, bookmark) ≡ true

    each : (t : Table) → table_with_id catalog.tables t.id ≡ Some t → IsKeptTable trees (table_long_values trees t.id) (table_nodes trees t.id) (map (held_record_in (table_long_values trees)) held) t → P (stored_versions latest catalog trees held) t.id (schema_of t)
    each t named is rule e there none =
        ap (yields_key rule (schema_of t) key) (newest_is_seen (table_long_values trees) reader newest t.id bookmark held none ∙ newest_rows (table_long_values trees) catalog.tables trees t named bookmark)
        ∙ alone (yields_key rule (schema_of t) key own) (no_key_before (table_long_values trees) rule (schema_of t) key t.id bookmark held none) (sym (holds key bookmark) ∙ there)
      where
        newest : Option RecordFields
        newest = record_in (stored_versions latest catalog trees held).store.tables t.id bookmark

        own : Option RecordFields
        own = row_at (rows_of_nodes (table_long_values trees t.id) (table_nodes trees t.id)) bookmark

        H : Option IndexRule → Type 0
        H o = IfSome o (λ r. HoldsVariants (rows_of_nodes (table_long_values trees t.id) (table_nodes trees t.id)) (map (held_record_in (table_long_values trees)) held) r (schema_of t) t.id (index_entries trees t.id index))

        numbered : rule.id.0 ≡ index
        numbered = rule_number index (schema_of t).indexes rule (secondary_found (rule_with_id (schema_of t) index) rule e)

        N : ℕ → Type 0
        N n = HoldsVariants (rows_of_nodes (table_long_values trees t.id) (table_nodes trees t.id)) (map (held_record_in (table_long_values trees)) held) rule (schema_of t) t.id (index_entries trees t.id n)

        holds : N rule.id.0
        holds = subst N (sym numbered) (subst H e (is.entries index))

        alone : (b : Bool) → key_before (table_long_values trees) rule (schema_of t) key t.id bookmark held ≡ false → (b || key_before (table_long_values trees) rule (schema_of t) key t.id bookmark held) ≡ true → b ≡ true
        alone true none e = refl
        alone false none e = sym none ∙ e
