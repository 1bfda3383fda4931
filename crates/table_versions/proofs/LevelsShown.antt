-- The newest open change of a level is undone: what the store shows.
use Rattle.std.proofs.Common.{◌≡◌, ℕ, Bool, true, ◌&&◌, List, [], ◌∷◌, length, Option, Some, None, map, option_map, refl, sym, ap, subst, ◌∙◌}
use Rattle.std.specs.Prelude.{◌==◌, IsSomeAnd, slice_get}
use Rattle.common_lemmas.proofs.Booleans.{and_left, and_right}
use Rattle.common_lemmas.proofs.Options.{same_some}
use Rattle.database_state.specs.State.{is_open}
use Rattle.jet_catalog.specs.Catalog.{CatalogState}
use Rattle.table_trees.specs.StoredTables.{table_long_values, StoredTable}
use Rattle.version_store.specs.Answers.{change_at}
use Rattle.version_store.specs.HeldChanges.{HeldChange, is_open_at, last_place, undone_at}
use Rattle.laws_engine.specs.HeldRecords.{is_open_at as is_open_record}
use Rattle.laws_engine.specs.VersionedTables.{with_last_undone}
use Rattle.stored_variants.specs.RecordRows.{held_record_in}
use Rattle.stored_variants.specs.StoredVersions.{StoredVersions}
use Rattle.variant_trees.specs.UndoneChanges.{IsBack}
use Rattle.stored_variants.specs.VersionsView.{with_newest, stored_versions}
use Rattle.table_versions.proofs.LastUndone.{any_last, last_back, last_changed, none_back, same_level}
use Rattle.stored_variants.proofs.HeldPlaces.{StandsAt, last_stands, take_all}

-- the change that is undone was one that is open at the level
pub newest_there : (p : HeldChange → Bool) (held : List HeldChange) (place : ℕ) → last_place p held ≡ Some place → (h : HeldChange) × (slice_get held place ≡ Some h) × (p h ≡ true)
newest_there p held place e = by (slice_get held place) refl (subst (StandsAt p held) (ap (last_place p) (take_all held) ∙ e) (last_stands p (length held) held))
  where
    by : (o : Option HeldChange) → slice_get held place ≡ o → IsSomeAnd (slice_get held place) (λ h. p h ≡ true) → (h : HeldChange) × (slice_get held place ≡ Some h) × (p h ≡ true)
    by None f passes = absurd (subst (λ (o : Option HeldChange). IsSomeAnd o (λ h. p h ≡ true)) f passes)
    by (Some h) f passes = (h, f, subst (λ (o : Option HeldChange). IsSomeAnd o (λ h. p h ≡ true)) f passes)

pub open_there : (session level : ℕ) (h : HeldChange) → is_open_at session level h ≡ true → is_open h.status ≡ true
open_there session level h e = and_right (h.session == session) (is_open h.status) (and_left ((h.session == session) && is_open h.status) (h.level == level) e)

pub nothing_undone : (held : List HeldChange) → undone_at None held ≡ held
nothing_undone [] = refl
nothing_undone (h ∷ held) = refl

-- the store after the newest open change of a level is undone
pub last_shown : (session level : ℕ) (latest : ℕ) (catalog : CatalogState) (old new : List StoredTable) (held now : List HeldChange) (place : ℕ) (h : HeldChange) (store : StoredVersions) → stored_versions latest catalog old held ≡ store → last_place (is_open_at session level) held ≡ Some place → slice_get held place ≡ Some h
    → now ≡ undone_at (Some place) held → IsBack catalog.tables old new now h → stored_versions latest catalog new now ≡ record store { store = with_last_undone (is_open_record session level) store.store }
last_shown session level latest catalog old new held now place h store shows last at after back =
    (λ i. record {
      greatest_table = catalog.greatest_table;
      newest_put = latest;
      store = record {
        tables = (back.shown ∙ sym (last_back (table_long_values old) (is_open_record session level) (is_open_at session level) (same_level (table_long_values old) session level) held place h last at (map (with_newest old) catalog.tables))) i;
        held = (back.held ∙ ap (λ (changes : List HeldChange). map (held_record_in (table_long_values old)) changes) (after ∙ ap (λ (o : Option ℕ). undone_at o held) (sym last)) ∙ last_changed (table_long_values old) (is_open_record session level) (is_open_at session level) (same_level (table_long_values old) session level) held) i;
      };
    })
    ∙ ap (λ (v : StoredVersions). record v { store = with_last_undone (is_open_record session level) v.store }) shows

-- and where there is none
pub none_shown : (session level : ℕ) (latest : ℕ) (catalog : CatalogState) (trees : List StoredTable) (held now : List HeldChange) (store : StoredVersions) → stored_versions latest catalog trees held ≡ store → last_place (is_open_at session level) held ≡ None
    → now ≡ undone_at (last_place (is_open_at session level) held) held → stored_versions latest catalog trees now ≡ record store { store = with_last_undone (is_open_record session level) store.store }
none_shown session level latest catalog trees held now store shows last after =
    (λ i. record {
      greatest_table = catalog.greatest_table;
      newest_put = latest;
      store = record {
        tables = sym (none_back (is_open_record session level) (map (held_record_in (table_long_values trees)) held) (map (with_newest trees) catalog.tables) (any_last (table_long_values trees) (is_open_record session level) (is_open_at session level) (same_level (table_long_values trees) session level) held None last)) i;
        held = (ap (λ (changes : List HeldChange). map (held_record_in (table_long_values trees)) changes) after ∙ last_changed (table_long_values trees) (is_open_record session level) (is_open_at session level) (same_level (table_long_values trees) session level) held) i;
      };
    })
    ∙ ap (λ (v : StoredVersions). record v { store = with_last_undone (is_open_record session level) v.store }) shows

-- its table is the one that was told
pub same_table : (held : List HeldChange) (o : Option ℕ) (place : ℕ) (h : HeldChange) (table : ℕ) → o ≡ Some place → slice_get held place ≡ Some h → Some table ≡ option_map (λ (x : HeldChange). x.table) (change_at held o) → h.table ≡ table
same_table held o place h table is at told =
    sym (same_some table h.table (told ∙ ap (λ (p : Option ℕ). option_map (λ (x : HeldChange). x.table) (change_at held p)) is ∙ ap (option_map (λ (x : HeldChange). x.table)) at))
