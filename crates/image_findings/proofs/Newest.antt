-- The newest records of the engine that is made of a consistent image.
use Rattle.std.proofs.Common.{◌≡◌, ℕ, Bool, true, false, cond, List, [], ◌∷◌, Option, Some, None, refl, sym, subst, ◌∙◌}
use Rattle.std.specs.Prelude.{◌==◌, map, IfSome}
use Rattle.std.specs.List.{AllByRecursion}
use Rattle.std.specs.Ordering.{eq_by_cmp, nat_cmp}
use Rattle.std.specs.Cmp.Lexicographic.{slice_cmp, texts_ties}
use Rattle.column_set.specs.NumberReading.{IsBytes}
use Rattle.common_lemmas.proofs.Numbers.{same_bytes}
use Rattle.database_state.specs.Table.{Table, row_at, rows_of, schema_of, table_with_id}
use Rattle.laws_images.specs.ShowableEngines.{EachIn, IsSoundRecord}
use Rattle.laws_versions.specs.Records.{records_of}
use Rattle.page_image.specs.Page.{Node}
use Rattle.stored_variants.specs.RecordRows.{record_of, row_in_node, rows_of_nodes, with_record}
use Rattle.version_store.specs.HeldChanges.{HeldChange}
use Rattle.image_findings.specs.CatalogFindings.{is_sound_table}
use Rattle.image_findings.specs.SoundRows.{HasSoundRow, HasSoundRows}
use Rattle.image_findings.specs.TableContents.{TableContents, long_values, newest_table}
use Rattle.image_findings.proofs.Lists.{if_found}
use Rattle.image_findings.proofs.Nodes.{AreBytes}
use Rattle.image_findings.proofs.SoundRecords.{are_bytes, bytes_are, sound_record}

bytes_in_node : (bytes : List ℕ) → IsBytes bytes → IfSome (row_in_node bytes) (λ row. are_bytes row ≡ true)
bytes_in_node [] h = tt
bytes_in_node (b ∷ bytes) h = bytes_are (b ∷ bytes) h

found_record : (number : ℕ) (t : TableContents) → is_sound_table t.table ≡ true → (nodes : List Node) → AllByRecursion (λ (n : Node). IfSome (row_in_node n.data) (HasSoundRow number t n.key)) nodes → AreBytes nodes
    → (bookmark : List ℕ) → IfSome (row_at (rows_of_nodes (long_values t) nodes) bookmark) (IsSoundRecord number (schema_of t.table) bookmark)
found_record number t sound [] rows bytes bookmark = tt
found_record number t sound (n ∷ nodes) rows bytes bookmark = by (row_in_node n.data) rows.0 (bytes_in_node n.data bytes.0) (found_record number t sound nodes rows.1 bytes.1 bookmark)
  where
    by : (row : Option (List ℕ)) → IfSome row (HasSoundRow number t n.key) → IfSome row (λ row. are_bytes row ≡ true) → IfSome (row_at (rows_of_nodes (long_values t) nodes) bookmark) (IsSoundRecord number (schema_of t.table) bookmark)
        → IfSome (row_at (with_record (long_values t) n.key row (rows_of_nodes (long_values t) nodes)) bookmark) (IsSoundRecord number (schema_of t.table) bookmark)
    by None is are rest = rest
    by (Some row) is are rest = at (eq_by_cmp (slice_cmp nat_cmp) bookmark n.key) refl
      where
        at : (b : Bool) → eq_by_cmp (slice_cmp nat_cmp) bookmark n.key ≡ b
            → IfSome (cond b (Some (record_of (long_values t) row)) (row_at (rows_of_nodes (long_values t) nodes) bookmark)) (IsSoundRecord number (schema_of t.table) bookmark)
        at true e = subst (λ (k : List ℕ). IsSoundRecord number (schema_of t.table) k (record_of (long_values t) row)) (sym (same_bytes bookmark n.key (texts_ties bookmark n.key ∙ e))) (sound_record number t n.key row sound are is)
        at false e = rest

each_table : (number : ℕ) (held : List HeldChange) (tables : List TableContents) → AllByRecursion (λ t. is_sound_table t.table ≡ true) tables → AllByRecursion (HasSoundRows number held) tables → AllByRecursion (λ (t : TableContents). AreBytes t.nodes) tables
    → AllByRecursion (λ (table : Table). (bookmark : List ℕ) → IfSome (row_at table.rows bookmark) (IsSoundRecord number (schema_of table) bookmark)) (map newest_table tables)
each_table number held [] sound rows bytes = tt
each_table number held (t ∷ tables) sound rows bytes = (found_record number t sound.0 t.nodes rows.0.rows bytes.0, each_table number held tables sound.1 rows.1 bytes.1)

pub newest_sound : (number : ℕ) (held : List HeldChange) (tables : List TableContents) → AllByRecursion (λ t. is_sound_table t.table ≡ true) tables → AllByRecursion (HasSoundRows number held) tables → AllByRecursion (λ (t : TableContents). AreBytes t.nodes) tables
    → EachIn IsSoundRecord number (map newest_table tables) (records_of (map newest_table tables))
newest_sound number held tables sound rows bytes id =
    at (table_with_id (map newest_table tables) id)
    (if_found (λ (table : Table). (bookmark : List ℕ) → IfSome (row_at table.rows bookmark) (IsSoundRecord number (schema_of table) bookmark)) (λ (table : Table). table.id == id) (map newest_table tables) (each_table number held tables sound rows bytes))
  where
    at : (o : Option Table) → IfSome o (λ (table : Table). (bookmark : List ℕ) → IfSome (row_at table.rows bookmark) (IsSoundRecord number (schema_of table) bookmark))
        → IfSome o (λ (table : Table). (bookmark : List ℕ) → IfSome (row_at (rows_of o) bookmark) (IsSoundRecord number (schema_of table) bookmark))
    at None h = tt
    at (Some table) h = h
