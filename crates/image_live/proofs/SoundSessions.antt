-- Whether a session is sound, test by test.
use Rattle.std.proofs.Common.{◌≡◌, Bool, true, false, List, map, Option, sym, ap, ◌∙◌}
use Rattle.std.specs.Prelude.{◌&&◌, is_some}
use Rattle.std.specs.List.{list_all}
use Rattle.common_lemmas.proofs.Booleans.{and_false}
use Rattle.database_state.specs.Table.{table_with_id}
use Rattle.image_findings.specs.LiveFindings.{do_not_fall, is_sound_session, is_sound_transaction}
use Rattle.image_findings.specs.TableContents.{TableContents}
use Rattle.jet_base.specs.declared.ids.TableId.{TableId}
use Rattle.version_cleanup.specs.LiveSessions.{LiveState}
use Rattle.version_cleanup.specs.declared.live.Transaction.{Transaction}
use Rattle.image_live.proofs.Found.{are_there}
use Rattle.image_live.specs.TablesRead.{AreTablesOf}
use Rattle.image_live.specs.declared.tables.ImageTables.{ImageTables}

-- the open tables are in the catalog
abbrev pub stand : ImageTables → List TableId → Bool
stand image ids = list_all (λ (id : TableId). is_some (table_with_id image.catalog.now.tables id.0)) ids

stands : (image : ImageTables) (tables : List TableContents) (s : LiveState) (ids : List TableId) → map (λ (id : TableId). id.0) ids ≡ s.open_tables → AreTablesOf image tables
    → (do_not_fall s.open_tables && (stand image ids && is_sound_transaction image.number s.transaction)) ≡ is_sound_session image.number tables s
stands image tables s ids are_ids are = ap (λ b. do_not_fall s.open_tables && (b && is_sound_transaction image.number s.transaction)) (are_there image.catalog.now.tables tables ids s.open_tables are.catalog are_ids)

pub lacks_table : (image : ImageTables) (tables : List TableContents) (s : LiveState) (ids : List TableId) → map (λ (id : TableId). id.0) ids ≡ s.open_tables → stand image ids ≡ false → AreTablesOf image tables → false ≡ is_sound_session image.number tables s
lacks_table image tables s ids are_ids lacks are =
    sym (ap (λ b. do_not_fall s.open_tables && (b && is_sound_transaction image.number s.transaction)) lacks ∙ and_false (do_not_fall s.open_tables)) ∙ stands image tables s ids are_ids are

pub sound_transaction : (image : ImageTables) (tables : List TableContents) (s : LiveState) (ids : List TableId) (transaction : Option Transaction) → map (λ (id : TableId). id.0) ids ≡ s.open_tables → do_not_fall (map (λ (id : TableId). id.0) ids) ≡ true → stand image ids ≡ true → transaction ≡ s.transaction → AreTablesOf image tables
    → is_sound_transaction image.number transaction ≡ is_sound_session image.number tables s
sound_transaction image tables s ids transaction are_ids rise there is are =
    ap (is_sound_transaction image.number) is
    ∙ sym (ap (λ b. b && (stand image ids && is_sound_transaction image.number s.transaction)) (sym (ap do_not_fall are_ids) ∙ rise) ∙ ap (λ b. b && is_sound_transaction image.number s.transaction) there)
    ∙ stands image tables s ids are_ids are
