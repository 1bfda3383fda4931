-- Entries of other sessions.
use Rattle.std.proofs.Common.{◌≡◌, ℕ, true, false, List, [], ◌∷◌, Option, Some, None, refl, sym, ap, ◌∙◌}
use Rattle.std.specs.Prelude.{◌==◌, count_by}
use Rattle.std.specs.List.{AllByRecursion}
use Rattle.common_lemmas.proofs.Booleans.{and_left, and_right}
use Rattle.index_derive.specs.declared.log.Entry.{Entry}
use Rattle.index_derive.specs.declared.log.EntryKind.{EntryKind}
use Rattle.index_derive.specs.declared.log.EntryKind.TheVariants as entry
use Rattle.database_state.specs.State.{DatabaseState, PastChange, Transaction, transaction_of}
use Rattle.database_state.specs.Step.{applied, state_after, state_after_all}
use Rattle.database_state.specs.Lawful.{has_number, is_lawful, is_lawful_kind}
use Rattle.laws_versions.specs.Records.{Records}
use Rattle.laws_versions.specs.History.{HasHistory, IsHistory}
use Rattle.laws_versions.specs.KeptSteps.{with_next_number}
use Rattle.laws_versions.proofs.HistoryLemmas.LawfulEntries.{keeps_some}
use Rattle.laws_versions.proofs.HistoryLemmas.OtherSessions.{stays_after, view_stays}
use Rattle.session_local.specs.Agreement.{Agrees}
use Rattle.session_local.specs.Local.{LocalState}
use Rattle.laws_engine.specs.LawfulSteps.{AreLawful}
use Rattle.laws_engine.proofs.LawfulLemmas.TableTests.{definitions_stay}
use Rattle.laws_engine.proofs.AgreeingLemmas.Prepared.{AreStorable, all_anywhere, all_stay, same_locks, unlocked_outside}
use Rattle.laws_engine.proofs.AgreeingLemmas.Schemas.{HaveSchemas, schemas_defined, schemas_kept}
use Rattle.laws_engine.proofs.AgreeingLemmas.LiveSessions.{others_live}

pub schemas_by_kind : (state : DatabaseState) (label session : ℕ) (local : LocalState) (kind : EntryKind) → is_lawful_kind state label kind ≡ true → Agrees state session local → HaveSchemas (applied label kind (with_next_number state)).tables local.cursors
schemas_by_kind state label session local entry.Enter e agrees = agrees.schemas
schemas_by_kind state label session local entry.Leave e agrees = agrees.schemas
schemas_by_kind state label session local (entry.Open table) e agrees = agrees.schemas
schemas_by_kind state label session local (entry.Shut table) e agrees = agrees.schemas
schemas_by_kind state label session local entry.Begin e agrees = agrees.schemas
schemas_by_kind state label session local entry.Save e agrees = agrees.schemas
schemas_by_kind state label session local (entry.Change change) e agrees = agrees.schemas
schemas_by_kind state label session local entry.Release e agrees = agrees.schemas
schemas_by_kind state label session local entry.Undo e agrees =
    schemas_defined (applied label entry.Undo (with_next_number state)).tables state.tables (definitions_stay state label entry.Undo refl) local.cursors agrees.schemas
schemas_by_kind state label session local entry.UndoAll e agrees = agrees.schemas
schemas_by_kind state label session local entry.Commit e agrees =
    schemas_defined (applied label entry.Commit (with_next_number state)).tables state.tables (definitions_stay state label entry.Commit refl) local.cursors agrees.schemas
schemas_by_kind state label session local (entry.Schema made) e agrees = schemas_kept state label session local made (and_right _ _ (and_left _ _ e)) agrees

pub others_keep : (base : Records) (dropped kept : List PastChange) (state : DatabaseState) (session : ℕ) (local : LocalState) (made : Entry) → IsHistory base dropped kept state → is_lawful state made ≡ true → (session == made.session.0) ≡ false
    → Agrees state session local → Agrees (state_after state made) session local
unfolding is_lawful state_after
others_keep base dropped kept state session local made h lawful other agrees =
    let live = others_live state made.session.0 made.kind session other in
    record {
      begun = agrees.begun ∙ sym live.0;
      tables = λ id. agrees.tables id ∙ ap (count_by (λ n. n == id)) (sym live.1);
      schemas = schemas_by_kind state made.session.0 session local made.kind (and_right (has_number state.number made.kind) _ lawful) agrees;
      prepared = by (transaction_of state session) refl;
    }
  where
    by : (t : Option Transaction) → transaction_of state session ≡ t → AreStorable (state_after state made) session local.cursors
    by None e = all_anywhere state (state_after state made) session (unlocked_outside base dropped kept state session h e) local.cursors agrees.prepared
    by (Some t) e = all_stay state (state_after state made) session (view_stays state made session t e other lawful) (same_locks state (state_after state made) session (stays_after state made session other lawful).1) local.cursors agrees.prepared

-- entries that are lawful each in its turn
pub others_keep_all : (state : DatabaseState) (session : ℕ) (local : LocalState) (entries : List Entry) → HasHistory state → AreLawful state entries → AllByRecursion (λ made. (session == made.session.0) ≡ false) entries → Agrees state session local
    → Agrees (state_after_all state entries) session local
others_keep_all state session local [] h lawful other agrees = agrees
others_keep_all state session local (made ∷ entries) h lawful other agrees =
    others_keep_all (state_after state made) session local entries (keeps_some state made h lawful.0) lawful.1 other.1
    (others_keep h.base h.dropped h.kept state session local made h.is_history lawful.0 other.0 agrees)
