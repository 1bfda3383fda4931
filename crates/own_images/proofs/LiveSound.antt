-- The live part of an own engine is sound.
use Rattle.std.proofs.Common.{◌≡◌, true, false, not, ◌&&◌, List, [], ◌∷◌, ap, ◌∙◌}
use Rattle.std.specs.List.{AllByRecursion, list_all}
use Rattle.std.proofs.lemmas.Bool.{and_from}
use Rattle.common_lemmas.proofs.Lists.{filter_all}
use Rattle.database_state.specs.State.{is_undone}
use Rattle.live_part.specs.LiveBytes.{standing}
use Rattle.version_cleanup.specs.LiveSessions.{LiveState}
use Rattle.version_store.specs.HeldChanges.{HeldChange}
use Rattle.image_findings.specs.LiveFindings.{are_in_order, are_sound_sessions, is_sound_change, is_sound_live}
use Rattle.own_images.proofs.ChangesInOrder.{own_order}
use Rattle.own_images.proofs.ChangesSound.{own_changes_sound}
use Rattle.own_images.proofs.RowsSound.{NewestLaw, each_standing}
use Rattle.own_images.proofs.SessionsSound.{own_sessions}
use Rattle.own_images.proofs.Walked.{WalkLaws}
use Rattle.own_images.specs.OwnEngines.{IsOwnEngine, live_of_store}
use Rattle.own_images.specs.OwnStores.{OwnStore, contents_of}

-- what stands still stands
pub standing_again : (held : List HeldChange) → standing (standing held) ≡ standing held
standing_again held = filter_all (λ (h : HeldChange). not (is_undone h.status)) (standing held) (each_standing (λ h. not (is_undone h.status) ≡ true) held (each held))
  where
    each : (held : List HeldChange) → AllByRecursion (λ (h : HeldChange). is_undone h.status ≡ false → not (is_undone h.status) ≡ true) held
    each [] = tt
    each (h ∷ held) = (λ e. ap not e, each held)

pub own_live : WalkLaws → NewestLaw → (sessions : List LiveState) (store : OwnStore) → IsOwnEngine sessions store → is_sound_live store.number (contents_of store) (live_of_store sessions store) ≡ true
own_live walks law sessions store own =
    let tables = contents_of store in
    and_from (are_sound_sessions store.number tables sessions) (list_all (is_sound_change store.number tables sessions) (standing store.held) && are_in_order tables sessions (standing (standing store.held))) (own_sessions sessions store own)
    (and_from (list_all (is_sound_change store.number tables sessions) (standing store.held)) (are_in_order tables sessions (standing (standing store.held))) (own_changes_sound walks sessions store own)
    (ap (are_in_order tables sessions) (standing_again store.held) ∙ own_order walks law sessions store own))
