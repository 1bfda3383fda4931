use Rattle.std.proofs.Common.{sym}
use Rattle.soft_recovery.proofs.OwnNames.{names_alike, sound_names}
use Rattle.soft_recovery.proofs.next_entries.schema.sound_catalogs_have_own_names.Goals as goal

pub returns : goal.returns
returns c = λ engine state h sound.
    names_alike c.tables_are_found_without_records.ensures.numbered state.tables engine.store.tables (sym (c.tables_are_told.ensures.tables engine state h)) (sound_names state sound)
