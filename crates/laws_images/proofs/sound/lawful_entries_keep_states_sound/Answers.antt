use Rattle.laws_images.proofs.SoundLemmas.Catalogs.{catalog_empty, catalog_kept}
use Rattle.laws_images.proofs.SoundLemmas.Sessions.{sessions_empty, sessions_kept}
use Rattle.laws_images.proofs.sound.lawful_entries_keep_states_sound.Goals as goal

pub returns-clause-empty : goal.returns-clause-empty
returns-clause-empty c = record { sessions = sessions_empty; catalog = catalog_empty }

pub returns-clause-kept : goal.returns-clause-kept
returns-clause-kept c state made h is e = record { sessions = sessions_kept state made h.sessions is e; catalog = catalog_kept state made h.catalog e }
