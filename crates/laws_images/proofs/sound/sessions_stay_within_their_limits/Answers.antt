use Rattle.laws_images.proofs.SoundLemmas.Sessions.{sessions_empty, sessions_kept}
use Rattle.laws_images.proofs.sound.sessions_stay_within_their_limits.Goals as goal

pub returns-clause-empty : goal.returns-clause-empty
returns-clause-empty c = sessions_empty

pub returns-clause-kept : goal.returns-clause-kept
returns-clause-kept c state made h is e = sessions_kept state made h is e
