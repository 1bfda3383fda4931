use Rattle.laws_versions.proofs.KeyLemmas.OneEntry.{one_entry}
use Rattle.loggable_steps.proofs.Spelled.{entry_loggable}
use Rattle.loggable_steps.proofs.entries.lawful_entries_can_be_logged.Goals as goal

pub returns : goal.returns
returns c = λ base dropped kept state made reached lawful built typed label sized.
    entry_loggable state (record { one = one_entry; base = base; dropped = dropped; kept = kept; reached = reached }) made lawful built typed label sized
