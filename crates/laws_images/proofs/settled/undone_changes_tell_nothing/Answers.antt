use Rattle.laws_images.proofs.SettledLemmas.SettledHistories.{has_history}
use Rattle.laws_images.proofs.SettledLemmas.LawfulEntries.{all_alike, lawful_alike}
use Rattle.laws_images.proofs.SettledLemmas.Steps.{after_alike, last_alike}
use Rattle.laws_images.proofs.settled.undone_changes_tell_nothing.Goals as goal

pub returns-clause-lawful : goal.returns-clause-lawful
returns-clause-lawful c state made = lawful_alike state made

pub returns-clause-after : goal.returns-clause-after
returns-clause-after c state made = after_alike state made

pub returns-clause-all : goal.returns-clause-all
returns-clause-all c state entries h = all_alike state entries h

pub returns-clause-last : goal.returns-clause-last
returns-clause-last c state entries = last_alike state entries

pub returns-clause-history : goal.returns-clause-history
returns-clause-history c state h = has_history state h
