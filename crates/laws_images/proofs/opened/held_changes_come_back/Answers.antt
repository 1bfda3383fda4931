use Rattle.laws_images.proofs.OpenedLemmas.TakenBack.{befores, newest, readers}
use Rattle.laws_images.proofs.opened.held_changes_come_back.Goals as goal

pub returns-clause-newest : goal.returns-clause-newest
returns-clause-newest c changes tables turn = newest changes tables turn

pub returns-clause-befores : goal.returns-clause-befores
returns-clause-befores c changes tables turn = befores changes tables turn

pub returns-clause-readers : goal.returns-clause-readers
returns-clause-readers c changes tables turn test = readers changes tables turn test
