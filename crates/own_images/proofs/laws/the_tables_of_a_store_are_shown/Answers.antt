use Rattle.own_images.proofs.Contents.{own_contents}
use Rattle.own_images.proofs.Missing.{tables_shown}
use Rattle.own_images.proofs.ValuesShown.{own_values}
use Rattle.own_images.proofs.laws.the_tables_of_a_store_are_shown.Goals as goal

pub returns-clause-contents : goal.returns-clause-contents
returns-clause-contents c store own = own_contents (record { fault = c.no_fault_is_told_of_a_tree.ensures.fault; depth = c.no_fault_is_told_of_a_tree.ensures.depth }) store own

pub returns-clause-tables : goal.returns-clause-tables
returns-clause-tables c store own = tables_shown store own

pub returns-clause-values : goal.returns-clause-values
returns-clause-values c store own id = own_values (record { fault = c.no_fault_is_told_of_a_tree.ensures.fault; depth = c.no_fault_is_told_of_a_tree.ensures.depth }) store own id
