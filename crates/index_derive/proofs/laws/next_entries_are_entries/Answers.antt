use Rattle.index_derive.specs.Entries.{key_list}
use Rattle.index_derive.proofs.Bridge.{rising_list}
use Rattle.index_derive.proofs.Least.{steps_through}
use Rattle.index_derive.proofs.laws.next_entries_are_entries.Goals as goal

pub returns : goal.returns
returns c = λ rule schema fields more. steps_through (key_list rule schema fields) more (rising_list rule schema fields)
