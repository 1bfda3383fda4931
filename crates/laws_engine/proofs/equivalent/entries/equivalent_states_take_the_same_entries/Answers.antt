use Rattle.std.specs.Prelude.{◌≡◌, true}
use Rattle.index_derive.specs.declared.log.Entry.{Entry}
use Rattle.database_state.specs.Lawful.{is_lawful}
use Rattle.laws_engine.specs.PlainIndexes.{read_no_sums}
use Rattle.laws_engine.proofs.EquivalentLemmas.Lawful.{lawful_alike}
use Rattle.laws_engine.proofs.EquivalentLemmas.Reading.{by_past}
use Rattle.laws_engine.proofs.equivalent.entries.equivalent_states_take_the_same_entries.Goals as goal

pub returns : goal.returns
returns c = by_past (λ one other. read_no_sums one.tables ≡ true → (made : Entry) → is_lawful one made ≡ is_lawful other made) lawful_alike
