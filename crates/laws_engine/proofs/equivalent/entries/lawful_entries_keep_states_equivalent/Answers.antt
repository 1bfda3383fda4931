use Rattle.std.specs.Prelude.{◌≡◌, true}
use Rattle.index_derive.specs.declared.log.Entry.{Entry}
use Rattle.database_state.specs.Equivalence.{AreEquivalent}
use Rattle.database_state.specs.Lawful.{is_lawful}
use Rattle.database_state.specs.Step.{state_after}
use Rattle.laws_versions.specs.History.{EachTwo, HasHistory, LabelsRise}
use Rattle.laws_engine.proofs.EquivalentLemmas.LawfulSteps.{after_alike}
use Rattle.laws_engine.proofs.EquivalentLemmas.Reading.{by_past}
use Rattle.laws_engine.proofs.equivalent.entries.lawful_entries_keep_states_equivalent.Goals as goal

pub returns : goal.returns
returns c =
    by_past
    (λ one other. HasHistory one → HasHistory other → EachTwo LabelsRise one.sessions → (made : Entry) → is_lawful one made ≡ true → AreEquivalent (state_after one made) (state_after other made))
    after_alike
