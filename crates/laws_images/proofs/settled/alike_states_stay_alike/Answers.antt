use Rattle.std.proofs.Common.{sym, ap, ◌∙◌}
use Rattle.std.specs.Prelude.{◌≡◌, true, []}
use Rattle.laws_images.proofs.SettledLemmas.AlikeStates.{equivalent_alike}
use Rattle.database_state.specs.Equivalence.{AreEquivalent, Essence, essence}
use Rattle.database_state.specs.Lawful.{is_lawful}
use Rattle.database_state.specs.State.{DatabaseState}
use Rattle.database_state.specs.Step.{state_after}
use Rattle.laws_engine.specs.PlainIndexes.{read_no_sums}
use Rattle.laws_engine.proofs.EquivalentLemmas.Lawful as lawful
use Rattle.laws_engine.proofs.EquivalentLemmas.LawfulSteps as steps
use Rattle.laws_engine.proofs.EquivalentLemmas.Reading.{by_past}
use Rattle.index_derive.specs.declared.log.Entry.{Entry}
use Rattle.laws_images.specs.Settled.{settled}
use Rattle.laws_images.proofs.SettledLemmas.SettledHistories.{has_history}
use Rattle.laws_images.proofs.SettledLemmas.LawfulEntries.{lawful_alike}
use Rattle.laws_images.proofs.SettledLemmas.Steps.{after_alike, settled_again}
use Rattle.laws_versions.specs.History.{EachTwo, HasHistory, LabelsRise}
use Rattle.laws_images.proofs.settled.alike_states_stay_alike.Goals as goal

abbrev without_past : Essence → DatabaseState
without_past e = record { number = e.number; greatest_table = e.greatest_table; tables = e.tables; sessions = []; past = [] }

takes : (one other : DatabaseState) → AreEquivalent one other → read_no_sums one.tables ≡ true → (made : Entry) → is_lawful one made ≡ is_lawful other made
takes = by_past (λ one other. read_no_sums one.tables ≡ true → (made : Entry) → is_lawful one made ≡ is_lawful other made) lawful.lawful_alike

stays : (one other : DatabaseState) → AreEquivalent one other → HasHistory one → HasHistory other → EachTwo LabelsRise one.sessions → (made : Entry) → is_lawful one made ≡ true → AreEquivalent (state_after one made) (state_after other made)
stays =
    by_past
    (λ one other. HasHistory one → HasHistory other → EachTwo LabelsRise one.sessions → (made : Entry) → is_lawful one made ≡ true → AreEquivalent (state_after one made) (state_after other made))
    steps.after_alike

pub returns-clause-equivalent : goal.returns-clause-equivalent
returns-clause-equivalent c one other e = equivalent_alike one other e

pub returns-clause-settled : goal.returns-clause-settled
returns-clause-settled c state = ap essence (sym (settled_again state))

pub returns-clause-closes : goal.returns-clause-closes
returns-clause-closes c one other e = ap without_past e

pub returns-clause-takes : goal.returns-clause-takes
returns-clause-takes c one other e none made = sym (lawful_alike one made) ∙ takes (settled one) (settled other) e none made ∙ lawful_alike other made

pub returns-clause-stays : goal.returns-clause-stays
returns-clause-stays c one other e one_has other_has rise made come =
    sym (ap essence (after_alike one made))
    ∙ equivalent_alike (state_after (settled one) made) (state_after (settled other) made) (stays (settled one) (settled other) e (has_history one one_has) (has_history other other_has) rise made (lawful_alike one made ∙ come))
    ∙ ap essence (after_alike other made)
