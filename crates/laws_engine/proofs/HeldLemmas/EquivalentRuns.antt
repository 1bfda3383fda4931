-- Entries that are lawful each in its turn, from equivalent states.
use Rattle.std.proofs.Common.{◌≡◌, ℕ, true, List, [], ◌∷◌, sym, ◌∙◌}
use Rattle.index_derive.specs.declared.log.Entry.{Entry}
use Rattle.database_state.specs.State.{DatabaseState}
use Rattle.database_state.specs.Equivalence.{AreEquivalent}
use Rattle.database_state.specs.Lawful.{is_lawful}
use Rattle.database_state.specs.Step.{state_after, state_after_all}
use Rattle.laws_versions.specs.History.{EachTwo, HasHistory, LabelsRise}
use Rattle.laws_versions.proofs.HistoryLemmas.Labels.{labels_rise}
use Rattle.laws_versions.proofs.HistoryLemmas.LawfulEntries.{keeps_some}
use Rattle.session_local.specs.declared.request.Request.{Request}
use Rattle.session_local.specs.Agreement.{Agrees}
use Rattle.session_local.specs.Calls.{answer}
use Rattle.session_local.specs.Local.{LocalState}
use Rattle.laws_engine.specs.LawfulSteps.{AreLawful}
use Rattle.laws_engine.specs.InStep.{IsInStep}
use Rattle.laws_engine.specs.EngineState.{EngineState}
use Rattle.laws_engine.specs.HoldsState.{HoldsState, inputs_of}
use Rattle.laws_engine.specs.PlainIndexes.{read_no_sums}
use Rattle.laws_engine.proofs.EquivalentLemmas.Answering.{answers_alike}
use Rattle.laws_engine.proofs.EquivalentLemmas.Lawful.{lawful_alike}
use Rattle.laws_engine.proofs.EquivalentLemmas.LawfulSteps.{after_alike}
use Rattle.laws_engine.proofs.EquivalentLemmas.Reading.{by_past}
use Rattle.laws_engine.specs.PlainColumns.{HasPlainIndexes}
use Rattle.laws_engine.proofs.HeldLemmas.HeldIndexes.{held_read_no_sums}
use Rattle.laws_engine.proofs.HeldLemmas.HeldStates.{held_equivalent}
use Rattle.laws_engine.proofs.HeldLemmas.PlainSteps.{plain_read_no_sums, stays_plain}

lawful_too : (one other : DatabaseState) → AreEquivalent one other → HasPlainIndexes one → (made : Entry) → is_lawful one made ≡ true → is_lawful other made ≡ true
lawful_too one other e plain made lawful =
    sym (by_past (λ one other. read_no_sums one.tables ≡ true → (made : Entry) → is_lawful one made ≡ is_lawful other made) lawful_alike one other e (plain_read_no_sums one plain) made) ∙ lawful

next_equivalent : (one other : DatabaseState) → AreEquivalent one other → HasHistory one → HasHistory other → EachTwo LabelsRise one.sessions → (made : Entry) → is_lawful one made ≡ true → AreEquivalent (state_after one made) (state_after other made)
next_equivalent =
    by_past
    (λ one other. HasHistory one → HasHistory other → EachTwo LabelsRise one.sessions → (made : Entry) → is_lawful one made ≡ true → AreEquivalent (state_after one made) (state_after other made)) after_alike

pub all_lawful : (one other : DatabaseState) → AreEquivalent one other → HasHistory one → HasHistory other → EachTwo LabelsRise one.sessions → HasPlainIndexes one → (entries : List Entry) → AreLawful one entries → AreLawful other entries
all_lawful one other e h g rise plain [] lawful = tt
all_lawful one other e h g rise plain (made ∷ entries) lawful =
    let too = lawful_too one other e plain made lawful.0 in (
      too,
      all_lawful (state_after one made) (state_after other made) (next_equivalent one other e h g rise made lawful.0) (keeps_some one made h lawful.0) (keeps_some other made g too) (labels_rise one made rise lawful.0)
          (stays_plain one made plain lawful.0) entries lawful.1,
    )

pub all_equivalent : (one other : DatabaseState) → AreEquivalent one other → HasHistory one → HasHistory other → EachTwo LabelsRise one.sessions → HasPlainIndexes one → (entries : List Entry) → AreLawful one entries
    → AreEquivalent (state_after_all one entries) (state_after_all other entries)
all_equivalent one other e h g rise plain [] lawful = e
all_equivalent one other e h g rise plain (made ∷ entries) lawful =
    all_equivalent (state_after one made) (state_after other made) (next_equivalent one other e h g rise made lawful.0) (keeps_some one made h lawful.0)
    (keeps_some other made g (lawful_too one other e plain made lawful.0)) (labels_rise one made rise lawful.0) (stays_plain one made plain lawful.0) entries lawful.1

-- ---- states of one engine

pub held_answers : (engine : EngineState) (one other : DatabaseState) → HoldsState engine one → HoldsState engine other
    → (session : ℕ) (local : LocalState) → IsInStep one session local → (request : Request) → answer (inputs_of engine one session local) request ≡ answer (inputs_of engine other session local) request
held_answers engine one other h g session local in_step request =
    by_past
    (λ one other. read_no_sums one.tables ≡ true → (limit session : ℕ) (local : LocalState) → Agrees one session local → (request : Request)
    → answer (record { limit = limit; state = one; session = session; local = local }) request ≡ answer (record { limit = limit; state = other; session = session; local = local }) request) answers_alike one other
    (held_equivalent engine one other h g) (held_read_no_sums engine one h) engine.limit session local in_step.agrees request

pub held_entries : (engine : EngineState) (one other : DatabaseState) → HoldsState engine one → HoldsState engine other → (made : Entry) → is_lawful one made ≡ is_lawful other made
held_entries engine one other h g made =
    by_past (λ one other. read_no_sums one.tables ≡ true → (made : Entry) → is_lawful one made ≡ is_lawful other made) lawful_alike one other (held_equivalent engine one other h g) (held_read_no_sums engine one h) made
