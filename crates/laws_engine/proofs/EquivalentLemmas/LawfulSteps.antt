-- A lawful entry, in two states of one essence that have histories.
use Rattle.std.proofs.Common.{◌≡◌, ℕ, ◌+◌, ◌≤◌, true, false, List, [], ◌++◌, Option, sym, ap, subst, ◌∙◌, arith}
use Rattle.std.specs.List.{AllByRecursion}
use Rattle.common_lemmas.proofs.Lists.{all_append, all_weaker}
use Rattle.index_derive.specs.declared.log.Entry.{Entry}
use Rattle.index_derive.specs.declared.log.EntryKind.{EntryKind}
use Rattle.index_derive.specs.declared.log.EntryKind.TheVariants as entry
use Rattle.index_derive.specs.declared.schema_calls.SchemaStep.{SchemaStep}
use Rattle.database_state.specs.Table.{Table}
use Rattle.database_state.specs.State.{DatabaseState, PastChange, Transaction, transaction_of}
use Rattle.database_state.specs.VersionStore.{is_needed, from_oldest_needed}
use Rattle.database_state.specs.Equivalence.{AreEquivalent}
use Rattle.database_state.specs.Step.{state_after}
use Rattle.database_state.specs.Lawful.{is_lawful}
use Rattle.laws_versions.specs.History.{EachTwo, HasHistory, IsPassed, IsPassedBy, IsPlaced, IsPlacedBy, LabelsRise}
use Rattle.laws_versions.specs.KeptSteps.{with_next_number}
use Rattle.laws_versions.proofs.HistoryLemmas.Labels.{are_labelled}
use Rattle.laws_versions.proofs.HistoryLemmas.LawfulEntries.{keeps_lawful}
use Rattle.laws_engine.proofs.EquivalentLemmas.Reading.{SamePast, with_past}
use Rattle.laws_engine.proofs.EquivalentLemmas.Sessions.{none_needed}
use Rattle.laws_engine.proofs.EquivalentLemmas.Unneeded.{passed_unneeded}
use Rattle.laws_engine.proofs.EquivalentLemmas.Steps.{IsReached, IsReady, applied_alike}
use Rattle.laws_engine.proofs.EquivalentLemmas.Lawful.{lawful_step_alike}

-- ---- what a history says of the past

one_more : (at number : ℕ) → at ≤ number → at ≤ number + 1
one_more at number h = grind (arith)

passed_reached : (number : ℕ) (transactions : ℕ → Option Transaction) (x : PastChange) → IsPassed number transactions x → IsReached (number + 1) x
passed_reached number transactions x h at e = one_more at number (subst (IsPassedBy number transactions) e h).0

placed_reached : (number : ℕ) (tables : List Table) (transactions : ℕ → Option Transaction) (x : PastChange) → IsPlaced number tables transactions x → IsReached (number + 1) x
placed_reached number tables transactions x h at e = one_more at number (subst (IsPlacedBy number transactions x) e h.2).1

all_reached : (state : DatabaseState) → HasHistory state → AllByRecursion (IsReached (state.number + 1)) state.past
all_reached state h =
    subst (AllByRecursion (IsReached (state.number + 1))) (sym h.is_history.past)
    (all_append (IsReached (state.number + 1)) h.dropped h.kept
    (all_weaker (IsPassed state.number (transaction_of state)) (IsReached (state.number + 1)) (passed_reached state.number (transaction_of state)) h.dropped h.is_history.passed)
    (all_weaker (IsPlaced state.number state.tables (transaction_of state)) (IsReached (state.number + 1)) (placed_reached state.number state.tables (transaction_of state)) h.kept h.is_history.keeps.placed))

-- no change is needed where a schema step may come
all_unneeded : (state : DatabaseState) → HasHistory state → EachTwo LabelsRise state.sessions → (label : ℕ) (made : SchemaStep) → is_lawful state (record { session = record { 0 = label }; kind = entry.Schema made }) ≡ true
    → from_oldest_needed state.sessions state.past ≡ []
unfolding state_after
all_unneeded state h rise label made lawful =
    let after = keeps_lawful h.base h.dropped h.kept state (record { session = record { 0 = label }; kind = entry.Schema made }) h.is_history lawful in
    ap (from_oldest_needed state.sessions) h.is_history.past
    ∙ none_needed state.sessions (h.dropped ++ h.kept)
    (all_weaker (IsPassed (state.number + 1) (transaction_of state)) (λ item. is_needed state.sessions item ≡ false) (passed_unneeded (state.number + 1) (transaction_of state) state.sessions (are_labelled state rise)) (h.dropped ++ h.kept) after.passed)

ready : (state : DatabaseState) → HasHistory state → EachTwo LabelsRise state.sessions → (label : ℕ) (kind : EntryKind) → is_lawful state (record { session = record { 0 = label }; kind = kind }) ≡ true → IsReady (with_next_number state) state.past kind
ready state h rise label entry.Enter lawful = tt
ready state h rise label entry.Leave lawful = tt
ready state h rise label (entry.Open table) lawful = tt
ready state h rise label (entry.Shut table) lawful = tt
ready state h rise label entry.Begin lawful = all_reached state h
ready state h rise label entry.Save lawful = tt
ready state h rise label (entry.Change change) lawful = tt
ready state h rise label entry.Release lawful = tt
ready state h rise label entry.Undo lawful = tt
ready state h rise label entry.UndoAll lawful = tt
ready state h rise label entry.Commit lawful = tt
ready state h rise label (entry.Schema made) lawful = all_unneeded state h rise label made lawful

-- the same of the other past
ready_too : (state : DatabaseState) (past : List PastChange) → HasHistory (with_past state past) → EachTwo LabelsRise state.sessions → (label : ℕ) (kind : EntryKind) → is_lawful state (record { session = record { 0 = label }; kind = kind }) ≡ true
    → IsReady (with_next_number state) past kind
ready_too state past h rise label entry.Enter lawful = tt
ready_too state past h rise label entry.Leave lawful = tt
ready_too state past h rise label (entry.Open table) lawful = tt
ready_too state past h rise label (entry.Shut table) lawful = tt
ready_too state past h rise label entry.Begin lawful = all_reached (with_past state past) h
ready_too state past h rise label entry.Save lawful = tt
ready_too state past h rise label (entry.Change change) lawful = tt
ready_too state past h rise label entry.Release lawful = tt
ready_too state past h rise label entry.Undo lawful = tt
ready_too state past h rise label entry.UndoAll lawful = tt
ready_too state past h rise label entry.Commit lawful = tt
ready_too state past h rise label (entry.Schema made) lawful = all_unneeded (with_past state past) h rise label made (sym (lawful_step_alike state past label made) ∙ lawful)

pub after_alike : (state : DatabaseState) (past : List PastChange) → SamePast state past → HasHistory state → HasHistory (with_past state past) → EachTwo LabelsRise state.sessions → (made : Entry) → is_lawful state made ≡ true
    → AreEquivalent (state_after state made) (state_after (with_past state past) made)
unfolding state_after
after_alike state past e h g rise made lawful =
    applied_alike (with_next_number state) past e made.session.0 made.kind (ready state h rise made.session.0 made.kind lawful) (ready_too state past g rise made.session.0 made.kind lawful)
