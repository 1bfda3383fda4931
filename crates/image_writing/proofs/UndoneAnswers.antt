-- What is answered in states that differ in undone changes.
use Rattle.std.proofs.Common.{◌≡◌, ℕ, ◌+◌, ◌-◌, ◌<◌, ◌≤◌, inl, inr, Bool, true, false, List, refl, sym, ap, subst, ◌∙◌, arith}
use Rattle.std.specs.Prelude.{nat_lt}
use Rattle.std.proofs.lemmas.Bool.Decides.{nat_tests}
use Rattle.common_lemmas.proofs.Booleans.{impossible}
use Rattle.jet_base.specs.declared.replies.Jet.TheVariants as jet
use Rattle.index_derive.specs.declared.log.Entry.{Entry}
use Rattle.database_state.specs.Equivalence.{AreEquivalent, essence}
use Rattle.database_state.specs.Lawful.{is_lawful}
use Rattle.database_state.specs.State.{DatabaseState, PastChange}
use Rattle.database_state.specs.Step.{state_after}
use Rattle.database_state.specs.VersionStore.{version_span}
use Rattle.laws_engine.proofs.EquivalentLemmas.Answering.{agrees_alike, answers_alike}
use Rattle.laws_engine.proofs.EquivalentLemmas.Lawful.{lawful_alike}
use Rattle.laws_engine.proofs.EquivalentLemmas.LawfulSteps.{after_alike}
use Rattle.laws_engine.proofs.EquivalentLemmas.Reading.{by_past, span_alike}
use Rattle.laws_engine.specs.PlainIndexes.{read_no_sums}
use Rattle.laws_images.proofs.SettledLemmas.SettledHistories.{has_history}
use Rattle.laws_images.specs.Settled.{settled}
use Rattle.laws_versions.proofs.HistoryLemmas.LawfulEntries.{keeps_some}
use Rattle.laws_versions.specs.History.{EachTwo, HasHistory, LabelsRise}
use Rattle.session_local.specs.Agreement.{Agrees}
use Rattle.session_local.specs.declared.request.Request.{Request}
use Rattle.session_local.specs.Calls.{answer}
use Rattle.session_local.specs.Local.{LocalState}
use Rattle.session_local.specs.Outcome.{CallInputs, Outcome, refused}
use Rattle.image_writing.specs.LighterStates.{AreUndone, DiffersInUndone, is_out_of_room, lighter, undone_span, without_marked}
use Rattle.image_writing.proofs.AnswersWithRoom.{GoesWith, ReadsAlike, answers_with}
use Rattle.image_writing.proofs.LighterReads.{lighter_agrees, lighter_concurrent, lighter_newest, lighter_span, lighter_view}
use Rattle.image_writing.proofs.LighterSteps.{after_undone, lighter_after, lighter_takes}
use Rattle.image_writing.proofs.Marked.{all_marked, all_undone, marks_of, span_apart}

abbrev inputs : DatabaseState → ℕ → ℕ → LocalState → CallInputs
inputs state limit session local = record { limit = limit; state = state; session = session; local = local }

-- ---- room

-- under the same limit there is no less of it where the span is no greater
room_same : (limit p q : ℕ) → q ≤ p → (cost : ℕ) → 0 < cost → nat_lt limit (p + cost) ≡ false → nat_lt limit (q + cost) ≡ false
room_same limit p q h cost some e = grind (arith, nat_tests)

-- under a limit that is lower by what the spans differ, there is as much
room_less : (limit p q : ℕ) → q ≤ p → (cost : ℕ) → 0 < cost → nat_lt limit (p + cost) ≡ false → nat_lt (limit - (p - q)) (q + cost) ≡ false
room_less limit p q h cost some e = grind (arith, nat_tests)

room_back : (limit p q : ℕ) → q ≤ p → (cost : ℕ) → 0 < cost → nat_lt (limit - (p - q)) (q + cost) ≡ false → nat_lt limit (p + cost) ≡ false
room_back limit p q h cost some e = grind (arith, nat_tests)

with_room : (asked : CallInputs) (one other : Outcome) → GoesWith asked one other → is_out_of_room one ≡ false → one ≡ other
with_room asked one other (inl full) e = impossible (sym e ∙ ap is_out_of_room full)
with_room asked one other (inr same) e = same

-- each refuses for want of room where the other does
both_ways : (asked back : CallInputs) (one other : Outcome) → refused asked jet.VersionStoreOutOfMemory ≡ refused back jet.VersionStoreOutOfMemory → GoesWith asked one other → GoesWith back other one → one ≡ other
both_ways asked back one other same (inr e) h = e
both_ways asked back one other same (inl full) (inr e) = sym e
both_ways asked back one other same (inl full) (inl too) = full ∙ same ∙ sym too

-- ---- a state without some of its undone changes

reads : (marks : List Bool) (state : DatabaseState) → AreUndone marks state.past → (limit session : ℕ) (local : LocalState) → ReadsAlike (inputs state limit session local) (without_marked marks state.past)
reads marks state h limit session local = record {
  view = sym (lighter_view marks state h session);
  newest = sym (lighter_newest marks state h);
  concurrent = sym (lighter_concurrent marks state h session);
}

reads_back : (marks : List Bool) (state : DatabaseState) → AreUndone marks state.past → (limit session : ℕ) (local : LocalState) → ReadsAlike (inputs (lighter marks state) limit session local) state.past
reads_back marks state h limit session local = record {
  view = lighter_view marks state h session;
  newest = lighter_newest marks state h;
  concurrent = lighter_concurrent marks state h session;
}

lighter_room : (marks : List Bool) (state : DatabaseState) → AreUndone marks state.past → (limit session : ℕ) (local : LocalState) (request : Request)
    → is_out_of_room (answer (inputs state limit session local) request) ≡ false → answer (inputs state limit session local) request ≡ answer (inputs (lighter marks state) limit session local) request
lighter_room marks state h limit session local request =
    with_room (inputs state limit session local) (answer (inputs state limit session local) request) (answer (inputs (lighter marks state) limit session local) request)
    (answers_with (inputs state limit session local) limit (without_marked marks state.past) (reads marks state h limit session local)
    (room_same limit (version_span state) (version_span (lighter marks state)) (lighter_span marks state h)) request)

lighter_limits : (marks : List Bool) (state : DatabaseState) → AreUndone marks state.past → (limit session : ℕ) (local : LocalState) (request : Request)
    → answer (inputs state limit session local) request ≡ answer (inputs (lighter marks state) (limit - (version_span state - version_span (lighter marks state))) session local) request
lighter_limits marks state h limit session local request =
    both_ways (inputs state limit session local) (inputs (lighter marks state) lower session local) (answer (inputs state limit session local) request) (answer (inputs (lighter marks state) lower session local) request) refl
    (answers_with (inputs state limit session local) lower (without_marked marks state.past) (reads marks state h limit session local)
    (room_less limit (version_span state) (version_span (lighter marks state)) (lighter_span marks state h)) request)
    (answers_with (inputs (lighter marks state) lower session local) limit state.past (reads_back marks state h lower session local)
    (room_back limit (version_span state) (version_span (lighter marks state)) (lighter_span marks state h)) request)
  where
    lower : ℕ
    lower = limit - (version_span state - version_span (lighter marks state))

-- ---- a state without all of them

settled_is : (state : DatabaseState) → lighter (marks_of state.past) state ≡ settled state
settled_is state = ap (λ (past : List PastChange). record state { past = past }) (all_marked state.past)

pub settled_span : (state : DatabaseState) → version_span state ≡ version_span (settled state) + undone_span state
unfolding version_span
settled_span state = span_apart state.sessions state.past

difference : (p q u : ℕ) → p ≡ q + u → p - q ≡ u
difference p q u e = omega (arith, e)

pub settled_limits : (state : DatabaseState) (limit session : ℕ) (local : LocalState) (request : Request) → answer (inputs state limit session local) request ≡ answer (inputs (settled state) (limit - undone_span state) session local) request
settled_limits state limit session local request =
    lighter_limits (marks_of state.past) state (all_undone state.past) limit session local request
    ∙ ap (λ (s : DatabaseState). answer (inputs s (limit - (version_span state - version_span s)) session local) request) (settled_is state)
    ∙ ap (λ n. answer (inputs (settled state) (limit - n) session local) request) (difference (version_span state) (version_span (settled state)) (undone_span state) (settled_span state))

pub settled_room : (state : DatabaseState) (limit session : ℕ) (local : LocalState) (request : Request) → is_out_of_room (answer (inputs state limit session local) request) ≡ false
    → answer (inputs state limit session local) request ≡ answer (inputs (settled state) limit session local) request
settled_room state limit session local request e =
    lighter_room (marks_of state.past) state (all_undone state.past) limit session local request e
    ∙ ap (λ (s : DatabaseState). answer (inputs s limit session local) request) (settled_is state)

-- ---- states that differ in undone changes

pub settled_differs : (state : DatabaseState) → HasHistory state → DiffersInUndone state (settled state)
settled_differs state h = record {
  marks = marks_of state.past;
  undone = all_undone state.past;
  history = subst HasHistory (sym (settled_is state)) (has_history state h);
  equivalent = ap essence (settled_is state);
}

pub equivalent_differs : (one other another : DatabaseState) → DiffersInUndone one other → AreEquivalent other another → DiffersInUndone one another
equivalent_differs one other another d e = record { marks = d.marks; undone = d.undone; history = d.history; equivalent = d.equivalent ∙ e }

same_span : (one other : DatabaseState) → AreEquivalent one other → version_span one ≡ version_span other
same_span = by_past (λ one other. version_span one ≡ version_span other) span_alike

pub differing_span : (one other : DatabaseState) → DiffersInUndone one other → version_span other ≤ version_span one
differing_span one other d = subst (λ n. n ≤ version_span one) (same_span (lighter d.marks one) other d.equivalent) (lighter_span d.marks one d.undone)

pub differing_agrees : (one other : DatabaseState) → DiffersInUndone one other → (session : ℕ) (local : LocalState) → Agrees one session local → Agrees other session local
differing_agrees one other d session local h =
    by_past (λ one other. (session : ℕ) (local : LocalState) → Agrees one session local → Agrees other session local) agrees_alike (lighter d.marks one) other d.equivalent session local
    (lighter_agrees d.marks one d.undone session local h)

lawful_same : (one other : DatabaseState) → AreEquivalent one other → read_no_sums one.tables ≡ true → (made : Entry) → is_lawful one made ≡ is_lawful other made
lawful_same = by_past (λ one other. read_no_sums one.tables ≡ true → (made : Entry) → is_lawful one made ≡ is_lawful other made) lawful_alike

pub differing_takes : (one other : DatabaseState) → DiffersInUndone one other → read_no_sums one.tables ≡ true → (made : Entry) → is_lawful one made ≡ is_lawful other made
differing_takes one other d none made = sym (lighter_takes d.marks one d.undone made) ∙ lawful_same (lighter d.marks one) other d.equivalent none made

after_same : (one other : DatabaseState) → AreEquivalent one other → HasHistory one → HasHistory other → EachTwo LabelsRise one.sessions → (made : Entry) → is_lawful one made ≡ true → AreEquivalent (state_after one made) (state_after other made)
after_same =
    by_past
    (λ one other. HasHistory one → HasHistory other → EachTwo LabelsRise one.sessions → (made : Entry) → is_lawful one made ≡ true → AreEquivalent (state_after one made) (state_after other made)) after_alike

pub differing_after : (one other : DatabaseState) → DiffersInUndone one other → HasHistory other → EachTwo LabelsRise one.sessions → (made : Entry) → is_lawful one made ≡ true → DiffersInUndone (state_after one made) (state_after other made)
differing_after one other d has rise made lawful =
    let too = lighter_takes d.marks one d.undone made ∙ lawful in
    let after = lighter_after d.marks one d.undone made in
    record {
      marks = d.marks;
      undone = after_undone d.marks one d.undone made;
      history = subst HasHistory after (keeps_some (lighter d.marks one) made d.history too);
      equivalent = sym (ap essence after) ∙ after_same (lighter d.marks one) other d.equivalent d.history has rise made too;
    }

-- ---- their answers

answers_same : (one other : DatabaseState) → AreEquivalent one other → read_no_sums one.tables ≡ true → (limit session : ℕ) (local : LocalState) → Agrees one session local → (request : Request)
    → answer (inputs one limit session local) request ≡ answer (inputs other limit session local) request
answers_same =
    by_past
    (λ one other. read_no_sums one.tables ≡ true → (limit session : ℕ) (local : LocalState) → Agrees one session local → (request : Request)
    → answer (inputs one limit session local) request ≡ answer (inputs other limit session local) request) answers_alike

pub differing_limits : (one other : DatabaseState) → DiffersInUndone one other → read_no_sums one.tables ≡ true → (limit session : ℕ) (local : LocalState) → Agrees one session local → (request : Request)
    → answer (inputs one limit session local) request ≡ answer (inputs other (limit - (version_span one - version_span other)) session local) request
differing_limits one other d none limit session local agrees request =
    lighter_limits d.marks one d.undone limit session local request
    ∙ ap (λ n. answer (inputs (lighter d.marks one) (limit - (version_span one - n)) session local) request) (same_span (lighter d.marks one) other d.equivalent)
    ∙ answers_same (lighter d.marks one) other d.equivalent none (limit - (version_span one - version_span other)) session local (lighter_agrees d.marks one d.undone session local agrees) request

pub differing_room : (one other : DatabaseState) → DiffersInUndone one other → read_no_sums one.tables ≡ true → (limit session : ℕ) (local : LocalState) → Agrees one session local → (request : Request)
    → is_out_of_room (answer (inputs one limit session local) request) ≡ false → answer (inputs one limit session local) request ≡ answer (inputs other limit session local) request
differing_room one other d none limit session local agrees request e =
    lighter_room d.marks one d.undone limit session local request e
    ∙ answers_same (lighter d.marks one) other d.equivalent none limit session local (lighter_agrees d.marks one d.undone session local agrees) request
