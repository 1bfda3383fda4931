-- The labels of the live sessions rise.
use Rattle.std.proofs.Common.{◌≡◌, ℕ, ◌+◌, ◌-◌, ◌<◌, Bool, true, false, not, cond, List, [], ◌∷◌, Some, None, refl, sym, ap, subst, ◌∙◌, arith}
use Rattle.std.specs.Prelude.{◌==◌, nat_lt, map, filter, find, is_some, option_and_then, if◌then◌else◌}
use Rattle.std.specs.List.{AllByRecursion}
use Rattle.std.proofs.lemmas.Bool.Decides.{nat_tests}
use Rattle.std.proofs.lemmas.Bool.{not-true}
use Rattle.common_lemmas.proofs.Booleans.{and_left, and_right, impossible}
use Rattle.common_lemmas.proofs.Lists.{all_each, all_filter, all_weaker}
use Rattle.common_lemmas.proofs.Numbers.{self_equal}
use Rattle.index_derive.specs.declared.log.Entry.{Entry}
use Rattle.index_derive.specs.declared.log.EntryKind.{EntryKind}
use Rattle.index_derive.specs.declared.log.EntryKind.TheVariants as entry
use Rattle.database_state.specs.State.{DatabaseState, LiveSession, undone, transaction_of, live_session, levels}
use Rattle.database_state.specs.Step.{insert_session, with_transaction, at_levels, with_levels, with_changes_at, is_at_level, applied, state_after}
use Rattle.database_state.specs.Lawful.{has_number, is_lawful, is_lawful_kind}
use Rattle.laws_versions.specs.History.{EachTwo, LabelsRise}
use Rattle.laws_versions.specs.KeptSteps.{with_next_number}
use Rattle.laws_versions.proofs.HistoryLemmas.Lists.{all_both, each_map}

-- ---- a session more

all_insert : (P : LiveSession → Type 0) (new : LiveSession) (sessions : List LiveSession) → P new → AllByRecursion P sessions → AllByRecursion P (insert_session new sessions)
all_insert P new [] p h = (p, tt)
all_insert P new (s ∷ sessions) p h = elim (nat_lt new.label s.label) as (λ b. AllByRecursion P (cond b (new ∷ s ∷ sessions) (s ∷ insert_session new sessions))) [
  | true ↦ (p, h)
  | false ↦ (h.0, all_insert P new sessions p h.1)
]

rise_insert : (new : LiveSession) (sessions : List LiveSession) → AllByRecursion (λ s. (s.label == new.label) ≡ false) sessions → EachTwo LabelsRise sessions → EachTwo LabelsRise (insert_session new sessions)
rise_insert new [] other h = (tt, tt)
rise_insert new (s ∷ sessions) other h = elim (nat_lt new.label s.label) as (λ b. nat_lt new.label s.label ≡ b → EachTwo LabelsRise (cond b (new ∷ s ∷ sessions) (s ∷ insert_session new sessions))) [
  | true ↦ λ e. ((less new.label s.label e, all_weaker (LabelsRise s) (LabelsRise new) (λ x lt. less_all new.label s.label x.label e lt) sessions h.0), h)
  | false ↦ λ e. (all_insert (LabelsRise s) new sessions (above s.label new.label e other.0) h.0, rise_insert new sessions other.1 h.1)
] refl
  where
    less : (a b : ℕ) → nat_lt a b ≡ true → a < b
    less a b e = grind (arith, nat_tests)

    less_all : (a b c : ℕ) → nat_lt a b ≡ true → b < c → a < c
    less_all a b c e lt = grind (arith, nat_tests)

    above : (a b : ℕ) → nat_lt b a ≡ false → (a == b) ≡ false → a < b
    above a b e ne = grind (arith, nat_tests)

not_there : (label : ℕ) (sessions : List LiveSession) → is_some (find (λ (s : LiveSession). s.label == label) sessions) ≡ false → AllByRecursion (λ s. (s.label == label) ≡ false) sessions
not_there label [] h = tt
not_there label (s ∷ sessions) h = elim (s.label == label) as (λ b. is_some (cond b (Some s) (find (λ (s : LiveSession). s.label == label) sessions)) ≡ false → (b ≡ false) × AllByRecursion (λ s. (s.label == label) ≡ false) sessions) [
  | true ↦ λ e. impossible (sym e)
  | false ↦ λ e. (refl, not_there label sessions e)
] h

-- ---- one that changes, or goes

rise_with : (label : ℕ) (change : LiveSession → LiveSession) → ((s : LiveSession) → (change s).label ≡ s.label) → (sessions : List LiveSession) → EachTwo LabelsRise sessions
    → EachTwo LabelsRise (map (λ s. if s.label == label then change s else s) sessions)
rise_with label change same sessions h =
    each_map (λ (s : LiveSession). Unit {0}) LabelsRise LabelsRise (λ s. if s.label == label then change s else s)
    (λ one other x y lt. subst (λ (a : ℕ). a < (if other.label == label then change other else other).label) (sym (label_of one)) (subst (λ (b : ℕ). one.label < b) (sym (label_of other)) lt)) sessions (all_each (λ (s : LiveSession). Unit {0}) (λ s. tt) sessions) h
  where
    label_of : (s : LiveSession) → (if s.label == label then change s else s).label ≡ s.label
    label_of s = elim (s.label == label) as (λ b. (cond b (change s) s).label ≡ s.label) [ true ↦ same s | false ↦ refl ]

rise_filter : (p : LiveSession → Bool) (sessions : List LiveSession) → EachTwo LabelsRise sessions → EachTwo LabelsRise (filter p sessions)
rise_filter p [] h = tt
rise_filter p (s ∷ sessions) h = elim (p s) as (λ b. EachTwo LabelsRise (cond b (s ∷ filter p sessions) (filter p sessions))) [ true ↦ (all_filter (LabelsRise s) p sessions h.0, rise_filter p sessions h.1) | false ↦ rise_filter p sessions h.1 ]

-- ---- any entry

by_kind : (state : DatabaseState) (label : ℕ) (kind : EntryKind) → EachTwo LabelsRise state.sessions → is_lawful_kind state label kind ≡ true → EachTwo LabelsRise (applied label kind (with_next_number state)).sessions
by_kind state label entry.Enter h e =
    rise_insert (record { label = label; open_tables = []; transaction = None }) state.sessions (not_there label state.sessions (not-true (is_some (live_session state label)) (and_left _ _ e))) h
by_kind state label entry.Leave h e = rise_filter (λ s. not (s.label == label)) (with_transaction label None (with_next_number state)).sessions (rise_with label (λ s. record s { transaction = None }) (λ s. refl) state.sessions h)
by_kind state label (entry.Open table) h e = rise_with label _ (λ s. refl) state.sessions h
by_kind state label (entry.Shut table) h e = rise_with label _ (λ s. refl) state.sessions h
by_kind state label entry.Begin h e = rise_with label (λ s. record s { transaction = Some (record { levels = 1; begin = state.number + 1; snapshot = state.tables }) }) (λ s. refl) state.sessions h
by_kind state label entry.Save h e = rise_with label (λ s. record s { transaction = at_levels (λ n. n + 1) s.transaction }) (λ s. refl) state.sessions h
by_kind state label (entry.Change change) h e = h
by_kind state label entry.Release h e = rise_with label (λ s. record s { transaction = at_levels (λ n. n - 1) s.transaction }) (λ s. refl) state.sessions h
by_kind state label entry.Undo h e = either (nat_lt 1 (levels state label)) refl
  where
    undoing : DatabaseState
    undoing = with_changes_at label (is_at_level (levels state label)) (λ item. record item { status = undone }) (with_next_number state)

    either : (b : Bool) → nat_lt 1 (levels state label) ≡ b → EachTwo LabelsRise (cond b (with_levels label (λ n. n - 1) undoing) (with_transaction label None undoing)).sessions
    either true f = rise_with label (λ s. record s { transaction = at_levels (λ n. n - 1) s.transaction }) (λ s. refl) state.sessions h
    either false f = rise_with label (λ s. record s { transaction = None }) (λ s. refl) state.sessions h
by_kind state label entry.UndoAll h e = rise_with label (λ s. record s { transaction = None }) (λ s. refl) state.sessions h
by_kind state label entry.Commit h e = rise_with label (λ s. record s { transaction = None }) (λ s. refl) state.sessions h
by_kind state label (entry.Schema made) h e = h

pub labels_rise : (state : DatabaseState) (made : Entry) → EachTwo LabelsRise state.sessions → is_lawful state made ≡ true → EachTwo LabelsRise (state_after state made).sessions
unfolding is_lawful state_after
labels_rise state made h e = by_kind state made.session.0 made.kind h (and_right (has_number state.number made.kind) _ e)

-- ---- each session is the one of its label

found_by_label : (sessions : List LiveSession) → EachTwo LabelsRise sessions → AllByRecursion (λ x. find (λ (s : LiveSession). s.label == x.label) sessions ≡ Some x) sessions
found_by_label [] h = tt
found_by_label (s ∷ sessions) h = (
  ap (λ b. cond b (Some s) (find (λ (y : LiveSession). y.label == s.label) sessions)) (self_equal s.label),
  all_both (LabelsRise s) (λ x. find (λ (y : LiveSession). y.label == x.label) sessions ≡ Some x) (λ x. find (λ (y : LiveSession). y.label == x.label) (s ∷ sessions) ≡ Some x)
      (λ x lt f. ap (λ b. cond b (Some s) (find (λ (y : LiveSession). y.label == x.label) sessions)) (apart s.label x.label lt) ∙ f) sessions h.0 (found_by_label sessions h.1),
)
  where
    apart : (a b : ℕ) → a < b → (a == b) ≡ false
    apart a b lt = grind (arith, nat_tests)

-- each session's transaction is the one under its label
abbrev pub AreLabelled : DatabaseState → Type 0
AreLabelled state = AllByRecursion (λ s. transaction_of state s.label ≡ s.transaction) state.sessions

pub are_labelled : (state : DatabaseState) → EachTwo LabelsRise state.sessions → AreLabelled state
are_labelled state h =
    all_weaker (λ x. find (λ (s : LiveSession). s.label == x.label) state.sessions ≡ Some x) (λ x. transaction_of state x.label ≡ x.transaction)
    (λ x f. ap (option_and_then (λ (s : LiveSession). s.transaction)) f) state.sessions (found_by_label state.sessions h)
