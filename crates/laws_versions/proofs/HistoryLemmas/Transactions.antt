-- The transactions of the sessions after one of them changed.
use Rattle.std.proofs.Common.{◌≡◌, ℕ, Bool, true, false, not, ◌&&◌, ◌||◌, cond, List, [], ◌∷◌, map, filter, Option, Some, None, refl, sym, ap, ◌∙◌}
use Rattle.std.specs.Prelude.{◌==◌, if◌then◌else◌, nat_lt, find, is_some, option_map, option_and_then}
use Rattle.std.specs.List.{list_any}
use Rattle.std.proofs.lemmas.Bool.{eqb-true}
use Rattle.common_lemmas.proofs.Numbers.{self_equal}
use Rattle.common_lemmas.proofs.Booleans.{impossible}
use Rattle.database_state.specs.State.{DatabaseState, LiveSession, Transaction, live_session, transaction_of, with_session}
use Rattle.database_state.specs.Step.{insert_session, entered, left, with_transaction, at_levels, with_levels}
use Rattle.laws_versions.proofs.HistoryLemmas.Keeping.{with_at}

abbrev pub labelled : ℕ → List LiveSession → Option LiveSession
labelled x sessions = find (λ s. s.label == x) sessions

abbrev pub transaction_in : Option LiveSession → Option Transaction
transaction_in found = option_and_then (λ s. s.transaction) found

-- ---- a session changed

pub found-with : (label x : ℕ) (change : LiveSession → LiveSession) → ((s : LiveSession) → (change s).label ≡ s.label) → (sessions : List LiveSession)
    → labelled x (map (λ s. if s.label == label then change s else s) sessions) ≡ cond (x == label) (option_map change (labelled x sessions)) (labelled x sessions)
found-with label x change same [] = elim (x == label) as (λ b. labelled x [] ≡ cond b (option_map change (labelled x [])) (labelled x [])) [ true ↦ refl | false ↦ refl ]
found-with label x change same (s ∷ sessions) =
    elim (s.label == label) as (λ b. (s.label == label) ≡ b
    → cond ((cond b (change s) s).label == x) (Some (cond b (change s) s)) (labelled x (map (λ s. if s.label == label then change s else s) sessions))
    ≡ cond (x == label) (option_map change (cond (s.label == x) (Some s) (labelled x sessions))) (cond (s.label == x) (Some s) (labelled x sessions))) [
      | true ↦ λ e.
          ap (λ k. cond (k == x) (Some (change s)) (labelled x (map (λ s. if s.label == label then change s else s) sessions))) (same s)
          ∙ elim (s.label == x) as (λ b. (s.label == x) ≡ b → cond b (Some (change s)) (labelled x (map (λ s. if s.label == label then change s else s) sessions))
          ≡ cond (x == label) (option_map change (cond b (Some s) (labelled x sessions))) (cond b (Some s) (labelled x sessions))) [
            | true ↦ λ f. ap (λ b. cond b (Some (change s)) (Some s)) (sym (ap (λ k. k == label) (sym (eqb-true s.label x f)) ∙ e))
            | false ↦ λ f. found-with label x change same sessions
          ] refl
      | false ↦ λ e. elim (s.label == x) as (λ b. (s.label == x) ≡ b → cond b (Some s) (labelled x (map (λ s. if s.label == label then change s else s) sessions))
          ≡ cond (x == label) (option_map change (cond b (Some s) (labelled x sessions))) (cond b (Some s) (labelled x sessions))) [
            | true ↦ λ f. ap (λ b. cond b (Some (change s)) (Some s)) (sym (ap (λ k. k == label) (sym (eqb-true s.label x f)) ∙ e))
            | false ↦ λ f. found-with label x change same sessions
          ] refl
    ] refl

-- changes of a session that leave its transaction
pub same-with : (label : ℕ) (change : LiveSession → LiveSession) → ((s : LiveSession) → (change s).label ≡ s.label) → ((s : LiveSession) → (change s).transaction ≡ s.transaction) → (state : DatabaseState)
    → transaction_of (with_session label change state) ≡ transaction_of state
same-with label change same keep state = λ i x. (ap transaction_in (found-with label x change same state.sessions) ∙ either (x == label) (labelled x state.sessions)) i
  where
    kept : (found : Option LiveSession) → transaction_in (option_map change found) ≡ transaction_in found
    kept None = refl
    kept (Some s) = keep s

    either : (b : Bool) (found : Option LiveSession) → transaction_in (cond b (option_map change found) found) ≡ transaction_in found
    either true found = kept found
    either false found = refl

pub transaction-ended : (label : ℕ) (state : DatabaseState) → transaction_of (with_transaction label None state) ≡ with_at label None (transaction_of state)
transaction-ended label state = λ i x. (ap transaction_in (found-with label x (λ s. record s { transaction = None }) (λ s. refl) state.sessions) ∙ either (x == label) (labelled x state.sessions)) i
  where
    none : (found : Option LiveSession) → transaction_in (option_map (λ (s : LiveSession). record s { transaction = None }) found) ≡ None
    none None = refl
    none (Some s) = refl

    either : (b : Bool) (found : Option LiveSession) → transaction_in (cond b (option_map (λ (s : LiveSession). record s { transaction = None }) found) found) ≡ cond b None (transaction_in found)
    either true found = none found
    either false found = refl

pub transaction-begun : (label : ℕ) (t : Transaction) (state : DatabaseState) → is_some (live_session state label) ≡ true → transaction_of (with_transaction label (Some t) state) ≡ with_at label (Some t) (transaction_of state)
transaction-begun label t state live = λ i x. (ap transaction_in (found-with label x (λ s. record s { transaction = Some t }) (λ s. refl) state.sessions) ∙ either x (x == label) refl) i
  where
    new : (found : Option LiveSession) → is_some found ≡ true → transaction_in (option_map (λ (s : LiveSession). record s { transaction = Some t }) found) ≡ Some t
    new None e = impossible e
    new (Some s) e = refl

    either : (x : ℕ) (b : Bool) → (x == label) ≡ b → transaction_in (cond b (option_map (λ (s : LiveSession). record s { transaction = Some t }) (labelled x state.sessions)) (labelled x state.sessions)) ≡ cond b (Some t) (transaction_in (labelled x state.sessions))
    either x true e = new (labelled x state.sessions) (ap (λ k. is_some (labelled k state.sessions)) (eqb-true x label e) ∙ live)
    either x false e = refl

pub transaction-levels : (label : ℕ) (f : ℕ → ℕ) (state : DatabaseState) → transaction_of (with_levels label f state) ≡ with_at label (at_levels f (transaction_of state label)) (transaction_of state)
transaction-levels label f state = λ i x. (ap transaction_in (found-with label x (λ s. record s { transaction = at_levels f s.transaction }) (λ s. refl) state.sessions) ∙ either x (x == label) refl) i
  where
    new : (found : Option LiveSession) → transaction_in (option_map (λ (s : LiveSession). record s { transaction = at_levels f s.transaction }) found) ≡ at_levels f (transaction_in found)
    new None = refl
    new (Some s) = refl

    either : (x : ℕ) (b : Bool) → (x == label) ≡ b → transaction_in (cond b (option_map (λ (s : LiveSession). record s { transaction = at_levels f s.transaction }) (labelled x state.sessions)) (labelled x state.sessions))
        ≡ cond b (at_levels f (transaction_of state label)) (transaction_in (labelled x state.sessions))
    either x true e = new (labelled x state.sessions) ∙ ap (λ k. at_levels f (transaction_of state k)) (eqb-true x label e)
    either x false e = refl

-- ---- a session more, or one less

found-insert : (new : LiveSession) → new.transaction ≡ None → (x : ℕ) (sessions : List LiveSession) → ((x == new.label) ≡ true → labelled x sessions ≡ None) → transaction_in (labelled x (insert_session new sessions)) ≡ transaction_in (labelled x sessions)
found-insert new none x [] h = elim (new.label == x) as (λ b. transaction_in (cond b (Some new) None) ≡ None) [ true ↦ none | false ↦ refl ]
found-insert new none x (s ∷ sessions) h =
    elim (nat_lt new.label s.label) as (λ b. transaction_in (labelled x (cond b (new ∷ s ∷ sessions) (s ∷ insert_session new sessions))) ≡ transaction_in (labelled x (s ∷ sessions))) [
      | true ↦ elim (new.label == x) as (λ b. (new.label == x) ≡ b → transaction_in (cond b (Some new) (labelled x (s ∷ sessions))) ≡ transaction_in (labelled x (s ∷ sessions))) [
        | true ↦ λ e. none ∙ sym (ap transaction_in (h (ap (λ k. k == new.label) (sym (eqb-true new.label x e)) ∙ self_equal new.label)))
        | false ↦ λ e. refl
      ] refl
      | false ↦ elim (s.label == x) as (λ b. ((x == new.label) ≡ true → cond b (Some s) (labelled x sessions) ≡ None) → transaction_in (cond b (Some s) (labelled x (insert_session new sessions))) ≡ transaction_in (cond b (Some s) (labelled x sessions))) [
        | true ↦ λ g. refl
        | false ↦ λ g. found-insert new none x sessions g
      ] h
    ]

pub transaction-entered : (label : ℕ) (state : DatabaseState) → is_some (live_session state label) ≡ false → transaction_of (entered label state) ≡ transaction_of state
transaction-entered label state none = λ i x. found-insert (record { label = label; open_tables = []; transaction = None }) refl x state.sessions (λ e. not_there (labelled x state.sessions) (ap (λ k. is_some (labelled k state.sessions)) (eqb-true x label e) ∙ none)) i
  where
    not_there : (found : Option LiveSession) → is_some found ≡ false → found ≡ None
    not_there None e = refl
    not_there (Some s) e = impossible (sym e)

pub found-left : (label x : ℕ) (sessions : List LiveSession) → labelled x (filter (λ s. not (s.label == label)) sessions) ≡ cond (x == label) None (labelled x sessions)
found-left label x [] = elim (x == label) as (λ b. labelled x [] ≡ cond b None (labelled x [])) [ true ↦ refl | false ↦ refl ]
found-left label x (s ∷ sessions) =
    elim (s.label == label) as (λ b. (s.label == label) ≡ b → labelled x (cond (not b) (s ∷ filter (λ s. not (s.label == label)) sessions) (filter (λ s. not (s.label == label)) sessions))
    ≡ cond (x == label) None (cond (s.label == x) (Some s) (labelled x sessions))) [
      | true ↦ λ e. elim (s.label == x) as (λ b. (s.label == x) ≡ b → labelled x (filter (λ s. not (s.label == label)) sessions) ≡ cond (x == label) None (cond b (Some s) (labelled x sessions))) [
        | true ↦ λ f.
            let here : (x == label) ≡ true = ap (λ k. k == label) (sym (eqb-true s.label x f)) ∙ e in
            found-left label x sessions ∙ ap (λ b. cond b None (labelled x sessions)) here ∙ sym (ap (λ b. cond b None (Some s)) here)
        | false ↦ λ f. found-left label x sessions
      ] refl
      | false ↦ λ e. elim (s.label == x) as (λ b. (s.label == x) ≡ b → cond b (Some s) (labelled x (filter (λ s. not (s.label == label)) sessions)) ≡ cond (x == label) None (cond b (Some s) (labelled x sessions))) [
        | true ↦ λ f. sym (ap (λ b. cond b None (Some s)) (ap (λ k. k == label) (sym (eqb-true s.label x f)) ∙ e))
        | false ↦ λ f. found-left label x sessions
      ] refl
    ] refl

pub transaction-left : (label : ℕ) (state : DatabaseState) → transaction_of (left label state) ≡ with_at label None (transaction_of state)
transaction-left label state = λ i x. (ap transaction_in (found-left label x state.sessions) ∙ either (x == label) (labelled x state.sessions)) i
  where
    either : (b : Bool) (found : Option LiveSession) → transaction_in (cond b None found) ≡ cond b None (transaction_in found)
    either true found = refl
    either false found = refl

-- ---- no transaction elsewhere

pub none_elsewhere : (session : ℕ) (sessions : List LiveSession) → list_any (λ s. not (s.label == session) && is_some s.transaction) sessions ≡ false → (x : ℕ) → (x == session) ≡ false → transaction_in (labelled x sessions) ≡ None
none_elsewhere session [] h x other = refl
none_elsewhere session (s ∷ sessions) h x other =
    elim (s.label == x) as (λ b. (s.label == x) ≡ b → transaction_in (cond b (Some s) (labelled x sessions)) ≡ None) [
      | true ↦ λ e. closed (s.label == session) s.transaction (ap (λ k. k == session) (eqb-true s.label x e) ∙ other) (first _ _ h)
      | false ↦ λ e. none_elsewhere session sessions (second (not (s.label == session) && is_some s.transaction) _ h) x other
    ] refl
  where
    closed : (b : Bool) (t : Option Transaction) → b ≡ false → (not b && is_some t) ≡ false → t ≡ None
    closed true t e f = impossible (sym e)
    closed false None e f = refl
    closed false (Some t) e f = impossible (sym f)

    first : (a b : Bool) → (a || b) ≡ false → a ≡ false
    first true b e = e
    first false b e = refl

    second : (a b : Bool) → (a || b) ≡ false → b ≡ false
    second true b e = impossible (sym e)
    second false b e = e
