-- What a step leaves of the ends of each session.
use Rattle.std.proofs.Common.{◌≡◌, ℕ, ◌+◌, ◌-◌, ◌*◌, ◌<◌, ◌≤◌, Bool, true, false, not, cond, List, [], ◌∷◌, length, Option, Some, None, refl, sym, ap, subst, ◌∙◌, arith}
use Rattle.std.specs.Prelude.{◌==◌, nat_lt, find, is_some, option_map}
use Rattle.std.specs.List.{AllByRecursion}
use Rattle.std.proofs.lemmas.Bool.Decides.{nat_tests}
use Rattle.std.proofs.lemmas.List.Sums.{sum_by-cons}
use Rattle.std.proofs.lemmas.Bool.{eqb-true}
use Rattle.common_lemmas.proofs.Numbers.{self_equal}
use Rattle.common_lemmas.proofs.Booleans.{and_left, impossible}
use Rattle.index_derive.specs.declared.log.EntryKind.{EntryKind}
use Rattle.index_derive.specs.declared.log.EntryKind.TheVariants as entry
use Rattle.database_state.specs.State.{DatabaseState, LiveSession}
use Rattle.database_state.specs.Step.{without_one}
use Rattle.database_state.specs.Lawful.{has_open as has_open_in, is_lawful_kind}
use Rattle.laws_versions.specs.History.{EachTwo}
use Rattle.version_cleanup.specs.LiveSessions.{LiveState, began, ended, entered, left, levels_in, levels_of, live_state, lowered, new_session, opened, saved, session_in, sessions_after, shut, with_session}
use Rattle.laws_engine.specs.EngineState.{EngineState}
use Rattle.laws_engine.specs.HoldsState.{HoldsState}
use Rattle.laws_engine.proofs.EngineLemmas.Sessions.{live_alike, session_alike}
use Rattle.laws_engine.proofs.EngineLemmas.SessionTotals.{LabelBelow, RisesTo, inserted, one_more_open, shut_fewer, untouched}
use Rattle.loggable_steps.specs.Loggable.{is_label}
use Rattle.engine_core.specs.Closing.{HaveLabels}
use Rattle.engine_core.specs.Ends.{Follows, bytes_in, end_bytes, end_bytes_of, open_after, open_count, open_in, session_bytes}

-- ---- numbers

apart : (a b c : ℕ) → (a == b) ≡ true → (c == b) ≡ false → (a == c) ≡ false
apart a b c e g = grind (arith, nat_tests)

-- ---- a session that changes

abbrev KeepsLabel : (LiveState → LiveState) → Type 0
KeepsLabel change = (s : LiveState) → (change s).label ≡ s.label

found_other : (label other : ℕ) (change : LiveState → LiveState) → KeepsLabel change → (other == label) ≡ false → (sessions : List LiveState) → session_in other (with_session label change sessions) ≡ session_in other sessions
found_other label other change keeps apart_from [] = refl
found_other label other change keeps apart_from (s ∷ sessions) =
    elim (s.label == label) as (λ b. (s.label == label) ≡ b → cond ((cond b (change s) s).label == other) (Some (cond b (change s) s)) (session_in other (with_session label change sessions)) ≡ cond (s.label == other) (Some s) (session_in other sessions)) [
      | true ↦ λ e.
          let unlike : (s.label == other) ≡ false = apart s.label label other e apart_from in
          ap (λ (n : ℕ). cond (n == other) (Some (change s)) (session_in other (with_session label change sessions))) (keeps s)
          ∙ ap (λ (b : Bool). cond b (Some (change s)) (session_in other (with_session label change sessions))) unlike
          ∙ found_other label other change keeps apart_from sessions
          ∙ sym (ap (λ (b : Bool). cond b (Some s) (session_in other sessions)) unlike)
      | false ↦ λ e. ap (λ (o : Option LiveState). cond (s.label == other) (Some s) o) (found_other label other change keeps apart_from sessions)
    ] refl

found_own : (label : ℕ) (change : LiveState → LiveState) → KeepsLabel change → (sessions : List LiveState) → session_in label (with_session label change sessions) ≡ option_map change (session_in label sessions)
found_own label change keeps [] = refl
found_own label change keeps (s ∷ sessions) =
    elim (s.label == label) as (λ b. (s.label == label) ≡ b → cond ((cond b (change s) s).label == label) (Some (cond b (change s) s)) (session_in label (with_session label change sessions)) ≡ option_map change (cond b (Some s) (session_in label sessions))) [
      | true ↦ λ e.
          ap (λ (n : ℕ). cond (n == label) (Some (change s)) (session_in label (with_session label change sessions))) (keeps s)
          ∙ ap (λ (b : Bool). cond b (Some (change s)) (session_in label (with_session label change sessions))) e
      | false ↦ λ e. ap (λ (b : Bool). cond b (Some s) (session_in label (with_session label change sessions))) e ∙ found_own label change keeps sessions
    ] refl

sum_changed : (label : ℕ) (change : LiveState → LiveState) (sessions : List LiveState) → EachTwo RisesTo sessions
    → end_bytes (with_session label change sessions) + session_bytes label sessions ≡ end_bytes sessions + bytes_in (option_map change (session_in label sessions))
sum_changed label change [] rise = refl
sum_changed label change (s ∷ sessions) rise =
    let after = with_session label change sessions in
    elim (s.label == label) as (λ b. (s.label == label) ≡ b
    → end_bytes (cond b (change s) s ∷ after) + bytes_in (cond b (Some s) (session_in label sessions)) ≡ end_bytes (s ∷ sessions) + bytes_in (option_map change (cond b (Some s) (session_in label sessions)))) [
      | true ↦ λ e. here (end_bytes_of (change s)) (end_bytes after) (end_bytes_of s) (end_bytes sessions) (end_bytes (change s ∷ after)) (end_bytes (s ∷ sessions)) (sum_by-cons end_bytes_of (change s) after) (sum_by-cons end_bytes_of s sessions)
          (ap end_bytes (untouched label change sessions (subst (λ (n : ℕ). AllByRecursion (LabelBelow n) sessions) (eqb-true s.label label e) rise.0)))
      | false ↦ λ e. later (end_bytes_of s) (end_bytes after) (session_bytes label sessions) (end_bytes sessions) (bytes_in (option_map change (session_in label sessions))) (end_bytes (s ∷ after)) (end_bytes (s ∷ sessions)) (sum_by-cons end_bytes_of s after) (sum_by-cons end_bytes_of s sessions)
          (sum_changed label change sessions rise.1)
    ] refl
  where
    here : (a b c d x y : ℕ) → x ≡ a + b → y ≡ c + d → b ≡ d → x + c ≡ y + a
    here a b c d x y p q e = omega (arith, p, q, e)

    later : (s a b c d x y : ℕ) → x ≡ s + a → y ≡ s + c → a + b ≡ c + d → x + b ≡ y + d
    later s a b c d x y p q e = omega (arith, p, q, e)

labels_changed : (label : ℕ) (change : LiveState → LiveState) → KeepsLabel change → (sessions : List LiveState) → HaveLabels sessions → HaveLabels (with_session label change sessions)
labels_changed label change keeps [] h = tt
labels_changed label change keeps (s ∷ sessions) h =
    (elim (s.label == label) as (λ b. is_label (cond b (change s) s).label ≡ true) [ true ↦ ap is_label (keeps s) ∙ h.0 | false ↦ h.0 ], labels_changed label change keeps sessions h.1)

changed_follows : (label : ℕ) (kind : EntryKind) (change : LiveState → LiveState) (sessions : List LiveState) → KeepsLabel change → EachTwo RisesTo sessions
    → open_in (option_map change (session_in label sessions)) ≡ open_after kind (open_count label sessions) → Follows label kind sessions (with_session label change sessions)
changed_follows label kind change sessions keeps rise counted = record {
  sum = sum_changed label change sessions rise ∙ ap (λ (o : Option LiveState). end_bytes sessions + bytes_in o) (sym (found_own label change keeps sessions));
  own = ap open_in (found_own label change keeps sessions) ∙ counted;
  others = λ other unlike. ap open_in (found_other label other change keeps unlike sessions);
  labels = λ have own. labels_changed label change keeps sessions have;
}

-- ---- a session that begins

entered_other : (label other : ℕ) → (other == label) ≡ false → (sessions : List LiveState) → session_in other (entered label sessions) ≡ session_in other sessions
entered_other label other unlike [] = ap (λ (b : Bool). cond b (Some (new_session label)) None) (apart label label other (self_equal label) unlike)
entered_other label other unlike (s ∷ sessions) =
    elim (nat_lt label s.label) as (λ b. session_in other (cond b (new_session label ∷ s ∷ sessions) (s ∷ entered label sessions)) ≡ cond (s.label == other) (Some s) (session_in other sessions)) [
      | true ↦ ap (λ (b : Bool). cond b (Some (new_session label)) (session_in other (s ∷ sessions))) (apart label label other (self_equal label) unlike)
      | false ↦ ap (λ (o : Option LiveState). cond (s.label == other) (Some s) o) (entered_other label other unlike sessions)
    ]

entered_own : (label : ℕ) (sessions : List LiveState) → is_some (session_in label sessions) ≡ false → session_in label (entered label sessions) ≡ Some (new_session label)
entered_own label [] none = ap (λ (b : Bool). cond b (Some (new_session label)) None) (self_equal label)
entered_own label (s ∷ sessions) none =
    elim (nat_lt label s.label) as (λ b. session_in label (cond b (new_session label ∷ s ∷ sessions) (s ∷ entered label sessions)) ≡ Some (new_session label)) [
      | true ↦ ap (λ (b : Bool). cond b (Some (new_session label)) (session_in label (s ∷ sessions))) (self_equal label)
      | false ↦ elim (s.label == label) as (λ b. is_some (cond b (Some s) (session_in label sessions)) ≡ false → cond b (Some s) (session_in label (entered label sessions)) ≡ Some (new_session label)) [
        | true ↦ λ live. impossible (sym live)
        | false ↦ λ gone. entered_own label sessions gone
      ] none
    ]

entered_labels : (label : ℕ) (sessions : List LiveState) → is_label label ≡ true → HaveLabels sessions → HaveLabels (entered label sessions)
entered_labels label [] own h = (own, tt)
entered_labels label (s ∷ sessions) own h =
    elim (nat_lt label s.label) as (λ b. HaveLabels (cond b (new_session label ∷ s ∷ sessions) (s ∷ entered label sessions))) [ true ↦ (own, h) | false ↦ (h.0, entered_labels label sessions own h.1) ]

none_in : (o : Option LiveState) → is_some o ≡ false → o ≡ None
none_in None e = refl
none_in (Some s) e = impossible (sym e)

entered_follows : (label : ℕ) (sessions : List LiveState) → is_some (session_in label sessions) ≡ false → Follows label entry.Enter sessions (entered label sessions)
entered_follows label sessions none =
    let before : session_in label sessions ≡ None = none_in (session_in label sessions) none in
    let after = entered_own label sessions none in
    record {
      sum = by (end_bytes (entered label sessions)) (end_bytes sessions) (session_bytes label sessions) (session_bytes label (entered label sessions)) (end_bytes_of (new_session label)) (inserted end_bytes_of (new_session label) sessions) (ap bytes_in before) (ap bytes_in after);
      own = ap open_in after ∙ sym (ap open_in before);
      others = λ other unlike. ap open_in (entered_other label other unlike sessions);
      labels = λ have own. entered_labels label sessions own have;
    }
  where
    by : (a b c d n : ℕ) → a ≡ n + b → c ≡ 0 → d ≡ n → a + c ≡ b + d
    by a b c d n p q r = omega (arith, p, q, r)

-- ---- a session that ends

left_other : (label other : ℕ) → (other == label) ≡ false → (sessions : List LiveState) → session_in other (left label sessions) ≡ session_in other sessions
left_other label other unlike [] = refl
left_other label other unlike (s ∷ sessions) =
    elim (s.label == label) as (λ b. (s.label == label) ≡ b → session_in other (cond (not b) (s ∷ left label sessions) (left label sessions)) ≡ cond (s.label == other) (Some s) (session_in other sessions)) [
      | true ↦ λ e. left_other label other unlike sessions ∙ sym (ap (λ (b : Bool). cond b (Some s) (session_in other sessions)) (apart s.label label other e unlike))
      | false ↦ λ e. ap (λ (o : Option LiveState). cond (s.label == other) (Some s) o) (left_other label other unlike sessions)
    ] refl

left_own : (label : ℕ) (sessions : List LiveState) → session_in label (left label sessions) ≡ None
left_own label [] = refl
left_own label (s ∷ sessions) =
    elim (s.label == label) as (λ b. (s.label == label) ≡ b → session_in label (cond (not b) (s ∷ left label sessions) (left label sessions)) ≡ None) [
      | true ↦ λ e. left_own label sessions
      | false ↦ λ e. ap (λ (b : Bool). cond b (Some s) (session_in label (left label sessions))) e ∙ left_own label sessions
    ] refl

-- no session has a label below all of theirs
none_leaves : (label : ℕ) (sessions : List LiveState) → AllByRecursion (LabelBelow label) sessions → left label sessions ≡ sessions
none_leaves label [] h = refl
none_leaves label (s ∷ sessions) h = ap (λ (b : Bool). cond (not b) (s ∷ left label sessions) (left label sessions)) (above s.label label h.0) ∙ ap (λ (rest : List LiveState). s ∷ rest) (none_leaves label sessions h.1)
  where
    above : (a b : ℕ) → b < a → (a == b) ≡ false
    above a b lt = grind (arith, nat_tests)

sum_left : (label : ℕ) (sessions : List LiveState) → EachTwo RisesTo sessions → end_bytes (left label sessions) + session_bytes label sessions ≡ end_bytes sessions + 0
sum_left label [] rise = refl
sum_left label (s ∷ sessions) rise =
    let after = left label sessions in
    elim (s.label == label) as (λ b. (s.label == label) ≡ b
    → end_bytes (cond (not b) (s ∷ after) after) + bytes_in (cond b (Some s) (session_in label sessions)) ≡ end_bytes (s ∷ sessions) + 0) [
      | true ↦ λ e. here (end_bytes_of s) (end_bytes after) (end_bytes sessions) (end_bytes (s ∷ sessions)) (sum_by-cons end_bytes_of s sessions)
          (ap end_bytes (none_leaves label sessions (subst (λ (n : ℕ). AllByRecursion (LabelBelow n) sessions) (eqb-true s.label label e) rise.0)))
      | false ↦ λ e. later (end_bytes_of s) (end_bytes after) (session_bytes label sessions) (end_bytes sessions) (end_bytes (s ∷ after)) (end_bytes (s ∷ sessions)) (sum_by-cons end_bytes_of s after) (sum_by-cons end_bytes_of s sessions) (sum_left label sessions rise.1)
    ] refl
  where
    here : (s a b y : ℕ) → y ≡ s + b → a ≡ b → a + s ≡ y + 0
    here s a b y q e = omega (arith, q, e)

    later : (s a b c x y : ℕ) → x ≡ s + a → y ≡ s + c → a + b ≡ c + 0 → x + b ≡ y + 0
    later s a b c x y p q e = omega (arith, p, q, e)

left_labels : (label : ℕ) (sessions : List LiveState) → HaveLabels sessions → HaveLabels (left label sessions)
left_labels label [] h = tt
left_labels label (s ∷ sessions) h = elim (s.label == label) as (λ b. HaveLabels (cond (not b) (s ∷ left label sessions) (left label sessions))) [ true ↦ left_labels label sessions h.1 | false ↦ (h.0, left_labels label sessions h.1) ]

left_follows : (label : ℕ) (sessions : List LiveState) → EachTwo RisesTo sessions → Follows label entry.Leave sessions (left label sessions)
left_follows label sessions rise = record {
  sum = sum_left label sessions rise ∙ sym (ap (λ (o : Option LiveState). end_bytes sessions + bytes_in o) (left_own label sessions));
  own = ap open_in (left_own label sessions);
  others = λ other unlike. ap open_in (left_other label other unlike sessions);
  labels = λ have own. left_labels label sessions have;
}

-- ---- by kind

abbrev KeepsOpen : (LiveState → LiveState) → Type 0
KeepsOpen change = (s : LiveState) → (change s).open_tables ≡ s.open_tables

still_open : (change : LiveState → LiveState) → KeepsOpen change → (o : Option LiveState) → open_in (option_map change o) ≡ open_in o
still_open change keeps None = refl
still_open change keeps (Some s) = ap length (keeps s)

one_more : (table : ℕ) (o : Option LiveState) → is_some o ≡ true → open_in (option_map (opened table) o) ≡ open_in o + 1
one_more table None live = impossible live
one_more table (Some s) live = one_more_open table s.open_tables

one_less : (table : ℕ) (o : Option LiveSession) → has_open_in o table ≡ true → open_in (option_map (shut table) (option_map live_state o)) ≡ open_in (option_map live_state o) - 1
one_less table None h = impossible h
one_less table (Some s) h = by (length (without_one table s.open_tables)) (length s.open_tables) (shut_fewer table s.open_tables h)
  where
    by : (a b : ℕ) → a + 1 ≡ b → a ≡ b - 1
    by a b e = omega (arith, e)

stays : (label : ℕ) (kind : EntryKind) (sessions : List LiveState) → open_count label sessions ≡ open_after kind (open_count label sessions) → Follows label kind sessions sessions
stays label kind sessions same = record { sum = refl; own = same; others = λ other unlike. refl; labels = λ have own. have }

-- the change keeps the cursors
keeps_follows : (label : ℕ) (kind : EntryKind) (change : LiveState → LiveState) (sessions : List LiveState) → KeepsLabel change → KeepsOpen change → EachTwo RisesTo sessions → open_count label sessions ≡ open_after kind (open_count label sessions) → Follows label kind sessions (with_session label change sessions)
keeps_follows label kind change sessions keeps kept rise same = changed_follows label kind change sessions keeps rise (still_open change kept (session_in label sessions) ∙ same)

pub kind_follows : (engine : EngineState) (state : DatabaseState) (session : ℕ) (kind : EntryKind) → HoldsState engine state → is_lawful_kind state session kind ≡ true → EachTwo RisesTo engine.sessions
    → Follows session kind engine.sessions (sessions_after (engine.number + 1) session kind engine.sessions)
kind_follows engine state session entry.Enter h e rise =
    entered_follows session engine.sessions
    (subst (λ (sessions : List LiveState). is_some (session_in session sessions) ≡ false) h.sessions (live_alike session state.sessions ∙ negated (is_some (find (λ s. s.label == session) state.sessions)) (and_left _ _ e)))
  where
    negated : (b : Bool) → not b ≡ true → b ≡ false
    negated true h = impossible h
    negated false h = refl
kind_follows engine state session entry.Leave h e rise = left_follows session engine.sessions rise
kind_follows engine state session (entry.Open table) h e rise =
    changed_follows session (entry.Open table) (opened table.0) engine.sessions (λ s. refl) rise
    (one_more table.0 (session_in session engine.sessions) (subst (λ (sessions : List LiveState). is_some (session_in session sessions) ≡ true) h.sessions (live_alike session state.sessions ∙ and_left _ _ e)))
kind_follows engine state session (entry.Shut table) h e rise =
    changed_follows session (entry.Shut table) (shut table.0) engine.sessions (λ s. refl) rise
    (subst (λ (sessions : List LiveState). open_in (option_map (shut table.0) (session_in session sessions)) ≡ open_count session sessions - 1) h.sessions
    (subst (λ (o : Option LiveState). open_in (option_map (shut table.0) o) ≡ open_in o - 1) (sym (session_alike session state.sessions)) (one_less table.0 (find (λ s. s.label == session) state.sessions) e)))
kind_follows engine state session entry.Begin h e rise = keeps_follows session entry.Begin (began (engine.number + 1)) engine.sessions (λ s. refl) (λ s. refl) rise refl
kind_follows engine state session entry.Save h e rise = keeps_follows session entry.Save saved engine.sessions (λ s. refl) (λ s. refl) rise refl
kind_follows engine state session (entry.Change change) h e rise = stays session (entry.Change change) engine.sessions refl
kind_follows engine state session entry.Release h e rise = keeps_follows session entry.Release lowered engine.sessions (λ s. refl) (λ s. refl) rise refl
kind_follows engine state session entry.Undo h e rise =
    elim (nat_lt 1 (levels_in session engine.sessions)) as (λ b. Follows session entry.Undo engine.sessions (cond b (with_session session lowered engine.sessions) (with_session session ended engine.sessions))) [
      | true ↦ keeps_follows session entry.Undo lowered engine.sessions (λ s. refl) (λ s. refl) rise refl
      | false ↦ keeps_follows session entry.Undo ended engine.sessions (λ s. refl) (λ s. refl) rise refl
    ]
kind_follows engine state session entry.UndoAll h e rise = keeps_follows session entry.UndoAll ended engine.sessions (λ s. refl) (λ s. refl) rise refl
kind_follows engine state session entry.Commit h e rise = keeps_follows session entry.Commit ended engine.sessions (λ s. refl) (λ s. refl) rise refl
kind_follows engine state session (entry.Schema made) h e rise = stays session (entry.Schema made) engine.sessions refl

-- ---- of a begin, an entry and a commit

pub between : (label : ℕ) (kind : EntryKind) (a b c d : List LiveState) → Follows label entry.Begin a b → Follows label kind b c → Follows label entry.Commit c d → Follows label kind a d
between label kind a b c d first next last = record {
  sum = by (end_bytes a) (end_bytes b) (end_bytes c) (end_bytes d) (session_bytes label a) (session_bytes label b) (session_bytes label c) (session_bytes label d) first.sum next.sum last.sum;
  own = last.own ∙ next.own ∙ ap (open_after kind) first.own;
  others = λ other unlike. last.others other unlike ∙ next.others other unlike ∙ first.others other unlike;
  labels = λ have own. last.labels (next.labels (first.labels have own) own) own;
}
  where
    by : (ea eb ec ed sa sb sc sd : ℕ) → eb + sa ≡ ea + sb → ec + sb ≡ eb + sc → ed + sc ≡ ec + sd → ed + sa ≡ ea + sd
    by ea eb ec ed sa sb sc sd p q r = omega (arith, p, q, r)

-- ---- numbers of one session

pub open_within : (label : ℕ) (sessions : List LiveState) → open_count label sessions ≤ end_bytes sessions
open_within label [] = omega arith
open_within label (s ∷ sessions) = elim (s.label == label) as (λ b. open_in (cond b (Some s) (session_in label sessions)) ≤ end_bytes (s ∷ sessions)) [
  | true ↦ here (length s.open_tables) (levels_of s.transaction) (end_bytes sessions) (end_bytes (s ∷ sessions)) (sum_by-cons end_bytes_of s sessions)
  | false ↦ later (open_count label sessions) (end_bytes_of s) (end_bytes sessions) (end_bytes (s ∷ sessions)) (sum_by-cons end_bytes_of s sessions) (open_within label sessions)
]
  where
    here : (a b c y : ℕ) → y ≡ (9 + 13 * a + 9 * b) + c → a ≤ y
    here a b c y q = omega (arith, q)

    later : (a b c y : ℕ) → y ≡ b + c → a ≤ c → a ≤ y
    later a b c y q h = omega (arith, q, h)
