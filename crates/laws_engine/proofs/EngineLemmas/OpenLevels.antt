-- The levels of the open changes that the engine holds.
use Rattle.std.proofs.Common.{◌≡◌, ℕ, ◌≤◌, true, List, [], ◌∷◌, Option, Some, None, sym, ap, subst, ◌∙◌, arith}
use Rattle.std.specs.Prelude.{◌==◌}
use Rattle.std.specs.List.{AllByRecursion}
use Rattle.std.proofs.lemmas.Bool.{eqb-true}
use Rattle.common_lemmas.proofs.Booleans.{and_left, and_right, impossible}
use Rattle.database_state.specs.Table.{Table}
use Rattle.database_state.specs.State.{DatabaseState, PastChange, Status, Transaction, uncommitted, committed, undone, is_open, is_open_change_of, levels, levels_of, transaction_of}
use Rattle.version_cleanup.specs.LiveSessions.{LiveState, levels_in}
use Rattle.laws_versions.specs.History.{EachTwo, IsOpenIn, IsPlaced, IsPlacedBy, LevelsRise}
use Rattle.laws_engine.specs.HeldRecords.{HeldRecord, is_open_of}
use Rattle.laws_engine.specs.Holding.{AllMatch, Matches}
use Rattle.laws_engine.proofs.TableLemmas.Ending.{same_open}
use Rattle.laws_engine.specs.EngineState.{EngineState}
use Rattle.laws_engine.specs.HoldsState.{HoldsState}
use Rattle.laws_engine.proofs.EngineLemmas.Sessions.{levels_alike}

-- ---- their order

abbrev pub RisesTo : ℕ → HeldRecord → HeldRecord → Type 0
RisesTo session earlier later = is_open_of session earlier ≡ true → is_open_of session later ≡ true → earlier.level ≤ later.level

own_open : (item : PastChange) (h : HeldRecord) → Matches item h → (session : ℕ) → is_open_of session h ≡ true → is_open_change_of session item ≡ true
own_open item h m session e = sym (same_open item h m session) ∙ e

own_session : (session : ℕ) (item : PastChange) → is_open_change_of session item ≡ true → item.session ≡ session
own_session session item e = eqb-true item.session session (and_right (is_open item.status) (item.session == session) e)

one_rises : (session : ℕ) (item next : PastChange) (x y : HeldRecord) → Matches item x → Matches next y → LevelsRise item next → RisesTo session x y
one_rises session item next x y m n rise e f =
    let own : is_open_change_of session item ≡ true = own_open item x m session e in
    let own_next : is_open_change_of session next ≡ true = own_open next y n session f in
    let le : item.level ≤ next.level =
    rise (and_left (is_open item.status) (item.session == session) own) (and_left (is_open next.status) (next.session == session) own_next)
    (own_session session item own ∙ sym (own_session session next own_next)) in
    subst (λ (k : ℕ). k ≤ y.level) (sym m.level) (subst (λ (k : ℕ). item.level ≤ k) (sym n.level) le)

all_rise : (session : ℕ) (item : PastChange) (x : HeldRecord) → Matches item x → (items : List PastChange) (held : List HeldRecord) → AllMatch items held → AllByRecursion (LevelsRise item) items → AllByRecursion (RisesTo session x) held
all_rise session item x m [] [] n rise = tt
all_rise session item x m [] (y ∷ held) n rise = absurd n
all_rise session item x m (next ∷ items) [] n rise = absurd n
all_rise session item x m (next ∷ items) (y ∷ held) n rise = (one_rises session item next x y m n.0 rise.0, all_rise session item x m items held n.1 rise.1)

each_rises : (session : ℕ) (items : List PastChange) (held : List HeldRecord) → AllMatch items held → EachTwo LevelsRise items → EachTwo (RisesTo session) held
each_rises session [] [] m rise = tt
each_rises session [] (x ∷ held) m rise = absurd m
each_rises session (item ∷ items) [] m rise = absurd m
each_rises session (item ∷ items) (x ∷ held) m rise = (all_rise session item x m.0 items held m.1 rise.0, each_rises session items held m.1 rise.1)

pub levels_rise : (engine : EngineState) (state : DatabaseState) → HoldsState engine state → (session : ℕ) → EachTwo (RisesTo session) engine.store.held
levels_rise engine state h session = each_rises session h.kept engine.store.held h.holds.held h.reached.history.keeps.levels

-- ---- each by itself

abbrev pub IsWithin : ℕ → ℕ → HeldRecord → Type 0
IsWithin session most held = is_open_of session held ≡ true → (1 ≤ held.level) × (held.level ≤ most)

at_most : (a b c : ℕ) → a ≤ b → b ≤ c → a ≤ c
at_most a b c le up = omega arith

open_in : (number : ℕ) (transactions : ℕ → Option Transaction) (item : PastChange) (s : Status) → is_open s ≡ true → IsPlacedBy number transactions item s → IsOpenIn item (transactions item.session)
open_in number transactions item uncommitted e placed = placed
open_in number transactions item (committed n) e placed = impossible e
open_in number transactions item undone e placed = impossible e

levels_within : (item : PastChange) (t : Option Transaction) (most : ℕ) → IsOpenIn item t → levels_of t ≤ most → (1 ≤ item.level) × (item.level ≤ most)
levels_within item None most inside few = absurd inside
levels_within item (Some t) most inside few = (inside.1, at_most item.level t.levels most inside.2 few)

one_within : (number : ℕ) (tables : List Table) (transactions : ℕ → Option Transaction) (session most : ℕ) → levels_of (transactions session) ≤ most → (item : PastChange) (h : HeldRecord) → Matches item h → IsPlaced number tables transactions item
    → IsWithin session most h
one_within number tables transactions session most few item h m placed e =
    let own : is_open_change_of session item ≡ true = own_open item h m session e in
    let inside : IsOpenIn item (transactions session) =
    subst (λ (k : ℕ). IsOpenIn item (transactions k)) (own_session session item own) (open_in number transactions item item.status (and_left (is_open item.status) (item.session == session) own) placed.2) in
    subst (λ (n : ℕ). (1 ≤ n) × (n ≤ most)) (sym m.level) (levels_within item (transactions session) most inside few)

all_within : (number : ℕ) (tables : List Table) (transactions : ℕ → Option Transaction) (session most : ℕ) → levels_of (transactions session) ≤ most → (items : List PastChange) (held : List HeldRecord) → AllMatch items held
    → AllByRecursion (IsPlaced number tables transactions) items → AllByRecursion (IsWithin session most) held
all_within number tables transactions session most few [] [] m placed = tt
all_within number tables transactions session most few [] (h ∷ held) m placed = absurd m
all_within number tables transactions session most few (item ∷ items) [] m placed = absurd m
all_within number tables transactions session most few (item ∷ items) (h ∷ held) m placed =
    (one_within number tables transactions session most few item h m.0 placed.0, all_within number tables transactions session most few items held m.1 placed.1)

pub within_levels : (engine : EngineState) (state : DatabaseState) → HoldsState engine state → (session most : ℕ) → levels_in session engine.sessions ≤ most → AllByRecursion (IsWithin session most) engine.store.held
within_levels engine state h session most few =
    let same : levels_in session engine.sessions ≡ levels state session = ap (λ (sessions : List LiveState). levels_in session sessions) (sym h.sessions) ∙ levels_alike session state in
    all_within state.number state.tables (transaction_of state) session most (subst (λ (n : ℕ). n ≤ most) same few) h.kept engine.store.held h.holds.held h.reached.history.keeps.placed
