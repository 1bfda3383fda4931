-- What an engine tells of the states that it holds.
use Rattle.std.proofs.Common.{◌≡◌, ℕ, true, false, not, List, [], ◌∷◌, Option, Some, None, refl, sym, ap, subst, ◌∙◌}
use Rattle.std.specs.Prelude.{filter, fold, map, nat_lt, option_map, unwrap_or, IfSome, is_some}
use Rattle.std.specs.List.{AllByRecursion}
use Rattle.std.proofs.lemmas.List.Folds.{fold-map}
use Rattle.common_lemmas.proofs.Options.{some_apart}
use Rattle.common_lemmas.proofs.Lists.{all_weaker}
use Rattle.common_lemmas.proofs.Booleans.{impossible}
use Rattle.database_state.specs.Table.{Table, table_with_id}
use Rattle.database_state.specs.State.{DatabaseState, LiveSession, PastChange, Status, Transaction, uncommitted, committed, undone, change_of, is_undone, transaction_of}
use Rattle.column_set.specs.ChangedRecords.{changed_table}
use Rattle.database_state.specs.VersionStore.{from_oldest_needed}
use Rattle.database_state.specs.Equivalence.{AreEquivalent, EssentialChange, columns_of, essential_change}
use Rattle.laws_versions.specs.Records.{Records, records_after, records_after_items, records_of}
use Rattle.laws_versions.specs.History.{EachTwo, IsBegun, IsPlaced, KeepsHistory, LabelsRise, without_rows}
use Rattle.laws_versions.specs.Readers.{is_standing, was_committed, was_committed_status}
use Rattle.laws_versions.proofs.HistoryLemmas.Labels.{are_labelled}
use Rattle.laws_versions.proofs.HistoryLemmas.Lists.{all_both}
use Rattle.laws_versions.proofs.HistoryLemmas.SeenRecords.{newest_records as newest_of_kept}
use Rattle.laws_versions.specs.TableOrder.{IdsRise}
use Rattle.version_cleanup.specs.LiveSessions.{live_state, without_snapshot}
use Rattle.laws_engine.specs.Holding.{AllRise, SnapshotRises}
use Rattle.laws_engine.proofs.TableLemmas.ExactSums.{Numbers, first_numbers, numbers_back}
use Rattle.laws_engine.proofs.TableLemmas.Rising.{same_table}
use Rattle.laws_engine.specs.EngineState.{EngineState}
use Rattle.laws_engine.specs.HoldsState.{HoldsState}
use Rattle.laws_engine.proofs.EngineLemmas.SameTables.{ids_rise_alike, numbered_alike, same_tables}
use Rattle.laws_engine.proofs.EquivalentLemmas.Essential.{essential_from, essential_status, from_essential, kept_of_standing, read_essential}
use Rattle.laws_engine.proofs.EquivalentLemmas.Unneeded.{needed_kept}
use Rattle.laws_engine.proofs.HeldLemmas.HeldPast.{IsKnownPast, IsOnePast, LeavesAfter, one_past}

-- ---- the records after the changes that were committed

committed_stands : (transaction : Option Transaction) (status : Status) → was_committed_status transaction status ≡ true → is_undone status ≡ false
committed_stands transaction uncommitted h = refl
committed_stands transaction (committed number) h = refl
committed_stands transaction undone h = impossible h

-- the same of two pasts with one essence and one starting point
pub committed_same : (tables : List Table) (base other : Records) (xs ys : List PastChange) → IsOnePast tables base other xs ys → (transaction : Option Transaction)
    → records_after_items (was_committed transaction) base xs ≡ records_after_items (was_committed transaction) other ys
committed_same tables base other xs ys one transaction =
    by base xs
    ∙ (λ i. fold records_after (one.base_same i) (map (λ (e : EssentialChange). change_of e.item) (filter (λ (e : EssentialChange). was_committed transaction e.item) (one.essence i))))
    ∙ sym (by other ys)
  where
    by : (records : Records) (items : List PastChange)
        → records_after_items (was_committed transaction) records items
        ≡ fold records_after records (map (λ (e : EssentialChange). change_of e.item) (filter (λ (e : EssentialChange). was_committed transaction e.item) (map (essential_change tables) items)))
    by records items =
        sym (fold-map records_after change_of records (filter (was_committed transaction) items))
        ∙ ap (fold records_after records)
        (read_essential tables (was_committed transaction) change_of (λ x. ap (was_committed_status transaction) (essential_status tables x))
        (λ x p. kept_of_standing change_of (columns_of (table_with_id tables (changed_table x.change))) x (committed_stands transaction x.status p) refl) items)

-- ---- tables of one definition and the same records

tables_same : (one other : List Table) → map without_rows one ≡ map without_rows other → EachTwo IdsRise other → AllRise one → AllRise other → records_of one ≡ records_of other → one ≡ other
tables_same one other defined ids rise_one rise_other records =
    same_tables one other defined ids (λ id. same_table one other id defined rise_one rise_other (λ bookmark. λ i. records i id bookmark))

-- ---- sessions

-- what is known of the snapshot of a transaction
abbrev IsKnownIn : List Table → Records → List PastChange → Transaction → Type 0
IsKnownIn tables base kept t =
    (records_of t.snapshot ≡ records_after_items (was_committed (Some t)) base kept) × (map without_rows t.snapshot ≡ map without_rows tables) × AllRise t.snapshot

abbrev IsKnown : List Table → Records → List PastChange → LiveSession → Type 0
IsKnown tables base kept session = IfSome session.transaction (IsKnownIn tables base kept)

all_known : (state : DatabaseState) (base : Records) (kept : List PastChange) → KeepsHistory state.number state.tables (transaction_of state) base kept → EachTwo LabelsRise state.sessions → AllByRecursion SnapshotRises state.sessions
    → AllByRecursion (IsKnown state.tables base kept) state.sessions
all_known state base kept keeps labels rise =
    all_both (λ s. transaction_of state s.label ≡ s.transaction) SnapshotRises (IsKnown state.tables base kept)
    (λ s labelled rises. by s.transaction (subst (λ (o : Option Transaction). IfSome o (IsBegun state.number state.tables base kept)) labelled (keeps.begun s.label)) rises) state.sessions (are_labelled state labels) rise
  where
    by : (t : Option Transaction) → IfSome t (IsBegun state.number state.tables base kept) → IfSome t (λ transaction. AllRise transaction.snapshot) → IfSome t (IsKnownIn state.tables base kept)
    by None b r = tt
    by (Some t) b r = (b.snapshot, b.defined, r)

same_reader : (t u : Transaction) → t.begin ≡ u.begin → was_committed (Some t) ≡ was_committed (Some u)
same_reader t u begins = λ i item. by item.status i
  where
    by : (status : Status) → was_committed_status (Some t) status ≡ was_committed_status (Some u) status
    by uncommitted = refl
    by (committed number) = ap (λ begin. not (nat_lt begin number)) begins
    by undone = refl

transaction_same : (one other : List Table) (base last : Records) (xs ys : List PastChange) → IsOnePast one base last xs ys → map without_rows one ≡ map without_rows other → EachTwo IdsRise other → (a b : Option Transaction)
    → option_map without_snapshot a ≡ option_map without_snapshot b → IfSome a (IsKnownIn one base xs) → IfSome b (IsKnownIn other last ys) → a ≡ b
transaction_same one other base last xs ys past defined ids None None e p q = refl
transaction_same one other base last xs ys past defined ids None (Some u) e p q = absurd (some_apart (without_snapshot u) (sym e))
transaction_same one other base last xs ys past defined ids (Some t) None e p q = absurd (some_apart (without_snapshot t) e)
transaction_same one other base last xs ys past defined ids (Some t) (Some u) e p q =
    let live : without_snapshot t ≡ without_snapshot u = ap (λ o. unwrap_or o (without_snapshot t)) e in
    let snapshot : t.snapshot ≡ u.snapshot =
    tables_same t.snapshot u.snapshot (p.1 ∙ defined ∙ sym q.1) (ids_rise_alike u.snapshot other q.1 ids) p.2 q.2
    (p.0 ∙ committed_same one base last xs ys past (Some t) ∙ ap (λ test. records_after_items test last ys) (same_reader t u (λ i. (live i).begin)) ∙ sym q.0) in
    λ i. Some (record { levels = (live i).levels; begin = (live i).begin; snapshot = snapshot i })

abbrev first_or : {X : Type 0} → X → List X → X
first_or x [] = x
first_or x (y ∷ ys) = y

abbrev rest_of : {X : Type 0} → List X → List X
rest_of [] = []
rest_of (y ∷ ys) = ys

abbrev is_more : {X : Type 0} → List X → Type 0
is_more [] = ⊥
is_more (x ∷ xs) = Unit {0}

sessions_same : (one other : List Table) (base last : Records) (xs ys : List PastChange) → IsOnePast one base last xs ys → map without_rows one ≡ map without_rows other → EachTwo IdsRise other → (left right : List LiveSession)
    → map live_state left ≡ map live_state right → AllByRecursion (IsKnown one base xs) left → AllByRecursion (IsKnown other last ys) right → left ≡ right
sessions_same one other base last xs ys past defined ids [] [] e p q = refl
sessions_same one other base last xs ys past defined ids [] (b ∷ right) e p q = absurd (subst is_more (sym e) tt)
sessions_same one other base last xs ys past defined ids (a ∷ left) [] e p q = absurd (subst is_more e tt)
sessions_same one other base last xs ys past defined ids (a ∷ left) (b ∷ right) e p q =
    let live : live_state a ≡ live_state b = ap (first_or (live_state a)) e in
    let same : a.transaction ≡ b.transaction = transaction_same one other base last xs ys past defined ids a.transaction b.transaction (λ i. (live i).transaction) p.0 q.0 in
    let rest : left ≡ right = sessions_same one other base last xs ys past defined ids left right (ap rest_of e) p.1 q.1 in
    λ i. record { label = (live i).label; open_tables = (live i).open_tables; transaction = same i } ∷ rest i

-- ---- the past

columns_alike : (one other : List Table) → map without_rows one ≡ map without_rows other → (id : ℕ) → columns_of (table_with_id one id) ≡ columns_of (table_with_id other id)
columns_alike one other defined id = sym (bare (table_with_id one id)) ∙ ap columns_of (numbered_alike one other defined id) ∙ bare (table_with_id other id)
  where
    bare : (o : Option Table) → columns_of (option_map without_rows o) ≡ columns_of o
    bare None = refl
    bare (Some t) = refl

-- what an engine knows of the past of a state that it holds
known_past : (engine : EngineState) (state : DatabaseState) (h : HoldsState engine state) → IsKnownPast state.tables (Numbers state) h.base h.kept
known_past engine state h =
    let placed = h.reached.history.keeps.placed in
    record {
      befores = h.reached.history.keeps.befores;
      afters = all_weaker (IsPlaced state.number state.tables (transaction_of state)) LeavesAfter (λ x p. p.3) h.kept placed;
      uncopied = h.reached.uncopied;
      there = all_weaker (IsPlaced state.number state.tables (transaction_of state)) (λ x. is_some (table_with_id state.tables (changed_table x.change)) ≡ true) (λ x p. p.1) h.kept placed;
      escrow = h.reached.numbers.sums;
      sums = h.reached.befores;
      first = first_numbers h.base h.kept state h.reached.numbers;
      back = numbers_back h.base h.kept state h.reached.numbers placed;
    }

-- ---- the whole

pub held_equivalent : (engine : EngineState) (one other : DatabaseState) → HoldsState engine one → HoldsState engine other → AreEquivalent one other
held_equivalent engine one other h g =
    let keeps_one = h.reached.history.keeps in
    let keeps_other = g.reached.history.keeps in
    let newest_records : records_after_items is_standing h.base h.kept ≡ records_after_items is_standing g.base g.kept =
    sym (newest_of_kept h.base h.dropped h.kept one h.reached.history) ∙ sym h.holds.newest ∙ g.holds.newest ∙ newest_of_kept g.base g.dropped g.kept other g.reached.history in
    let defined : map without_rows one.tables ≡ map without_rows other.tables = sym h.holds.defined ∙ g.holds.defined in
    let past : IsOnePast one.tables h.base g.base h.kept g.kept =
    one_past one.tables other.tables (columns_alike one.tables other.tables defined) (Numbers one) (Numbers other) h.kept g.kept engine.store.held h.holds.held g.holds.held h.base g.base (known_past engine one h) (known_past engine other g) newest_records in
    let tables : one.tables ≡ other.tables =
    tables_same one.tables other.tables defined g.reached.order.ids h.holds.rise.committed g.holds.rise.committed
    (keeps_one.committed ∙ committed_same one.tables h.base g.base h.kept g.kept past None ∙ sym keeps_other.committed) in
    let sessions : one.sessions ≡ other.sessions =
    sessions_same one.tables other.tables h.base g.base h.kept g.kept past defined g.reached.order.ids one.sessions other.sessions (h.sessions ∙ sym g.sessions)
    (all_known one h.base h.kept keeps_one h.labels h.holds.rise.snapshots) (all_known other g.base g.kept keeps_other g.labels g.holds.rise.snapshots) in
    let number : one.number ≡ other.number = h.number ∙ sym g.number in
    let greatest : one.greatest_table ≡ other.greatest_table = h.greatest ∙ sym g.greatest in
    let needed : map (essential_change one.tables) (from_oldest_needed one.sessions one.past) ≡ map (essential_change other.tables) (from_oldest_needed other.sessions other.past) =
    ap (map (essential_change one.tables)) (needed_kept h.base h.dropped h.kept one h.reached.history h.labels)
    ∙ essential_from one.tables one.sessions h.kept
    ∙ ap (from_essential one.sessions) past.essence
    ∙ sym (essential_from one.tables one.sessions g.kept)
    ∙ (λ i. map (essential_change (tables i)) (from_oldest_needed (sessions i) g.kept))
    ∙ sym (ap (map (essential_change other.tables)) (needed_kept g.base g.dropped g.kept other g.reached.history g.labels)) in
    λ i. record { number = number i; greatest_table = greatest i; tables = tables i; sessions = sessions i; past = needed i }
