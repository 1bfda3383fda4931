-- What the held changes tell of write conflicts and of the span.
use Rattle.std.proofs.Common.{◌≡◌, ℕ, ◌+◌, Bool, true, false, not, ◌&&◌, ◌||◌, cond, List, [], ◌∷◌, Option, Some, None, refl, sym, ap, ◌∙◌, arith}
use Rattle.std.specs.Prelude.{◌==◌, nat_lt, bytes_eq, filter, fold, sum_by}
use Rattle.std.specs.List.{list_any}
use Rattle.std.proofs.lemmas.Bool.Decides.{nat_tests}
use Rattle.column_set.specs.declared.changes.Change.{Change}
use Rattle.column_set.specs.declared.changes.Change.TheVariants.{Put, Drop, Hold, Add}
use Rattle.database_state.specs.Changes.{is_sum}
use Rattle.column_set.specs.ChangedRecords.{changed_table, changed_bookmark}
use Rattle.database_state.specs.State.{DatabaseState, LiveSession, PastChange, Transaction, Status, uncommitted, committed, undone, is_open, is_undone, transaction_of}
use Rattle.database_state.specs.Conflicts.{collide, has_write_conflict, is_after_begin, is_concurrent as is_concurrent_change, is_concurrent_status}
use Rattle.database_state.specs.VersionStore.{is_needed, is_needed_status, from_oldest_needed, cost_of, version_span}
use Rattle.laws_versions.specs.Records.{Records}
use Rattle.laws_versions.specs.History.{EachTwo, LabelsRise}
use Rattle.laws_versions.specs.Readers.{was_committed_status}
use Rattle.laws_versions.proofs.HistoryLemmas.Concurrent.{write_conflict_kept}
use Rattle.laws_versions.proofs.HistoryLemmas.Span.{span_kept}
use Rattle.version_store.specs.declared.calls.Reader.{Reader}
use Rattle.version_store.specs.HeldChanges.{kind_of, is_add, is_after, is_kept_status}
use Rattle.laws_engine.specs.HeldRecords.{HeldRecord, conflicts, from_oldest_kept, has_conflict, is_concurrent, span}
use Rattle.laws_engine.specs.VersionedTables.{VersionedTables}
use Rattle.laws_engine.specs.Holding.{AllMatch, Holds, Matches, begin_of, earlier, oldest_begin}
use Rattle.laws_engine.proofs.TableLemmas.FoundRecords.{same_unseen}

-- ---- concurrent changes

add_kind : (c : Change) → is_add (kind_of c) ≡ is_sum c
add_kind (Put t b copied values) = refl
add_kind (Drop t b) = refl
add_kind (Hold t b) = refl
add_kind (Add t b c a) = refl

concurrent_unseen : (session : ℕ) (t : Option Transaction) (owner : ℕ) (s : Status)
    → (not (owner == session) && (not (is_undone s) && not (was_committed_status t s || (is_open s && (owner == session))))) ≡ (not (owner == session) && is_concurrent_status t s)
concurrent_unseen session t owner uncommitted = own (owner == session)
  where
    own : (b : Bool) → (not b && not b) ≡ (not b && true)
    own true = refl
    own false = refl
concurrent_unseen session t owner (committed n) = ap (λ b. not (owner == session) && b) (twice (is_after_begin t n))
  where
    twice : (b : Bool) → not (not b || false) ≡ b
    twice true = refl
    twice false = refl
concurrent_unseen session t owner undone = refl

pub same_concurrent : (item : PastChange) (h : HeldRecord) → Matches item h → (reader : Reader) (t : Option Transaction) → reader.begin ≡ begin_of t → is_concurrent reader h ≡ is_concurrent_change reader.session.0 t item
same_concurrent item h m reader t e =
    (λ i. not (m.session i == reader.session.0) && same_unseen item h m reader t e i) ∙ concurrent_unseen reader.session.0 t item.session item.status

one_conflict : (reader : Reader) (t : Option Transaction) → reader.begin ≡ begin_of t → (change : Change) (item : PastChange) (h : HeldRecord) → Matches item h
    → conflicts reader change h ≡ (is_concurrent_change reader.session.0 t item && collide item.change change)
one_conflict reader t e change item h m =
    λ i. same_concurrent item h m reader t e i
    && (((m.table i == changed_table change) && bytes_eq (m.bookmark i) (changed_bookmark change)) && not ((ap is_add m.kind ∙ add_kind item.change) i && is_sum change))

filtered : {X : Type 0} (p q : X → Bool) (xs : List X) → list_any (λ x. q x && p x) xs ≡ list_any p (filter q xs)
filtered p q [] = refl
filtered p q (x ∷ xs) = elim (q x) as (λ b. ((b && p x) || list_any (λ x. q x && p x) xs) ≡ list_any p (cond b (x ∷ filter q xs) (filter q xs))) [
  | true ↦ ap (λ b. p x || b) (filtered p q xs)
  | false ↦ filtered p q xs
]

conflict_is_kept : (reader : Reader) (t : Option Transaction) → reader.begin ≡ begin_of t → (change : Change) (items : List PastChange) (held : List HeldRecord) → AllMatch items held
    → has_conflict reader change held ≡ list_any (λ item. is_concurrent_change reader.session.0 t item && collide item.change change) items
conflict_is_kept reader t e change [] [] m = refl
conflict_is_kept reader t e change [] (h ∷ held) m = absurd m
conflict_is_kept reader t e change (item ∷ items) [] m = absurd m
conflict_is_kept reader t e change (item ∷ items) (h ∷ held) m = λ i. one_conflict reader t e change item h m.0 i || conflict_is_kept reader t e change items held m.1 i

pub conflict_is_told : (base : Records) (dropped kept : List PastChange) (store : VersionedTables) (state : DatabaseState) → Holds base dropped kept store state → (reader : Reader) → reader.begin ≡ begin_of (transaction_of state reader.session.0)
    → (change : Change) → has_conflict reader change store.held ≡ has_write_conflict state reader.session.0 change
conflict_is_told base dropped kept store state h reader e change =
    conflict_is_kept reader (transaction_of state reader.session.0) e change kept store.held h.held
    ∙ filtered (λ item. collide item.change change) (is_concurrent_change reader.session.0 (transaction_of state reader.session.0)) kept
    ∙ sym (write_conflict_kept base dropped kept state h.history reader.session.0 change)

-- ---- the span

after_either : (one other : Option ℕ) (number : ℕ) → is_after (earlier one other) number ≡ (is_after one number || is_after other number)
after_either None other number = refl
after_either (Some one) None number = sym (or_none (nat_lt one number))
  where
    or_none : (b : Bool) → (b || false) ≡ b
    or_none true = refl
    or_none false = refl
after_either (Some one) (Some other) number =
    elim (nat_lt other one) as (λ b. nat_lt other one ≡ b → nat_lt (cond b other one) number ≡ (nat_lt one number || nat_lt other number)) [
      | true ↦ λ e. below one other number e
      | false ↦ λ e. above one other number e
    ] refl
  where
    below : (a b n : ℕ) → nat_lt b a ≡ true → nat_lt b n ≡ (nat_lt a n || nat_lt b n)
    below a b n e = elim (nat_lt a n) as (λ x. nat_lt a n ≡ x → nat_lt b n ≡ (x || nat_lt b n)) [
      | true ↦ λ f. less a b n e f
      | false ↦ λ f. refl
    ] refl
      where
        less : (a b n : ℕ) → nat_lt b a ≡ true → nat_lt a n ≡ true → nat_lt b n ≡ true
        less a b n e f = grind (arith, nat_tests)

    above : (a b n : ℕ) → nat_lt b a ≡ false → nat_lt a n ≡ (nat_lt a n || nat_lt b n)
    above a b n e = elim (nat_lt a n) as (λ x. nat_lt a n ≡ x → x ≡ (x || nat_lt b n)) [
      | true ↦ λ f. refl
      | false ↦ λ f. sym (less a b n e f)
    ] refl
      where
        less : (a b n : ℕ) → nat_lt b a ≡ false → nat_lt a n ≡ false → nat_lt b n ≡ false
        less a b n e f = grind (arith, nat_tests)

after_oldest : (sessions : List LiveSession) (number : ℕ) → is_after (oldest_begin sessions) number ≡ list_any (λ s. is_after_begin s.transaction number) sessions
after_oldest [] number = refl
after_oldest (s ∷ sessions) number = after_either (begin_of s.transaction) (oldest_begin sessions) number ∙ (λ i. own s.transaction i || after_oldest sessions number i)
  where
    own : (t : Option Transaction) → is_after (begin_of t) number ≡ is_after_begin t number
    own None = refl
    own (Some t) = refl

kept_needed : (sessions : List LiveSession) (s : Status) → is_kept_status (oldest_begin sessions) s ≡ is_needed_status sessions s
kept_needed sessions uncommitted = refl
kept_needed sessions (committed number) = after_oldest sessions number
kept_needed sessions undone = refl

pub same_needed : (sessions : List LiveSession) (item : PastChange) (h : HeldRecord) → Matches item h → is_kept_status (oldest_begin sessions) h.status ≡ is_needed sessions item
same_needed sessions item h m = ap (is_kept_status (oldest_begin sessions)) m.status ∙ kept_needed sessions item.status

costs_from : (first : ℕ) (items : List PastChange) (held : List HeldRecord) → AllMatch items held
    → fold (λ (total : ℕ) (h : HeldRecord). total + h.cost) first held ≡ fold (λ (total : ℕ) (item : PastChange). total + cost_of item.change item.before) first items
costs_from first [] [] m = refl
costs_from first [] (h ∷ held) m = absurd m
costs_from first (item ∷ items) [] m = absurd m
costs_from first (item ∷ items) (h ∷ held) m =
    costs_from (first + h.cost) items held m.1 ∙ ap (λ n. fold (λ (total : ℕ) (item : PastChange). total + cost_of item.change item.before) (first + n) items) m.0.cost

span_is_kept : (sessions : List LiveSession) (items : List PastChange) (held : List HeldRecord) → AllMatch items held
    → span (oldest_begin sessions) held ≡ sum_by (λ item. cost_of item.change item.before) (from_oldest_needed sessions items)
span_is_kept sessions [] [] m = refl
span_is_kept sessions [] (h ∷ held) m = absurd m
span_is_kept sessions (item ∷ items) [] m = absurd m
span_is_kept sessions (item ∷ items) (h ∷ held) m =
    ap (λ b. sum_by (λ (h : HeldRecord). h.cost) (cond b (h ∷ held) (from_oldest_kept (oldest_begin sessions) held))) (same_needed sessions item h m.0)
    ∙ elim (is_needed sessions item) as (λ b. sum_by (λ (h : HeldRecord). h.cost) (cond b (h ∷ held) (from_oldest_kept (oldest_begin sessions) held)) ≡ sum_by (λ (item : PastChange). cost_of item.change item.before) (cond b (item ∷ items) (from_oldest_needed sessions items))) [
      | true ↦ costs_from 0 (item ∷ items) (h ∷ held) m
      | false ↦ span_is_kept sessions items held m.1
    ]

pub span_is_told : (base : Records) (dropped kept : List PastChange) (store : VersionedTables) (state : DatabaseState) → Holds base dropped kept store state → EachTwo LabelsRise state.sessions
    → span (oldest_begin state.sessions) store.held ≡ version_span state
span_is_told base dropped kept store state h rise = span_is_kept state.sessions kept store.held h.held ∙ sym (span_kept base dropped kept state h.history rise)
