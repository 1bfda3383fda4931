-- The records before sums, when a change comes behind them, or some change their state.
use Rattle.std.proofs.Common.{◌≡◌, ℕ, ◌+◌, Bool, true, false, not, ◌&&◌, cond, List, [], ◌∷◌, ◌++◌, Option, Some, None, refl, sym, ap, subst, ◌∙◌, bytes_eq}
use Rattle.std.specs.Prelude.{◌==◌, if◌then◌else◌, map, option_map, IfSome}
use Rattle.std.specs.List.{AllByRecursion}
use Rattle.std.proofs.lemmas.Bool.{eqb-true}
use Rattle.common_lemmas.proofs.Booleans.{and_left, impossible}
use Rattle.common_lemmas.proofs.Lists.{all_each, all_weaker}
use Rattle.column_set.specs.declared.changes.Change.{Change}
use Rattle.column_set.specs.declared.changes.Change.TheVariants.{Put, Drop, Hold, Add}
use Rattle.column_set.specs.declared.columns.Column.{Column}
use Rattle.index_derive.specs.declared.log.Entry.{Entry}
use Rattle.index_derive.specs.declared.log.EntryKind.{EntryKind}
use Rattle.index_derive.specs.declared.log.EntryKind.TheVariants as entry
use Rattle.database_state.specs.Table.{Table, schema_of, table_with_id}
use Rattle.database_state.specs.Changes.{is_sum, without_copied}
use Rattle.column_set.specs.ChangedRecords.{changed_table, changed_bookmark}
use Rattle.database_state.specs.Equivalence.{without_sums}
use Rattle.database_state.specs.State.{DatabaseState, PastChange, is_open_change_of, is_undone, levels, transaction_of, undone}
use Rattle.database_state.specs.Conflicts.{collide}
use Rattle.database_state.specs.Step.{applied, every_change, is_at_level, state_after}
use Rattle.laws_versions.specs.Records.{Records, after_item, is_change_of, record_after, records_after, records_after_items, records_of}
use Rattle.laws_versions.proofs.ChangeLemmas.Folds.{folded-cons}
use Rattle.laws_versions.specs.History.{EachTwo, IsHistory, IsPlaced, LevelsRise}
use Rattle.laws_versions.specs.KeptSteps.{base_after, committed_own, is_own_open, kept_after, lowered_own, new_change, undone_where, with_next_number}
use Rattle.laws_versions.specs.Readers.{is_standing}
use Rattle.laws_versions.proofs.HistoryLemmas.Befores.{GoesApart, at}
use Rattle.laws_versions.proofs.HistoryLemmas.Ending.{commit_before, commit_change, commit_live, lower_before, lower_change, lower_status}
use Rattle.laws_versions.proofs.HistoryLemmas.Entries.{at_innermost, history_later}
use Rattle.laws_versions.proofs.HistoryLemmas.Keeping.{goes_apart, open_live}
use Rattle.laws_versions.proofs.HistoryLemmas.Lists.{all_both}
use Rattle.laws_versions.proofs.HistoryLemmas.SeenRecords.{newest_records}
use Rattle.laws_versions.proofs.KeyLemmas.KeysOfEntries.{changes_records}
use Rattle.laws_versions.proofs.KeyLemmas.UniqueKept.{id_of, same_defined, same_tables, some_at}
use Rattle.laws_versions.specs.RecordNumbers.{AddsToEscrow}
use Rattle.laws_versions.specs.SumBefores.{AreSameButForSums, HaveSumBefores, HasSumBefores}
use Rattle.laws_versions.proofs.RecordLemmas.ClearedSums.{IsOfEscrow, after_same, sum_same}

-- ---- the records after a change

-- each sum of the table is of an escrow column
abbrev pub AreOfEscrow : List Column → ℕ → List PastChange → Type 0
AreOfEscrow columns table items = AllByRecursion (λ item. changed_table item.change ≡ table → IsOfEscrow columns item.change) items

item_same : (columns : List Column) (r s : Records) (item : PastChange) (table : ℕ) (bookmark : List ℕ) → (changed_table item.change ≡ table → IsOfEscrow columns item.change)
    → AreSameButForSums columns (r table bookmark) (s table bookmark) → AreSameButForSums columns (after_item r item table bookmark) (after_item s item table bookmark)
item_same columns r s item table bookmark plain same =
    elim (is_change_of table bookmark item.change) as (λ b. is_change_of table bookmark item.change ≡ b
    → AreSameButForSums columns (cond b (record_after item.change (r table bookmark)) (r table bookmark)) (cond b (record_after item.change (s table bookmark)) (s table bookmark))) [
      | true ↦ λ e. after_same columns item.change (plain (eqb-true (changed_table item.change) table (and_left _ _ e))) (r table bookmark) (s table bookmark) same
      | false ↦ λ e. same
    ] refl

item_keeps : (columns : List Column) (r : Records) (item : PastChange) (table : ℕ) (bookmark : List ℕ) → is_sum item.change ≡ true → (changed_table item.change ≡ table → IsOfEscrow columns item.change)
    → AreSameButForSums columns (after_item r item table bookmark) (r table bookmark)
item_keeps columns r item table bookmark sum plain =
    elim (is_change_of table bookmark item.change) as (λ b. is_change_of table bookmark item.change ≡ b → AreSameButForSums columns (cond b (record_after item.change (r table bookmark)) (r table bookmark)) (r table bookmark)) [
      | true ↦ λ e. sum_same columns item.change (plain (eqb-true (changed_table item.change) table (and_left _ _ e))) sum (r table bookmark)
      | false ↦ λ e. refl
    ] refl

-- ---- one more

befores-append : (columns : List Column) (table : ℕ) (items : List PastChange) (base : Records) (new : PastChange) → HasSumBefores columns table base items
    → (is_sum new.change ≡ true → AreSameButForSums columns new.before (at (records_after_items is_standing base items) new.change)) → HasSumBefores columns table base (items ++ new ∷ [])
befores-append columns table [] base new h e = ((λ live sum own. e sum), tt)
befores-append columns table (item ∷ items) base new h e = (
  h.0,
  befores-append columns table items (cond (is_standing item) (after_item base item) base) new h.1
      (λ sum. e sum ∙ ap (λ (r : Records). option_map (without_sums columns) (at r new.change)) (folded-cons is_standing base item items)),
)

-- ---- others of the same state

befores-map : (columns : List Column) (table : ℕ) (f : PastChange → PastChange) → ((item : PastChange) → (f item).change ≡ item.change) → ((item : PastChange) → (f item).before ≡ item.before)
    → ((item : PastChange) → is_standing (f item) ≡ is_standing item) → (items : List PastChange) (base : Records) → HasSumBefores columns table base items → HasSumBefores columns table base (map f items)
befores-map columns table f change before live [] base h = tt
befores-map columns table f change before live (item ∷ items) base h = (
  (λ alive sum own. ap (option_map (without_sums columns)) (before item)
      ∙ h.0 (sym (live item) ∙ alive) (ap is_sum (sym (change item)) ∙ sum) (ap changed_table (sym (change item)) ∙ own)
      ∙ ap (λ c. option_map (without_sums columns) (at base c)) (sym (change item))),
  subst (λ (r : Records). HasSumBefores columns table r (map f items)) (ap (λ c. cond (is_standing item) (records_after base c) base) (sym (change item)) ∙ ap (λ b. cond b (records_after base (f item).change) base) (sym (live item)))
      (befores-map columns table f change before live items (cond (is_standing item) (after_item base item) base) h.1),
)

-- ---- some undone

-- a sum that stays finds the same in both records
abbrev Agree : List Column → ℕ → (PastChange → Bool) → Records → Records → PastChange → Type 0
Agree columns table gone r s item = is_standing item ≡ true → gone item ≡ false → is_sum item.change ≡ true → changed_table item.change ≡ table → AreSameButForSums columns (at r item.change) (at s item.change)

off : (p q : Change) → collide p q ≡ false → is_sum p ≡ false → is_change_of (changed_table q) (changed_bookmark q) p ≡ false
off p q h sum = by ((changed_table p == changed_table q) && bytes_eq (changed_bookmark p) (changed_bookmark q)) (is_sum p) (is_sum q) sum h
  where
    by : (a b c : Bool) → b ≡ false → (a && not (b && c)) ≡ false → a ≡ false
    by true true c e g = impossible (sym e)
    by true false c e g = impossible (sym g)
    by false b c e g = refl

agree-gone : (columns : List Column) (table : ℕ) (gone : PastChange → Bool) (r s : Records) (item q : PastChange) → gone item ≡ true → (changed_table item.change ≡ table → IsOfEscrow columns item.change)
    → GoesApart gone item q → Agree columns table gone r s q → Agree columns table gone (after_item r item) s q
agree-gone columns table gone r s item q goes plain apart agree live stays sum own =
    elim (is_sum item.change) as (λ b. is_sum item.change ≡ b → AreSameButForSums columns (at (after_item r item) q.change) (at r q.change)) [
      | true ↦ λ added. item_keeps columns r item (changed_table q.change) (changed_bookmark q.change) added (λ same. plain (same ∙ own))
      | false ↦ λ set. ap (λ b. option_map (without_sums columns) (cond b (record_after item.change (at r q.change)) (at r q.change))) (off item.change q.change (apart goes live stays) set)
    ] refl
    ∙ agree live stays sum own

agree-stays : (columns : List Column) (table : ℕ) (gone : PastChange → Bool) (r s : Records) (item q : PastChange) → (changed_table item.change ≡ table → IsOfEscrow columns item.change)
    → Agree columns table gone r s q → Agree columns table gone (after_item r item) (after_item s item) q
agree-stays columns table gone r s item q plain agree live stays sum own =
    item_same columns r s item (changed_table q.change) (changed_bookmark q.change) (λ same. plain (same ∙ own)) (agree live stays sum own)

undone_from : (columns : List Column) (table : ℕ) (gone : PastChange → Bool) → ((item : PastChange) → gone item ≡ true → is_standing item ≡ true) → (items : List PastChange) (r s : Records) → HasSumBefores columns table r items
    → AreOfEscrow columns table items → EachTwo (GoesApart gone) items → AllByRecursion (Agree columns table gone r s) items → HasSumBefores columns table s (map (undone_where gone) items)
undone_from columns table gone alive [] r s h plain apart agree = tt
undone_from columns table gone alive (item ∷ items) r s h plain apart agree =
    elim (gone item) as (λ b. gone item ≡ b → HasSumBefores columns table s (cond b (record item { status = undone }) item ∷ map (undone_where gone) items)) [
      | true ↦ λ goes. (
        (λ live sum own. impossible live),
        undone_from columns table gone alive items (after_item r item) s
            (subst (λ (x : Records). HasSumBefores columns table x items) (ap (λ b. cond b (after_item r item) r) (alive item goes)) h.1) plain.1
            apart.1 (all_both (GoesApart gone item) (Agree columns table gone r s) (Agree columns table gone (after_item r item) s) (λ q. agree-gone columns table gone r s item q goes plain.0) items apart.0 agree.1),
      )
      | false ↦ λ stays. (
        (λ live sum own. h.0 live sum own ∙ agree.0 live stays sum own),
        elim (is_standing item) as (λ b. HasSumBefores columns table (cond b (after_item r item) r) items → HasSumBefores columns table (cond b (after_item s item) s) (map (undone_where gone) items)) [
          | true ↦ λ g. undone_from columns table gone alive items (after_item r item) (after_item s item) g plain.1 apart.1
              (all_weaker (Agree columns table gone r s) (Agree columns table gone (after_item r item) (after_item s item)) (λ q. agree-stays columns table gone r s item q plain.0) items agree.1)
          | false ↦ λ g. undone_from columns table gone alive items r s g plain.1 apart.1 agree.1
        ] h.1,
      )
    ] refl

befores-undo : (columns : List Column) (table : ℕ) (base : Records) (dropped kept : List PastChange) (state : DatabaseState) → IsHistory base dropped kept state → (label : ℕ) (test : PastChange → Bool)
    → ((p q : PastChange) → is_own_open label test p ≡ true → is_open_change_of label q ≡ true → IsPlaced state.number state.tables (transaction_of state) q → LevelsRise p q → test q ≡ true)
    → AreOfEscrow columns table kept → HasSumBefores columns table base kept → HasSumBefores columns table base (map (undone_where (is_own_open label test)) kept)
befores-undo columns table base dropped kept state h label test next plain befores =
    undone_from columns table (is_own_open label test) (λ item e. open_live item.status (and_left _ _ (and_left _ _ e))) kept base base befores plain
    (goes_apart state.number state.tables (transaction_of state) base kept label test (λ item. Unit {0}) (all_each (λ item. Unit {0}) (λ item. tt) kept) (λ p q e own placed each rise less. next p q e own placed rise) h.keeps)
    (all_each (Agree columns table (is_own_open label test) base base) (λ item live stays sum own. refl) kept)

-- ---- entries that change no record

befores_by_kind : (columns : List Column) (table : ℕ) (base : Records) (dropped kept : List PastChange) (state : DatabaseState) → IsHistory base dropped kept state → (label : ℕ) (kind : EntryKind) → changes_records kind ≡ false
    → AreOfEscrow columns table kept → HasSumBefores columns table base kept → HasSumBefores columns table base (kept_after state label kind kept)
befores_by_kind columns table base dropped kept state h label entry.Enter plain of befores = befores
befores_by_kind columns table base dropped kept state h label entry.Leave plain of befores = befores-undo columns table base dropped kept state h label every_change (λ p q e own placed rise. refl) of befores
befores_by_kind columns table base dropped kept state h label (entry.Open opened) plain of befores = befores
befores_by_kind columns table base dropped kept state h label (entry.Shut opened) plain of befores = befores
befores_by_kind columns table base dropped kept state h label entry.Begin plain of befores = befores
befores_by_kind columns table base dropped kept state h label entry.Save plain of befores = befores
befores_by_kind columns table base dropped kept state h label (entry.Change change) plain of befores = impossible (sym plain)
befores_by_kind columns table base dropped kept state h label entry.Release plain of befores =
    befores-map columns table (lowered_own label (levels state label)) (lower_change label (levels state label)) (lower_before label (levels state label))
    (λ item. ap (λ s. not (is_undone s)) (lower_status label (levels state label) item)) kept base befores
befores_by_kind columns table base dropped kept state h label entry.Undo plain of befores = befores-undo columns table base dropped kept state h label (is_at_level (levels state label)) (at_innermost label state) of befores
befores_by_kind columns table base dropped kept state h label entry.UndoAll plain of befores = befores-undo columns table base dropped kept state h label every_change (λ p q e own placed rise. refl) of befores
befores_by_kind columns table base dropped kept state h label entry.Commit plain of befores =
    befores-map columns table (committed_own label (state.number + 1)) (commit_change label (state.number + 1)) (commit_before label (state.number + 1)) (commit_live label (state.number + 1)) kept base befores
befores_by_kind columns table base dropped kept state h label (entry.Schema made) plain of befores = impossible (sym plain)

-- ---- a change

new_before : (columns : List Column) (base : Records) (dropped kept : List PastChange) (state : DatabaseState) → IsHistory base dropped kept state → (label : ℕ) (change : Change) → is_sum (without_copied change) ≡ true
    → AreSameButForSums columns (new_change label change (with_next_number state)).before (at (records_after_items is_standing base kept) (without_copied change))
new_before columns base dropped kept state h label (Put id bookmark copied values) sum = impossible sum
new_before columns base dropped kept state h label (Drop id bookmark) sum = impossible sum
new_before columns base dropped kept state h label (Hold id bookmark) sum = impossible sum
new_before columns base dropped kept state h label (Add id bookmark column amount) sum =
    ap (λ (r : Records). option_map (without_sums columns) (r id.0 bookmark)) (newest_records base dropped kept (with_next_number state) (history_later base dropped kept state h))

-- ---- any entry

-- the kept sums of a table are of its escrow columns
of_escrow : (tables : List Table) (id : ℕ) (table : Table) → table_with_id tables id ≡ Some table → (kept : List PastChange) → AllByRecursion (λ item. IfSome (table_with_id tables (changed_table item.change)) (λ t. AddsToEscrow (schema_of t) item.change)) kept
    → AreOfEscrow table.columns table.id kept
of_escrow tables id table found kept sums =
    all_weaker (λ item. IfSome (table_with_id tables (changed_table item.change)) (λ t. AddsToEscrow (schema_of t) item.change)) (λ item. changed_table item.change ≡ table.id → IsOfEscrow table.columns item.change)
    (λ item adds own. escrow item.change (subst (λ (o : Option Table). IfSome o (λ t. AddsToEscrow (schema_of t) item.change)) (ap (table_with_id tables) (own ∙ id_of tables id table found) ∙ found) adds)) kept sums
  where
    escrow : (c : Change) → AddsToEscrow (schema_of table) c → IsOfEscrow table.columns c
    escrow (Put t b copied values) h = tt
    escrow (Drop t b) h = tt
    escrow (Hold t b) h = tt
    escrow (Add t b c a) h = h.0

abbrev AreSumsOf : List Table → List PastChange → Type 0
AreSumsOf tables kept = AllByRecursion (λ item. IfSome (table_with_id tables (changed_table item.change)) (λ t. AddsToEscrow (schema_of t) item.change)) kept

plain_kept : (base : Records) (dropped kept : List PastChange) (state : DatabaseState) (label : ℕ) (kind : EntryKind) → changes_records kind ≡ false → IsHistory base dropped kept state → AreSumsOf state.tables kept → HaveSumBefores base kept state
    → HaveSumBefores base (kept_after state label kind kept) (applied label kind (with_next_number state))
plain_kept base dropped kept state label kind plain h sums befores id =
    same_defined (λ t. HasSumBefores t.columns t.id base (kept_after state label kind kept)) (λ t p. p) (λ t p. p) (applied label kind (with_next_number state)).tables state.tables (same_tables state label kind plain) id
    (some_at (λ t. HasSumBefores t.columns t.id base kept) (λ t. HasSumBefores t.columns t.id base (kept_after state label kind kept)) (table_with_id state.tables id)
    (λ t found had. befores_by_kind t.columns t.id base dropped kept state h label kind plain (of_escrow state.tables id t found kept sums) had) (befores id))

none_kept : (base : Records) (state : DatabaseState) → HaveSumBefores base [] state
none_kept base state id = by (table_with_id state.tables id)
  where
    by : (o : Option Table) → IfSome o (λ t. Unit {0})
    by None = tt
    by (Some t) = tt

by_kind : (base : Records) (dropped kept : List PastChange) (state : DatabaseState) (label : ℕ) (kind : EntryKind) → IsHistory base dropped kept state → AreSumsOf state.tables kept → HaveSumBefores base kept state
    → HaveSumBefores (base_after state kind base) (kept_after state label kind kept) (applied label kind (with_next_number state))
by_kind base dropped kept state label entry.Enter h sums befores = plain_kept base dropped kept state label entry.Enter refl h sums befores
by_kind base dropped kept state label entry.Leave h sums befores = plain_kept base dropped kept state label entry.Leave refl h sums befores
by_kind base dropped kept state label (entry.Open table) h sums befores = plain_kept base dropped kept state label (entry.Open table) refl h sums befores
by_kind base dropped kept state label (entry.Shut table) h sums befores = plain_kept base dropped kept state label (entry.Shut table) refl h sums befores
by_kind base dropped kept state label entry.Begin h sums befores = plain_kept base dropped kept state label entry.Begin refl h sums befores
by_kind base dropped kept state label entry.Save h sums befores = plain_kept base dropped kept state label entry.Save refl h sums befores
by_kind base dropped kept state label (entry.Change change) h sums befores = λ id.
    some_at (λ t. HasSumBefores t.columns t.id base kept) (λ t. HasSumBefores t.columns t.id base (kept ++ new_change label change (with_next_number state) ∷ [])) (table_with_id state.tables id)
    (λ t found had. befores-append t.columns t.id kept base (new_change label change (with_next_number state)) had (new_before t.columns base dropped kept state h label change)) (befores id)
by_kind base dropped kept state label entry.Release h sums befores = plain_kept base dropped kept state label entry.Release refl h sums befores
by_kind base dropped kept state label entry.Undo h sums befores = plain_kept base dropped kept state label entry.Undo refl h sums befores
by_kind base dropped kept state label entry.UndoAll h sums befores = plain_kept base dropped kept state label entry.UndoAll refl h sums befores
by_kind base dropped kept state label entry.Commit h sums befores = plain_kept base dropped kept state label entry.Commit refl h sums befores
by_kind base dropped kept state label (entry.Schema made) h sums befores = none_kept (base_after state (entry.Schema made) base) (applied label (entry.Schema made) (with_next_number state))

pub sum_befores_kept : (base : Records) (dropped kept : List PastChange) (state : DatabaseState) (made : Entry) → IsHistory base dropped kept state → AreSumsOf state.tables kept → HaveSumBefores base kept state
    → HaveSumBefores (base_after state made.kind base) (kept_after state made.session.0 made.kind kept) (state_after state made)
unfolding state_after
sum_befores_kept base dropped kept state made h sums befores = by_kind base dropped kept state made.session.0 made.kind h sums befores

pub sum_befores_begin : (state : DatabaseState) → HaveSumBefores (records_of state.tables) [] state
sum_befores_begin state = none_kept (records_of state.tables) state

pub sum_befores_cleaned : (base : Records) (item : PastChange) (kept : List PastChange) (state : DatabaseState) → HaveSumBefores base (item ∷ kept) state → HaveSumBefores (if is_standing item then after_item base item else base) kept state
sum_befores_cleaned base item kept state befores id =
    some_at (λ t. HasSumBefores t.columns t.id base (item ∷ kept)) (λ t. HasSumBefores t.columns t.id (if is_standing item then after_item base item else base) kept) (table_with_id state.tables id) (λ t found had. had.1) (befores id)
