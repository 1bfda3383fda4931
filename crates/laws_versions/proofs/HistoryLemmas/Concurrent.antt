-- Conflicts and the span, by the changes that are kept.
use Rattle.std.proofs.Common.{◌≡◌, ℕ, ◌<◌, Bool, true, false, not, ◌&&◌, ◌||◌, List, ◌++◌, Option, Some, None, refl, ap, ◌∙◌, arith}
use Rattle.std.specs.Prelude.{◌==◌, filter, IfSome}
use Rattle.std.specs.List.{list_any}
use Rattle.std.proofs.lemmas.Bool.Decides.{nat_tests}
use Rattle.std.proofs.lemmas.List.Elements.{filter-append}
use Rattle.common_lemmas.proofs.Lists.{all_weaker, filter_none}
use Rattle.column_set.specs.declared.changes.Change.{Change}
use Rattle.index_derive.specs.declared.rules.IndexRule.{IndexRule}
use Rattle.index_derive.specs.declared.rules.Schema.{Schema}
use Rattle.column_set.specs.ChangedRecords.{changed_table}
use Rattle.database_state.specs.State.{DatabaseState, PastChange, Transaction, Status, uncommitted, committed, undone, transaction_of}
use Rattle.database_state.specs.Conflicts.{collide, is_after_begin, is_concurrent, is_concurrent_status, concurrent_changes, has_write_conflict, has_key_conflict, yields_key}
use Rattle.laws_versions.specs.Records.{Records}
use Rattle.laws_versions.specs.History.{IsHistory, IsPassed, IsPassedBy}

passed_apart : (n : ℕ) (transactions : ℕ → Option Transaction) (session : ℕ) (s : Status) → IsPassedBy n transactions s → is_concurrent_status (transactions session) s ≡ false
passed_apart n transactions session uncommitted h = absurd h
passed_apart n transactions session (committed at) h = by (transactions session) (h.1 session)
  where
    by : (t : Option Transaction) → IfSome t (λ t. at < t.begin) → is_after_begin t at ≡ false
    by None lt = refl
    by (Some t) lt = grind (arith, nat_tests)
passed_apart n transactions session undone h = refl

pub concurrent_kept : (base : Records) (dropped kept : List PastChange) (state : DatabaseState) → IsHistory base dropped kept state → (session : ℕ)
    → concurrent_changes state session ≡ filter (is_concurrent session (transaction_of state session)) kept
unfolding concurrent_changes
concurrent_kept base dropped kept state h session =
    ap (filter (is_concurrent session (transaction_of state session))) h.past
    ∙ filter-append (is_concurrent session (transaction_of state session)) dropped kept
    ∙ ap (λ xs. xs ++ filter (is_concurrent session (transaction_of state session)) kept)
    (filter_none (is_concurrent session (transaction_of state session)) dropped
    (all_weaker (IsPassed state.number (transaction_of state)) (λ item. is_concurrent session (transaction_of state session) item ≡ false)
    (λ item p. and_none (not (item.session == session)) (is_concurrent_status (transaction_of state session) item.status) (passed_apart state.number (transaction_of state) session item.status p)) dropped h.passed))
  where
    and_none : (a b : Bool) → b ≡ false → (a && b) ≡ false
    and_none true b e = e
    and_none false b e = refl

pub write_conflict_kept : (base : Records) (dropped kept : List PastChange) (state : DatabaseState) → IsHistory base dropped kept state → (session : ℕ) (change : Change)
    → has_write_conflict state session change ≡ list_any (λ item. collide item.change change) (filter (is_concurrent session (transaction_of state session)) kept)
unfolding has_write_conflict
write_conflict_kept base dropped kept state h session change = ap (list_any (λ item. collide item.change change)) (concurrent_kept base dropped kept state h session)

pub key_conflict_kept : (base : Records) (dropped kept : List PastChange) (state : DatabaseState) → IsHistory base dropped kept state → (session table : ℕ) (schema : Schema) (rule : IndexRule) (key : List ℕ)
    → has_key_conflict state session table schema rule key
    ≡ list_any (λ item. (changed_table item.change == table) && (yields_key rule schema key item.before || yields_key rule schema key item.after)) (filter (is_concurrent session (transaction_of state session)) kept)
unfolding has_key_conflict
key_conflict_kept base dropped kept state h session table schema rule key =
    ap (list_any (λ item. (changed_table item.change == table) && (yields_key rule schema key item.before || yields_key rule schema key item.after))) (concurrent_kept base dropped kept state h session)
