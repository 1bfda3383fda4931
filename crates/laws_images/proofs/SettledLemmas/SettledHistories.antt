-- The history of a state without its undone changes.
use Rattle.std.proofs.Common.{◌≡◌, Bool, true, false, not, cond, Option, Some, None, List, [], ◌∷◌, refl, sym, ap, subst, ◌∙◌}
use Rattle.std.specs.Prelude.{filter, fold, IfSome}
use Rattle.std.specs.List.{AllByRecursion}
use Rattle.std.proofs.lemmas.List.Elements.{filter-append}
use Rattle.common_lemmas.proofs.Booleans.{impossible}
use Rattle.common_lemmas.proofs.Lists.{all_filter}
use Rattle.database_state.specs.State.{DatabaseState, PastChange, Status, Transaction, is_undone, transaction_of, uncommitted, committed, undone}
use Rattle.laws_versions.specs.Records.{Records, after_item, records_after, records_after_items}
use Rattle.laws_images.specs.Settled.{settled}
use Rattle.laws_images.proofs.SettledLemmas.Filters.{passing_stands}
use Rattle.laws_versions.specs.History.{EachTwo, HasBefores, HasHistory, IsBegun, IsHistory, IsPlaced, InOrder, LevelsRise, NumbersRise, IsPassed}
use Rattle.laws_versions.specs.Readers.{is_standing, was_committed, was_committed_status}

-- ---- lists

pub each_two : {X : Type 0} (R : X → X → Type 0) (test : X → Bool) (xs : List X) → EachTwo R xs → EachTwo R (filter test xs)
each_two R test [] h = tt
each_two R test (x ∷ xs) h = at (test x) (all_filter (R x) test xs h.0) (each_two R test xs h.1)
  where
    at : (b : Bool) → AllByRecursion (R x) (filter test xs) → EachTwo R (filter test xs) → EachTwo R (cond b (x ∷ filter test xs) (filter test xs))
    at true one rest = (one, rest)
    at false one rest = rest

committed_stands : (t : Option Transaction) (status : Status) → was_committed_status t status ≡ true → not (is_undone status) ≡ true
committed_stands t uncommitted e = impossible e
committed_stands t (committed number) e = refl
committed_stands t undone e = impossible e

pub after_alike : (t : Option Transaction) (base : Records) (kept : List PastChange) → records_after_items (was_committed t) base (filter is_standing kept) ≡ records_after_items (was_committed t) base kept
after_alike t base kept = ap (fold after_item base) (passing_stands (was_committed t) (λ item e. committed_stands t item.status e) kept)

-- ---- histories

befores : (records : Records) (kept : List PastChange) → HasBefores records kept → HasBefores records (filter is_standing kept)
befores records [] h = tt
befores records (item ∷ kept) h = at (is_standing item) refl (befores (cond (is_standing item) (records_after records item.change) records) kept h.1)
  where
    at : (b : Bool) → is_standing item ≡ b → HasBefores (cond (is_standing item) (records_after records item.change) records) (filter is_standing kept) → HasBefores records (cond b (item ∷ filter is_standing kept) (filter is_standing kept))
    at true e rest = (h.0, rest)
    at false e rest = subst (λ (b : Bool). HasBefores (cond b (records_after records item.change) records) (filter is_standing kept)) e rest

pub history : (base : Records) (dropped kept : List PastChange) (state : DatabaseState) → IsHistory base dropped kept state → IsHistory base (filter is_standing dropped) (filter is_standing kept) (settled state)
history base dropped kept state h = record {
  past = ap (filter is_standing) h.past ∙ filter-append is_standing dropped kept;
  passed = all_filter (IsPassed state.number (transaction_of state)) is_standing dropped h.passed;
  keeps = record {
    committed = h.keeps.committed ∙ sym (after_alike None base kept);
    begun = λ session. at (transaction_of state session) (h.keeps.begun session);
    in_order = each_two (InOrder (transaction_of state)) is_standing kept h.keeps.in_order;
    numbers = each_two NumbersRise is_standing kept h.keeps.numbers;
    levels = each_two LevelsRise is_standing kept h.keeps.levels;
    befores = befores base kept h.keeps.befores;
    placed = all_filter (IsPlaced state.number state.tables (transaction_of state)) is_standing kept h.keeps.placed;
  };
}
  where
    at : (t : Option Transaction) → IfSome t (IsBegun state.number state.tables base kept) → IfSome t (IsBegun state.number state.tables base (filter is_standing kept))
    at None b = tt
    at (Some t) b = record { snapshot = b.snapshot ∙ sym (after_alike (Some t) base kept); defined = b.defined; begin = b.begin; levels = b.levels }

pub has_history : (state : DatabaseState) → HasHistory state → HasHistory (settled state)
has_history state h = record { base = h.base; dropped = filter is_standing h.dropped; kept = filter is_standing h.kept; is_history = history h.base h.dropped h.kept state h.is_history }
