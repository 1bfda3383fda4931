-- A change that meets no write conflict finds the newest record, also where it is a sum.
use Rattle.std.proofs.Common.{◌≡◌, ℕ, Bool, true, false, not, ◌&&◌, List, Some, refl, sym, ap, ◌∙◌}
use Rattle.std.specs.List.{AllByRecursion}
use Rattle.std.proofs.lemmas.Bool.{and_from, false_from_ne_true}
use Rattle.common_lemmas.proofs.Finding.{find_none}
use Rattle.common_lemmas.proofs.Booleans.{and_left, and_right, impossible}
use Rattle.common_lemmas.proofs.Numbers.{equal_bytes, self_equal}
use Rattle.column_set.specs.declared.changes.Change.{Change}
use Rattle.database_state.specs.Changes.{is_sum}
use Rattle.column_set.specs.ChangedRecords.{changed_bookmark, changed_table}
use Rattle.database_state.specs.State.{DatabaseState, PastChange, Transaction, transaction_of}
use Rattle.database_state.specs.View.{newest}
use Rattle.database_state.specs.Conflicts.{collide, has_write_conflict, is_concurrent}
use Rattle.laws_versions.specs.Records.{Records, is_change_of, records_of}
use Rattle.laws_versions.proofs.ChangeLemmas.Commuting.{both_touch}
use Rattle.laws_versions.specs.History.{IsHistory, IsPlaced}
use Rattle.laws_versions.specs.Readers.{before_or, found_record, hides, is_rewrite, is_standing, is_unseen, sees}
use Rattle.laws_versions.proofs.HistoryLemmas.EndEntries.{free_of}
use Rattle.laws_versions.proofs.HistoryLemmas.Lists.{all_both}
use Rattle.laws_versions.proofs.HistoryLemmas.Unhindered.{seen_unless}
use Rattle.laws_versions.proofs.HistoryLemmas.FoundRecord.{no_sum}

-- a put or a drop of the change's record collides with it
rewrite_collides : (p change : Change) → is_change_of (changed_table change) (changed_bookmark change) p ≡ true → is_rewrite p ≡ true → collide p change ≡ true
rewrite_collides p change mine rewrite =
    and_from _ _ (both_touch (changed_table change) (changed_bookmark change) p change mine itself) (ap (λ b. not (b && is_sum change)) (no_sum p rewrite))
  where
    itself : is_change_of (changed_table change) (changed_bookmark change) change ≡ true
    itself = and_from _ _ (self_equal (changed_table change)) (equal_bytes (changed_bookmark change) (changed_bookmark change) refl)

-- no put or drop of the record stands that the session does not see
pub unhindered_shown : (base : Records) (dropped kept : List PastChange) (state : DatabaseState) → IsHistory base dropped kept state → (session : ℕ) (t : Transaction) (change : Change) → transaction_of state session ≡ Some t
    → has_write_conflict state session change ≡ false → AllByRecursion (λ item. hides session (transaction_of state session) (changed_table change) (changed_bookmark change) item ≡ false) kept
unhindered_shown base dropped kept state h session t change e free =
    all_both (IsPlaced state.number state.tables (transaction_of state)) (λ p. is_standing p ≡ true → collide p.change change ≡ true → is_concurrent session (Some t) p ≡ false) (λ p. hidden p ≡ false)
    (λ p placed apart. false_from_ne_true (hidden p) (λ hit.
    let touched : (is_change_of (changed_table change) (changed_bookmark change) p.change && is_rewrite p.change) ≡ true = and_left _ _ hit in
    let unseen : is_unseen session (transaction_of state session) p ≡ true = and_right (is_change_of (changed_table change) (changed_bookmark change) p.change && is_rewrite p.change) _ hit in
    let collides : collide p.change change ≡ true = rewrite_collides p.change change (and_left _ _ touched) (and_right (is_change_of (changed_table change) (changed_bookmark change) p.change) _ touched) in
    both (is_standing p) (sees session (transaction_of state session) p)
    (seen_unless state.number (transaction_of state) session t p e placed.2 (λ live. apart live collides) ∙ ap (λ u. sees session u p) (sym e)) unseen))
    kept h.keeps.placed (free_of base dropped kept session change t state h e free)
  where
    hidden : PastChange → Bool
    hidden = hides session (transaction_of state session) (changed_table change) (changed_bookmark change)

    both : (a b : Bool) → a ≡ b → (a && not b) ≡ true → ⊥
    both true b e h = never (ap not e ∙ h)
      where
        never : false ≡ true → ⊥
        never e = cc
    both false b e h = impossible h

pub unhindered_found : (base : Records) (dropped kept : List PastChange) (state : DatabaseState) → IsHistory base dropped kept state → (session : ℕ) (t : Transaction) (change : Change) → transaction_of state session ≡ Some t
    → has_write_conflict state session change ≡ false
    → found_record session (transaction_of state session) (changed_table change) (changed_bookmark change) (records_of (newest state) (changed_table change) (changed_bookmark change)) kept
    ≡ records_of (newest state) (changed_table change) (changed_bookmark change)
unhindered_found base dropped kept state h session t change e free =
    ap (before_or (records_of (newest state) (changed_table change) (changed_bookmark change)))
    (find_none (hides session (transaction_of state session) (changed_table change) (changed_bookmark change)) kept (unhindered_shown base dropped kept state h session t change e free))
