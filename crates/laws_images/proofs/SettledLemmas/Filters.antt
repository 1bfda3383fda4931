-- What undone changes do not change of a past.
use Rattle.std.proofs.Common.{◌≡◌, ℕ, Bool, true, false, not, cond, Option, List, [], ◌∷◌, ◌++◌, refl, sym, ap, ◌∙◌}
use Rattle.std.specs.Prelude.{filter, map, ◌==◌}
use Rattle.common_lemmas.proofs.Booleans.{and_left, and_right, impossible}
use Rattle.database_state.specs.Conflicts.{is_concurrent, is_concurrent_status}
use Rattle.database_state.specs.State.{PastChange, Status, Transaction, is_open, is_open_change_of, is_undone, uncommitted, committed, undone}
use Rattle.laws_versions.specs.Readers.{is_standing}

-- what passes a test that no undone change passes
pub passing_stands : (test : PastChange → Bool) → ((item : PastChange) → test item ≡ true → is_standing item ≡ true) → (past : List PastChange) → filter test (filter is_standing past) ≡ filter test past
passing_stands test stands [] = refl
passing_stands test stands (item ∷ past) = at (is_standing item) (test item) refl refl (passing_stands test stands past)
  where
    at : (s t : Bool) → is_standing item ≡ s → test item ≡ t → filter test (filter is_standing past) ≡ filter test past
        → filter test (cond s (item ∷ filter is_standing past) (filter is_standing past)) ≡ cond t (item ∷ filter test past) (filter test past)
    at true true e f rest = ap (λ b. cond b (item ∷ filter test (filter is_standing past)) (filter test (filter is_standing past))) f ∙ ap (λ l. item ∷ l) rest
    at true false e f rest = ap (λ b. cond b (item ∷ filter test (filter is_standing past)) (filter test (filter is_standing past))) f ∙ rest
    at false true e f rest = impossible (sym e ∙ stands item f)
    at false false e f rest = rest

-- what is made of changes that stand alone
pub made_alike : (f : PastChange → PastChange) → ((item : PastChange) → is_standing item ≡ false → f item ≡ item) → (past : List PastChange) → filter is_standing (map f (filter is_standing past)) ≡ filter is_standing (map f past)
made_alike f stays [] = refl
made_alike f stays (item ∷ past) = at (is_standing item) refl (made_alike f stays past)
  where
    at : (s : Bool) → is_standing item ≡ s → filter is_standing (map f (filter is_standing past)) ≡ filter is_standing (map f past)
        → filter is_standing (map f (cond s (item ∷ filter is_standing past) (filter is_standing past))) ≡ cond (is_standing (f item)) (f item ∷ filter is_standing (map f past)) (filter is_standing (map f past))
    at true e rest = ap (λ l. cond (is_standing (f item)) (f item ∷ l) l) rest
    at false e rest = rest ∙ sym (ap (λ b. cond b (f item ∷ filter is_standing (map f past)) (filter is_standing (map f past))) (ap is_standing (stays item e) ∙ e))

pub one_more : (past : List PastChange) (item : PastChange) → filter is_standing (filter is_standing past ++ item ∷ []) ≡ filter is_standing (past ++ item ∷ [])
one_more [] item = refl
one_more (x ∷ past) item = at (is_standing x) refl (one_more past item)
  where
    at : (s : Bool) → is_standing x ≡ s → filter is_standing (filter is_standing past ++ item ∷ []) ≡ filter is_standing (past ++ item ∷ [])
        → filter is_standing (cond s (x ∷ filter is_standing past) (filter is_standing past) ++ item ∷ []) ≡ cond s (x ∷ filter is_standing (past ++ item ∷ [])) (filter is_standing (past ++ item ∷ []))
    at true e rest = ap (λ b. cond b (x ∷ filter is_standing (filter is_standing past ++ item ∷ [])) (filter is_standing (filter is_standing past ++ item ∷ []))) e ∙ ap (λ l. x ∷ l) rest
    at false e rest = rest

pub twice : (past : List PastChange) → filter is_standing (filter is_standing past) ≡ filter is_standing past
twice past = passing_stands is_standing (λ item e. e) past

-- ---- tests

open_stands : (status : Status) → is_open status ≡ true → not (is_undone status) ≡ true
open_stands uncommitted e = refl
open_stands (committed number) e = impossible e
open_stands undone e = impossible e

pub own_open_stands : (label : ℕ) (item : PastChange) → is_open_change_of label item ≡ true → is_standing item ≡ true
own_open_stands label item e = open_stands item.status (and_left (is_open item.status) (item.session == label) e)

pub newly_open_stands : (item : PastChange) → is_open item.status ≡ true → is_standing item ≡ true
newly_open_stands item e = open_stands item.status e

status_stands : (transaction : Option Transaction) (status : Status) → is_concurrent_status transaction status ≡ true → not (is_undone status) ≡ true
status_stands transaction uncommitted e = refl
status_stands transaction (committed number) e = refl
status_stands transaction undone e = impossible e

pub concurrent_stands : (session : ℕ) (transaction : Option Transaction) (item : PastChange) → is_concurrent session transaction item ≡ true → is_standing item ≡ true
concurrent_stands session transaction item e = status_stands transaction item.status (and_right (not (item.session == session)) (is_concurrent_status transaction item.status) e)
