-- Which changes of the past a reader sees, and what it finds of a record.
use Rattle.std.specs.Prelude.{ℕ, Bool, true, false, not, ◌&&◌, ◌||◌, List, [], ◌∷◌, find, Option, Some, None, if◌then◌else◌}
use Rattle.column_set.specs.declared.changes.Change.{Change}
use Rattle.column_set.specs.declared.changes.Change.TheVariants.{Put, Drop, Hold, Add}
use Rattle.column_set.specs.RecordValues.{RecordFields}
use Rattle.database_state.specs.State.{PastChange, Transaction, Status, uncommitted, committed, undone, is_undone, is_open_change_of}
use Rattle.database_state.specs.Conflicts.{is_after_begin}
use Rattle.laws_versions.specs.Records.{is_change_of}

-- A change stands where it is not undone. The newest state is that of all changes that stand.
abbrev pub is_standing : PastChange → Bool
is_standing item = not (is_undone item.status)

abbrev pub was_committed_status : Option Transaction → Status → Bool
was_committed_status transaction uncommitted = false
was_committed_status transaction (committed number) = not (is_after_begin transaction number)
was_committed_status transaction undone = false

-- committed when the transaction began; outside a transaction, committed at all
abbrev pub was_committed : Option Transaction → PastChange → Bool
was_committed transaction item = was_committed_status transaction item.status

-- A session sees what was committed when its transaction began, and its own open changes.
abbrev pub sees : ℕ → Option Transaction → PastChange → Bool
sees session transaction item = was_committed transaction item || is_open_change_of session item

abbrev pub is_unseen : ℕ → Option Transaction → PastChange → Bool
is_unseen session transaction item = is_standing item && not (sees session transaction item)

-- ---- what a session finds of a record

-- whether it sets or removes the record
abbrev pub is_rewrite : Change → Bool
is_rewrite (Put table bookmark copied values) = true
is_rewrite (Drop table bookmark) = true
is_rewrite (Hold table bookmark) = false
is_rewrite (Add table bookmark column amount) = false

-- a put or a drop of the record that the session does not see
abbrev pub hides : ℕ → Option Transaction → ℕ → List ℕ → PastChange → Bool
hides session transaction table bookmark item = is_change_of table bookmark item.change && is_rewrite item.change && is_unseen session transaction item

-- the record before a change, or the newest one where there is no such change
abbrev pub before_or : Option RecordFields → Option PastChange → Option RecordFields
before_or newest None = newest
before_or newest (Some item) = item.before

-- The record before the oldest put or drop that the session does not see, or the newest one where it sees all.
abbrev pub found_record : ℕ → Option Transaction → ℕ → List ℕ → Option RecordFields → List PastChange → Option RecordFields
found_record session transaction table bookmark newest kept = before_or newest (find (hides session transaction table bookmark) kept)

-- the items before the first that passes
abbrev pub until : {X : Type 0} → (X → Bool) → List X → List X
until test [] = []
until test (x ∷ xs) = if test x then [] else x ∷ until test xs
