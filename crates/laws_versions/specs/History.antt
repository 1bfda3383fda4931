-- What holds of the past changes that are kept, in every state that lawful entries reach. The order of two changes is a test,
-- so that it can be decided of changes that are read from a file.
use Rattle.std.specs.Prelude.{◌≡◌, ◌≢◌, ℕ, ◌==◌, ◌<◌, ◌≤◌, Bool, true, false, ◌&&◌, ◌||◌, nat_lt, List, [], ◌∷◌, ◌++◌, map, Option, Some, None, IfSome, IsTrue, is_some, if◌then◌else◌}
use Rattle.std.specs.List.{AllByRecursion}
use Rattle.database_state.specs.Table.{Table, table_with_id}
use Rattle.database_state.specs.Changes.{is_sum}
use Rattle.column_set.specs.ChangedRecords.{changed_table, changed_bookmark}
use Rattle.database_state.specs.State.{DatabaseState, LiveSession, PastChange, Transaction, Status, uncommitted, committed, undone, is_open, transaction_of}
use Rattle.database_state.specs.Conflicts.{collide}
use Rattle.laws_versions.specs.Records.{Records, record_after, records_after, records_after_items, records_of}
use Rattle.laws_versions.specs.Readers.{is_standing, was_committed}

-- of each two of a list, the earlier first
abbrev pub EachTwo : {X : Type 0} → (X → X → Type 0) → List X → Type 0
EachTwo R [] = Unit {0}
EachTwo R (x ∷ xs) = AllByRecursion (R x) xs × EachTwo R xs

-- ---- the order of changes that collide

abbrev pub is_committed_before : ℕ → Status → Bool
is_committed_before number uncommitted = false
is_committed_before number (committed at) = nat_lt at number
is_committed_before number undone = false

abbrev pub is_begun_after : Option Transaction → Status → Bool
is_begun_after None status = false
is_begun_after (Some transaction) status = is_committed_before transaction.begin status

abbrev pub is_same_status : Status → Status → Bool
is_same_status uncommitted uncommitted = true
is_same_status uncommitted (committed other) = false
is_same_status uncommitted undone = false
is_same_status (committed number) uncommitted = false
is_same_status (committed number) (committed other) = number == other
is_same_status (committed number) undone = false
is_same_status undone uncommitted = false
is_same_status undone (committed other) = false
is_same_status undone undone = true

-- where the later is open, whether its transaction began after the earlier was committed
abbrev pub is_settled_for : Option Transaction → Status → Status → Bool
is_settled_for transaction uncommitted earlier = is_begun_after transaction earlier
is_settled_for transaction (committed number) earlier = true
is_settled_for transaction undone earlier = true

abbrev pub is_apart_by : Option Transaction → ℕ → Bool → Status → Status → Bool
is_apart_by transaction number same earlier later = (same && is_same_status earlier later) || (is_committed_before number earlier && is_settled_for transaction later earlier)

-- Either both have the same session, state and commit number, or the earlier was committed below the later's number and,
-- where the later is open, below the begin of its session.
abbrev pub is_apart : (ℕ → Option Transaction) → PastChange → PastChange → Bool
is_apart transactions earlier later = is_apart_by (transactions later.session) later.number (earlier.session == later.session) earlier.status later.status

-- of two changes that stand and meet in some way
abbrev pub InOrderWhere : (PastChange → PastChange → Type 0) → (ℕ → Option Transaction) → PastChange → PastChange → Type 0
InOrderWhere Meet transactions earlier later = is_standing earlier ≡ true → is_standing later ≡ true → Meet earlier later → is_apart transactions earlier later ≡ true

-- of two that collide
abbrev pub InOrder : (ℕ → Option Transaction) → PastChange → PastChange → Type 0
InOrder = InOrderWhere (λ earlier later. collide earlier.change later.change ≡ true)

-- ---- the records before

-- A change that stands and is no sum has the record before it as the changes before it leave it. The record before a sum may
-- have sums of others that were undone since, and no one reads it.
abbrev pub HasBefores : Records → List PastChange → Type 0
HasBefores records [] = Unit {0}
HasBefores records (item ∷ items) =
    (is_standing item ≡ true → is_sum item.change ≡ false → item.before ≡ records (changed_table item.change) (changed_bookmark item.change))
    × HasBefores (if is_standing item then records_after records item.change else records) items

-- ---- each change by itself

abbrev pub IsOpenIn : PastChange → Option Transaction → Type 0
IsOpenIn item None = ⊥
IsOpenIn item (Some transaction) = (transaction.begin < item.number) × (1 ≤ item.level) × (item.level ≤ transaction.levels)

abbrev pub IsPlacedBy : ℕ → (ℕ → Option Transaction) → PastChange → Status → Type 0
IsPlacedBy number transactions item uncommitted = IsOpenIn item (transactions item.session)
IsPlacedBy number transactions item (committed at) =
    (item.number < at) × (at ≤ number) × IfSome (transactions item.session) (λ transaction. at < transaction.begin) × ((session : ℕ) → IfSome (transactions session) (λ transaction. at ≢ transaction.begin))
IsPlacedBy number transactions item undone = Unit {0}

-- Its number is reached and its table is there. An open change is of its session's transaction, at one of its levels. A
-- committed one was committed after it was made, before its session's transaction began, and at no begin. The record after it
-- is what it makes of the one before.
abbrev pub IsPlaced : ℕ → List Table → (ℕ → Option Transaction) → PastChange → Type 0
IsPlaced number tables transactions item =
    (item.number ≤ number) × IsTrue (is_some (table_with_id tables (changed_table item.change))) × IsPlacedBy number transactions item item.status × (item.after ≡ record_after item.change item.before)

-- ---- numbers and levels

abbrev pub NumbersRise : PastChange → PastChange → Type 0
NumbersRise earlier later = earlier.number < later.number

-- the levels of one session's open changes do not fall
abbrev pub LevelsRise : PastChange → PastChange → Type 0
LevelsRise earlier later = is_open earlier.status ≡ true → is_open later.status ≡ true → earlier.session ≡ later.session → earlier.level ≤ later.level

-- ---- the kept changes

abbrev pub without_rows : Table → Table
without_rows table = record table { rows = [] }

-- A transaction began with a copy of the committed tables of then, which have since changed in their rows alone.
pub record IsBegun (number : ℕ) (tables : List Table) (base : Records) (kept : List PastChange) (transaction : Transaction) : Type 0 where
  pub snapshot : records_of transaction.snapshot ≡ records_after_items (was_committed (Some transaction)) base kept
  pub defined : map without_rows transaction.snapshot ≡ map without_rows tables
  pub begin : transaction.begin ≤ number
  pub levels : 1 ≤ transaction.levels

-- From the starting point `base` the kept changes lead to the committed tables and to each snapshot, by those of them that were
-- committed then.
pub record KeepsHistory (number : ℕ) (tables : List Table) (transactions : ℕ → Option Transaction) (base : Records) (kept : List PastChange) : Type 0 where
  pub committed : records_of tables ≡ records_after_items (was_committed None) base kept
  pub begun : (session : ℕ) → IfSome (transactions session) (IsBegun number tables base kept)
  pub in_order : EachTwo (InOrder transactions) kept
  pub numbers : EachTwo NumbersRise kept
  pub levels : EachTwo LevelsRise kept
  pub befores : HasBefores base kept
  pub placed : AllByRecursion (IsPlaced number tables transactions) kept

-- ---- the dropped changes

abbrev pub IsPassedBy : ℕ → (ℕ → Option Transaction) → Status → Type 0
IsPassedBy number transactions uncommitted = ⊥
IsPassedBy number transactions (committed at) = (at ≤ number) × ((session : ℕ) → IfSome (transactions session) (λ transaction. at < transaction.begin))
IsPassedBy number transactions undone = Unit {0}

-- it was undone, or committed before each open transaction began
abbrev pub IsPassed : ℕ → (ℕ → Option Transaction) → PastChange → Type 0
IsPassed number transactions item = IsPassedBy number transactions item.status

-- ---- the whole

-- The past is some oldest changes, which were dropped since no one needs them any more, and the kept ones.
pub record IsHistory (base : Records) (dropped kept : List PastChange) (state : DatabaseState) : Type 0 where
  pub past : state.past ≡ dropped ++ kept
  pub passed : AllByRecursion (IsPassed state.number (transaction_of state)) dropped
  pub keeps : KeepsHistory state.number state.tables (transaction_of state) base kept

-- a state with a history, whichever it is
pub record HasHistory (state : DatabaseState) : Type 0 where
  pub base : Records
  pub dropped : List PastChange
  pub kept : List PastChange
  pub is_history : IsHistory base dropped kept state

-- ---- live sessions

abbrev pub LabelsRise : LiveSession → LiveSession → Type 0
LabelsRise earlier later = earlier.label < later.label
