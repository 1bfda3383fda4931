-- Write conflicts and key conflicts with the changes of other sessions.
use Rattle.std.specs.Prelude.{ℕ, ◌==◌, Bool, true, false, not, ◌&&◌, ◌||◌, nat_lt, List, Option, Some, None, filter, bytes_eq}
use Rattle.std.specs.List.{list_any}
use Rattle.column_set.specs.declared.changes.Change.{Change}
use Rattle.column_set.specs.RecordValues.{RecordFields}
use Rattle.index_derive.specs.declared.rules.IndexRule.{IndexRule}
use Rattle.index_derive.specs.declared.rules.Schema.{Schema}
use Rattle.index_derive.specs.Entries.{key_list}
use Rattle.database_state.specs.Changes.{is_sum}
use Rattle.column_set.specs.ChangedRecords.{changed_table, changed_bookmark}
use Rattle.database_state.specs.State.{DatabaseState, PastChange, Transaction, Status, uncommitted, committed, undone, transaction_of}

-- Whether a commit at this number came after the transaction began. Outside a transaction the begin is the call itself.
abbrev pub is_after_begin : Option Transaction → ℕ → Bool
is_after_begin None number = false
is_after_begin (Some transaction) number = nat_lt transaction.begin number

abbrev pub is_concurrent_status : Option Transaction → Status → Bool
is_concurrent_status transaction uncommitted = true
is_concurrent_status transaction (committed number) = is_after_begin transaction number
is_concurrent_status transaction undone = false

-- A concurrent change: another session made it, it is not undone, and it is open or was committed after this session's begin.
abbrev pub is_concurrent : ℕ → Option Transaction → PastChange → Bool
is_concurrent session transaction item = not (item.session == session) && is_concurrent_status transaction item.status

unfoldable pub concurrent_changes : DatabaseState → ℕ → List PastChange
concurrent_changes state session = filter (is_concurrent session (transaction_of state session)) state.past

-- the same record of the same table, but for two sums of escrow columns
abbrev pub collide : Change → Change → Bool
collide one other = (changed_table one == changed_table other) && bytes_eq (changed_bookmark one) (changed_bookmark other) && not (is_sum one && is_sum other)

-- A write conflict: some concurrent change touches the same record, unless both are sums.
unfoldable pub has_write_conflict : DatabaseState → ℕ → Change → Bool
has_write_conflict state session change = list_any (λ item. collide item.change change) (concurrent_changes state session)

-- whether a record has the key among its entries in an index
abbrev pub yields_key : IndexRule → Schema → List ℕ → Option RecordFields → Bool
yields_key rule schema key None = false
yields_key rule schema key (Some values) = list_any (bytes_eq key) (key_list rule schema values)

-- A key conflict: some concurrent change of the table has the key among the entries of its record before it or after it.
unfoldable pub has_key_conflict : DatabaseState → ℕ → ℕ → Schema → IndexRule → List ℕ → Bool
has_key_conflict state session table schema rule key =
    list_any (λ item. (changed_table item.change == table) && (yields_key rule schema key item.before || yields_key rule schema key item.after))
    (concurrent_changes state session)
