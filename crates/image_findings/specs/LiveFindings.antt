-- The sessions and the held changes of an image. The grammar of the live part has their form: labels and numbers that rise, levels, and
-- states.
use Rattle.std.specs.Prelude.{ℕ, ◌+◌, ◌^◌, Bool, true, false, not, ◌&&◌, ◌||◌, ◌==◌, nat_le, nat_lt, List, [], ◌∷◌, Option, Some, None, is_some, is_none, if◌then◌else◌}
use Rattle.std.specs.List.{list_all}
use Rattle.std.specs.Option.{option_map}
use Rattle.btree_inplace.specs.Order.{get_in}
use Rattle.column_set.specs.RowReading.{row_in}
use Rattle.database_state.specs.State.{Status, uncommitted, committed, undone, is_open, is_undone}
use Rattle.database_state.specs.Table.{Table, schema_of}
use Rattle.index_derive.specs.Entries.{is_escrow_column}
use Rattle.laws_engine.specs.EngineState.{ends_in}
use Rattle.laws_images.specs.ShownStates.{with_empty_snapshot}
use Rattle.laws_versions.specs.History.{is_apart_by}
use Rattle.live_part.specs.LiveBytes.{LivePart, standing}
use Rattle.version_cleanup.specs.LiveSessions.{LiveState, transaction_in}
use Rattle.version_cleanup.specs.declared.live.Transaction.{Transaction}
use Rattle.version_store.specs.HeldChanges.{HeldChange, is_add, is_record, is_rewrite}
use Rattle.version_store.specs.declared.calls.ChangeKind.{ChangeKind}
use Rattle.version_store.specs.declared.calls.ChangeKind.TheVariants as kind
use Rattle.image_findings.specs.RowFindings.{is_row_under}
use Rattle.image_findings.specs.TableContents.{TableContents, contents_with_id, is_short_row, long_values, row_fits}

-- ---- sessions

abbrev pub do_not_fall : List ℕ → Bool
do_not_fall (n ∷ m ∷ numbers) = nat_le n m && do_not_fall (m ∷ numbers)
do_not_fall _ = true

-- a transaction began with an entry that was made
abbrev pub is_sound_transaction : ℕ → Option Transaction → Bool
is_sound_transaction number None = true
is_sound_transaction number (Some transaction) = nat_le 1 transaction.begin && nat_le transaction.begin number

-- its open tables do not fall and are in the catalog
abbrev pub is_sound_session : ℕ → List TableContents → LiveState → Bool
is_sound_session number tables session =
    do_not_fall session.open_tables && (list_all (λ id. is_some (contents_with_id tables id)) session.open_tables && is_sound_transaction number session.transaction)

-- What the sessions are still to end was begun, and can be ended below the greatest number.
abbrev pub have_room : ℕ → List LiveState → Bool
have_room number sessions = nat_le (ends_in sessions) number && nat_le (number + ends_in sessions) (2 ^ 35 + 1)

abbrev pub are_sound_sessions : ℕ → List TableContents → List LiveState → Bool
are_sound_sessions number tables sessions = list_all (is_sound_session number tables) sessions && have_room number sessions

-- ---- held changes by themselves

-- a transaction with these levels, which began below a number
abbrev pub is_open_in : ℕ → ℕ → Option Transaction → Bool
is_open_in number level None = false
is_open_in number level (Some transaction) = nat_lt transaction.begin number && nat_le level transaction.levels

abbrev pub begins_behind : ℕ → Option Transaction → Bool
begins_behind number None = true
begins_behind number (Some transaction) = nat_lt number transaction.begin

abbrev pub begins_elsewhere : ℕ → Option Transaction → Bool
begins_elsewhere number None = true
begins_elsewhere number (Some transaction) = not (number == transaction.begin)

-- An open change is of its session's transaction, at one of its levels. A committed one was committed behind its own entry, before the
-- transaction of its session that stands now, and at nobody's begin.
abbrev pub is_placed : ℕ → List LiveState → HeldChange → Status → Bool
is_placed number sessions h uncommitted = is_open_in h.number h.level (transaction_in h.session sessions)
is_placed number sessions h (committed at) =
    (nat_lt h.number at && nat_le at number) && (begins_behind at (transaction_in h.session sessions) && list_all (λ (s : LiveState). begins_elsewhere at s.transaction) sessions)
is_placed number sessions h undone = true

-- a sum is one of an escrow column
abbrev pub adds_to_sum : Table → ChangeKind → Bool
adds_to_sum table (kind.Add column amount) = is_escrow_column (schema_of table) column.0
adds_to_sum table _ = true

abbrev pub is_drop : ChangeKind → Bool
is_drop kind.Drop = true
is_drop _ = false

-- The row before a put or a drop may stand under its bookmark; of one that is undone it fits the columns, and nothing else is asked.
abbrev pub is_sound_row_before : ℕ → TableContents → HeldChange → List ℕ → Bool
is_sound_row_before number t h bytes =
    if is_undone h.status then is_short_row bytes && row_fits t.table.columns (row_in bytes) else is_row_under number (long_values t) t.table h.bookmark bytes

-- a lock and a sum have no row before them, and a drop has one, unless it is undone
abbrev pub is_sound_before : ℕ → TableContents → HeldChange → Option (List ℕ) → Bool
is_sound_before number t h None = is_undone h.status || not (is_drop h.kind)
is_sound_before number t h (Some bytes) = is_rewrite h.kind && is_sound_row_before number t h bytes

abbrev pub is_sound_of : ℕ → HeldChange → Option TableContents → Bool
is_sound_of number h None = false
is_sound_of number h (Some t) = adds_to_sum t.table h.kind && is_sound_before number t h h.before

-- a change of an entry that was made, in its place, of a table of the catalog
abbrev pub is_sound_change : ℕ → List TableContents → List LiveState → HeldChange → Bool
is_sound_change number tables sessions h = nat_le h.number number && (is_placed number sessions h h.status && is_sound_of number h (contents_with_id tables h.table))

-- ---- held changes beside one another, of those that are not undone

-- a put of a record that was not there
abbrev pub is_fresh_put : HeldChange → Bool
is_fresh_put h = is_rewrite h.kind && is_none h.before

-- whether the last change of a record left what its node has: a drop no row, and any other a row. Whether there is a node is asked with
-- the rows
abbrev pub leaves_node : ChangeKind → Option (List ℕ) → Bool
leaves_node kind None = true
leaves_node kind (Some []) = is_drop kind
leaves_node kind (Some (byte ∷ bytes)) = not (is_drop kind)

-- The next change of the record is a put of a record that was not there exactly behind a drop.
abbrev pub goes_on : Option (List ℕ) → HeldChange → List HeldChange → Bool
goes_on node h [] = leaves_node h.kind node
goes_on node h (next ∷ held) = if is_record h.table h.bookmark next then (if is_drop h.kind then is_fresh_put next else not (is_fresh_put next)) else goes_on node h held

abbrev pub node_under : List TableContents → HeldChange → Option (List ℕ)
node_under tables h = elim (contents_with_id tables h.table) [ Some t ↦ get_in t.nodes h.bookmark | None ↦ None ]

-- Of two changes of one record that are not both sums, both have the same session, state and commit number, or the earlier was committed
-- below the later's number and, where the later is open, below its session's begin.
abbrev pub are_apart : List LiveState → HeldChange → HeldChange → Bool
are_apart sessions earlier later =
    is_apart_by (option_map with_empty_snapshot (transaction_in later.session sessions)) later.number (earlier.session == later.session) earlier.status later.status

-- the levels of one session's open changes do not fall
abbrev pub levels_rise : HeldChange → HeldChange → Bool
levels_rise earlier later = not (is_open earlier.status && (is_open later.status && (earlier.session == later.session))) || nat_le earlier.level later.level

abbrev pub is_before : List LiveState → HeldChange → HeldChange → Bool
is_before sessions earlier later =
    (not (is_record earlier.table earlier.bookmark later) || ((is_add earlier.kind && is_add later.kind) || are_apart sessions earlier later)) && levels_rise earlier later

abbrev pub are_in_order : List TableContents → List LiveState → List HeldChange → Bool
are_in_order tables sessions [] = true
are_in_order tables sessions (h ∷ held) = goes_on (node_under tables h) h held && (list_all (is_before sessions h) held && are_in_order tables sessions held)

-- ---- the whole

abbrev pub is_sound_live : ℕ → List TableContents → LivePart → Bool
is_sound_live number tables live =
    are_sound_sessions number tables live.sessions && (list_all (is_sound_change number tables live.sessions) live.held && are_in_order tables live.sessions (standing live.held))
