use Rattle.std.proofs.Common.{Bool, subst, ◌+◌}
use Rattle.database_state.specs.State.{DatabaseState}
use Rattle.database_state.specs.Table.{row_at}
use Rattle.database_state.specs.Lawful.{has_free_keys, is_bookmark_of, is_copied_in, keeps_escrow}
use Rattle.index_derive.specs.Schemas.{primary_rule}
use Rattle.soft_recovery.specs.LawfulEntries.{IsTold, rows_in}
use Rattle.soft_recovery.proofs.Placing.{first_fails, fourth_tells, second_fails, third_fails}
use Rattle.soft_recovery.proofs.next_entries.puts.has_its_place_by.Goals as goal

pub returns-then-not-has_free_keys : goal.returns-then-not-has_free_keys
returns-then-not-has_free_keys c =
    let session = c.args.session.0 in
    let table = c.args.table.0 in
    let schema = c.args.schema.now in
    let bookmark = c.args.bookmark.now in
    let values = c.args.values.now in
    let keys : DatabaseState → Bool = λ state. has_free_keys state session table schema (rows_in state session table) bookmark values in
    let own : DatabaseState → Bool = λ state. is_bookmark_of (state.number + 1) schema (rows_in state session table) (primary_rule schema) bookmark values in
    let sums : DatabaseState → Bool = λ state. keeps_escrow schema.columns (row_at (rows_in state session table) bookmark) values in
    let copied : DatabaseState → Bool = λ state. is_copied_in (rows_in state session table) c.args.copied.now in
    first_fails c.args.engine.now keys own sums copied (subst (IsTold c.args.engine.now keys) c.if-not-has_free_keys.true c.has_free_keys.ensures)

pub returns-then-not-is_bookmark_of : goal.returns-then-not-is_bookmark_of
returns-then-not-is_bookmark_of c =
    let session = c.args.session.0 in
    let table = c.args.table.0 in
    let schema = c.args.schema.now in
    let bookmark = c.args.bookmark.now in
    let values = c.args.values.now in
    let keys : DatabaseState → Bool = λ state. has_free_keys state session table schema (rows_in state session table) bookmark values in
    let own : DatabaseState → Bool = λ state. is_bookmark_of (state.number + 1) schema (rows_in state session table) (primary_rule schema) bookmark values in
    let sums : DatabaseState → Bool = λ state. keeps_escrow schema.columns (row_at (rows_in state session table) bookmark) values in
    let copied : DatabaseState → Bool = λ state. is_copied_in (rows_in state session table) c.args.copied.now in
    second_fails c.args.engine.now keys own sums copied (subst (IsTold c.args.engine.now keys) c.if-not-has_free_keys.false c.has_free_keys.ensures)
    (subst (IsTold c.args.engine.now own) c.if-not-is_bookmark_of.true (c.is_bookmark_of.ensures schema values c.requires.key))

pub returns-then-not-keeps_escrow : goal.returns-then-not-keeps_escrow
returns-then-not-keeps_escrow c =
    let session = c.args.session.0 in
    let table = c.args.table.0 in
    let schema = c.args.schema.now in
    let bookmark = c.args.bookmark.now in
    let values = c.args.values.now in
    let keys : DatabaseState → Bool = λ state. has_free_keys state session table schema (rows_in state session table) bookmark values in
    let own : DatabaseState → Bool = λ state. is_bookmark_of (state.number + 1) schema (rows_in state session table) (primary_rule schema) bookmark values in
    let sums : DatabaseState → Bool = λ state. keeps_escrow schema.columns (row_at (rows_in state session table) bookmark) values in
    let copied : DatabaseState → Bool = λ state. is_copied_in (rows_in state session table) c.args.copied.now in
    third_fails c.args.engine.now keys own sums copied (subst (IsTold c.args.engine.now keys) c.if-not-has_free_keys.false c.has_free_keys.ensures)
    (subst (IsTold c.args.engine.now own) c.if-not-is_bookmark_of.false (c.is_bookmark_of.ensures schema values c.requires.key))
    (subst (IsTold c.args.engine.now sums) c.if-not-keeps_escrow.true c.keeps_escrow.ensures)

pub returns : goal.returns
returns c =
    let session = c.args.session.0 in
    let table = c.args.table.0 in
    let schema = c.args.schema.now in
    let bookmark = c.args.bookmark.now in
    let values = c.args.values.now in
    let keys : DatabaseState → Bool = λ state. has_free_keys state session table schema (rows_in state session table) bookmark values in
    let own : DatabaseState → Bool = λ state. is_bookmark_of (state.number + 1) schema (rows_in state session table) (primary_rule schema) bookmark values in
    let sums : DatabaseState → Bool = λ state. keeps_escrow schema.columns (row_at (rows_in state session table) bookmark) values in
    let copied : DatabaseState → Bool = λ state. is_copied_in (rows_in state session table) c.args.copied.now in
    fourth_tells c.args.engine.now keys own sums copied c.is_copied_in.result (subst (IsTold c.args.engine.now keys) c.if-not-has_free_keys.false c.has_free_keys.ensures)
    (subst (IsTold c.args.engine.now own) c.if-not-is_bookmark_of.false (c.is_bookmark_of.ensures schema values c.requires.key))
    (subst (IsTold c.args.engine.now sums) c.if-not-keeps_escrow.false c.keeps_escrow.ensures) c.is_copied_in.ensures
