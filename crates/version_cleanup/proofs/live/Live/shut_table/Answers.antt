-- The first of the table's number goes.
use Rattle.std.proofs.Common.{rules, tests, ◌≡◌, ℕ, ◌<◌, true, false, List, Option, length, get_or, sym, ap, ◌∙◌}
use Rattle.std.specs.Prelude.{◌==◌}
use Rattle.jet_base.specs.declared.ids.TableId.{TableId}
use Rattle.version_cleanup.specs.declared.live.Transaction.{Transaction}
use Rattle.version_cleanup.specs.LiveFields.{table_ids}
use Rattle.version_cleanup.specs.LiveSessions.{LiveState, shut}
use Rattle.version_cleanup.proofs.OpenTables.{without_one-read, without_one-unread}
use Rattle.version_cleanup.proofs.live.Live.shut_table.Goals as goal

abbrev with_tables : ℕ → Option Transaction → List ℕ → LiveState
with_tables label transaction tables = record { label = label; open_tables = tables; transaction = transaction }

pub returns-in-Some : goal.returns-in-Some
returns-in-Some c =
    let tables = c.self.inside.open_tables.items in
    let table = c.args.table.0 in
    let place = c.in-Some.place in
    let within : place < length tables = search rules in
    let here : ((get_or tables place c.args.table).0 == table) ≡ true = search (rules, tests) in
    let before : (k : ℕ) → k < place → ((get_or tables k c.args.table).0 == table) ≡ false = λ k lt. search (rules, tests) in
    ap (λ (items : List TableId). with_tables c.self.inside.label.0 c.self.inside.transaction (table_ids items)) c.remove.ensures.items
    ∙ ap (with_tables c.self.inside.label.0 c.self.inside.transaction) (sym (without_one-read tables table place c.args.table within here before))
    ∙ ap (shut table) c.self.view_is

pub returns-in_default : goal.returns-in_default
returns-in_default c =
    let tables = c.self.inside.open_tables.items in
    let table = c.args.table.0 in
    let each : (k : ℕ) → k < length tables → ((get_or tables k c.args.table).0 == table) ≡ false = λ k lt. search (rules, tests) in
    sym c.self.view_is
    ∙ ap (with_tables c.self.inside.label.0 c.self.inside.transaction) (sym (without_one-unread tables table c.args.table each))
    ∙ ap (shut table) c.self.view_is
