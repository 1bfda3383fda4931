use Rattle.std.proofs.Common.{◌≡◌, Some, None, sym, ap, ◌∙◌}
use Rattle.std.specs.Option.{option_copied}
use Rattle.column_set.specs.RecordValues.{column_of_id}
use Rattle.jet_catalog.specs.Decisions.{is_sum}
use Rattle.jet_catalog.proofs.table.TableDef.is_escrow_column.Goals as goal

pub returns-in-Some : goal.returns-in-Some
unfolding is_sum
returns-in-Some c =
    let found : column_of_id c.args.self.now.columns c.args.id.0 ≡ Some c.in-Some.column.now = sym c.column_of.ensures ∙ ap option_copied c.in-Some.is in
    rw found

pub returns-in-None : goal.returns-in-None
unfolding is_sum
returns-in-None c =
    let found : column_of_id c.args.self.now.columns c.args.id.0 ≡ None = sym c.column_of.ensures ∙ ap option_copied c.in-None.is in
    rw found
