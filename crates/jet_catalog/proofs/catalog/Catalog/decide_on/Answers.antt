use Rattle.std.proofs.Common.{◌≡◌, Some, sym, ap, ◌∙◌}
use Rattle.std.specs.Option.{option_copied}
use Rattle.database_state.specs.Table.{table_named}
use Rattle.jet_catalog.specs.Catalog.{database_of}
use Rattle.jet_catalog.specs.Decisions.{decided, called_table}
use Rattle.jet_catalog.proofs.Answered.{decided-DeleteColumn, decided-DeleteIndex}
use Rattle.jet_catalog.proofs.catalog.Catalog.decide_on.Goals as goal

pub returns-in-DeleteColumn-Some : goal.returns-in-DeleteColumn-Some
returns-in-DeleteColumn-Some c =
    let state = database_of c.args.self.now in
    let found : table_named c.args.self.now.tables c.in-DeleteColumn-Some.table-0 ≡ Some c.in-DeleteColumn-Some.found.now =
    sym (c.requires ∙ ap (called_table state) c.in-DeleteColumn-Some.is-0) ∙ ap option_copied c.in-DeleteColumn-Some.is-1 in
    c.decide_deleted_column.ensures
    ∙ sym (decided-DeleteColumn state c.args.has_records c.in-DeleteColumn-Some.table-0 c.in-DeleteColumn-Some.column c.in-DeleteColumn-Some.found.now found)
    ∙ ap (decided state c.args.has_records) (sym c.in-DeleteColumn-Some.is-0)

pub returns-in-DeleteIndex-Some : goal.returns-in-DeleteIndex-Some
returns-in-DeleteIndex-Some c =
    let state = database_of c.args.self.now in
    let found : table_named c.args.self.now.tables c.in-DeleteIndex-Some.table-0 ≡ Some c.in-DeleteIndex-Some.found.now =
    sym (c.requires ∙ ap (called_table state) c.in-DeleteIndex-Some.is-0) ∙ ap option_copied c.in-DeleteIndex-Some.is-1 in
    c.decide_deleted_index.ensures
    ∙ sym (decided-DeleteIndex state c.args.has_records c.in-DeleteIndex-Some.table-0 c.in-DeleteIndex-Some.index c.in-DeleteIndex-Some.found.now found)
    ∙ ap (decided state c.args.has_records) (sym c.in-DeleteIndex-Some.is-0)
