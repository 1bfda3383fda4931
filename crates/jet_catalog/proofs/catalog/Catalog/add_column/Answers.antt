use Rattle.std.proofs.Common.{◌≡◌, Some, None, sym, ap, ◌∙◌}
use Rattle.std.specs.Prelude.{◌==◌, position}
use Rattle.column_set.specs.RecordValues.{tagged_if_long}
use Rattle.database_state.specs.SchemaChanges.{with_column}
use Rattle.jet_catalog.proofs.RisingIds.{ids_rise-set, with_table-changed, with_table-unchanged}
use Rattle.jet_catalog.proofs.catalog.Catalog.add_column.Goals as goal

pub invariant_of-self : goal.invariant_of-self
invariant_of-self c =
    ids_rise-set 0 c.self.inside.greatest c.self.inside.tables.items c.in-Some.index c.add_column.new.self c.index_mut.result.now (c.add_column.ensures.id ∙ ap (λ t. t.id) c.index_mut.ensures.value) c.self.invariant

pub returns-in_ok-add_column-clause-made : goal.returns-in_ok-add_column-clause-made
returns-in_ok-add_column-clause-made c =
    let found : position (λ t. t.id == c.args.table.0) c.self.inside.tables.items ≡ Some c.in-Some.index =
    ap (λ v. position (λ t. t.id == c.args.table.0) v.tables) c.self.view_is ∙ sym c.position.ensures ∙ c.in-Some.is in
    rw (← c.self.view_is, with_table-changed c.args.table.0 c.self.inside.greatest (with_column (tagged_if_long c.args.column.now)) c.self.inside.tables.items c.in-Some.index c.index_mut.result.now c.add_column.new.self c.self.invariant found c.index_mut.ensures.value c.in_ok-add_column.ensures.made)

pub returns-in_default-clause-made : goal.returns-in_default-clause-made
returns-in_default-clause-made c =
    rw (with_table-unchanged c.args.table.0 (with_column (tagged_if_long c.args.column.now)) c.args.self.now.tables (sym c.position.ensures ∙ c.in_default.is))
