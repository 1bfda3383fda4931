use Rattle.std.proofs.Common.{◌≡◌, Some, None, sym, ap, ◌∙◌}
use Rattle.std.specs.Prelude.{◌==◌, position}
use Rattle.database_state.specs.SchemaChanges.{without_index}
use Rattle.jet_catalog.proofs.RisingIds.{ids_rise-set, with_table-changed, with_table-unchanged}
use Rattle.jet_catalog.proofs.catalog.Catalog.delete_index.Goals as goal

pub invariant_of-self : goal.invariant_of-self
invariant_of-self c =
    ids_rise-set 0 c.self.inside.greatest c.self.inside.tables.items c.in-Some.index c.delete_index.new.self c.index_mut.result.now (c.delete_index.ensures.id ∙ ap (λ t. t.id) c.index_mut.ensures.value) c.self.invariant

pub returns-in_ok-delete_index-clause-made : goal.returns-in_ok-delete_index-clause-made
returns-in_ok-delete_index-clause-made c =
    let found : position (λ t. t.id == c.args.table.0) c.self.inside.tables.items ≡ Some c.in-Some.index =
    ap (λ v. position (λ t. t.id == c.args.table.0) v.tables) c.self.view_is ∙ sym c.position.ensures ∙ c.in-Some.is in
    rw (← c.self.view_is, with_table-changed c.args.table.0 c.self.inside.greatest (without_index c.args.made.0) c.self.inside.tables.items c.in-Some.index c.index_mut.result.now c.delete_index.new.self c.self.invariant found c.index_mut.ensures.value c.in_ok-delete_index.ensures.made)

pub returns-in_default-clause-made : goal.returns-in_default-clause-made
returns-in_default-clause-made c =
    rw (with_table-unchanged c.args.table.0 (without_index c.args.made.0) c.args.self.now.tables (sym c.position.ensures ∙ c.in_default.is))
