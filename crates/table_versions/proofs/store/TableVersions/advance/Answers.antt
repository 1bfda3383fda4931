use Rattle.std.proofs.Common.{◌≡◌, None, sym, ap, ◌∙◌}
use Rattle.std.specs.Prelude.{is_some}
use Rattle.cursor_nav.specs.Places.{entry_after, on_or}
use Rattle.index_derive.specs.declared.entries.Place.TheVariants.{After}
use Rattle.index_derive.specs.Schemas.{rule_with_id}
use Rattle.stored_variants.specs.VersionsKept.{only_secondary}
use Rattle.table_versions.proofs.ShownEntries.{seen_of_stored}
use Rattle.table_versions.proofs.ShownRecords.{seen_of_nodes}
use Rattle.table_versions.proofs.store.TableVersions.advance.Goals as goal

pub returns-in-None : goal.returns-in-None
returns-in-None c =
    let none : None ≡ only_secondary (rule_with_id c.args.schema.now c.args.index.0) = c.in-None.ensures in
    let own = seen_of_nodes (record { same = c.entries_in_order_are_told_by_those_that_are_there.ensures.same; some = c.entries_in_order_are_told_by_those_that_are_there.ensures.some; seen = c.a_reader_is_shown_the_records_that_it_sees.ensures })
    c.self.inside.newest_put c.self.inside.catalog c.self.inside.trees.tables c.self.inside.versions c.self.invariant.kept c.nodes_are_in_order.ensures.sorted c.args.self.now c.self.view_is c.args.table.0 c.args.reader in
    let seen =
    seen_of_stored (record { walks = c.a_reader_walks_the_index_of_what_it_sees.ensures; own = record { same = c.entries_in_order_are_told_by_those_that_are_there.ensures.same; some = c.entries_in_order_are_told_by_those_that_are_there.ensures.some; seen = c.a_reader_is_shown_the_records_that_it_sees.ensures } }) c.self.inside.newest_put c.self.inside.catalog c.self.inside.trees.tables c.self.inside.versions c.self.invariant.kept c.nodes_are_in_order.ensures.sorted c.entries_are_in_order.ensures.sorted
    c.args.self.now c.self.view_is c.args.table.0 c.args.schema.now c.requires c.args.reader c.args.index.0 None none in
    let same = own ∙ sym seen in
    record { found = c.advance_in_records.ensures.found ∙ ap (λ entries. is_some (entry_after c.args.place.now entries)) same; place = c.advance_in_records.ensures.place ∙ ap (λ entries. on_or (entry_after c.args.place.now entries) After) same }
