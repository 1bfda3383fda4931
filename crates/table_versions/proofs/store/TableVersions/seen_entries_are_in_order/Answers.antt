use Rattle.table_versions.proofs.SeenOrder.{seen_few, seen_sorted}
use Rattle.table_versions.proofs.store.TableVersions.seen_entries_are_in_order.Goals as goal

pub returns-clause-sorted : goal.returns-clause-sorted
returns-clause-sorted c reader table index =
    seen_sorted (record { walks = c.a_reader_walks_the_index_of_what_it_sees.ensures; own = record { same = c.entries_in_order_are_told_by_those_that_are_there.ensures.same; some = c.entries_in_order_are_told_by_those_that_are_there.ensures.some; seen = c.a_reader_is_shown_the_records_that_it_sees.ensures } })
    c.self.inside.newest_put c.self.inside.catalog c.self.inside.trees.tables c.self.inside.versions c.self.invariant.kept c.nodes_are_in_order.ensures.sorted c.entries_are_in_order.ensures.sorted c.args.self.now c.self.view_is reader table index

pub returns-clause-few : goal.returns-clause-few
returns-clause-few c reader table index =
    seen_few (record { walks = c.a_reader_walks_the_index_of_what_it_sees.ensures; own = record { same = c.entries_in_order_are_told_by_those_that_are_there.ensures.same; some = c.entries_in_order_are_told_by_those_that_are_there.ensures.some; seen = c.a_reader_is_shown_the_records_that_it_sees.ensures } })
    c.self.inside.newest_put c.self.inside.catalog c.self.inside.trees.tables c.self.inside.versions c.self.invariant.kept c.nodes_are_in_order.ensures.sorted c.entries_are_in_order.ensures.sorted c.nodes_and_entries_are_few.ensures.nodes c.nodes_and_entries_are_few.ensures.entries
    c.args.self.now c.self.view_is reader table index
