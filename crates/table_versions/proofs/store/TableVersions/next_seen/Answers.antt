use Rattle.std.proofs.Common.{◌≡◌, Bool, List, Option, Some, None, refl, sym, ap, subst, ◌∙◌}
use Rattle.std.specs.Prelude.{◌<◌}
use Rattle.cursor_nav.specs.Places.{Pair, entry_after}
use Rattle.index_derive.specs.declared.entries.Place.TheVariants.{On}
use Rattle.page_image.specs.Page.{Node}
use Rattle.table_trees.specs.StoredNodes.{bookmark_entries, node_after}
use Rattle.table_trees.specs.StoredTables.{table_nodes}
use Rattle.version_store.specs.HeldChanges.{seen_row}
use Rattle.stored_variants.specs.RecordRows.{row_in_node}
use Rattle.table_versions.specs.Walks.{is_row_seen, is_seen}
use Rattle.laws_engine.proofs.TableLemmas.Neighbours.{left_from}
use Rattle.table_versions.proofs.NodesShown.{StandsAt, entry_at, fewer_from, goes_on, parts_of, seen_in_place, short_parts, stands_at, stands_on_it}
use Rattle.table_versions.proofs.ShownRecords.{seen_of_nodes}
use Rattle.table_versions.proofs.store.TableVersions.next_seen.Goals as goal

pub loop-found-init : goal.loop-found-init
loop-found-init c =
    let trees = c.self.inside.trees.tables in
    let nodes : List Node = table_nodes trees c.args.table.0 in
    let test : Pair → Bool = is_seen c.args.reader c.args.self.now.store c.args.table.0 in
    stands_at c.neighbours_are_those_of_bookmarks.ensures.after test c.args.place.now c.args.place.now nodes (parts_of c.node_after-found.result) (c.nodes_are_in_order.ensures.sorted c.args.table.0) refl
    c.node_after-found.ensures.node (short_parts c.node_after-found.result c.node_after-found.ensures.short)

pub returns-then-is_shown_in_place : goal.returns-then-is_shown_in_place
returns-then-is_shown_in_place c =
    let trees = c.self.inside.trees.tables in
    let nodes : List Node = table_nodes trees c.args.table.0 in
    let test : Pair → Bool = is_seen c.args.reader c.args.self.now.store c.args.table.0 in
    let stands : StandsAt test c.args.place.now nodes (Some (c.in-Some.bookmark.now, c.in-Some.row.now)) =
    subst (λ (o : Option Pair). StandsAt test c.args.place.now nodes o) (ap parts_of c.in-Some.is) c.loop-found.invariant in
    let told : test (c.in-Some.bookmark.now, c.in-Some.bookmark.now) ≡ is_row_seen (row_in_node c.in-Some.row.now) (seen_row c.args.table.0 c.in-Some.bookmark.now c.args.reader c.self.inside.versions) =
    seen_in_place c.self.inside.newest_put c.self.inside.catalog trees c.self.inside.versions c.self.invariant.kept c.nodes_are_in_order.ensures.sorted c.args.self.now c.self.view_is c.args.table.0 c.args.reader c.in-Some.bookmark.now c.in-Some.row.now stands.row in
    let seen = seen_of_nodes (record { same = c.entries_in_order_are_told_by_those_that_are_there.ensures.same; some = c.entries_in_order_are_told_by_those_that_are_there.ensures.some; seen = c.a_reader_is_shown_the_records_that_it_sees.ensures })
    c.self.inside.newest_put c.self.inside.catalog trees c.self.inside.versions c.self.invariant.kept c.nodes_are_in_order.ensures.sorted c.args.self.now c.self.view_is c.args.table.0 c.args.reader in
    record {
      bookmark = sym (stands_on_it test c.args.place.now nodes c.in-Some.bookmark.now c.in-Some.row.now stands (told ∙ sym c.is_shown_in_place.ensures ∙ c.if-is_shown_in_place.true)) ∙ ap (entry_after c.args.place.now) (sym seen);
      short = stands.short;
    }

pub loop-found-smaller : goal.loop-found-smaller
loop-found-smaller c =
    let trees = c.self.inside.trees.tables in
    let nodes : List Node = table_nodes trees c.args.table.0 in
    let test : Pair → Bool = is_seen c.args.reader c.args.self.now.store c.args.table.0 in
    let next : Option Pair = parts_of c.node_behind-found.result in
    let next_is : next ≡ node_after (On c.in-Some.bookmark.now c.in-Some.bookmark.now) nodes = c.node_behind-found.ensures.node in
    subst (λ (o : Option Pair). left_from (bookmark_entries nodes) (entry_at next) < left_from (bookmark_entries nodes) (entry_at o)) (sym (ap parts_of c.in-Some.is))
    (fewer_from c.neighbours_are_those_of_bookmarks.ensures.after nodes c.in-Some.bookmark.now c.in-Some.row.now next next_is)

pub loop-found-preserved : goal.loop-found-preserved
loop-found-preserved c =
    let trees = c.self.inside.trees.tables in
    let nodes : List Node = table_nodes trees c.args.table.0 in
    let test : Pair → Bool = is_seen c.args.reader c.args.self.now.store c.args.table.0 in
    let stands : StandsAt test c.args.place.now nodes (Some (c.in-Some.bookmark.now, c.in-Some.row.now)) =
    subst (λ (o : Option Pair). StandsAt test c.args.place.now nodes o) (ap parts_of c.in-Some.is) c.loop-found.invariant in
    let told : test (c.in-Some.bookmark.now, c.in-Some.bookmark.now) ≡ is_row_seen (row_in_node c.in-Some.row.now) (seen_row c.args.table.0 c.in-Some.bookmark.now c.args.reader c.self.inside.versions) =
    seen_in_place c.self.inside.newest_put c.self.inside.catalog trees c.self.inside.versions c.self.invariant.kept c.nodes_are_in_order.ensures.sorted c.args.self.now c.self.view_is c.args.table.0 c.args.reader c.in-Some.bookmark.now c.in-Some.row.now stands.row in
    let next : Option Pair = parts_of c.node_behind-found.result in
    let next_is : next ≡ node_after (On c.in-Some.bookmark.now c.in-Some.bookmark.now) nodes = c.node_behind-found.ensures.node in
    goes_on c.neighbours_are_those_of_bookmarks.ensures.after test c.args.place.now nodes c.in-Some.bookmark.now c.in-Some.row.now next (c.nodes_are_in_order.ensures.sorted c.args.table.0) stands
    (told ∙ sym c.is_shown_in_place.ensures ∙ c.if-is_shown_in_place.false) next_is (short_parts c.node_behind-found.result c.node_behind-found.ensures.short)

pub returns : goal.returns
returns c =
    let trees = c.self.inside.trees.tables in
    let nodes : List Node = table_nodes trees c.args.table.0 in
    let test : Pair → Bool = is_seen c.args.reader c.args.self.now.store c.args.table.0 in
    let seen = seen_of_nodes (record { same = c.entries_in_order_are_told_by_those_that_are_there.ensures.same; some = c.entries_in_order_are_told_by_those_that_are_there.ensures.some; seen = c.a_reader_is_shown_the_records_that_it_sees.ensures })
    c.self.inside.newest_put c.self.inside.catalog trees c.self.inside.versions c.self.invariant.kept c.nodes_are_in_order.ensures.sorted c.args.self.now c.self.view_is c.args.table.0 c.args.reader in
    let stands : StandsAt test c.args.place.now nodes None = subst (λ (o : Option Pair). StandsAt test c.args.place.now nodes o) (ap parts_of c.in_default.is) c.loop-found.invariant in
    record { bookmark = sym stands.shown ∙ ap (entry_after c.args.place.now) (sym seen); short = tt }
