use Rattle.std.proofs.Common.{◌≡◌, Bool, List, Option, Some, None, filter, refl, sym, ap, subst, ◌∙◌}
use Rattle.std.specs.Prelude.{◌<◌}
use Rattle.common_lemmas.proofs.Options.{none_there}
use Rattle.cursor_nav.specs.Places.{Pair, entry_after}
use Rattle.index_derive.specs.declared.entries.Place.TheVariants.{On}
use Rattle.table_trees.specs.StoredTables.{index_entries}
use Rattle.stored_variants.specs.StoredVersions.{seen_entries}
use Rattle.table_versions.specs.Walks.{is_shown}
use Rattle.laws_engine.proofs.TableLemmas.Neighbours.{fewer_left, left_from, shown_from}
use Rattle.table_versions.proofs.EntriesShown.{StandsOn, passed_over, shown_is_it, short_pairs, stands_after, untouched_is_shown}
use Rattle.table_versions.proofs.NodesShown.{parts_of}
use Rattle.table_versions.proofs.ShownEntries.{seen_of_stored}
use Rattle.table_versions.proofs.StoredRules.{legal_in_store}
use Rattle.table_versions.proofs.store.TableVersions.next_shown.Goals as goal

pub loop-found-init : goal.loop-found-init
loop-found-init c =
    let entries : List Pair = index_entries c.self.inside.trees.tables c.args.table.0 c.args.rule.now.id.0 in
    let test : Pair → Bool = is_shown c.args.reader c.args.self.now.store c.args.table.0 c.args.schema.now (Some c.args.rule.now) in
    stands_after test (entry_after c.args.place.now (filter test entries)) c.args.place.now entries (parts_of c.entry_after-found.result) (c.entries_are_in_order.ensures.sorted c.args.table.0 c.args.rule.now.id.0) refl
    c.entry_after-found.ensures.entry (short_pairs c.entry_after-found.result c.entry_after-found.ensures.short)

pub returns-then-is_none : goal.returns-then-is_none
returns-then-is_none c =
    let entries : List Pair = index_entries c.self.inside.trees.tables c.args.table.0 c.args.rule.now.id.0 in
    let test : Pair → Bool = is_shown c.args.reader c.args.self.now.store c.args.table.0 c.args.schema.now (Some c.args.rule.now) in
    let entry : Pair = (c.in-Some.key.now, c.in-Some.bookmark.now) in
    let stands : StandsOn (entry_after c.args.place.now (filter test entries)) (shown_from test entries) entries (Some entry) =
    subst (λ (o : Option Pair). StandsOn (entry_after c.args.place.now (filter test entries)) (shown_from test entries) entries o) (ap parts_of c.in-Some.is) c.loop-found.invariant in
    let seen : seen_entries c.args.reader c.args.self.now.store c.args.table.0 c.args.index.0 ≡ filter test entries =
    seen_of_stored (record { walks = c.a_reader_walks_the_index_of_what_it_sees.ensures; own = record { same = c.entries_in_order_are_told_by_those_that_are_there.ensures.same; some = c.entries_in_order_are_told_by_those_that_are_there.ensures.some; seen = c.a_reader_is_shown_the_records_that_it_sees.ensures } }) c.self.inside.newest_put c.self.inside.catalog c.self.inside.trees.tables c.self.inside.versions c.self.invariant.kept c.nodes_are_in_order.ensures.sorted c.entries_are_in_order.ensures.sorted
    c.args.self.now c.self.view_is c.args.table.0 c.args.schema.now c.requires.named c.args.reader c.args.index.0 (Some c.args.rule.now) (sym c.requires.rule) in
    record {
      entry =
          sym (stands.shown ∙ shown_is_it test entry (entry_after (On entry.0 entry.1) (filter test entries))
          (untouched_is_shown c.args.reader entry.0 entry.1 c.args.index.0 c.self.inside.newest_put c.self.inside.catalog c.self.inside.trees.tables c.self.inside.versions c.self.invariant.kept c.args.self.now c.self.view_is c.args.table.0 c.args.schema.now c.requires.named c.args.rule.now c.requires.rule
          stands.there (sym c.newest_change.ensures.place ∙ none_there c.newest_change.result c.if-is_none.ensures)))
          ∙ ap (entry_after c.args.place.now) (sym seen);
      short = stands.short;
    }

pub shows-requires : goal.shows-requires
shows-requires c =
    let entries : List Pair = index_entries c.self.inside.trees.tables c.args.table.0 c.args.rule.now.id.0 in
    let test : Pair → Bool = is_shown c.args.reader c.args.self.now.store c.args.table.0 c.args.schema.now (Some c.args.rule.now) in
    let entry : Pair = (c.in-Some.key.now, c.in-Some.bookmark.now) in
    let stands : StandsOn (entry_after c.args.place.now (filter test entries)) (shown_from test entries) entries (Some entry) =
    subst (λ (o : Option Pair). StandsOn (entry_after c.args.place.now (filter test entries)) (shown_from test entries) entries o) (ap parts_of c.in-Some.is) c.loop-found.invariant in
    let legal = legal_in_store c.self.inside.newest_put c.self.inside.catalog c.self.inside.trees.tables c.self.inside.versions c.self.invariant.kept c.args.self.now c.self.view_is c.args.table.0 c.args.schema.now c.requires.named c.args.index.0 (Some c.args.rule.now) (sym c.requires.rule) in
    record { legal = legal.0; most = legal.1; short = stands.short.0 }

pub returns-then-shows : goal.returns-then-shows
returns-then-shows c =
    let entries : List Pair = index_entries c.self.inside.trees.tables c.args.table.0 c.args.rule.now.id.0 in
    let test : Pair → Bool = is_shown c.args.reader c.args.self.now.store c.args.table.0 c.args.schema.now (Some c.args.rule.now) in
    let entry : Pair = (c.in-Some.key.now, c.in-Some.bookmark.now) in
    let stands : StandsOn (entry_after c.args.place.now (filter test entries)) (shown_from test entries) entries (Some entry) =
    subst (λ (o : Option Pair). StandsOn (entry_after c.args.place.now (filter test entries)) (shown_from test entries) entries o) (ap parts_of c.in-Some.is) c.loop-found.invariant in
    let seen : seen_entries c.args.reader c.args.self.now.store c.args.table.0 c.args.index.0 ≡ filter test entries =
    seen_of_stored (record { walks = c.a_reader_walks_the_index_of_what_it_sees.ensures; own = record { same = c.entries_in_order_are_told_by_those_that_are_there.ensures.same; some = c.entries_in_order_are_told_by_those_that_are_there.ensures.some; seen = c.a_reader_is_shown_the_records_that_it_sees.ensures } }) c.self.inside.newest_put c.self.inside.catalog c.self.inside.trees.tables c.self.inside.versions c.self.invariant.kept c.nodes_are_in_order.ensures.sorted c.entries_are_in_order.ensures.sorted
    c.args.self.now c.self.view_is c.args.table.0 c.args.schema.now c.requires.named c.args.reader c.args.index.0 (Some c.args.rule.now) (sym c.requires.rule) in
    record {
      entry = sym (stands.shown ∙ shown_is_it test entry (entry_after (On entry.0 entry.1) (filter test entries)) (sym c.shows.ensures ∙ c.if-shows.true)) ∙ ap (entry_after c.args.place.now) (sym seen);
      short = stands.short;
    }

pub entry_behind-found-requires : goal.entry_behind-found-requires
entry_behind-found-requires c =
    let entries : List Pair = index_entries c.self.inside.trees.tables c.args.table.0 c.args.rule.now.id.0 in
    let test : Pair → Bool = is_shown c.args.reader c.args.self.now.store c.args.table.0 c.args.schema.now (Some c.args.rule.now) in
    let entry : Pair = (c.in-Some.key.now, c.in-Some.bookmark.now) in
    let stands : StandsOn (entry_after c.args.place.now (filter test entries)) (shown_from test entries) entries (Some entry) =
    subst (λ (o : Option Pair). StandsOn (entry_after c.args.place.now (filter test entries)) (shown_from test entries) entries o) (ap parts_of c.in-Some.is) c.loop-found.invariant in
    record { key = stands.short.0; bookmark = stands.short.1 }

pub loop-found-smaller : goal.loop-found-smaller
loop-found-smaller c =
    let entries : List Pair = index_entries c.self.inside.trees.tables c.args.table.0 c.args.rule.now.id.0 in
    let test : Pair → Bool = is_shown c.args.reader c.args.self.now.store c.args.table.0 c.args.schema.now (Some c.args.rule.now) in
    let entry : Pair = (c.in-Some.key.now, c.in-Some.bookmark.now) in
    subst (λ (o : Option Pair). left_from entries (parts_of c.entry_behind-found.result) < left_from entries o) (sym (ap parts_of c.in-Some.is))
    (fewer_left entry (parts_of c.entry_behind-found.result) entries c.entry_behind-found.ensures.entry)

pub loop-found-preserved : goal.loop-found-preserved
loop-found-preserved c =
    let entries : List Pair = index_entries c.self.inside.trees.tables c.args.table.0 c.args.rule.now.id.0 in
    let test : Pair → Bool = is_shown c.args.reader c.args.self.now.store c.args.table.0 c.args.schema.now (Some c.args.rule.now) in
    let entry : Pair = (c.in-Some.key.now, c.in-Some.bookmark.now) in
    let stands : StandsOn (entry_after c.args.place.now (filter test entries)) (shown_from test entries) entries (Some entry) =
    subst (λ (o : Option Pair). StandsOn (entry_after c.args.place.now (filter test entries)) (shown_from test entries) entries o) (ap parts_of c.in-Some.is) c.loop-found.invariant in
    stands_after test (entry_after c.args.place.now (filter test entries)) (On entry.0 entry.1) entries (parts_of c.entry_behind-found.result) (c.entries_are_in_order.ensures.sorted c.args.table.0 c.args.rule.now.id.0)
    (stands.shown ∙ passed_over test entry (entry_after (On entry.0 entry.1) (filter test entries)) (sym c.shows.ensures ∙ c.if-shows.false))
    c.entry_behind-found.ensures.entry (short_pairs c.entry_behind-found.result c.entry_behind-found.ensures.short)

pub returns : goal.returns
returns c =
    let entries : List Pair = index_entries c.self.inside.trees.tables c.args.table.0 c.args.rule.now.id.0 in
    let test : Pair → Bool = is_shown c.args.reader c.args.self.now.store c.args.table.0 c.args.schema.now (Some c.args.rule.now) in
    let seen : seen_entries c.args.reader c.args.self.now.store c.args.table.0 c.args.index.0 ≡ filter test entries =
    seen_of_stored (record { walks = c.a_reader_walks_the_index_of_what_it_sees.ensures; own = record { same = c.entries_in_order_are_told_by_those_that_are_there.ensures.same; some = c.entries_in_order_are_told_by_those_that_are_there.ensures.some; seen = c.a_reader_is_shown_the_records_that_it_sees.ensures } }) c.self.inside.newest_put c.self.inside.catalog c.self.inside.trees.tables c.self.inside.versions c.self.invariant.kept c.nodes_are_in_order.ensures.sorted c.entries_are_in_order.ensures.sorted
    c.args.self.now c.self.view_is c.args.table.0 c.args.schema.now c.requires.named c.args.reader c.args.index.0 (Some c.args.rule.now) (sym c.requires.rule) in
    let stands : StandsOn (entry_after c.args.place.now (filter test entries)) (shown_from test entries) entries None =
    subst (λ (o : Option Pair). StandsOn (entry_after c.args.place.now (filter test entries)) (shown_from test entries) entries o) (ap parts_of c.in_default.is) c.loop-found.invariant in
    record { entry = sym stands.shown ∙ ap (entry_after c.args.place.now) (sym seen); short = tt }
