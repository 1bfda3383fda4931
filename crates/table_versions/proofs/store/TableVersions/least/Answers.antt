use Rattle.std.proofs.Common.{Some, None, option_map, refl, sym, ap, ◌∙◌}
use Rattle.index_derive.specs.Schemas.{rule_with_id}
use Rattle.stored_variants.specs.VersionsKept.{only_secondary}
use Rattle.table_versions.proofs.LeastEntries.{has_keys_in, is_seen, least_seen}
use Rattle.table_versions.proofs.StoredRules.{legal_in_store}
use Rattle.table_versions.proofs.store.TableVersions.least.Goals as goal

pub next_entry-requires : goal.next_entry-requires
next_entry-requires c =
    let rule = c.in-Some-secondary_rule.rule.now in
    let seen =
    is_seen c.self.inside.newest_put c.self.inside.catalog c.self.inside.trees.tables c.self.inside.versions c.self.invariant.kept c.nodes_are_in_order.ensures.sorted c.nodes_are_in_order.ensures.short c.args.self.now c.self.view_is
    c.args.reader c.args.table.0 c.args.schema.now c.args.bookmark.now c.in-Some.row c.requires (sym c.in-Some.ensures) in
    let legal =
    legal_in_store c.self.inside.newest_put c.self.inside.catalog c.self.inside.trees.tables c.self.inside.versions c.self.invariant.kept c.args.self.now c.self.view_is c.args.table.0 c.args.schema.now c.requires c.args.index.0
    (Some rule) c.in-Some-secondary_rule.ensures in
    record {
      legal = legal.0;
      short = legal.1;
      taken = has_keys_in c.args.schema.now c.in-Some.row c.args.index.0 rule seen.indexable c.in-Some-secondary_rule.ensures;
    }

pub keyed-requires : goal.keyed-requires
keyed-requires c =
    (is_seen c.self.inside.newest_put c.self.inside.catalog c.self.inside.trees.tables c.self.inside.versions c.self.invariant.kept c.nodes_are_in_order.ensures.sorted c.nodes_are_in_order.ensures.short c.args.self.now c.self.view_is
    c.args.reader c.args.table.0 c.args.schema.now c.args.bookmark.now c.in-Some.row c.requires (sym c.in-Some.ensures)).short

pub returns-in-Some-secondary_rule : goal.returns-in-Some-secondary_rule
returns-in-Some-secondary_rule c =
    c.keyed.ensures
    ∙ ap (option_map (λ k. (k, c.args.bookmark.now))) c.next_entry.ensures
    ∙ sym (least_seen (record { least = c.a_record_has_an_entry_a_key.ensures.least; no_record = c.a_record_has_an_entry_a_key.ensures.no_record }) c.a_reader_is_shown_the_records_that_it_sees.ensures
    c.self.inside.newest_put c.self.inside.catalog c.self.inside.trees.tables c.self.inside.versions c.nodes_are_in_order.ensures.sorted c.args.self.now c.self.view_is c.args.reader c.args.table.0 c.args.schema.now c.requires c.args.index.0 c.args.bookmark.now
    (Some c.in-Some.row) c.in-Some.ensures (Some c.in-Some-secondary_rule.rule.now) c.in-Some-secondary_rule.ensures)

pub own_entry-requires : goal.own_entry-requires
own_entry-requires c =
    (is_seen c.self.inside.newest_put c.self.inside.catalog c.self.inside.trees.tables c.self.inside.versions c.self.invariant.kept c.nodes_are_in_order.ensures.sorted c.nodes_are_in_order.ensures.short c.args.self.now c.self.view_is
    c.args.reader c.args.table.0 c.args.schema.now c.args.bookmark.now c.in-Some.row c.requires (sym c.in-Some.ensures)).short

pub returns-in-None-secondary_rule : goal.returns-in-None-secondary_rule
returns-in-None-secondary_rule c =
    (λ i. Some (c.own_entry.ensures.key i, c.own_entry.ensures.bookmark i))
    ∙ sym (least_seen (record { least = c.a_record_has_an_entry_a_key.ensures.least; no_record = c.a_record_has_an_entry_a_key.ensures.no_record }) c.a_reader_is_shown_the_records_that_it_sees.ensures
    c.self.inside.newest_put c.self.inside.catalog c.self.inside.trees.tables c.self.inside.versions c.nodes_are_in_order.ensures.sorted c.args.self.now c.self.view_is c.args.reader c.args.table.0 c.args.schema.now c.requires c.args.index.0 c.args.bookmark.now
    (Some c.in-Some.row) c.in-Some.ensures None c.in-None-secondary_rule.ensures)

pub returns-in-None : goal.returns-in-None
returns-in-None c =
    sym (least_seen (record { least = c.a_record_has_an_entry_a_key.ensures.least; no_record = c.a_record_has_an_entry_a_key.ensures.no_record }) c.a_reader_is_shown_the_records_that_it_sees.ensures
    c.self.inside.newest_put c.self.inside.catalog c.self.inside.trees.tables c.self.inside.versions c.nodes_are_in_order.ensures.sorted c.args.self.now c.self.view_is c.args.reader c.args.table.0 c.args.schema.now c.requires c.args.index.0 c.args.bookmark.now
    None c.in-None.ensures (only_secondary (rule_with_id c.args.schema.now c.args.index.0)) refl)
