use Rattle.std.proofs.Common.{◌≡◌, ℕ, ◌<◌, List, Option, Some, length, option_map, refl, sym, subst, ◌∙◌}
use Rattle.std.specs.Prelude.{IfSome, IsOk}
use Rattle.index_derive.specs.Entries.{entries, key_list}
use Rattle.index_derive.specs.Derived.{next_in}
use Rattle.long_value.specs.Values.{Values}
use Rattle.page_image.specs.Page.{Node}
use Rattle.table_trees.specs.StoredTables.{table_long_values, index_entries, table_nodes}
use Rattle.laws_engine.specs.Variants.{is_variant_key}
use Rattle.variant_trees.specs.GoneKeys.{AreRows, LosesKey, held_from}
use Rattle.stored_variants.specs.RecordRows.{IsRecordRow, TableValues, record_of, row_under}
use Rattle.variant_trees.proofs.EntryTrees.{entries_stay, entries_then}
use Rattle.variant_trees.proofs.LostKeys.{LosesSoFar, keys_begin, keys_end, keys_go_on}
use Rattle.variant_trees.proofs.RisingKeys.{fewer_keys, keys_from}
use Rattle.variant_trees.specs.GoneRecords.{CanRead, gone_fields}
use Rattle.variant_trees.proofs.keys.take_in_turn.Goals as goal

pub loop-next-init : goal.loop-next-init
loop-next-init c = record {
  catalog = refl;
  others = entries_stay c.args.table.0 c.args.trees.now.tables;
  indexes = λ other apart. refl;
  keys = keys_begin (key_list c.args.rule.now c.args.schema.now (gone_fields (table_long_values c.args.trees.now.tables c.args.table.0) c.args.gone)) (λ (k : List ℕ). is_variant_key (option_map (record_of (table_long_values c.args.trees.now.tables c.args.table.0)) (row_under (table_nodes c.args.trees.now.tables c.args.table.0) c.args.bookmark.now)) (held_from (table_long_values c.args.trees.now.tables) c.args.from c.args.versions.now) c.args.rule.now c.args.schema.now c.args.table.0 k c.args.bookmark.now) c.args.bookmark.now (index_entries c.args.trees.now.tables c.args.table.0 c.args.rule.now.id.0) c.next_key-next.result (c.entries_rise.ensures c.args.rule.now c.args.schema.now (gone_fields (table_long_values c.args.trees.now.tables c.args.table.0) c.args.gone)) c.next_key-next.ensures;
}

pub take_key-requires-clause-newest : goal.take_key-requires-clause-newest
take_key-requires-clause-newest c =
    subst (λ (v : Values). IfSome (row_under (table_nodes c.loop-next.trees.tables c.args.table.0) c.args.bookmark.now) (IsRecordRow v)) (sym (c.loop-next.invariant.others.values c.args.table.0))
    (subst (λ (nodes : List Node). IfSome (row_under nodes c.args.bookmark.now) (IsRecordRow (table_long_values c.args.trees.now.tables c.args.table.0))) (sym (c.loop-next.invariant.others.nodes c.args.table.0)) c.requires.newest)

pub take_key-requires-clause-rows : goal.take_key-requires-clause-rows
take_key-requires-clause-rows c = subst (λ (longs : TableValues). AreRows longs c.args.versions.now) (λ i table. sym (c.loop-next.invariant.others.values table) i) c.requires.rows

pub next_key-next-requires-in-Some-clause-row : goal.next_key-next-requires-in-Some-clause-row
next_key-next-requires-in-Some-clause-row c =
    subst (λ (v : Values). CanRead v c.args.gone) (sym (c.take_key.ensures.others.values c.args.table.0 ∙ c.loop-next.invariant.others.values c.args.table.0)) c.requires.gone

pub next_key-next-requires-in-Some-clause-taken : goal.next_key-next-requires-in-Some-clause-taken
next_key-next-requires-in-Some-clause-taken c =
    subst (λ (v : Values). IsOk (entries c.args.rule.now c.args.schema.now (gone_fields v c.args.gone))) (sym (c.take_key.ensures.others.values c.args.table.0 ∙ c.loop-next.invariant.others.values c.args.table.0)) c.requires.rule.taken

pub loop-next-smaller : goal.loop-next-smaller
loop-next-smaller c =
    subst (λ (next : Option (List ℕ)). length (keys_from (key_list c.args.rule.now c.args.schema.now (gone_fields (table_long_values c.args.trees.now.tables c.args.table.0) c.args.gone)) c.next_key-next-in-Some.result) < length (keys_from (key_list c.args.rule.now c.args.schema.now (gone_fields (table_long_values c.args.trees.now.tables c.args.table.0) c.args.gone)) next)) (sym c.in-Some.is)
    (subst (λ (next : Option (List ℕ)). length (keys_from (key_list c.args.rule.now c.args.schema.now (gone_fields (table_long_values c.args.trees.now.tables c.args.table.0) c.args.gone)) next) < length (keys_from (key_list c.args.rule.now c.args.schema.now (gone_fields (table_long_values c.args.trees.now.tables c.args.table.0) c.args.gone)) (Some c.in-Some.key))) (sym (subst (λ (v : Values). c.next_key-next-in-Some.result ≡ next_in (key_list c.args.rule.now c.args.schema.now (gone_fields v c.args.gone)) (Some c.in-Some.key)) (c.take_key.ensures.others.values c.args.table.0 ∙ c.loop-next.invariant.others.values c.args.table.0) c.next_key-next-in-Some.ensures)) (fewer_keys c.in-Some.key (key_list c.args.rule.now c.args.schema.now (gone_fields (table_long_values c.args.trees.now.tables c.args.table.0) c.args.gone)) (c.entries_rise.ensures c.args.rule.now c.args.schema.now (gone_fields (table_long_values c.args.trees.now.tables c.args.table.0) c.args.gone))))

pub loop-next-preserved : goal.loop-next-preserved
loop-next-preserved c = record {
  catalog = c.take_key.ensures.catalog ∙ c.loop-next.invariant.catalog;
  others = entries_then c.args.table.0 c.args.trees.now.tables c.loop-next.trees.tables c.take_key.new.trees.tables c.loop-next.invariant.others c.take_key.ensures.others;
  indexes = λ other apart. c.take_key.ensures.indexes other apart ∙ c.loop-next.invariant.indexes other apart;
  keys =
      keys_go_on (key_list c.args.rule.now c.args.schema.now (gone_fields (table_long_values c.args.trees.now.tables c.args.table.0) c.args.gone)) (λ (k : List ℕ). is_variant_key (option_map (record_of (table_long_values c.args.trees.now.tables c.args.table.0)) (row_under (table_nodes c.args.trees.now.tables c.args.table.0) c.args.bookmark.now)) (held_from (table_long_values c.args.trees.now.tables) c.args.from c.args.versions.now) c.args.rule.now c.args.schema.now c.args.table.0 k c.args.bookmark.now) c.args.bookmark.now (index_entries c.args.trees.now.tables c.args.table.0 c.args.rule.now.id.0) (index_entries c.loop-next.trees.tables c.args.table.0 c.args.rule.now.id.0) (index_entries c.take_key.new.trees.tables c.args.table.0 c.args.rule.now.id.0) c.in-Some.key c.next_key-next-in-Some.result (c.entries_rise.ensures c.args.rule.now c.args.schema.now (gone_fields (table_long_values c.args.trees.now.tables c.args.table.0) c.args.gone))
      (subst (LosesSoFar (key_list c.args.rule.now c.args.schema.now (gone_fields (table_long_values c.args.trees.now.tables c.args.table.0) c.args.gone)) (λ (k : List ℕ). is_variant_key (option_map (record_of (table_long_values c.args.trees.now.tables c.args.table.0)) (row_under (table_nodes c.args.trees.now.tables c.args.table.0) c.args.bookmark.now)) (held_from (table_long_values c.args.trees.now.tables) c.args.from c.args.versions.now) c.args.rule.now c.args.schema.now c.args.table.0 k c.args.bookmark.now) c.args.bookmark.now (index_entries c.args.trees.now.tables c.args.table.0 c.args.rule.now.id.0) (index_entries c.loop-next.trees.tables c.args.table.0 c.args.rule.now.id.0)) c.in-Some.is c.loop-next.invariant.keys)
      (subst (λ (nodes : List Node). LosesKey (λ (k : List ℕ). is_variant_key (option_map (record_of (table_long_values c.args.trees.now.tables c.args.table.0)) (row_under nodes c.args.bookmark.now)) (held_from (table_long_values c.args.trees.now.tables) c.args.from c.args.versions.now) c.args.rule.now c.args.schema.now c.args.table.0 k c.args.bookmark.now) c.in-Some.key c.args.bookmark.now (index_entries c.loop-next.trees.tables c.args.table.0 c.args.rule.now.id.0) (index_entries c.take_key.new.trees.tables c.args.table.0 c.args.rule.now.id.0))
      (c.loop-next.invariant.others.nodes c.args.table.0)
      (subst (λ (longs : TableValues). LosesKey (λ (k : List ℕ). is_variant_key (option_map (record_of (longs c.args.table.0)) (row_under (table_nodes c.loop-next.trees.tables c.args.table.0) c.args.bookmark.now)) (held_from longs c.args.from c.args.versions.now) c.args.rule.now c.args.schema.now c.args.table.0 k c.args.bookmark.now) c.in-Some.key c.args.bookmark.now (index_entries c.loop-next.trees.tables c.args.table.0 c.args.rule.now.id.0) (index_entries c.take_key.new.trees.tables c.args.table.0 c.args.rule.now.id.0))
      (λ i table. c.loop-next.invariant.others.values table i) c.take_key.ensures.key))
      (subst (λ (v : Values). c.next_key-next-in-Some.result ≡ next_in (key_list c.args.rule.now c.args.schema.now (gone_fields v c.args.gone)) (Some c.in-Some.key)) (c.take_key.ensures.others.values c.args.table.0 ∙ c.loop-next.invariant.others.values c.args.table.0) c.next_key-next-in-Some.ensures);
}

pub returns-clause-others : goal.returns-clause-others
returns-clause-others c = c.loop-next.invariant.others

pub returns-clause-indexes : goal.returns-clause-indexes
returns-clause-indexes c = c.loop-next.invariant.indexes

pub returns-clause-keys : goal.returns-clause-keys
returns-clause-keys c =
    keys_end (key_list c.args.rule.now c.args.schema.now (gone_fields (table_long_values c.args.trees.now.tables c.args.table.0) c.args.gone)) (λ (k : List ℕ). is_variant_key (option_map (record_of (table_long_values c.args.trees.now.tables c.args.table.0)) (row_under (table_nodes c.args.trees.now.tables c.args.table.0) c.args.bookmark.now)) (held_from (table_long_values c.args.trees.now.tables) c.args.from c.args.versions.now) c.args.rule.now c.args.schema.now c.args.table.0 k c.args.bookmark.now) c.args.bookmark.now (index_entries c.args.trees.now.tables c.args.table.0 c.args.rule.now.id.0) (index_entries c.loop-next.trees.tables c.args.table.0 c.args.rule.now.id.0) (subst (LosesSoFar (key_list c.args.rule.now c.args.schema.now (gone_fields (table_long_values c.args.trees.now.tables c.args.table.0) c.args.gone)) (λ (k : List ℕ). is_variant_key (option_map (record_of (table_long_values c.args.trees.now.tables c.args.table.0)) (row_under (table_nodes c.args.trees.now.tables c.args.table.0) c.args.bookmark.now)) (held_from (table_long_values c.args.trees.now.tables) c.args.from c.args.versions.now) c.args.rule.now c.args.schema.now c.args.table.0 k c.args.bookmark.now) c.args.bookmark.now (index_entries c.args.trees.now.tables c.args.table.0 c.args.rule.now.id.0) (index_entries c.loop-next.trees.tables c.args.table.0 c.args.rule.now.id.0)) c.in_default.is c.loop-next.invariant.keys)
