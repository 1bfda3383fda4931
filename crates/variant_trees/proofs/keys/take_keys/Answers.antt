use Rattle.std.proofs.Common.{◌≡◌, ℕ, ◌<◌, ◌≤◌, ◌+◌, suc, List, length, get_or, option_map, sym, ap, subst, ◌∙◌, arith, refl}
use Rattle.std.specs.Prelude.{IfSome}
use Rattle.index_derive.specs.declared.rules.IndexRule.{IndexRule}
use Rattle.long_value.specs.Values.{Values}
use Rattle.page_image.specs.Page.{Node}
use Rattle.table_trees.specs.StoredTrees.{StoredTrees}
use Rattle.table_trees.specs.StoredTables.{table_long_values, StoredTable, index_entries, table_nodes}
use Rattle.stored_variants.specs.PutRecords.{HasKeysOf}
use Rattle.variant_trees.specs.GoneKeys.{AreRows, LosesKeys, held_from}
use Rattle.stored_variants.specs.RecordRows.{IsRecordRow, TableValues, record_of, row_under}
use Rattle.variant_trees.proofs.LostKeys.{LosesUpTo, all_at, indexes_begin, indexes_end, indexes_lose, indexes_pass}
use Rattle.variant_trees.proofs.keys.take_keys.Goals as goal
use Rattle.variant_trees.specs.GoneRecords.{CanRead, gone_fields}
use Rattle.variant_trees.proofs.keys.take_keys.Goals.{then-not-rule, else-not-rule}

pub loop-rule-init : goal.loop-rule-init
loop-rule-init c = record { done = indexes_begin (option_map (record_of (table_long_values c.args.trees.now.tables c.args.table.0)) (row_under (table_nodes c.args.trees.now.tables c.args.table.0) c.args.bookmark.now)) (held_from (table_long_values c.args.trees.now.tables) c.args.from c.args.versions.now) c.args.schema.now c.args.table.0 c.args.bookmark.now (gone_fields (table_long_values c.args.trees.now.tables c.args.table.0) c.args.gone) c.args.trees.now.tables; catalog = refl }

pub take_keys_of-requires-clause-gone : goal.take_keys_of-requires-clause-gone
take_keys_of-requires-clause-gone c = subst (λ (v : Values). CanRead v c.args.gone) (sym (c.loop-rule.invariant.done.others.values c.args.table.0)) c.requires.gone

pub take_keys_of-requires-clause-rule : goal.take_keys_of-requires-clause-rule
take_keys_of-requires-clause-rule c =
    let items : c.as_slice-rule-items.result.now ≡ c.args.schema.now.indexes = c.as_slice-rule-items.ensures in
    let low : c.loop-rule.rule-index < length c.args.schema.now.indexes = subst (λ (rules : List IndexRule). c.loop-rule.rule-index < length rules) items c.loop-rule-test.true in
    let is : c.rule-item.result ≡ get_or c.args.schema.now.indexes c.loop-rule.rule-index c.rule-item.result = c.rule-item.is ∙ ap (λ (rules : List IndexRule). get_or rules c.loop-rule.rule-index c.rule-item.result) items in
    subst (λ (v : Values). HasKeysOf c.args.schema.now (gone_fields v c.args.gone) c.rule-item.result) (sym (c.loop-rule.invariant.done.others.values c.args.table.0))
    (all_at (HasKeysOf c.args.schema.now (gone_fields (table_long_values c.args.trees.now.tables c.args.table.0) c.args.gone)) c.args.schema.now.indexes c.loop-rule.rule-index c.rule-item.result c.requires.rules low is)

pub take_keys_of-requires-clause-newest : goal.take_keys_of-requires-clause-newest
take_keys_of-requires-clause-newest c =
    subst (λ (v : Values). IfSome (row_under (table_nodes c.loop-rule.trees.tables c.args.table.0) c.args.bookmark.now) (IsRecordRow v)) (sym (c.loop-rule.invariant.done.others.values c.args.table.0))
    (subst (λ (nodes : List Node). IfSome (row_under nodes c.args.bookmark.now) (IsRecordRow (table_long_values c.args.trees.now.tables c.args.table.0))) (sym (c.loop-rule.invariant.done.others.nodes c.args.table.0)) c.requires.newest)

pub take_keys_of-requires-clause-rows : goal.take_keys_of-requires-clause-rows
take_keys_of-requires-clause-rows c = subst (λ (longs : TableValues). AreRows longs c.args.versions.now) (λ i table. sym (c.loop-rule.invariant.done.others.values table) i) c.requires.rows

one_more : (n : ℕ) → n + 1 ≡ suc n
one_more n = omega arith

none_beyond : (n m : ℕ) → n ≤ m → m ≤ n → n ≡ m
none_beyond n m h g = omega arith

pub loop-rule-preserved : goal.loop-rule-preserved
loop-rule-preserved c = record {
  done = (
      let items : c.as_slice-rule-items.result.now ≡ c.args.schema.now.indexes = c.as_slice-rule-items.ensures in
      let low : c.loop-rule.rule-index < length c.args.schema.now.indexes = subst (λ (rules : List IndexRule). c.loop-rule.rule-index < length rules) items c.loop-rule-test.true in
      let is : c.rule-item.result ≡ get_or c.args.schema.now.indexes c.loop-rule.rule-index c.rule-item.result = c.rule-item.is ∙ ap (λ (rules : List IndexRule). get_or rules c.loop-rule.rule-index c.rule-item.result) items in
      let has : HasKeysOf c.args.schema.now (gone_fields (table_long_values c.args.trees.now.tables c.args.table.0) c.args.gone) c.rule-item.result = all_at (HasKeysOf c.args.schema.now (gone_fields (table_long_values c.args.trees.now.tables c.args.table.0) c.args.gone)) c.args.schema.now.indexes c.loop-rule.rule-index c.rule-item.result c.requires.rules low is in
      subst (λ (n : ℕ). LosesUpTo (option_map (record_of (table_long_values c.args.trees.now.tables c.args.table.0)) (row_under (table_nodes c.args.trees.now.tables c.args.table.0) c.args.bookmark.now)) (held_from (table_long_values c.args.trees.now.tables) c.args.from c.args.versions.now) c.args.schema.now c.args.table.0 c.args.bookmark.now (gone_fields (table_long_values c.args.trees.now.tables c.args.table.0) c.args.gone) n c.args.trees.now.tables c.if-not-rule.trees.tables) (sym (one_more c.loop-rule.rule-index))
      (elim c.if-not-rule.branch [
        | then-not-rule w ↦
            subst (λ (trees : List StoredTable). LosesUpTo (option_map (record_of (table_long_values c.args.trees.now.tables c.args.table.0)) (row_under (table_nodes c.args.trees.now.tables c.args.table.0) c.args.bookmark.now)) (held_from (table_long_values c.args.trees.now.tables) c.args.from c.args.versions.now) c.args.schema.now c.args.table.0 c.args.bookmark.now (gone_fields (table_long_values c.args.trees.now.tables c.args.table.0) c.args.gone) (suc c.loop-rule.rule-index) c.args.trees.now.tables trees) (ap (λ (s : StoredTrees). s.tables) (sym w.trees-is))
            (indexes_lose (option_map (record_of (table_long_values c.args.trees.now.tables c.args.table.0)) (row_under (table_nodes c.args.trees.now.tables c.args.table.0) c.args.bookmark.now)) (held_from (table_long_values c.args.trees.now.tables) c.args.from c.args.versions.now) c.args.schema.now c.args.table.0 c.args.bookmark.now (gone_fields (table_long_values c.args.trees.now.tables c.args.table.0) c.args.gone) c.loop-rule.rule-index c.args.trees.now.tables c.loop-rule.trees.tables w.take_keys_of.new.trees.tables c.rule-item.result c.loop-rule.invariant.done has w.if-not-rule.true low is
            w.take_keys_of.ensures.others w.take_keys_of.ensures.indexes
            (subst (λ (nodes : List Node). LosesKeys (option_map (record_of (table_long_values c.args.trees.now.tables c.args.table.0)) (row_under nodes c.args.bookmark.now)) (held_from (table_long_values c.args.trees.now.tables) c.args.from c.args.versions.now) c.rule-item.result c.args.schema.now c.args.table.0 c.args.bookmark.now (gone_fields (table_long_values c.args.trees.now.tables c.args.table.0) c.args.gone) (index_entries c.loop-rule.trees.tables c.args.table.0 c.rule-item.result.id.0) (index_entries w.take_keys_of.new.trees.tables c.args.table.0 c.rule-item.result.id.0))
            (c.loop-rule.invariant.done.others.nodes c.args.table.0)
            (subst (λ (longs : TableValues). LosesKeys (option_map (record_of (longs c.args.table.0)) (row_under (table_nodes c.loop-rule.trees.tables c.args.table.0) c.args.bookmark.now)) (held_from longs c.args.from c.args.versions.now) c.rule-item.result c.args.schema.now c.args.table.0 c.args.bookmark.now (gone_fields (longs c.args.table.0) c.args.gone) (index_entries c.loop-rule.trees.tables c.args.table.0 c.rule-item.result.id.0) (index_entries w.take_keys_of.new.trees.tables c.args.table.0 c.rule-item.result.id.0))
            (λ i table. c.loop-rule.invariant.done.others.values table i) w.take_keys_of.ensures.keys)))
        | else-not-rule w ↦
            subst (λ (trees : List StoredTable). LosesUpTo (option_map (record_of (table_long_values c.args.trees.now.tables c.args.table.0)) (row_under (table_nodes c.args.trees.now.tables c.args.table.0) c.args.bookmark.now)) (held_from (table_long_values c.args.trees.now.tables) c.args.from c.args.versions.now) c.args.schema.now c.args.table.0 c.args.bookmark.now (gone_fields (table_long_values c.args.trees.now.tables c.args.table.0) c.args.gone) (suc c.loop-rule.rule-index) c.args.trees.now.tables trees) (ap (λ (s : StoredTrees). s.tables) (sym w.trees-is))
            (indexes_pass (option_map (record_of (table_long_values c.args.trees.now.tables c.args.table.0)) (row_under (table_nodes c.args.trees.now.tables c.args.table.0) c.args.bookmark.now)) (held_from (table_long_values c.args.trees.now.tables) c.args.from c.args.versions.now) c.args.schema.now c.args.table.0 c.args.bookmark.now (gone_fields (table_long_values c.args.trees.now.tables c.args.table.0) c.args.gone) c.loop-rule.rule-index c.args.trees.now.tables c.loop-rule.trees.tables c.rule-item.result c.loop-rule.invariant.done has w.if-not-rule.false low is)
      ])
      );
  catalog = elim c.if-not-rule.branch [
    | then-not-rule w ↦ ap (λ (s : StoredTrees). s.catalog) w.trees-is ∙ w.take_keys_of.ensures.catalog ∙ c.loop-rule.invariant.catalog
    | else-not-rule w ↦ ap (λ (s : StoredTrees). s.catalog) w.trees-is ∙ c.loop-rule.invariant.catalog
  ];
}

pub returns-clause-others : goal.returns-clause-others
returns-clause-others c = c.loop-rule.invariant.done.others

pub returns-clause-keys : goal.returns-clause-keys
returns-clause-keys c =
    let end : c.loop-rule.rule-index ≡ length c.args.schema.now.indexes = none_beyond c.loop-rule.rule-index (length c.as_slice-rule-items.result.now) c.loop-rule.auto.rule-index-end c.loop-rule-test.false ∙ ap (λ (rules : List IndexRule). length rules) c.as_slice-rule-items.ensures in
    indexes_end (option_map (record_of (table_long_values c.args.trees.now.tables c.args.table.0)) (row_under (table_nodes c.args.trees.now.tables c.args.table.0) c.args.bookmark.now)) (held_from (table_long_values c.args.trees.now.tables) c.args.from c.args.versions.now) c.args.schema.now c.args.table.0 c.args.bookmark.now (gone_fields (table_long_values c.args.trees.now.tables c.args.table.0) c.args.gone) c.args.trees.now.tables c.loop-rule.trees.tables
    (subst (λ (n : ℕ). LosesUpTo (option_map (record_of (table_long_values c.args.trees.now.tables c.args.table.0)) (row_under (table_nodes c.args.trees.now.tables c.args.table.0) c.args.bookmark.now)) (held_from (table_long_values c.args.trees.now.tables) c.args.from c.args.versions.now) c.args.schema.now c.args.table.0 c.args.bookmark.now (gone_fields (table_long_values c.args.trees.now.tables c.args.table.0) c.args.gone) n c.args.trees.now.tables c.loop-rule.trees.tables) end c.loop-rule.invariant.done)
