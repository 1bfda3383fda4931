use Rattle.std.proofs.Common.{◌≡◌, ℕ, List, Some, None, sym, ap, subst, ◌∙◌, refl}
use Rattle.std.specs.Prelude.{◌<◌, ◌&&◌, ◌||◌, bytes_eq, IfSome, Option}
use Rattle.std.specs.List.{list_any}
use Rattle.cursor_nav.specs.Places.{Pair}
use Rattle.laws_versions.specs.KeptEntries.{has_entry}
use Rattle.index_derive.specs.declared.entries.Place.{Place}
use Rattle.index_derive.specs.declared.entries.Place.TheVariants.{On}
use Rattle.long_value.specs.Values.{Values}
use Rattle.stored_variants.specs.RecordRows.{row_in_node}
use Rattle.table_trees.specs.StoredNodes.{node_after}
use Rattle.table_trees.specs.StoredTables.{table_long_values, index_entries, table_nodes}
use Rattle.variant_trees.specs.NewEntries.{IsTakenRow, is_key_in_node}
use Rattle.variant_trees.proofs.FilledIndexes.{IsFilledTo, among_apart, filled_all, filled_more, filled_none, next_of_start, not_yet, row_found}
use Rattle.variant_trees.proofs.NewEntries.{still_there}
use Rattle.stored_variants.proofs.NodeWalks.{fewer_nodes, nodes_left}
use Rattle.variant_trees.proofs.new_entries.fill.Goals as goal

pub loop-bookmark-init : goal.loop-bookmark-init
loop-bookmark-init c = record { done = filled_none c.args.table.0 c.args.rule.now c.args.schema.now c.args.trees.now.tables c.requires.empty; catalog = refl }

pub keys_in_node-requires-clause-row : goal.keys_in_node-requires-clause-row
keys_in_node-requires-clause-row c =
    let was = c.args.trees.now.tables in let nodes = table_nodes was c.args.table.0 in let place = c.loop-bookmark.place in
    let found : Option Pair = Some (c.in-Some.bookmark.now, c.in-Some.bytes.now) in
    let next : node_after place nodes ≡ found = next_of_start c.args.table.0 c.args.rule.now c.args.schema.now place was c.loop-bookmark.trees.tables found c.loop-bookmark.invariant.done c.in-Some.ensures.node in
    subst (λ (v : Values). IfSome (row_in_node c.in-Some.bytes.now) (IsTakenRow v c.args.rule.now c.args.schema.now)) (sym (c.loop-bookmark.invariant.done.only.changes.values c.args.table.0))
    (subst (λ (row : Option (List ℕ)). IfSome row (IsTakenRow (table_long_values c.args.trees.now.tables c.args.table.0) c.args.rule.now c.args.schema.now)) (row_found place nodes c.in-Some.bookmark.now c.in-Some.bytes.now (c.nodes_are_in_order.ensures.sorted c.args.table.0) next) (c.requires.rows c.in-Some.bookmark.now))

pub put_entries-requires-clause-there : goal.put_entries-requires-clause-there
put_entries-requires-clause-there c = still_there c.args.table.0 c.args.rule.now.id.0 c.args.trees.now.tables c.loop-bookmark.trees.tables c.loop-bookmark.invariant.done.only c.requires.there

pub put_entries-requires-clause-fresh : goal.put_entries-requires-clause-fresh
put_entries-requires-clause-fresh c =
    let was = c.args.trees.now.tables in let nodes = table_nodes was c.args.table.0 in let place = c.loop-bookmark.place in
    let found : Option Pair = Some (c.in-Some.bookmark.now, c.in-Some.bytes.now) in
    let next : node_after place nodes ≡ found = next_of_start c.args.table.0 c.args.rule.now c.args.schema.now place was c.loop-bookmark.trees.tables found c.loop-bookmark.invariant.done c.in-Some.ensures.node in
    λ key.
    ap (λ (own : List ℕ). has_entry key own (index_entries c.loop-bookmark.trees.tables c.args.table.0 c.args.rule.now.id.0)) (c.as_bytes.ensures.value ∙ c.from_slice-bookmark.ensures)
    ∙ not_yet c.args.table.0 c.args.rule.now c.args.schema.now place was c.loop-bookmark.trees.tables c.in-Some.bookmark.now c.in-Some.bytes.now c.loop-bookmark.invariant.done next key

pub put_entries-requires-clause-apart : goal.put_entries-requires-clause-apart
put_entries-requires-clause-apart c =
    let was = c.args.trees.now.tables in let nodes = table_nodes was c.args.table.0 in let place = c.loop-bookmark.place in
    let found : Option Pair = Some (c.in-Some.bookmark.now, c.in-Some.bytes.now) in
    let next : node_after place nodes ≡ found = next_of_start c.args.table.0 c.args.rule.now c.args.schema.now place was c.loop-bookmark.trees.tables found c.loop-bookmark.invariant.done c.in-Some.ensures.node in
    among_apart c.derived_keys_are_apart.ensures c.args.table.0 c.args.rule.now c.args.schema.now place was c.loop-bookmark.trees.tables c.in-Some.bytes.now c.as_slice.result.now c.requires.legal c.requires.rows
    (subst (λ (row : Option (List ℕ)). IfSome row (IsTakenRow (table_long_values c.args.trees.now.tables c.args.table.0) c.args.rule.now c.args.schema.now)) (row_found place nodes c.in-Some.bookmark.now c.in-Some.bytes.now (c.nodes_are_in_order.ensures.sorted c.args.table.0) next) (c.requires.rows c.in-Some.bookmark.now))
    (λ key. ap (λ (keys : List (List ℕ)). list_any (bytes_eq key) keys) c.as_slice.ensures ∙ c.in-Ok.ensures.keys key ∙ ap (λ (v : Values). is_key_in_node v c.args.rule.now c.args.schema.now c.in-Some.bytes.now key) (c.loop-bookmark.invariant.done.only.changes.values c.args.table.0))
    c.loop-bookmark.invariant.done

pub loop-bookmark-smaller : goal.loop-bookmark-smaller
loop-bookmark-smaller c =
    let was = c.args.trees.now.tables in let nodes = table_nodes was c.args.table.0 in let place = c.loop-bookmark.place in
    let found : Option Pair = Some (c.in-Some.bookmark.now, c.in-Some.bytes.now) in
    let next : node_after place nodes ≡ found = next_of_start c.args.table.0 c.args.rule.now c.args.schema.now place was c.loop-bookmark.trees.tables found c.loop-bookmark.invariant.done c.in-Some.ensures.node in
    subst (λ (p : Place). nodes_left p nodes < nodes_left place nodes) (λ i. On (sym (c.copy.ensures ∙ c.from_slice-bookmark.ensures) i) (sym c.from_slice-bookmark.ensures i))
    (fewer_nodes place nodes c.in-Some.bookmark.now c.in-Some.bytes.now next)

pub loop-bookmark-preserved : goal.loop-bookmark-preserved
loop-bookmark-preserved c = record {
  done = (
      let was = c.args.trees.now.tables in let nodes = table_nodes was c.args.table.0 in let place = c.loop-bookmark.place in
      let found : Option Pair = Some (c.in-Some.bookmark.now, c.in-Some.bytes.now) in
      let next : node_after place nodes ≡ found = next_of_start c.args.table.0 c.args.rule.now c.args.schema.now place was c.loop-bookmark.trees.tables found c.loop-bookmark.invariant.done c.in-Some.ensures.node in
      let bookmark_is : c.as_bytes.result.now ≡ c.in-Some.bookmark.now = c.as_bytes.ensures.value ∙ c.from_slice-bookmark.ensures in
      subst (λ (p : Place). IsFilledTo c.args.table.0 c.args.rule.now c.args.schema.now p was c.put_entries.new.trees.tables) (λ i. On (sym (c.copy.ensures ∙ c.from_slice-bookmark.ensures) i) (sym c.from_slice-bookmark.ensures i))
      (filled_more c.args.table.0 c.args.rule.now c.args.schema.now place was c.loop-bookmark.trees.tables c.put_entries.new.trees.tables c.in-Some.bookmark.now c.in-Some.bytes.now c.as_slice.result.now (c.nodes_are_in_order.ensures.sorted c.args.table.0) next
      (λ key. ap (λ (keys : List (List ℕ)). list_any (bytes_eq key) keys) c.as_slice.ensures ∙ c.in-Ok.ensures.keys key ∙ ap (λ (v : Values). is_key_in_node v c.args.rule.now c.args.schema.now c.in-Some.bytes.now key) (c.loop-bookmark.invariant.done.only.changes.values c.args.table.0))
      c.in-Ok-put_entries.ensures.only
      (λ key own.
      c.in-Ok-put_entries.ensures.ok key own
      ∙ ap (λ (bookmark : List ℕ). has_entry key own (index_entries c.loop-bookmark.trees.tables c.args.table.0 c.args.rule.now.id.0) || (bytes_eq own bookmark && list_any (bytes_eq key) c.as_slice.result.now)) bookmark_is)
      c.loop-bookmark.invariant.done)
      );
  catalog = c.put_entries.ensures.catalog ∙ c.loop-bookmark.invariant.catalog;
}

pub returns-clause-ok : goal.returns-clause-ok
returns-clause-ok c =
    filled_all c.args.table.0 c.args.rule.now c.args.schema.now c.loop-bookmark.place c.args.trees.now.tables c.loop-bookmark.trees.tables
    (next_of_start c.args.table.0 c.args.rule.now c.args.schema.now c.loop-bookmark.place c.args.trees.now.tables c.loop-bookmark.trees.tables None c.loop-bookmark.invariant.done c.in_default.ensures.node) c.loop-bookmark.invariant.done
