use Rattle.stored_variants.specs.PutRecords.{record_keys}
use Rattle.variant_trees.specs.PutStages.{HasKeys}
use Rattle.std.proofs.Common.{◌≡◌, take}
use Rattle.variant_trees.proofs.putting.put_keys.Given as goal

abbrev pub invariant-loop-rule : goal.invariant-loop-rule
invariant-loop-rule l = record {
  done : HasKeys l.table.0 l.bookmark (record_keys (take l.rule-index l.rule-items) l.schema l.values) l.fn.trees.tables l.trees.tables;
  catalog : l.trees.catalog ≡ l.fn.trees.catalog;
}
