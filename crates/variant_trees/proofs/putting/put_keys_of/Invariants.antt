use Rattle.variant_trees.specs.PutStages.{HasKeys, some_keys}
use Rattle.std.proofs.Common.{◌≡◌, take}
use Rattle.variant_trees.proofs.putting.put_keys_of.Given as goal

abbrev pub invariant-loop-key : goal.invariant-loop-key
invariant-loop-key l = record {
  done : HasKeys l.table.0 l.bookmark (some_keys l.rule.id.0 (take l.key-index l.key-items)) l.fn.trees.tables l.trees.tables;
  catalog : l.trees.catalog ≡ l.fn.trees.catalog;
}
