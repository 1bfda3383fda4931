use Rattle.std.proofs.Common.{◌≡◌, ℕ, List, ◌+◌, sym, ap, subst, take, Ok, arith, ◌∙◌, refl}
use Rattle.table_trees.specs.StoredTables.{StoredTable, index_entries}
use Rattle.stored_variants.specs.PutRecords.{rule_keys}
use Rattle.variant_trees.specs.PutStages.{MayHaveKeys, one_key, some_keys}
use Rattle.index_derive.specs.Entries.{entries}
use Rattle.variant_trees.proofs.KeysPut.{apart_from_all, derived_keys, derived_within, front_key, own_key, whole, index_stays, key_at, keys_of_records, keys_then, may_have, more_keys, no_key_yet, no_keys, same_keys}
use Rattle.variant_trees.proofs.putting.put_keys_of.Goals as goal

-- src/putting.rt:84:5
pub loop-key-init : goal.loop-key-init
loop-key-init c = record { done = no_keys c.args.table.0 c.args.bookmark.now (some_keys c.args.rule.now.id.0 (take 0 c.as_slice-key-items.result.now)) c.args.trees.now.tables (no_key_yet c.args.rule.now.id.0 c.as_slice-key-items.result.now); catalog = refl }

-- src/putting.rt:85:15
pub put_key-requires-clause-there : goal.put_key-requires-clause-there
put_key-requires-clause-there c =
    index_stays c.args.table.0 c.args.rule.now.id.0 c.args.trees.now.tables c.loop-key.trees.tables (c.loop-key.invariant.done.others.indexes c.args.table.0) ∙ c.requires.there

-- src/putting.rt:85:15
pub put_key-requires-clause-apart : goal.put_key-requires-clause-apart
put_key-requires-clause-apart c =
    let keys = c.as_slice-key-items.result.now in
    let derived : entries c.args.rule.now c.args.schema.now c.args.values.now ≡ Ok keys = c.in-Ok.ensures ∙ ap (λ (keys : List (List ℕ)). Ok keys) (sym c.as_slice-key-items.ensures) in
    apart_from_all c.derived_keys_are_apart.ensures c.args.rule.now c.args.schema.now c.key-item.result (index_entries c.loop-key.trees.tables c.args.table.0 c.args.rule.now.id.0) c.requires.rule.legal
    (c.args.values.now, c.requires.fits, own_key c.args.schema.now c.args.values.now c.args.rule.now keys derived c.key-item.result (key_at keys c.loop-key.key-index c.key-item.result c.loop-key-test.true c.key-item.is))
    (keys_of_records c.args.schema.now c.args.values.now c.args.rule.now c.args.table.0 c.args.bookmark.now (some_keys c.args.rule.now.id.0 (take c.loop-key.key-index keys)) c.args.trees.now.tables c.loop-key.trees.tables c.requires.fits
    (front_key c.args.schema.now c.args.values.now c.args.rule.now keys derived c.loop-key.key-index) c.loop-key.invariant.done c.requires.derived)

-- src/putting.rt:87:27
pub returns-in-Err-put_key-clause-err : goal.returns-in-Err-put_key-clause-err
returns-in-Err-put_key-clause-err c =
    let keys = c.as_slice-key-items.result.now in
    let derived : entries c.args.rule.now c.args.schema.now c.args.values.now ≡ Ok keys = c.in-Ok.ensures ∙ ap (λ (keys : List (List ℕ)). Ok keys) (sym c.as_slice-key-items.ensures) in
    subst (λ (trees : List StoredTable). MayHaveKeys c.args.table.0 c.args.bookmark.now (rule_keys c.args.schema.now c.args.values.now c.args.rule.now) c.args.trees.now.tables trees) (sym c.in-Err-put_key.ensures.err)
    (may_have c.args.table.0 c.args.bookmark.now (some_keys c.args.rule.now.id.0 (take c.loop-key.key-index keys)) (rule_keys c.args.schema.now c.args.values.now c.args.rule.now) c.args.trees.now.tables c.loop-key.trees.tables
    (derived_within c.args.schema.now c.args.values.now c.args.rule.now keys derived c.loop-key.key-index) c.loop-key.invariant.done)

-- src/putting.rt:84:5
pub loop-key-preserved : goal.loop-key-preserved
loop-key-preserved c = record {
  done = (
      keys_then c.args.table.0 c.args.bookmark.now (some_keys c.args.rule.now.id.0 (take c.loop-key.key-index c.as_slice-key-items.result.now)) (one_key c.args.rule.now.id.0 c.key-item.result)
      (some_keys c.args.rule.now.id.0 (take (c.loop-key.key-index + 1) c.as_slice-key-items.result.now)) c.args.trees.now.tables c.loop-key.trees.tables c.put_key.new.trees.tables
      (more_keys c.args.rule.now.id.0 c.as_slice-key-items.result.now c.loop-key.key-index c.key-item.result c.loop-key-test.true c.key-item.is) c.loop-key.invariant.done c.in-Ok-put_key.ensures.ok
      );
  catalog = c.put_key.ensures.catalog ∙ c.loop-key.invariant.catalog;
}

-- src/putting.rt:62:1
pub returns-clause-ok : goal.returns-clause-ok
returns-clause-ok c =
    let keys = c.as_slice-key-items.result.now in
    let derived : entries c.args.rule.now c.args.schema.now c.args.values.now ≡ Ok keys = c.in-Ok.ensures ∙ ap (λ (keys : List (List ℕ)). Ok keys) (sym c.as_slice-key-items.ensures) in
    same_keys c.args.table.0 c.args.bookmark.now (some_keys c.args.rule.now.id.0 (take c.loop-key.key-index keys)) (rule_keys c.args.schema.now c.args.values.now c.args.rule.now) c.args.trees.now.tables c.loop-key.trees.tables
    (λ i k. derived_keys c.args.schema.now c.args.values.now c.args.rule.now keys derived i k ∙ ap (λ (front : List (List ℕ)). some_keys c.args.rule.now.id.0 front i k) (sym (whole keys c.loop-key.key-index (omega (arith, c.loop-key-test.false)))))
    c.loop-key.invariant.done
