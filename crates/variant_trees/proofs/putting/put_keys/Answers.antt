use Rattle.std.proofs.Common.{List, ◌+◌, sym, ap, subst, take, ◌∙◌, arith, refl}
use Rattle.std.specs.List.{AllByRecursion}
use Rattle.table_trees.specs.StoredTrees.{StoredTrees}
use Rattle.table_trees.specs.StoredTables.{StoredTable}
use Rattle.stored_variants.specs.PutRecords.{HasKeysOf, record_keys, rule_keys}
use Rattle.variant_trees.specs.PutStages.{CanTake, HasKeys, MayHaveKeys}
use Rattle.variant_trees.proofs.KeysPut.{front_keys, front_rules, with_rule, without_rule, index_stays, keys_of_records, may_then, more_rules, no_keys, none_yet, rule_at, rule_keys_within, taken_rules, whole}
use Rattle.stored_variants.proofs.FoundRules.{record_yields}
use Rattle.index_derive.specs.declared.rules.IndexRule.{IndexRule}
use Rattle.variant_trees.proofs.putting.put_keys.Goals.{then-not-rule+in-Ok, else-not-rule}
use Rattle.variant_trees.proofs.putting.put_keys.Goals as goal

all_rules : (c : goal.After-put_keys_of-arg-1) → AllByRecursion (CanTake c.args.schema.now c.args.values.now c.args.table.0 c.args.trees.now.tables) c.as_slice-rule-items.result.now
all_rules c = subst (λ (rs : List IndexRule). AllByRecursion (CanTake c.args.schema.now c.args.values.now c.args.table.0 c.args.trees.now.tables) rs) (sym c.as_slice-rule-items.ensures) c.requires.rules

rule_of : (c : goal.After-put_keys_of-arg-1) → CanTake c.args.schema.now c.args.values.now c.args.table.0 c.args.trees.now.tables c.rule-item.result
rule_of c =
    subst (λ (r : IndexRule). CanTake c.args.schema.now c.args.values.now c.args.table.0 c.args.trees.now.tables r) (sym c.rule-item.is)
    (rule_at (CanTake c.args.schema.now c.args.values.now c.args.table.0 c.args.trees.now.tables) c.as_slice-rule-items.result.now c.loop-rule.rule-index c.rule-item.result (all_rules c) c.loop-rule-test.true)

-- src/putting.rt:50:5
pub loop-rule-init : goal.loop-rule-init
loop-rule-init c = record { done = no_keys c.args.table.0 c.args.bookmark.now (record_keys (take 0 c.as_slice-rule-items.result.now) c.args.schema.now c.args.values.now) c.args.trees.now.tables (none_yet c.args.schema.now c.args.values.now c.as_slice-rule-items.result.now); catalog = refl }

-- src/putting.rt:52:19
pub put_keys_of-requires-clause-there : goal.put_keys_of-requires-clause-there
put_keys_of-requires-clause-there c =
    index_stays c.args.table.0 c.rule-item.result.id.0 c.args.trees.now.tables c.loop-rule.trees.tables (c.loop-rule.invariant.done.others.indexes c.args.table.0) ∙ (rule_of c).there c.if-not-rule.true

-- src/putting.rt:52:19
pub put_keys_of-requires-clause-derived : goal.put_keys_of-requires-clause-derived
put_keys_of-requires-clause-derived c =
    let rules = c.as_slice-rule-items.result.now in
    keys_of_records c.args.schema.now c.args.values.now c.rule-item.result c.args.table.0 c.args.bookmark.now (record_keys (take c.loop-rule.rule-index rules) c.args.schema.now c.args.values.now) c.args.trees.now.tables c.loop-rule.trees.tables c.requires.fits
    (record_yields c.args.schema.now c.args.values.now (take c.loop-rule.rule-index rules) c.rule-item.result
    (front_rules (HasKeysOf c.args.schema.now c.args.values.now) rules c.loop-rule.rule-index (taken_rules c.args.schema.now c.args.values.now c.args.table.0 c.args.trees.now.tables rules (all_rules c)))
    (rule_of c).keys.found) c.loop-rule.invariant.done ((rule_of c).derived c.if-not-rule.true)

-- src/putting.rt:54:31
pub returns-in-Err-clause-err : goal.returns-in-Err-clause-err
returns-in-Err-clause-err c =
    let rules = c.as_slice-rule-items.result.now in
    subst (λ (rs : List IndexRule). MayHaveKeys c.args.table.0 c.args.bookmark.now (record_keys rs c.args.schema.now c.args.values.now) c.args.trees.now.tables c.put_keys_of.new.trees.tables) c.as_slice-rule-items.ensures
    (may_then c.args.table.0 c.args.bookmark.now (record_keys (take c.loop-rule.rule-index rules) c.args.schema.now c.args.values.now) (rule_keys c.args.schema.now c.args.values.now c.rule-item.result) (record_keys rules c.args.schema.now c.args.values.now)
    c.args.trees.now.tables c.loop-rule.trees.tables c.put_keys_of.new.trees.tables (front_keys rules c.args.schema.now c.args.values.now c.loop-rule.rule-index)
    (rule_keys_within rules c.args.schema.now c.args.values.now c.loop-rule.rule-index c.rule-item.result c.loop-rule-test.true c.rule-item.is c.if-not-rule.true)
    c.loop-rule.invariant.done c.in-Err.ensures.err)

-- src/putting.rt:50:5
pub loop-rule-preserved : goal.loop-rule-preserved
loop-rule-preserved c = record {
  done = (
      let rules = c.as_slice-rule-items.result.now in
      let more = more_rules rules c.args.schema.now c.args.values.now c.loop-rule.rule-index c.rule-item.result c.loop-rule-test.true c.rule-item.is in
      let P : List StoredTable → Type 0 = λ trees. HasKeys c.args.table.0 c.args.bookmark.now (record_keys (take (c.loop-rule.rule-index + 1) rules) c.args.schema.now c.args.values.now) c.args.trees.now.tables trees in
      elim c.if-not-rule.branch [
        | then-not-rule+in-Ok w ↦ subst P (ap (λ (s : StoredTrees). s.tables) (sym w.trees-is))
            (with_rule c.args.table.0 c.args.bookmark.now (record_keys (take c.loop-rule.rule-index rules) c.args.schema.now c.args.values.now) (rule_keys c.args.schema.now c.args.values.now c.rule-item.result) (record_keys (take (c.loop-rule.rule-index + 1) rules) c.args.schema.now c.args.values.now)
            c.args.trees.now.tables c.loop-rule.trees.tables w.put_keys_of.new.trees.tables c.rule-item.result.flags.primary w.if-not-rule.true more c.loop-rule.invariant.done w.in-Ok.ensures.ok)
        | else-not-rule w ↦ subst P (ap (λ (s : StoredTrees). s.tables) (sym w.trees-is))
            (without_rule c.args.table.0 c.args.bookmark.now (record_keys (take c.loop-rule.rule-index rules) c.args.schema.now c.args.values.now) (rule_keys c.args.schema.now c.args.values.now c.rule-item.result) (record_keys (take (c.loop-rule.rule-index + 1) rules) c.args.schema.now c.args.values.now)
            c.args.trees.now.tables c.loop-rule.trees.tables c.rule-item.result.flags.primary w.if-not-rule.false more c.loop-rule.invariant.done)
      ]
      );
  catalog = elim c.if-not-rule.branch [
    | then-not-rule+in-Ok w ↦ ap (λ (s : StoredTrees). s.catalog) w.trees-is ∙ w.put_keys_of.ensures.catalog ∙ c.loop-rule.invariant.catalog
    | else-not-rule w ↦ ap (λ (s : StoredTrees). s.catalog) w.trees-is ∙ c.loop-rule.invariant.catalog
  ];
}

-- src/putting.rt:36:1
pub returns-clause-ok : goal.returns-clause-ok
returns-clause-ok c =
    let rules = c.as_slice-rule-items.result.now in
    subst (λ (rs : List IndexRule). HasKeys c.args.table.0 c.args.bookmark.now (record_keys rs c.args.schema.now c.args.values.now) c.args.trees.now.tables c.loop-rule.trees.tables)
    (whole rules c.loop-rule.rule-index (omega (arith, c.loop-rule-test.false)) ∙ c.as_slice-rule-items.ensures) c.loop-rule.invariant.done
