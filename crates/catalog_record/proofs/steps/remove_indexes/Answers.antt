use Rattle.std.proofs.Common.{◌≡◌, ap, ◌∙◌, get_or}
use Rattle.index_derive.specs.declared.rules.IndexRule.{IndexRule}
use Rattle.catalog_grammar.specs.CatalogBytes.{item_key}
use Rattle.catalog_grammar.specs.declared.items.CatalogItem.TheVariants as item
use Rattle.catalog_record.proofs.TableParts.{next_there, one_more_out}
use Rattle.catalog_record.proofs.steps.remove_indexes.Goals as goal

pub remove-requires-clause-there : goal.remove-requires-clause-there
remove-requires-clause-there c =
    let rule = c.rule-item.result in
    let key : c.key_of.result ≡ item_key (item.Index c.args.table 0 (get_or c.args.rules.now c.loop-rule.rule-index rule)) = c.key_of.ensures ∙ ap (λ (r : IndexRule). item_key (item.Index c.args.table 0 r)) c.rule-item.is in
    next_there (item.Index c.args.table 0) c.args.space.now c.loop-rule.space c.args.tree.now c.loop-rule.tree c.args.rules.now c.loop-rule.rule-index rule c.key_of.result key c.loop-rule.invariant (c.requires.there c.loop-rule.rule-index rule c.loop-rule-test.true)

pub loop-rule-preserved : goal.loop-rule-preserved
loop-rule-preserved c =
    let rule = c.rule-item.result in
    let key : c.key_of.result ≡ item_key (item.Index c.args.table 0 (get_or c.args.rules.now c.loop-rule.rule-index rule)) = c.key_of.ensures ∙ ap (λ (r : IndexRule). item_key (item.Index c.args.table 0 r)) c.rule-item.is in
    one_more_out (item.Index c.args.table 0) c.args.space.now c.loop-rule.space c.remove.new.space c.args.tree.now c.loop-rule.tree c.remove.new.self c.args.rules.now c.loop-rule.rule-index rule c.key_of.result c.loop-rule-test.true key c.loop-rule.invariant c.remove.ensures
