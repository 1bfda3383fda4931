use Rattle.std.proofs.Common.{◌≡◌, ℕ, List, refl, ◌∙◌, rules, tests}
use Rattle.std.specs.List.{list_any}
use Rattle.std.proofs.lemmas.Iterator.{YieldsList-from_slice}
use Rattle.std.proofs.lemmas.Iterator.Search.{any_from_yields_List}
use Rattle.index_derive.specs.Entries.{is_escrow_column}
use Rattle.database_state.specs.Table.{Table, schema_of}
use Rattle.database_state.specs.SchemaChanges.{rule_columns}
use Rattle.jet_catalog.specs.Decisions.{is_sum}
use Rattle.jet_catalog.proofs.IndexLists.{passes_in_key, passes_in_conditions}
use Rattle.jet_catalog.proofs.table.TableDef.has_escrow_column_of.Goals as goal

sums : (table : Table) (columns : List ℕ) → list_any (is_sum table) columns ≡ list_any (is_escrow_column (schema_of table)) columns
unfolding is_sum
sums table columns = refl

pub returns-then-any : goal.returns-then-any
returns-then-any c =
    passes_in_key (is_sum c.args.self.now) c.args.rule.now _
    (any_from_yields_List (λ s. is_sum c.args.self.now s.column.0) _ _ _ c.any.ensures.ran (YieldsList-from_slice c.args.rule.now.segments cc) (λ x b q k. search (rules, tests)))
    c.if-any.true
    ∙ sums c.args.self.now (rule_columns c.args.rule.now)

pub returns-else-any : goal.returns-else-any
returns-else-any c =
    passes_in_conditions (is_sum c.args.self.now) c.args.rule.now _ _
    (any_from_yields_List (λ s. is_sum c.args.self.now s.column.0) _ _ _ c.any.ensures.ran (YieldsList-from_slice c.args.rule.now.segments cc) (λ x b q k. search (rules, tests)))
    c.if-any.false
    (any_from_yields_List (λ k. is_sum c.args.self.now k.column.0) _ _ _ c.any-else-any.ensures.ran (YieldsList-from_slice c.args.rule.now.conditions cc) (λ x b q k. search (rules, tests)))
    ∙ sums c.args.self.now (rule_columns c.args.rule.now)
