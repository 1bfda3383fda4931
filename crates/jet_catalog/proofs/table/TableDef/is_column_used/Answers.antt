use Rattle.std.proofs.Common.{sym, ◌∙◌, rules, tests}
use Rattle.std.specs.Prelude.{◌==◌}
use Rattle.std.specs.List.{list_any}
use Rattle.std.proofs.lemmas.Iterator.{YieldsList-from_slice}
use Rattle.std.proofs.lemmas.Iterator.Search.{any_from_yields_List}
use Rattle.database_state.specs.SchemaChanges.{rule_columns}
use Rattle.jet_catalog.proofs.IndexLists.{list_any-primary_first}
use Rattle.jet_catalog.proofs.table.TableDef.is_column_used.Goals as goal

pub returns : goal.returns
returns c =
    any_from_yields_List (λ rule. list_any (λ id. id == c.args.column.0) (rule_columns rule)) _ _ _ c.any.ensures.ran (YieldsList-from_slice c.args.self.now.indexes cc) (λ x b q k. search (rules, tests))
    ∙ sym (list_any-primary_first (λ rule. list_any (λ id. id == c.args.column.0) (rule_columns rule)) c.args.self.now.indexes)
