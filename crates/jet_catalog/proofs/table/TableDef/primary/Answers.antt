use Rattle.std.proofs.Common.{sym, ◌∙◌, rules, tests}
use Rattle.std.proofs.lemmas.Iterator.{YieldsList-from_slice}
use Rattle.std.proofs.lemmas.Iterator.Search.{find_from_yields_List}
use Rattle.jet_catalog.proofs.IndexLists.{find-primary_first}
use Rattle.jet_catalog.proofs.table.TableDef.primary.Goals as goal

pub returns : goal.returns
returns c =
    find_from_yields_List (λ r. r.flags.primary) _ _ _ c.find.ensures.ran (YieldsList-from_slice c.args.self.now.indexes cc) (λ x b q k. search (rules, tests))
    ∙ sym (find-primary_first c.args.self.now.indexes)
