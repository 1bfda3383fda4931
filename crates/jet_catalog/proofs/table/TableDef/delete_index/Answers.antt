use Rattle.std.proofs.Common.{◌≡◌, Bool, Result, Ok, Err, ap, ◌∙◌, rules, tests}
use Rattle.std.specs.Prelude.{◌==◌, OnOk, not, filter}
use Rattle.std.proofs.lemmas.Fn.{filter_same}
use Rattle.index_derive.specs.declared.rules.IndexRule.{IndexRule}
use Rattle.jet_catalog.proofs.table.TableDef.delete_index.Goals as goal

on_ok : {A B Q P : Type 0} (r : Result A B) → OnOk r Q → (Q → P) → OnOk r P
on_ok (Ok x) ok f = f ok
on_ok (Err e) ok f = tt

pub returns-clause-made : goal.returns-clause-made
returns-clause-made c =
    let stays : IndexRule → Bool = λ made. not (made.id.0 == c.args.id.0) in
    let kept : c.retain.new.self.items ≡ filter stays c.in_ok-indexes.indexes.items =
    filter_same _ stays _ (λ x b q k. search (rules, tests)) _ _ c.retain.ensures.filtered in
    let made : c.retain.new.self.items ≡ filter stays c.args.self.now.indexes = kept ∙ ap (filter stays) c.in_ok-indexes.ensures in
    on_ok c.set_indexes.result c.set_indexes.ensures.made (λ e. e ∙ (λ i. record c.args.self.now { indexes = made i }))
