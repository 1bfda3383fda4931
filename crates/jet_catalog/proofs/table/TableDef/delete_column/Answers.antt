use Rattle.std.proofs.Common.{◌≡◌, Bool, sym, ap, ◌∙◌, rules, tests}
use Rattle.std.specs.Prelude.{◌==◌, not, filter}
use Rattle.std.proofs.lemmas.Fn.{filter_same}
use Rattle.column_set.specs.declared.columns.Column.{Column}
use Rattle.database_state.specs.Table.{Table}
use Rattle.jet_catalog.proofs.table.TableDef.delete_column.Goals as goal

pub returns-clause-made : goal.returns-clause-made
returns-clause-made c =
    let stays : Column → Bool = λ made. not (made.id.0 == c.args.id.0) in
    let kept : c.retain.new.self.items ≡ filter stays c.in_ok-columns.columns.items =
    filter_same _ stays _ (λ x b q k. search (rules, tests)) _ _ c.retain.ensures.filtered in
    let copied : c.in_ok-columns.columns.items ≡ c.self.inside.schema.columns =
    c.in_ok-columns.ensures.items_if_clones_equal (λ x y e. e) ∙ c.columns.ensures ∙ ap (λ (t : Table). t.columns) (sym c.self.view_is) in
    let made : c.in_ok-shared.shared ≡ filter stays c.self.inside.schema.columns = c.in_ok-shared.ensures ∙ kept ∙ ap (filter stays) copied in
    rw (← c.self.view_is, made)
