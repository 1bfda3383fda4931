use Rattle.std.proofs.Common.{◌≡◌, Bool, true, false, sym, ap, ◌∙◌, arith}
use Rattle.std.specs.Prelude.{◌==◌}
use Rattle.std.specs.List.{list_any}
use Rattle.jet_catalog.proofs.IndexLists.{least_free_id-turn}
use Rattle.jet_catalog.proofs.table.TableDef.next_index_id.Goals as goal
use Rattle.jet_catalog.proofs.table.TableDef.next_index_id.Goals.{then-has_index, else-has_index}

pub loop-index-preserved : goal.loop-index-preserved
loop-index-preserved c =
    let indexes = c.indexes-indexes.result.now in
    let i = c.loop-index._index-index in
    let id = c.loop-index.id in
    let taken : c.has_index.result ≡ list_any (λ m. m.id.0 == id) indexes = c.has_index.ensures ∙ ap (list_any (λ m. m.id.0 == id)) (sym c.indexes-indexes.ensures) in
    elim c.if-has_index.branch [
      | then-has_index w ↦ (least_free_id-turn indexes i id c.if-has_index.id c._index-item.result true c.loop-index-test.true (sym w.if-has_index.true ∙ taken) c.loop-index.invariant.0 w.id-is, omega arith)
      | else-has_index w ↦ (least_free_id-turn indexes i id c.if-has_index.id c._index-item.result false c.loop-index-test.true (sym w.if-has_index.false ∙ taken) c.loop-index.invariant.0 w.id-is, omega arith)
    ]
