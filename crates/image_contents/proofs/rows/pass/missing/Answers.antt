use Rattle.std.proofs.Common.{◌-◌, suc, Some, List, ℕ, sym, subst, ◌∙◌, arith}
use Rattle.std.specs.Option.{option_map}
use Rattle.btree_inplace.specs.Trees.{nodes_of}
use Rattle.version_store.specs.Answers.{told_change}
use Rattle.image_contents.proofs.Least.{LeastFrom, from_all, from_behind, lacks_one, least_more, least_none, least_same, of_other}
use Rattle.image_contents.proofs.rows.pass.missing.Goals.{else-change-table-via-then-change-table+else-is_none, else-change-table-via-else-change-table}
use Rattle.image_contents.proofs.rows.pass.missing.Goals as goal

pub loop-place-init : goal.loop-place-init
loop-place-init c = (omega (arith, c.len-place.ensures), least_none c.args.table.0 (nodes_of c.args.space.now c.args.nodes.now) c.args.versions.now c.len-place.result c.len-place.ensures)

pub overflow_sub-place : goal.overflow_sub-place
overflow_sub-place c = omega (arith, c.loop-place-test.true)

pub change_at-change-requires : goal.change_at-change-requires
change_at-change-requires c = omega (arith, c.loop-place-test.true, c.loop-place.invariant.0)

pub get-requires : goal.get-requires
get-requires c = c.requires

pub loop-place-smaller-then-is_none : goal.loop-place-smaller-then-is_none
loop-place-smaller-then-is_none c = omega (arith, c.loop-place-test.true)

pub loop-place-preserved-then-is_none : goal.loop-place-preserved-then-is_none
loop-place-preserved-then-is_none c =
    let table = c.args.table.0 in
    let nodes = nodes_of c.args.space.now c.args.nodes.now in
    let held = c.args.versions.now in
    let place = c.loop-place.place - 1 in
    let change = told_change c.change_at-change.result in
    let least = option_map (λ key. key.now) c.loop-place.least in (
      omega (arith, c.loop-place.invariant.0),
      subst (λ (key : List ℕ). LeastFrom table nodes held place (Some key)) (sym c.lesser.ensures)
          (least_more table nodes held place change least c.change_at-change.ensures (lacks_one table nodes change c.get.result c.is_none.result c.if-change-table.true c.is_none.ensures c.get.ensures ∙ c.if-is_none.true)
          (from_behind table nodes held c.loop-place.place least c.loop-place-test.true c.loop-place.invariant.1)),
    )

pub loop-place-smaller : goal.loop-place-smaller
loop-place-smaller c = omega (arith, c.loop-place-test.true)

pub loop-place-preserved : goal.loop-place-preserved
loop-place-preserved c =
    let table = c.args.table.0 in
    let nodes = nodes_of c.args.space.now c.args.nodes.now in
    let held = c.args.versions.now in
    let place = c.loop-place.place - 1 in
    let change = told_change c.change_at-change.result in
    let least = option_map (λ key. key.now) c.loop-place.least in
    let behind : LeastFrom table nodes held (suc place) least = from_behind table nodes held c.loop-place.place least c.loop-place-test.true c.loop-place.invariant.1 in
    elim c.else-change-table.branch [
      | else-change-table-via-then-change-table+else-is_none w ↦ (
        omega (arith, c.loop-place.invariant.0),
        least_same table nodes held place change least c.change_at-change.ensures (lacks_one table nodes change w.get.result w.is_none.result w.if-change-table.true w.is_none.ensures w.get.ensures ∙ w.if-is_none.false) behind,
      )
      | else-change-table-via-else-change-table w ↦ (omega (arith, c.loop-place.invariant.0), least_same table nodes held place change least c.change_at-change.ensures (of_other table nodes change w.if-change-table.false) behind)
    ]

pub returns : goal.returns
returns c =
    from_all c.args.table.0 (nodes_of c.args.space.now c.args.nodes.now) c.args.versions.now c.loop-place.place (option_map (λ key. key.now) c.loop-place.least) c.loop-place-test.false c.loop-place.invariant.1
