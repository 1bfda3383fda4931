-- Each opened table comes in its turn, and is the one at the place of those that are made.
use Rattle.std.proofs.Common.{◌≡◌, ◌<◌, ℕ, List, [], ◌∷◌, ◌++◌, length, get_or, sym, ap, subst, ◌∙◌, arith, rules}
use Rattle.std.proofs.lemmas.Iterator.Consumers.{YieldsList-turn}
use Rattle.std.proofs.lemmas.Iterator.Adapters.{YieldsList-from_vec}
use Rattle.table_trees.specs.declared.table.Table.{Table as Trees}
use Rattle.engine_image.specs.MadeTables.{AreMadeTables, HasItsTrees}
use Rattle.engine_image.proofs.InTurn.{made_length, made_next, trees_at}
use Rattle.engine_image.proofs.TablesShown.{same_length}
use Rattle.engine_image.proofs.tables.made_tables.Goals as goal
use Rattle.engine_image.proofs.tables.made_tables.Goals.{In-Some}

turn : (c : goal.In-Some) → (length c.loop-trees.yielded < length c.args.opened.items) × (c.in-Some.trees ≡ get_or c.args.opened.items (length c.loop-trees.yielded) c.in-Some.trees)
turn c =
    YieldsList-turn (YieldsList-from_vec {s = c.into_iter-trees-iterator.result} c.args.opened.items (search rules) (search rules))
    c.loop-trees.yielded c.loop-trees.trees-iterator c.loop-trees.yielded_by c.next.result c.next.new.self c.in-Some.trees c.in-Some.is c.next.ensures.steps

pub table_at-table-requires : goal.table_at-table-requires
table_at-table-requires c =
    let this = turn (goal.at.table_at-table-requires c).In-Some in
    let all = same_length HasItsTrees c.args.tables.now c.args.opened.items c.requires in
    let place = c.len.ensures ∙ c.loop-trees.made.ok.0 ∙ made_length c.loop-trees.yielded c.loop-trees.made.items c.args.tables.now c.loop-trees.invariant in
    omega (arith, this.0, all, place)

pub add_table-requires : goal.add_table-requires
add_table-requires c =
    let this = turn (goal.at.add_table-requires c).In-Some in
    let place = c.len.ensures ∙ c.loop-trees.made.ok.0 ∙ made_length c.loop-trees.yielded c.loop-trees.made.items c.args.tables.now c.loop-trees.invariant in
    trees_at c.args.tables.now c.args.opened.items (length c.loop-trees.yielded) c.table_at-table.result.now c.in-Some.trees c.requires this.0 this.1
    (c.table_at-table.ensures ∙ ap (λ (n : ℕ). get_or c.args.tables.now n c.table_at-table.result.now) place)

pub loop-trees-preserved : goal.loop-trees-preserved
loop-trees-preserved c =
    let this = turn (goal.at.loop-trees-preserved c).In-Some in
    let all = same_length HasItsTrees c.args.tables.now c.args.opened.items c.requires in
    let place = c.len.ensures ∙ c.loop-trees.made.ok.0 ∙ made_length c.loop-trees.yielded c.loop-trees.made.items c.args.tables.now c.loop-trees.invariant in
    let put = c.in-Ok.ensures in
    subst (λ (l : List Trees). AreMadeTables (c.loop-trees.yielded ++ c.in-Some.trees ∷ []) l c.args.tables.now) (sym put.2)
    (made_next c.loop-trees.yielded c.loop-trees.made.items c.args.tables.now c.in-Some.trees put.0 c.table_at-table.result.now c.loop-trees.invariant (omega (arith, this.0, all))
    (c.table_at-table.ensures ∙ ap (λ (n : ℕ). get_or c.args.tables.now n c.table_at-table.result.now) place) put.1)
