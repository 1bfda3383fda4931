-- One tree after the other gives its pages back, and those that are left stay.
use Rattle.std.proofs.Common.{◌≡◌, List, [], ◌∷◌, length, subst, arith}
use Rattle.std.specs.List.{flat_map}
use Rattle.table_trees.specs.Pages.{Rearranges}
use Rattle.table_trees.specs.TableParts.{index_pages, table_pages}
use Rattle.table_trees.specs.declared.table.TableIndex.{TableIndex}
use Rattle.table_trees.proofs.IndexChanges.{last_goes, last_is, long_left, records_go, records_gone}
use Rattle.table_trees.proofs.table.Table.give_back.Goals as goal

pub give_back-requires-2 : goal.give_back-requires-2
give_back-requires-2 c = (long_left (record { nodes = c.trees_stay.ensures.nodes; long_values = c.trees_stay.ensures.long_values; indexes = c.trees_stay.ensures.indexes }) c.args.space.now c.give_back.new.space c.args.self c.requires c.give_back.ensures).0

pub loop-last-init : goal.loop-last-init
loop-last-init c =
    records_go (record { nodes = c.trees_stay.ensures.nodes; long_values = c.trees_stay.ensures.long_values; indexes = c.trees_stay.ensures.indexes }) c.args.space.now c.give_back-2.new.space c.args.self c.requires
    (records_gone (record { nodes = c.trees_stay.ensures.nodes; long_values = c.trees_stay.ensures.long_values; indexes = c.trees_stay.ensures.indexes }) c.args.space.now c.give_back.new.space c.give_back-2.new.space c.args.self c.requires c.give_back.ensures c.give_back-2.ensures)

pub give_back-requires-in-Some : goal.give_back-requires-in-Some
give_back-requires-in-Some c = last_is c.loop-last.space c.loop-last.indexes.items c.pop.new.self.items c.in-Some.last c.in-Some.ensures.items c.loop-last.invariant.0

pub loop-last-preserved : goal.loop-last-preserved
loop-last-preserved c =
    last_goes (record { nodes = c.trees_stay.ensures.nodes; long_values = c.trees_stay.ensures.long_values; indexes = c.trees_stay.ensures.indexes }) c.trees_stay.ensures.own c.args.space.now c.loop-last.space c.give_back-in-Some.new.space
    (table_pages c.args.space.now c.args.self) c.loop-last.indexes.items c.pop.new.self.items c.in-Some.last c.in-Some.ensures.items c.loop-last.invariant c.give_back-in-Some.ensures

none_left : (l : List TableIndex) → length l ≡ 0 → l ≡ []
none_left [] e = λ i. []
none_left (x ∷ l) e = absurd (omega (arith, e))

pub returns : goal.returns
returns c =
    let none : c.loop-last.indexes.items ≡ [] = none_left c.loop-last.indexes.items (omega (arith, c.in_default.ensures.cases, c.loop-last.indexes.ok.0)) in
    subst (λ (l : List TableIndex). Rearranges c.args.space.now c.loop-last.space (table_pages c.args.space.now c.args.self) (flat_map (index_pages c.loop-last.space) l)) none c.loop-last.invariant.2
