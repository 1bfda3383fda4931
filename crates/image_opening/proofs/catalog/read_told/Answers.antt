use Rattle.std.proofs.Common.{◌≡◌, List, Some, sym, subst}
use Rattle.std.specs.Prelude.{IfErr, IfOk}
use Rattle.btree_inplace.specs.Shape.{entries}
use Rattle.page_image.specs.Page.{HasRisingKeys, Node}
use Rattle.image_findings.specs.CatalogFindings.{catalog_told}
use Rattle.image_opening.specs.OpenedCatalogs.{IsFirstFinding, told_finding}
use Rattle.image_opening.specs.ReadNodes.{ReadsNodes, TellsNoItem}
use Rattle.image_opening.proofs.NodesRead.{all_fit, all_items}
use Rattle.image_opening.proofs.ManyTables.{unread_found}
use Rattle.image_opening.proofs.catalog.read_told.Goals as goal

pub told_by_items-requires-clause-rising : goal.told_by_items-requires-clause-rising
told_by_items-requires-clause-rising c =
    let nodes = entries c.args.depth c.args.space.now c.args.root in
    let read = subst (ReadsNodes nodes c.new-items.result.items) (sym c.as_slice.ensures.value) c.in-Ok.ensures.ok in
    subst HasRisingKeys (all_items nodes c.new-items.result.items c.as_slice.result.now c.new-items.ensures.items read) (c.nodes_of_a_tree_rise.ensures.subtree c.args.depth c.args.space.now c.args.root c.requires)

pub told_by_items-requires-clause-fit : goal.told_by_items-requires-clause-fit
told_by_items-requires-clause-fit c =
    let nodes = entries c.args.depth c.args.space.now c.args.root in
    let read = subst (ReadsNodes nodes c.new-items.result.items) (sym c.as_slice.ensures.value) c.in-Ok.ensures.ok in
    all_fit nodes c.new-items.result.items c.as_slice.result.now c.new-items.ensures.items read

pub returns-in-Ok-clause-told : goal.returns-in-Ok-clause-told
returns-in-Ok-clause-told c =
    let nodes = entries c.args.depth c.args.space.now c.args.root in
    let read = subst (ReadsNodes nodes c.new-items.result.items) (sym c.as_slice.ensures.value) c.in-Ok.ensures.ok in
    subst (λ (l : List Node). IfOk c.told_by_items.result (λ told. catalog_told l ≡ Some told)) (sym (all_items nodes c.new-items.result.items c.as_slice.result.now c.new-items.ensures.items read)) c.told_by_items.ensures.told

pub returns-in-Ok-clause-fault : goal.returns-in-Ok-clause-fault
returns-in-Ok-clause-fault c =
    let nodes = entries c.args.depth c.args.space.now c.args.root in
    let read = subst (ReadsNodes nodes c.new-items.result.items) (sym c.as_slice.ensures.value) c.in-Ok.ensures.ok in
    subst (λ (l : List Node). IfErr c.told_by_items.result (IsFirstFinding (told_finding (catalog_told l)))) (sym (all_items nodes c.new-items.result.items c.as_slice.result.now c.new-items.ensures.items read)) c.told_by_items.ensures.fault

pub returns-in-Err-BadNode-clause-fault : goal.returns-in-Err-BadNode-clause-fault
returns-in-Err-BadNode-clause-fault c = unread_found (entries c.args.depth c.args.space.now c.args.root) (subst (λ why. TellsNoItem (entries c.args.depth c.args.space.now c.args.root) why) c.in-Err-BadNode.field-0-is c.in-Err-BadNode.ensures.err)
