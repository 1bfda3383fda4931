use Rattle.std.proofs.Common.{ℕ, ap, sym, ◌∙◌}
use Rattle.image_contents.specs.NodesLeft.{node_in}
use Rattle.image_contents.specs.ReadVariants.{contents_of}
use Rattle.image_live.specs.KeySpans.{begin_behind}
use Rattle.image_live.proofs.Pushed.{behind_some, if_ok, row_of_node, some_bytes}
use Rattle.version_store.specs.HeldChanges.{is_standing_rewrite, last_place}
use Rattle.image_live.proofs.keys.derived.push_node.Goals as goal
use Rattle.image_live.proofs.keys.derived.push_node.Goals.{in-Some, in-None}

pub returns : goal.returns
returns c =
    let v = c.args.variants.now in
    if_ok _ _ _
    (λ put.
    row_of_node c.args.rule.now (contents_of v) v.versions.now (node_in c.args.node) c.match-newest_rewrite.begins c.len-ends.result c.newest_rewrite.result c.push_row.new.spans.items c.args.spans.now.items
    (some_bytes c.args.node.bytes.now (sym c.is_empty.ensures ∙ c.if-is_empty.false))
    (c.newest_rewrite.ensures.place ∙ ap (λ (n : ℕ). last_place (is_standing_rewrite n c.args.node.key.now) v.versions.now) c.id.ensures)
    (elim c.match-newest_rewrite.branch [
      | in-Some w ↦ w.begins-is ∙ behind_some w.in-Some.newest ∙ sym (ap begin_behind w.in-Some.is)
      | in-None w ↦ w.begins-is ∙ sym (ap begin_behind w.in-None.is)
    ]) c.len-ends.ensures put)
    c.push_row.ensures
