-- Behind the new node each node stands one place further on.
use Rattle.std.proofs.Common.{◌≡◌, ◌+◌, ℕ, List, length, get_or, ap, sym, ◌∙◌, arith}
use Rattle.std.proofs.lemmas.List.Sums.{get_or-le-sum_by}
use Rattle.page_image.specs.Page.{no_node, node_at, node_size}
use Rattle.btree_node.specs.Cut.{sizes_with}
use Rattle.btree_node.proofs.Sizes.{size_above, size_below}
use Rattle.btree_node.proofs.size_with.Goals as goal
use Rattle.btree_node.proofs.size_with.Goals.{then-m-i-2, else-m-i-2}

pub overflow_add-result-2 : goal.overflow_add-result-2
overflow_add-result-2 c = elim c.if-m-i-2.branch [
  | then-m-i-2 w ↦ omega (arith, c.len.ensures.page.size, ap (λ (x : List ℕ). length x) c.key.ensures, c.extent.ensures, get_or-le-sum_by node_size c.args.page.now.nodes c.if-m-i-2.at no_node (omega (arith, w.at-is, w.if-m-i-2.true)))
  | else-m-i-2 w ↦ omega (arith, c.len.ensures.page.size, ap (λ (x : List ℕ). length x) c.key.ensures, c.extent.ensures, get_or-le-sum_by node_size c.args.page.now.nodes c.if-m-i-2.at no_node (omega (arith, w.at-is, w.if-m-i-2.false, c.if-m-i.false)))
]

pub returns : goal.returns
returns c =
    let size : 6 + length c.key.result.now + c.extent.result ≡ node_size (node_at c.args.page.now.nodes c.if-m-i-2.at) = omega (arith, ap (λ (x : List ℕ). length x) c.key.ensures, c.extent.ensures) in
    elim c.if-m-i-2.branch [
      | then-m-i-2 w ↦ size ∙ ap (λ k. node_size (node_at c.args.page.now.nodes k)) w.at-is ∙ sym (size_below c.args.page.now.nodes c.args.i c.args.need c.args.m c.requires.place w.if-m-i-2.true)
      | else-m-i-2 w ↦
          let further : c.args.m ≡ c.if-m-i-2.at + 1 = omega (arith, w.at-is, w.if-m-i-2.false, c.if-m-i.false) in
          size ∙ sym (ap (λ k. get_or (sizes_with c.args.page.now.nodes c.args.i c.args.need) k 0) further ∙ size_above c.args.page.now.nodes c.args.i c.args.need c.if-m-i-2.at c.requires.place (omega (arith, w.if-m-i-2.false, c.if-m-i.false)) (omega arith))
    ]
