-- The most even cut, but where it is the new node alone.
use Rattle.std.proofs.Common.{◌≡◌, ◌+◌, ◌-◌, ◌<◌, ◌≤◌, ℕ, List, max, sym, subst, arith}
use Rattle.std.specs.Prelude.{All}
use Rattle.page_image.specs.Page.{Node, node_size, page_size}
use Rattle.btree_node.specs.Cut.{IsCut, sizes_with}
use Rattle.btree_node.specs.Parts.{larger_part}
use Rattle.btree_node.proofs.Keeping.{cut_rising, first_cut, first_even, room_before, room_behind, two_nodes}
use Rattle.btree_node.proofs.split_at.Goals as goal

-- ---- a node behind all others

rising : (c : goal.Then-i-count) → IsCut c.args.page.now.nodes c.args.i c.args.need (c.len-count.result - 1)
rising c =
    let nodes = c.args.page.now.nodes in
    let two = two_nodes nodes c.args.need c.requires.full c.requires.small c.requires.all_small in
    cut_rising nodes c.args.i c.args.need (c.len-count.result - 1) (omega (arith, two, c.len-count.ensures.value, c.if-i-count.true)) (omega (arith, c.len-count.ensures.value, c.if-i-count.true)) two c.requires.small c.requires.all_small c.len-count.ensures.page.size

pub returns-then-i-count-clause-cut : goal.returns-then-i-count-clause-cut
returns-then-i-count-clause-cut c = rising c

pub returns-then-i-count-clause-nodes : goal.returns-then-i-count-clause-nodes
returns-then-i-count-clause-nodes c =
    let cut = rising c in
    record {
      first = cut.first;
      first_other = λ low. absurd (omega (arith, low, c.if-i-count.true));
      last = cut.last;
      last_other = λ _. omega (arith, cut.first, c.len-count.ensures.value);
    }

pub returns-then-i-count-clause-before : goal.returns-then-i-count-clause-before
returns-then-i-count-clause-before c = λ low. absurd (omega (arith, low, c.if-i-count.true))

pub returns-then-i-count-clause-behind : goal.returns-then-i-count-clause-behind
returns-then-i-count-clause-behind c = λ high. room_behind c.args.page.now.nodes c.args.i c.args.need (c.len-count.result - 1) c.requires.place (rising c) high

-- ---- a node before all others

first_of_all : (nodes : List Node) (i need even : ℕ) → i ≡ 0 → 4096 < page_size nodes + need → need ≤ 2032 → All (λ n. node_size n ≤ 2032) nodes → IsCut nodes i need even → IsCut nodes i need (max even 2)
first_of_all nodes i need even first full small all cut = first_cut nodes i need even first (two_nodes nodes need full small all) small all cut

pub returns-then-i-eq0-clause-cut : goal.returns-then-i-eq0-clause-cut
returns-then-i-eq0-clause-cut c = subst (IsCut c.args.page.now.nodes c.args.i c.args.need) (sym c.max.ensures) (first_of_all c.args.page.now.nodes c.args.i c.args.need c.even_cut-cut.result c.if-i-eq0.true c.requires.full c.requires.small c.requires.all_small c.even_cut-cut.ensures.cut)

pub returns-then-i-eq0-clause-nodes : goal.returns-then-i-eq0-clause-nodes
returns-then-i-eq0-clause-nodes c =
    let cut = first_of_all c.args.page.now.nodes c.args.i c.args.need c.even_cut-cut.result c.if-i-eq0.true c.requires.full c.requires.small c.requires.all_small c.even_cut-cut.ensures.cut in
    let is = c.max.ensures in
    record {
      first = omega (arith, is);
      first_other = λ _. omega (arith, is);
      last = omega (arith, is, cut.last);
      last_other = λ high. absurd (omega (arith, high, is, c.if-i-eq0.true));
    }

pub returns-then-i-eq0-clause-before : goal.returns-then-i-eq0-clause-before
returns-then-i-eq0-clause-before c =
    room_before c.args.page.now.nodes c.args.i c.args.need c.max.result c.requires.place (subst (IsCut c.args.page.now.nodes c.args.i c.args.need) (sym c.max.ensures) (first_of_all c.args.page.now.nodes c.args.i c.args.need c.even_cut-cut.result c.if-i-eq0.true c.requires.full c.requires.small c.requires.all_small c.even_cut-cut.ensures.cut))

pub returns-then-i-eq0-clause-behind : goal.returns-then-i-eq0-clause-behind
returns-then-i-eq0-clause-behind c = λ high. absurd (omega (arith, high, c.max.ensures, c.if-i-eq0.true))

pub returns-then-i-eq0-clause-even : goal.returns-then-i-eq0-clause-even
returns-then-i-eq0-clause-even c = λ within k parts.
    subst (λ r. larger_part (sizes_with c.args.page.now.nodes c.args.i c.args.need) r ≤ larger_part (sizes_with c.args.page.now.nodes c.args.i c.args.need) k) (sym c.max.ensures)
    (first_even c.args.page.now.nodes c.args.i c.args.need c.even_cut-cut.result c.if-i-eq0.true (omega arith) c.even_cut-cut.ensures.cut.first c.even_cut-cut.ensures.even k parts)

-- ---- any other

pub returns-clause-nodes : goal.returns-clause-nodes
returns-clause-nodes c =
    let cut = c.even_cut-cut.ensures.cut in
    record {
      first = cut.first;
      first_other = λ low. omega (arith, low, c.if-i-eq0.false);
      last = cut.last;
      last_other = λ high. omega (arith, high, c.requires.place, c.if-i-count.false, c.len-count.ensures.value);
    }

pub returns-clause-before : goal.returns-clause-before
returns-clause-before c = room_before c.args.page.now.nodes c.args.i c.args.need c.even_cut-cut.result c.requires.place c.even_cut-cut.ensures.cut

pub returns-clause-behind : goal.returns-clause-behind
returns-clause-behind c = room_behind c.args.page.now.nodes c.args.i c.args.need c.even_cut-cut.result c.requires.place c.even_cut-cut.ensures.cut

pub returns-clause-even : goal.returns-clause-even
returns-clause-even c = λ within k parts. c.even_cut-cut.ensures.even k
