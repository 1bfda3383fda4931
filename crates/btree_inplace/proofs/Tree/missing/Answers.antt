-- The leaf's own search finds the node.
use Rattle.std.proofs.Common.{◌≡◌, ◌+◌, ◌-◌, ◌≤◌, ℕ, List, length, arith, Option, Some, None, true, false, sym, ap, subst, ◌∙◌}
use Rattle.std.specs.Prelude.{All, MatchOption, find, IsSome, IsSomeAnd}
use Rattle.page_image.specs.Page.{Node, PageContents, HasRisingKeys, no_node, node_at, node_size}
use Rattle.btree_inplace.specs.Order.{has_key}
use Rattle.btree_inplace.specs.Shape.{IsTreeNode, page_in}
use Rattle.btree_inplace.specs.Trees.{nodes_of}
use Rattle.btree_inplace.proofs.Below.{found_at, not_found}
use Rattle.btree_inplace.proofs.Writes.{page_is}
use Rattle.btree_inplace.proofs.Tree.missing.Goals as goal

pub returns-in-Ok-clause-value : goal.returns-in-Ok-clause-value
returns-in-Ok-clause-value c =
    let nodes = c.page-leaf.result.now.nodes in
    let key = c.args.key.now in
    let inner : page_in c.args.space.now c.leaf.result ≡ c.page-leaf.result.now = page_is c.args.space.now c.leaf.result c.page-leaf.result.now c.page-leaf.ensures in
    let rising : HasRisingKeys nodes = subst (λ (p : PageContents). HasRisingKeys p.nodes) inner c.leaf.ensures.leaf.page.rising in
    let found : find (has_key key) (nodes_of c.args.space.now c.args.self.now) ≡ Some (node_at nodes c.in-Ok.i) = sym c.leaf.ensures.found ∙ ap (λ (p : PageContents). find (has_key key) p.nodes) inner ∙ found_at nodes key c.in-Ok.i rising c.in-Ok.ensures.0 c.in-Ok.ensures.1 in
    subst (λ (o : Option Node). IsSomeAnd o (λ n. c.saturating_sub.result ≡ c.args.extent - n.extent)) (sym found) (c.saturating_sub.ensures ∙ ap (λ e. c.args.extent - e) c.extent.ensures)

pub returns-in-Ok-clause-needs : goal.returns-in-Ok-clause-needs
returns-in-Ok-clause-needs c =
    let nodes = c.page-leaf.result.now.nodes in
    let key = c.args.key.now in
    let inner : page_in c.args.space.now c.leaf.result ≡ c.page-leaf.result.now = page_is c.args.space.now c.leaf.result c.page-leaf.result.now c.page-leaf.ensures in
    let rising : HasRisingKeys nodes = subst (λ (p : PageContents). HasRisingKeys p.nodes) inner c.leaf.ensures.leaf.page.rising in
    let found : find (has_key key) (nodes_of c.args.space.now c.args.self.now) ≡ Some (node_at nodes c.in-Ok.i) = sym c.leaf.ensures.found ∙ ap (λ (p : PageContents). find (has_key key) p.nodes) inner ∙ found_at nodes key c.in-Ok.i rising c.in-Ok.ensures.0 c.in-Ok.ensures.1 in
    let small : All IsTreeNode nodes = subst (λ (p : PageContents). All IsTreeNode p.nodes) inner c.leaf.ensures.leaf.small in
    let size = (small c.in-Ok.i no_node c.in-Ok.ensures.0).size in
    let fits : node_size (node_at nodes c.in-Ok.i) + c.saturating_sub.result ≤ 2032 = omega (arith, size, c.saturating_sub.ensures, c.extent.ensures, ap (λ (k : List ℕ). length k) c.in-Ok.ensures.1, c.requires.small) in
    subst (λ (o : Option Node). MatchOption o (c.saturating_sub.result ≤ 2032) (λ n. node_size n + c.saturating_sub.result ≤ 2032)) (sym found) fits

-- a node that is there is found
never_none : (o : Option Node) → o ≡ None → ¬ IsSome o
never_none o e some = never (subst (λ (r : Option Node). IsSome r) e some)
  where
    never : false ≡ true → ⊥
    never h = cc

pub returns-in-Err-clause-value : goal.returns-in-Err-clause-value
returns-in-Err-clause-value c =
    let inner : page_in c.args.space.now c.leaf.result ≡ c.page-leaf.result.now = page_is c.args.space.now c.leaf.result c.page-leaf.result.now c.page-leaf.ensures in
    let none : find (has_key c.args.key.now) (nodes_of c.args.space.now c.args.self.now) ≡ None = sym c.leaf.ensures.found ∙ ap (λ (p : PageContents). find (has_key c.args.key.now) p.nodes) inner ∙ not_found c.page-leaf.result.now.nodes c.args.key.now c.in-Err.field-0 c.in-Err.ensures in
    absurd (never_none (find (has_key c.args.key.now) (nodes_of c.args.space.now c.args.self.now)) none c.requires.there)

pub returns-in-Err-clause-short : goal.returns-in-Err-clause-short
returns-in-Err-clause-short c =
    let inner : page_in c.args.space.now c.leaf.result ≡ c.page-leaf.result.now = page_is c.args.space.now c.leaf.result c.page-leaf.result.now c.page-leaf.ensures in
    let none : find (has_key c.args.key.now) (nodes_of c.args.space.now c.args.self.now) ≡ None = sym c.leaf.ensures.found ∙ ap (λ (p : PageContents). find (has_key c.args.key.now) p.nodes) inner ∙ not_found c.page-leaf.result.now.nodes c.args.key.now c.in-Err.field-0 c.in-Err.ensures in
    absurd (never_none (find (has_key c.args.key.now) (nodes_of c.args.space.now c.args.self.now)) none c.requires.there)

pub returns-in-Err-clause-needs : goal.returns-in-Err-clause-needs
returns-in-Err-clause-needs c =
    let inner : page_in c.args.space.now c.leaf.result ≡ c.page-leaf.result.now = page_is c.args.space.now c.leaf.result c.page-leaf.result.now c.page-leaf.ensures in
    let none : find (has_key c.args.key.now) (nodes_of c.args.space.now c.args.self.now) ≡ None = sym c.leaf.ensures.found ∙ ap (λ (p : PageContents). find (has_key c.args.key.now) p.nodes) inner ∙ not_found c.page-leaf.result.now.nodes c.args.key.now c.in-Err.field-0 c.in-Err.ensures in
    absurd (never_none (find (has_key c.args.key.now) (nodes_of c.args.space.now c.args.self.now)) none c.requires.there)
