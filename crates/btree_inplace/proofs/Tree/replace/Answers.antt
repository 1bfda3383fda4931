-- One leaf changes, and the list with it.
use Rattle.std.proofs.Common.{◌≡◌, ◌≢◌, ◌<◌, ◌≤◌, ℕ, List, length, set, Option, Some, None, sym, ap, subst, ◌∙◌}
use Rattle.std.specs.Prelude.{AllPairs, find, unwrap_or}
use Rattle.std.proofs.lemmas.List.{get_or-set_same}
use Rattle.page_image.specs.Page.{Node, PageContents, IsPage, HasRisingKeys, node_at, with_data}
use Rattle.page_space.specs.Frames.{empty_page, page_at}
use Rattle.btree_inplace.specs.Changes.{Changed, with_data_at}
use Rattle.btree_inplace.specs.Order.{has_key}
use Rattle.btree_inplace.specs.Shape.{page_in}
use Rattle.btree_inplace.specs.Trees.{nodes_of}
use Rattle.btree_inplace.proofs.Below.{found_at, not_found}
use Rattle.btree_inplace.proofs.Changing.{fact_of_found, leaf-replace, none_found, set-stays, taken_within, with_data_at-local}
use Rattle.btree_inplace.proofs.Tree.replace.Goals as goal

pub replace-requires-clause-fits : goal.replace-requires-clause-fits
replace-requires-clause-fits c =
    let frames = c.args.space.now in
    let key = c.args.key.now in
    let leaf = c.leaf-page.result in
    let nodes = c.page_mut-leaf.result.now.nodes in
    let inner : page_in frames leaf ≡ c.page_mut-leaf.result.now = ap (λ (o : Option PageContents). unwrap_or o (empty_page leaf)) c.page_mut-leaf.ensures.value in
    let rising : HasRisingKeys nodes = subst (λ (p : PageContents). HasRisingKeys p.nodes) inner c.leaf-page.ensures.leaf.page.rising in
    let found : find (has_key key) (nodes_of frames c.args.self.now) ≡ Some (node_at nodes c.in-Ok.i) = sym c.leaf-page.ensures.found ∙ ap (λ (p : PageContents). find (has_key key) p.nodes) inner ∙ found_at nodes key c.in-Ok.i rising c.in-Ok.ensures.0 c.in-Ok.ensures.1 in
    let fits : length c.args.data.now ≤ (node_at nodes c.in-Ok.i).extent = fact_of_found (λ (n : Node). length c.args.data.now ≤ n.extent) (find (has_key key) (nodes_of frames c.args.self.now)) (node_at nodes c.in-Ok.i) found c.requires.fits in
    fits

-- the tree after the write
changed : (c : goal.After-space-1) → Changed (λ ns. with_data_at ns c.args.key.now c.args.data.now) c.args.key.now c.args.self.now.depth c.args.space.now (set c.args.space.now c.leaf-page.result (Some c.replace.new.self)) c.args.self.now.root
changed c =
    let frames = c.args.space.now in
    let key = c.args.key.now in
    let leaf = c.leaf-page.result in
    let nodes = c.page_mut-leaf.result.now.nodes in
    let inner : page_in frames leaf ≡ c.page_mut-leaf.result.now = ap (λ (o : Option PageContents). unwrap_or o (empty_page leaf)) c.page_mut-leaf.ensures.value in
    let rising : HasRisingKeys nodes = subst (λ (p : PageContents). HasRisingKeys p.nodes) inner c.leaf-page.ensures.leaf.page.rising in
    let found : find (has_key key) (nodes_of frames c.args.self.now) ≡ Some (node_at nodes c.in-Ok.i) = sym c.leaf-page.ensures.found ∙ ap (λ (p : PageContents). find (has_key key) p.nodes) inner ∙ found_at nodes key c.in-Ok.i rising c.in-Ok.ensures.0 c.in-Ok.ensures.1 in
    let fits : length c.args.data.now ≤ (node_at nodes c.in-Ok.i).extent = fact_of_found (λ (n : Node). length c.args.data.now ≤ n.extent) (find (has_key key) (nodes_of frames c.args.self.now)) (node_at nodes c.in-Ok.i) found c.requires.fits in
    let new = set frames leaf (Some c.replace.new.self) in
    let written : PageContents → PageContents = λ p. record p { nodes = with_data p.nodes c.in-Ok.i c.args.data.now } in
    let value : c.replace.new.self ≡ written (page_in frames leaf) = c.replace.ensures.value ∙ ap written (sym inner) in
    let now : page_at new leaf ≡ Some (written (page_in frames leaf)) = get_or-set_same frames leaf (Some c.replace.new.self) None (taken_within frames leaf c.leaf-page.ensures.leaf.taken) ∙ ap Some value in
    let back = sym inner in
    c.leaf-page.ensures.lifts (λ ns. with_data_at ns key c.args.data.now) new (with_data_at-local key c.args.data.now) (set-stays frames leaf (Some c.replace.new.self))
    (leaf-replace frames new leaf c.in-Ok.i key c.args.data.now c.leaf-page.ensures.leaf
    (subst (λ (p : PageContents). c.in-Ok.i < length p.nodes) back c.in-Ok.ensures.0)
    (subst (λ (p : PageContents). (node_at p.nodes c.in-Ok.i).key ≡ key) back c.in-Ok.ensures.1)
    (subst (λ (p : PageContents). length c.args.data.now ≤ (node_at p.nodes c.in-Ok.i).extent) back fits)
    now (subst IsPage value c.replace.ensures.page))

pub returns-in-Ok-clause-tree : goal.returns-in-Ok-clause-tree
returns-in-Ok-clause-tree c = record { shape = (changed c).shape; once = subst (λ (l : List ℕ). AllPairs (λ p q. p ≢ q) l) (sym (changed c).same) c.requires.tree.once; deep = c.requires.tree.deep }

pub returns-in-Ok-clause-nodes : goal.returns-in-Ok-clause-nodes
returns-in-Ok-clause-nodes c = (changed c).nodes

pub returns-in-Ok-clause-pages : goal.returns-in-Ok-clause-pages
returns-in-Ok-clause-pages c = (changed c).same

pub returns-in-Err-clause-nodes : goal.returns-in-Err-clause-nodes
returns-in-Err-clause-nodes c =
    let frames = c.args.space.now in
    let key = c.args.key.now in
    let leaf = c.leaf-page.result in
    let nodes = c.page_mut-leaf.result.now.nodes in
    let inner : page_in frames leaf ≡ c.page_mut-leaf.result.now = ap (λ (o : Option PageContents). unwrap_or o (empty_page leaf)) c.page_mut-leaf.ensures.value in
    let rising : HasRisingKeys nodes = subst (λ (p : PageContents). HasRisingKeys p.nodes) inner c.leaf-page.ensures.leaf.page.rising in
    let none : find (has_key key) (nodes_of frames c.args.self.now) ≡ None = sym c.leaf-page.ensures.found ∙ ap (λ (p : PageContents). find (has_key key) p.nodes) inner ∙ not_found nodes key c.in-Err.field-0 c.in-Err.ensures in
    absurd (none_found (λ (n : Node). length c.args.data.now ≤ n.extent) (find (has_key key) (nodes_of frames c.args.self.now)) none c.requires.fits)
