-- A walk of a tree in a space of any pages: the first page at which it is no tree, or that was met before.
use Rattle.std.specs.Prelude.{ℕ, zero, suc, Bool, true, false, not, ◌&&◌, ◌==◌, nat_le, Option, Some, None, is_some, List, [], ◌∷◌, length, slice_set, if◌then◌else◌}
use Rattle.std.specs.List.{list_all}
use Rattle.std.specs.Option.{option_or}
use Rattle.std.specs.Ordering.{nat_cmp, is_lt}
use Rattle.std.specs.Cmp.Lexicographic.{slice_cmp}
use Rattle.page_image.specs.Page.{Node, PageContents, node_at, node_size}
use Rattle.btree_node.specs.declared.TheConstants.{MAX_NODE_BYTES}
use Rattle.page_space.specs.Frames.{Frames, page_at}
use Rattle.btree_inplace.specs.Shape.{child_of, entries, page_in, pages}
use Rattle.btree_inplace.specs.declared.TheConstants.{MAX_DEPTH, MAX_KEY_BYTES}
use Rattle.tree_check.specs.Marks.{is_marked, with_marks}
use Rattle.tree_check.specs.declared.fault.WalkFault.{WalkFault}
use Rattle.tree_check.specs.declared.fault.WalkFault.TheVariants as fault

-- ---- pages by themselves

-- whether a node has the size of one of a tree
abbrev pub is_tree_node : Node → Bool
is_tree_node n = nat_le (length n.key) MAX_KEY_BYTES && nat_le (node_size n) MAX_NODE_BYTES

-- whether a page is taken, bears its number, and has this kind and such nodes
abbrev pub is_tree_page : ℕ → ℕ → Option PageContents → Bool
is_tree_page kind page None = false
is_tree_page kind page (Some p) = (p.number == page) && ((p.kind == kind) && list_all is_tree_node p.nodes)

-- whether a node names a child by four bytes, the whole of its extent
abbrev pub names_child : Node → Bool
names_child n = (length n.data == 4) && (n.extent == 4)

-- whether the nodes are those of an inner page: there is one, the first key is empty, and each names a child
abbrev pub are_inner : List Node → Bool
are_inner [] = false
are_inner (n ∷ nodes) = (length n.key == 0) && list_all names_child (n ∷ nodes)

-- whether a page is an inner page of a tree
abbrev pub is_inner_page : Frames → ℕ → Bool
is_inner_page frames page = is_tree_page 2 page (page_at frames page) && are_inner (page_in frames page).nodes

-- ---- the first and the last key

abbrev pub last_key : List ℕ → List Node → List ℕ
last_key key [] = key
last_key key (n ∷ nodes) = last_key n.key nodes

abbrev pub ends_of : List Node → Option (List ℕ × List ℕ)
ends_of [] = None
ends_of (n ∷ nodes) = Some (n.key, last_key n.key nodes)

-- the ends of what stands in two parts, one behind the other
abbrev pub joined_ends : Option (List ℕ × List ℕ) → Option (List ℕ × List ℕ) → Option (List ℕ × List ℕ)
joined_ends None next = next
joined_ends (Some first) None = Some first
joined_ends (Some first) (Some next) = Some (first.0, next.1)

abbrev pub is_lower : List ℕ → List ℕ → Bool
is_lower key other = is_lt (slice_cmp nat_cmp key other)

abbrev pub is_below_next : List ℕ → List Node → Bool
is_below_next key [] = true
is_below_next key (n ∷ nodes) = is_lower key n.key

-- whether nodes with these ends lie from the key of a child on and below the next one
abbrev pub lies_between : Node → List Node → List ℕ × List ℕ → Bool
lies_between n nodes ends = not (is_lower ends.0 n.key) && is_below_next ends.1 nodes

-- ---- the walk

-- the fault of a page where the walk meets it: it was met before, or it is not fit for its place, as a free page
abbrev pub page_fault : Bool → Frames → List Bool → ℕ → Option WalkFault
page_fault is_fit frames marks page =
    if is_some (page_at frames page) && is_marked marks page then Some (fault.MetBefore page)
    else (if is_fit then None else Some (fault.Broken page))

-- the fault of what stands below a child of a page: it has no node, or the page's keys are no bounds of it
abbrev pub child_fault : ℕ → Node → List Node → Option (List ℕ × List ℕ) → Option WalkFault
child_fault page n nodes None = Some (fault.Broken (child_of n))
child_fault page n nodes (Some ends) = if lies_between n nodes ends then None else Some (fault.Broken page)

-- the first fault among the children of a page, one after another
abbrev pub fault_among : (List Bool → ℕ → Option WalkFault) → (ℕ → List ℕ) → (ℕ → List Node) → ℕ → List Bool → List Node → Option WalkFault
fault_among found own below page marks [] = None
fault_among found own below page marks (n ∷ nodes) =
    option_or (found marks (child_of n))
    (option_or (child_fault page n nodes (ends_of (below (child_of n))))
    (fault_among found own below page (with_marks (own (child_of n)) marks) nodes))

-- The first fault of a walk below a page, with leaves at this depth. The pages of the walk are marked on the way.
abbrev pub fault_below : ℕ → Frames → List Bool → ℕ → Option WalkFault
fault_below zero frames marks page = page_fault (is_tree_page 1 page (page_at frames page)) frames marks page
fault_below (suc depth) frames marks page =
    option_or (page_fault (is_inner_page frames page) frames marks page)
    (fault_among (fault_below depth frames) (pages depth frames) (entries depth frames) page (slice_set marks page true) (page_in frames page).nodes)

-- how many inner pages there are on the way down by the first children, up to a number of them
unfoldable pub depth_within : ℕ → Frames → ℕ → ℕ
depth_within zero frames page = 0
depth_within (suc most) frames page = if is_inner_page frames page then suc (depth_within most frames (child_of (node_at (page_in frames page).nodes 0))) else 0

-- The leaves of a tree stand below as many inner pages as the first one does, and these are at most MAX_DEPTH: the page below them is to be a leaf.
abbrev pub tree_depth : Frames → ℕ → ℕ
tree_depth frames root = depth_within MAX_DEPTH frames root

-- the first fault of the tree below a root page
abbrev pub tree_fault : Frames → List Bool → ℕ → Option WalkFault
tree_fault frames marks root = fault_below (tree_depth frames root) frames marks root
