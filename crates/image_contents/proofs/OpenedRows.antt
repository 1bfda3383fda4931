-- The rows of a table that is opened, against what an image has of it.
use Rattle.std.proofs.Common.{◌≡◌, ℕ, List, [], Option, ap, subst, ◌∙◌}
use Rattle.btree_inplace.specs.Trees.{nodes_of}
use Rattle.database_state.specs.Table.{Table}
use Rattle.image_findings.specs.Images.{least_key}
use Rattle.image_findings.specs.TableContents.{TableContents}
use Rattle.image_opening.specs.OpenedTrees.{HasContents}
use Rattle.image_opening.specs.declared.opened.OpenedTable.{OpenedTable}
use Rattle.image_contents.specs.LeastBookmarks.{missing}
use Rattle.image_contents.specs.RowsRead.{first_unsound}
use Rattle.image_contents.proofs.Least.{read_is}
use Rattle.page_image.specs.Page.{HasRisingKeys, Node}
use Rattle.page_space.specs.Frames.{Frames}
use Rattle.version_store.specs.HeldChanges.{HeldChange}

pub rising : (frames : Frames) (opened : OpenedTable) (t : TableContents) → HasContents frames opened t → HasRisingKeys (nodes_of frames opened.nodes) → HasRisingKeys t.nodes
rising frames opened t has rise = subst (λ (l : List Node). HasRisingKeys l) has.nodes_are rise

pub found_is : (number : ℕ) (held : List HeldChange) (frames : Frames) (opened : OpenedTable) (table : Table) (t : TableContents) → HasContents frames opened t → table ≡ t.table
    → first_unsound number held (record { table = table; nodes = []; value_nodes = nodes_of frames opened.long_values; indexes = [] }) (nodes_of frames opened.nodes) ≡ first_unsound number held t t.nodes
found_is number held frames opened table t has same = read_is number held table (nodes_of frames opened.long_values) (nodes_of frames opened.nodes) t same has.values_are has.nodes_are

pub lacking_is : (held : List HeldChange) (frames : Frames) (opened : OpenedTable) (table : Table) (t : TableContents) (id : ℕ) (found : Option (List ℕ)) → HasContents frames opened t → table ≡ t.table → id ≡ table.id
    → found ≡ least_key (missing id (nodes_of frames opened.nodes) held) → found ≡ least_key (missing t.table.id t.nodes held)
lacking_is held frames opened table t id found has same own e =
    e
    ∙ ap (λ (k : ℕ). least_key (missing k (nodes_of frames opened.nodes) held)) (own ∙ ap (λ (x : Table). x.id) same)
    ∙ ap (λ (nodes : List Node). least_key (missing t.table.id nodes held)) has.nodes_are
