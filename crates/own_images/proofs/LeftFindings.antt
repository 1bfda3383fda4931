-- What is found of an image of a store is found of its long values and of all behind them.
use Rattle.std.proofs.Common.{◌≡◌, ℕ, Bool, List, Option, Some, None, ap, ◌∙◌}
use Rattle.std.specs.Prelude.{map, if◌then◌else◌}
use Rattle.std.specs.Option.{option_or}
use Rattle.live_part.specs.LiveBytes.{standing}
use Rattle.live_part.specs.LiveReading.{whole_in}
use Rattle.page_image.specs.Page.{Node}
use Rattle.version_store.specs.HeldChanges.{HeldChange}
use Rattle.image_findings.specs.CatalogFindings.{catalog_told}
use Rattle.image_findings.specs.Findings.{catalog_finding, finding, held_in, live_finding, roots_told}
use Rattle.image_findings.specs.Images.{Finding, ImageContents, first_of}
use Rattle.image_findings.specs.Images.Finding.{Catalog}
use Rattle.image_findings.specs.TreeFindings.{marks_after, nodes_below, trees_finding, unowned_from}
use Rattle.image_findings.specs.ValueFindings.{value_finding}
use Rattle.own_images.proofs.OneValue.{MapLaws}
use Rattle.own_images.proofs.OwnEntries.{first_none}
use Rattle.own_images.proofs.OwnForest.{catalog_nodes_are, catalog_tree, own_pages, table_trees}
use Rattle.own_images.proofs.OwnWhole.{own_whole_values}
use Rattle.own_images.proofs.ReadBack.{is_sound, told_again_of}
use Rattle.own_images.proofs.Walked.{WalkLaws}
use Rattle.own_images.specs.OwnStores.{IsOwnStore, OwnStore, contents_of, image_of, own_marks, told_of}

abbrev left_of : OwnStore → List ℕ → Option Finding
left_of store live = option_or (first_of (map (value_finding store.number (held_in (whole_in live))) (contents_of store))) (live_finding store.number (contents_of store) (whole_in live))

abbrev pages_of : OwnStore → Option Finding
pages_of store = unowned_from 0 store.frames (marks_after store.frames (roots_told (told_of store)) (own_marks store))

pub left_finding : WalkLaws → (store : OwnStore) (live : List ℕ) → IsOwnStore store → finding (image_of store live) ≡ left_of store live
unfolding finding
left_finding laws store live own =
    let image : ImageContents = image_of store live in
    ap (λ (o : Option Finding). option_or o (catalog_finding image (catalog_told (nodes_below store.frames store.root)))) (catalog_tree laws store own)
    ∙ ap (λ (nodes : List Node). catalog_finding image (catalog_told nodes)) (catalog_nodes_are laws store own)
    ∙ ap (catalog_finding image) (told_again_of store own)
    ∙ ap (λ (b : Bool). option_or (if b then None else Some Catalog) (option_or (trees_finding store.frames (roots_told (told_of store)) (own_marks store)) (option_or (pages_of store) (left_of store live)))) (is_sound store own)
    ∙ ap (λ (o : Option Finding). option_or o (option_or (pages_of store) (left_of store live))) (table_trees laws store own)
    ∙ ap (λ (o : Option Finding). option_or o (left_of store live)) (own_pages laws store own)

-- with the held changes that stand, of the live part and of what is read with it
pub live_left : WalkLaws → MapLaws → (store : OwnStore) (live : List ℕ) → IsOwnStore store → held_in (whole_in live) ≡ standing store.held → finding (image_of store live) ≡ live_finding store.number (contents_of store) (whole_in live)
live_left walks maps store live own held =
    left_finding walks store live own
    ∙ ap (λ (changes : List HeldChange). option_or (first_of (map (value_finding store.number changes) (contents_of store))) (live_finding store.number (contents_of store) (whole_in live))) held
    ∙ ap (λ (o : Option Finding). option_or o (live_finding store.number (contents_of store) (whole_in live))) (first_none (value_finding store.number (standing store.held)) (contents_of store) (own_whole_values walks maps store own))
