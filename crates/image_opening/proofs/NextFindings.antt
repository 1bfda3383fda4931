-- What is found of an image behind its catalog.
use Rattle.std.proofs.Common.{◌≡◌, Bool, true, false, Option, Some, None, map, refl, sym, ap, ◌∙◌}
use Rattle.std.specs.Prelude.{if◌then◌else◌}
use Rattle.std.specs.Option.{option_or}
use Rattle.common_lemmas.proofs.Options.{some_apart}
use Rattle.live_part.specs.LiveReading.{whole_in}
use Rattle.image_findings.specs.CatalogFindings.{CatalogTold, catalog_told}
use Rattle.image_findings.specs.Findings.{catalog_finding, catalog_marks, held_in, live_finding, roots_told}
use Rattle.image_findings.specs.Images.{Finding, ImageContents, first_of}
use Rattle.image_findings.specs.Images.Finding.{Catalog}
use Rattle.image_findings.specs.TableContents.{contents_below}
use Rattle.image_findings.specs.TreeFindings.{marks_after, trees_finding, unowned_from}
use Rattle.image_findings.specs.ValueFindings.{value_finding}
use Rattle.image_opening.specs.OpenedCatalogs.{is_sound, told_finding}
use Rattle.image_opening.specs.WalkedTrees.{forest_finding}
use Rattle.image_opening.proofs.ManyWalks.{or-assoc}

-- what is found of long values, and of all behind them
abbrev pub rest_finding : ImageContents → CatalogTold → Option Finding
rest_finding image told = option_or (first_of (map (value_finding image.number (held_in (whole_in image.live))) (map (contents_below image.pages) told.tables))) (live_finding image.number (map (contents_below image.pages) told.tables) (whole_in image.live))

or_left : (a b : Option Finding) → option_or a b ≡ None → a ≡ None
or_left None b e = refl
or_left (Some x) b e = absurd (some_apart x e)

or_right : (a b : Option Finding) → option_or a b ≡ None → b ≡ None
or_right None b e = e
or_right (Some x) b e = absurd (some_apart x e)

sound_test : (b : Bool) → (if b then None else Some Catalog) ≡ None → b ≡ true
sound_test true e = refl
sound_test false e = absurd (some_apart Catalog e)

-- what is found of an image whose catalog has nothing
behind_catalog : (image : ImageContents) (told : CatalogTold) (tree : Option Finding) (o : Option CatalogTold) → option_or tree (told_finding o) ≡ None → o ≡ Some told
    → option_or tree (catalog_finding image o) ≡ option_or (forest_finding image.pages (catalog_marks image) (roots_told told)) (rest_finding image told)
behind_catalog image told tree o e is =
    let sound : is_sound told ≡ true = sound_test (is_sound told) (ap told_finding (sym is) ∙ or_right tree (told_finding o) e) in
    ap (λ (t : Option Finding). option_or t (catalog_finding image o)) (or_left tree (told_finding o) e)
    ∙ ap (catalog_finding image) is
    ∙ behind (is_sound told) (trees_finding image.pages (roots_told told) (catalog_marks image)) (unowned_from 0 image.pages (marks_after image.pages (roots_told told) (catalog_marks image))) (rest_finding image told) sound
  where
    behind : (b : Bool) (trees pages rest : Option Finding) → b ≡ true → option_or (if b then None else Some Catalog) (option_or trees (option_or pages rest)) ≡ option_or (option_or trees pages) rest
    behind b trees pages rest e = ap (λ (t : Bool). option_or (if t then None else Some Catalog) (option_or trees (option_or pages rest))) e ∙ or-assoc trees pages rest

pub found_of_trees : (image : ImageContents) (told : CatalogTold) (found : Finding) (tree : Option Finding) (o : Option CatalogTold) → option_or tree (told_finding o) ≡ None → o ≡ Some told → forest_finding image.pages (catalog_marks image) (roots_told told) ≡ Some found
    → option_or tree (catalog_finding image o) ≡ Some found
found_of_trees image told found tree o e is f = behind_catalog image told tree o e is ∙ ap (λ (t : Option Finding). option_or t (rest_finding image told)) f

pub found_behind_trees : (image : ImageContents) (told : CatalogTold) (tree : Option Finding) (o : Option CatalogTold) → option_or tree (told_finding o) ≡ None → o ≡ Some told → forest_finding image.pages (catalog_marks image) (roots_told told) ≡ None
    → option_or tree (catalog_finding image o) ≡ rest_finding image told
found_behind_trees image told tree o e is f = behind_catalog image told tree o e is ∙ ap (λ (t : Option Finding). option_or t (rest_finding image told)) f
