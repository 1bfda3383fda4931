-- A consistent image check by check.
use Rattle.std.specs.Prelude.{◌≡◌, true, [], ◌∷◌, map, None, Some}
use Rattle.std.specs.List.{AllByRecursion}
use Rattle.live_part.specs.LiveReading.{whole_in}
use Rattle.image_findings.specs.CatalogFindings.{catalog_told, is_sound_catalog, table_of}
use Rattle.image_findings.specs.CountFindings.{count_finding}
use Rattle.image_findings.specs.EntryFindings.{entry_finding}
use Rattle.image_findings.specs.Findings.{catalog_marks, contents_in, engine_of_parts, history_of, live_of, roots_told, told_in, whole_of}
use Rattle.image_findings.specs.Images.{ImageContents}
use Rattle.image_findings.specs.KeyFindings.{key_finding}
use Rattle.image_findings.specs.LiveFindings.{is_sound_live}
use Rattle.image_findings.specs.RowFindings.{row_finding}
use Rattle.image_findings.specs.TreeFindings.{marks_after, no_marks, nodes_below, trees_finding, unowned_from}
use Rattle.image_findings.specs.ValueFindings.{value_finding}

-- No check finds anything.
pub record HasNoFinding (image : ImageContents) : Type 0 where
  pub catalog_tree : trees_finding image.pages (image.catalog_root ∷ []) (no_marks image.pages) ≡ None
  pub told : catalog_told (nodes_below image.pages image.catalog_root) ≡ Some (told_in image)
  pub catalog : is_sound_catalog (told_in image).greatest (map table_of (told_in image).tables) ≡ true
  pub trees : trees_finding image.pages (roots_told (told_in image)) (catalog_marks image) ≡ None
  pub pages : unowned_from 0 image.pages (marks_after image.pages (roots_told (told_in image)) (catalog_marks image)) ≡ None
  pub values : AllByRecursion (λ t. value_finding image.number (live_of image).held t ≡ None) (contents_in image)
  pub whole : whole_in image.live ≡ Some (whole_of image)
  pub live : is_sound_live image.number (contents_in image) (whole_of image) ≡ true
  pub rows : AllByRecursion (λ t. row_finding image.number (live_of image).held t ≡ None) (contents_in image)
  pub entries : AllByRecursion (λ t. entry_finding (live_of image).held t ≡ None) (contents_in image)
  pub keys : AllByRecursion (λ t. key_finding (history_of (engine_of_parts 0 image.number 0 (contents_in image) (live_of image))) (live_of image).held t ≡ None) (contents_in image)
  pub counts : AllByRecursion (λ t. count_finding (live_of image).held t ≡ None) (contents_in image)
