-- Of which spaces the trees can be told.
use Rattle.std.specs.Prelude.{◌≡◌, ℕ, Bool, List, [], ◌∷◌, ◌++◌, Some, None, map, true, if◌then◌else◌}
use Rattle.index_derive.specs.declared.rules.IndexRule.{IndexRule}
use Rattle.page_space.specs.Frames.{Frames}
use Rattle.image_findings.specs.CatalogFindings.{CatalogTold, catalog_told, is_sound_catalog, table_of}
use Rattle.image_findings.specs.Findings.{roots_told}
use Rattle.image_findings.specs.TreeFindings.{marks_after, no_marks, nodes_below, trees_finding}
use Rattle.tool_dump.specs.SpaceTexts.{index_line}

-- Nothing is found of the tree of the catalog below a root page, of the catalog that it tells, and of the trees whose roots are told.
pub record HasSoundTrees (frames : Frames) (root : ℕ) : Type 0 where
  pub told : CatalogTold
  pub catalog_tree : trees_finding frames (root ∷ []) (no_marks frames) ≡ None
  pub telling : catalog_told (nodes_below frames root) ≡ Some told
  pub catalog : is_sound_catalog told.greatest (map table_of told.tables) ≡ true
  pub trees : trees_finding frames (roots_told told) (marks_after frames (root ∷ []) (no_marks frames)) ≡ None

-- Trees below these root pages were told: their lines stand behind the text, and their pages are marked.
pub record IsTold (frames : Frames) (roots lines old new : List ℕ) (before after : List Bool) : Type 0 where
  pub text : new ≡ old ++ lines
  pub marks : after ≡ marks_after frames roots before

-- ---- an index of a table, which has a tree if it is not the primary one

abbrev pub roots_of_index : ℕ × IndexRule → List ℕ
roots_of_index index = if index.1.flags.primary then [] else index.0 ∷ []

abbrev pub lines_of_index : Frames → List ℕ → ℕ × IndexRule → List ℕ
lines_of_index frames table index = if index.1.flags.primary then [] else index_line frames table index
