-- The text of the pages of a database: how many its space has, and how many nodes and pages each tree has.
use Rattle.std.specs.Prelude.{◌≡◌, ℕ, List, [], ◌∷◌, ◌++◌, codes, count_by, is_none, length, Option, Some, None}
use Rattle.std.specs.Fmt.{decimal}
use Rattle.std.specs.List.{flat_map}
use Rattle.catalog_grammar.specs.Catalogs.{CatalogTable}
use Rattle.index_derive.specs.declared.rules.IndexRule.{IndexRule}
use Rattle.long_value.specs.Shown.{is_head}
use Rattle.page_image.specs.Page.{Node}
use Rattle.page_space.specs.Frames.{Frames}
use Rattle.image_findings.specs.CatalogFindings.{CatalogTold, catalog_told, rooted_indexes}
use Rattle.image_findings.specs.TreeFindings.{nodes_below, pages_below}
use Rattle.tool_dump.specs.DumpTexts.{line}

-- ---- lines

abbrev pub free_count : Frames → ℕ
free_count frames = count_by is_none frames

-- how many pages there are, free ones among them, and how many are free
abbrev pub space_line : Frames → List ℕ
space_line frames = line (codes "space pages " ++ decimal (length frames) ++ codes " free " ++ decimal (free_count frames))

-- how many of something a tree has, and how many pages
abbrev pub counts_text : List ℕ → ℕ → ℕ → List ℕ
counts_text counted count pages = codes " " ++ counted ++ codes " " ++ decimal count ++ codes " pages " ++ decimal pages ++ 10 ∷ []

abbrev pub tree_line : List ℕ → List ℕ → ℕ → ℕ → List ℕ
tree_line name counted count pages = codes "tree " ++ name ++ counts_text counted count pages

-- the nodes of the tree below a root page
abbrev pub nodes_line : Frames → List ℕ → List ℕ → ℕ → List ℕ
nodes_line frames name counted root = tree_line name counted (length (nodes_below frames root)) (length (pages_below frames root))

-- how many long values nodes have: each has one head
abbrev pub value_count : List Node → ℕ
value_count nodes = count_by is_head nodes

abbrev pub values_line : Frames → List ℕ → ℕ → List ℕ
values_line frames name root = tree_line name (codes "long") (value_count (nodes_below frames root)) (length (pages_below frames root))

-- ---- tables

-- an index is told behind its table
abbrev pub index_line : Frames → List ℕ → ℕ × IndexRule → List ℕ
index_line frames table index = nodes_line frames (table ++ codes " " ++ index.1.name) (codes "nodes") index.0

-- its records, its indexes that have a tree, by rising number, and its long values
abbrev pub table_lines : Frames → CatalogTable → List ℕ
table_lines frames x =
    nodes_line frames x.table.name (codes "records") x.table.records
    ++ (flat_map (index_line frames x.table.name) (rooted_indexes x) ++ values_line frames x.table.name x.table.long_values)

-- the tables of the catalog that the nodes below a root page tell, none where they tell no catalog
abbrev pub tables_below : Frames → ℕ → List CatalogTable
tables_below frames root = elim (catalog_told (nodes_below frames root)) [ Some told ↦ told.tables | None ↦ [] ]

-- ---- the whole

-- the tree of the catalog, and those of its tables, by rising number; a space without a catalog has no tree
abbrev pub trees_text : Frames → Option ℕ → List ℕ
trees_text frames None = []
trees_text frames (Some root) = nodes_line frames (codes "catalog") (codes "nodes") root ++ flat_map (table_lines frames) (tables_below frames root)

abbrev pub space_text : Frames → Option ℕ → List ℕ
space_text frames root = space_line frames ++ trees_text frames root
