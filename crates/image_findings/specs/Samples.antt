-- Images for worked examples.
use Rattle.std.specs.Prelude.{ℕ, pos, true, false, List, [], ◌∷◌, length, replicate, Option, Some, None, codes}
use Rattle.byteorder.specs.Endian.{little_bytes}
use Rattle.jet_base.specs.Ids.{column_id, index_id, table_id}
use Rattle.jet_base.specs.declared.words.ColType.TheVariants.{Long, LongText}
use Rattle.column_set.specs.declared.columns.Column.{Column}
use Rattle.column_set.specs.declared.rows.RowValue.TheVariants.{Here, Apart}
use Rattle.column_set.specs.Rows.{row_bytes}
use Rattle.database_state.specs.State.{uncommitted, committed, undone}
use Rattle.index_derive.specs.Flags.{no_flags}
use Rattle.index_derive.specs.declared.rules.IndexRule.{IndexRule}
use Rattle.catalog_grammar.specs.Catalogs.{CatalogTable, catalog_nodes}
use Rattle.index_tree.specs.Entries.{node_of_entry}
use Rattle.live_part.specs.LiveBytes.{LivePart, live_bytes}
use Rattle.long_rows.specs.RowReferences.{identifier}
use Rattle.long_value.specs.Values.{Values, nodes_of_values}
use Rattle.page_image.specs.Page.{Node, PageContents}
use Rattle.page_space.specs.Frames.{Frames}
use Rattle.version_cleanup.specs.LiveSessions.{LiveState}
use Rattle.version_store.specs.HeldChanges.{HeldChange}
use Rattle.version_store.specs.declared.calls.ChangeKind.TheVariants.{Put, Drop, Add}
use Rattle.image_findings.specs.Images.{ImageContents}

-- ---- pages

abbrev pub leaf : ℕ → List Node → Option PageContents
leaf number nodes = Some (record { number = number; kind = 1; nodes = nodes })

abbrev pub inner : ℕ → List Node → Option PageContents
inner number nodes = Some (record { number = number; kind = 2; nodes = nodes })

abbrev pub child : List ℕ → ℕ → Node
child key page = record { key = key; extent = 4; «data» = little_bytes 4 page }

-- ---- a database without tables

abbrev pub nothing_live : LivePart
nothing_live = record { sessions = []; held = [] }

abbrev pub image_with : ℕ → Frames → LivePart → ImageContents
image_with number pages live = record { number = number; pages = pages; catalog_root = 0; live = live_bytes live }

abbrev pub empty_image : ImageContents
empty_image = image_with 0 (leaf 0 (catalog_nodes 0 []) ∷ []) nothing_live

-- ---- a table of a number, a sum and a text, with a unique index over the number

abbrev pub number_column : Column
number_column = record { id = column_id 1; name = codes "n"; kind = Long; tagged = false; multi = false; not_null = false; escrow = false; version = false; auto = false }

abbrev pub sum_column : Column
sum_column = record number_column { id = column_id 2; name = codes "s"; escrow = true }

abbrev pub text_column : Column
text_column = record number_column { id = column_id 256; name = codes "x"; kind = LongText; tagged = true }

abbrev pub by_number : IndexRule
by_number = record { id = index_id 1; name = codes "i"; order = 1; segments = (record { column = column_id 1; descending = false }) ∷ []; flags = record no_flags { unique = true }; conditions = []; key_most = 255 }

-- its records from page 1, its long values on page 2, its index on page 3
abbrev pub numbers : CatalogTable
numbers = record { table = record { id = table_id 1; name = codes "t"; greatest = record { fixed = 2; variable = 127; tagged = 256 }; records = 1; long_values = 2 }; columns = number_column ∷ sum_column ∷ text_column ∷ []; indexes = (3, by_number) ∷ [] }

-- ---- nodes

abbrev pub bookmark : ℕ → List ℕ
bookmark n = 0 ∷ 0 ∷ 0 ∷ 0 ∷ 0 ∷ 0 ∷ 0 ∷ n ∷ []

-- a row with a number and a sum, and one that names a text besides, the first value of an entry
abbrev pub row : ℕ → ℕ → List ℕ
row n sum = row_bytes ((1, Here (n ∷ 0 ∷ 0 ∷ 0 ∷ []) ∷ []) ∷ (2, Here (sum ∷ 0 ∷ 0 ∷ 0 ∷ []) ∷ []) ∷ [])

abbrev pub text_row : ℕ → ℕ → ℕ → List ℕ
text_row n entry size = row_bytes ((1, Here (n ∷ 0 ∷ 0 ∷ 0 ∷ []) ∷ []) ∷ (2, Here (0 ∷ 0 ∷ 0 ∷ 0 ∷ []) ∷ []) ∷ (256, Apart entry 0 size ∷ []) ∷ [])

abbrev pub row_node : ℕ → List ℕ → Node
row_node at bytes = record { key = bookmark at; extent = length bytes; «data» = bytes }

abbrev pub key_of : ℕ → List ℕ
key_of n = 0x7f ∷ 0x80 ∷ 0 ∷ 0 ∷ n ∷ []

abbrev pub entry_node : ℕ → ℕ → Node
entry_node n at = node_of_entry (key_of n, bookmark at)

-- the first value of entry 6, of 256 bytes, with so many references
abbrev pub text : ℕ → Values
text count = (identifier 6 0, record { count = count; bytes = replicate 256 97 }) ∷ []

-- ---- images of the table

-- What an image of the table has: the number of entries, the nodes of records on two pages, those of long values and of the index, and
-- the live part.
pub record TableParts : Type 0 where
  pub number : ℕ
  pub first : List Node
  pub second : List Node
  pub values : List Node
  pub index : List Node
  pub live : LivePart

-- the two pages of records below an inner page, and a free page
abbrev pub pages_of : CatalogTable → TableParts → Frames
pages_of x parts =
    leaf 0 (catalog_nodes 1 (x ∷ [])) ∷ inner 1 (child [] 4 ∷ child (bookmark 7) 5 ∷ []) ∷ leaf 2 parts.values ∷ leaf 3 parts.index ∷ leaf 4 parts.first ∷ leaf 5 parts.second ∷ None ∷ []

abbrev pub image_of : TableParts → ImageContents
image_of parts = image_with parts.number (pages_of numbers parts) parts.live

-- the numbers 5 and 3 under the bookmarks 6 and 7
abbrev pub small : TableParts
small = record { number = 9; first = row_node 6 (row 5 0) ∷ []; second = row_node 7 (row 3 2) ∷ []; values = []; index = entry_node 3 7 ∷ entry_node 5 6 ∷ []; live = nothing_live }

-- ---- the same while session 1 is in a transaction that entry 8 began

-- it has the table open
abbrev pub writer : LiveState
writer = record { label = 1; open_tables = 1 ∷ []; transaction = Some (record { levels = 1; begin = 8 }) }

-- session 2 inserted record 7, and has left since
abbrev pub inserted_row : HeldChange
inserted_row = record { number = 3; session = 2; level = 1; kind = Put; table = 1; bookmark = bookmark 7; before = None; status = committed 4 }

-- session 1 put 5 in the place of 4, and added 2 to the sum of record 7
abbrev pub replaced_row : HeldChange
replaced_row = record { number = 9; session = 1; level = 1; kind = Put; table = 1; bookmark = bookmark 6; before = Some (text_row 4 6 256); status = uncommitted }

abbrev pub added : HeldChange
added = record { number = 10; session = 1; level = 1; kind = Add (column_id 2) (pos 2); table = 1; bookmark = bookmark 7; before = None; status = uncommitted }

-- it dropped record 7, of which it took back all that it had done since, the text of entry 11 too
abbrev pub taken_back : HeldChange
taken_back = record { number = 12; session = 1; level = 1; kind = Drop; table = 1; bookmark = bookmark 7; before = Some (text_row 3 11 300); status = undone }

abbrev pub live_with : List HeldChange → LivePart
live_with held = record { sessions = writer ∷ []; held = held }

-- both rows of record 6 refer to the text
abbrev pub busy : TableParts
busy = record {
  number = 12;
  first = row_node 6 (text_row 5 6 256) ∷ [];
  second = row_node 7 (row 3 2) ∷ [];
  values = nodes_of_values (text 2);
  index = entry_node 3 7 ∷ entry_node 4 6 ∷ entry_node 5 6 ∷ [];
  live = live_with (inserted_row ∷ replaced_row ∷ added ∷ []);
}
