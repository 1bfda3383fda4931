-- What the rows of a table are read with, as it is found.
use Rattle.std.proofs.Common.{◌≡◌, ℕ, false, List, [], Option, Some, None, refl, sym, ap, subst, ◌∙◌}
use Rattle.std.specs.Prelude.{IfSome}
use Rattle.btree_inplace.specs.Trees.{IsTree, nodes_of}
use Rattle.common_lemmas.proofs.Options.{none_some}
use Rattle.database_state.specs.Table.{Table, schema_of, table_with_id}
use Rattle.image_contents.specs.FirstParts.{HaveFirstParts}
use Rattle.image_contents.specs.LegalRules.{HasLegalRules}
use Rattle.image_contents.specs.RowsRead.{AreReadable, contents_read, values_read}
use Rattle.image_contents.specs.declared.rows.table.TableRows.{TableRows}
use Rattle.image_findings.specs.LiveFindings.{is_sound_of}
use Rattle.image_findings.specs.TableContents.{TableContents, contents_with_id, long_values}
use Rattle.image_opening.specs.declared.opened.OpenedTable.{OpenedTable}
use Rattle.page_space.specs.Frames.{Frames}
use Rattle.version_store.specs.HeldChanges.{HeldChange}
use Rattle.image_live.proofs.Found.{AreFound, are_found, trees_with_id}
use Rattle.image_live.proofs.SoundOf.{sound_of_is, values_are}
use Rattle.image_live.specs.TablesRead.{AreTablesOf, FindsRows, HasWholeBefore}
use Rattle.image_live.specs.declared.tables.ImageTables.{ImageTables}

-- ---- what is found

pub found_in : (image : ImageTables) (tables : List TableContents) (id : ℕ) → AreTablesOf image tables → AreFound image.space.now (table_with_id image.catalog.now.tables id) (trees_with_id image.trees.now id) (contents_with_id tables id)
found_in image tables id are = subst (λ (l : List Table). AreFound image.space.now (table_with_id l id) (trees_with_id image.trees.now id) (contents_with_id tables id)) (sym are.catalog) (are_found image.space.now id image.trees.now tables are.trees are.readable)

none_defined : (frames : Frames) (number : ℕ) (d : Option Table) (x : Option OpenedTable) (t : Option TableContents) → None ≡ d → AreFound frames d x t → FindsRows number t None
none_defined frames number None None None e found = tt
none_defined frames number None None (Some t) e found = absurd found
none_defined frames number None (Some x) t e found = absurd found
none_defined frames number (Some d) x t e found = none_some d e

no_trees : (frames : Frames) (number : ℕ) (d : Option Table) (x : Option OpenedTable) (t : Option TableContents) → None ≡ x → AreFound frames d x t → FindsRows number t None
no_trees frames number None None None e found = tt
no_trees frames number None None (Some t) e found = absurd found
no_trees frames number (Some d) None t e found = absurd found
no_trees frames number d (Some x) t e found = none_some x e

rows_are : (frames : Frames) (number : ℕ) (definition : Table) (trees : OpenedTable) (t : Option TableContents) (rows : TableRows) → rows.table.now ≡ definition → rows.long_values.now ≡ trees.long_values → rows.space.now ≡ frames → rows.number ≡ number
    → AreFound frames (Some definition) (Some trees) t → FindsRows number t (Some rows)
rows_are frames number definition trees None rows table_is values_is space_is number_is found = absurd found
rows_are frames number definition trees (Some t) rows table_is values_is space_is number_is found =
    let tree : IsTree rows.space.now rows.long_values.now = subst (λ (f : Frames). IsTree f rows.long_values.now) (sym space_is) (subst (λ v. IsTree frames v) (sym values_is) found.contents.values_tree) in
    let nodes = ap (λ (f : Frames). nodes_of f rows.long_values.now) space_is ∙ ap (λ v. nodes_of frames v) values_is ∙ found.contents.values_are in
    record {
      table_is = table_is ∙ found.table_is;
      values_are = nodes;
      number_is = number_is;
      readable = record {
        tree = tree;
        parts = subst (λ n. HaveFirstParts n) (sym nodes) found.readable.parts;
        rules = subst (λ (d : Table). HasLegalRules (schema_of d)) (sym (table_is ∙ found.table_is)) found.readable.rules;
      };
    }

pub not_defined : (image : ImageTables) (tables : List TableContents) (id : ℕ) → None ≡ table_with_id image.catalog.now.tables id → AreTablesOf image tables → FindsRows image.number (contents_with_id tables id) None
not_defined image tables id is are = none_defined image.space.now image.number _ _ _ is (found_in image tables id are)

pub not_opened : (image : ImageTables) (tables : List TableContents) (id : ℕ) → None ≡ trees_with_id image.trees.now id → AreTablesOf image tables → FindsRows image.number (contents_with_id tables id) None
not_opened image tables id is are = no_trees image.space.now image.number _ _ _ is (found_in image tables id are)

pub rows_found : (image : ImageTables) (tables : List TableContents) (id : ℕ) (definition : Table) (trees : OpenedTable) (rows : TableRows) → Some definition ≡ table_with_id image.catalog.now.tables id → Some trees ≡ trees_with_id image.trees.now id
    → rows.table.now ≡ definition → rows.long_values.now ≡ trees.long_values → rows.space.now ≡ image.space.now → rows.number ≡ image.number → AreTablesOf image tables → FindsRows image.number (contents_with_id tables id) (Some rows)
rows_found image tables id definition trees rows defined_is opened_is table_is values_is space_is number_is are =
    rows_are image.space.now image.number definition trees (contents_with_id tables id) rows table_is values_is space_is number_is
    (subst (λ (d : Option Table). AreFound image.space.now d (Some trees) (contents_with_id tables id)) (sym defined_is)
    (subst (λ (x : Option OpenedTable). AreFound image.space.now (table_with_id image.catalog.now.tables id) x (contents_with_id tables id)) (sym opened_is) (found_in image tables id are)))

-- ---- what is known of what is found

pub readable_of : (number : ℕ) (t : Option TableContents) (rows : TableRows) → FindsRows number t (Some rows) → AreReadable rows
readable_of number None rows of = absurd of
readable_of number (Some t) rows of = of.readable

pub whole_of : (number : ℕ) (t : Option TableContents) (rows : TableRows) (h : HeldChange) → FindsRows number t (Some rows) → IfSome t (λ t. HasWholeBefore (long_values t) h) → HasWholeBefore (values_read rows) h
whole_of number None rows h of whole = absurd of
whole_of number (Some t) rows h of whole = values_are number t h rows of whole

pub sound_found : (number : ℕ) (t : Option TableContents) (rows : TableRows) (h : HeldChange) → FindsRows number t (Some rows) → is_sound_of rows.number h (Some (contents_read rows [])) ≡ is_sound_of number h t
sound_found number None rows h of = absurd of
sound_found number (Some t) rows h of = sound_of_is number t h rows of

pub none_sound : (number : ℕ) (t : Option TableContents) (h : HeldChange) → FindsRows number t None → false ≡ is_sound_of number h t
none_sound number None h of = refl
none_sound number (Some t) h of = absurd of
