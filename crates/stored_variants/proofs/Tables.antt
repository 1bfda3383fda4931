-- The tables of the catalog beside their trees.
use Rattle.std.proofs.Common.{◌≡◌, ℕ, Bool, true, false, cond, List, [], ◌∷◌, Option, Some, None, find, map, option_map, refl, sym, ap, subst, ◌∙◌}
use Rattle.std.specs.Prelude.{◌==◌, bytes_eq, IfSome, unwrap_or}
use Rattle.std.proofs.lemmas.Bool.{eqb-true}
use Rattle.cursor_nav.specs.Places.{are_sorted}
use Rattle.database_state.specs.Table.{Table, record_in, row_at, rows_of, table_named, table_with_id, with_table}
use Rattle.jet_catalog.specs.Catalog.{without_rows}
use Rattle.table_trees.specs.StoredNodes.{bookmark_entries}
use Rattle.table_trees.specs.StoredTables.{StoredTable, is_table, table_nodes}
use Rattle.version_store.specs.HeldChanges.{HeldChange}
use Rattle.stored_variants.specs.RecordRows.{IsRecordRow, TableValues, held_record_in, record_of, row_under, rows_of_nodes}
use Rattle.stored_variants.specs.VersionsView.{with_newest_by}
use Rattle.stored_variants.specs.VersionsKept.{AreKeptWith, IsKeptTable, IsRowUnder, needed_trees, tree_numbers}
use Rattle.stored_variants.proofs.NodeRecords.{record_at}

no_two : {A : Type 0} {X : Type 0} (x y : X) → Some x ≡ None → A
no_two x y e = cc

-- the table that was found has the number
pub found_number : (id : ℕ) (tables : List Table) (t : Table) → table_with_id tables id ≡ Some t → t.id ≡ id
found_number id [] t e = cc
found_number id (x ∷ tables) t e = by (x.id == id) refl (found_number id tables t) e
  where
    by : (b : Bool) → (x.id == id) ≡ b → (table_with_id tables id ≡ Some t → t.id ≡ id) → cond b (Some x) (table_with_id tables id) ≡ Some t → t.id ≡ id
    by true h rest e = ap (λ o. id_or o) (sym e) ∙ eqb-true x.id id h
      where
        id_or : Option Table → ℕ
        id_or None = 0
        id_or (Some y) = y.id
    by false h rest e = rest e

-- a table of the catalog with its newest records is found as it is
pub table_at : (longs : TableValues) (trees : List StoredTable) (tables : List Table) (id : ℕ) → table_with_id (map (with_newest_by longs trees) tables) id ≡ option_map (with_newest_by longs trees) (table_with_id tables id)
table_at longs trees [] id = refl
table_at longs trees (t ∷ tables) id = by (t.id == id) (table_at longs trees tables id)
  where
    by : (b : Bool) → table_with_id (map (with_newest_by longs trees) tables) id ≡ option_map (with_newest_by longs trees) (table_with_id tables id)
        → cond b (Some (with_newest_by longs trees t)) (table_with_id (map (with_newest_by longs trees) tables) id) ≡ option_map (with_newest_by longs trees) (cond b (Some t) (table_with_id tables id))
    by true rest = refl
    by false rest = rest

pub named_at : (longs : TableValues) (trees : List StoredTable) (tables : List Table) (name : List ℕ) → table_named (map (with_newest_by longs trees) tables) name ≡ option_map (with_newest_by longs trees) (table_named tables name)
named_at longs trees [] name = refl
named_at longs trees (t ∷ tables) name = by (bytes_eq t.name name) (named_at longs trees tables name)
  where
    by : (b : Bool) → table_named (map (with_newest_by longs trees) tables) name ≡ option_map (with_newest_by longs trees) (table_named tables name)
        → cond b (Some (with_newest_by longs trees t)) (table_named (map (with_newest_by longs trees) tables) name) ≡ option_map (with_newest_by longs trees) (cond b (Some t) (table_named tables name))
    by true rest = refl
    by false rest = rest

-- without their records the tables are those of the catalog
pub definitions : (longs : TableValues) (trees : List StoredTable) (tables : List Table) → map without_rows (map (with_newest_by longs trees) tables) ≡ map without_rows tables
definitions longs trees [] = refl
definitions longs trees (t ∷ tables) = ap (λ rest. without_rows t ∷ rest) (definitions longs trees tables)

pub defined : (longs : TableValues) (trees : List StoredTable) (o : Option Table) → option_map without_rows (option_map (with_newest_by longs trees) o) ≡ option_map without_rows o
defined longs trees None = refl
defined longs trees (Some t) = refl

-- ---- a table that is not in the catalog has no nodes

abbrev first_number : List (ℕ × List ℕ) → ℕ
first_number [] = 0
first_number (x ∷ xs) = x.0

abbrev pub others : List (ℕ × List ℕ) → List (ℕ × List ℕ)
others [] = []
others (x ∷ xs) = xs

abbrev is_empty : List (ℕ × List ℕ) → Bool
is_empty [] = true
is_empty (x ∷ xs) = false

no_trees : (trees : List StoredTable) (tables : List Table) (id : ℕ) → map tree_numbers trees ≡ map needed_trees tables → table_with_id tables id ≡ None → find (is_table id) trees ≡ None
no_trees [] tables id same none = refl
no_trees (x ∷ trees) [] id same none = absurd (no (ap is_empty same))
  where
    no : false ≡ true → ⊥
    no e = cc
no_trees (x ∷ trees) (t ∷ tables) id same none = by (t.id == id) refl none (no_trees trees tables id (ap others same))
  where
    by : (b : Bool) → (t.id == id) ≡ b → cond b (Some t) (table_with_id tables id) ≡ None → (table_with_id tables id ≡ None → find (is_table id) trees ≡ None) → find (is_table id) (x ∷ trees) ≡ None
    by true h e rest = no_two t t e
    by false h e rest = ap (λ b. cond b (Some x) (find (is_table id) trees)) (ap (λ n. n == id) (ap first_number same) ∙ h) ∙ rest e

pub no_nodes : (trees : List StoredTable) (tables : List Table) (id : ℕ) → map tree_numbers trees ≡ map needed_trees tables → table_with_id tables id ≡ None → table_nodes trees id ≡ []
no_nodes trees tables id same none = ap (λ (o : Option StoredTable). unwrap_or (option_map (λ x. x.nodes) o) []) (no_trees trees tables id same none)

-- ---- newest records

pub newest_at : (longs : TableValues) (trees : List StoredTable) (tables : List Table) → map tree_numbers trees ≡ map needed_trees tables → ((table : ℕ) → are_sorted (bookmark_entries (table_nodes trees table)) ≡ true) → (id : ℕ) (bookmark : List ℕ)
    → record_in (map (with_newest_by longs trees) tables) id bookmark ≡ option_map (record_of (longs id)) (row_under (table_nodes trees id) bookmark)
newest_at longs trees tables same sorted id bookmark = ap (λ o. row_at (rows_of o) bookmark) (table_at longs trees tables id) ∙ by (table_with_id tables id) refl
  where
    by : (o : Option Table) → table_with_id tables id ≡ o → row_at (rows_of (option_map (with_newest_by longs trees) o)) bookmark ≡ option_map (record_of (longs id)) (row_under (table_nodes trees id) bookmark)
    by None e = sym (ap (λ nodes. option_map (record_of (longs id)) (row_under nodes bookmark)) (no_nodes trees tables id same e))
    by (Some t) e = ap (λ n. row_at (rows_of_nodes (longs n) (table_nodes trees n)) bookmark) (found_number id tables t e) ∙ record_at (longs id) (table_nodes trees id) (sorted id) bookmark

-- the newest row under a bookmark is one
pub newest_is_row : (longs : TableValues) (tables : List Table) (trees : List StoredTable) (held : List HeldChange) → AreKeptWith longs tables trees held → (id : ℕ) (bookmark : List ℕ) → IfSome (row_under (table_nodes trees id) bookmark) (IsRecordRow (longs id))
newest_is_row longs tables trees held kept id bookmark = by (table_with_id tables id) refl (kept.each id)
  where
    rows : (t : Table) (row : Option (List ℕ)) → IfSome row (IsRowUnder (longs id) t bookmark) → IfSome row (IsRecordRow (longs id))
    rows t None is = tt
    rows t (Some row) is = is.fits.row

    by : (o : Option Table) → table_with_id tables id ≡ o → IfSome o (IsKeptTable trees (longs id) (table_nodes trees id) (map (held_record_in longs) held)) → IfSome (row_under (table_nodes trees id) bookmark) (IsRecordRow (longs id))
    by None e is = subst (λ nodes. IfSome (row_under nodes bookmark) (IsRecordRow (longs id))) (sym (no_nodes trees tables id kept.numbers e)) tt
    by (Some t) e is = rows t (row_under (table_nodes trees id) bookmark) (is.rows bookmark)

-- ---- rows that stay

pub unchanged : (id : ℕ) (tables : List Table) → with_table id (λ table. record table { rows = table.rows }) tables ≡ tables
unchanged id [] = refl
unchanged id (t ∷ tables) = λ i. same (t.id == id) i ∷ unchanged id tables i
  where
    same : (b : Bool) → cond b (record t { rows = t.rows }) t ≡ t
    same true = refl
    same false = refl
