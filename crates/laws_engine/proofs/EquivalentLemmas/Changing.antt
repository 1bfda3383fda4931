-- What becomes of the essence of a change when its session ends a level or its transaction.
use Rattle.std.proofs.Common.{◌≡◌, ℕ, ◌-◌, Bool, true, false, ◌&&◌, cond, List, [], ◌∷◌, Some, refl, sym, ap, ◌∙◌}
use Rattle.std.specs.Prelude.{◌==◌, find, map, if◌then◌else◌}
use Rattle.column_set.specs.declared.columns.Column.{Column}
use Rattle.column_set.specs.declared.changes.Change.{Change}
use Rattle.database_state.specs.Table.{Table, table_with_id}
use Rattle.database_state.specs.Changes.{is_sum, rows_after, tables_after, tables_after_all}
use Rattle.column_set.specs.ChangedRecords.{changed_table}
use Rattle.database_state.specs.State.{PastChange, committed, undone, is_open, is_undone, is_open_change_of}
use Rattle.database_state.specs.Equivalence.{EssentialChange, columns_of, essential_item, essential_change}
use Rattle.laws_engine.proofs.EquivalentLemmas.Essential.{forgotten, kept_of, open_stands, summed}

-- ---- the columns of a table, after changes of records

columns_with : (id own : ℕ) (rows : Table → Table) → ((t : Table) → (rows t).id ≡ t.id) → ((t : Table) → (rows t).columns ≡ t.columns) → (tables : List Table)
    → columns_of (find (λ (t : Table). t.id == id) (map (λ t. if t.id == own then rows t else t) tables)) ≡ columns_of (find (λ (t : Table). t.id == id) tables)
columns_with id own rows ids columns [] = refl
columns_with id own rows ids columns (t ∷ tables) = by (columns_with id own rows ids columns tables) (t.id == own)
  where
    by : columns_of (find (λ (t : Table). t.id == id) (map (λ t. if t.id == own then rows t else t) tables)) ≡ columns_of (find (λ (t : Table). t.id == id) tables) → (b : Bool)
        → columns_of (cond ((cond b (rows t) t).id == id) (Some (cond b (rows t) t)) (find (λ (t : Table). t.id == id) (map (λ t. if t.id == own then rows t else t) tables)))
        ≡ columns_of (cond (t.id == id) (Some t) (find (λ (t : Table). t.id == id) tables))
    by rest true = ap (λ n. columns_of (cond (n == id) (Some (rows t)) (find (λ (t : Table). t.id == id) (map (λ t. if t.id == own then rows t else t) tables)))) (ids t) ∙ there rest (t.id == id)
      where
        there : columns_of (find (λ (t : Table). t.id == id) (map (λ t. if t.id == own then rows t else t) tables)) ≡ columns_of (find (λ (t : Table). t.id == id) tables) → (b : Bool)
            → columns_of (cond b (Some (rows t)) (find (λ (t : Table). t.id == id) (map (λ t. if t.id == own then rows t else t) tables))) ≡ columns_of (cond b (Some t) (find (λ (t : Table). t.id == id) tables))
        there rest true = columns t
        there rest false = rest
    by rest false = same rest (t.id == id)
      where
        same : columns_of (find (λ (t : Table). t.id == id) (map (λ t. if t.id == own then rows t else t) tables)) ≡ columns_of (find (λ (t : Table). t.id == id) tables) → (b : Bool)
            → columns_of (cond b (Some t) (find (λ (t : Table). t.id == id) (map (λ t. if t.id == own then rows t else t) tables))) ≡ columns_of (cond b (Some t) (find (λ (t : Table). t.id == id) tables))
        same rest true = refl
        same rest false = rest

pub columns_after : (id : ℕ) (changes : List Change) (tables : List Table) → columns_of (table_with_id (tables_after_all tables changes) id) ≡ columns_of (table_with_id tables id)
columns_after id [] tables = refl
columns_after id (change ∷ changes) tables =
    columns_after id changes (tables_after tables change)
    ∙ columns_with id (changed_table change) (λ table. record table { rows = rows_after table.rows change }) (λ t. refl) (λ t. refl) tables

-- ---- changes that pass a test

-- of which those that pass become another, and their essences too
pub changed_alike : (tables after : List Table) (test : PastChange → Bool) (change : PastChange → PastChange) (essential : EssentialChange → EssentialChange)
    → ((x : PastChange) → test (essential_change tables x).item ≡ test x) → ((x : PastChange) → essential_change after x ≡ essential_change tables x)
    → ((x : PastChange) → test x ≡ true → essential_change after (change x) ≡ essential (essential_change tables x))
    → (x : PastChange) → essential_change after (if test x then change x else x) ≡ (if test (essential_change tables x).item then essential (essential_change tables x) else essential_change tables x)
changed_alike tables after test change essential told same step x =
    by (test x) refl ∙ ap (λ b. cond b (essential (essential_change tables x)) (essential_change tables x)) (sym (told x))
  where
    by : (b : Bool) → test x ≡ b → essential_change after (cond b (change x) x) ≡ cond b (essential (essential_change tables x)) (essential_change tables x)
    by true e = step x e
    by false e = same x

pub told_own : (tables : List Table) (session : ℕ) (test : PastChange → Bool) → ((columns : List Column) (x : PastChange) → test (forgotten x) ≡ test x) → ((columns : List Column) (x : PastChange) → test (summed columns x) ≡ test x)
    → (x : PastChange) → (is_open_change_of session (essential_change tables x).item && test (essential_change tables x).item) ≡ (is_open_change_of session x && test x)
told_own tables session test f s x =
    let columns = columns_of (table_with_id tables (changed_table x.change)) in
    kept_of (λ y. is_open_change_of session y && test y) columns x (ap (λ b. is_open_change_of session x && b) (f columns x)) (ap (λ b. is_open_change_of session x && b) (s columns x))

-- ---- what becomes of them

pub lowered_alike : (tables : List Table) (x : PastChange) → essential_change tables (record x { level = x.level - 1 }) ≡ record (essential_change tables x) { item = record (essential_change tables x).item { level = (essential_change tables x).item.level - 1 } }
lowered_alike tables x = ap (λ (item : PastChange). record (essential_change tables x) { item = item }) (by (is_undone x.status) (is_sum x.change))
  where
    columns : List Column
    columns = columns_of (table_with_id tables (changed_table x.change))

    by : (a b : Bool) → cond a (forgotten (record x { level = x.level - 1 })) (cond b (summed columns (record x { level = x.level - 1 })) (record x { level = x.level - 1 }))
        ≡ record (cond a (forgotten x) (cond b (summed columns x) x)) { level = (cond a (forgotten x) (cond b (summed columns x) x)).level - 1 }
    by true b = refl
    by false true = refl
    by false false = refl

pub committed_alike : (tables after : List Table) (number : ℕ) (x : PastChange) → columns_of (table_with_id after (changed_table x.change)) ≡ columns_of (table_with_id tables (changed_table x.change)) → is_open x.status ≡ true
    → essential_change after (record x { status = committed number }) ≡ record (essential_change tables x) { item = record (essential_change tables x).item { status = committed number } }
committed_alike tables after number x same own =
    ap (λ (item : PastChange). record (essential_change tables x) { item = item })
    (ap (λ columns. essential_item columns (record x { status = committed number })) same ∙ by (is_sum x.change)
    ∙ ap (λ a. record (cond a (forgotten x) (cond (is_sum x.change) (summed columns x) x)) { status = committed number }) (sym (open_stands x.status own)))
  where
    columns : List Column
    columns = columns_of (table_with_id tables (changed_table x.change))

    by : (b : Bool) → cond b (summed columns (record x { status = committed number })) (record x { status = committed number }) ≡ record (cond b (summed columns x) x) { status = committed number }
    by true = refl
    by false = refl

pub undone_alike : (tables : List Table) (x : PastChange) → is_open x.status ≡ true
    → essential_change tables (record x { status = undone }) ≡ record (essential_change tables x) { item = forgotten (record (essential_change tables x).item { status = undone }) }
undone_alike tables x own =
    ap (λ (item : PastChange). record (essential_change tables x) { item = item })
    (by (is_sum x.change) ∙ ap (λ a. forgotten (record (cond a (forgotten x) (cond (is_sum x.change) (summed columns x) x)) { status = undone })) (sym (open_stands x.status own)))
  where
    columns : List Column
    columns = columns_of (table_with_id tables (changed_table x.change))

    by : (b : Bool) → forgotten (record x { status = undone }) ≡ forgotten (record (cond b (summed columns x) x) { status = undone })
    by true = refl
    by false = refl

-- of tables with the same columns
pub same_essence : (tables after : List Table) → ((id : ℕ) → columns_of (table_with_id after id) ≡ columns_of (table_with_id tables id)) → (x : PastChange) → essential_change after x ≡ essential_change tables x
same_essence tables after same x = ap (λ columns. record (essential_change tables x) { item = essential_item columns x }) (same (changed_table x.change))
