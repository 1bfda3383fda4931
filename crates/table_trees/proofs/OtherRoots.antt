-- The roots of trees that the catalog does not name.
use Rattle.std.proofs.Common.{◌≡◌, ℕ, ◌==◌, Bool, true, false, if◌then◌else◌, Option, Some, None, List, [], ◌∷◌, ◌++◌, find, get_or, map, option_map, unwrap_or, refl, sym, ap, subst, ◌∙◌, arith, true≢false}
use Rattle.std.specs.Prelude.{All, IfSome, nat_lt}
use Rattle.std.specs.List.{list_any}
use Rattle.std.proofs.lemmas.Bool.{and_parts, eq-eqb, eqb-true}
use Rattle.std.proofs.lemmas.List.Elements.{All-cons, All-nil}
use Rattle.common_lemmas.proofs.Booleans.{by_test}
use Rattle.database_state.specs.Table.{Table, table_with_id}
use Rattle.jet_catalog.specs.Catalog.{CatalogState}
use Rattle.catalog_grammar.specs.Catalogs.{TableRoots, rise_above}
use Rattle.catalog_grammar.specs.CatalogSteps.{HasSameRoots, Roots, has_index, has_nodes, nodes_of_catalog, rooted_tables}
use Rattle.catalog_grammar.proofs.Fitting.{fits_has}
use Rattle.catalog_grammar.proofs.Numbered.{none_above}
use Rattle.catalog_grammar.proofs.StepNodes.{table_numbers}
use Rattle.table_trees.specs.StoredTables.{changed_where, without_where}
use Rattle.table_trees.specs.StoredTrees.{StoredCatalog, StoredRoots, are_roots_of, new_roots, no_roots, put_roots, root_behind, roots_by_number, told_roots, with_index_root, with_root_of, with_table_roots, without_index_root, without_root_of, without_table_roots}
use Rattle.table_trees.specs.ShownCatalogs.{ShowsCatalog}

-- what the law of the catalog says
pub record OthersDoNotCount : Type 0 where
  pub nodes : (one other : Roots) (catalog : CatalogState) → All (HasSameRoots one other) catalog.tables → nodes_of_catalog one catalog ≡ nodes_of_catalog other catalog
  pub writable : (one other : Roots) (catalog : CatalogState) → All (HasSameRoots one other) catalog.tables → has_nodes one catalog ≡ has_nodes other catalog

-- ---- what is found by another number

flipped : (n m : ℕ) → (m == n) ≡ false → (n == m) ≡ false
flipped n m f = by_test (n == m) (λ t. absurd (true≢false (sym (ap (λ k. m == k) (eqb-true n m t) ∙ eq-eqb m m refl) ∙ f))) (λ t. t)

differs : (a n m : ℕ) → (a == n) ≡ true → (m == n) ≡ false → (a == m) ≡ false
differs a n m e f = ap (λ k. k == m) (eqb-true a n e) ∙ flipped n m f

found_before : {X : Type 0} (q : X → Bool) (xs : List X) (x : X) → q x ≡ false → find q (xs ++ x ∷ []) ≡ find q xs
found_before q [] x e = rw e refl
found_before q (y ∷ xs) x e =
    by_test (q y)
    (λ t. rw t refl)
    (λ t. rw t (found_before q xs x e))

found_without : {X : Type 0} (q p : X → Bool) (xs : List X) → ((x : X) → p x ≡ true → q x ≡ false) → find q (without_where p xs) ≡ find q xs
found_without q p [] apart = refl
found_without q p (x ∷ xs) apart =
    by_test (p x)
    (λ t. let other = apart x t in rw (t, other) (found_without q p xs apart))
    (λ t. rw t (by_test (q x) (λ h. rw h refl) (λ h. rw h (found_without q p xs apart))))

found_changed : {X : Type 0} (q p : X → Bool) (f : X → X) (xs : List X) → ((x : X) → q (f x) ≡ q x) → find q (changed_where p f xs) ≡ option_map (λ x. if p x then f x else x) (find q xs)
found_changed q p f [] same = refl
found_changed {X} q p f (x ∷ xs) same =
    let here : q (if p x then f x else x) ≡ q x = either (p x) in
    rw here (by_test (q x) (λ t. rw t refl) (λ t. rw t (found_changed q p f xs same)))
  where
    either : (b : Bool) → q (if b then f x else x) ≡ q x
    either true = same x
    either false = refl

found_beside : {X : Type 0} (q p : X → Bool) (f : X → X) (xs : List X) → ((x : X) → p x ≡ true → (q (f x) ≡ false) × (q x ≡ false)) → find q (changed_where p f xs) ≡ find q xs
found_beside q p f [] apart = refl
found_beside q p f (x ∷ xs) apart =
    by_test (p x)
    (λ t. let other = apart x t in let is = other.0 in let was = other.1 in rw (t, is, was) (found_beside q p f xs apart))
    (λ t. rw t (by_test (q x) (λ h. rw h refl) (λ h. rw h (found_beside q p f xs apart))))

-- ---- the trees of a table

abbrev told : Option StoredRoots → TableRoots
told o = unwrap_or (option_map told_roots o) no_roots

same_roots : (one other : Roots) (t : Table) → one t.id ≡ other t.id → HasSameRoots one other t
same_roots one other t e = record {
  records = ap (λ (r : TableRoots). r.records) e;
  long_values = ap (λ (r : TableRoots). r.long_values) e;
  indexes = λ k d lt. ap (λ (r : TableRoots). r.indexes (get_or t.indexes k d).id.0) e;
}

-- A change of a table's roots keeps all but that of one index.
record KeepsOthers (i : ℕ) (f : StoredRoots → StoredRoots) : Type 0 where
  number : (r : StoredRoots) → (f r).number ≡ r.number
  records : (r : StoredRoots) → (f r).records ≡ r.records
  long_values : (r : StoredRoots) → (f r).long_values ≡ r.long_values
  others : (r : StoredRoots) (j : ℕ) → (j == i) ≡ false → root_behind j (f r).indexes ≡ root_behind j r.indexes

with_keeps : (i root : ℕ) → KeepsOthers i (with_index_root i root)
with_keeps i root = record {
  number = λ r. refl;
  records = λ r. refl;
  long_values = λ r. refl;
  others = λ r j other. ap (λ (o : Option (ℕ × ℕ)). unwrap_or (option_map (λ x. x.1) o) 0) (found_before (λ x. x.0 == j) r.indexes (i, root) (flipped i j other));
}

without_keeps : (i : ℕ) → KeepsOthers i (without_index_root i)
without_keeps i = record {
  number = λ r. refl;
  records = λ r. refl;
  long_values = λ r. refl;
  others = λ r j other. ap (λ (o : Option (ℕ × ℕ)). unwrap_or (option_map (λ x. x.1) o) 0) (found_without (λ x. x.0 == j) (λ x. x.0 == i) r.indexes (λ x t. differs x.0 i j t other));
}

abbrev where_it_is : (StoredRoots → Bool) → (StoredRoots → StoredRoots) → StoredRoots → StoredRoots
where_it_is p f r = if p r then f r else r

keeps_where : (i : ℕ) (p : StoredRoots → Bool) (f : StoredRoots → StoredRoots) → KeepsOthers i f → KeepsOthers i (where_it_is p f)
keeps_where i p f k = record {
  number = λ r. by_number r (p r);
  records = λ r. by_records r (p r);
  long_values = λ r. by_long r (p r);
  others = λ r j other. by_others r j other (p r);
}
  where
    by_number : (r : StoredRoots) (b : Bool) → (if b then f r else r).number ≡ r.number
    by_number r true = k.number r
    by_number r false = refl

    by_records : (r : StoredRoots) (b : Bool) → (if b then f r else r).records ≡ r.records
    by_records r true = k.records r
    by_records r false = refl

    by_long : (r : StoredRoots) (b : Bool) → (if b then f r else r).long_values ≡ r.long_values
    by_long r true = k.long_values r
    by_long r false = refl

    by_others : (r : StoredRoots) (j : ℕ) → (j == i) ≡ false → (b : Bool) → root_behind j (if b then f r else r).indexes ≡ root_behind j r.indexes
    by_others r j other true = k.others r j other
    by_others r j other false = refl

told_records : (i : ℕ) (g : StoredRoots → StoredRoots) → KeepsOthers i g → (o : Option StoredRoots) → (told (option_map g o)).records ≡ (told o).records
told_records i g k None = refl
told_records i g k (Some r) = k.records r

told_long : (i : ℕ) (g : StoredRoots → StoredRoots) → KeepsOthers i g → (o : Option StoredRoots) → (told (option_map g o)).long_values ≡ (told o).long_values
told_long i g k None = refl
told_long i g k (Some r) = k.long_values r

told_index : (i : ℕ) (g : StoredRoots → StoredRoots) → KeepsOthers i g → (o : Option StoredRoots) (j : ℕ) → (j == i) ≡ false → (told (option_map g o)).indexes j ≡ (told o).indexes j
told_index i g k None j other = refl
told_index i g k (Some r) j other = k.others r j other

none_at : {X : Type 0} (p : X → Bool) (xs : List X) → list_any p xs ≡ false → All (λ x. p x ≡ false) xs
none_at p [] e = All-nil (λ x. p x ≡ false)
none_at p (x ∷ xs) e =
    by_test (p x)
    (λ t. absurd (true≢false (rw t at e)))
    (λ t. All-cons (λ x. p x ≡ false) x xs t (none_at p xs (rw t at e)))

-- one index of a table that does not name it
beside_index : (n i : ℕ) (f : StoredRoots → StoredRoots) (list : List StoredRoots) (t : Table) → KeepsOthers i f → has_index t i ≡ false → HasSameRoots (roots_by_number list) (roots_by_number (changed_where (are_roots_of n) f list)) t
beside_index n i f list t keeps new =
    let g = where_it_is (are_roots_of n) f in
    let k = keeps_where i (are_roots_of n) f keeps in
    let found : find (are_roots_of t.id) (changed_where (are_roots_of n) f list) ≡ option_map g (find (are_roots_of t.id) list) =
    found_changed (are_roots_of t.id) (are_roots_of n) f list (λ r. ap (λ m. m == t.id) (keeps.number r)) in
    let was = find (are_roots_of t.id) list in
    record {
      records = sym (ap (λ (o : Option StoredRoots). (told o).records) found ∙ told_records i g k was);
      long_values = sym (ap (λ (o : Option StoredRoots). (told o).long_values) found ∙ told_long i g k was);
      indexes = λ at d lt. sym (ap (λ (o : Option StoredRoots). (told o).indexes (get_or t.indexes at d).id.0) found ∙ told_index i g k was (get_or t.indexes at d).id.0 (none_at (λ made. made.id.0 == i) t.indexes new at d lt));
    }

-- another table
beside_table : (n : ℕ) (f : StoredRoots → StoredRoots) (list : List StoredRoots) (t : Table) → ((r : StoredRoots) → (f r).number ≡ r.number) → (t.id == n) ≡ false → HasSameRoots (roots_by_number list) (roots_by_number (changed_where (are_roots_of n) f list)) t
beside_table n f list t same apart =
    same_roots (roots_by_number list) (roots_by_number (changed_where (are_roots_of n) f list)) t
    (ap told (sym (found_beside (are_roots_of t.id) (are_roots_of n) f list (λ r e. let other = differs r.number n t.id e apart in (ap (λ m. m == t.id) (same r) ∙ other, other)))))

-- ---- all tables of a catalog

all_same : (one other : Roots) (n low : ℕ) (tables : List Table) → rise_above low (map (λ t. t.id) tables) ≡ true → ((t : Table) → (t.id == n) ≡ false → HasSameRoots one other t) → IfSome (table_with_id tables n) (HasSameRoots one other) → All (HasSameRoots one other) tables
all_same one other n low [] rise apart here = All-nil (HasSameRoots one other)
all_same one other n low (t ∷ tables) rise apart here =
    let r = and_parts (nat_lt low t.id) (rise_above t.id (map (λ t. t.id) tables)) rise in
    by_test (t.id == n)
    (λ e.
    let first : HasSameRoots one other t = rw e at here in
    let same : t.id ≡ n = eqb-true t.id n e in
    let rest = none_at (λ x. x.id == n) tables (none_above (λ x. x.id) n t.id tables (omega (arith, same)) r.1) in
    All-cons (HasSameRoots one other) t tables first (λ k d lt. apart (get_or tables k d) (rest k d lt)))
    (λ e.
    let later : IfSome (table_with_id tables n) (HasSameRoots one other) = rw e at here in
    All-cons (HasSameRoots one other) t tables (apart t e) (all_same one other n t.id tables r.1 apart later))

ids_rise : (roots : Roots) (catalog : CatalogState) → has_nodes roots catalog ≡ true → rise_above 0 (map (λ t. t.id) catalog.tables) ≡ true
ids_rise roots catalog fits = ap (rise_above 0) (sym (table_numbers roots catalog.tables)) ∙ (fits_has catalog.greatest_table (rooted_tables roots catalog.tables) fits).rise

shows_as : OthersDoNotCount → (stored : StoredCatalog) (list : List StoredRoots) (catalog : CatalogState) → All (HasSameRoots (roots_by_number stored.roots) (roots_by_number list)) catalog.tables → ShowsCatalog stored catalog → ShowsCatalog (put_roots list stored) catalog
shows_as law stored list catalog all shows = record {
  nodes = shows.nodes ∙ law.nodes (roots_by_number stored.roots) (roots_by_number list) catalog all;
  writable = sym (law.writable (roots_by_number stored.roots) (roots_by_number list) catalog all) ∙ shows.writable;
}

-- ---- trees that come and go

no_such : (one other : Roots) (tables : List Table) (n : ℕ) → table_with_id tables n ≡ None → IfSome (table_with_id tables n) (HasSameRoots one other)
no_such one other tables n e = subst (λ (o : Option Table). IfSome o (HasSameRoots one other)) (sym e) tt

pub table_comes : OthersDoNotCount → (stored : StoredCatalog) (catalog : CatalogState) (n records long_values : ℕ) → ShowsCatalog stored catalog → table_with_id catalog.tables n ≡ None → ShowsCatalog (with_table_roots n records long_values stored) catalog
table_comes law stored catalog n records long_values shows none =
    let list = stored.roots ++ new_roots n records long_values ∷ [] in
    let one = roots_by_number stored.roots in
    let other = roots_by_number list in
    shows_as law stored list catalog
    (all_same one other n 0 catalog.tables (ids_rise one catalog shows.writable)
    (λ t apart. same_roots one other t (ap told (sym (found_before (are_roots_of t.id) stored.roots (new_roots n records long_values) (flipped n t.id apart)))))
    (no_such one other catalog.tables n none)) shows

pub table_goes : OthersDoNotCount → (stored : StoredCatalog) (catalog : CatalogState) (n : ℕ) → ShowsCatalog stored catalog → table_with_id catalog.tables n ≡ None → ShowsCatalog (without_table_roots n stored) catalog
table_goes law stored catalog n shows none =
    let list = without_where (are_roots_of n) stored.roots in
    let one = roots_by_number stored.roots in
    let other = roots_by_number list in
    shows_as law stored list catalog
    (all_same one other n 0 catalog.tables (ids_rise one catalog shows.writable)
    (λ t apart. same_roots one other t (ap told (sym (found_without (are_roots_of t.id) (are_roots_of n) stored.roots (λ r e. differs r.number n t.id e apart)))))
    (no_such one other catalog.tables n none)) shows

index_changes : OthersDoNotCount → (stored : StoredCatalog) (catalog : CatalogState) (n i : ℕ) (f : StoredRoots → StoredRoots) → KeepsOthers i f → ShowsCatalog stored catalog → IfSome (table_with_id catalog.tables n) (λ t. has_index t i ≡ false) → ShowsCatalog (put_roots (changed_where (are_roots_of n) f stored.roots) stored) catalog
index_changes law stored catalog n i f keeps shows new =
    let list = changed_where (are_roots_of n) f stored.roots in
    let one = roots_by_number stored.roots in
    let other = roots_by_number list in
    shows_as law stored list catalog
    (all_same one other n 0 catalog.tables (ids_rise one catalog shows.writable)
    (λ t apart. beside_table n f stored.roots t keeps.number apart)
    (there (table_with_id catalog.tables n) new)) shows
  where
    there : (o : Option Table) → IfSome o (λ t. has_index t i ≡ false) → IfSome o (HasSameRoots (roots_by_number stored.roots) (roots_by_number (changed_where (are_roots_of n) f stored.roots)))
    there None h = tt
    there (Some t) h = beside_index n i f stored.roots t keeps h

pub index_comes : OthersDoNotCount → (stored : StoredCatalog) (catalog : CatalogState) (n i root : ℕ) → ShowsCatalog stored catalog → IfSome (table_with_id catalog.tables n) (λ t. has_index t i ≡ false) → ShowsCatalog (with_root_of n i root stored) catalog
index_comes law stored catalog n i root shows new = index_changes law stored catalog n i (with_index_root i root) (with_keeps i root) shows new

pub index_goes : OthersDoNotCount → (stored : StoredCatalog) (catalog : CatalogState) (n i : ℕ) → ShowsCatalog stored catalog → IfSome (table_with_id catalog.tables n) (λ t. has_index t i ≡ false) → ShowsCatalog (without_root_of n i stored) catalog
index_goes law stored catalog n i shows new = index_changes law stored catalog n i (without_index_root i) (without_keeps i) shows new
