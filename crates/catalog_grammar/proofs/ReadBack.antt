-- The tables that the items of a catalog tell are its own.
use Rattle.std.proofs.Common.{◌≡◌, ◌≢◌, ℕ, ◌<◌, ◌≤◌, Bool, true, false, cond, ltb, eqb, ◌&&◌, List, [], ◌∷◌, ◌++◌, refl, sym, ap, ◌∙◌, arith}
use Rattle.std.specs.Prelude.{map}
use Rattle.std.specs.List.{flat_map, list_all}
use Rattle.std.proofs.lemmas.Bool.{and_parts, ltb-true, eq-eqb, eqb-true}
use Rattle.std.proofs.lemmas.List.{append-nil}
use Rattle.std.proofs.lemmas.List.Concat.{flat_map-append}
use Rattle.column_set.specs.declared.columns.Column.{Column}
use Rattle.index_derive.specs.declared.rules.IndexRule.{IndexRule}
use Rattle.page_image.specs.Page.{Node}
use Rattle.catalog_grammar.specs.CatalogBytes.{item_data, item_fits, item_key, item_node}
use Rattle.catalog_grammar.specs.Catalogs.{CatalogTable, catalog_fits, catalog_items, catalog_nodes, column_items, column_told, has_rising_parts, index_items, index_told, rise_above, table_told, tables_told}
use Rattle.catalog_grammar.specs.declared.items.CatalogItem.{CatalogItem}
use Rattle.catalog_grammar.specs.declared.items.CatalogItem.TheVariants as item
use Rattle.catalog_grammar.specs.declared.items.TableItem.{TableItem}
use Rattle.catalog_grammar.proofs.ItemLaws.{one_spelling}

-- ---- what a function tells of items

-- nothing
tells_none : {X A : Type 0} (f : CatalogItem → List A) (to : X → CatalogItem) → ((x : X) → f (to x) ≡ []) → (xs : List X) → flat_map f (map to xs) ≡ []
tells_none f to none [] = refl
tells_none {A = A} f to none (x ∷ xs) = ap (λ (l : List A). l ++ flat_map f (map to xs)) (none x) ∙ tells_none f to none xs

-- each
tells_each : {X : Type 0} (f : CatalogItem → List X) (to : X → CatalogItem) → ((x : X) → f (to x) ≡ x ∷ []) → (xs : List X) → flat_map f (map to xs) ≡ xs
tells_each f to each [] = refl
tells_each {X = X} f to each (x ∷ xs) = ap (λ (l : List X). l ++ flat_map f (map to xs)) (each x) ∙ ap (λ (l : List X). x ∷ l) (tells_each f to each xs)

none_of_parts : {A : Type 0} (f : CatalogItem → List A) (part : CatalogTable → List CatalogItem) → ((x : CatalogTable) → flat_map f (part x) ≡ []) → (tables : List CatalogTable) → flat_map f (flat_map part tables) ≡ []
none_of_parts f part none [] = refl
none_of_parts {A = A} f part none (x ∷ xs) =
    flat_map-append f (part x) (flat_map part xs) ∙ ap (λ (l : List A). l ++ flat_map f (flat_map part xs)) (none x) ∙ none_of_parts f part none xs

-- ---- of one table

-- a function tells of a table what its part has, and nothing of another's
record Reads {A : Type 0} (f : ℕ → CatalogItem → List A) (part : CatalogTable → List CatalogItem) (value : CatalogTable → List A) : Type 0 where
  own : (x : CatalogTable) → flat_map (f x.table.id.0) (part x) ≡ value x
  other : (x : CatalogTable) (n : ℕ) → x.table.id.0 ≢ n → flat_map (f n) (part x) ≡ []

abbrev EachTable : (CatalogTable → Type 0) → List CatalogTable → Type 0
EachTable P [] = Unit {0}
EachTable P (x ∷ xs) = P x × EachTable P xs

none_upto : {A : Type 0} (f : ℕ → CatalogItem → List A) (part : CatalogTable → List CatalogItem) (value : CatalogTable → List A) → Reads f part value → (n low : ℕ) (tables : List CatalogTable) → n ≤ low → rise_above low (map (λ x. x.table.id.0) tables) ≡ true → flat_map (f n) (flat_map part tables) ≡ []
none_upto f part value r n low [] le h = refl
none_upto {A = A} f part value r n low (x ∷ xs) le h =
    let id = x.table.id.0 in
    let a = and_parts (ltb low id) (rise_above id (map (λ (y : CatalogTable). y.table.id.0) xs)) h in
    let lt : low < id = ltb-true _ _ a.0 in
    let differs : id ≢ n = λ e. omega (arith, e) in
    let later : n ≤ id = omega arith in
    flat_map-append (f n) (part x) (flat_map part xs) ∙ ap (λ (l : List A). l ++ flat_map (f n) (flat_map part xs)) (r.other x n differs) ∙ none_upto f part value r n id xs later a.1

-- with items of a table before all of them in front
behind_another : {A : Type 0} (f : ℕ → CatalogItem → List A) (part : CatalogTable → List CatalogItem) (value : CatalogTable → List A) → Reads f part value → (x : CatalogTable) (items : List CatalogItem) (low : ℕ) (tables : List CatalogTable) → x.table.id.0 ≤ low → rise_above low (map (λ y. y.table.id.0) tables) ≡ true
    → EachTable (λ y. flat_map (f y.table.id.0) items ≡ value y) tables → EachTable (λ y. flat_map (f y.table.id.0) (part x ++ items) ≡ value y) tables
behind_another f part value r x items low [] le h e = tt
behind_another {A = A} f part value r x items low (y ∷ ys) le h e =
    let id = y.table.id.0 in
    let a = and_parts (ltb low id) (rise_above id (map (λ (z : CatalogTable). z.table.id.0) ys)) h in
    let lt : low < id = ltb-true _ _ a.0 in
    let differs : x.table.id.0 ≢ id = λ same. omega (arith, same) in
    let later : x.table.id.0 ≤ id = omega arith in
    (flat_map-append (f id) (part x) items ∙ ap (λ (l : List A). l ++ flat_map (f id) items) (r.other x id differs) ∙ e.0, behind_another f part value r x items id ys later a.1 e.1)

each_told : {A : Type 0} (f : ℕ → CatalogItem → List A) (part : CatalogTable → List CatalogItem) (value : CatalogTable → List A) → Reads f part value → (low : ℕ) (tables : List CatalogTable) → rise_above low (map (λ x. x.table.id.0) tables) ≡ true → EachTable (λ x. flat_map (f x.table.id.0) (flat_map part tables) ≡ value x) tables
each_told f part value r low [] h = tt
each_told {A = A} f part value r low (x ∷ xs) h =
    let id = x.table.id.0 in
    let a = and_parts (ltb low id) (rise_above id (map (λ (y : CatalogTable). y.table.id.0) xs)) h in
    let same : id ≤ id = omega arith in
    let own : flat_map (f id) (part x ++ flat_map part xs) ≡ value x =
    flat_map-append (f id) (part x) (flat_map part xs)
    ∙ ap (λ (l : List A). l ++ flat_map (f id) (flat_map part xs)) (r.own x)
    ∙ ap (λ (l : List A). value x ++ l) (none_upto f part value r id id xs same a.1)
    ∙ append-nil (value x) in
    (own, behind_another f part value r x (flat_map part xs) id xs same a.1 (each_told f part value r id xs a.1))

-- ---- columns and indexes

eqb-false : (m n : ℕ) → m ≢ n → eqb m n ≡ false
eqb-false m n h = step (eqb m n) refl where
  step : (b : Bool) → eqb m n ≡ b → eqb m n ≡ false
  step true e = absurd (h (eqb-true m n e))
  step false e = e

reads_columns : Reads column_told column_items (λ x. x.columns)
reads_columns = record {
  own = λ x. tells_each (column_told x.table.id.0) (λ (c : Column). item.Column x.table.id c) (λ c. ap (λ (b : Bool). cond b (c ∷ []) []) (eq-eqb x.table.id.0 x.table.id.0 refl)) x.columns;
  other = λ x n h. tells_none (column_told n) (λ (c : Column). item.Column x.table.id c) (λ c. ap (λ (b : Bool). cond b (c ∷ []) []) (eqb-false x.table.id.0 n h)) x.columns;
}

reads_indexes : Reads index_told index_items (λ x. x.indexes)
reads_indexes = record {
  own = λ x. tells_each (index_told x.table.id.0) (λ (c : ℕ × IndexRule). item.Index x.table.id c.0 c.1) (λ c. ap (λ (b : Bool). cond b (c ∷ []) []) (eq-eqb x.table.id.0 x.table.id.0 refl)) x.indexes;
  other = λ x n h. tells_none (index_told n) (λ (c : ℕ × IndexRule). item.Index x.table.id c.0 c.1) (λ c. ap (λ (b : Bool). cond b (c ∷ []) []) (eqb-false x.table.id.0 n h)) x.indexes;
}

-- ---- the whole

abbrev table_items : List CatalogTable → List CatalogItem
table_items tables = map (λ x. item.Table x.table) tables

rest_told : {A : Type 0} (f : CatalogItem → List A) (greatest : ℕ) (tables : List CatalogTable) → f (item.Greatest greatest) ≡ [] → flat_map f (catalog_items greatest tables) ≡ flat_map f (table_items tables) ++ (flat_map f (flat_map column_items tables) ++ flat_map f (flat_map index_items tables))
rest_told {A = A} f greatest tables none =
    ap (λ (l : List A). l ++ flat_map f (table_items tables ++ (flat_map column_items tables ++ flat_map index_items tables))) none
    ∙ flat_map-append f (table_items tables) (flat_map column_items tables ++ flat_map index_items tables)
    ∙ ap (λ (l : List A). flat_map f (table_items tables) ++ l) (flat_map-append f (flat_map column_items tables) (flat_map index_items tables))

columns_only : (n greatest : ℕ) (tables : List CatalogTable) → flat_map (column_told n) (catalog_items greatest tables) ≡ flat_map (column_told n) (flat_map column_items tables)
columns_only n greatest tables =
    let f = column_told n in
    rest_told f greatest tables refl
    ∙ ap (λ (l : List Column). l ++ (flat_map f (flat_map column_items tables) ++ flat_map f (flat_map index_items tables))) (tells_none f (λ (x : CatalogTable). item.Table x.table) (λ x. refl) tables)
    ∙ ap (λ (l : List Column). flat_map f (flat_map column_items tables) ++ l) (none_of_parts f index_items (λ x. tells_none f (λ (c : ℕ × IndexRule). item.Index x.table.id c.0 c.1) (λ c. refl) x.indexes) tables)
    ∙ append-nil (flat_map f (flat_map column_items tables))

indexes_only : (n greatest : ℕ) (tables : List CatalogTable) → flat_map (index_told n) (catalog_items greatest tables) ≡ flat_map (index_told n) (flat_map index_items tables)
indexes_only n greatest tables =
    let f = index_told n in
    rest_told f greatest tables refl
    ∙ ap (λ (l : List (ℕ × IndexRule)). l ++ (flat_map f (flat_map column_items tables) ++ flat_map f (flat_map index_items tables))) (tells_none f (λ (x : CatalogTable). item.Table x.table) (λ x. refl) tables)
    ∙ ap (λ (l : List (ℕ × IndexRule)). l ++ flat_map f (flat_map index_items tables)) (none_of_parts f column_items (λ x. tells_none f (λ (c : Column). item.Column x.table.id c) (λ c. refl) x.columns) tables)

own_tables : (tables : List CatalogTable) → flat_map table_told (table_items tables) ≡ map (λ x. x.table) tables
own_tables [] = refl
own_tables (x ∷ xs) = ap (λ (l : List TableItem). x.table ∷ l) (own_tables xs)

tables_only : (greatest : ℕ) (tables : List CatalogTable) → flat_map table_told (catalog_items greatest tables) ≡ map (λ x. x.table) tables
tables_only greatest tables =
    let f = table_told in
    rest_told f greatest tables refl
    ∙ ap (λ (l : List TableItem). l ++ (flat_map f (flat_map column_items tables) ++ flat_map f (flat_map index_items tables))) (own_tables tables)
    ∙ ap (λ (l : List TableItem). map (λ x. x.table) tables ++ (l ++ flat_map f (flat_map index_items tables))) (none_of_parts f column_items (λ x. tells_none f (λ (c : Column). item.Column x.table.id c) (λ c. refl) x.columns) tables)
    ∙ ap (λ (l : List TableItem). map (λ x. x.table) tables ++ l) (none_of_parts f index_items (λ x. tells_none f (λ (c : ℕ × IndexRule). item.Index x.table.id c.0 c.1) (λ c. refl) x.indexes) tables)
    ∙ append-nil (map (λ x. x.table) tables)

abbrev told_of : List CatalogItem → TableItem → CatalogTable
told_of items table = record { table = table; columns = flat_map (column_told table.id.0) items; indexes = flat_map (index_told table.id.0) items }

rebuilt : (items : List CatalogItem) (tables : List CatalogTable) → EachTable (λ x. flat_map (column_told x.table.id.0) items ≡ x.columns) tables → EachTable (λ x. flat_map (index_told x.table.id.0) items ≡ x.indexes) tables → map (told_of items) (map (λ x. x.table) tables) ≡ tables
rebuilt items [] c i = refl
rebuilt items (x ∷ xs) c i =
    let one : told_of items x.table ≡ x = λ k. record { table = x.table; columns = c.0 k; indexes = i.0 k } in
    ap (λ (y : CatalogTable). y ∷ map (told_of items) (map (λ z. z.table) xs)) one ∙ ap (λ (l : List CatalogTable). x ∷ l) (rebuilt items xs c.1 i.1)

EachTable-made : (P Q : CatalogTable → Type 0) → ((x : CatalogTable) → P x → Q x) → (xs : List CatalogTable) → EachTable P xs → EachTable Q xs
EachTable-made P Q f [] h = tt
EachTable-made P Q f (x ∷ xs) h = (f x h.0, EachTable-made P Q f xs h.1)

rising_tables : (greatest : ℕ) (tables : List CatalogTable) → catalog_fits greatest tables ≡ true → rise_above 0 (map (λ x. x.table.id.0) tables) ≡ true
rising_tables greatest tables h =
    let ids = rise_above 0 (map (λ (x : CatalogTable). x.table.id.0) tables) in
    let a = and_parts (list_all item_fits (catalog_items greatest tables)) (ids && list_all has_rising_parts tables) h in
    (and_parts ids (list_all has_rising_parts tables) a.1).0

pub told_again : (greatest : ℕ) (tables : List CatalogTable) → catalog_fits greatest tables ≡ true → tables_told (catalog_items greatest tables) ≡ tables
told_again greatest tables h =
    let items = catalog_items greatest tables in
    let rising = rising_tables greatest tables h in
    let c = EachTable-made (λ x. flat_map (column_told x.table.id.0) (flat_map column_items tables) ≡ x.columns) (λ x. flat_map (column_told x.table.id.0) items ≡ x.columns) (λ x e. columns_only x.table.id.0 greatest tables ∙ e) tables (each_told column_told column_items (λ x. x.columns) reads_columns 0 tables rising) in
    let i = EachTable-made (λ x. flat_map (index_told x.table.id.0) (flat_map index_items tables) ≡ x.indexes) (λ x. flat_map (index_told x.table.id.0) items ≡ x.indexes) (λ x e. indexes_only x.table.id.0 greatest tables ∙ e) tables (each_told index_told index_items (λ x. x.indexes) reads_indexes 0 tables rising) in
    ap (map (told_of items)) (tables_only greatest tables) ∙ rebuilt items tables c i

-- ---- the same nodes

same_items : (xs ys : List CatalogItem) → list_all item_fits xs ≡ true → list_all item_fits ys ≡ true → map item_node xs ≡ map item_node ys → xs ≡ ys
same_items [] [] f g e = refl
same_items [] (y ∷ ys) f g e = absurd cc
same_items (x ∷ xs) [] f g e = absurd cc
same_items (x ∷ xs) (y ∷ ys) f g e =
    let a = and_parts (item_fits x) (list_all item_fits xs) f in
    let b = and_parts (item_fits y) (list_all item_fits ys) g in
    let heads : item_node x ≡ item_node y = cc in
    let tails : map item_node xs ≡ map item_node ys = cc in
    let keys : item_key x ≡ item_key y = ap (λ (n : Node). n.key) heads in
    let bytes : item_data x ≡ item_data y = ap (λ (n : Node). n.data) heads in
    let first = one_spelling (item_key x) (item_data x) x y (a.0, refl, refl) (b.0, keys, bytes) in
    let rest = same_items xs ys a.1 b.1 tails in
    λ i. first i ∷ rest i

greatest_of : List CatalogItem → ℕ
greatest_of [] = 0
greatest_of (item.Greatest greatest ∷ items) = greatest
greatest_of (x ∷ items) = 0

all_fit : (greatest : ℕ) (tables : List CatalogTable) → catalog_fits greatest tables ≡ true → list_all item_fits (catalog_items greatest tables) ≡ true
all_fit greatest tables h = (and_parts (list_all item_fits (catalog_items greatest tables)) _ h).0

pub read_back : (greatest other : ℕ) (tables others : List CatalogTable) → catalog_fits greatest tables ≡ true → catalog_fits other others ≡ true → catalog_nodes greatest tables ≡ catalog_nodes other others → (greatest ≡ other) × (tables ≡ others)
unfolding greatest_of
read_back greatest other tables others f g e =
    let items = same_items (catalog_items greatest tables) (catalog_items other others) (all_fit greatest tables f) (all_fit other others g) e in
    (ap greatest_of items, sym (told_again greatest tables f) ∙ ap tables_told items ∙ told_again other others g)
