-- Items with rising keys: the catalog that they tell has no other items, and all of them where it has as many.
use Rattle.std.proofs.Common.{◌≡◌, ℕ, suc, ◌<◌, ◌≤◌, Bool, true, false, inl, inr, Some, None, List, [], ◌∷◌, ◌++◌, length, map, refl, sym, ap, subst, ◌∙◌, arith}
use Rattle.std.specs.Prelude.{◌==◌, ◌&&◌, ◌⊎◌, Option, bytes_eq, get_or, if◌then◌else◌}
use Rattle.std.specs.List.{AllByRecursion, flat_map, list_all}
use Rattle.std.proofs.lemmas.Bool.{and_from}
use Rattle.std.proofs.lemmas.Bool.Decides.{nat_tests}
use Rattle.std.proofs.lemmas.Cmp.{nat_list_cmp_total}
use Rattle.common_lemmas.proofs.Booleans.{and_left, and_right, impossible}
use Rattle.common_lemmas.proofs.Numbers.{equal_bytes, same_bytes, self_equal}
use Rattle.common_lemmas.proofs.Options.{none_some, same_some}
use Rattle.common_lemmas.proofs.Orders.{less-irreflexive}
use Rattle.jet_base.specs.Ids.{table_id}
use Rattle.jet_base.specs.declared.ids.TableId.{TableId}
use Rattle.column_set.specs.NumberReading.{◌>>=◌}
use Rattle.column_set.specs.declared.columns.Column.{Column}
use Rattle.index_derive.specs.declared.rules.IndexRule.{IndexRule}
use Rattle.page_image.specs.Page.{HasRisingKeys, IsBelow, Node, no_node}
use Rattle.catalog_grammar.specs.CatalogBytes.{item_fits, item_key, item_node}
use Rattle.catalog_grammar.specs.Catalogs.{CatalogTable, catalog_fits, catalog_items, catalog_nodes, column_items, column_told, has_rising_parts, index_items, index_told, rise_above, table_told, tables_of_items, tables_told}
use Rattle.catalog_grammar.specs.declared.items.CatalogItem.{CatalogItem}
use Rattle.catalog_grammar.specs.declared.items.CatalogItem.TheVariants as item
use Rattle.catalog_grammar.specs.declared.items.TableItem.{TableItem}
use Rattle.catalog_grammar.proofs.ItemLaws.{item_again}
use Rattle.catalog_grammar.proofs.Rising.{Below, Each, Rise, items_rise}
use Rattle.image_findings.specs.CatalogFindings.{CatalogTold, are_same_nodes, catalog_told, greatest_told, is_same_node, items_in, told_by}
use Rattle.image_opening.specs.ReadNodes.{IsItemNode, bare_of}

-- ---- members

abbrev pub In : CatalogItem → List CatalogItem → Type 0
In x [] = ⊥
In x (y ∷ ys) = (x ≡ y) ⊎ In x ys

abbrev pub AreIn : List CatalogItem → List CatalogItem → Type 0
AreIn all xs = Each (λ x. In x all) xs

pub each_in : (P : CatalogItem → Type 0) (x : CatalogItem) (ys : List CatalogItem) → Each P ys → In x ys → P x
each_in P x [] e h = absurd h
each_in P x (y ∷ ys) e (inl is) = subst P (sym is) e.0
each_in P x (y ∷ ys) e (inr h) = each_in P x ys e.1 h

-- ---- rising items

-- an item above another is not that one
apart : (a x : CatalogItem) (items : List CatalogItem) → Below a x → In x (a ∷ items) → In x items
apart a x items lt (inl is) = absurd (less-irreflexive (item_key a) (subst (λ (y : CatalogItem). Below a y) is lt))
apart a x items lt (inr h) = h

rest_in : (a : CatalogItem) (items xs : List CatalogItem) → Each (Below a) xs → AreIn (a ∷ items) xs → AreIn items xs
rest_in a items [] b h = tt
rest_in a items (x ∷ xs) b h = (apart a x items b.0 h.0, rest_in a items xs b.1 h.1)

further : (a e : CatalogItem) (xs : List CatalogItem) → Below a e → Each (Below e) xs → Each (Below a) xs
further a e [] lt b = tt
further a e (x ∷ xs) lt b = (nat_list_cmp_total.trans (item_key a) (item_key e) (item_key x) lt b.0, further a e xs lt b.1)

no_more : (es items : List CatalogItem) → Rise es → Rise items → AreIn items es → length es ≤ length items
no_more [] items re ra h = omega arith
no_more (e ∷ es) [] re ra h = absurd h.0
no_more (e ∷ es) (a ∷ items) re ra (inl is, h) = omega (arith, no_more es items re.1 ra.1 (rest_in a items es (subst (λ (y : CatalogItem). Each (Below y) es) is re.0) h))
no_more (e ∷ es) (a ∷ items) re ra (inr there, h) =
    let lt : Below a e = each_in (Below a) e items ra.0 there in
    omega (arith, no_more (e ∷ es) items re ra.1 (there, rest_in a items es (further a e es lt re.0) h))

pub same_items : (es items : List CatalogItem) → Rise es → Rise items → AreIn items es → length items ≤ length es → es ≡ items
same_items [] [] re ra h n = refl
same_items [] (a ∷ items) re ra h n = absurd (omega (arith, n))
same_items (e ∷ es) [] re ra h n = absurd h.0
same_items (e ∷ es) (a ∷ items) re ra (inl is, h) n =
    let rest : es ≡ items = same_items es items re.1 ra.1 (rest_in a items es (subst (λ (y : CatalogItem). Each (Below y) es) is re.0) h) (omega (arith, n)) in
    λ i. is i ∷ rest i
same_items (e ∷ es) (a ∷ items) re ra (inr there, h) n =
    let lt : Below a e = each_in (Below a) e items ra.0 there in
    absurd (omega (arith, n, no_more (e ∷ es) items re ra.1 (there, rest_in a items es (further a e es lt re.0) h)))

each_above : (x : CatalogItem) (items : List CatalogItem) → ((k : ℕ) (d : Node) → k < length (map item_node items) → IsBelow (item_key x) (get_or (map item_node items) k d).key) → Each (Below x) items
each_above x [] f = tt
each_above x (y ∷ items) f = (f 0 no_node (omega arith), each_above x items (λ k d lt. f (suc k) d (omega (arith, lt))))

pub rise_of : (items : List CatalogItem) → HasRisingKeys (map item_node items) → Rise items
rise_of [] h = tt
rise_of (x ∷ items) h = (each_above x items (λ k d lt. h 0 (suc k) d (omega arith) (omega (arith, lt))), rise_of items (λ i j d lt within. h (suc i) (suc j) d (omega (arith, lt)) (omega (arith, within))))

-- ---- what is told stands among the items

grow : (y : CatalogItem) (all xs : List CatalogItem) → AreIn all xs → AreIn (y ∷ all) xs
grow y all [] h = tt
grow y all (x ∷ xs) h = (inr h.0, grow y all xs h.1)

pub all_in : (all : List CatalogItem) → AreIn all all
all_in [] = tt
all_in (x ∷ all) = (inl refl, grow x all all (all_in all))

pub each_append : (P : CatalogItem → Type 0) (xs ys : List CatalogItem) → Each P xs → Each P ys → Each P (xs ++ ys)
each_append P [] ys h k = k
each_append P (x ∷ xs) ys h k = (h.0, each_append P xs ys h.1 k)

each_map : {X : Type 0} (P : CatalogItem → Type 0) (f : X → CatalogItem) (xs : List X) → AllByRecursion (λ x. P (f x)) xs → Each P (map f xs)
each_map P f [] h = tt
each_map P f (x ∷ xs) h = (h.0, each_map P f xs h.1)

tables_in : (all rest : List CatalogItem) → AreIn all rest → AllByRecursion (λ t. In (item.Table t) all) (flat_map table_told rest)
tables_in all [] h = tt
tables_in all (item.Greatest greatest ∷ rest) h = tables_in all rest h.1
tables_in all (item.Table t ∷ rest) h = (h.0, tables_in all rest h.1)
tables_in all (item.Column table column ∷ rest) h = tables_in all rest h.1
tables_in all (item.Index table root index ∷ rest) h = tables_in all rest h.1

one_more : {X : Type 0} (P : X → Type 0) (b : Bool) (x : X) (xs : List X) → (b ≡ true → P x) → AllByRecursion P xs → AllByRecursion P ((if b then x ∷ [] else []) ++ xs)
one_more P true x xs f h = (f refl, h)
one_more P false x xs f h = h

equal : (m n : ℕ) → (m == n) ≡ true → m ≡ n
equal m n e = grind (arith, nat_tests, e)

same_id : (a b : TableId) → (a.0 == b.0) ≡ true → a ≡ b
same_id a b e = ap table_id (equal a.0 b.0 e)

columns_in : (id : TableId) (all rest : List CatalogItem) → AreIn all rest → AllByRecursion (λ c. In (item.Column id c) all) (flat_map (column_told id.0) rest)
columns_in id all [] h = tt
columns_in id all (item.Greatest greatest ∷ rest) h = columns_in id all rest h.1
columns_in id all (item.Table t ∷ rest) h = columns_in id all rest h.1
columns_in id all (item.Column table column ∷ rest) h =
    one_more (λ (c : Column). In (item.Column id c) all) (table.0 == id.0) column (flat_map (column_told id.0) rest)
    (λ e. subst (λ (t : TableId). In (item.Column t column) all) (same_id table id e) h.0) (columns_in id all rest h.1)
columns_in id all (item.Index table root index ∷ rest) h = columns_in id all rest h.1

indexes_in : (id : TableId) (all rest : List CatalogItem) → AreIn all rest → AllByRecursion (λ (x : ℕ × IndexRule). In (item.Index id x.0 x.1) all) (flat_map (index_told id.0) rest)
indexes_in id all [] h = tt
indexes_in id all (item.Greatest greatest ∷ rest) h = indexes_in id all rest h.1
indexes_in id all (item.Table t ∷ rest) h = indexes_in id all rest h.1
indexes_in id all (item.Column table column ∷ rest) h = indexes_in id all rest h.1
indexes_in id all (item.Index table root index ∷ rest) h =
    one_more (λ (x : ℕ × IndexRule). In (item.Index id x.0 x.1) all) (table.0 == id.0) (root, index) (flat_map (index_told id.0) rest)
    (λ e. subst (λ (t : TableId). In (item.Index t root index) all) (same_id table id e) h.0) (indexes_in id all rest h.1)

table_items_in : (all : List CatalogItem) (ts : List TableItem) → AllByRecursion (λ t. In (item.Table t) all) ts → AreIn all (map (λ (x : CatalogTable). item.Table x.table) (map (bare_of all) ts))
table_items_in all [] h = tt
table_items_in all (t ∷ ts) h = (h.0, table_items_in all ts h.1)

column_items_in : (all : List CatalogItem) (ts : List TableItem) → AreIn all (flat_map column_items (map (bare_of all) ts))
column_items_in all [] = tt
column_items_in all (t ∷ ts) =
    each_append (λ x. In x all) (column_items (bare_of all t)) (flat_map column_items (map (bare_of all) ts))
    (each_map (λ x. In x all) (item.Column t.id) (flat_map (column_told t.id.0) all) (columns_in t.id all all (all_in all))) (column_items_in all ts)

index_items_in : (all : List CatalogItem) (ts : List TableItem) → AreIn all (flat_map index_items (map (bare_of all) ts))
index_items_in all [] = tt
index_items_in all (t ∷ ts) =
    each_append (λ x. In x all) (index_items (bare_of all t)) (flat_map index_items (map (bare_of all) ts))
    (each_map (λ x. In x all) (λ (x : ℕ × IndexRule). item.Index t.id x.0 x.1) (flat_map (index_told t.id.0) all) (indexes_in t.id all all (all_in all))) (index_items_in all ts)

greatest_in : (greatest : ℕ) (items : List CatalogItem) → greatest_told items ≡ Some greatest → In (item.Greatest greatest) items
greatest_in greatest [] e = none_some greatest e
greatest_in greatest (item.Greatest other ∷ rest) e = inl (ap item.Greatest (sym (same_some other greatest e)))
greatest_in greatest (item.Table t ∷ rest) e = none_some greatest e
greatest_in greatest (item.Column table column ∷ rest) e = none_some greatest e
greatest_in greatest (item.Index table root index ∷ rest) e = none_some greatest e

told_in : (greatest : ℕ) (items : List CatalogItem) → greatest_told items ≡ Some greatest → AreIn items (catalog_items greatest (tables_told items))
told_in greatest items e =
    let ts = flat_map table_told items in
    let P : CatalogItem → Type 0 = λ x. In x items in (
      greatest_in greatest items e,
      each_append P (map (λ (x : CatalogTable). item.Table x.table) (map (bare_of items) ts)) (flat_map column_items (map (bare_of items) ts) ++ flat_map index_items (map (bare_of items) ts))
          (table_items_in items ts (tables_in items items (all_in items)))
          (each_append P (flat_map column_items (map (bare_of items) ts)) (flat_map index_items (map (bare_of items) ts)) (column_items_in items ts) (index_items_in items ts)),
    )

-- ---- which catalogs are told

each_fits : (xs : List CatalogItem) → list_all item_fits xs ≡ true → Each (λ x. item_fits x ≡ true) xs
each_fits [] h = tt
each_fits (x ∷ xs) h = (and_left (item_fits x) (list_all item_fits xs) h, each_fits xs (and_right (item_fits x) (list_all item_fits xs) h))

all_fit : (all xs : List CatalogItem) → list_all item_fits all ≡ true → AreIn all xs → list_all item_fits xs ≡ true
all_fit all [] h ins = refl
all_fit all (x ∷ xs) h ins = and_from (item_fits x) (list_all item_fits xs) (each_in (λ y. item_fits y ≡ true) x all (each_fits all h) ins.0) (all_fit all xs h ins.1)

abbrev pub numbers_of : List CatalogTable → List ℕ
numbers_of tables = map (λ x. x.table.id.0) tables

pub told_fits : (greatest : ℕ) (items : List CatalogItem) → list_all item_fits items ≡ true → greatest_told items ≡ Some greatest → rise_above 0 (numbers_of (tables_told items)) ≡ true → list_all has_rising_parts (tables_told items) ≡ true
    → catalog_fits greatest (tables_told items) ≡ true
told_fits greatest items fit head numbers parts =
    and_from (list_all item_fits (catalog_items greatest (tables_told items))) (rise_above 0 (numbers_of (tables_told items)) && list_all has_rising_parts (tables_told items))
    (all_fit items (catalog_items greatest (tables_told items)) fit (told_in greatest items head))
    (and_from (rise_above 0 (numbers_of (tables_told items))) (list_all has_rising_parts (tables_told items)) numbers parts)

-- what is told is all that there is, where it is as much
pub told_all : (greatest : ℕ) (items : List CatalogItem) → HasRisingKeys (map item_node items) → greatest_told items ≡ Some greatest → catalog_fits greatest (tables_told items) ≡ true
    → length items ≤ length (catalog_items greatest (tables_told items)) → catalog_items greatest (tables_told items) ≡ items
told_all greatest items rising head fits n =
    same_items (catalog_items greatest (tables_told items)) items (items_rise greatest (tables_told items) fits) (rise_of items rising) (told_in greatest items head) n

-- ---- nodes and items

pub items_again : (items : List CatalogItem) → list_all item_fits items ≡ true → items_in (map item_node items) ≡ Some items
items_again [] h = refl
items_again (x ∷ items) h =
    ap (λ (o : Option CatalogItem). o >>= λ told. items_in (map item_node items) >>= λ more. Some (told ∷ more)) (item_again x (and_left (item_fits x) (list_all item_fits items) h))
    ∙ ap (λ (o : Option (List CatalogItem)). o >>= λ more. Some (x ∷ more)) (items_again items (and_right (item_fits x) (list_all item_fits items) h))

same_node : (n : Node) → is_same_node n n ≡ true
same_node n =
    and_from (bytes_eq n.key n.key) ((n.extent == n.extent) && bytes_eq n.data n.data) (equal_bytes n.key n.key refl)
    (and_from (n.extent == n.extent) (bytes_eq n.data n.data) (self_equal n.extent) (equal_bytes n.data n.data refl))

pub same_nodes : (nodes : List Node) → are_same_nodes nodes nodes ≡ true
same_nodes [] = refl
same_nodes (n ∷ nodes) = and_from (is_same_node n n) (are_same_nodes nodes nodes) (same_node n) (same_nodes nodes)

node_is : (n other : Node) → is_same_node n other ≡ true → n ≡ other
node_is n other e =
    let rest = and_right (bytes_eq n.key other.key) ((n.extent == other.extent) && bytes_eq n.data other.data) e in
    let key : n.key ≡ other.key = same_bytes n.key other.key (and_left (bytes_eq n.key other.key) ((n.extent == other.extent) && bytes_eq n.data other.data) e) in
    let extent : n.extent ≡ other.extent = equal n.extent other.extent (and_left (n.extent == other.extent) (bytes_eq n.data other.data) rest) in
    let bytes : n.data ≡ other.data = same_bytes n.data other.data (and_right (n.extent == other.extent) (bytes_eq n.data other.data) rest) in
    λ i. record { key = key i; extent = extent i; «data» = bytes i }

pub nodes_are : (nodes others : List Node) → are_same_nodes nodes others ≡ true → nodes ≡ others
nodes_are [] [] e = refl
nodes_are [] (other ∷ others) e = impossible e
nodes_are (n ∷ nodes) [] e = impossible e
nodes_are (n ∷ nodes) (other ∷ others) e =
    let first = node_is n other (and_left (is_same_node n other) (are_same_nodes nodes others) e) in
    let rest = nodes_are nodes others (and_right (is_same_node n other) (are_same_nodes nodes others) e) in
    λ i. first i ∷ rest i

-- ---- the catalog that is told

abbrev told_when : List CatalogItem → ℕ → Bool → Option CatalogTold
told_when items greatest test = if test then Some (record { greatest = greatest; tables = tables_of_items items }) else None

abbrev tells : ℕ → List CatalogItem → Bool
tells greatest items = catalog_fits greatest (tables_told items) && are_same_nodes (catalog_nodes greatest (tables_told items)) (map item_node items)

told_of_items : (items : List CatalogItem) → list_all item_fits items ≡ true → catalog_told (map item_node items) ≡ told_by (map item_node items) items
told_of_items items fit = ap (λ (o : Option (List CatalogItem)). o >>= λ all. told_by (map item_node items) all) (items_again items fit)

pub told_nothing : (items : List CatalogItem) → list_all item_fits items ≡ true → greatest_told items ≡ None → catalog_told (map item_node items) ≡ None
told_nothing items fit none = told_of_items items fit ∙ ap (λ (o : Option ℕ). o >>= λ greatest. told_when items greatest (tells greatest items)) none

pub told_tested : (greatest : ℕ) (items : List CatalogItem) → list_all item_fits items ≡ true → greatest_told items ≡ Some greatest → catalog_told (map item_node items) ≡ told_when items greatest (tells greatest items)
told_tested greatest items fit head = told_of_items items fit ∙ ap (λ (o : Option ℕ). o >>= λ greatest. told_when items greatest (tells greatest items)) head

-- where numbers rise, and as much is told as there is
pub told_is : (greatest : ℕ) (items : List CatalogItem) → HasRisingKeys (map item_node items) → list_all item_fits items ≡ true → greatest_told items ≡ Some greatest → rise_above 0 (numbers_of (tables_told items)) ≡ true → list_all has_rising_parts (tables_told items) ≡ true
    → length items ≤ length (catalog_items greatest (tables_told items)) → catalog_told (map item_node items) ≡ Some (record { greatest = greatest; tables = tables_of_items items })
told_is greatest items rising fit head numbers parts n =
    let fits = told_fits greatest items fit head numbers parts in
    let same = ap (λ (xs : List CatalogItem). are_same_nodes (map item_node xs) (map item_node items)) (told_all greatest items rising head fits n) ∙ same_nodes (map item_node items) in
    told_tested greatest items fit head ∙ ap (told_when items greatest) (and_from (catalog_fits greatest (tables_told items)) (are_same_nodes (catalog_nodes greatest (tables_told items)) (map item_node items)) fits same)

-- where a test fails nothing is told
none_told : (greatest : ℕ) (items : List CatalogItem) → list_all item_fits items ≡ true → greatest_told items ≡ Some greatest → (tells greatest items ≡ true → ⊥) → catalog_told (map item_node items) ≡ None
none_told greatest items fit head refuted = told_tested greatest items fit head ∙ ap (told_when items greatest) (is_false (tells greatest items) refuted)
  where
    is_false : (b : Bool) → (b ≡ true → ⊥) → b ≡ false
    is_false true refuted = absurd (refuted refl)
    is_false false refuted = refl

fits_when : (greatest : ℕ) (items : List CatalogItem) → tells greatest items ≡ true → catalog_fits greatest (tables_told items) ≡ true
fits_when greatest items e = and_left (catalog_fits greatest (tables_told items)) (are_same_nodes (catalog_nodes greatest (tables_told items)) (map item_node items)) e

rises_when : (greatest : ℕ) (items : List CatalogItem) → tells greatest items ≡ true → (rise_above 0 (numbers_of (tables_told items)) && list_all has_rising_parts (tables_told items)) ≡ true
rises_when greatest items e = and_right (list_all item_fits (catalog_items greatest (tables_told items))) (rise_above 0 (numbers_of (tables_told items)) && list_all has_rising_parts (tables_told items)) (fits_when greatest items e)

clash : {b : Bool} → b ≡ true → b ≡ false → ⊥
clash sound refuted = impossible (sym refuted ∙ sound)

pub none_numbers : (greatest : ℕ) (items : List CatalogItem) → list_all item_fits items ≡ true → greatest_told items ≡ Some greatest → rise_above 0 (numbers_of (tables_told items)) ≡ false → catalog_told (map item_node items) ≡ None
none_numbers greatest items fit head refuted =
    none_told greatest items fit head (λ e. clash (and_left (rise_above 0 (numbers_of (tables_told items))) (list_all has_rising_parts (tables_told items)) (rises_when greatest items e)) refuted)

pub none_parts : (greatest : ℕ) (items : List CatalogItem) → list_all item_fits items ≡ true → greatest_told items ≡ Some greatest → list_all has_rising_parts (tables_told items) ≡ false → catalog_told (map item_node items) ≡ None
none_parts greatest items fit head refuted =
    none_told greatest items fit head (λ e. clash (and_right (rise_above 0 (numbers_of (tables_told items))) (list_all has_rising_parts (tables_told items)) (rises_when greatest items e)) refuted)

length-nodes : (items : List CatalogItem) → length (map item_node items) ≡ length items
length-nodes [] = refl
length-nodes (x ∷ items) = ap suc (length-nodes items)

pub none_fewer : (greatest : ℕ) (items : List CatalogItem) → list_all item_fits items ≡ true → greatest_told items ≡ Some greatest → length (catalog_items greatest (tables_told items)) < length items → catalog_told (map item_node items) ≡ None
none_fewer greatest items fit head less =
    none_told greatest items fit head (λ e.
    let same = nodes_are (catalog_nodes greatest (tables_told items)) (map item_node items) (and_right (catalog_fits greatest (tables_told items)) (are_same_nodes (catalog_nodes greatest (tables_told items)) (map item_node items)) e) in
    omega (arith, less, ap length same, length-nodes (catalog_items greatest (tables_told items)), length-nodes items))

-- ---- nodes that tell a catalog are nodes of items

each_item_node : (items : List CatalogItem) → list_all item_fits items ≡ true → AllByRecursion IsItemNode (map item_node items)
each_item_node [] h = tt
each_item_node (x ∷ items) h = ((x, and_left (item_fits x) (list_all item_fits items) h, refl), each_item_node items (and_right (item_fits x) (list_all item_fits items) h))

-- The nodes are those of items.
pub record AreItems (nodes : List Node) : Type 0 where
  pub items : List CatalogItem
  pub nodes_are : nodes ≡ map item_node items
  pub fit : list_all item_fits items ≡ true

told_test : (nodes : List Node) (items : List CatalogItem) (told : CatalogTold) → told_by nodes items ≡ Some told → AreItems nodes
told_test nodes items told e = by_greatest (greatest_told items) e
  where
    by_test_of : (greatest : ℕ) (test : Bool) → (catalog_fits greatest (tables_told items) && are_same_nodes (catalog_nodes greatest (tables_told items)) nodes) ≡ test → (if test then Some (record { greatest = greatest; tables = tables_of_items items }) else None) ≡ Some told → AreItems nodes
    by_test_of greatest false is e = none_some told e
    by_test_of greatest true is e =
        let fits = and_left (catalog_fits greatest (tables_told items)) (are_same_nodes (catalog_nodes greatest (tables_told items)) nodes) is in
        record {
          items = catalog_items greatest (tables_told items);
          nodes_are = sym (nodes_are (catalog_nodes greatest (tables_told items)) nodes (and_right (catalog_fits greatest (tables_told items)) (are_same_nodes (catalog_nodes greatest (tables_told items)) nodes) is));
          fit = and_left (list_all item_fits (catalog_items greatest (tables_told items))) (rise_above 0 (numbers_of (tables_told items)) && list_all has_rising_parts (tables_told items)) fits;
        }

    by_greatest : (o : Option ℕ) → (o >>= λ greatest. if catalog_fits greatest (tables_told items) && are_same_nodes (catalog_nodes greatest (tables_told items)) nodes then Some (record { greatest = greatest; tables = tables_of_items items }) else None) ≡ Some told → AreItems nodes
    by_greatest None e = none_some told e
    by_greatest (Some greatest) e = by_test_of greatest (catalog_fits greatest (tables_told items) && are_same_nodes (catalog_nodes greatest (tables_told items)) nodes) refl e

pub items_when_told : (nodes : List Node) (told : CatalogTold) → catalog_told nodes ≡ Some told → AreItems nodes
items_when_told nodes told e = by_items (items_in nodes) e
  where
    by_items : (o : Option (List CatalogItem)) → (o >>= λ items. told_by nodes items) ≡ Some told → AreItems nodes
    by_items None e = none_some told e
    by_items (Some items) e = told_test nodes items told e

each_when_told : (nodes : List Node) → AreItems nodes → AllByRecursion IsItemNode nodes
each_when_told nodes are = subst (AllByRecursion IsItemNode) (sym are.nodes_are) (each_item_node are.items are.fit)

pub none_when : (nodes : List Node) → (AllByRecursion IsItemNode nodes → ⊥) → catalog_told nodes ≡ None
none_when nodes refuted = by_told (catalog_told nodes) refl
  where
    by_told : (o : Option CatalogTold) → catalog_told nodes ≡ o → o ≡ None
    by_told None e = refl
    by_told (Some told) e = absurd (refuted (each_when_told nodes (items_when_told nodes told e)))
