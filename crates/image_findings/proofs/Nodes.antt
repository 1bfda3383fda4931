-- The nodes of a tree in which no fault is found: their keys rise, and their data are bytes.
use Rattle.std.proofs.Common.{◌≡◌, ℕ, zero, suc, Bool, true, false, ◌&&◌, cond, List, [], ◌∷◌, ◌++◌, Option, Some, None, refl, sym, ap, subst, ◌∙◌, arith}
use Rattle.std.specs.Prelude.{not, map, find, slice_set, unwrap_or, option_map, option_and_then, if◌then◌else◌, IfSome, T}
use Rattle.std.specs.List.{AllByRecursion, flat_map}
use Rattle.std.specs.Ordering.{eq_by_cmp, nat_cmp, ordering_reverse, is_eq, is_lt}
use Rattle.std.specs.declared.cmp.Ordering.{Ordering}
use Rattle.std.specs.declared.cmp.Ordering.TheVariants.{Less, Equal, Greater}
use Rattle.std.specs.Cmp.Lexicographic.{slice_cmp, texts_ties}
use Rattle.std.specs.FinMap.{slice_cmp-IsAntisymmetric, nat_cmp-IsAntisymmetric}
use Rattle.std.specs.FinMap.Entries.{below_all, is_sorted}
use Rattle.std.proofs.lemmas.Bool.{false_from_ne_true}
use Rattle.std.proofs.lemmas.Cmp.{nat_list_cmp_total}
use Rattle.std.proofs.lemmas.List.Concat.{flat_map-cons}
use Rattle.btree_inplace.specs.Order.{get_in, has_key}
use Rattle.btree_inplace.specs.Shape.{child_of, entries, page_in, pages}
use Rattle.catalog_grammar.specs.Catalogs.{CatalogTable}
use Rattle.column_set.specs.NumberReading.{IsBytes}
use Rattle.common_lemmas.proofs.Booleans.{and_left, and_right, impossible}
use Rattle.common_lemmas.proofs.Lists.{all_append, all_parted, all_weaker}
use Rattle.common_lemmas.proofs.Numbers.{bytes_turned, same_bytes}
use Rattle.common_lemmas.proofs.Options.{some_apart}
use Rattle.common_lemmas.proofs.Orders.{is_less, less-irreflexive}
use Rattle.database_state.specs.Table.{row_at}
use Rattle.laws_engine.specs.Holding.{AllRise, RowsRise}
use Rattle.long_value.specs.Values.{Values}
use Rattle.page_image.specs.Page.{HasRisingKeys, IsBelow, Node, PageContents, no_node}
use Rattle.page_space.specs.Frames.{Frames, empty_page, page_at}
use Rattle.stored_variants.specs.RecordRows.{record_of, row_in_node, row_under, rows_of_nodes, with_record}
use Rattle.tree_check.specs.Marks.{with_marks}
use Rattle.tree_check.specs.Walks.{child_fault, ends_of, fault_among, fault_below, is_inner_page, is_lower, last_key, lies_between, page_fault, tree_depth, tree_fault}
use Rattle.tree_check.specs.declared.fault.WalkFault.{WalkFault}
use Rattle.tree_check.specs.declared.fault.WalkFault.TheVariants as faults
use Rattle.image_findings.specs.CatalogFindings.{roots_of}
use Rattle.image_findings.specs.ImageBytes.{IsPageOfBytes}
use Rattle.image_findings.specs.TableContents.{TableContents, contents_below, long_values, newest_table}
use Rattle.image_findings.specs.TreeFindings.{finding_of_fault, nodes_below, pages_below, trees_finding}
use Rattle.image_findings.proofs.Checks.{or_none}

-- ---- rising keys

abbrev RisesFrom : List ℕ → List Node → Type 0
RisesFrom key [] = Unit {0}
RisesFrom key (n ∷ nodes) = IsBelow key n.key × RisesFrom n.key nodes

abbrev pub Rises : List Node → Type 0
Rises [] = Unit {0}
Rises (n ∷ nodes) = RisesFrom n.key nodes

abbrev pub AreBytes : List Node → Type 0
AreBytes nodes = AllByRecursion (λ (n : Node). IsBytes n.data) nodes

rises_on_page : (nodes : List Node) → HasRisingKeys nodes → Rises nodes
rises_on_page [] h = tt
rises_on_page (n ∷ []) h = tt
rises_on_page (n ∷ m ∷ nodes) h = (h 0 1 no_node (omega arith) (omega arith), rises_on_page (m ∷ nodes) (λ i j d lt in_list. h (suc i) (suc j) d (omega (arith, lt)) (omega (arith, in_list))))

rises_to_end : (key : List ℕ) (nodes : List Node) → RisesFrom key nodes → RisesFrom key (nodes ++ [])
rises_to_end key [] r = tt
rises_to_end key (n ∷ nodes) r = (r.0, rises_to_end n.key nodes r.1)

rises_append : (key : List ℕ) (xs : List Node) (y : Node) (ys : List Node) → RisesFrom key xs → IsBelow (last_key key xs) y.key → RisesFrom y.key ys → RisesFrom key (xs ++ y ∷ ys)
rises_append key [] y ys one lt next = (lt, next)
rises_append key (x ∷ xs) y ys one lt next = (one.0, rises_append x.key xs y ys one.1 lt next)

lower_is : (a b : List ℕ) → is_lower a b ≡ true → IsBelow a b
lower_is a b e = is_less (slice_cmp nat_cmp a b) e

not_lower_is : (a b : List ℕ) → not (is_lower a b) ≡ true → ¬ IsBelow a b
not_lower_is a b e h = impossible (sym (ap (λ o. not (is_lt o)) h) ∙ e)

below_upto : (a b c : List ℕ) → IsBelow a b → ¬ IsBelow c b → IsBelow a c
below_upto a b c h not = by_cases (slice_cmp nat_cmp b c) refl
  where
    by_cases : (r : Ordering) → slice_cmp nat_cmp b c ≡ r → IsBelow a c
    by_cases Less e = nat_list_cmp_total.trans a b c h e
    by_cases Equal e = subst (λ (x : List ℕ). IsBelow a x) (slice_cmp-IsAntisymmetric nat_cmp-IsAntisymmetric b c e) h
    by_cases Greater e = absurd (not (nat_list_cmp_total.antisymm c b ∙ ap ordering_reverse e))

-- ---- pages

page_rises : (page : ℕ) (o : Option PageContents) → IfSome o IsPageOfBytes → Rises (unwrap_or o (empty_page page)).nodes
page_rises page None h = tt
page_rises page (Some p) h = rises_on_page p.nodes h.form.rising

page_bytes : (page : ℕ) (o : Option PageContents) → IfSome o IsPageOfBytes → AreBytes (unwrap_or o (empty_page page)).nodes
page_bytes page None h = tt
page_bytes page (Some p) h = h.nodes

taken : (frames : Frames) → AllByRecursion (λ o. IfSome o IsPageOfBytes) frames → (page : ℕ) → IfSome (page_at frames page) IsPageOfBytes
taken [] all zero = tt
taken [] all (suc page) = tt
taken (o ∷ frames) all zero = all.0
taken (o ∷ frames) all (suc page) = taken frames all.1 page

-- ---- trees

-- nodes from a key on
record Starts (low : List ℕ) (list : List Node) : Type 0 where
  e : Node
  es : List Node
  is : list ≡ e ∷ es
  from : not (is_lower e.key low) ≡ true
  rises : RisesFrom e.key es

-- what stands below some nodes of an inner page
abbrev StandsBelow : List Node → List Node → Type 0
StandsBelow [] list = list ≡ []
StandsBelow (m ∷ nodes) list = Starts m.key list

holds : (page : ℕ) (b : Bool) → (if b then None else Some (faults.Broken page)) ≡ None → b ≡ true
holds page true f = refl
holds page false f = absurd (some_apart (faults.Broken page) f)

joined : (page : ℕ) (n : Node) (nodes list rest : List Node) → Rises list → child_fault page n nodes (ends_of list) ≡ None → StandsBelow nodes rest → Starts n.key (list ++ rest)
joined page n nodes [] rest r f b = absurd (some_apart (faults.Broken (child_of n)) f)
joined page n [] (e ∷ es) rest r f b =
    let between = holds page (lies_between n [] (e.key, last_key e.key es)) f in
    subst (λ (xs : List Node). Starts n.key ((e ∷ es) ++ xs)) (sym b) (record { e = e; es = es ++ []; is = refl; from = and_left (not (is_lower e.key n.key)) true between; rises = rises_to_end e.key es r })
joined page n (m ∷ nodes) (e ∷ es) rest r f b =
    let between = holds page (lies_between n (m ∷ nodes) (e.key, last_key e.key es)) f in
    let low = lower_is (last_key e.key es) m.key (and_right (not (is_lower e.key n.key)) (is_lower (last_key e.key es) m.key) between) in
    subst (λ (xs : List Node). Starts n.key ((e ∷ es) ++ xs)) (sym b.is) (record {
      e = e;
      es = es ++ b.e ∷ b.es;
      is = refl;
      from = and_left (not (is_lower e.key n.key)) (is_lower (last_key e.key es) m.key) between;
      rises = rises_append e.key es b.e b.es r (below_upto (last_key e.key es) m.key b.e.key low (not_lower_is b.e.key m.key b.from)) b.rises;
    })

among : (found : List Bool → ℕ → Option WalkFault) (own : ℕ → List ℕ) (below : ℕ → List Node) (page : ℕ) → ((marks : List Bool) (p : ℕ) → found marks p ≡ None → Rises (below p))
    → (marks : List Bool) (nodes : List Node) → fault_among found own below page marks nodes ≡ None → StandsBelow nodes (flat_map (λ m. below (child_of m)) nodes)
among found own below page each marks [] h = refl
among found own below page each marks (n ∷ nodes) h =
    let a = or_none (found marks (child_of n)) _ h in
    let b = or_none (child_fault page n nodes (ends_of (below (child_of n)))) (fault_among found own below page (with_marks (own (child_of n)) marks) nodes) a.1 in
    joined page n nodes (below (child_of n)) (flat_map (λ m. below (child_of m)) nodes) (each marks (child_of n) a.0) b.0 (among found own below page each (with_marks (own (child_of n)) marks) nodes b.1)

all_rise : (nodes list : List Node) → StandsBelow nodes list → Rises list
all_rise [] list b = subst Rises (sym b) tt
all_rise (m ∷ nodes) list b = subst Rises (sym b.is) b.rises

rises_below : (frames : Frames) → AllByRecursion (λ o. IfSome o IsPageOfBytes) frames → (depth : ℕ) (marks : List Bool) (page : ℕ) → fault_below depth frames marks page ≡ None → Rises (entries depth frames page)
rises_below frames all zero marks page h = page_rises page (page_at frames page) (taken frames all page)
rises_below frames all (suc depth) marks page h =
    let a = or_none (page_fault (is_inner_page frames page) frames marks page) _ h in
    all_rise (page_in frames page).nodes (flat_map (λ m. entries depth frames (child_of m)) (page_in frames page).nodes)
    (among (fault_below depth frames) (pages depth frames) (entries depth frames) page (λ other p f. rises_below frames all depth other p f) (slice_set marks page true) (page_in frames page).nodes a.1)

each_bytes : (below : Node → List Node) → ((n : Node) → AreBytes (below n)) → (nodes : List Node) → AreBytes (flat_map below nodes)
each_bytes below all [] = tt
each_bytes below all (n ∷ nodes) = all_append (λ (m : Node). IsBytes m.data) (below n) (flat_map below nodes) (all n) (each_bytes below all nodes)

bytes_below : (frames : Frames) → AllByRecursion (λ o. IfSome o IsPageOfBytes) frames → (depth page : ℕ) → AreBytes (entries depth frames page)
bytes_below frames all zero page = page_bytes page (page_at frames page) (taken frames all page)
bytes_below frames all (suc depth) page = each_bytes (λ m. entries depth frames (child_of m)) (λ m. bytes_below frames all depth (child_of m)) (page_in frames page).nodes

no_fault : (root : ℕ) (o : Option WalkFault) → option_map (finding_of_fault root) o ≡ None → o ≡ None
no_fault root None e = refl
no_fault root (Some fault) e = absurd (some_apart (finding_of_fault root fault) e)

trees_rise : (frames : Frames) → AllByRecursion (λ o. IfSome o IsPageOfBytes) frames → (roots : List ℕ) (marks : List Bool) → trees_finding frames roots marks ≡ None → AllByRecursion (λ root. Rises (nodes_below frames root)) roots
trees_rise frames all [] marks h = tt
trees_rise frames all (root ∷ roots) marks h =
    let a = or_none (option_map (finding_of_fault root) (tree_fault frames marks root)) (trees_finding frames roots (with_marks (pages_below frames root) marks)) h in
    (rises_below frames all (tree_depth frames root) marks root (no_fault root (tree_fault frames marks root) a.0), trees_rise frames all roots (with_marks (pages_below frames root) marks) a.1)

-- ---- tables

records_rise : (frames : Frames) (xs : List CatalogTable) → AllByRecursion (λ root. Rises (nodes_below frames root)) (flat_map roots_of xs) → AllByRecursion (λ (t : TableContents). Rises t.nodes) (map (contents_below frames) xs)
records_rise frames [] h = tt
records_rise frames (x ∷ xs) h =
    let split = all_parted (λ root. Rises (nodes_below frames root)) (roots_of x) (flat_map roots_of xs) (subst (AllByRecursion (λ root. Rises (nodes_below frames root))) (flat_map-cons roots_of x xs) h) in
    (split.0.0, records_rise frames xs split.1)

pub each_rises : (frames : Frames) → AllByRecursion (λ o. IfSome o IsPageOfBytes) frames → (xs : List CatalogTable) (marks : List Bool) → trees_finding frames (flat_map roots_of xs) marks ≡ None
    → AllByRecursion (λ (t : TableContents). Rises t.nodes) (map (contents_below frames) xs)
each_rises frames all xs marks h = records_rise frames xs (trees_rise frames all (flat_map roots_of xs) marks h)

pub each_of_bytes : (frames : Frames) → AllByRecursion (λ o. IfSome o IsPageOfBytes) frames → (xs : List CatalogTable) → AllByRecursion (λ (t : TableContents). AreBytes t.nodes) (map (contents_below frames) xs)
each_of_bytes frames all [] = tt
each_of_bytes frames all (x ∷ xs) = (bytes_below frames all (tree_depth frames x.table.records) x.table.records, each_of_bytes frames all xs)

-- ---- records

above : (key : List ℕ) (nodes : List Node) → RisesFrom key nodes → AllByRecursion (λ (n : Node). IsBelow key n.key) nodes
above key [] r = tt
above key (n ∷ nodes) r = (r.0, all_weaker (λ (m : Node). IsBelow n.key m.key) (λ (m : Node). IsBelow key m.key) (λ m low. nat_list_cmp_total.trans key n.key m.key r.0 low) nodes (above n.key nodes r.1))

rises_behind : (key : List ℕ) (nodes : List Node) → RisesFrom key nodes → Rises nodes
rises_behind key [] r = tt
rises_behind key (n ∷ nodes) r = r.1

both : (a b : Bool) → T a → T b → T (a && b)
both true b p q = q
both false b p q = p

rows_above : (values : Values) (key : List ℕ) (nodes : List Node) → AllByRecursion (λ (n : Node). IsBelow key n.key) nodes → T (below_all (slice_cmp nat_cmp) key (rows_of_nodes values nodes))
rows_above values key [] low = tt
rows_above values key (n ∷ nodes) low = by (row_in_node n.data) (rows_above values key nodes low.1)
  where
    by : (row : Option (List ℕ)) → T (below_all (slice_cmp nat_cmp) key (rows_of_nodes values nodes)) → T (below_all (slice_cmp nat_cmp) key (with_record values n.key row (rows_of_nodes values nodes)))
    by None rest = rest
    by (Some row) rest = both (is_lt (slice_cmp nat_cmp key n.key)) (below_all (slice_cmp nat_cmp) key (rows_of_nodes values nodes)) (subst (λ (o : Ordering). T (is_lt o)) (sym low.0) tt) rest

rows_rise : (values : Values) (nodes : List Node) → Rises nodes → RowsRise (rows_of_nodes values nodes)
rows_rise values [] r = tt
rows_rise values (n ∷ nodes) r = by (row_in_node n.data) (rows_rise values nodes (rises_behind n.key nodes r))
  where
    by : (row : Option (List ℕ)) → RowsRise (rows_of_nodes values nodes) → RowsRise (with_record values n.key row (rows_of_nodes values nodes))
    by None rest = rest
    by (Some row) rest = both (below_all (slice_cmp nat_cmp) n.key (rows_of_nodes values nodes)) (is_sorted (slice_cmp nat_cmp) (rows_of_nodes values nodes)) (rows_above values n.key nodes (above n.key nodes r)) rest

pub tables_rise : (tables : List TableContents) → AllByRecursion (λ (t : TableContents). Rises t.nodes) tables → AllRise (map newest_table tables)
tables_rise [] h = tt
tables_rise (t ∷ tables) h = (rows_rise (long_values t) t.nodes h.0, tables_rise tables h.1)

same_test : (bookmark key : List ℕ) → is_eq (slice_cmp nat_cmp key bookmark) ≡ eq_by_cmp (slice_cmp nat_cmp) bookmark key
same_test bookmark key = sym (texts_ties key bookmark) ∙ bytes_turned key bookmark ∙ texts_ties bookmark key

key_is : (key bookmark : List ℕ) → is_eq (slice_cmp nat_cmp key bookmark) ≡ true → key ≡ bookmark
key_is key bookmark e = same_bytes key bookmark (texts_ties key bookmark ∙ e)

none_above : (key bookmark : List ℕ) (nodes : List Node) → key ≡ bookmark → AllByRecursion (λ (n : Node). IsBelow key n.key) nodes → get_in nodes bookmark ≡ None
none_above key bookmark [] same low = refl
none_above key bookmark (n ∷ nodes) same low =
    ap (λ b. option_map (λ (n : Node). n.data) (cond b (Some n) (find (has_key bookmark) nodes))) other ∙ none_above key bookmark nodes same low.1
  where
    other : has_key bookmark n ≡ false
    other = false_from_ne_true (has_key bookmark n) (λ e. less-irreflexive key (subst (λ (k : List ℕ). IsBelow key k) (key_is n.key bookmark e ∙ sym same) low.0))

-- the newest record under a bookmark is the one of its row
pub record_at : (values : Values) (nodes : List Node) → Rises nodes → (bookmark : List ℕ) → row_at (rows_of_nodes values nodes) bookmark ≡ option_map (record_of values) (row_under nodes bookmark)
record_at values [] r bookmark = refl
record_at values (n ∷ nodes) r bookmark = by (has_key bookmark n) refl (row_in_node n.data) refl (record_at values nodes (rises_behind n.key nodes r) bookmark)
  where
    by : (b : Bool) → has_key bookmark n ≡ b → (row : Option (List ℕ)) → row_in_node n.data ≡ row → row_at (rows_of_nodes values nodes) bookmark ≡ option_map (record_of values) (row_under nodes bookmark)
        → row_at (with_record values n.key row (rows_of_nodes values nodes)) bookmark ≡ option_map (record_of values) (option_and_then row_in_node (option_map (λ (n : Node). n.data) (cond b (Some n) (find (has_key bookmark) nodes))))
    by true h None e rest =
        rest ∙ ap (λ o. option_map (record_of values) (option_and_then row_in_node o)) (none_above n.key bookmark nodes (key_is n.key bookmark h) (above n.key nodes r)) ∙ sym (ap (option_map (record_of values)) e)
    by true h (Some row) e rest = ap (λ t. cond t (Some (record_of values row)) (row_at (rows_of_nodes values nodes) bookmark)) (sym (same_test bookmark n.key) ∙ h) ∙ sym (ap (option_map (record_of values)) e)
    by false h None e rest = rest
    by false h (Some row) e rest = ap (λ t. cond t (Some (record_of values row)) (row_at (rows_of_nodes values nodes) bookmark)) (sym (same_test bookmark n.key) ∙ h) ∙ rest
