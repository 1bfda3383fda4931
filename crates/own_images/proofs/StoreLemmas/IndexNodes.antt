-- The nodes of an index in which no entry differs from those of its records' variants.
use Rattle.std.proofs.Common.{◌≡◌, ◌≤◌, ◌<◌, ℕ, suc, Bool, true, false, ◌&&◌, ◌||◌, List, [], ◌∷◌, ◌++◌, length, None, refl, sym, ap, subst, ◌∙◌, arith, bytes_eq}
use Rattle.std.specs.Prelude.{◌==◌, map, nat_le, slice_index_or, if◌then◌else◌}
use Rattle.std.specs.Cmp.Lexicographic.{slice_cmp}
use Rattle.std.specs.List.{AllByRecursion, flat_map, list_any}
use Rattle.std.specs.List.Sorted.{IsStrictlySortedBy}
use Rattle.std.specs.Ordering.{nat_cmp, ordering_then}
use Rattle.std.specs.declared.cmp.Ordering.{Ordering}
use Rattle.std.specs.declared.cmp.Ordering.TheVariants.{Less, Equal, Greater}
use Rattle.std.proofs.lemmas.Bool.{eqb-true, leb-true}
use Rattle.std.proofs.lemmas.List.Elements.{All-from_get_or, All-from_recursion, recursion_from_All}
use Rattle.std.proofs.lemmas.Map.Lookups.{exact_bytes}
use Rattle.column_set.specs.NumberReading.{IsBytes, IsBytes-drop}
use Rattle.column_set.specs.RecordValues.{RecordFields, record_fits}
use Rattle.common_lemmas.proofs.Booleans.{and_left, and_right, impossible}
use Rattle.common_lemmas.proofs.Lists.{all_map, all_weaker}
use Rattle.common_lemmas.proofs.Numbers.{equal_bytes, same_bytes, self_equal}
use Rattle.cursor_nav.specs.Places.{Pair}
use Rattle.database_state.specs.Table.{schema_of}
use Rattle.index_derive.specs.Entries.{is_legal, key_list}
use Rattle.index_derive.specs.declared.rules.IndexRule.{IndexRule}
use Rattle.index_tree.specs.Entries.{AreApart, IsApart, IsShort, entry_of_node, node_of_entry}
use Rattle.laws_versions.proofs.IndexLemmas.Apart.{apart, short}
use Rattle.laws_versions.proofs.IndexLemmas.Members.{all_flat}
use Rattle.laws_versions.proofs.IndexLemmas.OneByOne.{all_members}
use Rattle.laws_versions.proofs.IndexLemmas.PairOrder.{IsRising, pair_cmp, sorted-rising}
use Rattle.laws_versions.proofs.IndexLemmas.RecordKeys.{one_of_all}
use Rattle.laws_versions.specs.KeptEntries.{has_entry}
use Rattle.page_image.specs.Page.{HasRisingKeys, IsBelow, Node}
use Rattle.version_store.specs.HeldChanges.{HeldChange}
use Rattle.image_findings.specs.CatalogFindings.{is_same_node}
use Rattle.image_findings.specs.EntryFindings.{found_entry, in_order, index_finding, pairs_of, stored_entry, variants_of}
use Rattle.image_findings.specs.TableContents.{TableContents}
use Rattle.own_images.proofs.Differing.{each_passes}
use Rattle.own_images.proofs.EntryLists.{any_in_order}
use Rattle.own_images.proofs.StoreLemmas.EntriesEqual.{same_entries}
use Rattle.own_images.specs.StoredContents.{AreIndexNodes, AreTreeNodes}

-- ---- entries of variants

-- a record that fits the columns, under a bookmark of 1 to 255 bytes
pub record IsVariantRow (t : TableContents) (row : List ℕ × RecordFields) : Type 0 where
  pub fits : record_fits t.table.columns row.1 ≡ true
  pub some : 0 < length row.0
  pub most : length row.0 ≤ 255

pub record IsVariantEntry (t : TableContents) (rule : IndexRule) (p : Pair) : Type 0 where
  pub fields : RecordFields
  pub fits : record_fits t.table.columns fields ≡ true
  pub key : list_any (bytes_eq p.0) (key_list rule (schema_of t.table) fields) ≡ true
  pub some : 0 < length p.1
  pub most : length p.1 ≤ 255

entries_of_row : (t : TableContents) (rule : IndexRule) (row : List ℕ × RecordFields) → IsVariantRow t row → AllByRecursion (IsVariantEntry t rule) (pairs_of rule (schema_of t.table) row)
entries_of_row t rule row h =
    all_map (IsVariantEntry t rule) (λ (key : List ℕ). (key, row.0)) (key_list rule (schema_of t.table) row.1)
    (all_weaker (λ (key : List ℕ). list_any (bytes_eq key) (key_list rule (schema_of t.table) row.1) ≡ true) (λ (key : List ℕ). IsVariantEntry t rule (key, row.0))
    (λ key has. record { fields = row.1; fits = h.fits; key = has; some = h.some; most = h.most }) (key_list rule (schema_of t.table) row.1) (all_members (key_list rule (schema_of t.table) row.1)))

entries_of_variants : (held : List HeldChange) (t : TableContents) (rule : IndexRule) → AllByRecursion (IsVariantRow t) (variants_of held t) → AllByRecursion (IsVariantEntry t rule) (flat_map (pairs_of rule (schema_of t.table)) (variants_of held t))
entries_of_variants held t rule all =
    all_flat (IsVariantEntry t rule) (pairs_of rule (schema_of t.table)) (variants_of held t)
    (all_weaker (IsVariantRow t) (λ row. AllByRecursion (IsVariantEntry t rule) (pairs_of rule (schema_of t.table) row)) (entries_of_row t rule) (variants_of held t) all)

-- ---- what all entries of one list have, those of another have

one_of : (P : Pair → Type 0) (key bookmark : List ℕ) (ps : List Pair) → has_entry key bookmark ps ≡ true → AllByRecursion P ps → P (key, bookmark)
one_of P key bookmark [] has all = impossible has
one_of P key bookmark (p ∷ ps) has all = by (bytes_eq p.0 key && bytes_eq p.1 bookmark) refl has (λ more. one_of P key bookmark ps more all.1)
  where
    by : (b : Bool) → (bytes_eq p.0 key && bytes_eq p.1 bookmark) ≡ b → (b || has_entry key bookmark ps) ≡ true → (has_entry key bookmark ps ≡ true → P (key, bookmark)) → P (key, bookmark)
    by true e h rest =
        let keys : p.0 ≡ key = same_bytes p.0 key (and_left (bytes_eq p.0 key) (bytes_eq p.1 bookmark) e) in
        let bookmarks : p.1 ≡ bookmark = same_bytes p.1 bookmark (and_right (bytes_eq p.0 key) (bytes_eq p.1 bookmark) e) in
        subst (λ (k : List ℕ). P (k, bookmark)) keys (subst (λ (k : List ℕ). P (p.0, k)) bookmarks all.0)
    by false e h rest = rest h

is_itself : (p : Pair) → (bytes_eq p.0 p.0 && bytes_eq p.1 p.1) ≡ true
is_itself p = ap (λ (b : Bool). b && bytes_eq p.1 p.1) (equal_bytes p.0 p.0 refl) ∙ equal_bytes p.1 p.1 refl

or_second : (a b : Bool) → b ≡ true → (a || b) ≡ true
or_second true b e = refl
or_second false b e = e

each_has : (ps : List Pair) → AllByRecursion (λ (p : Pair). has_entry p.0 p.1 ps ≡ true) ps
each_has [] = tt
each_has (p ∷ ps) = (
  ap (λ (b : Bool). b || has_entry p.0 p.1 ps) (is_itself p),
  all_weaker (λ (q : Pair). has_entry q.0 q.1 ps ≡ true) (λ (q : Pair). has_entry q.0 q.1 (p ∷ ps) ≡ true) (λ q h. or_second (bytes_eq p.0 q.0 && bytes_eq p.1 q.1) (has_entry q.0 q.1 ps) h) ps (each_has ps),
)

all_within : (P : Pair → Type 0) (xs ys : List Pair) → ((key bookmark : List ℕ) → has_entry key bookmark xs ≡ true → has_entry key bookmark ys ≡ true) → AllByRecursion P ys → AllByRecursion P xs
all_within P xs ys f all = all_weaker (λ (p : Pair). has_entry p.0 p.1 xs ≡ true) P (λ p h. one_of P p.0 p.1 ys (f p.0 p.1 h) all) xs (each_has xs)

stored_are_wanted : (held : List HeldChange) (t : TableContents) (rule : IndexRule) (nodes : List Node) → index_finding held t (rule, nodes) ≡ None → (key bookmark : List ℕ)
    → has_entry key bookmark (map stored_entry nodes) ≡ has_entry key bookmark (flat_map (pairs_of rule (schema_of t.table)) (variants_of held t))
stored_are_wanted held t rule nodes none key bookmark =
    let wanted = flat_map (pairs_of rule (schema_of t.table)) (variants_of held t) in
    sym (any_in_order key bookmark (map stored_entry nodes))
    ∙ ap (has_entry key bookmark) (same_entries (found_entry t rule) (in_order (map stored_entry nodes)) (in_order wanted) none)
    ∙ any_in_order key bookmark wanted

-- ---- nodes that spell their entries

same_node_is : (m n : Node) → is_same_node m n ≡ true → m ≡ n
same_node_is m n h =
    let keys : m.key ≡ n.key = same_bytes m.key n.key (and_left (bytes_eq m.key n.key) ((m.extent == n.extent) && bytes_eq m.data n.data) h) in
    let rest : ((m.extent == n.extent) && bytes_eq m.data n.data) ≡ true = and_right (bytes_eq m.key n.key) ((m.extent == n.extent) && bytes_eq m.data n.data) h in
    let extents : m.extent ≡ n.extent = eqb-true m.extent n.extent (and_left (m.extent == n.extent) (bytes_eq m.data n.data) rest) in
    let bytes : m.data ≡ n.data = same_bytes m.data n.data (and_right (m.extent == n.extent) (bytes_eq m.data n.data) rest) in
    λ i. record { key = keys i; extent = extents i; «data» = bytes i }

-- a node is that of its entry, which is one of a variant
record IsSpelled (t : TableContents) (rule : IndexRule) (n : Node) : Type 0 where
  same : node_of_entry (entry_of_node n) ≡ n
  entry : IsVariantEntry t rule (entry_of_node n)

no_bookmark : (n : ℕ) → n < 0 → ⊥
no_bookmark n h = omega (arith, h)

each_spelled : (t : TableContents) (rule : IndexRule) (nodes : List Node) → AllByRecursion (IsVariantEntry t rule) (map stored_entry nodes) → AllByRecursion (IsSpelled t rule) nodes
each_spelled t rule [] all = tt
each_spelled t rule (n ∷ nodes) all = (by (is_same_node (node_of_entry (entry_of_node n)) n) refl all.0, each_spelled t rule nodes all.1)
  where
    by : (b : Bool) → is_same_node (node_of_entry (entry_of_node n)) n ≡ b → IsVariantEntry t rule (if b then entry_of_node n else (n.key, [])) → IsSpelled t rule n
    by true e v = record { same = same_node_is (node_of_entry (entry_of_node n)) n e; entry = v }
    by false e v = absurd (no_bookmark 0 v.some)

nodes_again : (t : TableContents) (rule : IndexRule) (nodes : List Node) → AllByRecursion (IsSpelled t rule) nodes → nodes ≡ map node_of_entry (map entry_of_node nodes)
nodes_again t rule [] all = refl
nodes_again t rule (n ∷ nodes) all = let first : n ≡ node_of_entry (entry_of_node n) = sym all.0.same in λ i. first i ∷ nodes_again t rule nodes all.1 i

-- ---- keys of which none begins another

apart_entries : (t : TableContents) (rule : IndexRule) (p q : Pair) → is_legal rule (schema_of t.table) ≡ true → IsVariantEntry t rule p → IsVariantEntry t rule q → IsApart p.0 q.0
apart_entries t rule p q legal one other = record {
  begins_not = λ rest e. apart rule (schema_of t.table) one.fields other.fields p.0 rest legal one.fits other.fits one.key (subst (λ (k : List ℕ). list_any (bytes_eq k) (key_list rule (schema_of t.table) other.fields) ≡ true) e other.key);
  begun_not = λ rest e. apart rule (schema_of t.table) other.fields one.fields q.0 rest legal other.fits one.fits other.key (subst (λ (k : List ℕ). list_any (bytes_eq k) (key_list rule (schema_of t.table) one.fields) ≡ true) e one.key);
}

-- ---- the order of keys with bookmarks behind them

no_more : {A : Type 0} (x : ℕ) (xs : List ℕ) → x ∷ xs ≡ [] → A
no_more x xs e = cc

same_number : (x y : ℕ) → nat_cmp x y ≡ Equal → x ≡ y
same_number x y e = first x y (exact_bytes (x ∷ []) (y ∷ []) (ap (λ (o : Ordering). ordering_then o Equal) e))
  where
    first : (x y : ℕ) → (x ∷ []) ≡ (y ∷ []) → x ≡ y
    first x y e = cc

behind : (x : ℕ) (k l : List ℕ) → IsApart (x ∷ k) (x ∷ l) → IsApart k l
behind x k l a = record { begins_not = λ rest e. a.begins_not rest (ap (λ (m : List ℕ). x ∷ m) e); begun_not = λ rest e. a.begun_not rest (ap (λ (m : List ℕ). x ∷ m) e) }

joined : (k l b c : List ℕ) → IsApart k l → slice_cmp nat_cmp (k ++ b) (l ++ c) ≡ ordering_then (slice_cmp nat_cmp k l) (slice_cmp nat_cmp b c)
joined [] [] b c a = refl
joined [] (y ∷ l) b c a = no_more y l (a.begins_not (y ∷ l) refl)
joined (x ∷ k) [] b c a = no_more x k (a.begun_not (x ∷ k) refl)
joined (x ∷ k) (y ∷ l) b c a = by (nat_cmp x y) refl (joined k l b c)
  where
    by : (o : Ordering) → nat_cmp x y ≡ o → (IsApart k l → slice_cmp nat_cmp (k ++ b) (l ++ c) ≡ ordering_then (slice_cmp nat_cmp k l) (slice_cmp nat_cmp b c)) → ordering_then o (slice_cmp nat_cmp (k ++ b) (l ++ c)) ≡ ordering_then (ordering_then o (slice_cmp nat_cmp k l)) (slice_cmp nat_cmp b c)
    by Less e rest = refl
    by Equal e rest = rest (behind x k l (subst (λ (z : ℕ). IsApart (x ∷ k) (z ∷ l)) (sym (same_number x y e)) a))
    by Greater e rest = refl

entry_below : (p q : Pair) → IsApart p.0 q.0 → IsBelow (p.0 ++ p.1) (q.0 ++ q.1) → pair_cmp p q ≡ Less
entry_below p q a below = sym (joined p.0 q.0 p.1 q.1 a) ∙ below

key_again : (n : Node) → node_of_entry (entry_of_node n) ≡ n → n.key ≡ (entry_of_node n).0 ++ (entry_of_node n).1
key_again n e = ap (λ (m : Node). m.key) (sym e)

spelled_below : (t : TableContents) (rule : IndexRule) (m n : Node) → is_legal rule (schema_of t.table) ≡ true → IsSpelled t rule m → IsSpelled t rule n → IsBelow m.key n.key → pair_cmp (entry_of_node m) (entry_of_node n) ≡ Less
spelled_below t rule m n legal one other below =
    entry_below (entry_of_node m) (entry_of_node n) (apart_entries t rule (entry_of_node m) (entry_of_node n) legal one.entry other.entry)
    (subst (λ (k : List ℕ). IsBelow ((entry_of_node m).0 ++ (entry_of_node m).1) k) (key_again n other.same) (subst (λ (k : List ℕ). IsBelow k n.key) (key_again m one.same) below))

above_first : (t : TableContents) (rule : IndexRule) (m : Node) (nodes : List Node) → is_legal rule (schema_of t.table) ≡ true → IsSpelled t rule m → AllByRecursion (IsSpelled t rule) nodes → AllByRecursion (λ (n : Node). IsBelow m.key n.key) nodes
    → AllByRecursion (λ (q : Pair). pair_cmp (entry_of_node m) q ≡ Less) (map entry_of_node nodes)
above_first t rule m [] legal one all below = tt
above_first t rule m (n ∷ nodes) legal one all below = (spelled_below t rule m n legal one all.0 below.0, above_first t rule m nodes legal one all.1 below.1)

pub first_below : (m : Node) (nodes : List Node) → HasRisingKeys (m ∷ nodes) → AllByRecursion (λ (n : Node). IsBelow m.key n.key) nodes
first_below m nodes h = recursion_from_All (λ (n : Node). IsBelow m.key n.key) nodes (λ k d lt. h 0 (suc k) d (omega arith) (omega (arith, lt)))

pub rest_rises : (m : Node) (nodes : List Node) → HasRisingKeys (m ∷ nodes) → HasRisingKeys nodes
rest_rises m nodes h = λ i j d lt within. h (suc i) (suc j) d (omega (arith, lt)) (omega (arith, within))

entries_rise : (t : TableContents) (rule : IndexRule) (nodes : List Node) → is_legal rule (schema_of t.table) ≡ true → AllByRecursion (IsSpelled t rule) nodes → HasRisingKeys nodes → IsRising (map entry_of_node nodes)
unfolding IsStrictlySortedBy
entries_rise t rule [] legal all h = tt
entries_rise t rule (m ∷ nodes) legal all h = (above_first t rule m nodes legal all.0 all.1 (first_below m nodes h), entries_rise t rule nodes legal all.1 (rest_rises m nodes h))

-- ---- short entries

short_entry : (t : TableContents) (rule : IndexRule) (n : Node) → rule.key_most ≤ 255 → IsSpelled t rule n → IsBytes n.key → IsShort (entry_of_node n)
short_entry t rule n most one bytes = record {
  key = shorter (length (entry_of_node n).0) rule.key_most (leb-true (length (entry_of_node n).0) rule.key_most
      (one_of_all (λ (k : List ℕ). nat_le (length k) rule.key_most ≡ true) (entry_of_node n).0 (key_list rule (schema_of t.table) one.entry.fields)
      (each_passes (λ (k : List ℕ). nat_le (length k) rule.key_most) (key_list rule (schema_of t.table) one.entry.fields) (short rule (schema_of t.table) one.entry.fields)) one.entry.key)) most;
  bookmark = one.entry.most;
  bytes = All-from_get_or (λ (b : ℕ). b < 256) (entry_of_node n).1 0 (λ i lt. IsBytes-drop _ n.key bytes i);
}
  where
    shorter : (m k : ℕ) → m ≤ k → k ≤ 255 → m ≤ 255
    shorter m k p q = omega (arith, p, q)

all_short : (t : TableContents) (rule : IndexRule) (nodes : List Node) → rule.key_most ≤ 255 → AllByRecursion (IsSpelled t rule) nodes → AllByRecursion (λ (n : Node). IsBytes n.key) nodes → AllByRecursion IsShort (map entry_of_node nodes)
all_short t rule [] most all bytes = tt
all_short t rule (n ∷ nodes) most all bytes = (short_entry t rule n most all.0 bytes.0, all_short t rule nodes most all.1 bytes.1)

spelled_entries : (t : TableContents) (rule : IndexRule) (nodes : List Node) → AllByRecursion (IsSpelled t rule) nodes → AllByRecursion (IsVariantEntry t rule) (map entry_of_node nodes)
spelled_entries t rule nodes all = all_map (IsVariantEntry t rule) entry_of_node nodes (all_weaker (IsSpelled t rule) (λ n. IsVariantEntry t rule (entry_of_node n)) (λ n s. s.entry) nodes all)

-- ---- the whole

all_apart : (t : TableContents) (rule : IndexRule) (ps : List Pair) → is_legal rule (schema_of t.table) ≡ true → AllByRecursion (IsVariantEntry t rule) ps → AreApart ps
all_apart t rule ps legal all =
    let each = All-from_recursion (IsVariantEntry t rule) ps all in
    λ i j d lt within. apart_entries t rule (slice_index_or ps i d) (slice_index_or ps j d) legal (each i d (before i j lt within)) (each j d within)
  where
    before : (i j : ℕ) → i < j → j < length ps → i < length ps
    before i j lt within = omega (arith, lt, within)

spelled_nodes : (held : List HeldChange) (t : TableContents) (rule : IndexRule) (nodes : List Node) → AllByRecursion (IsVariantRow t) (variants_of held t) → index_finding held t (rule, nodes) ≡ None → AllByRecursion (IsSpelled t rule) nodes
spelled_nodes held t rule nodes rows none =
    each_spelled t rule nodes
    (all_within (IsVariantEntry t rule) (map stored_entry nodes) (flat_map (pairs_of rule (schema_of t.table)) (variants_of held t)) (λ key bookmark h. sym (stored_are_wanted held t rule nodes none key bookmark) ∙ h)
    (entries_of_variants held t rule rows))

pub index_nodes : (held : List HeldChange) (t : TableContents) (rule : IndexRule) (nodes : List Node) → is_legal rule (schema_of t.table) ≡ true → rule.key_most ≤ 255 → AllByRecursion (IsVariantRow t) (variants_of held t) → AreTreeNodes nodes
    → index_finding held t (rule, nodes) ≡ None → AreIndexNodes nodes
index_nodes held t rule nodes legal most rows tree none =
    let spelled = spelled_nodes held t rule nodes rows none in
    record {
      nodes_are = nodes_again t rule nodes spelled;
      in_order = sorted-rising (map entry_of_node nodes) (entries_rise t rule nodes legal spelled tree.rising);
      short = All-from_recursion IsShort (map entry_of_node nodes) (all_short t rule nodes most spelled tree.keys);
      apart = all_apart t rule (map entry_of_node nodes) legal (spelled_entries t rule nodes spelled);
    }

-- ---- stored entries are those of the nodes

stored_again : (t : TableContents) (rule : IndexRule) (nodes : List Node) → AllByRecursion (IsSpelled t rule) nodes → map stored_entry nodes ≡ map entry_of_node nodes
stored_again t rule [] all = refl
stored_again t rule (n ∷ nodes) all =
    let own : is_same_node (node_of_entry (entry_of_node n)) n ≡ true = ap (λ (m : Node). is_same_node m n) all.0.same ∙ itself n in
    let first : stored_entry n ≡ entry_of_node n = ap (λ (b : Bool). if b then entry_of_node n else (n.key, [])) own in
    λ i. first i ∷ stored_again t rule nodes all.1 i
  where
    same : (n : ℕ) → (n == n) ≡ true
    same n = self_equal n

    itself : (n : Node) → is_same_node n n ≡ true
    itself n = ap (λ (b : Bool). b && ((n.extent == n.extent) && bytes_eq n.data n.data)) (equal_bytes n.key n.key refl) ∙ ap (λ (b : Bool). b && bytes_eq n.data n.data) (same n.extent) ∙ equal_bytes n.data n.data refl

pub entries_are_wanted : (held : List HeldChange) (t : TableContents) (rule : IndexRule) (nodes : List Node) → AllByRecursion (IsVariantRow t) (variants_of held t) → index_finding held t (rule, nodes) ≡ None → (key bookmark : List ℕ)
    → has_entry key bookmark (map entry_of_node nodes) ≡ has_entry key bookmark (flat_map (pairs_of rule (schema_of t.table)) (variants_of held t))
entries_are_wanted held t rule nodes rows none key bookmark =
    ap (has_entry key bookmark) (sym (stored_again t rule nodes (spelled_nodes held t rule nodes rows none))) ∙ stored_are_wanted held t rule nodes none key bookmark
