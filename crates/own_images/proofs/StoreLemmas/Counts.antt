-- The long values of a consistent image are counted as a store counts them, and are of entries that were made.
use Rattle.std.proofs.Common.{◌≡◌, ◌≤◌, ◌<◌, ◌+◌, ℕ, Bool, true, false, not, ◌&&◌, ◌||◌, cond, List, [], ◌∷◌, ◌++◌, Option, Some, None, inl, inr, refl, sym, ap, subst, ◌∙◌, arith, bytes_eq}
use Rattle.std.specs.Prelude.{◌⊎◌, ◌==◌, ◌^◌, filter, find, map, nat_le, option_map, sum_by, unwrap_or, if◌then◌else◌}
use Rattle.std.specs.Cmp.Lexicographic.{nat_list_cmp_total}
use Rattle.std.specs.FinMap.Entries.{find-put}
use Rattle.std.specs.List.{AllByRecursion, flat_map, list_any}
use Rattle.std.specs.Ordering.{eq_by_cmp}
use Rattle.std.proofs.lemmas.Bool.{eqb-true, leb-true}
use Rattle.std.proofs.lemmas.Bool.Decides.{nat_tests}
use Rattle.std.proofs.lemmas.List.Concat.{flat_map-cons}
use Rattle.std.proofs.lemmas.List.Sums.{sum_by-cons}
use Rattle.column_set.specs.Rows.{RowFields, values_in_order}
use Rattle.column_set.specs.declared.rows.RowValue.{RowValue}
use Rattle.column_set.specs.declared.rows.RowValue.TheVariants.{Here, Apart}
use Rattle.common_lemmas.proofs.Booleans.{and_left, and_right, by_test, impossible}
use Rattle.common_lemmas.proofs.Found.{found_passes, of_found}
use Rattle.common_lemmas.proofs.Lists.{all_weaker, filter_none}
use Rattle.common_lemmas.proofs.Numbers.{same_bytes}
use Rattle.common_lemmas.proofs.Options.{none_some, same_some, some_apart}
use Rattle.long_rows.specs.ReferenceCounts.{HasCounts, RowBefore, references_before}
use Rattle.long_rows.specs.RowReferences.{identifier, named_by, references, times_among, with_named}
use Rattle.long_rows.specs.WholeRows.{has_length, is_there}
use Rattle.long_value.specs.ChangedValues.{same_key}
use Rattle.long_value.specs.Shown.{id_of, is_head, shown_values, value_at, values_of_heads}
use Rattle.long_value.specs.Values.{LongValue, Values, order, put_value, value_of}
use Rattle.page_image.specs.Page.{Node}
use Rattle.stored_variants.specs.CountedValues.{AreCounted, HasNoValueBehind, newest_rows, row_before, rows_before}
use Rattle.table_trees.specs.StoredTables.{table_long_values, table_nodes}
use Rattle.version_cleanup.specs.LiveSessions.{LiveState}
use Rattle.version_store.specs.HeldChanges.{HeldChange}
use Rattle.image_findings.specs.CountFindings.{count_finding, is_miscounted}
use Rattle.image_findings.specs.SoundChanges.{IsSoundChange}
use Rattle.image_findings.specs.TableContents.{TableContents, contents_with_id, long_values, wanted_count}
use Rattle.image_findings.specs.ValueFindings.{entry_in, found_value, is_whole_value, missing_before, missing_of_row, missing_value, missing_values, nodes_of_value}
use Rattle.own_images.specs.StoredContents.{HasWholeValues}
use Rattle.own_images.proofs.WholeValues.{entry_read}
use Rattle.own_images.proofs.StoreLemmas.Lookups.{longs_found, longs_none, nodes_found, nodes_none, trees_of}

-- ---- lists without elements

no_cons : {X A : Type 0} (x : X) (xs : List X) → x ∷ xs ≡ [] → A
no_cons x xs e = cc

left_empty : {X : Type 0} (xs ys : List X) → xs ++ ys ≡ [] → xs ≡ []
left_empty [] ys e = refl
left_empty (x ∷ xs) ys e = no_cons x (xs ++ ys) e

right_empty : {X : Type 0} (xs ys : List X) → xs ++ ys ≡ [] → ys ≡ []
right_empty [] ys e = e
right_empty (x ∷ xs) ys e = no_cons x (xs ++ ys) e

each_empty : {X Y : Type 0} (f : X → List Y) (xs : List X) → flat_map f xs ≡ [] → AllByRecursion (λ x. f x ≡ []) xs
each_empty f [] e = tt
each_empty f (x ∷ xs) e =
    let split : f x ++ flat_map f xs ≡ [] = sym (flat_map-cons f x xs) ∙ e in
    (left_empty (f x) (flat_map f xs) split, each_empty f xs (right_empty (f x) (flat_map f xs) split))

-- ---- a value that is not there is not named

there : (values : Values) (v : RowValue) → missing_value values v ≡ [] → is_there values v ≡ true
there values (Here bytes) e = refl
there values (Apart entry place size) e = by (is_there values (Apart entry place size)) e
  where
    by : (b : Bool) → cond b [] (identifier entry place ∷ []) ≡ [] → b ≡ true
    by true e = refl
    by false e = no_cons (identifier entry place) [] e

other_id : (values : Values) (id : List ℕ) (entry place size : ℕ) → value_of id values ≡ None → is_there values (Apart entry place size) ≡ true → bytes_eq id (identifier entry place) ≡ false
other_id values id entry place size none is = by_test (bytes_eq id (identifier entry place)) (λ e. impossible (sym (gone e) ∙ is)) (λ e. e)
  where
    gone : bytes_eq id (identifier entry place) ≡ true → has_length size (value_of (identifier entry place) values) ≡ false
    gone e = ap (λ (k : List ℕ). has_length size (value_of k values)) (sym (same_bytes id (identifier entry place) e)) ∙ ap (has_length size) none

nothing_more : (n : ℕ) → n ≡ 0 → 0 + n ≡ 0
nothing_more n e = omega (arith, e)

not_named : (values : Values) (id : List ℕ) (vs : List (ℕ × RowValue)) → value_of id values ≡ None → AllByRecursion (λ (v : ℕ × RowValue). missing_value values v.1 ≡ []) vs → times_among id (named_by vs) ≡ 0
not_named values id [] none all = refl
not_named values id (v ∷ vs) none all = by v.1 all.0 (not_named values id vs none all.1)
  where
    with_one : (b : Bool) (other : List ℕ) (ids : List (List ℕ)) → bytes_eq id other ≡ false → times_among id ids ≡ 0 → times_among id (if b then ids else other ∷ ids) ≡ 0
    with_one true other ids apart rest = rest
    with_one false other ids apart rest = sum_by-cons (λ (k : List ℕ). cond (bytes_eq id k) 1 0) other ids ∙ ap (λ (c : Bool). cond c 1 0 + times_among id ids) apart ∙ nothing_more (times_among id ids) rest

    by : (w : RowValue) → missing_value values w ≡ [] → times_among id (named_by vs) ≡ 0 → times_among id (with_named w (named_by vs)) ≡ 0
    by (Here bytes) e rest = rest
    by (Apart entry place size) e rest =
        with_one (list_any (bytes_eq (identifier entry place)) (named_by vs)) (identifier entry place) (named_by vs) (other_id values id entry place size none (there values (Apart entry place size) e)) rest

not_in_row : (values : Values) (id : List ℕ) (row : RowFields) → value_of id values ≡ None → missing_of_row values row ≡ [] → references id (Some row) ≡ 0
not_in_row values id row none e = not_named values id (values_in_order row) none (each_empty (λ (v : ℕ × RowValue). missing_value values v.1) (values_in_order row) e)

nothing_summed : {X : Type 0} (f : X → ℕ) (xs : List X) → AllByRecursion (λ x. f x ≡ 0) xs → sum_by f xs ≡ 0
nothing_summed f [] all = refl
nothing_summed f (x ∷ xs) all = sum_by-cons f x xs ∙ omega (arith, all.0, nothing_summed f xs all.1)

not_before : (values : Values) (id : List ℕ) (change : RowBefore) → value_of id values ≡ None → missing_before values change ≡ [] → references_before id change ≡ 0
not_before values id change none e = by change.row e change.is_undone
  where
    by : (o : Option RowFields) → missing_before values (record change { row = o }) ≡ [] → (b : Bool) → (if b then 0 else references id o) ≡ 0
    by o e true = refl
    by None e false = refl
    by (Some row) e false = not_in_row values id row none e

none_refers : (held : List HeldChange) (t : TableContents) (id : List ℕ) → missing_values held t ≡ [] → value_of id (long_values t) ≡ None → wanted_count held t id ≡ 0
none_refers held t id missing none =
    let rows = flat_map (λ (row : List ℕ × RowFields). missing_of_row (long_values t) row.1) (newest_rows t.nodes) in
    let befores = flat_map (missing_before (long_values t)) (rows_before t.table.id held) in
    let one : sum_by (λ (row : List ℕ × RowFields). references id (Some row.1)) (newest_rows t.nodes) ≡ 0 =
    nothing_summed (λ (row : List ℕ × RowFields). references id (Some row.1)) (newest_rows t.nodes)
    (all_weaker (λ (row : List ℕ × RowFields). missing_of_row (long_values t) row.1 ≡ []) (λ (row : List ℕ × RowFields). references id (Some row.1) ≡ 0) (λ row e. not_in_row (long_values t) id row.1 none e) (newest_rows t.nodes)
    (each_empty (λ (row : List ℕ × RowFields). missing_of_row (long_values t) row.1) (newest_rows t.nodes) (left_empty rows befores missing)))
    in
    let other : sum_by (references_before id) (rows_before t.table.id held) ≡ 0 =
    nothing_summed (references_before id) (rows_before t.table.id held)
    (all_weaker (λ change. missing_before (long_values t) change ≡ []) (λ change. references_before id change ≡ 0) (λ change e. not_before (long_values t) id change none e) (rows_before t.table.id held)
    (each_empty (missing_before (long_values t)) (rows_before t.table.id held) (right_empty rows befores missing)))
    in
    omega (arith, one, other)

-- ---- a value that is there counts its references

element : (P : List ℕ → LongValue → Type 0) (id : List ℕ) (value : LongValue) (values : Values) → AllByRecursion (λ (row : List ℕ × LongValue). P row.0 row.1) values → value_of id values ≡ Some value → P id value
element P id value [] all e = none_some value e
element P id value (row ∷ values) all e = by (eq_by_cmp order id row.0) refl e (λ g. element P id value values all.1 g)
  where
    by : (b : Bool) → eq_by_cmp order id row.0 ≡ b → cond b (Some row.1) (value_of id values) ≡ Some value → (value_of id values ≡ Some value → P id value) → P id value
    by true t g rest = subst (λ (k : List ℕ). P k value) (sym (same_key id row.0 t)) (subst (P row.0) (same_some row.1 value g) all.0)
    by false t g rest = rest g

none_passing : {X : Type 0} (p : X → Bool) (xs : List X) → find p xs ≡ None → AllByRecursion (λ x. p x ≡ false) xs
none_passing p [] e = tt
none_passing p (x ∷ xs) e = by (p x) refl e (λ g. none_passing p xs g)
  where
    by : (b : Bool) → p x ≡ b → cond b (Some x) (find p xs) ≡ None → (find p xs ≡ None → AllByRecursion (λ y. p y ≡ false) xs) → (p x ≡ false) × AllByRecursion (λ y. p y ≡ false) xs
    by true t g rest = absurd (some_apart x g)
    by false t g rest = (t, rest g)

found_none : {X Y : Type 0} (f : X → Y) (o : Option X) → option_map f o ≡ None → o ≡ None
found_none f None e = refl
found_none f (Some x) e = absurd (some_apart (f x) e)

-- the count of a value is that of its references, and not 0
pub record IsCounted (held : List HeldChange) (t : TableContents) (id : List ℕ) (value : LongValue) : Type 0 where
  pub some : 1 ≤ value.count
  pub count : value.count ≡ wanted_count held t id

rightly : (n m : ℕ) → ((n == 0) || not (n == m)) ≡ false → (1 ≤ n) × (n ≡ m)
rightly n m e = (grind (arith, nat_tests, e), grind (arith, nat_tests, e))

pub each_counted : (held : List HeldChange) (t : TableContents) → count_finding held t ≡ None → AllByRecursion (λ (row : List ℕ × LongValue). IsCounted held t row.0 row.1) (long_values t)
each_counted held t none =
    all_weaker (λ (row : List ℕ × LongValue). is_miscounted held t row ≡ false) (λ (row : List ℕ × LongValue). IsCounted held t row.0 row.1)
    (λ row e. let both = rightly row.1.count (wanted_count held t row.0) e in record { some = both.0; count = both.1 }) (long_values t)
    (none_passing (is_miscounted held t) (long_values t) (found_none (λ (value : List ℕ × LongValue). found_value held t value.1.count value.0) (find (is_miscounted held t) (long_values t)) none))

has_counts : (number : ℕ) (held : List HeldChange) (t : TableContents) → HasWholeValues number held t → count_finding held t ≡ None → HasCounts (long_values t) (newest_rows t.nodes) (rows_before t.table.id held)
has_counts number held t values counts id = by (value_of id (long_values t)) refl
  where
    by : (o : Option LongValue) → value_of id (long_values t) ≡ o → unwrap_or (option_map (λ (value : LongValue). value.count) o) 0 ≡ wanted_count held t id
    by None e = sym (none_refers held t id values.missing e)
    by (Some value) e = (element (IsCounted held t) id value (long_values t) (each_counted held t counts) e).count

-- ---- all tables

no_change : (tables : List TableContents) (number : ℕ) (sessions : List LiveState) (table : ℕ) → contents_with_id tables table ≡ None → (held : List HeldChange) → AllByRecursion (IsSoundChange number tables sessions) held → AllByRecursion (λ (h : HeldChange). (h.table == table) ≡ false) held
no_change tables number sessions table none held known =
    all_weaker (IsSoundChange number tables sessions) (λ (h : HeldChange). (h.table == table) ≡ false)
    (λ h k. by_test (h.table == table) (λ e. absurd (some_apart k.t (sym k.found ∙ ap (contents_with_id tables) (eqb-true h.table table e) ∙ none))) (λ e. e)) held known

pub are_counted : (number : ℕ) (tables : List TableContents) (sessions : List LiveState) (held : List HeldChange) → AllByRecursion (IsSoundChange number tables sessions) held → AllByRecursion (HasWholeValues number held) tables
    → AllByRecursion (λ t. count_finding held t ≡ None) tables → AreCounted (trees_of tables) held
are_counted number tables sessions held known values counts table = by (contents_with_id tables table) refl
  where
    by : (o : Option TableContents) → contents_with_id tables table ≡ o → HasCounts (table_long_values (trees_of tables) table) (newest_rows (table_nodes (trees_of tables) table)) (rows_before table held)
    by None e =
        subst (λ (v : Values). HasCounts v (newest_rows (table_nodes (trees_of tables) table)) (rows_before table held)) (sym (longs_none tables table e))
        (subst (λ (l : List Node). HasCounts [] (newest_rows l) (rows_before table held)) (sym (nodes_none tables table e))
        (subst (λ (l : List HeldChange). HasCounts [] [] (map row_before l)) (sym (filter_none (λ (h : HeldChange). h.table == table) held (no_change tables number sessions table e held known))) (λ id. refl)))
    by (Some t) e =
        let same : t.table.id ≡ table = eqb-true t.table.id table (found_passes (λ (u : TableContents). u.table.id == table) tables t e) in
        subst (λ (v : Values). HasCounts v (newest_rows (table_nodes (trees_of tables) table)) (rows_before table held)) (sym (longs_found tables table t e))
        (subst (λ (l : List Node). HasCounts (long_values t) (newest_rows l) (rows_before table held)) (sym (nodes_found tables table t e))
        (subst (λ (k : ℕ). HasCounts (long_values t) (newest_rows t.nodes) (rows_before k held)) same
        (has_counts number held t (of_found (HasWholeValues number held) (λ (u : TableContents). u.table.id == table) tables t e values) (of_found (λ u. count_finding held u ≡ None) (λ (u : TableContents). u.table.id == table) tables t e counts))))

-- ---- entries that were made

is_head_of : List ℕ → Node → Bool
is_head_of id n = eq_by_cmp order id (id_of n) && is_head n

put_found : (id key : List ℕ) (value : LongValue) (values : Values) (b : Bool) → eq_by_cmp order id key ≡ b → value_of id (put_value key value values) ≡ cond b (Some value) (value_of id values)
put_found id key value values b t = find-put order nat_list_cmp_total id key value values ∙ ap (λ c. cond c (Some value) (value_of id values)) t

head_found : (id : List ℕ) (nodes rest : List Node) → value_of id (values_of_heads nodes rest) ≡ option_map (value_at nodes) (find (is_head_of id) rest)
unfolding is_head_of
head_found id nodes [] = refl
head_found id nodes (n ∷ rest) = by (is_head n) (eq_by_cmp order id (id_of n)) (head_found id nodes rest) refl
  where
    by : (h t : Bool) → value_of id (values_of_heads nodes rest) ≡ option_map (value_at nodes) (find (is_head_of id) rest) → eq_by_cmp order id (id_of n) ≡ t
        → value_of id (cond h (put_value (id_of n) (value_at nodes n) (values_of_heads nodes rest)) (values_of_heads nodes rest)) ≡ option_map (value_at nodes) (cond (t && h) (Some n) (find (is_head_of id) rest))
    by true true more e = put_found id (id_of n) (value_at nodes n) (values_of_heads nodes rest) true e
    by true false more e = put_found id (id_of n) (value_at nodes n) (values_of_heads nodes rest) false e ∙ more
    by false true more e = more
    by false false more e = more

own_id : (id : List ℕ) (n : Node) → is_head_of id n ≡ true → id ≡ id_of n
unfolding is_head_of
own_id id n e = same_key id (id_of n) (and_left (eq_by_cmp order id (id_of n)) (is_head n) e)

-- what the identifier of each node has, that of each value has
of_value : (P : List ℕ → Type 0) (nodes : List Node) (id : List ℕ) (value : LongValue) → AllByRecursion (λ (n : Node). P (id_of n)) nodes → value_of id (shown_values nodes) ≡ Some value → P id
of_value P nodes id value all e = by (find (is_head_of id) nodes) refl (sym (head_found id nodes nodes) ∙ e)
  where
    by : (o : Option Node) → find (is_head_of id) nodes ≡ o → option_map (value_at nodes) o ≡ Some value → P id
    by None f g = none_some value g
    by (Some n) f g = subst P (sym (own_id id n (found_passes (is_head_of id) nodes n f))) (of_found (λ (m : Node). P (id_of m)) (is_head_of id) nodes n f all)

is_made : ℕ → List ℕ → Bool
is_made number id = nat_le 1 (entry_in id) && nat_le (entry_in id) number

whole_is_made : (number : ℕ) (id : List ℕ) (nodes : List Node) → is_whole_value number id nodes ≡ true → is_made number id ≡ true
unfolding is_made
whole_is_made number id [] e = impossible e
whole_is_made number id (head ∷ chunks) e = and_left (nat_le 1 (entry_in id) && nat_le (entry_in id) number) _ e

each_made : (number : ℕ) (all nodes : List Node) → filter (λ id. not (is_whole_value number id (nodes_of_value id all))) (map id_of nodes) ≡ [] → AllByRecursion (λ (n : Node). is_made number (id_of n) ≡ true) nodes
each_made number all [] e = tt
each_made number all (n ∷ nodes) e = by (is_whole_value number (id_of n) (nodes_of_value (id_of n) all)) refl e (λ g. each_made number all nodes g)
  where
    by : (b : Bool) → is_whole_value number (id_of n) (nodes_of_value (id_of n) all) ≡ b
        → cond (not b) (id_of n ∷ filter (λ id. not (is_whole_value number id (nodes_of_value id all))) (map id_of nodes)) (filter (λ id. not (is_whole_value number id (nodes_of_value id all))) (map id_of nodes)) ≡ []
        → (filter (λ id. not (is_whole_value number id (nodes_of_value id all))) (map id_of nodes) ≡ [] → AllByRecursion (λ (m : Node). is_made number (id_of m) ≡ true) nodes)
        → (is_made number (id_of n) ≡ true) × AllByRecursion (λ (m : Node). is_made number (id_of m) ≡ true) nodes
    by true t g rest = (whole_is_made number (id_of n) (nodes_of_value (id_of n) all) t, rest g)
    by false t g rest = no_cons (id_of n) (filter (λ id. not (is_whole_value number id (nodes_of_value id all))) (map id_of nodes)) g

not_behind : (number n : ℕ) → (n ≡ 0) ⊎ (number < n) → 1 ≤ n → n ≤ number → ⊥
not_behind number n (inl e) low high = omega (arith, e, low)
not_behind number n (inr e) low high = omega (arith, e, high)

made_bounds : (number : ℕ) (id : List ℕ) → is_made number id ≡ true → (1 ≤ entry_in id) × (entry_in id ≤ number)
unfolding is_made
made_bounds number id e = (leb-true 1 (entry_in id) (and_left (nat_le 1 (entry_in id)) (nat_le (entry_in id) number) e), leb-true (entry_in id) number (and_right (nat_le 1 (entry_in id)) (nat_le (entry_in id) number) e))

none_behind : (number : ℕ) (held : List HeldChange) (t : TableContents) → HasWholeValues number held t → (n place : ℕ) → (n ≡ 0) ⊎ (number < n) → n < 2 ^ 64 → value_of (identifier n place) (long_values t) ≡ None
none_behind number held t whole n place outside fits = by (value_of (identifier n place) (long_values t)) refl
  where
    by : (o : Option LongValue) → value_of (identifier n place) (long_values t) ≡ o → o ≡ None
    by None e = refl
    by (Some value) e =
        let made = made_bounds number (identifier n place)
        (of_value (λ (id : List ℕ). is_made number id ≡ true) t.value_nodes (identifier n place) value
        (each_made number t.value_nodes t.value_nodes whole.broken) e)
        in
        absurd (not_behind number n outside (subst (λ (k : ℕ). 1 ≤ k) (entry_read n place fits) made.0) (subst (λ (k : ℕ). k ≤ number) (entry_read n place fits) made.1))

pub has_none_behind : (number : ℕ) (held : List HeldChange) (tables : List TableContents) → AllByRecursion (HasWholeValues number held) tables → HasNoValueBehind number (trees_of tables)
has_none_behind number held tables values table n place outside fits small = by (contents_with_id tables table) refl
  where
    by : (o : Option TableContents) → contents_with_id tables table ≡ o → value_of (identifier n place) (table_long_values (trees_of tables) table) ≡ None
    by None e = ap (value_of (identifier n place)) (longs_none tables table e)
    by (Some t) e = ap (value_of (identifier n place)) (longs_found tables table t e) ∙ none_behind number held t (of_found (HasWholeValues number held) (λ (u : TableContents). u.table.id == table) tables t e values) n place outside fits
