-- The order of the bookmarks of the records that a reader sees, by the nodes.
use Rattle.std.proofs.Common.{◌≡◌, ℕ, Bool, true, false, ◌&&◌, ◌||◌, cond, List, [], ◌∷◌, Option, Some, filter, find, option_map, refl, sym, ap, ◌∙◌}
use Rattle.std.specs.Prelude.{bytes_eq, is_some}
use Rattle.std.specs.Ordering.{eq_by_cmp, nat_cmp}
use Rattle.std.specs.Cmp.Lexicographic.{slice_cmp, texts_ties}
use Rattle.std.proofs.lemmas.Bool.{and_from, or_left, or_right}
use Rattle.common_lemmas.proofs.Booleans.{T_first, and_left, and_right}
use Rattle.common_lemmas.proofs.Numbers.{bytes_turned, same_bytes}
use Rattle.btree_inplace.specs.Order.{get_in, has_key}
use Rattle.column_set.specs.RecordValues.{RecordFields}
use Rattle.cursor_nav.specs.Places.{Pair, are_sorted}
use Rattle.database_state.specs.Table.{Rows, row_at}
use Rattle.laws_versions.specs.KeptEntries.{has_entry}
use Rattle.index_derive.specs.Entries.{own_order}
use Rattle.page_image.specs.Page.{Node}
use Rattle.table_trees.specs.StoredNodes.{bookmark_entries}
use Rattle.version_store.specs.declared.calls.Reader.{Reader}
use Rattle.version_store.specs.HeldChanges.{is_rewrite}
use Rattle.laws_engine.specs.HeldRecords.{HeldRecord, before_or, hides, is_change_at, is_standing_rewrite, seen_record}
use Rattle.laws_engine.specs.VersionedTables.{seen_rows}
use Rattle.laws_engine.specs.Variants.{has_variant}
use Rattle.laws_engine.proofs.TableLemmas.Rising.{seen_rise}
use Rattle.stored_variants.specs.RecordRows.{rows_of_nodes}
use Rattle.stored_variants.proofs.RisingRows.{rows_rise}
use Rattle.long_value.specs.Values.{Values}
use Rattle.laws_engine.proofs.TableLemmas.ShownEntries.{order_is, unseen_stands}

-- ---- a record that is seen has a node

pub seen_is_variant : (reader : Reader) (table : ℕ) (bookmark : List ℕ) (newest : Option RecordFields) (held : List HeldRecord)
    → is_some (seen_record table bookmark reader newest held) ≡ true → has_variant newest held table bookmark ≡ true
seen_is_variant reader table bookmark newest [] e = or_left (is_some newest) false e
seen_is_variant reader table bookmark newest (h ∷ held) e = by (hides table bookmark reader h) refl (seen_is_variant reader table bookmark newest held) e
  where
    later : (a b c : Bool) → (a || c) ≡ true → (a || (b || c)) ≡ true
    later true b c e = refl
    later false true c e = refl
    later false false c e = e

    by : (b : Bool) → hides table bookmark reader h ≡ b → (is_some (seen_record table bookmark reader newest held) ≡ true → has_variant newest held table bookmark ≡ true)
        → is_some (before_or newest (cond b (Some h) (find (hides table bookmark reader) held))) ≡ true → has_variant newest (h ∷ held) table bookmark ≡ true
    by true hit rest g =
        let touched : (is_change_at table bookmark h && is_rewrite h.kind) ≡ true = and_left _ _ hit in
        let live = unseen_stands reader h.session h.status (and_right (is_change_at table bookmark h && is_rewrite h.kind) _ hit) in
        or_right (is_some newest) _ (or_left (is_standing_rewrite table bookmark h && is_some h.before) _ (and_from _ _ (and_from _ _ touched live) g))
    by false miss rest g = later (is_some newest) (is_standing_rewrite table bookmark h && is_some h.before) _ (rest g)

-- ---- entries that are there

-- an own pair is the pair asked where both are its bookmark
own_pair : (key bookmark own : List ℕ) → bytes_eq own bookmark ≡ true → bytes_eq own key ≡ bytes_eq key bookmark
own_pair key bookmark own e = ap (λ (k : List ℕ). bytes_eq k key) (same_bytes own bookmark e) ∙ bytes_turned bookmark key

pub there-rows : (key bookmark : List ℕ) (rows : Rows) → has_entry key bookmark (own_order rows) ≡ (bytes_eq key bookmark && is_some (row_at rows bookmark))
there-rows key bookmark [] = never (bytes_eq key bookmark)
  where
    never : (b : Bool) → false ≡ (b && false)
    never true = refl
    never false = refl
there-rows key bookmark (row ∷ rows) = by (bytes_eq row.0 bookmark) refl (there-rows key bookmark rows)
  where
    test : (b : Bool) → bytes_eq row.0 bookmark ≡ b → eq_by_cmp (slice_cmp nat_cmp) bookmark row.0 ≡ b
    test b e = sym (texts_ties bookmark row.0) ∙ bytes_turned bookmark row.0 ∙ e

    T_first : (a c : Bool) → ((a && true) || (a && c)) ≡ (a && true)
    T_first true c = refl
    T_first false c = refl

    none : (a c : Bool) → ((a && false) || c) ≡ c
    none true c = refl
    none false c = refl

    by : (b : Bool) → bytes_eq row.0 bookmark ≡ b → has_entry key bookmark (own_order rows) ≡ (bytes_eq key bookmark && is_some (row_at rows bookmark))
        → ((bytes_eq row.0 key && bytes_eq row.0 bookmark) || has_entry key bookmark (own_order rows)) ≡ (bytes_eq key bookmark && is_some (cond (eq_by_cmp (slice_cmp nat_cmp) bookmark row.0) (Some row.1) (row_at rows bookmark)))
    by true e rest =
        (λ i. ((own_pair key bookmark row.0 e i && e i) || rest i))
        ∙ T_first (bytes_eq key bookmark) (is_some (row_at rows bookmark))
        ∙ ap (λ b. bytes_eq key bookmark && is_some (cond b (Some row.1) (row_at rows bookmark))) (sym (test true e))
    by false e rest =
        (λ i. ((bytes_eq row.0 key && e i) || rest i))
        ∙ none (bytes_eq row.0 key) _
        ∙ ap (λ b. bytes_eq key bookmark && is_some (cond b (Some row.1) (row_at rows bookmark))) (sym (test false e))

pub there-nodes : (f : List ℕ → Bool) (key bookmark : List ℕ) (nodes : List Node)
    → has_entry key bookmark (filter (λ entry. f entry.1) (bookmark_entries nodes)) ≡ (bytes_eq key bookmark && (f bookmark && is_some (get_in nodes bookmark)))
there-nodes f key bookmark [] = never (bytes_eq key bookmark) (f bookmark)
  where
    never : (a b : Bool) → false ≡ (a && (b && false))
    never true true = refl
    never true false = refl
    never false b = refl
there-nodes f key bookmark (n ∷ nodes) = by (bytes_eq n.key bookmark) (f n.key) refl refl (there-nodes f key bookmark nodes)
  where
    rest : List Pair
    rest = filter (λ entry. f entry.1) (bookmark_entries nodes)

    test : (b : Bool) → bytes_eq n.key bookmark ≡ b → has_key bookmark n ≡ b
    test b e = sym (texts_ties n.key bookmark) ∙ e

    found : (b : Bool) → has_key bookmark n ≡ b → is_some (cond b (Some n.data) (get_in nodes bookmark)) ≡ is_some (get_in (n ∷ nodes) bookmark)
    found true e = sym (ap (λ b. is_some (option_map (λ (n : Node). n.data) (cond b (Some n) (find (has_key bookmark) nodes)))) e)
    found false e = sym (ap (λ b. is_some (option_map (λ (n : Node). n.data) (cond b (Some n) (find (has_key bookmark) nodes)))) e)

    T_first : (a c : Bool) → ((a && true) || (a && (true && c))) ≡ (a && (true && true))
    T_first true c = refl
    T_first false c = refl

    hidden : (a c : Bool) → (a && (false && c)) ≡ (a && (false && true))
    hidden true c = refl
    hidden false c = refl

    none : (a c : Bool) → ((a && false) || c) ≡ c
    none true c = refl
    none false c = refl

    by : (b c : Bool) → bytes_eq n.key bookmark ≡ b → f n.key ≡ c → has_entry key bookmark rest ≡ (bytes_eq key bookmark && (f bookmark && is_some (get_in nodes bookmark)))
        → has_entry key bookmark (filter (λ entry. f entry.1) (bookmark_entries (n ∷ nodes))) ≡ (bytes_eq key bookmark && (f bookmark && is_some (get_in (n ∷ nodes) bookmark)))
    by true true e s ih =
        let here : f bookmark ≡ true = sym (ap f (same_bytes n.key bookmark e)) ∙ s in
        ap (λ c. has_entry key bookmark (cond c ((n.key, n.key) ∷ rest) rest)) s
        ∙ (λ i. ((own_pair key bookmark n.key e i && e i) || ih i))
        ∙ ap (λ d. (bytes_eq key bookmark && true) || (bytes_eq key bookmark && (d && is_some (get_in nodes bookmark)))) here
        ∙ T_first (bytes_eq key bookmark) (is_some (get_in nodes bookmark))
        ∙ (λ i. bytes_eq key bookmark && (sym here i && found true (test true e) i))
    by true false e s ih =
        let here : f bookmark ≡ false = sym (ap f (same_bytes n.key bookmark e)) ∙ s in
        ap (λ c. has_entry key bookmark (cond c ((n.key, n.key) ∷ rest) rest)) s
        ∙ ih
        ∙ ap (λ d. bytes_eq key bookmark && (d && is_some (get_in nodes bookmark))) here
        ∙ hidden (bytes_eq key bookmark) (is_some (get_in nodes bookmark))
        ∙ (λ i. bytes_eq key bookmark && (sym here i && found true (test true e) i))
    by false true e s ih =
        ap (λ c. has_entry key bookmark (cond c ((n.key, n.key) ∷ rest) rest)) s
        ∙ (λ i. ((bytes_eq n.key key && e i) || ih i))
        ∙ none (bytes_eq n.key key) _
        ∙ (λ i. bytes_eq key bookmark && (f bookmark && found false (test false e) i))
    by false false e s ih =
        ap (λ c. has_entry key bookmark (cond c ((n.key, n.key) ∷ rest) rest)) s
        ∙ ih
        ∙ (λ i. bytes_eq key bookmark && (f bookmark && found false (test false e) i))

-- ---- the order of the bookmarks that a reader sees

-- laws of entries and of readers
pub record Laws : Type 0 where
  pub same : (one other : List Pair) → are_sorted one ≡ true → are_sorted other ≡ true → ((key bookmark : List ℕ) → has_entry key bookmark one ≡ has_entry key bookmark other) → one ≡ other
  pub some : (test : Pair → Bool) (entries : List Pair) → are_sorted entries ≡ true → are_sorted (filter test entries) ≡ true
  pub seen : (table : ℕ) (reader : Reader) (held : List HeldRecord) (rows : Rows) (bookmark : List ℕ) → row_at (seen_rows table reader held rows) bookmark ≡ seen_record table bookmark reader (row_at rows bookmark) held

-- where nodes stand for the variants of records
pub own_order_is : (vals : Values) → Laws → (table : ℕ) (reader : Reader) (held : List HeldRecord) (nodes : List Node) → are_sorted (bookmark_entries nodes) ≡ true
    → ((bookmark : List ℕ) → is_some (get_in nodes bookmark) ≡ has_variant (row_at (rows_of_nodes vals nodes) bookmark) held table bookmark)
    → own_order (seen_rows table reader held (rows_of_nodes vals nodes))
    ≡ filter (λ entry. is_some (seen_record table entry.1 reader (row_at (rows_of_nodes vals nodes) entry.1) held)) (bookmark_entries nodes)
own_order_is vals laws table reader held nodes sorted stands =
    laws.same (own_order (seen_rows table reader held rows)) (filter (λ entry. f entry.1) (bookmark_entries nodes))
    (order_is (seen_rows table reader held rows) (seen_rise table reader held rows (rows_rise vals nodes sorted)))
    (laws.some (λ entry. f entry.1) (bookmark_entries nodes) sorted)
    (λ key bookmark.
    there-rows key bookmark (seen_rows table reader held rows)
    ∙ ap (λ (o : Option RecordFields). bytes_eq key bookmark && is_some o) (laws.seen table reader held rows bookmark)
    ∙ ap (λ b. bytes_eq key bookmark && b) (within (f bookmark) (is_some (get_in nodes bookmark)) (λ e. stands bookmark ∙ seen_is_variant reader table bookmark (row_at rows bookmark) held e))
    ∙ sym (there-nodes f key bookmark nodes))
  where
    rows : Rows
    rows = rows_of_nodes vals nodes

    f : List ℕ → Bool
    f bookmark = is_some (seen_record table bookmark reader (row_at rows bookmark) held)

    within : (a b : Bool) → (a ≡ true → b ≡ true) → a ≡ (a && b)
    within true b h = sym (h refl)
    within false b h = refl
