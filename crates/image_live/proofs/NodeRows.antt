-- The newest records of a table, where the keys of its nodes rise.
use Rattle.std.proofs.Common.{◌≡◌, ℕ, zero, suc, Bool, true, false, ◌&&◌, cond, List, [], ◌∷◌, Option, Some, None, refl, sym, ap, subst, ◌∙◌, arith}
use Rattle.std.specs.Prelude.{find, option_map, option_and_then, T}
use Rattle.std.specs.List.{AllByRecursion}
use Rattle.std.specs.Ordering.{eq_by_cmp, nat_cmp, is_eq, is_lt}
use Rattle.std.specs.declared.cmp.Ordering.{Ordering}
use Rattle.std.specs.Cmp.Lexicographic.{slice_cmp, nat_list_cmp_total, texts_ties}
use Rattle.std.specs.FinMap.Entries.{below_all, is_sorted}
use Rattle.std.proofs.lemmas.Bool.{false_from_ne_true}
use Rattle.btree_inplace.specs.Order.{get_in, has_key}
use Rattle.common_lemmas.proofs.Lists.{all_weaker}
use Rattle.common_lemmas.proofs.Numbers.{bytes_turned, same_bytes}
use Rattle.common_lemmas.proofs.Orders.{less-irreflexive}
use Rattle.database_state.specs.Table.{row_at}
use Rattle.laws_engine.specs.Holding.{RowsRise}
use Rattle.long_value.specs.Values.{Values}
use Rattle.page_image.specs.Page.{HasRisingKeys, IsBelow, Node, no_node}
use Rattle.stored_variants.specs.RecordRows.{record_of, row_in_node, row_under, rows_of_nodes, with_record}

-- ---- keys that rise

abbrev RisesFrom : List ℕ → List Node → Type 0
RisesFrom key [] = Unit {0}
RisesFrom key (n ∷ nodes) = IsBelow key n.key × RisesFrom n.key nodes

abbrev pub Rises : List Node → Type 0
Rises [] = Unit {0}
Rises (n ∷ nodes) = RisesFrom n.key nodes

pub rises : (nodes : List Node) → HasRisingKeys nodes → Rises nodes
rises [] h = tt
rises (n ∷ []) h = tt
rises (n ∷ m ∷ nodes) h = (h 0 1 no_node (omega arith) (omega arith), rises (m ∷ nodes) (λ i j d lt in_list. h (suc i) (suc j) d (omega (arith, lt)) (omega (arith, in_list))))

-- ---- records

above : (key : List ℕ) (nodes : List Node) → RisesFrom key nodes → AllByRecursion (λ (n : Node). IsBelow key n.key) nodes
above key [] r = tt
above key (n ∷ nodes) r = (r.0, all_weaker (λ (m : Node). IsBelow n.key m.key) (λ (m : Node). IsBelow key m.key) (λ m low. nat_list_cmp_total.trans key n.key m.key r.0 low) nodes (above n.key nodes r.1))

rises_behind : (key : List ℕ) (nodes : List Node) → RisesFrom key nodes → Rises nodes
rises_behind key [] r = tt
rises_behind key (n ∷ nodes) r = r.1

both : (a b : Bool) → T a → T b → T (a && b)
both true b p q = q
both false b p q = p

rows_above : (values : Values) (key : List ℕ) (nodes : List Node) → AllByRecursion (λ (n : Node). IsBelow key n.key) nodes → T (below_all (slice_cmp nat_cmp) key (rows_of_nodes values nodes))
rows_above values key [] low = tt
rows_above values key (n ∷ nodes) low = by (row_in_node n.data) (rows_above values key nodes low.1)
  where
    by : (row : Option (List ℕ)) → T (below_all (slice_cmp nat_cmp) key (rows_of_nodes values nodes)) → T (below_all (slice_cmp nat_cmp) key (with_record values n.key row (rows_of_nodes values nodes)))
    by None rest = rest
    by (Some row) rest = both (is_lt (slice_cmp nat_cmp key n.key)) (below_all (slice_cmp nat_cmp) key (rows_of_nodes values nodes)) (subst (λ (o : Ordering). T (is_lt o)) (sym low.0) tt) rest

pub rows_rise : (values : Values) (nodes : List Node) → Rises nodes → RowsRise (rows_of_nodes values nodes)
rows_rise values [] r = tt
rows_rise values (n ∷ nodes) r = by (row_in_node n.data) (rows_rise values nodes (rises_behind n.key nodes r))
  where
    by : (row : Option (List ℕ)) → RowsRise (rows_of_nodes values nodes) → RowsRise (with_record values n.key row (rows_of_nodes values nodes))
    by None rest = rest
    by (Some row) rest = both (below_all (slice_cmp nat_cmp) n.key (rows_of_nodes values nodes)) (is_sorted (slice_cmp nat_cmp) (rows_of_nodes values nodes)) (rows_above values n.key nodes (above n.key nodes r)) rest

same_test : (bookmark key : List ℕ) → is_eq (slice_cmp nat_cmp key bookmark) ≡ eq_by_cmp (slice_cmp nat_cmp) bookmark key
same_test bookmark key = sym (texts_ties key bookmark) ∙ bytes_turned key bookmark ∙ texts_ties bookmark key

key_is : (key bookmark : List ℕ) → is_eq (slice_cmp nat_cmp key bookmark) ≡ true → key ≡ bookmark
key_is key bookmark e = same_bytes key bookmark (texts_ties key bookmark ∙ e)

none_above : (key bookmark : List ℕ) (nodes : List Node) → key ≡ bookmark → AllByRecursion (λ (n : Node). IsBelow key n.key) nodes → get_in nodes bookmark ≡ None
none_above key bookmark [] same low = refl
none_above key bookmark (n ∷ nodes) same low =
    ap (λ b. option_map (λ (n : Node). n.data) (cond b (Some n) (find (has_key bookmark) nodes))) other ∙ none_above key bookmark nodes same low.1
  where
    other : has_key bookmark n ≡ false
    other = false_from_ne_true (has_key bookmark n) (λ e. less-irreflexive key (subst (λ (k : List ℕ). IsBelow key k) (key_is n.key bookmark e ∙ sym same) low.0))

-- the newest record under a bookmark is the one of its row
pub record_at : (values : Values) (nodes : List Node) → Rises nodes → (bookmark : List ℕ) → row_at (rows_of_nodes values nodes) bookmark ≡ option_map (record_of values) (row_under nodes bookmark)
record_at values [] r bookmark = refl
record_at values (n ∷ nodes) r bookmark = by (has_key bookmark n) refl (row_in_node n.data) refl (record_at values nodes (rises_behind n.key nodes r) bookmark)
  where
    by : (b : Bool) → has_key bookmark n ≡ b → (row : Option (List ℕ)) → row_in_node n.data ≡ row → row_at (rows_of_nodes values nodes) bookmark ≡ option_map (record_of values) (row_under nodes bookmark)
        → row_at (with_record values n.key row (rows_of_nodes values nodes)) bookmark ≡ option_map (record_of values) (option_and_then row_in_node (option_map (λ (n : Node). n.data) (cond b (Some n) (find (has_key bookmark) nodes))))
    by true h None e rest =
        rest ∙ ap (λ o. option_map (record_of values) (option_and_then row_in_node o)) (none_above n.key bookmark nodes (key_is n.key bookmark h) (above n.key nodes r)) ∙ sym (ap (option_map (record_of values)) e)
    by true h (Some row) e rest = ap (λ t. cond t (Some (record_of values row)) (row_at (rows_of_nodes values nodes) bookmark)) (sym (same_test bookmark n.key) ∙ h) ∙ sym (ap (option_map (record_of values)) e)
    by false h None e rest = rest
    by false h (Some row) e rest = ap (λ t. cond t (Some (record_of values row)) (row_at (rows_of_nodes values nodes) bookmark)) (sym (same_test bookmark n.key) ∙ h) ∙ rest
