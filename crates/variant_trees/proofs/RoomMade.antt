-- Nodes that come, go or are changed for a put.
use Rattle.std.proofs.Common.{◌≡◌, ◌≢◌, ℕ, ◌≤◌, Bool, true, false, ◌&&◌, cond, if◌then◌else◌, List, [], ◌∷◌, Option, Some, None, find, length, option_map, refl, sym, ap, subst, ◌∙◌, arith}
use Rattle.std.specs.Prelude.{◌==◌, All, IsSomeAnd, bytes_eq, unwrap_or}
use Rattle.std.proofs.lemmas.List.Elements.{All-head, All-tail}
use Rattle.std.proofs.lemmas.Bool.{eqb-true}
use Rattle.common_lemmas.proofs.Numbers.{equal_bytes, same_bytes, self_equal}
use Rattle.common_lemmas.proofs.Booleans.{impossible}
use Rattle.btree_inplace.specs.Changes.{inserted, with_data_at, with_extent_at, without_key}
use Rattle.btree_inplace.specs.Order.{extent_in, get_in, has_key}
use Rattle.page_image.specs.Page.{Node}
use Rattle.table_trees.specs.StoredNodes.{IsShortNode, put_data, put_extent}
use Rattle.table_trees.specs.StoredTables.{StoredTable, has_table, is_table, put_nodes, table_indexes, table_long_values, table_nodes, with_nodes}
use Rattle.variant_trees.specs.GoneKeys.{table_numbers}
use Rattle.variant_trees.specs.PutStages.{HasRoom, IsWidened, is_place, node_at_least}

-- laws of nodes
pub record NodeLaws : Type 0 where
  pub named : (tables : List StoredTable) (table : ℕ) (nodes : List Node) → has_table tables table ≡ true → table_nodes (with_nodes table nodes tables) table ≡ nodes
  pub others : (tables : List StoredTable) (table other : ℕ) (nodes : List Node) → other ≢ table → table_nodes (with_nodes table nodes tables) other ≡ table_nodes tables other
  pub indexes : (tables : List StoredTable) (table other : ℕ) (nodes : List Node) → table_indexes (with_nodes table nodes tables) other ≡ table_indexes tables other
  pub values : (tables : List StoredTable) (table other : ℕ) (nodes : List Node) → table_long_values (with_nodes table nodes tables) other ≡ table_long_values tables other
  pub put : (nodes : List Node) (node : Node) (bookmark : List ℕ) → find (has_key bookmark) (inserted nodes node) ≡ (if bytes_eq node.key bookmark then Some node else find (has_key bookmark) nodes)
  pub removed : (nodes : List Node) (key bookmark : List ℕ) → find (has_key bookmark) (without_key nodes key) ≡ (if bytes_eq key bookmark then None else find (has_key bookmark) nodes)
  pub replaced : (nodes : List Node) (key row bookmark : List ℕ) → find (has_key bookmark) (with_data_at nodes key row) ≡ option_map (λ (n : Node). if bytes_eq key bookmark then put_data row n else n) (find (has_key bookmark) nodes)
  pub widened : (nodes : List Node) (key bookmark : List ℕ) (extent : ℕ) → find (has_key bookmark) (with_extent_at nodes key extent) ≡ option_map (λ (n : Node). if bytes_eq key bookmark then put_extent extent n else n) (find (has_key bookmark) nodes)

abbrev pub data_of : Option Node → Option (List ℕ)
data_of o = option_map (λ (n : Node). n.data) o

abbrev pub extent_of : Option Node → Option ℕ
extent_of o = option_map (λ (n : Node). n.extent) o

-- ---- look-ups

pub found_then : NodeLaws → (trees : List StoredTable) (table : ℕ) (nodes : List Node) → has_table trees table ≡ true → (other : ℕ) (own : List ℕ)
    → find (has_key own) (table_nodes (with_nodes table nodes trees) other) ≡ cond (table == other) (find (has_key own) nodes) (find (has_key own) (table_nodes trees other))
found_then laws trees table nodes there other own = by (table == other) refl
  where
    by : (b : Bool) → (table == other) ≡ b → find (has_key own) (table_nodes (with_nodes table nodes trees) other) ≡ cond b (find (has_key own) nodes) (find (has_key own) (table_nodes trees other))
    by true e =
        (λ i. find (has_key own) (table_nodes (with_nodes table nodes trees) (sym (eqb-true table other e) i)))
        ∙ ap (find (has_key own)) (laws.named trees table nodes there)
    by false e =
        ap (find (has_key own)) (laws.others trees table other nodes (λ same. impossible (sym e ∙ ap (λ n. n == other) (sym same) ∙ self_equal other)))

pub same_table_numbers : (table : ℕ) (nodes : List Node) (trees : List StoredTable) → table_numbers (with_nodes table nodes trees) ≡ table_numbers trees
same_table_numbers table nodes [] = refl
same_table_numbers table nodes (x ∷ trees) = λ i. same (is_table table x) i ∷ same_table_numbers table nodes trees i
  where
    same : (b : Bool) → (cond b (put_nodes nodes x) x).number ≡ x.number
    same true = refl
    same false = refl

pub no_less : (o : Option ℕ) → IsWidened o o
no_less None = tt
no_less (Some n) = omega arith

-- ---- a node that is there

some_row : (o : Option Node) (n : ℕ) → extent_of o ≡ Some n → (must : Bool) → data_of o ≡ node_at_least must (data_of o)
some_row None n e must = cc
some_row (Some x) n e true = refl
some_row (Some x) n e false = refl

-- where there is a node under the bookmark, every place has one that must
stays_at : (trees : List StoredTable) (table : ℕ) (bookmark : List ℕ) (n : ℕ) → extent_in (table_nodes trees table) bookmark ≡ Some n → (other : ℕ) (own : List ℕ)
    → get_in (table_nodes trees other) own ≡ node_at_least (is_place table bookmark other own) (get_in (table_nodes trees other) own)
stays_at trees table bookmark n there other own = by (table == other) (bytes_eq bookmark own) refl refl
  where
    by : (a b : Bool) → (table == other) ≡ a → bytes_eq bookmark own ≡ b → get_in (table_nodes trees other) own ≡ node_at_least (a && b) (get_in (table_nodes trees other) own)
    by true true e f =
        some_row (find (has_key own) (table_nodes trees other)) n ((λ i. extent_in (table_nodes trees (sym (eqb-true table other e) i)) (sym (same_bytes bookmark own f) i)) ∙ there) true
    by true false e f = refl
    by false b e f = refl

pub room_there : (trees : List StoredTable) (table : ℕ) (bookmark : List ℕ) (size n : ℕ) → extent_in (table_nodes trees table) bookmark ≡ Some n → size ≤ n → HasRoom table bookmark size trees trees
room_there trees table bookmark size n there fits = record {
  numbers = refl;
  indexes = λ other. refl;
  rows = stays_at trees table bookmark n there;
  values = λ other. refl;
  extents = λ other own. no_less (extent_in (table_nodes trees other) own);
  room = subst (λ (o : Option ℕ). IsSomeAnd o (λ extent. size ≤ extent)) (sym there) fits;
}

pub room_in_wider : NodeLaws → (trees : List StoredTable) (table : ℕ) (bookmark : List ℕ) (size n : ℕ) → has_table trees table ≡ true → extent_in (table_nodes trees table) bookmark ≡ Some n → n ≤ size
    → HasRoom table bookmark size trees (with_nodes table (with_extent_at (table_nodes trees table) bookmark size) trees)
room_in_wider laws trees table bookmark size n there is less = record {
  numbers = same_table_numbers table (with_extent_at (table_nodes trees table) bookmark size) trees;
  indexes = λ other. laws.indexes trees table other (with_extent_at (table_nodes trees table) bookmark size);
  values = λ other. laws.values trees table other (with_extent_at (table_nodes trees table) bookmark size);
  rows = λ other own. ap data_of (found other own) ∙ row other own (table == other) (bytes_eq bookmark own) refl ∙ stays_at trees table bookmark n is other own;
  extents = λ other own. subst (λ (o : Option Node). IsWidened (extent_in (table_nodes trees other) own) (extent_of o)) (sym (found other own)) (wide other own (table == other) (bytes_eq bookmark own) refl refl);
  room = subst (λ (o : Option Node). IsSomeAnd (extent_of o) (λ extent. size ≤ extent)) (sym (found table bookmark ∙ own_found)) (room_of (find (has_key bookmark) (table_nodes trees table)) is);
}
  where
    wider : List ℕ → Node → Node
    wider own x = cond (bytes_eq bookmark own) (put_extent size x) x

    found : (other : ℕ) (own : List ℕ) → find (has_key own) (table_nodes (with_nodes table (with_extent_at (table_nodes trees table) bookmark size) trees) other)
        ≡ cond (table == other) (option_map (wider own) (find (has_key own) (table_nodes trees table))) (find (has_key own) (table_nodes trees other))
    found other own =
        found_then laws trees table (with_extent_at (table_nodes trees table) bookmark size) there other own
        ∙ ap (λ o. cond (table == other) o (find (has_key own) (table_nodes trees other))) (laws.widened (table_nodes trees table) bookmark own size)

    own_found : cond (table == table) (option_map (wider bookmark) (find (has_key bookmark) (table_nodes trees table))) (find (has_key bookmark) (table_nodes trees table)) ≡ option_map (put_extent size) (find (has_key bookmark) (table_nodes trees table))
    own_found = λ i. cond (self_equal table i) (option_map (λ (x : Node). cond (equal_bytes bookmark bookmark refl i) (put_extent size x) x) (find (has_key bookmark) (table_nodes trees table))) (find (has_key bookmark) (table_nodes trees table))

    room_of : (o : Option Node) → extent_of o ≡ Some n → IsSomeAnd (extent_of (option_map (put_extent size) o)) (λ extent. size ≤ extent)
    room_of None e = cc
    room_of (Some x) e = omega arith

    same_data : (b : Bool) (o : Option Node) → data_of (option_map (λ (x : Node). cond b (put_extent size x) x) o) ≡ data_of o
    same_data b None = refl
    same_data true (Some x) = refl
    same_data false (Some x) = refl

    row : (other : ℕ) (own : List ℕ) (a b : Bool) → (table == other) ≡ a
        → data_of (cond a (option_map (λ (x : Node). cond b (put_extent size x) x) (find (has_key own) (table_nodes trees table))) (find (has_key own) (table_nodes trees other))) ≡ get_in (table_nodes trees other) own
    row other own true b e = same_data b (find (has_key own) (table_nodes trees table)) ∙ (λ i. get_in (table_nodes trees (eqb-true table other e i)) own)
    row other own false b e = refl

    more : (o : Option Node) → extent_of o ≡ Some n → IsWidened (extent_of o) (extent_of (option_map (put_extent size) o))
    more None e = tt
    more (Some x) e = subst (λ m. m ≤ size) (sym (ap (λ (o : Option ℕ). unwrap_or o n) e)) less

    same_extent : (o : Option Node) → IsWidened (extent_of o) (extent_of (option_map (λ (x : Node). x) o))
    same_extent None = tt
    same_extent (Some x) = omega arith

    wide : (other : ℕ) (own : List ℕ) (a b : Bool) → (table == other) ≡ a → bytes_eq bookmark own ≡ b
        → IsWidened (extent_in (table_nodes trees other) own) (extent_of (cond a (option_map (λ (x : Node). cond b (put_extent size x) x) (find (has_key own) (table_nodes trees table))) (find (has_key own) (table_nodes trees other))))
    wide other own true true e f =
        subst (λ (m : ℕ). IsWidened (extent_in (table_nodes trees m) own) (extent_of (option_map (put_extent size) (find (has_key own) (table_nodes trees table))))) (eqb-true table other e)
        (more (find (has_key own) (table_nodes trees table)) ((λ i. extent_in (table_nodes trees table) (sym (same_bytes bookmark own f) i)) ∙ is))
    wide other own true false e f =
        subst (λ (m : ℕ). IsWidened (extent_in (table_nodes trees m) own) (extent_of (option_map (λ (x : Node). x) (find (has_key own) (table_nodes trees table))))) (eqb-true table other e)
        (same_extent (find (has_key own) (table_nodes trees table)))
    wide other own false b e f = no_less (extent_in (table_nodes trees other) own)

-- ---- what is asked of the calls

pub row_fits : (nodes : List Node) (bookmark : List ℕ) (n size : ℕ) → All IsShortNode nodes → extent_in nodes bookmark ≡ Some n → n ≤ size → IsSomeAnd (get_in nodes bookmark) (λ row. length row ≤ size)
row_fits [] bookmark n size short some less = cc
row_fits (x ∷ nodes) bookmark n size short some less = by (has_key bookmark x) (All-head IsShortNode x nodes short) some (row_fits nodes bookmark n size (All-tail IsShortNode x nodes short))
  where
    by : (b : Bool) → IsShortNode x → extent_of (cond b (Some x) (find (has_key bookmark) nodes)) ≡ Some n → (extent_in nodes bookmark ≡ Some n → n ≤ size → IsSomeAnd (get_in nodes bookmark) (λ row. length row ≤ size))
        → IsSomeAnd (data_of (cond b (Some x) (find (has_key bookmark) nodes))) (λ row. length row ≤ size)
    by true is e rest = omega (arith, is.row, less, ap (λ (o : Option ℕ). unwrap_or o n) e)
    by false is e rest = rest e less
