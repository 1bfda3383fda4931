-- What a store's tree has of its values, and what a change of the tree makes of them.
use Rattle.std.proofs.Common.{◌≡◌, ◌≢◌, ℕ, true, true≢false, suc, ◌-◌, ◌*◌, ◌<◌, ◌≤◌, ◌==◌, List, [], length, find, take, drop, Option, Some, None, Result, Ok, Err, Bor, option_map, refl, sym, ap, subst, ◌∙◌, arith}
use Rattle.std.specs.Prelude.{IsSomeAnd, OnOk, OnErr, is_some}
use Rattle.std.proofs.lemmas.Bool.Decides.{Decides-eqb}
use Rattle.std.specs.Option.{option_copied}
use Rattle.std.specs.FinMap.Entries.{is_sorted}
use Rattle.common_lemmas.proofs.Booleans.{by_test}
use Rattle.common_lemmas.proofs.Options.{none_there}
use Rattle.byteorder.specs.Endian.{little_bytes, little_number}
use Rattle.byteorder.specs.Numbers.{little_number-reads_back}
use Rattle.page_image.specs.Page.{Node}
use Rattle.page_space.specs.Frames.{Frames}
use Rattle.btree_inplace.specs.Changes.{with_data_at, without_key}
use Rattle.btree_inplace.specs.Order.{get_in, has_key}
use Rattle.btree_inplace.specs.Trees.{IsTree, nodes_of}
use Rattle.btree_inplace.specs.declared.Tree.{Tree}
use Rattle.long_value.specs.Values.{AreLong, IsLong, LacksValue, LongValue, Values, chunk_count, chunk_key, chunk_node, chunk_of, head_data, head_node, nodes_of_values, order, put_value, released, value_of, with_chunks, with_value, without_chunks, without_value}
use Rattle.long_value.specs.Stores.{Becomes, HasNoValue, HasValues, HoldsValue, id_bytes}
use Rattle.long_value.specs.declared.values.LongId.{LongId}
use Rattle.long_value.specs.declared.values.LongValues.{LongValues}
use Rattle.long_value.proofs.ChunkNodes.{head_elsewhere, value_chunk, value_head, value_out}
use Rattle.long_value.proofs.Maps.{holds, lacking, none_gone, put_long, put_nodes, value_long, value_nodes, without_long}
use Rattle.long_value.proofs.Nodes.{redone_there}
use Rattle.long_value.specs.ChangedValues.{value_gone}

-- ---- numbers of chunks

pub few_chunks : (size : ℕ) → size ≤ 1048576 → chunk_count size ≤ 1024
few_chunks size le = omega arith

pub chunk_within : (size k : ℕ) → 1024 * k < size → k < chunk_count size
chunk_within size k lt = omega arith

pub within_chunk : (size k : ℕ) → k < chunk_count size → 1024 * k < size
within_chunk size k lt = omega arith

-- ---- what is there

rest_lacks : (id : List ℕ) (values : Values) → length id ≡ 12 → AreLong values → LacksValue id (nodes_of_values (without_value id values))
rest_lacks id values long all = lacking id (without_value id values) long (without_long id values all).whole (value_gone values id)

pub nodes_with : (id : List ℕ) (value : LongValue) (values : Values) → length id ≡ 12 → AreLong values → value_of id values ≡ Some value → nodes_of_values values ≡ with_value id value (nodes_of_values (without_value id values))
nodes_with id value values long all e = value_nodes id value values long (holds (is_sorted order values) all.in_order) all.whole e

pub head_there : (id : List ℕ) (value : LongValue) (values : Values) → length id ≡ 12 → AreLong values → value_of id values ≡ Some value → find (has_key (chunk_key id 0)) (nodes_of_values values) ≡ Some (head_node id value)
head_there id value values long all e =
    ap (find (has_key (chunk_key id 0))) (nodes_with id value values long all e) ∙ value_head id value (nodes_of_values (without_value id values))

pub chunk_there : (id : List ℕ) (value : LongValue) (values : Values) (k : ℕ) → length id ≡ 12 → AreLong values → value_of id values ≡ Some value → k < chunk_count (length value.bytes) → find (has_key (chunk_key id (suc k))) (nodes_of_values values) ≡ Some (chunk_node id value.bytes k)
chunk_there id value values k long all e lt =
    ap (find (has_key (chunk_key id (suc k)))) (nodes_with id value values long all e)
    ∙ value_chunk id value (nodes_of_values (without_value id values)) k lt (few_chunks (length value.bytes) (value_long id value values all.whole e).short)

-- whether a value is there, by its head
pub is_there : (id : List ℕ) (values : Values) → length id ≡ 12 → AreLong values → is_some (find (has_key (chunk_key id 0)) (nodes_of_values values)) ≡ is_some (value_of id values)
is_there id values long all =
    elim (value_of id values) as (λ o. value_of id values ≡ o → is_some (find (has_key (chunk_key id 0)) (nodes_of_values values)) ≡ is_some o) [
      | None ↦ λ e. ap is_some (lacking id values long all.whole e 0 (omega arith))
      | Some value ↦ λ e. ap is_some (head_there id value values long all e)
    ] refl

pub value_there_is : {X : Type 0} (o : Option X) → is_some o ≡ true → (x : X) × (o ≡ Some x)
value_there_is None e = absurd (true≢false (sym e))
value_there_is (Some x) e = (x, refl)

-- two maps with the same nodes lack the same values
pub absent_alike : (id : List ℕ) (values other : Values) → length id ≡ 12 → AreLong values → AreLong other → nodes_of_values other ≡ nodes_of_values values → value_of id values ≡ None → value_of id other ≡ None
absent_alike id values other long all all' same e =
    none_there (value_of id other) (sym (is_there id other long all') ∙ ap (λ l. is_some (find (has_key (chunk_key id 0)) l)) same ∙ is_there id values long all ∙ ap is_some e)

-- ---- changes

pub put_new : (id : List ℕ) (value : LongValue) (values : Values) → length id ≡ 12 → AreLong values → value_of id values ≡ None → with_value id value (nodes_of_values values) ≡ nodes_of_values (put_value id value values)
put_new id value values long all e =
    ap (λ l. with_value id value (nodes_of_values l)) (sym (none_gone id values e))
    ∙ sym (put_nodes id value values long (holds (is_sorted order values) all.in_order) all.whole)

pub put_again : (id : List ℕ) (value : LongValue) (values : Values) (count : ℕ) → length id ≡ 12 → AreLong values → value_of id values ≡ Some value → with_data_at (nodes_of_values values) (chunk_key id 0) (head_data (record value { count = count })) ≡ nodes_of_values (put_value id (record value { count = count }) values)
put_again id value values count long all e =
    let rest = nodes_of_values (without_value id values) in
    let n = chunk_count (length value.bytes) in
    let few = few_chunks (length value.bytes) (value_long id value values all.whole e).short in
    ap (λ l. with_data_at l (chunk_key id 0) (head_data (record value { count = count }))) (nodes_with id value values long all e)
    ∙ redone_there (with_chunks id value.bytes n rest) (head_node id value) (head_data (record value { count = count })) (head_elsewhere id value.bytes n rest few ∙ rest_lacks id values long all 0 (omega arith))
    ∙ sym (put_nodes id (record value { count = count }) values long (holds (is_sorted order values) all.in_order) all.whole)

pub taken_whole : (id : List ℕ) (value : LongValue) (values : Values) → length id ≡ 12 → AreLong values → value_of id values ≡ Some value → without_key (without_chunks id (chunk_count (length value.bytes)) (nodes_of_values values)) (chunk_key id 0) ≡ nodes_of_values (without_value id values)
taken_whole id value values long all e =
    let n = chunk_count (length value.bytes) in
    ap (λ l. without_key (without_chunks id n l) (chunk_key id 0)) (nodes_with id value values long all e)
    ∙ value_out id value (nodes_of_values (without_value id values)) (few_chunks (length value.bytes) (value_long id value values all.whole e).short) (rest_lacks id values long all)

-- ---- what a look-up gives

pub copied_some : {X : Type 0} (o : Option (Bor X)) → is_some (option_copied o) ≡ is_some o
copied_some None = refl
copied_some (Some r) = refl

pub some_data : (r : Bor (List ℕ)) (o : Option (Bor (List ℕ))) (d : List ℕ) → o ≡ Some r → option_copied o ≡ Some d → r.now ≡ d
some_data r o d is e = let s : Some r.now ≡ Some d = sym (ap option_copied is) ∙ e in cc

pub none_data : (o : Option (Bor (List ℕ))) (d : List ℕ) → o ≡ None → option_copied o ≡ Some d → ⊥
none_data o d is e = let s : None ≡ Some d = sym (ap option_copied is) ∙ e in cc

pub some_fits : (o : Option Node) (n : Node) (P : Node → Type 0) → o ≡ Some n → P n → IsSomeAnd o P
some_fits o n P e p = subst (λ (q : Option Node). IsSomeAnd q P) (sym e) p

pub head_found : (frames : Frames) (store : LongValues) (id : LongId) (value : LongValue) (key : List ℕ) → HoldsValue frames store id value → key ≡ chunk_key (id_bytes id) 0 → find (has_key key) (nodes_of frames store.tree) ≡ Some (head_node (id_bytes id) value)
head_found frames store id value key h k =
    ap (λ x. find (has_key x) (nodes_of frames store.tree)) k
    ∙ ap (find (has_key (chunk_key (id_bytes id) 0))) h.1.nodes
    ∙ head_there (id_bytes id) value h.0 refl h.1.whole h.2

pub head_read : (frames : Frames) (store : LongValues) (id : LongId) (value : LongValue) (key : List ℕ) (o : Option (Bor (List ℕ))) → HoldsValue frames store id value → key ≡ chunk_key (id_bytes id) 0 → option_copied o ≡ get_in (nodes_of frames store.tree) key → option_copied o ≡ Some (head_data value)
head_read frames store id value key o h k e = e ∙ ap (option_map (λ (n : Node). n.data)) (head_found frames store id value key h k)

pub chunk_found_now : (frames : Frames) (store : LongValues) (id : LongId) (value : LongValue) (key : List ℕ) (k : ℕ) → HoldsValue frames store id value → k < chunk_count (length value.bytes) → key ≡ chunk_key (id_bytes id) (suc k) → find (has_key key) (nodes_of frames store.tree) ≡ Some (chunk_node (id_bytes id) value.bytes k)
chunk_found_now frames store id value key k h lt is =
    ap (λ x. find (has_key x) (nodes_of frames store.tree)) is
    ∙ ap (find (has_key (chunk_key (id_bytes id) (suc k)))) h.1.nodes
    ∙ chunk_there (id_bytes id) value h.0 k refl h.1.whole h.2 lt

pub chunk_read : (frames : Frames) (store : LongValues) (id : LongId) (value : LongValue) (key : List ℕ) (k : ℕ) (o : Option (Bor (List ℕ))) → HoldsValue frames store id value → k < chunk_count (length value.bytes) → key ≡ chunk_key (id_bytes id) (suc k) → option_copied o ≡ get_in (nodes_of frames store.tree) key → option_copied o ≡ Some (chunk_of value.bytes k)
chunk_read frames store id value key k o h lt is e = e ∙ ap (option_map (λ (n : Node). n.data)) (chunk_found_now frames store id value key k h lt is)

pub held_long : (frames : Frames) (store : LongValues) (id : LongId) (value : LongValue) → HoldsValue frames store id value → IsLong (id_bytes id, value)
held_long frames store id value h = value_long (id_bytes id) value h.0 h.1.whole.whole h.2

-- two values under one identifier are the same, byte by byte as far as a length tells
pub same_length : (frames : Frames) (store : LongValues) (id : LongId) (value other : LongValue) → HoldsValue frames store id value → HoldsValue frames store id other → head_data value ≡ head_data other
same_length frames store id value other h h' =
    let some : Some (head_node (id_bytes id) value) ≡ Some (head_node (id_bytes id) other) = sym (head_found frames store id value (chunk_key (id_bytes id) 0) h refl) ∙ head_found frames store id other (chunk_key (id_bytes id) 0) h' refl in
    let node : head_node (id_bytes id) value ≡ head_node (id_bytes id) other = cc in
    ap (λ (n : Node). n.data) node

pub count_read : (head : List ℕ) (value : LongValue) → head ≡ head_data value → value.count ≤ 4294967295 → little_number 4 head ≡ value.count
count_read head value e few = ap (little_number 4) e ∙ little_number-reads_back 4 value.count (little_bytes 4 (length value.bytes)) (omega arith)

pub length_read : (head : List ℕ) (value : LongValue) → head ≡ head_data value → length value.bytes ≤ 1048576 → little_number 4 (take (length head - 4) (drop 4 head)) ≡ length value.bytes
length_read head value e few =
    ap (λ (h : List ℕ). little_number 4 (take (length h - 4) (drop 4 h))) e
    ∙ little_number-reads_back 4 (length value.bytes) [] (omega arith)

-- ---- stores that have changed

pub err_then : {A E P Q : Type 0} (r : Result A E) → (P → Q) → OnErr r P → OnErr r Q
err_then (Ok x) f p = p
err_then (Err x) f p = f p

pub recounted : (old new : Frames) (store : LongValues) (tree : Tree) (id : LongId) (values : Values) (value : LongValue) (count : ℕ) (key d : List ℕ) → HasValues old store values → value_of (id_bytes id) values ≡ Some value → 1 ≤ count → count ≤ 4294967295
    → key ≡ chunk_key (id_bytes id) 0 → d ≡ head_data (record value { count = count }) → IsTree new tree → nodes_of new tree ≡ with_data_at (nodes_of old store.tree) key d
    → HasValues new (record { tree = tree }) (put_value (id_bytes id) (record value { count = count }) values)
recounted old new store tree id values value count key d has e some few k is made nodes =
    let long = value_long (id_bytes id) value values has.whole.whole e in
    record {
      tree = made;
      whole = put_long (id_bytes id) (record value { count = count }) values (record { id = refl; long = long.long; short = long.short; counted = some; few = few }) has.whole;
      nodes =
          nodes ∙ ap (λ l. with_data_at l key d) has.nodes ∙ ap (λ x. with_data_at (nodes_of_values values) x d) k
          ∙ ap (with_data_at (nodes_of_values values) (chunk_key (id_bytes id) 0)) is
          ∙ put_again (id_bytes id) value values count refl has.whole e;
    }

pub lacks_now : (frames : Frames) (store : LongValues) (id : LongId) → HasNoValue frames store id → LacksValue (id_bytes id) (nodes_of frames store.tree)
lacks_now frames store id h = subst (LacksValue (id_bytes id)) (sym h.1.nodes) (lacking (id_bytes id) h.0 refl h.1.whole.whole h.2)

pub put_made : (old new : Frames) (store : LongValues) (tree : Tree) (id : LongId) (bytes : List ℕ) (values : Values) → HasNoValue old store id → 256 ≤ length bytes → length bytes ≤ 1048576
    → Becomes old store.tree new tree (with_value (id_bytes id) (record { count = 1; bytes = bytes }) (nodes_of old store.tree)) → HasValues old store values
    → HasValues new (record { tree = tree }) (put_value (id_bytes id) (record { count = 1; bytes = bytes }) values)
put_made old new store tree id bytes values h long short b has =
    let value : LongValue = record { count = 1; bytes = bytes } in
    let none = absent_alike (id_bytes id) h.0 values refl h.1.whole has.whole (sym has.nodes ∙ h.1.nodes) h.2 in
    record {
      tree = b.tree;
      whole = put_long (id_bytes id) value values (record { id = refl; long = long; short = short; counted = omega arith; few = omega arith }) has.whole;
      nodes = b.has ∙ ap (with_value (id_bytes id) value) has.nodes ∙ put_new (id_bytes id) value values refl has.whole none;
    }

pub put_not : (old new : Frames) (store : LongValues) (tree : Tree) (values : Values) → Becomes old store.tree new tree (nodes_of old store.tree) → HasValues old store values → HasValues new (record { tree = tree }) values
put_not old new store tree values b has = record { tree = b.tree; whole = has.whole; nodes = b.has ∙ has.nodes }

pub taken_now : (old new : Frames) (store : LongValues) (tree : Tree) (id : LongId) (values : Values) (value : LongValue) → HasValues old store values → value_of (id_bytes id) values ≡ Some value
    → Becomes old store.tree new tree (without_key (without_chunks (id_bytes id) (chunk_count (length value.bytes)) (nodes_of old store.tree)) (chunk_key (id_bytes id) 0))
    → HasValues new (record { tree = tree }) (without_value (id_bytes id) values)
taken_now old new store tree id values value has e b = record {
  tree = b.tree;
  whole = without_long (id_bytes id) values has.whole;
  nodes =
      b.has ∙ ap (λ l. without_key (without_chunks (id_bytes id) (chunk_count (length value.bytes)) l) (chunk_key (id_bytes id) 0)) has.nodes
      ∙ taken_whole (id_bytes id) value values refl has.whole e;
}

-- each value that the store has there is as long
pub chunk_within_any : (frames : Frames) (store : LongValues) (id : LongId) (first value : LongValue) (k : ℕ) → HoldsValue frames store id first → HoldsValue frames store id value → 1024 * k < length first.bytes → k < chunk_count (length value.bytes)
chunk_within_any frames store id first value k h h' lt =
    let long = held_long frames store id first h in
    let long' = held_long frames store id value h' in
    let same = sym (length_read (head_data first) first refl long.short) ∙ length_read (head_data first) value (same_length frames store id first value h h') long'.short in
    subst (λ n. k < chunk_count n) same (chunk_within (length first.bytes) k lt)

-- ---- the last reference

pub released_last : (id : List ℕ) (value : LongValue) (values : Values) → value.count ≡ 1 → released id value values ≡ without_value id values
released_last id value values e = let t = (Decides-eqb value.count 1).1 e in rw t refl

pub released_other : (id : List ℕ) (value : LongValue) (values : Values) → value.count ≢ 1 → released id value values ≡ put_value id (record value { count = value.count - 1 }) values
released_other id value values n =
    by_test (value.count == 1)
    (λ t. absurd (n ((Decides-eqb value.count 1).0 t)))
    (λ t. rw t refl)

-- ---- a store after each answer

pub either : {A E P : Type 0} (r : Result A E) → OnOk r P → OnErr r P → P
either (Ok x) p q = p
either (Err x) p q = q
