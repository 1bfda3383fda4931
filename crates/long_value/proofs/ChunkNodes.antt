-- The chunks of a value among sorted nodes.
use Rattle.std.proofs.Common.{◌≡◌, ◌≢◌, ℕ, zero, suc, ◌<◌, ◌≤◌, inl, inr, false, List, find, Some, None, length, refl, sym, ap, subst, ◌∙◌, arith}
use Rattle.std.proofs.lemmas.Bool.{cases_lt}
use Rattle.std.specs.Ordering.{is_eq}
use Rattle.page_image.specs.Page.{Node}
use Rattle.btree_inplace.specs.Changes.{inserted, without_key}
use Rattle.btree_inplace.specs.Order.{has_key}
use Rattle.long_value.specs.Values.{LacksValue, LongValue, chunk_count, chunk_key, chunk_node, head_node, order, with_chunks, with_value, without_chunks}
use Rattle.long_value.proofs.Keys.{other_chunk, other_value}
use Rattle.long_value.proofs.Nodes.{both_less, found_elsewhere, found_still, found_there, swapped, taken_out}
use Rattle.long_value.specs.ChangedValues.{itself}

-- ---- look-ups

pub chunk_absent : (id bytes : List ℕ) (k j : ℕ) (nodes : List Node) → k ≤ j → j ≤ 1024 → LacksValue id nodes → find (has_key (chunk_key id (suc j))) (with_chunks id bytes k nodes) ≡ None
chunk_absent id bytes zero j nodes le few lacks = lacks (suc j) (omega arith)
chunk_absent id bytes (suc k) j nodes le few lacks =
    found_elsewhere (chunk_key id (suc j)) (with_chunks id bytes k nodes) (chunk_node id bytes k) (other_chunk id (suc k) (suc j) (omega arith) (omega arith) (λ e. omega (arith, e)))
    ∙ chunk_absent id bytes k j nodes (omega arith) few lacks

pub head_elsewhere : (id bytes : List ℕ) (k : ℕ) (nodes : List Node) → k ≤ 1024 → find (has_key (chunk_key id 0)) (with_chunks id bytes k nodes) ≡ find (has_key (chunk_key id 0)) nodes
head_elsewhere id bytes zero nodes few = refl
head_elsewhere id bytes (suc k) nodes few =
    found_elsewhere (chunk_key id 0) (with_chunks id bytes k nodes) (chunk_node id bytes k) (other_chunk id (suc k) 0 (omega arith) (omega arith) (λ e. omega (arith, e)))
    ∙ head_elsewhere id bytes k nodes (omega arith)

pub chunk_found : (id bytes : List ℕ) (k j : ℕ) (nodes : List Node) → j < k → k ≤ 1024 → find (has_key (chunk_key id (suc j))) (with_chunks id bytes k nodes) ≡ Some (chunk_node id bytes j)
chunk_found id bytes zero j nodes lt few = absurd (omega arith)
chunk_found id bytes (suc k) j nodes lt few = elim (cases_lt j k) [
  | inl below ↦
      found_elsewhere (chunk_key id (suc j)) (with_chunks id bytes k nodes) (chunk_node id bytes k) (other_chunk id (suc k) (suc j) (omega arith) (omega arith) (λ e. omega (arith, e)))
      ∙ chunk_found id bytes k j nodes below (omega arith)
  | inr last ↦
      let same : k ≡ j = omega arith in
      subst (λ (i : ℕ). find (has_key (chunk_key id (suc i))) (inserted (with_chunks id bytes k nodes) (chunk_node id bytes k)) ≡ Some (chunk_node id bytes i)) same
      (found_there (chunk_key id (suc k)) (with_chunks id bytes k nodes) (chunk_node id bytes k) (itself (chunk_key id (suc k))))
]

pub value_head : (id : List ℕ) (value : LongValue) (nodes : List Node) → find (has_key (chunk_key id 0)) (with_value id value nodes) ≡ Some (head_node id value)
value_head id value nodes =
    found_there (chunk_key id 0) (with_chunks id value.bytes (chunk_count (length value.bytes)) nodes) (head_node id value) (itself (chunk_key id 0))

pub value_chunk : (id : List ℕ) (value : LongValue) (nodes : List Node) (k : ℕ) → k < chunk_count (length value.bytes) → chunk_count (length value.bytes) ≤ 1024 → find (has_key (chunk_key id (suc k))) (with_value id value nodes) ≡ Some (chunk_node id value.bytes k)
value_chunk id value nodes k lt few =
    found_elsewhere (chunk_key id (suc k)) (with_chunks id value.bytes (chunk_count (length value.bytes)) nodes) (head_node id value) (other_chunk id 0 (suc k) (omega arith) (omega arith) (λ e. omega (arith, e)))
    ∙ chunk_found id value.bytes (chunk_count (length value.bytes)) k nodes lt few

-- the nodes of another value
other_chunks : (id other bytes : List ℕ) (k j : ℕ) (nodes : List Node) → length id ≡ 12 → length other ≡ 12 → id ≢ other → find (has_key (chunk_key other j)) (with_chunks id bytes k nodes) ≡ find (has_key (chunk_key other j)) nodes
other_chunks id other bytes zero j nodes a b n = refl
other_chunks id other bytes (suc k) j nodes a b n =
    found_elsewhere (chunk_key other j) (with_chunks id bytes k nodes) (chunk_node id bytes k) (other_value id other (suc k) j a b n)
    ∙ other_chunks id other bytes k j nodes a b n

pub found_of_another : (id other : List ℕ) (value : LongValue) (j : ℕ) (nodes : List Node) → length id ≡ 12 → length other ≡ 12 → id ≢ other → find (has_key (chunk_key other j)) (with_value id value nodes) ≡ find (has_key (chunk_key other j)) nodes
found_of_another id other value j nodes a b n =
    found_elsewhere (chunk_key other j) (with_chunks id value.bytes (chunk_count (length value.bytes)) nodes) (head_node id value) (other_value id other 0 j a b n)
    ∙ other_chunks id other value.bytes (chunk_count (length value.bytes)) j nodes a b n

-- ---- chunks that are taken out

swap_out : (id : List ℕ) (k : ℕ) (nodes : List Node) (key : List ℕ) → without_key (without_chunks id k nodes) key ≡ without_chunks id k (without_key nodes key)
swap_out id zero nodes key = refl
swap_out id (suc k) nodes key =
    both_less (without_chunks id k nodes) (chunk_key id (suc k)) key
    ∙ ap (λ l. without_key l (chunk_key id (suc k))) (swap_out id k nodes key)

pub chunks_out : (id bytes : List ℕ) (k : ℕ) (nodes : List Node) → k ≤ 1024 → LacksValue id nodes → without_chunks id k (with_chunks id bytes k nodes) ≡ nodes
chunks_out id bytes zero nodes few lacks = refl
chunks_out id bytes (suc k) nodes few lacks =
    swap_out id k (inserted (with_chunks id bytes k nodes) (chunk_node id bytes k)) (chunk_key id (suc k))
    ∙ ap (without_chunks id k) (taken_out (with_chunks id bytes k nodes) (chunk_node id bytes k) (chunk_absent id bytes k k nodes (omega arith) (omega arith) lacks))
    ∙ chunks_out id bytes k nodes (omega arith) lacks

pub value_out : (id : List ℕ) (value : LongValue) (nodes : List Node) → chunk_count (length value.bytes) ≤ 1024 → LacksValue id nodes → without_key (without_chunks id (chunk_count (length value.bytes)) (with_value id value nodes)) (chunk_key id 0) ≡ nodes
value_out id value nodes few lacks =
    let n = chunk_count (length value.bytes) in
    swap_out id n (with_value id value nodes) (chunk_key id 0)
    ∙ ap (without_chunks id n) (taken_out (with_chunks id value.bytes n nodes) (head_node id value) (head_elsewhere id value.bytes n nodes few ∙ lacks 0 (omega arith)))
    ∙ chunks_out id value.bytes n nodes few lacks

pub later_chunk : (id : List ℕ) (k j : ℕ) (nodes : List Node) → k ≤ j → j ≤ 1024 → find (has_key (chunk_key id (suc j))) (without_chunks id k nodes) ≡ find (has_key (chunk_key id (suc j))) nodes
later_chunk id zero j nodes le few = refl
later_chunk id (suc k) j nodes le few =
    found_still (chunk_key id (suc j)) (chunk_key id (suc k)) (without_chunks id k nodes) (other_chunk id (suc k) (suc j) (omega arith) (omega arith) (λ e. omega (arith, e)))
    ∙ later_chunk id k j nodes (omega arith) few

pub head_stays : (id : List ℕ) (k : ℕ) (nodes : List Node) → k ≤ 1024 → find (has_key (chunk_key id 0)) (without_chunks id k nodes) ≡ find (has_key (chunk_key id 0)) nodes
head_stays id zero nodes few = refl
head_stays id (suc k) nodes few =
    found_still (chunk_key id 0) (chunk_key id (suc k)) (without_chunks id k nodes) (other_chunk id (suc k) 0 (omega arith) (omega arith) (λ e. omega (arith, e)))
    ∙ head_stays id k nodes (omega arith)

-- ---- values in either order

node_past : (id bytes : List ℕ) (k : ℕ) (nodes : List Node) (n : Node) → ((j : ℕ) → is_eq (order (chunk_key id j) n.key) ≡ false) → inserted (with_chunks id bytes k nodes) n ≡ with_chunks id bytes k (inserted nodes n)
node_past id bytes zero nodes n apart = refl
node_past id bytes (suc k) nodes n apart =
    swapped (with_chunks id bytes k nodes) (chunk_node id bytes k) n (apart (suc k))
    ∙ ap (λ l. inserted l (chunk_node id bytes k)) (node_past id bytes k nodes n apart)

chunks_past : (id bytes other bytes' : List ℕ) (k m : ℕ) (nodes : List Node) → length id ≡ 12 → length other ≡ 12 → other ≢ id → with_chunks id bytes k (with_chunks other bytes' m nodes) ≡ with_chunks other bytes' m (with_chunks id bytes k nodes)
chunks_past id bytes other bytes' zero m nodes a b n = refl
chunks_past id bytes other bytes' (suc k) m nodes a b n =
    ap (λ l. inserted l (chunk_node id bytes k)) (chunks_past id bytes other bytes' k m nodes a b n)
    ∙ node_past other bytes' m (with_chunks id bytes k nodes) (chunk_node id bytes k) (λ j. other_value other id j (suc k) b a n)

pub values_swapped : (id other : List ℕ) (v w : LongValue) (nodes : List Node) → length id ≡ 12 → length other ≡ 12 → id ≢ other → with_value id v (with_value other w nodes) ≡ with_value other w (with_value id v nodes)
values_swapped id other v w nodes a b n =
    let k = chunk_count (length v.bytes) in
    let m = chunk_count (length w.bytes) in
    let turned : other ≢ id = λ e. n (sym e) in
    let ha = head_node id v in
    let hb = head_node other w in
    ap (λ l. inserted l ha) (sym (node_past id v.bytes k (with_chunks other w.bytes m nodes) hb (λ j. other_value id other j 0 a b n)))
    ∙ swapped (with_chunks id v.bytes k (with_chunks other w.bytes m nodes)) hb ha (other_value other id 0 0 b a turned)
    ∙ ap (λ l. inserted (inserted l ha) hb) (chunks_past id v.bytes other w.bytes k m nodes a b turned)
    ∙ ap (λ l. inserted l hb) (node_past other w.bytes m (with_chunks id v.bytes k nodes) ha (λ j. other_value other id j 0 b a turned))
