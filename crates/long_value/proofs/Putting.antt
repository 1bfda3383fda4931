-- The chunks of a value, put into a tree and taken out again one after the other.
use Rattle.std.proofs.Common.{◌≡◌, ℕ, suc, ◌+◌, ◌<◌, ◌≤◌, true, false, List, length, find, Option, Some, Result, Ok, Err, refl, sym, ap, subst, ◌∙◌, true≢false, arith}
use Rattle.std.specs.Prelude.{IsSome, OnOk, OnErr, is_err}
use Rattle.page_image.specs.Page.{Node}
use Rattle.page_space.specs.Frames.{Frames}
use Rattle.btree_inplace.specs.Changes.{inserted, without_key}
use Rattle.btree_inplace.specs.Order.{has_key}
use Rattle.btree_inplace.specs.Trees.{Exchanges, IsTree, nodes_of, pages_of}
use Rattle.btree_inplace.specs.declared.Tree.{Tree}
use Rattle.long_value.specs.Values.{LacksValue, LongValue, chunk_count, chunk_key, chunk_node, head_data, with_chunks, with_value, without_chunks}
use Rattle.long_value.specs.Stores.{Becomes}
use Rattle.long_value.proofs.Changes.{becomes_as, becomes_then}
use Rattle.long_value.proofs.ChunkNodes.{chunk_found, chunks_out, head_stays}

pub when_ok : {A E P : Type 0} (r : Result A E) → is_err r ≡ false → OnOk r P → P
when_ok (Ok x) e p = p
when_ok (Err x) e p = absurd (true≢false e)

pub when_err : {A E P : Type 0} (r : Result A E) → is_err r ≡ true → OnErr r P → P
when_err (Ok x) e p = absurd (true≢false (sym e))
when_err (Err x) e p = p

pub some_there : {X : Type 0} (o : Option X) (x : X) → o ≡ Some x → IsSome o
some_there o x e = subst IsSome (sym e) refl

pub chunks_there : (id bytes : List ℕ) (k : ℕ) (nodes now : List Node) → now ≡ with_chunks id bytes k nodes → k ≤ 1024 → (j : ℕ) → j < k → IsSome (find (has_key (chunk_key id (suc j))) now)
chunks_there id bytes k nodes now e few j lt =
    some_there (find (has_key (chunk_key id (suc j))) now) (chunk_node id bytes j) (ap (find (has_key (chunk_key id (suc j)))) e ∙ chunk_found id bytes k j nodes lt few)

chunk_more : (a b c : Frames) (s t u : Tree) (id bytes : List ℕ) (k : ℕ) → Becomes a s b t (with_chunks id bytes k (nodes_of a s)) → Becomes b t c u (inserted (nodes_of b t) (chunk_node id bytes k)) → Becomes a s c u (with_chunks id bytes (suc k) (nodes_of a s))
chunk_more a b c s t u id bytes k x y =
    becomes_as a s c u (inserted (nodes_of b t) (chunk_node id bytes k)) (with_chunks id bytes (suc k) (nodes_of a s)) (ap (λ l. inserted l (chunk_node id bytes k)) x.has)
    (becomes_then a b c s t u (with_chunks id bytes k (nodes_of a s)) (inserted (nodes_of b t) (chunk_node id bytes k)) x y)

plus_one : (k : ℕ) → suc k ≡ k + 1
plus_one k = omega arith

pub chunk_next : (a b c : Frames) (s t u : Tree) (id bytes : List ℕ) (k : ℕ) → Becomes a s b t (with_chunks id bytes k (nodes_of a s)) → Becomes b t c u (inserted (nodes_of b t) (chunk_node id bytes k)) → Becomes a s c u (with_chunks id bytes (k + 1) (nodes_of a s))
chunk_next a b c s t u id bytes k x y = subst (λ n. Becomes a s c u (with_chunks id bytes n (nodes_of a s))) (plus_one k) (chunk_more a b c s t u id bytes k x y)

-- the chunks so far are taken out again
pub chunks_back : (a b c d : Frames) (s t u v : Tree) (id bytes : List ℕ) (k : ℕ) → k ≤ 1024 → LacksValue id (nodes_of a s) → Becomes a s b t (with_chunks id bytes k (nodes_of a s)) → Becomes b t c u (nodes_of b t) → Becomes c u d v (without_chunks id k (nodes_of c u)) → Becomes a s d v (nodes_of a s)
chunks_back a b c d s t u v id bytes k few lacks x y z =
    becomes_as a s d v (without_chunks id k (nodes_of c u)) (nodes_of a s)
    (ap (without_chunks id k) (y.has ∙ x.has) ∙ chunks_out id bytes k (nodes_of a s) few lacks)
    (becomes_then a b d s t v (with_chunks id bytes k (nodes_of a s)) (without_chunks id k (nodes_of c u)) x (becomes_then b c d t u v (nodes_of b t) (without_chunks id k (nodes_of c u)) y z))

chunk_less : (a b c : Frames) (s t u : Tree) (id key : List ℕ) (k : ℕ) (nodes : List Node) → Becomes a s b t (without_chunks id k nodes) → key ≡ chunk_key id (suc k) → IsTree c u → nodes_of c u ≡ without_key (nodes_of b t) key → Exchanges b c (pages_of b t) (pages_of c u) → u.root ≡ t.root → Becomes a s c u (without_chunks id (suc k) nodes)
chunk_less a b c s t u id key k nodes x e tree has pages root =
    becomes_then a b c s t u (without_chunks id k nodes) (without_chunks id (suc k) nodes) x
    (record { tree = tree; has = has ∙ ap (without_key (nodes_of b t)) e ∙ ap (λ l. without_key l (chunk_key id (suc k))) x.has; pages = pages; root = root })

pub next_less : (a b c : Frames) (s t u : Tree) (id key : List ℕ) (k : ℕ) (nodes : List Node) → Becomes a s b t (without_chunks id k nodes) → key ≡ chunk_key id (suc k) → IsTree c u → nodes_of c u ≡ without_key (nodes_of b t) key → Exchanges b c (pages_of b t) (pages_of c u) → u.root ≡ t.root → Becomes a s c u (without_chunks id (k + 1) nodes)
next_less a b c s t u id key k nodes x e tree has pages root = subst (λ n. Becomes a s c u (without_chunks id n nodes)) (plus_one k) (chunk_less a b c s t u id key k nodes x e tree has pages root)

pub head_put : (a b c : Frames) (s t u : Tree) (id key d : List ℕ) (value : LongValue) → Becomes a s b t (with_chunks id value.bytes (chunk_count (length value.bytes)) (nodes_of a s)) → key ≡ chunk_key id 0 → d ≡ head_data value → IsTree c u → nodes_of c u ≡ inserted (nodes_of b t) (record { key = key; extent = 8; «data» = d }) → Exchanges b c (pages_of b t) (pages_of c u) → u.root ≡ t.root → Becomes a s c u (with_value id value (nodes_of a s))
head_put a b c s t u id key d value x k e tree has pages root =
    becomes_then a b c s t u (with_chunks id value.bytes (chunk_count (length value.bytes)) (nodes_of a s)) (with_value id value (nodes_of a s)) x
    (record {
      tree = tree;
      has =
          has ∙ ap (λ (y : List ℕ). inserted (nodes_of b t) (record { key = y; extent = 8; «data» = d })) k
          ∙ ap (λ (y : List ℕ). inserted (nodes_of b t) (record { key = chunk_key id 0; extent = 8; «data» = y })) e
          ∙ ap (λ l. inserted l (record { key = chunk_key id 0; extent = 8; «data» = head_data value })) x.has;
      pages = pages;
      root = root;
    })

-- the head behind the chunks
pub head_out : (a b c : Frames) (s t u : Tree) (id key : List ℕ) (n : ℕ) → Becomes a s b t (without_chunks id n (nodes_of a s)) → key ≡ chunk_key id 0 → IsTree c u → nodes_of c u ≡ without_key (nodes_of b t) key → Exchanges b c (pages_of b t) (pages_of c u) → u.root ≡ t.root → Becomes a s c u (without_key (without_chunks id n (nodes_of a s)) (chunk_key id 0))
head_out a b c s t u id key n x e tree has pages root =
    becomes_then a b c s t u (without_chunks id n (nodes_of a s)) (without_key (without_chunks id n (nodes_of a s)) (chunk_key id 0)) x
    (record { tree = tree; has = has ∙ ap (without_key (nodes_of b t)) e ∙ ap (λ l. without_key l (chunk_key id 0)) x.has; pages = pages; root = root })

pub head_still : (id key : List ℕ) (n : ℕ) (nodes now : List Node) (head : Node) → n ≤ 1024 → key ≡ chunk_key id 0 → now ≡ without_chunks id n nodes → find (has_key (chunk_key id 0)) nodes ≡ Some head → IsSome (find (has_key key) now)
head_still id key n nodes now head few k e there =
    some_there (find (has_key key) now) head (ap (λ x. find (has_key x) now) k ∙ ap (find (has_key (chunk_key id 0))) e ∙ head_stays id n nodes few ∙ there)
