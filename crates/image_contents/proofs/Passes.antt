-- A list that a pass goes over to its end is the list of a value's chunks.
use Rattle.std.proofs.Common.{◌≡◌, ◌≢◌, ℕ, zero, suc, ◌+◌, ◌*◌, ◌-◌, ◌<◌, ◌≤◌, Bool, true, false, ◌&&◌, cond, List, [], ◌∷◌, ◌++◌, length, take, drop, refl, sym, ap, subst, ◌∙◌, arith}
use Rattle.std.specs.Prelude.{◌==◌, min, nat_le, bytes_eq}
use Rattle.std.specs.List.{AllByRecursion}
use Rattle.std.proofs.Math.Seq.{take-append_seam, drop-append_seam}
use Rattle.std.proofs.lemmas.Bool.{eqb-true, leb-true}
use Rattle.std.proofs.lemmas.Bool.Decides.{nat_tests}
use Rattle.std.proofs.lemmas.List.{length-append, take_all}
use Rattle.byteorder.specs.Endian.{big_bytes}
use Rattle.common_lemmas.proofs.Booleans.{and_left, and_right, by_test, impossible}
use Rattle.common_lemmas.proofs.Numbers.{same_bytes}
use Rattle.common_lemmas.proofs.Orders.{less-irreflexive}
use Rattle.page_image.specs.Page.{IsBelow, Node}
use Rattle.image_findings.specs.CatalogFindings.{is_same_node}
use Rattle.long_value.specs.Shown.{id_of}
use Rattle.long_value.specs.Values.{chunk_count, chunk_key}
use Rattle.image_contents.specs.ValuePass.{Pass, all_passed, behind_chunk, broken, is_chunk, is_sound_head, lacks, passed, size_in, told_head, whole}
use Rattle.image_contents.proofs.Chunks.{chunk_at, chunks_from, not_lacking, not_stuck, stuck}

-- ---- nodes that are the same

pub same_node : (n other : Node) → is_same_node n other ≡ true → n ≡ other
same_node n other e =
    let rest = and_right (bytes_eq n.key other.key) ((n.extent == other.extent) && bytes_eq n.data other.data) e in
    let key = same_bytes n.key other.key (and_left (bytes_eq n.key other.key) ((n.extent == other.extent) && bytes_eq n.data other.data) e) in
    let extent = eqb-true n.extent other.extent (and_left (n.extent == other.extent) (bytes_eq n.data other.data) rest) in
    let data-is = same_bytes n.data other.data (and_right (n.extent == other.extent) (bytes_eq n.data other.data) rest) in
    (λ i. record { key = key i; extent = extent i; «data» = data-is i })

-- a sound head has the key of one
pub head_key : (number : ℕ) (n : Node) → is_sound_head number n ≡ true → n ≡ told_head n
head_key number n e = sym (same_node (told_head n) n (and_right _ (is_same_node (told_head n) n) (and_right _ _ e)))

-- ---- the chunks

-- a node of a value, behind its head
abbrev pub IsBehind : List ℕ → Node → Type 0
IsBehind id n = (id_of n ≡ id) × IsBelow (chunk_key id 0) n.key

no_head : (number : ℕ) (id : List ℕ) (n : Node) → IsBehind id n → is_sound_head number n ≡ false
no_head number id n behind = by_test (is_sound_head number n) (λ t. refuted t) (λ f. f)
  where
    refuted : is_sound_head number n ≡ true → is_sound_head number n ≡ false
    refuted t =
        let key : n.key ≡ chunk_key id 0 = ap (λ (m : Node). m.key) (head_key number n t) ∙ ap (λ (i : List ℕ). chunk_key i 0) behind.0 in
        absurd (less-irreflexive (chunk_key id 0) (subst (λ (k : List ℕ). IsBelow (chunk_key id 0) k) key behind.1))

pub record AreChunks (id : List ℕ) (k left : ℕ) (nodes : List Node) : Type 0 where
  pub bytes : List ℕ
  pub long : length bytes ≡ left
  pub are : nodes ≡ chunks_from id k bytes (chunk_count left)

record IsChunk (id : List ℕ) (k left : ℕ) (n : Node) : Type 0 where
  pub key : n.key ≡ chunk_key id k
  pub extent : n.extent ≡ length n.data
  pub long : length n.data ≡ min 1024 left

chunk_is : (id : List ℕ) (k left : ℕ) (n : Node) → is_chunk id k left n ≡ true → IsChunk id k left n
chunk_is id k left n e =
    let rest = and_right (bytes_eq n.key (chunk_key id k)) ((n.extent == length n.data) && (length n.data == min 1024 left)) e in
    record {
      key = same_bytes n.key (chunk_key id k) (and_left (bytes_eq n.key (chunk_key id k)) ((n.extent == length n.data) && (length n.data == min 1024 left)) e);
      extent = eqb-true n.extent (length n.data) (and_left (n.extent == length n.data) (length n.data == min 1024 left) rest);
      long = eqb-true (length n.data) (min 1024 left) (and_right (n.extent == length n.data) (length n.data == min 1024 left) rest);
    }

node_is : (id : List ℕ) (k left : ℕ) (n : Node) (bytes : List ℕ) → IsChunk id k left n → take 1024 bytes ≡ n.data → n ≡ chunk_at id k bytes
node_is id k left n bytes is front =
    let extent : n.extent ≡ length (take 1024 bytes) = is.extent ∙ ap (λ (l : List ℕ). length l) (sym front) in
    (λ i. record { key = is.key i; extent = extent i; «data» = sym front i })

least_one : (left : ℕ) → left ≤ 1024 → min 1024 left ≡ left
least_one left le = omega (arith, le)

least_more : (left : ℕ) → 1024 < left → min 1024 left ≡ 1024
least_more left lt = omega (arith, lt)

front_of : (xs ys : List ℕ) → length xs ≡ 1024 → take 1024 (xs ++ ys) ≡ xs
front_of xs ys long = ap (λ (n : ℕ). take n (xs ++ ys)) (sym long) ∙ take-append_seam xs ys

back_of : (xs ys : List ℕ) → length xs ≡ 1024 → drop 1024 (xs ++ ys) ≡ ys
back_of xs ys long = ap (λ (n : ℕ). drop n (xs ++ ys)) (sym long) ∙ drop-append_seam xs ys

one_chunk : (left : ℕ) → 1 ≤ left → left ≤ 1024 → chunk_count left ≡ 1
one_chunk left some le = omega (arith, some, le)

one_more : (left : ℕ) → 1024 < left → chunk_count left ≡ suc (chunk_count (left - 1024))
one_more left lt = omega (arith, lt)

more_than : (n : ℕ) → nat_le n 1024 ≡ false → 1024 < n
more_than n f = grind (arith, nat_tests, f)

pub chunks_behind : (number : ℕ) (id : List ℕ) (k left : ℕ) (nodes : List Node) → 1 ≤ left → AllByRecursion (IsBehind id) nodes → all_passed number (lacks id k left) nodes ≡ whole → AreChunks id k left nodes
chunks_behind number id k left [] some behind e = not_lacking id k left e
chunks_behind number id k left (n ∷ nodes) some behind e = by (λ lower h. chunks_behind number id (suc k) (left - 1024) nodes lower behind.1 h) (is_chunk id k left n) refl e
  where
    none_left : (rest : List Node) → AllByRecursion (IsBehind id) rest → all_passed number whole rest ≡ whole → rest ≡ []
    none_left [] all h = refl
    none_left (r ∷ rest) all h = not_stuck (id_of r) (sym (stuck number (id_of r) rest) ∙ sym (ap (λ (b : Bool). all_passed number (cond b (lacks (id_of r) 1 (size_in r)) (broken (id_of r))) rest) (no_head number id r all.0)) ∙ h)

    last : IsChunk id k left n → left ≤ 1024 → all_passed number whole nodes ≡ whole → AreChunks id k left (n ∷ nodes)
    last is le h =
        let long : length n.data ≡ left = is.long ∙ least_one left le in
        let front : take 1024 n.data ≡ n.data = take_all 1024 n.data (omega (arith, long, le)) in
        record {
          bytes = n.data;
          long = long;
          are = ap (λ (l : List Node). n ∷ l) (none_left nodes behind.1 h) ∙ ap (λ (m : Node). m ∷ []) (node_is id k left n n.data is front) ∙ ap (chunks_from id k n.data) (sym (one_chunk left some le));
        }

    more : (1 ≤ left - 1024 → all_passed number (lacks id (suc k) (left - 1024)) nodes ≡ whole → AreChunks id (suc k) (left - 1024) nodes) → IsChunk id k left n → 1024 < left → all_passed number (lacks id (suc k) (left - 1024)) nodes ≡ whole → AreChunks id k left (n ∷ nodes)
    more again is lt h =
        let rest = again (omega (arith, lt)) h in
        let long : length n.data ≡ 1024 = is.long ∙ least_more left lt in
        let bytes : List ℕ = n.data ++ rest.bytes in
        let front : take 1024 bytes ≡ n.data = front_of n.data rest.bytes long in
        let back : drop 1024 bytes ≡ rest.bytes = back_of n.data rest.bytes long in
        record {
          bytes = bytes;
          long = length-append n.data rest.bytes ∙ omega (arith, long, rest.long, lt);
          are = ap (λ (l : List Node). n ∷ l) rest.are
              ∙ ap (λ (m : Node). m ∷ chunks_from id (suc k) rest.bytes (chunk_count (left - 1024))) (node_is id k left n bytes is front)
              ∙ ap (λ (b : List ℕ). chunk_at id k bytes ∷ chunks_from id (suc k) b (chunk_count (left - 1024))) (sym back)
              ∙ ap (chunks_from id k bytes) (sym (one_more left lt));
        }

    by_left : (1 ≤ left - 1024 → all_passed number (lacks id (suc k) (left - 1024)) nodes ≡ whole → AreChunks id (suc k) (left - 1024) nodes) → IsChunk id k left n → (b : Bool) → nat_le left 1024 ≡ b → all_passed number (cond b whole (lacks id (suc k) (left - 1024))) nodes ≡ whole → AreChunks id k left (n ∷ nodes)
    by_left again is true t h = last is (leb-true left 1024 t) h
    by_left again is false t h = more again is (more_than left t) h

    by : (1 ≤ left - 1024 → all_passed number (lacks id (suc k) (left - 1024)) nodes ≡ whole → AreChunks id (suc k) (left - 1024) nodes) → (b : Bool) → is_chunk id k left n ≡ b → all_passed number (cond b (behind_chunk id k left) (broken id)) nodes ≡ whole → AreChunks id k left (n ∷ nodes)
    by again true t h = by_left again (chunk_is id k left n t) (nat_le left 1024) refl h
    by again false t h = not_stuck id (sym (stuck number id nodes) ∙ h)
