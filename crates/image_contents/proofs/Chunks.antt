-- A value's head and chunks as a list, and what the pass makes of it.
use Rattle.std.proofs.Common.{◌≡◌, ◌≢◌, ℕ, zero, suc, ◌+◌, ◌*◌, ◌-◌, ◌/◌, ◌<◌, ◌≤◌, Bool, true, false, ◌&&◌, cond, List, [], ◌∷◌, ◌++◌, length, take, drop, Option, Some, None, refl, sym, ap, subst, ◌∙◌, arith, inl, inr}
use Rattle.std.specs.Prelude.{◌==◌, find, fold, min, nat_le, nat_lt, option_map, unwrap_or, bytes_eq}
use Rattle.std.specs.List.{AllByRecursion}
use Rattle.std.specs.Ordering.{is_eq, is_lt}
use Rattle.std.proofs.Math.Seq.{take-add, take-append_seam, drop-append_seam}
use Rattle.std.proofs.lemmas.Bool.{and_from, cases_lt, eqb-true, eq-eqb, le-leb, leb-true}
use Rattle.std.proofs.lemmas.Bool.Decides.{nat_tests}
use Rattle.std.proofs.lemmas.List.{append-nil, drop-drop, length-append, length-drop, length-take, take_all}
use Rattle.byteorder.specs.Endian.{big_bytes, little_bytes, little_number}
use Rattle.common_lemmas.proofs.Booleans.{and_left, and_right, by_test, impossible}
use Rattle.common_lemmas.proofs.Numbers.{equal_bytes, same_bytes}
use Rattle.common_lemmas.proofs.Options.{none_some, same_some}
use Rattle.page_image.specs.Page.{IsBelow, Node}
use Rattle.btree_inplace.specs.Changes.{inserted}
use Rattle.btree_inplace.specs.Order.{get_in, has_key}
use Rattle.long_value.specs.ChangedValues.{itself}
use Rattle.long_value.specs.Shown.{bytes_in, id_of}
use Rattle.long_value.specs.Values.{LongValue, chunk_count, chunk_key, chunk_node, chunk_of, head_node, order, with_chunks, with_value}
use Rattle.image_contents.specs.ValuePass.{Pass, all_passed, behind_chunk, broken, found_by, is_chunk, is_sound_head, lacks, passed, size_in, told_head, whole}
use Rattle.image_contents.proofs.Keys.{chunks_rise, lower_differs, lower_is, not_lower}
use Rattle.image_contents.proofs.Walks.{find_first, find_later}

-- ---- the chunks of a value

abbrev pub chunk_at : List ℕ → ℕ → List ℕ → Node
chunk_at id k bytes = record { key = chunk_key id k; extent = length (take 1024 bytes); «data» = take 1024 bytes }

-- so many chunks, from one on, of these bytes
abbrev pub chunks_from : List ℕ → ℕ → List ℕ → ℕ → List Node
chunks_from id k bytes zero = []
chunks_from id k bytes (suc m) = chunk_at id k bytes ∷ chunks_from id (suc k) (drop 1024 bytes) m

-- every key of a list is above those of a value
abbrev pub AreAbove : List ℕ → List Node → Type 0
AreAbove id nodes = AllByRecursion (λ (n : Node). (k : ℕ) → k ≤ 1025 → IsBelow (chunk_key id k) n.key) nodes

further : (id : List ℕ) (k j : ℕ) (bytes : List ℕ) → chunk_at id (k + suc j) (drop (1024 * suc j) bytes) ≡ chunk_at id (suc k + j) (drop (1024 * j) (drop 1024 bytes))
further id k j bytes =
    let number : k + suc j ≡ suc k + j = omega arith in
    let place : 1024 * suc j ≡ 1024 + 1024 * j = omega arith in
    ap (λ (n : ℕ). chunk_at id n (drop (1024 * suc j) bytes)) number ∙ ap (λ (n : ℕ). chunk_at id (suc k + j) (drop n bytes)) place ∙ ap (chunk_at id (suc k + j)) (sym (drop-drop (1024 * j) 1024 bytes))

insert_lower : (m : Node) (nodes : List Node) (n : Node) → is_lt (order m.key n.key) ≡ true → inserted (m ∷ nodes) n ≡ m ∷ inserted nodes n
insert_lower m nodes n t = ap (λ (b : Bool). cond b (m ∷ inserted nodes n) (n ∷ m ∷ nodes)) t

insert_higher : (m : Node) (nodes : List Node) (n : Node) → is_lt (order m.key n.key) ≡ false → inserted (m ∷ nodes) n ≡ n ∷ m ∷ nodes
insert_higher m nodes n t = ap (λ (b : Bool). cond b (m ∷ inserted nodes n) (n ∷ m ∷ nodes)) t

insert_first : (id : List ℕ) (k : ℕ) (n : Node) (others : List Node) → n.key ≡ chunk_key id k → k ≤ 1025 → AreAbove id others → inserted others n ≡ n ∷ others
insert_first id k n [] is few above = refl
insert_first id k n (m ∷ others) is few above = insert_higher m others n (subst (λ (key : List ℕ). is_lt (order m.key key) ≡ false) (sym is) (not_lower (chunk_key id k) m.key (above.0 k few)))

insert_last : (id : List ℕ) (k j : ℕ) (bytes : List ℕ) (others : List Node) → k + j ≤ 1025 → AreAbove id others
    → inserted (chunks_from id k bytes j ++ others) (chunk_at id (k + j) (drop (1024 * j) bytes)) ≡ chunks_from id k bytes (suc j) ++ others
insert_last id k zero bytes others few above =
    let same : k + 0 ≡ k = omega arith in
    ap (λ (n : ℕ). inserted others (chunk_at id n bytes)) same ∙ insert_first id k (chunk_at id k bytes) others refl (omega (arith, few)) above
insert_last id k (suc j) bytes others few above =
    insert_lower (chunk_at id k bytes) (chunks_from id (suc k) (drop 1024 bytes) j ++ others) (chunk_at id (k + suc j) (drop (1024 * suc j) bytes))
    (lower_is (chunk_key id k) (chunk_key id (k + suc j)) (chunks_rise id k (k + suc j) (omega arith) few))
    ∙ ap (λ (n : Node). chunk_at id k bytes ∷ inserted (chunks_from id (suc k) (drop 1024 bytes) j ++ others) n) (further id k j bytes)
    ∙ ap (λ (l : List Node). chunk_at id k bytes ∷ l) (insert_last id (suc k) j (drop 1024 bytes) others (omega (arith, few)) above)

chunks_are : (id bytes : List ℕ) (j : ℕ) (others : List Node) → j ≤ 1024 → AreAbove id others → with_chunks id bytes j others ≡ chunks_from id 1 bytes j ++ others
chunks_are id bytes zero others few above = refl
chunks_are id bytes (suc j) others few above =
    let number : suc j ≡ 1 + j = omega arith in
    ap (λ (l : List Node). inserted l (chunk_node id bytes j)) (chunks_are id bytes j others (omega (arith, few)) above)
    ∙ ap (λ (n : ℕ). inserted (chunks_from id 1 bytes j ++ others) (chunk_at id n (drop (1024 * j) bytes))) number
    ∙ insert_last id 1 j bytes others (omega (arith, few)) above

-- the nodes of a value stand before those above it: its head, and its chunks
pub value_is : (id : List ℕ) (value : LongValue) (others : List Node) → chunk_count (length value.bytes) ≤ 1024 → AreAbove id others
    → with_value id value others ≡ head_node id value ∷ (chunks_from id 1 value.bytes (chunk_count (length value.bytes)) ++ others)
value_is id value others few above =
    let m = chunk_count (length value.bytes) in
    ap (λ (l : List Node). inserted l (head_node id value)) (chunks_are id value.bytes m others few above) ∙ front m few
  where
    front : (m : ℕ) → m ≤ 1024 → inserted (chunks_from id 1 value.bytes m ++ others) (head_node id value) ≡ head_node id value ∷ (chunks_from id 1 value.bytes m ++ others)
    front zero le = insert_first id 0 (head_node id value) others refl (omega arith) above
    front (suc m) le = insert_higher (chunk_at id 1 value.bytes) (chunks_from id 2 (drop 1024 value.bytes) m ++ others) (head_node id value) (not_lower (chunk_key id 0) (chunk_key id 1) (chunks_rise id 0 1 (omega arith) (omega arith)))

-- ---- their bytes

get_first : (n : Node) (nodes : List Node) (key : List ℕ) → n.key ≡ key → get_in (n ∷ nodes) key ≡ Some n.data
get_first n nodes key is = ap (option_map (λ (m : Node). m.data)) (find_first (has_key key) n nodes (ap (λ (k : List ℕ). is_eq (order k key)) is ∙ itself key))

get_later : (n : Node) (nodes : List Node) (key : List ℕ) → IsBelow n.key key → get_in (n ∷ nodes) key ≡ get_in nodes key
get_later n nodes key low = ap (option_map (λ (m : Node). m.data)) (find_later (has_key key) n nodes (lower_differs n.key key low))

chunk_there : (id : List ℕ) (k m j : ℕ) (bytes : List ℕ) → j < m → k + j ≤ 1025 → get_in (chunks_from id k bytes m) (chunk_key id (k + j)) ≡ Some (take 1024 (drop (1024 * j) bytes))
chunk_there id k zero j bytes lt few = absurd (omega (arith, lt))
chunk_there id k (suc m) zero bytes lt few =
    let same : k ≡ k + 0 = omega arith in
    get_first (chunk_at id k bytes) (chunks_from id (suc k) (drop 1024 bytes) m) (chunk_key id (k + 0)) (ap (chunk_key id) same)
chunk_there id k (suc m) (suc j) bytes lt few =
    let number : suc k + j ≡ k + suc j = omega arith in
    let place : 1024 + 1024 * j ≡ 1024 * suc j = omega arith in
    get_later (chunk_at id k bytes) (chunks_from id (suc k) (drop 1024 bytes) m) (chunk_key id (k + suc j)) (chunks_rise id k (k + suc j) (omega arith) few)
    ∙ ap (λ (n : ℕ). get_in (chunks_from id (suc k) (drop 1024 bytes) m) (chunk_key id n)) (sym number)
    ∙ chunk_there id (suc k) m j (drop 1024 bytes) (omega (arith, lt)) (omega (arith, few))
    ∙ ap (λ (l : List ℕ). Some (take 1024 l)) (drop-drop (1024 * j) 1024 bytes)
    ∙ ap (λ (n : ℕ). Some (take 1024 (drop n bytes))) place

pub bytes_are : (id : List ℕ) (head : Node) (bytes : List ℕ) (m k : ℕ) → head.key ≡ chunk_key id 0 → m ≤ 1024 → k ≤ m → bytes_in id k (head ∷ chunks_from id 1 bytes m) ≡ take (1024 * k) bytes
bytes_are id head bytes m zero is few le = refl
bytes_are id head bytes m (suc k) is few le =
    let nodes = head ∷ chunks_from id 1 bytes m in
    let next : 1024 * k + 1024 ≡ 1024 * suc k = omega arith in
    let number : suc k ≡ 1 + k = omega arith in
    let low : IsBelow head.key (chunk_key id (suc k)) = subst (λ (key : List ℕ). IsBelow key (chunk_key id (suc k))) (sym is) (chunks_rise id 0 (suc k) (omega arith) (omega (arith, few, le))) in
    let there : get_in nodes (chunk_key id (suc k)) ≡ Some (take 1024 (drop (1024 * k) bytes)) =
    get_later head (chunks_from id 1 bytes m) (chunk_key id (suc k)) low ∙ ap (λ (n : ℕ). get_in (chunks_from id 1 bytes m) (chunk_key id n)) number ∙ chunk_there id 1 m k bytes (omega (arith, le)) (omega (arith, few, le)) in
    ap (λ (l : List ℕ). l ++ unwrap_or (get_in nodes (chunk_key id (suc k))) []) (bytes_are id head bytes m k is few (omega (arith, le)))
    ∙ ap (λ (o : Option (List ℕ)). take (1024 * k) bytes ++ unwrap_or o []) there
    ∙ sym (take-add (1024 * k) 1024 bytes)
    ∙ ap (λ (n : ℕ). take n bytes) next

-- ---- a pass that is stuck

pub stuck : (number : ℕ) (id : List ℕ) (nodes : List Node) → all_passed number (broken id) nodes ≡ broken id
stuck number id [] = refl
stuck number id (n ∷ nodes) = stuck number id nodes

pub not_stuck : {A : Type 0} (id : List ℕ) → broken id ≡ whole → A
not_stuck id e = absurd cc

pub not_lacking : {A : Type 0} (id : List ℕ) (k left : ℕ) → lacks id k left ≡ whole → A
not_lacking id k left e = absurd cc

-- ---- the pass over chunks

equal : (m n : ℕ) → m ≡ n → (m == n) ≡ true
equal m n e = eq-eqb m n e

least_of : (n : ℕ) → min n 1024 ≡ min 1024 n
least_of n = omega arith

chunk_passes : (id : List ℕ) (k : ℕ) (bytes : List ℕ) → is_chunk id k (length bytes) (chunk_at id k bytes) ≡ true
chunk_passes id k bytes =
    let long : length (take 1024 bytes) ≡ min 1024 (length bytes) = length-take 1024 bytes in
    and_from (bytes_eq (chunk_key id k) (chunk_key id k)) ((length (take 1024 bytes) == length (take 1024 bytes)) && (length (take 1024 bytes) == min 1024 (length bytes))) (equal_bytes (chunk_key id k) (chunk_key id k) refl)
    (and_from (length (take 1024 bytes) == length (take 1024 bytes)) (length (take 1024 bytes) == min 1024 (length bytes)) (equal (length (take 1024 bytes)) (length (take 1024 bytes)) refl) (equal (length (take 1024 bytes)) (min 1024 (length bytes)) long))

pub chunks_pass : (number : ℕ) (id : List ℕ) (k m : ℕ) (bytes : List ℕ) → chunk_count (length bytes) ≡ m → 1 ≤ length bytes → all_passed number (lacks id k (length bytes)) (chunks_from id k bytes m) ≡ whole
chunks_pass number id k zero bytes is some = absurd (omega (arith, is, some))
chunks_pass number id k (suc m) bytes is some =
    let rest = chunks_from id (suc k) (drop 1024 bytes) m in
    ap (λ (b : Bool). all_passed number (cond b (behind_chunk id k (length bytes)) (broken id)) rest) (chunk_passes id k bytes)
    ∙ by_test (nat_le (length bytes) 1024) last (more (chunks_pass number id (suc k) m (drop 1024 bytes)))
  where
    last : nat_le (length bytes) 1024 ≡ true → all_passed number (behind_chunk id k (length bytes)) (chunks_from id (suc k) (drop 1024 bytes) m) ≡ whole
    last t =
        let le : length bytes ≤ 1024 = leb-true (length bytes) 1024 t in
        let none : m ≡ 0 = omega (arith, is, some, le) in
        ap (λ (b : Bool). all_passed number (cond b whole (lacks id (suc k) (length bytes - 1024))) (chunks_from id (suc k) (drop 1024 bytes) m)) t
        ∙ ap (λ (n : ℕ). all_passed number whole (chunks_from id (suc k) (drop 1024 bytes) n)) none

    more : (chunk_count (length (drop 1024 bytes)) ≡ m → 1 ≤ length (drop 1024 bytes) → all_passed number (lacks id (suc k) (length (drop 1024 bytes))) (chunks_from id (suc k) (drop 1024 bytes) m) ≡ whole) → nat_le (length bytes) 1024 ≡ false → all_passed number (behind_chunk id k (length bytes)) (chunks_from id (suc k) (drop 1024 bytes) m) ≡ whole
    more pass t =
        let above : 1024 < length bytes = higher (length bytes) t in
        let left : length (drop 1024 bytes) ≡ length bytes - 1024 = length-drop 1024 bytes in
        let count : chunk_count (length (drop 1024 bytes)) ≡ m = ap chunk_count left ∙ fewer (length bytes) above is in
        ap (λ (b : Bool). all_passed number (cond b whole (lacks id (suc k) (length bytes - 1024))) (chunks_from id (suc k) (drop 1024 bytes) m)) t
        ∙ ap (λ (n : ℕ). all_passed number (lacks id (suc k) n) (chunks_from id (suc k) (drop 1024 bytes) m)) (sym left)
        ∙ pass count (omega (arith, left, above))
      where
        higher : (n : ℕ) → nat_le n 1024 ≡ false → 1024 < n
        higher n f = grind (arith, nat_tests, f)

        fewer : (n : ℕ) → 1024 < n → chunk_count n ≡ suc m → chunk_count (n - 1024) ≡ m
        fewer n lt e = omega (arith, lt, e)
