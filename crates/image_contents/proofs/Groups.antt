-- The nodes of one value: they are whole exactly where the pass goes over them to its end.
use Rattle.std.proofs.Common.{◌≡◌, ◌≢◌, ℕ, zero, suc, ◌+◌, ◌*◌, ◌^◌, ◌<◌, ◌≤◌, Bool, true, false, ◌&&◌, cond, List, [], ◌∷◌, ◌++◌, length, take, drop, refl, sym, ap, subst, ◌∙◌, arith}
use Rattle.std.specs.Prelude.{◌==◌, min, nat_le, option_map, unwrap_or, bytes_eq}
use Rattle.std.specs.Prelude.{find, Option, Some, None}
use Rattle.std.specs.List.{AllByRecursion}
use Rattle.std.proofs.Math.Seq.{take-append_seam, drop-append_seam}
use Rattle.std.proofs.lemmas.Bool.{and_from, eqb-true, eq-eqb, leb-true}
use Rattle.std.proofs.lemmas.List.{append-nil, length-append, length-take, take_all}
use Rattle.byteorder.specs.Endian.{big_bytes, little_bytes, little_number}
use Rattle.byteorder.specs.Numbers.{length-bytes_low_first, little_from-bytes, little_number-reads_back}
use Rattle.common_lemmas.proofs.Booleans.{and_left, and_right, by_test, impossible, same_tests}
use Rattle.common_lemmas.proofs.Numbers.{equal_bytes, same_bytes}
use Rattle.common_lemmas.proofs.Found.{of_found}
use Rattle.common_lemmas.proofs.Options.{none_some}
use Rattle.page_image.specs.Page.{IsBelow, Node}
use Rattle.btree_inplace.specs.Changes.{inserted}
use Rattle.btree_inplace.specs.Order.{get_in, has_key}
use Rattle.image_findings.specs.CatalogFindings.{are_same_nodes, is_same_node}
use Rattle.image_findings.specs.ValueFindings.{entry_in, has_long_length, is_whole_value}
use Rattle.long_value.specs.Shown.{bytes_in, id_of, value_at}
use Rattle.long_value.specs.Values.{LongValue, chunk_count, chunk_key, chunk_node, chunk_of, head_data, head_node, order, with_chunks, with_value}
use Rattle.image_contents.specs.ValuePass.{Pass, all_passed, broken, is_sound_head, lacks, passed, size_in, told_head, whole}
use Rattle.image_contents.proofs.Chunks.{bytes_are, chunks_from, chunks_pass, not_stuck, stuck, value_is}
use Rattle.image_contents.proofs.Passes.{AreChunks, IsBehind, chunks_behind, head_key, same_node}

-- ---- the nodes of a value have few bytes

abbrev IsShort : Node → Type 0
IsShort n = length n.data ≤ 1024

short_inserted : (nodes : List Node) (n : Node) → IsShort n → AllByRecursion IsShort nodes → AllByRecursion IsShort (inserted nodes n)
short_inserted [] n short all = (short, tt)
short_inserted (m ∷ nodes) n short all = by (short_inserted nodes n short all.1) _
  where
    by : AllByRecursion IsShort (inserted nodes n) → (b : Bool) → AllByRecursion IsShort (cond b (m ∷ inserted nodes n) (n ∷ m ∷ nodes))
    by more true = (all.0, more)
    by more false = (short, all)

short_chunks : (id bytes : List ℕ) (k : ℕ) → AllByRecursion IsShort (with_chunks id bytes k [])
short_chunks id bytes zero = tt
short_chunks id bytes (suc k) = short_inserted (with_chunks id bytes k []) (chunk_node id bytes k) (omega (arith, length-take 1024 (drop (1024 * k) bytes))) (short_chunks id bytes k)

short_value : (id : List ℕ) (value : LongValue) → AllByRecursion IsShort (with_value id value [])
short_value id value = short_inserted (with_chunks id value.bytes (chunk_count (length value.bytes)) []) (head_node id value)
    (omega (arith, length-append (little_bytes 4 value.count) (little_bytes 4 (length value.bytes)), length-bytes_low_first 0 4 value.count, length-bytes_low_first 0 4 (length value.bytes)))
    (short_chunks id value.bytes (chunk_count (length value.bytes)))

short_get : (nodes : List Node) (key : List ℕ) → AllByRecursion IsShort nodes → length (unwrap_or (get_in nodes key) []) ≤ 1024
short_get nodes key all = by (find (has_key key) nodes) refl
  where
    by : (o : Option Node) → find (has_key key) nodes ≡ o → length (unwrap_or (option_map (λ (n : Node). n.data) o) []) ≤ 1024
    by None e = omega arith
    by (Some n) e = of_found IsShort (has_key key) nodes n e all

short_bytes : (id : List ℕ) (k : ℕ) (nodes : List Node) → AllByRecursion IsShort nodes → length (bytes_in id k nodes) ≤ 1024 * k
short_bytes id zero nodes all = omega arith
short_bytes id (suc k) nodes all =
    omega (arith, length-append (bytes_in id k nodes) (unwrap_or (get_in nodes (chunk_key id (suc k))) []), short_bytes id k nodes all, short_get nodes (chunk_key id (suc k)) all)

-- ---- lists that are the same

pub same_nodes : (nodes others : List Node) → are_same_nodes nodes others ≡ true → nodes ≡ others
same_nodes [] [] e = refl
same_nodes [] (m ∷ others) e = impossible e
same_nodes (n ∷ nodes) [] e = impossible e
same_nodes (n ∷ nodes) (m ∷ others) e =
    ap (λ (x : Node). x ∷ nodes) (same_node n m (and_left (is_same_node n m) (are_same_nodes nodes others) e))
    ∙ ap (λ (l : List Node). m ∷ l) (same_nodes nodes others (and_right (is_same_node n m) (are_same_nodes nodes others) e))

node_itself : (n : Node) → is_same_node n n ≡ true
node_itself n = and_from (bytes_eq n.key n.key) ((n.extent == n.extent) && bytes_eq n.data n.data) (equal_bytes n.key n.key refl) (and_from (n.extent == n.extent) (bytes_eq n.data n.data) (eq-eqb n.extent n.extent refl) (equal_bytes n.data n.data refl))

nodes_themselves : (nodes : List Node) → are_same_nodes nodes nodes ≡ true
nodes_themselves [] = refl
nodes_themselves (n ∷ nodes) = and_from (is_same_node n n) (are_same_nodes nodes nodes) (node_itself n) (nodes_themselves nodes)

-- ---- what a test of a head tells

abbrev pub is_made : ℕ → List ℕ → Bool
is_made number id = nat_le 1 (entry_in id) && nat_le (entry_in id) number

long_size : (n : Node) → has_long_length n ≡ true → (256 ≤ size_in n) × (size_in n ≤ 1048576)
long_size n e = (leb-true 256 (size_in n) (and_left (nat_le 256 (size_in n)) (nat_le (size_in n) 1048576) e), leb-true (size_in n) 1048576 (and_right (nat_le 256 (size_in n)) (nat_le (size_in n) 1048576) e))

-- ---- a whole value, spelled out

pub record IsSpelled (number : ℕ) (id : List ℕ) (head : Node) (chunks : List Node) : Type 0 where
  pub value : LongValue
  pub made : is_made number id ≡ true
  pub long : length id ≡ 12
  pub value_is : value_at (head ∷ chunks) head ≡ value
  pub head_is : head ≡ head_node id value
  pub chunks_are : chunks ≡ chunks_from id 1 value.bytes (chunk_count (length value.bytes))
  pub told : size_in head ≡ length value.bytes
  pub some : 256 ≤ length value.bytes
  pub short : length value.bytes ≤ 1048576
  pub few : value.count ≤ 4294967295

first_of : Node → List Node → Node
first_of head [] = head
first_of head (n ∷ nodes) = n

rest_of : List Node → List Node
rest_of [] = []
rest_of (n ∷ nodes) = nodes

drop_four : (xs ys : List ℕ) → length xs ≡ 4 → drop 4 (xs ++ ys) ≡ ys
drop_four xs ys is = ap (λ (n : ℕ). drop n (xs ++ ys)) (sym is) ∙ drop-append_seam xs ys

told_length : (count : ℕ) (size : ℕ) → size ≤ 1048576 → little_number 4 (drop 4 (little_bytes 4 count ++ little_bytes 4 size)) ≡ size
told_length count size short =
    ap (little_number 4) (drop_four (little_bytes 4 count) (little_bytes 4 size) (length-bytes_low_first 0 4 count) ∙ sym (append-nil (little_bytes 4 size)))
    ∙ little_number-reads_back 4 size [] (omega (arith, short))

told_count : (count : ℕ) (rest : List ℕ) → count ≡ little_number 4 (little_bytes 4 count ++ rest) → count ≤ 4294967295
told_count count rest is = omega (arith, is ∙ little_from-bytes 4 0 count rest)

twelve_long : (id key : List ℕ) → take 12 key ≡ id → key ≡ chunk_key id 0 → length id ≡ 12
twelve_long id key own is = omega (arith, ap (λ (l : List ℕ). length l) is, length-append id (big_bytes 4 0), ap (λ (l : List ℕ). length l) own, length-take 12 key)

spelled_by : (number : ℕ) (id : List ℕ) (head : Node) (chunks : List Node) (v : LongValue) → id_of head ≡ id → is_made number id ≡ true → has_long_length head ≡ true → value_at (head ∷ chunks) head ≡ v → little_number 4 head.data ≡ v.count
    → head ∷ chunks ≡ with_value id v [] → length v.bytes ≤ 1048576 → IsSpelled number id head chunks
unfolding first_of rest_of
spelled_by number id head chunks v own made long value-is count-is are few =
    let m : ℕ = chunk_count (length v.bytes) in
    let listed : head ∷ chunks ≡ head_node id v ∷ (chunks_from id 1 v.bytes m ++ []) = are ∙ value_is id v [] (omega (arith, few)) tt in
    let head-is : head ≡ head_node id v = ap (first_of head) listed in
    let size = long_size head long in
    let told : size_in head ≡ length v.bytes = ap (λ (n : Node). size_in n) head-is ∙ told_length v.count (length v.bytes) few in
    record {
      value = v;
      made = made;
      long = twelve_long id head.key own (ap (λ (n : Node). n.key) head-is);
      value_is = value-is;
      head_is = head-is;
      chunks_are = ap rest_of listed ∙ append-nil (chunks_from id 1 v.bytes m);
      told = told;
      some = omega (arith, told, size.0);
      short = few;
      few = told_count v.count (little_bytes 4 (length v.bytes)) (sym count-is ∙ ap (λ (n : Node). little_number 4 n.data) head-is);
    }

pub spelled : (number : ℕ) (id : List ℕ) (head : Node) (chunks : List Node) → id_of head ≡ id → is_whole_value number id (head ∷ chunks) ≡ true → IsSpelled number id head chunks
spelled number id head chunks own e =
    let rest = and_right (is_made number id) (has_long_length head && are_same_nodes (with_value id (value_at (head ∷ chunks) head) []) (head ∷ chunks)) e in
    let long : has_long_length head ≡ true = and_left (has_long_length head) (are_same_nodes (with_value id (value_at (head ∷ chunks) head) []) (head ∷ chunks)) rest in
    let are : with_value id (value_at (head ∷ chunks) head) [] ≡ head ∷ chunks = same_nodes (with_value id (value_at (head ∷ chunks) head) []) (head ∷ chunks) (and_right (has_long_length head) (are_same_nodes (with_value id (value_at (head ∷ chunks) head) []) (head ∷ chunks)) rest) in
    let short : AllByRecursion IsShort (head ∷ chunks) = subst (AllByRecursion IsShort) are (short_value id (value_at (head ∷ chunks) head)) in
    let below = short_bytes (id_of head) (chunk_count (size_in head)) (head ∷ chunks) short in
    spelled_by number id head chunks (value_at (head ∷ chunks) head) own (and_left (is_made number id) (has_long_length head && are_same_nodes (with_value id (value_at (head ∷ chunks) head) []) (head ∷ chunks)) e) long refl refl (sym are) (omega (arith, below, (long_size head long).1))

-- ---- a value that is whole is passed

sound_of : (number : ℕ) (id : List ℕ) (head : Node) (chunks : List Node) → id_of head ≡ id → has_long_length head ≡ true → IsSpelled number id head chunks → is_sound_head number head ≡ true
sound_of number id head chunks own long is =
    let v : LongValue = is.value in
    let count-is : little_number 4 head.data ≡ v.count = ap (λ (w : LongValue). w.count) is.value_is in
    let same : told_head head ≡ head =
    ap (λ (i : List ℕ). record { key = chunk_key i 0; extent = 8; «data» = little_bytes 4 (little_number 4 head.data) ++ little_bytes 4 (size_in head) }) own
    ∙ ap (λ (n : ℕ). record { key = chunk_key id 0; extent = 8; «data» = little_bytes 4 (little_number 4 head.data) ++ little_bytes 4 n }) is.told
    ∙ ap (λ (n : ℕ). record { key = chunk_key id 0; extent = 8; «data» = little_bytes 4 n ++ little_bytes 4 (length v.bytes) }) count-is
    ∙ sym is.head_is in
    and_from (is_made number (id_of head)) (has_long_length head && is_same_node (told_head head) head) (subst (λ (i : List ℕ). is_made number i ≡ true) (sym own) is.made)
    (and_from (has_long_length head) (is_same_node (told_head head) head) long (subst (λ (n : Node). is_same_node n head ≡ true) (sym same) (node_itself head)))

pub whole_passes : (number : ℕ) (id : List ℕ) (head : Node) (chunks : List Node) → id_of head ≡ id → is_whole_value number id (head ∷ chunks) ≡ true → all_passed number whole (head ∷ chunks) ≡ whole
whole_passes number id head chunks own e =
    let is = spelled number id head chunks own e in
    let long : has_long_length head ≡ true = and_left (has_long_length head) (are_same_nodes (with_value id (value_at (head ∷ chunks) head) []) (head ∷ chunks)) (and_right (is_made number id) (has_long_length head && are_same_nodes (with_value id (value_at (head ∷ chunks) head) []) (head ∷ chunks)) e) in
    ap (λ (b : Bool). all_passed number (cond b (lacks (id_of head) 1 (size_in head)) (broken (id_of head))) chunks) (sound_of number id head chunks own long is)
    ∙ ap (λ (i : List ℕ). all_passed number (lacks i 1 (size_in head)) chunks) own
    ∙ ap (λ (n : ℕ). all_passed number (lacks id 1 n) chunks) is.told
    ∙ ap (all_passed number (lacks id 1 (length is.value.bytes))) is.chunks_are
    ∙ chunks_pass number id 1 (chunk_count (length is.value.bytes)) is.value.bytes refl (omega (arith, is.some))

-- what is passed is a whole value
pub passed_whole : (number : ℕ) (id : List ℕ) (head : Node) (chunks : List Node) → id_of head ≡ id → AllByRecursion (IsBehind id) chunks → all_passed number whole (head ∷ chunks) ≡ whole → is_whole_value number id (head ∷ chunks) ≡ true
passed_whole number id head chunks own behind e = by (is_sound_head number head) refl e
  where
    sound : is_sound_head number head ≡ true → all_passed number (lacks (id_of head) 1 (size_in head)) chunks ≡ whole → is_whole_value number id (head ∷ chunks) ≡ true
    sound t h =
        let made = and_left (is_made number (id_of head)) _ t in
        let rest = and_right (is_made number (id_of head)) _ t in
        let long : has_long_length head ≡ true = and_left (has_long_length head) _ rest in
        let size = long_size head long in
        let told : head ≡ told_head head = head_key number head t in
        let key : head.key ≡ chunk_key id 0 = ap (λ (n : Node). n.key) told ∙ ap (λ (i : List ℕ). chunk_key i 0) own in
        let are = chunks_behind number id 1 (size_in head) chunks (omega (arith, size.0)) behind (subst (λ (i : List ℕ). all_passed number (lacks i 1 (size_in head)) chunks ≡ whole) own h) in
        let m : ℕ = chunk_count (size_in head) in
        let few : m ≤ 1024 = omega (arith, size.1) in
        let bytes-are : bytes_in (id_of head) m (head ∷ chunks) ≡ are.bytes =
        ap (λ (i : List ℕ). bytes_in i m (head ∷ chunks)) own
        ∙ ap (λ (l : List Node). bytes_in id m (head ∷ l)) are.are
        ∙ bytes_are id head are.bytes m m key few (omega arith)
        ∙ take_all (1024 * m) are.bytes (omega (arith, are.long)) in
        let v : LongValue = record { count = little_number 4 head.data; bytes = are.bytes } in
        let value-is : value_at (head ∷ chunks) head ≡ v = ap (λ (b : List ℕ). record { count = little_number 4 head.data; bytes = b }) bytes-are in
        let head-is : head_node id v ≡ head =
        ap (λ (n : ℕ). record { key = chunk_key id 0; extent = 8; «data» = little_bytes 4 (little_number 4 head.data) ++ little_bytes 4 n }) are.long
        ∙ ap (λ (i : List ℕ). record { key = chunk_key i 0; extent = 8; «data» = little_bytes 4 (little_number 4 head.data) ++ little_bytes 4 (size_in head) }) (sym own)
        ∙ sym told in
        let spelled : with_value id (value_at (head ∷ chunks) head) [] ≡ head ∷ chunks =
        ap (λ (w : LongValue). with_value id w []) value-is
        ∙ value_is id v [] (subst (λ (n : ℕ). chunk_count n ≤ 1024) (sym are.long) few) tt
        ∙ ap (λ (n : Node). n ∷ (chunks_from id 1 are.bytes (chunk_count (length are.bytes)) ++ [])) head-is
        ∙ ap (λ (l : List Node). head ∷ l) (append-nil (chunks_from id 1 are.bytes (chunk_count (length are.bytes))) ∙ ap (λ (n : ℕ). chunks_from id 1 are.bytes (chunk_count n)) are.long ∙ sym are.are) in
        and_from (is_made number id) (has_long_length head && are_same_nodes (with_value id (value_at (head ∷ chunks) head) []) (head ∷ chunks)) (subst (λ (i : List ℕ). is_made number i ≡ true) own made)
        (and_from (has_long_length head) (are_same_nodes (with_value id (value_at (head ∷ chunks) head) []) (head ∷ chunks)) long
        (subst (λ (l : List Node). are_same_nodes l (head ∷ chunks) ≡ true) (sym spelled) (nodes_themselves (head ∷ chunks))))

    by : (b : Bool) → is_sound_head number head ≡ b → all_passed number (cond b (lacks (id_of head) 1 (size_in head)) (broken (id_of head))) chunks ≡ whole → is_whole_value number id (head ∷ chunks) ≡ true
    by true t h = sound t h
    by false t h = not_stuck (id_of head) (sym (stuck number (id_of head) chunks) ∙ h)
