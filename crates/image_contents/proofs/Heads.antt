-- What is tested of a head.
use Rattle.std.proofs.Common.{◌≡◌, ℕ, suc, ◌+◌, ◌-◌, ◌<◌, ◌≤◌, ◌^◌, Bool, true, false, ◌&&◌, List, ◌++◌, length, take, drop, get_or, Option, Some, None, refl, sym, ap, subst, ◌∙◌, arith}
use Rattle.std.specs.Prelude.{◌==◌, nat_le, bytes_eq, if◌then◌else◌}
use Rattle.std.proofs.lemmas.Bool.{and_from, eq-eqb, eqb-true, leb-true}
use Rattle.std.proofs.lemmas.Bool.Decides.{nat_tests}
use Rattle.std.proofs.lemmas.List.{get_or-drop, get_or-take, length-append, length-drop, length-take, take-append-drop}
use Rattle.std.proofs.lemmas.Nat.{le_bytes_4}
use Rattle.byteorder.specs.Endian.{big_bytes, big_number, little_bytes, little_number}
use Rattle.byteorder.specs.Numbers.{big_from-take, length-bytes_low_first, little_from-take}
use Rattle.column_set.specs.NumberReading.{IsBytes, IsBytes-drop, IsBytes-take}
use Rattle.common_lemmas.proofs.Booleans.{and_left, and_right, by_test, same_tests}
use Rattle.common_lemmas.proofs.Numbers.{bytes_turned, equal_bytes, same_bytes}
use Rattle.page_image.specs.Page.{Node}
use Rattle.image_findings.specs.CatalogFindings.{is_same_node}
use Rattle.image_findings.specs.ValueFindings.{entry_in, has_long_length}
use Rattle.long_value.specs.Shown.{id_of}
use Rattle.long_value.specs.Values.{chunk_key}
use Rattle.image_contents.specs.ValuePass.{is_sound_head, size_in, told_head}

four : (bytes : List ℕ) → length bytes ≡ 4 → IsBytes bytes → little_bytes 4 (little_number 4 bytes) ≡ bytes
four bytes long small = le_bytes_4 bytes (little_number 4 bytes) long small (omega arith)

-- eight bytes are the count and the length that they tell
eight : (bytes : List ℕ) → length bytes ≡ 8 → IsBytes bytes → little_bytes 4 (little_number 4 bytes) ++ little_bytes 4 (little_number 4 (drop 4 bytes)) ≡ bytes
eight bytes long small =
    ap (λ (n : ℕ). little_bytes 4 n ++ little_bytes 4 (little_number 4 (drop 4 bytes))) (sym (little_from-take 0 4 4 bytes (omega arith)))
    ∙ ap (λ (l : List ℕ). l ++ little_bytes 4 (little_number 4 (drop 4 bytes))) (four (take 4 bytes) (omega (arith, length-take 4 bytes, long)) (IsBytes-take 4 bytes small))
    ∙ ap (λ (l : List ℕ). take 4 bytes ++ l) (four (drop 4 bytes) (omega (arith, length-drop 4 bytes, long)) (IsBytes-drop 4 bytes small))
    ∙ take-append-drop 4 bytes

pub has_form : (n : Node) → IsBytes n.data → (bytes_eq n.key (chunk_key (take 12 n.key) 0) && ((n.extent == 8) && (length n.data == 8))) ≡ is_same_node (told_head n) n
has_form n small = same_tests (bytes_eq n.key key && ((n.extent == 8) && (length n.data == 8))) (is_same_node (told_head n) n) to from
  where
    key : List ℕ
    key = chunk_key (take 12 n.key) 0

    told : List ℕ
    told = little_bytes 4 (little_number 4 n.data) ++ little_bytes 4 (size_in n)

    long : length told ≡ 8
    long = omega (arith, length-append (little_bytes 4 (little_number 4 n.data)) (little_bytes 4 (size_in n)), length-bytes_low_first 0 4 (little_number 4 n.data), length-bytes_low_first 0 4 (size_in n))

    to : (bytes_eq n.key key && ((n.extent == 8) && (length n.data == 8))) ≡ true → is_same_node (told_head n) n ≡ true
    to t =
        let rest = and_right (bytes_eq n.key key) ((n.extent == 8) && (length n.data == 8)) t in
        let size = eqb-true (length n.data) 8 (and_right (n.extent == 8) (length n.data == 8) rest) in
        and_from (bytes_eq key n.key) ((8 == n.extent) && bytes_eq told n.data) (bytes_turned key n.key ∙ and_left (bytes_eq n.key key) ((n.extent == 8) && (length n.data == 8)) t)
        (and_from (8 == n.extent) (bytes_eq told n.data) (eq-eqb 8 n.extent (sym (eqb-true n.extent 8 (and_left (n.extent == 8) (length n.data == 8) rest)))) (equal_bytes told n.data (eight n.data size small)))

    from : is_same_node (told_head n) n ≡ true → (bytes_eq n.key key && ((n.extent == 8) && (length n.data == 8))) ≡ true
    from t =
        let rest = and_right (bytes_eq key n.key) ((8 == n.extent) && bytes_eq told n.data) t in
        let same = same_bytes told n.data (and_right (8 == n.extent) (bytes_eq told n.data) rest) in
        and_from (bytes_eq n.key key) ((n.extent == 8) && (length n.data == 8)) (bytes_turned n.key key ∙ and_left (bytes_eq key n.key) ((8 == n.extent) && bytes_eq told n.data) t)
        (and_from (n.extent == 8) (length n.data == 8) (eq-eqb n.extent 8 (sym (eqb-true 8 n.extent (and_left (8 == n.extent) (bytes_eq told n.data) rest)))) (eq-eqb (length n.data) 8 (ap (λ (l : List ℕ). length l) (sym same) ∙ long)))

-- the number in front of a key
pub entry_is : (key : List ℕ) → big_number 8 key ≡ entry_in (take 12 key)
entry_is key = sym (big_from-take 0 8 12 key (omega arith)) ∙ sym (big_from-take 0 8 8 (take 12 key) (omega arith))

pub record HasForm (n : Node) : Type 0 where
  pub key : length n.key ≡ 16
  pub bytes : length n.data ≡ 8

pub form_of : (n : Node) → is_same_node (told_head n) n ≡ true → HasForm n
form_of n t =
    let told : List ℕ = little_bytes 4 (little_number 4 n.data) ++ little_bytes 4 (size_in n) in
    let key = same_bytes (chunk_key (take 12 n.key) 0) n.key (and_left (bytes_eq (chunk_key (take 12 n.key) 0) n.key) ((8 == n.extent) && bytes_eq told n.data) t) in
    let same = same_bytes told n.data (and_right (8 == n.extent) (bytes_eq told n.data) (and_right (bytes_eq (chunk_key (take 12 n.key) 0) n.key) ((8 == n.extent) && bytes_eq told n.data) t)) in
    record {
      key = omega (arith, ap (λ (l : List ℕ). length l) key, length-append (take 12 n.key) (big_bytes 4 0), length-take 12 n.key);
      bytes = omega (arith, ap (λ (l : List ℕ). length l) same, length-append (little_bytes 4 (little_number 4 n.data)) (little_bytes 4 (size_in n)), length-bytes_low_first 0 4 (little_number 4 n.data), length-bytes_low_first 0 4 (size_in n));
    }

-- the order of the tests is free
pub tests_are : (number : ℕ) (n : Node) → (is_same_node (told_head n) n && ((nat_le 1 (entry_in (id_of n)) && nat_le (entry_in (id_of n)) number) && has_long_length n)) ≡ is_sound_head number n
tests_are number n = turned (is_same_node (told_head n) n) (nat_le 1 (entry_in (id_of n)) && nat_le (entry_in (id_of n)) number) (has_long_length n)
  where
    turned : (a b c : Bool) → (a && (b && c)) ≡ (b && (c && a))
    turned true true true = refl
    turned true true false = refl
    turned true false c = refl
    turned false true true = refl
    turned false true false = refl
    turned false false c = refl

-- a node without the form is no head, nor is one of an entry that was not made
pub unformed : (number : ℕ) (n : Node) → is_same_node (told_head n) n ≡ false → false ≡ is_sound_head number n
unformed number n f = sym (ap (λ (b : Bool). b && ((nat_le 1 (entry_in (id_of n)) && nat_le (entry_in (id_of n)) number) && has_long_length n)) f) ∙ tests_are number n

pub unmade : (number : ℕ) (n : Node) → is_same_node (told_head n) n ≡ true → (nat_le 1 (big_number 8 n.key) && nat_le (big_number 8 n.key) number) ≡ false → false ≡ is_sound_head number n
unmade number n form f =
    let entry : (nat_le 1 (entry_in (id_of n)) && nat_le (entry_in (id_of n)) number) ≡ false = ap (λ (e : ℕ). nat_le 1 e && nat_le e number) (sym (entry_is n.key)) ∙ f in
    sym (ap (λ (b : Bool). b && ((nat_le 1 (entry_in (id_of n)) && nat_le (entry_in (id_of n)) number) && has_long_length n)) form ∙ ap (λ (b : Bool). b && has_long_length n) entry) ∙ tests_are number n

pub made : (number : ℕ) (n : Node) (size : ℕ) → is_same_node (told_head n) n ≡ true → (nat_le 1 (big_number 8 n.key) && nat_le (big_number 8 n.key) number) ≡ true → size ≡ size_in n → (nat_le 256 size && nat_le size 1048576) ≡ is_sound_head number n
made number n size form t is =
    let entry : (nat_le 1 (entry_in (id_of n)) && nat_le (entry_in (id_of n)) number) ≡ true = ap (λ (e : ℕ). nat_le 1 e && nat_le e number) (sym (entry_is n.key)) ∙ t in
    ap (λ (m : ℕ). nat_le 256 m && nat_le m 1048576) is
    ∙ sym (ap (λ (b : Bool). b && ((nat_le 1 (entry_in (id_of n)) && nat_le (entry_in (id_of n)) number) && has_long_length n)) form ∙ ap (λ (b : Bool). b && has_long_length n) entry)
    ∙ tests_are number n

-- the length in a part of the bytes
pub length_in : (bytes : List ℕ) → length bytes ≡ 8 → little_number 4 (take (length bytes - 4) (drop 4 bytes)) ≡ little_number 4 (drop 4 bytes)
length_in bytes long = little_from-take 0 4 (length bytes - 4) (drop 4 bytes) (omega (arith, long))

pub size_within : (number : ℕ) (n : Node) → is_sound_head number n ≡ true → size_in n ≤ 1048576
size_within number n t =
    leb-true (size_in n) 1048576 (and_right (nat_le 256 (size_in n)) (nat_le (size_in n) 1048576) (and_left (has_long_length n) (is_same_node (told_head n) n) (and_right (nat_le 1 (entry_in (id_of n)) && nat_le (entry_in (id_of n)) number) (has_long_length n && is_same_node (told_head n) n) t)))

-- ---- numbers of chunks

pub one_more : (k : ℕ) → k + 1 ≡ suc k
one_more k = omega arith

pub above_chunk : (left : ℕ) → 1024 < left → nat_le left 1024 ≡ false
above_chunk left lt = grind (arith, nat_tests, lt)
