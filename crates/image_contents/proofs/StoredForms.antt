-- The entry of a node of an index, by its form.
use Rattle.std.proofs.Common.{◌≡◌, ℕ, ◌<◌, ◌≤◌, Bool, true, false, ◌&&◌, List, [], ◌++◌, length, take, drop, refl, sym, ap, ◌∙◌, arith, true≢false}
use Rattle.std.specs.Prelude.{◌==◌, bytes_eq, if◌then◌else◌}
use Rattle.std.proofs.lemmas.Bool.{and_from, eq-eqb, eqb-true}
use Rattle.std.proofs.lemmas.List.{drop_all, length-take-le, take-append-drop, take_all}
use Rattle.std.proofs.lemmas.Nat.{le_bytes_2}
use Rattle.byteorder.specs.Endian.{little_bytes, little_number}
use Rattle.byteorder.specs.Numbers.{length-bytes_low_first}
use Rattle.column_set.specs.NumberReading.{IsBytes}
use Rattle.common_lemmas.proofs.Booleans.{and_left, and_right, by_test}
use Rattle.common_lemmas.proofs.Numbers.{equal_bytes, same_bytes}
use Rattle.cursor_nav.specs.Places.{Pair}
use Rattle.image_findings.specs.CatalogFindings.{is_same_node}
use Rattle.image_findings.specs.EntryFindings.{stored_entry}
use Rattle.index_tree.specs.Entries.{entry_of_node, node_of_entry}
use Rattle.page_image.specs.Page.{Node}

abbrev is_formed : Node → Bool
is_formed n = is_same_node (node_of_entry (entry_of_node n)) n

abbrev stored_by : Node → Bool → Pair
stored_by n b = if b then entry_of_node n else (n.key, [])

two : (bytes : List ℕ) (size : ℕ) → length bytes ≡ 2 → IsBytes bytes → size ≡ little_number 2 bytes → little_bytes 2 size ≡ bytes
two bytes size long small is = le_bytes_2 bytes size long small (is ∙ omega arith)

-- two bytes that tell how long the front is
pub formed : (n : Node) (size : ℕ) → n.extent ≡ 2 → length n.data ≡ 2 → IsBytes n.data → size ≡ little_number 2 n.data → size ≤ length n.key → stored_entry n ≡ (take size n.key, drop size n.key)
formed n size extent long small is within =
    ap (stored_by n) same ∙ ap (λ (k : ℕ). (take k n.key, drop k n.key)) (sym is)
  where
    told : ℕ
    told = little_number 2 n.data

    front : length (take told n.key) ≡ size
    front = ap (λ (k : ℕ). length (take k n.key)) (sym is) ∙ length-take-le size n.key within

    same : is_formed n ≡ true
    same =
        and_from (bytes_eq (take told n.key ++ drop told n.key) n.key) ((2 == n.extent) && bytes_eq (little_bytes 2 (length (take told n.key))) n.data)
        (equal_bytes (take told n.key ++ drop told n.key) n.key (take-append-drop told n.key))
        (and_from (2 == n.extent) (bytes_eq (little_bytes 2 (length (take told n.key))) n.data)
        (eq-eqb 2 n.extent (sym extent))
        (equal_bytes (little_bytes 2 (length (take told n.key))) n.data (ap (little_bytes 2) front ∙ two n.data size long small is)))

-- they tell of more bytes than the key has
pub longer : (n : Node) (size : ℕ) → size ≡ little_number 2 n.data → length n.key ≤ size → stored_entry n ≡ (n.key, [])
longer n size is beyond =
    by_test (is_formed n)
    (λ t. ap (stored_by n) t ∙ ap (λ (k : ℕ). (take k n.key, drop k n.key)) (sym is) ∙ (λ i. (take_all size n.key beyond i, drop_all size n.key beyond i)))
    (λ f. ap (stored_by n) f)

-- another extent, or not two bytes
pub other_form : (n : Node) → ((n.extent == 2) && (length n.data == 2)) ≡ false → stored_entry n ≡ (n.key, [])
other_form n other =
    by_test (is_formed n)
    (λ t. absurd (true≢false (sym (sized t) ∙ other)))
    (λ f. ap (stored_by n) f)
  where
    front : List ℕ
    front = take (little_number 2 n.data) n.key

    sized : is_formed n ≡ true → ((n.extent == 2) && (length n.data == 2)) ≡ true
    sized t =
        let rest = and_right (bytes_eq (front ++ drop (little_number 2 n.data) n.key) n.key) ((2 == n.extent) && bytes_eq (little_bytes 2 (length front)) n.data) t in
        let same = same_bytes (little_bytes 2 (length front)) n.data (and_right (2 == n.extent) (bytes_eq (little_bytes 2 (length front)) n.data) rest) in
        and_from (n.extent == 2) (length n.data == 2)
        (eq-eqb n.extent 2 (sym (eqb-true 2 n.extent (and_left (2 == n.extent) (bytes_eq (little_bytes 2 (length front)) n.data) rest))))
        (eq-eqb (length n.data) 2 (ap (λ (l : List ℕ). length l) (sym same) ∙ length-bytes_low_first 0 2 (length front)))
