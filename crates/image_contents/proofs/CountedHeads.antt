-- The heads among nodes by rising key are, in order, those of the values that the nodes show.
use Rattle.std.proofs.Common.{◌≡◌, ℕ, Bool, true, false, ◌||◌, cond, List, [], ◌∷◌, ◌++◌, drop, Option, Some, None, inl, inr, refl, sym, ap, subst, ◌∙◌}
use Rattle.std.specs.Prelude.{◌⊎◌, ◌==◌, find, not, option_map}
use Rattle.std.specs.List.{AllByRecursion}
use Rattle.std.proofs.lemmas.List.{take-append-drop}
use Rattle.btree_inplace.specs.Trees.{nodes_of}
use Rattle.byteorder.specs.Endian.{big_bytes}
use Rattle.common_lemmas.proofs.Orders.{less-irreflexive}
use Rattle.image_contents.proofs.FoundFaults.{count_is}
use Rattle.image_contents.proofs.Keys.{begins}
use Rattle.image_contents.proofs.Told.{IsShownBehind, put_behind, put_first}
use Rattle.image_contents.proofs.Walks.{Rise, rising}
use Rattle.image_contents.specs.ReferringRows.{counted, referring_rows}
use Rattle.image_contents.specs.ValueCounts.{count_in, counted_finding, finding_with_id, first_finding, first_of, head_count}
use Rattle.image_contents.specs.declared.values.counts.ReferenceCounts.{ReferenceCounts}
use Rattle.image_findings.specs.CountFindings.{count_finding}
use Rattle.image_findings.specs.Images.{Finding}
use Rattle.image_findings.specs.Images.Finding.{Long}
use Rattle.image_findings.specs.TableContents.{TableContents, wanted_count}
use Rattle.image_findings.specs.ValueFindings.{entry_in, place_in}
use Rattle.image_opening.specs.OpenedTrees.{HasContents}
use Rattle.image_opening.specs.declared.opened.OpenedTable.{OpenedTable}
use Rattle.long_value.specs.ChangedValues.{same_key}
use Rattle.long_value.specs.Shown.{id_of, is_head, value_at, values_of_heads}
use Rattle.long_value.specs.Values.{LongValue, Values, put_value}
use Rattle.page_image.specs.Page.{HasRisingKeys, IsBelow, Node}
use Rattle.page_space.specs.Frames.{Frames}
use Rattle.version_store.specs.HeldChanges.{HeldChange}

-- ---- heads rise with their identifiers

-- the key of a head is its identifier and the number of the first chunk
pub key_is : (n : Node) → is_head n ≡ true → n.key ≡ id_of n ++ big_bytes 4 0
key_is n t = sym (take-append-drop 12 n.key) ∙ ap (λ (l : List ℕ). id_of n ++ l) (same_key (drop 12 n.key) (big_bytes 4 0) t)

id_rises : (n m : Node) → is_head n ≡ true → is_head m ≡ true → IsBelow n.key m.key → IsBelow (id_of n) (id_of m)
id_rises n m own other low = by (begins 12 n.key m.key low)
  where
    by : (id_of n ≡ id_of m) ⊎ IsBelow (id_of n) (id_of m) → IsBelow (id_of n) (id_of m)
    by (inl same) =
        let keys : n.key ≡ m.key = key_is n own ∙ ap (λ (l : List ℕ). l ++ big_bytes 4 0) same ∙ sym (key_is m other) in
        absurd (less-irreflexive m.key (subst (λ (k : List ℕ). IsBelow k m.key) keys low))
    by (inr lower) = lower

heads_behind : (n : Node) (nodes rest : List Node) → is_head n ≡ true → AllByRecursion (λ (m : Node). IsBelow n.key m.key) rest → AllByRecursion (IsShownBehind (id_of n)) (values_of_heads nodes rest)
heads_behind n nodes [] own above = tt
heads_behind n nodes (m ∷ rest) own above = by (is_head m) refl (heads_behind n nodes rest own above.1)
  where
    by : (b : Bool) → is_head m ≡ b → AllByRecursion (IsShownBehind (id_of n)) (values_of_heads nodes rest) → AllByRecursion (IsShownBehind (id_of n)) (cond b (put_value (id_of m) (value_at nodes m) (values_of_heads nodes rest)) (values_of_heads nodes rest))
    by true t all = put_behind (id_of n) (id_of m) (value_at nodes m) (values_of_heads nodes rest) (id_rises n m own t above.0) all
    by false f all = all

-- ---- the finding of the first

abbrev is_counted_otherwise : (List ℕ → ℕ) → List ℕ × LongValue → Bool
is_counted_otherwise wanted value = (value.1.count == 0) || not (value.1.count == wanted value.0)

abbrev finding_of_value : (List ℕ → ℕ) → List ℕ × LongValue → Finding
finding_of_value wanted value = Long (entry_in value.0) (place_in value.0) value.1.count (wanted value.0)

abbrev found_in : (List ℕ → ℕ) → Values → Option Finding
found_in wanted values = option_map (finding_of_value wanted) (find (is_counted_otherwise wanted) values)

one_found : (wanted : List ℕ → ℕ) (value : List ℕ × LongValue) (values : Values) → found_in wanted (value ∷ values) ≡ first_of (counted_finding value.1.count (wanted value.0) value.0) (found_in wanted values)
one_found wanted value values = by ((value.1.count == 0) || not (value.1.count == wanted value.0))
  where
    by : (b : Bool) → option_map (finding_of_value wanted) (cond b (Some value) (find (is_counted_otherwise wanted) values)) ≡ first_of (cond b (Some (finding_of_value wanted value)) None) (found_in wanted values)
    by true = refl
    by false = refl

first_shown : (wanted : List ℕ → ℕ) (nodes rest : List Node) → Rise rest → first_finding wanted rest ≡ found_in wanted (values_of_heads nodes rest)
first_shown wanted nodes [] rise = refl
first_shown wanted nodes (n ∷ rest) rise = by (is_head n) refl (first_shown wanted nodes rest rise.1)
  where
    by : (b : Bool) → is_head n ≡ b → first_finding wanted rest ≡ found_in wanted (values_of_heads nodes rest)
        → first_of (finding_with_id wanted (head_count n) (cond b (Some (id_of n)) None)) (first_finding wanted rest)
        ≡ found_in wanted (cond b (put_value (id_of n) (value_at nodes n) (values_of_heads nodes rest)) (values_of_heads nodes rest))
    by true t more =
        ap (first_of (counted_finding (head_count n) (wanted (id_of n)) (id_of n))) more
        ∙ sym (one_found wanted (id_of n, value_at nodes n) (values_of_heads nodes rest))
        ∙ sym (ap (found_in wanted) (put_first (id_of n) (value_at nodes n) (values_of_heads nodes rest) (heads_behind n nodes rest t rise.0)))
    by false f more = more

first_is : (held : List HeldChange) (t : TableContents) → Rise t.value_nodes → first_finding (wanted_count held t) t.value_nodes ≡ count_finding held t
first_is held t rise = first_shown (wanted_count held t) t.value_nodes t.value_nodes rise

-- the first among the nodes of a table is its finding
pub table_is : (frames : Frames) (table : OpenedTable) (t : TableContents) (held : List HeldChange) (counts : ReferenceCounts) → HasContents frames table t → HasRisingKeys (nodes_of frames table.long_values)
    → ((id : List ℕ) → count_in counts id ≡ counted id (referring_rows table.table.0 (nodes_of frames table.nodes) held)) → first_finding (count_in counts) (nodes_of frames table.long_values) ≡ count_finding held t
table_is frames table t held counts has rise is =
    let each : (id : List ℕ) → count_in counts id ≡ wanted_count held t id = λ id. count_is frames table t held id (count_in counts id) has (is id) in
    (λ i. first_finding (λ id. each id i) (has.values_are i))
    ∙ first_is held t (rising t.value_nodes (subst (λ (l : List Node). HasRisingKeys l) has.values_are rise))
