-- Where moves lead among nodes.
use Rattle.std.proofs.Common.{◌≡◌, ℕ, zero, suc, ◌<◌, ◌≤◌, Bool, true, false, cond, ltb, Option, Some, None, List, [], ◌∷◌, length, take, refl, sym, ap, subst, ◌∙◌, arith}
use Rattle.std.specs.Prelude.{slice_get}
use Rattle.std.specs.Int.{w64, to_be_bytes}
use Rattle.std.specs.List.{AllByRecursion}
use Rattle.std.specs.Option.{option_map}
use Rattle.std.proofs.lemmas.Bool.{ltb-false, ltb-true}
use Rattle.std.proofs.lemmas.List.{length-append}
use Rattle.std.proofs.lemmas.Option.{slice_get_past, slice_get-get_or}
use Rattle.common_lemmas.proofs.Booleans.{by_test}
use Rattle.jet_base.specs.declared.words.Way.{Way}
use Rattle.jet_base.specs.declared.words.Way.TheVariants.{First, Last, Next, Previous}
use Rattle.page_image.specs.Page.{Node, no_node, node_at}
use Rattle.btree_inplace.specs.Order.{first_in, key_and_data, last_in}
use Rattle.temp_table.specs.declared.columns.TempColumn.{TempColumn}
use Rattle.temp_table.specs.declared.place.TempPlace.{TempPlace}
use Rattle.temp_table.specs.declared.place.TempPlace.TheVariants.{Before, After, On}
use Rattle.temp_table.specs.TempColumns.{RowValues}
use Rattle.temp_table.specs.TempRows.{TempRows, key_segments, moved, moved_place, on_last_or, on_or, row_key}
use Rattle.temp_table.specs.Held.{IsPlaceOf, IsRowNode, IsWithin, node_key, node_towards, rows_of}
use Rattle.temp_table.proofs.Nodes.{Rises, at_place, before_or, behind, in_front, the_last}

-- a place on the node that was found, or else one that asks for no key
abbrev pub IsTowards : List Node → List ℕ → Option (List ℕ × List ℕ) → TempPlace → Type 0
IsTowards nodes key None place = IsPlaceOf nodes key place
IsTowards nodes key (Some found) place = IsPlaceOf nodes found.0 place × (length found.0 ≤ 263)

pub within : (nodes : List Node) (key : List ℕ) (count : ℕ) (place : TempPlace) → count ≡ length nodes → IsPlaceOf nodes key place → IsWithin count place
within nodes key count Before e is = tt
within nodes key count After e is = tt
within nodes key count (On at) e is = omega (arith, e, is.0)

short_take : (n : ℕ) (xs : List ℕ) → length (take n xs) ≤ n
short_take zero xs = omega arith
short_take (suc n) [] = omega arith
short_take (suc n) (x ∷ xs) = omega (arith, short_take n xs)

eight : (n : ℕ) → length (to_be_bytes w64 n) ≡ 8
eight n = refl

pub short_key : (columns : List TempColumn) (unique : Bool) (arrival : ℕ) (row : RowValues) → length (node_key unique (row_key columns row) arrival) ≤ 263
short_key columns true arrival row = omega (arith, short_take 255 (key_segments columns row))
short_key columns false arrival row = omega (arith, short_take 255 (key_segments columns row), length-append (row_key columns row) (to_be_bytes w64 arrival), eight arrival)

pub short_node : (columns : List TempColumn) (unique : Bool) (count : ℕ) (n : Node) → IsRowNode columns unique count n → length n.key ≤ 263
short_node columns unique count n it = subst (λ (k : List ℕ). length k ≤ 263) (sym (ap (λ (m : Node). m.key) it.is)) (short_key columns unique it.arrival it.row)

-- ---- by the number of rows before

towards_at : (nodes : List Node) (key : List ℕ) (at : ℕ) (otherwise : TempPlace) → ((k : ℕ) → k < length nodes → length (node_at nodes k).key ≤ 263) → IsPlaceOf nodes key otherwise
    → IsTowards nodes key (option_map key_and_data (slice_get nodes at)) (on_or (length nodes) at otherwise)
towards_at nodes key at otherwise short is =
    let P : Option Node → Bool → Type 0 = λ o b. IsTowards nodes key (option_map key_and_data o) (cond b (On at) otherwise) in
    by_test (ltb at (length nodes))
    (λ t. let lt : at < length nodes = ltb-true at (length nodes) t in
    subst (P (slice_get nodes at)) (sym t) (subst (λ o. P o true) (sym (slice_get-get_or nodes at no_node lt)) ((lt, refl), short at lt)))
    (λ t. let le : length nodes ≤ at = ltb-false at (length nodes) t in
    subst (P (slice_get nodes at)) (sym t) (subst (λ o. P o false) (sym (slice_get_past nodes at le)) is))

towards_before : (nodes : List Node) (key : List ℕ) (at : ℕ) (otherwise : TempPlace) → at ≤ length nodes → ((k : ℕ) → k < length nodes → length (node_at nodes k).key ≤ 263) → IsPlaceOf nodes key otherwise
    → IsTowards nodes key (option_map key_and_data (before_or None nodes at)) (on_last_or at otherwise)
unfolding before_or
towards_before nodes key zero otherwise le short is = is
towards_before nodes key (suc at) otherwise le short is = ((omega (arith, le), refl), short at (omega (arith, le)))

first_node : (nodes : List Node) → first_in nodes ≡ option_map key_and_data (slice_get nodes 0)
first_node [] = refl
first_node (n ∷ nodes) = refl

-- ---- by the way

-- nodes in rising order with short keys
pub record Row (nodes : List Node) : Type 0 where
  pub rising : Rises nodes
  pub short : (k : ℕ) → k < length nodes → length (node_at nodes k).key ≤ 263

nothing : (nodes : List Node) (key : List ℕ) (place : TempPlace) → IsPlaceOf nodes key place → IsTowards nodes key None place
nothing nodes key place is = is

end : (nodes : List Node) (key : List ℕ) (otherwise : TempPlace) → Row nodes → IsPlaceOf nodes key otherwise → IsTowards nodes key (last_in nodes) (on_last_or (length nodes) otherwise)
end nodes key otherwise row is =
    subst (λ (o : Option Node). IsTowards nodes key (option_map key_and_data o) (on_last_or (length nodes) otherwise)) (sym (the_last nodes))
    (towards_before nodes key (length nodes) otherwise (omega arith) row.short is)

start : (nodes : List Node) (key : List ℕ) (otherwise : TempPlace) → Row nodes → IsPlaceOf nodes key otherwise → IsTowards nodes key (first_in nodes) (on_or (length nodes) 0 otherwise)
start nodes key otherwise row is =
    subst (λ (o : Option (List ℕ × List ℕ)). IsTowards nodes key o (on_or (length nodes) 0 otherwise)) (sym (first_node nodes)) (towards_at nodes key 0 otherwise row.short is)

towards_way : (nodes : List Node) (key : List ℕ) (place : TempPlace) (way : Way) → Row nodes → IsPlaceOf nodes key place → IsTowards nodes key (node_towards nodes key place way) (moved_place (length nodes) place way)
towards_way nodes key place First row is = start nodes key Before row tt
towards_way nodes key place Last row is = end nodes key After row tt
towards_way nodes key Before Next row is = start nodes key After row tt
towards_way nodes key After Next row is = nothing nodes key After tt
towards_way nodes key (On at) Next row is =
    subst (λ (o : Option Node). IsTowards nodes key (option_map key_and_data o) (on_or (length nodes) (suc at) After)) (sym (behind nodes at key row.rising is.0 is.1))
    (towards_at nodes key (suc at) After row.short tt)
towards_way nodes key Before Previous row is = nothing nodes key Before tt
towards_way nodes key After Previous row is = end nodes key Before row tt
towards_way nodes key (On at) Previous row is =
    subst (λ (o : Option Node). IsTowards nodes key (option_map key_and_data o) (on_last_or at Before)) (sym (in_front nodes at key row.rising is.0 is.1))
    (towards_before nodes key at Before (omega (arith, is.0)) row.short tt)

pub towards : (nodes : List Node) (key : List ℕ) (count : ℕ) (place : TempPlace) (way : Way) (found : Option (List ℕ × List ℕ)) → count ≡ length nodes → Row nodes → IsPlaceOf nodes key place
    → found ≡ node_towards nodes key place way → IsTowards nodes key found (moved_place count place way)
towards nodes key count place way found count_is row is e =
    subst (λ n. IsTowards nodes key found (moved_place n place way)) (sym count_is)
    (subst (λ (o : Option (List ℕ × List ℕ)). IsTowards nodes key o (moved_place (length nodes) place way)) (sym e) (towards_way nodes key place way row is))

pub row_nodes : (columns : List TempColumn) (unique : Bool) (count : ℕ) (nodes : List Node) → Rises nodes → AllByRecursion (IsRowNode columns unique count) nodes → Row nodes
row_nodes columns unique count nodes rising all = record {
  rising = rising;
  short = λ k lt. short_node columns unique count (node_at nodes k) (at_place (IsRowNode columns unique count) nodes k all lt);
}

-- ---- the place and the key after a move

pub on_found : (nodes : List Node) (key shown : List ℕ) (count : ℕ) (place to : TempPlace) (way : Way) (k r : List ℕ) → count ≡ length nodes → Row nodes → IsPlaceOf nodes key place → shown ≡ key → to ≡ moved_place count place way
    → Some (k, r) ≡ node_towards nodes shown place way → IsPlaceOf nodes k to × (length k ≤ 263)
on_found nodes key shown count place to way k r count_is row is same m e =
    subst (IsTowards nodes key (Some (k, r))) (sym m)
    (towards nodes key count place way (Some (k, r)) count_is row is (e ∙ ap (λ q. node_towards nodes q place way) same))

pub off_rows : (nodes : List Node) (key shown : List ℕ) (count : ℕ) (place to : TempPlace) (way : Way) → count ≡ length nodes → Row nodes → IsPlaceOf nodes key place → shown ≡ key → to ≡ moved_place count place way
    → None ≡ node_towards nodes shown place way → IsPlaceOf nodes key to
off_rows nodes key shown count place to way count_is row is same m e =
    subst (IsTowards nodes key None) (sym m)
    (towards nodes key count place way None count_is row is (e ∙ ap (λ q. node_towards nodes q place way) same))

pub as_moved : (table : TempRows) (count : ℕ) (to : TempPlace) (way : Way) → count ≡ length table.rows → to ≡ moved_place count table.place way → record table { place = to } ≡ moved table way
as_moved table count to way e m = ap (λ p. record table { place = p }) (m ∙ ap (λ n. moved_place n table.place way) e)

pub length-rows : (columns : ℕ) (nodes : List Node) → length (rows_of columns nodes) ≡ length nodes
length-rows columns [] = refl
length-rows columns (n ∷ nodes) = ap suc (length-rows columns nodes)
