-- Keys that are not cut compare column by column, and none begins another.
use Rattle.std.proofs.Common.{◌≡◌, ℕ, Bool, true, false, List, [], ◌∷◌, ◌++◌, length, map, Option, Some, None, refl, sym, ap, ◌∙◌, true≢false}
use Rattle.std.proofs.lemmas.Bool.{and_parts, ltb-false}
use Rattle.std.proofs.lemmas.List.{take_all, append-nil}
use Rattle.std.specs.declared.cmp.Ordering.{Ordering}
use Rattle.std.specs.declared.cmp.Ordering.TheVariants.{Less, Equal, Greater}
use Rattle.std.specs.Ordering.{nat_cmp, ordering_then, ordering_reverse, partial_ordering_then}
use Rattle.std.specs.Option.{option_map}
use Rattle.std.specs.Cmp.Lexicographic.{slice_cmp}
use Rattle.jet_base.specs.declared.words.ColType.{ColType}
use Rattle.key_normal.specs.KeyBytes.{KeyColumn, ascending_bytes, in_direction, segment_bytes, key_bytes, cut_key, is_cut}
use Rattle.key_normal.specs.KeyOrder.{ascending_order, segment_order, key_order, is_value, are_values}
use Rattle.key_normal.proofs.Comparing.Aligned.{AreBytes, aligned, aligned-append, aligned-longer, aligned-turned, slice_cmp-aligned}
use Rattle.key_normal.proofs.Comparing.Segments.{value-bytes, aligned-values, bytes-ascending, bytes-null}

-- a value of the type, or NULL
abbrev IsValueOrNull : ColType → Option (List ℕ) → Type 0
IsValueOrNull kind None = Unit {0}
IsValueOrNull kind (Some value) = is_value kind value ≡ true

ascending : (kind : ColType) (nulls_high : Bool) (x y : Option (List ℕ)) → IsValueOrNull kind x → IsValueOrNull kind y
    → aligned (ascending_bytes kind x nulls_high) (ascending_bytes kind y nulls_high) ≡ Some (ascending_order kind nulls_high x y)
ascending kind true None None p q = refl
ascending kind false None None p q = refl
ascending kind true None (Some []) p q = refl
ascending kind true None (Some (y ∷ ys)) p q = refl
ascending kind false None (Some []) p q = refl
ascending kind false None (Some (y ∷ ys)) p q = refl
ascending kind true (Some []) None p q = refl
ascending kind true (Some (x ∷ xs)) None p q = refl
ascending kind false (Some []) None p q = refl
ascending kind false (Some (x ∷ xs)) None p q = refl
ascending kind h (Some xs) (Some ys) p q = aligned-values kind h xs ys p q

bytes : (kind : ColType) (nulls_high : Bool) (x : Option (List ℕ)) → IsValueOrNull kind x → AreBytes (ascending_bytes kind x nulls_high)
bytes kind h None p = bytes-null kind h
bytes kind h (Some xs) p = bytes-ascending kind h xs (value-bytes kind xs p)

as-they-are : (xs : List ℕ) → map (in_direction false) xs ≡ xs
as-they-are [] = refl
as-they-are (x ∷ xs) = ap (λ r. x ∷ r) (as-they-are xs)

segment : (kind : ColType) (descending nulls_high : Bool) (x y : Option (List ℕ)) → IsValueOrNull kind x → IsValueOrNull kind y
    → aligned (segment_bytes kind x descending nulls_high) (segment_bytes kind y descending nulls_high) ≡ Some (segment_order (record { kind = kind; descending = descending }) nulls_high x y)
segment kind false h x y p q = (λ i. aligned (as-they-are (ascending_bytes kind x h) i) (as-they-are (ascending_bytes kind y h) i)) ∙ ascending kind h x y p q
segment kind true h x y p q =
    aligned-turned (ascending_bytes kind x h) (ascending_bytes kind y h) (bytes kind h x p) (bytes kind h y q) ∙ ap (option_map ordering_reverse) (ascending kind h x y p q)

first-of : (column : KeyColumn) (columns : List KeyColumn) (x : Option (List ℕ)) (xs : List (Option (List ℕ))) → are_values (column ∷ columns) (x ∷ xs) ≡ true → IsValueOrNull column.kind x × (are_values columns xs ≡ true)
first-of column columns None xs e = (tt, e)
first-of column columns (Some x) xs e = and_parts (is_value column.kind x) (are_values columns xs) e

joined : (o p : Ordering) → partial_ordering_then (Some o) (Some p) ≡ Some (ordering_then o p)
joined Less p = refl
joined Equal p = refl
joined Greater p = refl

pub aligned-keys : (columns : List KeyColumn) (nulls_high : Bool) (xs ys : List (Option (List ℕ))) → are_values columns xs ≡ true → are_values columns ys ≡ true
    → aligned (key_bytes columns nulls_high xs) (key_bytes columns nulls_high ys) ≡ Some (key_order columns nulls_high xs ys)
aligned-keys [] h xs ys p q = refl
aligned-keys (column ∷ columns) h [] ys p q = absurd (true≢false (sym p))
aligned-keys (column ∷ columns) h (x ∷ xs) [] p q = absurd (true≢false (sym q))
aligned-keys (column ∷ columns) h (x ∷ xs) (y ∷ ys) p q =
    let a = first-of column columns x xs p in
    let b = first-of column columns y ys q in
    let o = segment_order column h x y in
    aligned-append (segment_bytes column.kind x column.descending h) (segment_bytes column.kind y column.descending h) (key_bytes columns h xs) (key_bytes columns h ys) o
    (segment column.kind column.descending h x y a.0 b.0)
    ∙ ap (partial_ordering_then (Some o)) (aligned-keys columns h xs ys a.1 b.1)
    ∙ joined o (key_order columns h xs ys)

-- ---- keys that are not cut

pub whole : (most : ℕ) (key : List ℕ) → is_cut most key ≡ false → cut_key most key ≡ key
whole most key e = take_all most key (ltb-false most (length key) e)

own-end : (o : Ordering) → ordering_then o Equal ≡ o
own-end Less = refl
own-end Equal = refl
own-end Greater = refl

pub slice_cmp-of-aligned : (xs ys : List ℕ) (o : Ordering) → aligned xs ys ≡ Some o → slice_cmp nat_cmp xs ys ≡ o
slice_cmp-of-aligned xs ys o e = (λ i. slice_cmp nat_cmp (sym (append-nil xs) i) (sym (append-nil ys) i)) ∙ slice_cmp-aligned xs ys [] [] o e ∙ own-end o

pub ends-there : (xs ys rest : List ℕ) (o : Ordering) → aligned xs ys ≡ Some o → ys ≡ xs ++ rest → rest ≡ []
ends-there xs ys [] o e same = refl
ends-there xs ys (y ∷ rest) o e same =
    let open_end : aligned xs ys ≡ None = ap (aligned xs) same ∙ aligned-longer xs rest y in
    absurd cc
