-- Sums over rows by bookmark, and how often an identifier is named.
use Rattle.std.proofs.Common.{◌≡◌, ℕ, suc, ◌+◌, ◌<◌, ◌≤◌, Bool, true, false, T, if◌then◌else◌, Option, Some, None, List, [], ◌∷◌, refl, sym, ap, subst, ◌∙◌, arith, true≢false}
use Rattle.std.specs.Prelude.{sum_by, bytes_eq}
use Rattle.std.specs.List.{list_any}
use Rattle.std.specs.Ordering.{is_eq, is_lt, nat_cmp}
use Rattle.std.specs.Cmp.Lexicographic.{nat_list_cmp_total, slice_cmp, texts_ties}
use Rattle.std.specs.FinMap.Entries.{below_all, by_order, is_sorted, is_sorted-put}
use Rattle.std.specs.declared.cmp.Ordering.{Ordering}
use Rattle.std.specs.declared.cmp.Ordering.TheVariants.{Less, Equal, Greater}
use Rattle.std.proofs.lemmas.Cmp.{tied_itself}
use Rattle.std.proofs.lemmas.List.Sums.{sum_by-cons}
use Rattle.std.proofs.lemmas.Slice.Eq.{bytes_eq-Decides}
use Rattle.common_lemmas.proofs.Booleans.{T_first, T_second, by_test}
use Rattle.common_lemmas.proofs.Numbers.{same_bytes}
use Rattle.column_set.specs.declared.rows.RowValue.{RowValue}
use Rattle.column_set.specs.declared.rows.RowValue.TheVariants.{Here, Apart}
use Rattle.column_set.specs.RecordValues.{lookup_by_key, put_by_key, remove_by_key}
use Rattle.column_set.specs.Rows.{RowFields, values_in_order}
use Rattle.long_rows.specs.RowReferences.{identifier, named_by, references, times_among, with_identifier}
use Rattle.long_rows.specs.ReferenceCounts.{AreRows, NewestRows, with_row}

pub holds : (b : Bool) → b ≡ true → T b
holds b e = subst T (sym e) tt

-- ---- equal byte strings

pub itself : (a : List ℕ) → bytes_eq a a ≡ true
itself a = (bytes_eq-Decides a a).1 refl

tied : (a b : List ℕ) → bytes_eq a b ≡ true → is_eq (slice_cmp nat_cmp b a) ≡ true
tied a b t = let same : a ≡ b = same_bytes a b t in ap (λ (x : List ℕ). is_eq (slice_cmp nat_cmp b x)) same ∙ ap is_eq (tied_itself nat_list_cmp_total b)

untied : (a b : List ℕ) → bytes_eq a b ≡ false → is_eq (slice_cmp nat_cmp b a) ≡ false
untied a b f =
    by_test (is_eq (slice_cmp nat_cmp b a))
    (λ t.
    let same : b ≡ a = same_bytes b a (texts_ties b a ∙ t) in
    absurd (true≢false (sym (itself a) ∙ ap (bytes_eq a) (sym same) ∙ f)))
    (λ t. t)

-- ---- the total of rows

abbrev pub row_references : List ℕ → List ℕ × RowFields → ℕ
row_references id row = references id (Some row.1)

abbrev pub total : List ℕ → NewestRows → ℕ
total id rows = sum_by (row_references id) rows

total-cons : (id : List ℕ) (row : List ℕ × RowFields) (rows : NewestRows) → total id (row ∷ rows) ≡ references id (Some row.1) + total id rows
total-cons id row rows = sum_by-cons (row_references id) row rows

pub found_first : (key : List ℕ) (row : List ℕ × RowFields) (rows : NewestRows) → is_eq (slice_cmp nat_cmp key row.0) ≡ true → lookup_by_key key (row ∷ rows) ≡ Some row.1
found_first key row rows t = rw t refl

found_later : (key : List ℕ) (row : List ℕ × RowFields) (rows : NewestRows) → is_eq (slice_cmp nat_cmp key row.0) ≡ false → lookup_by_key key (row ∷ rows) ≡ lookup_by_key key rows
found_later key row rows t = rw t refl

lower_apart : (r : Ordering) → T (is_lt r) → is_eq r ≡ false
lower_apart Less t = refl
lower_apart Equal t = absurd t
lower_apart Greater t = absurd t

none_below : (key : List ℕ) (rows : NewestRows) → T (below_all (slice_cmp nat_cmp) key rows) → lookup_by_key key rows ≡ None
none_below key [] below = refl
none_below key (row ∷ rows) below =
    found_later key row rows (lower_apart (slice_cmp nat_cmp key row.0) (T_first (is_lt (slice_cmp nat_cmp key row.0)) (below_all (slice_cmp nat_cmp) key rows) below))
    ∙ none_below key rows (T_second (is_lt (slice_cmp nat_cmp key row.0)) (below_all (slice_cmp nat_cmp) key rows) below)

total-put : (id key : List ℕ) (row : RowFields) (rows : NewestRows) → T (is_sorted (slice_cmp nat_cmp) rows) → total id (put_by_key key row rows) + references id (lookup_by_key key rows) ≡ total id rows + references id (Some row)
total-put id key row [] sorted = let one = total-cons id (key, row) [] in omega (arith, one)
total-put id key row (e ∷ es) sorted =
    elim (slice_cmp nat_cmp key e.0) as (λ r. slice_cmp nat_cmp key e.0 ≡ r → total id (by_order r ((key, row) ∷ e ∷ es) ((e.0, row) ∷ es) (e ∷ put_by_key key row es)) + references id (lookup_by_key key (e ∷ es)) ≡ total id (e ∷ es) + references id (Some row)) [
      | Less ↦ λ p.
          let gone : lookup_by_key key (e ∷ es) ≡ None = none_below key (e ∷ es) (below p) in
          let none : references id (lookup_by_key key (e ∷ es)) ≡ 0 = ap (references id) gone in
          omega (arith, none, total-cons id (key, row) (e ∷ es))
      | Equal ↦ λ p.
          let there : references id (lookup_by_key key (e ∷ es)) ≡ references id (Some e.1) = ap (references id) (found_first key e es (ap is_eq p)) in
          omega (arith, there, total-cons id (e.0, row) es, total-cons id e es)
      | Greater ↦ λ p.
          let later : references id (lookup_by_key key (e ∷ es)) ≡ references id (lookup_by_key key es) = ap (references id) (found_later key e es (ap is_eq p)) in
          omega (arith, later, total-cons id e (put_by_key key row es), total-cons id e es, total-put id key row es (T_second (below_all (slice_cmp nat_cmp) e.0 es) (is_sorted (slice_cmp nat_cmp) es) sorted))
    ] refl
  where
    below : slice_cmp nat_cmp key e.0 ≡ Less → T (below_all (slice_cmp nat_cmp) key (e ∷ es))
    below p =
        T_first (below_all (slice_cmp nat_cmp) key (e ∷ es)) (is_sorted (slice_cmp nat_cmp) (e ∷ es))
        (subst (λ r. T (is_sorted (slice_cmp nat_cmp) (by_order r ((key, row) ∷ e ∷ es) ((e.0, row) ∷ es) (e ∷ put_by_key key row es)))) p (is_sorted-put (slice_cmp nat_cmp) nat_list_cmp_total key row (e ∷ es) sorted))

dropped : (key : List ℕ) (row : List ℕ × RowFields) (rows : NewestRows) → bytes_eq row.0 key ≡ true → remove_by_key key (row ∷ rows) ≡ remove_by_key key rows
dropped key row rows t = rw t refl

kept : (key : List ℕ) (row : List ℕ × RowFields) (rows : NewestRows) → bytes_eq row.0 key ≡ false → remove_by_key key (row ∷ rows) ≡ row ∷ remove_by_key key rows
kept key row rows t = rw t refl

total-remove : (id key : List ℕ) (rows : NewestRows) → T (is_sorted (slice_cmp nat_cmp) rows) → total id (remove_by_key key rows) + references id (lookup_by_key key rows) ≡ total id rows
total-remove id key [] sorted = refl
total-remove id key (e ∷ es) sorted =
    let rest = total-remove id key es (T_second (below_all (slice_cmp nat_cmp) e.0 es) (is_sorted (slice_cmp nat_cmp) es) sorted) in
    by_test (bytes_eq e.0 key)
    (λ t.
    let same : e.0 ≡ key = same_bytes e.0 key t in
    let gone : lookup_by_key key es ≡ None = none_below key es (subst (λ k. T (below_all (slice_cmp nat_cmp) k es)) same (T_first (below_all (slice_cmp nat_cmp) e.0 es) (is_sorted (slice_cmp nat_cmp) es) sorted)) in
    let none : references id (lookup_by_key key es) ≡ 0 = ap (references id) gone in
    let there : references id (lookup_by_key key (e ∷ es)) ≡ references id (Some e.1) = ap (references id) (found_first key e es (tied e.0 key t)) in
    let less : total id (remove_by_key key (e ∷ es)) ≡ total id (remove_by_key key es) = ap (total id) (dropped key e es t) in
    omega (arith, rest, none, there, less, total-cons id e es))
    (λ f.
    let later : references id (lookup_by_key key (e ∷ es)) ≡ references id (lookup_by_key key es) = ap (references id) (found_later key e es (untied e.0 key f)) in
    let still : total id (remove_by_key key (e ∷ es)) ≡ total id (e ∷ remove_by_key key es) = ap (total id) (kept key e es f) in
    omega (arith, rest, later, still, total-cons id e (remove_by_key key es), total-cons id e es))

pub total-with_row : (id key : List ℕ) (is : Option RowFields) (rows : NewestRows) → AreRows rows → total id (with_row key is rows) + references id (lookup_by_key key rows) ≡ total id rows + references id is
total-with_row id key None rows sorted = let less = total-remove id key rows (holds (is_sorted (slice_cmp nat_cmp) rows) sorted) in omega (arith, less)
total-with_row id key (Some row) rows sorted = total-put id key row rows (holds (is_sorted (slice_cmp nat_cmp) rows) sorted)

-- ---- how often an identifier is named

abbrev one_if : Bool → ℕ
one_if b = if b then 1 else 0

pub among-yes : (id x : List ℕ) (ids : List (List ℕ)) → bytes_eq id x ≡ true → times_among id (x ∷ ids) ≡ suc (times_among id ids)
among-yes id x ids t =
    let e : times_among id (x ∷ ids) ≡ one_if (bytes_eq id x) + times_among id ids = sum_by-cons (λ y. one_if (bytes_eq id y)) x ids in
    let f : one_if (bytes_eq id x) ≡ 1 = ap one_if t in
    omega (arith, e, f)

pub among-no : (id x : List ℕ) (ids : List (List ℕ)) → bytes_eq id x ≡ false → times_among id (x ∷ ids) ≡ times_among id ids
among-no id x ids t =
    let e : times_among id (x ∷ ids) ≡ one_if (bytes_eq id x) + times_among id ids = sum_by-cons (λ y. one_if (bytes_eq id y)) x ids in
    let f : one_if (bytes_eq id x) ≡ 0 = ap one_if t in
    omega (arith, e, f)

pub some_among : (id : List ℕ) (ids : List (List ℕ)) → list_any (bytes_eq id) ids ≡ true → 0 < times_among id ids
some_among id [] e = absurd (true≢false (sym e))
some_among id (x ∷ ids) e =
    by_test (bytes_eq id x)
    (λ t. let more = among-yes id x ids t in omega (arith, more))
    (λ f. let same = among-no id x ids f in let rest = some_among id ids (rw f at e) in omega (arith, same, rest))

pub none_among : (id : List ℕ) (ids : List (List ℕ)) → list_any (bytes_eq id) ids ≡ false → times_among id ids ≡ 0
none_among id [] e = refl
none_among id (x ∷ ids) e =
    by_test (bytes_eq id x)
    (λ t. absurd (true≢false (rw t at e)))
    (λ t. among-no id x ids t ∙ none_among id ids (rw t at e))

with_once : (id x : List ℕ) (ids : List (List ℕ)) → times_among id ids ≤ 1 → times_among id (with_identifier x ids) ≤ 1
with_once id x ids once =
    by_test (list_any (bytes_eq x) ids)
    (λ t. rw t once)
    (λ f. subst (λ (l : List (List ℕ)). times_among id l ≤ 1) (sym (added f))
    (by_test (bytes_eq id x)
    (λ t.
    let same : id ≡ x = same_bytes id x t in
    let none : times_among id ids ≡ 0 = ap (λ k. times_among k ids) same ∙ none_among x ids f in
    omega (arith, none, among-yes id x ids t))
    (λ t. omega (arith, once, among-no id x ids t))))
  where
    added : list_any (bytes_eq x) ids ≡ false → with_identifier x ids ≡ x ∷ ids
    added f = rw f refl

named_once : (id : List ℕ) (values : List (ℕ × RowValue)) → times_among id (named_by values) ≤ 1
named_once id [] = omega arith
named_once id ((column, Here bytes) ∷ values) = named_once id values
named_once id ((column, Apart entry place size) ∷ values) = with_once id (identifier entry place) (named_by values) (named_once id values)

pub refers_once : (id : List ℕ) (row : Option RowFields) → references id row ≤ 1
refers_once id None = omega arith
refers_once id (Some row) = named_once id (values_in_order row)
