-- The identifiers that a row names and the row that it becomes does not.
use Rattle.std.proofs.Common.{◌≡◌, ℕ, ◌+◌, ◌<◌, Bool, true, false, if◌then◌else◌, Option, List, [], ◌∷◌, refl, sym, ap, ◌∙◌, arith}
use Rattle.std.specs.Prelude.{bytes_eq}
use Rattle.std.specs.List.{list_any}
use Rattle.common_lemmas.proofs.Booleans.{by_test}
use Rattle.common_lemmas.proofs.Numbers.{same_bytes}
use Rattle.column_set.specs.RecordValues.{lookup_by_key}
use Rattle.column_set.specs.Rows.{RowFields}
use Rattle.long_value.specs.Values.{Values}
use Rattle.long_rows.specs.RowReferences.{identifiers, not_among, references, removed_identifiers, times_among}
use Rattle.long_rows.specs.ReferenceCounts.{AreRows, HasCounts, NamesNoOther, NewestRows, RowBefore, reference_count, with_all_released, with_row}
use Rattle.long_rows.proofs.Totals.{among-no, among-yes, none_among, refers_once, some_among, total-with_row}
use Rattle.long_rows.proofs.Taken.{ValueLaws, released_all}

left_out : (x : List ℕ) (ids others : List (List ℕ)) → list_any (bytes_eq x) others ≡ true → not_among others (x ∷ ids) ≡ not_among others ids
left_out x ids others t = rw t refl

left_in : (x : List ℕ) (ids others : List (List ℕ)) → list_any (bytes_eq x) others ≡ false → not_among others (x ∷ ids) ≡ x ∷ not_among others ids
left_in x ids others f = rw f refl

-- one that is among the others is not left, and one that is not is named as often as before
pub times-not_among : (id : List ℕ) (ids others : List (List ℕ)) → times_among id (not_among others ids) ≡ (if list_any (bytes_eq id) others then 0 else times_among id ids)
times-not_among id [] others = by_test (list_any (bytes_eq id) others) (λ t. sym (ap (λ (b : Bool). if b then 0 else 0) t)) (λ f. sym (ap (λ (b : Bool). if b then 0 else 0) f))
times-not_among id (x ∷ ids) others =
    by_test (list_any (bytes_eq x) others)
    (λ t. ap (times_among id) (left_out x ids others t) ∙ times-not_among id ids others
    ∙ by_test (bytes_eq id x)
    (λ e.
    let there : list_any (bytes_eq id) others ≡ true = ap (λ (i : List ℕ). list_any (bytes_eq i) others) (same_bytes id x e) ∙ t in
    none there (times_among id ids) (times_among id (x ∷ ids)))
    (λ n. ap (λ (k : ℕ). if list_any (bytes_eq id) others then 0 else k) (sym (among-no id x ids n))))
    (λ f. ap (times_among id) (left_in x ids others f)
    ∙ by_test (bytes_eq id x)
    (λ e.
    let apart : list_any (bytes_eq id) others ≡ false = ap (λ (i : List ℕ). list_any (bytes_eq i) others) (same_bytes id x e) ∙ f in
    let rest = times-not_among id ids others ∙ all apart (times_among id ids) in
    let more = among-yes id x (not_among others ids) e in
    let was = among-yes id x ids e in
    let now : times_among id (x ∷ not_among others ids) ≡ times_among id (x ∷ ids) = omega (arith, rest, more, was) in
    now ∙ sym (all apart (times_among id (x ∷ ids))))
    (λ n. among-no id x (not_among others ids) n ∙ times-not_among id ids others ∙ ap (λ (k : ℕ). if list_any (bytes_eq id) others then 0 else k) (sym (among-no id x ids n))))
  where
    none : list_any (bytes_eq id) others ≡ true → (a b : ℕ) → (if list_any (bytes_eq id) others then 0 else a) ≡ (if list_any (bytes_eq id) others then 0 else b)
    none t a b = ap (λ (c : Bool). if c then 0 else a) t ∙ sym (ap (λ (c : Bool). if c then 0 else b) t)

    all : list_any (bytes_eq id) others ≡ false → (a : ℕ) → (if list_any (bytes_eq id) others then 0 else a) ≡ a
    all f a = ap (λ (c : Bool). if c then 0 else a) f

-- a row is a reference to each value that it names: the ones that go, and the ones that the row names still
pub removed_and_left : (id : List ℕ) (was is : Option RowFields) → NamesNoOther is was → times_among id (removed_identifiers was is) + references id is ≡ references id was
removed_and_left id was is less =
    let times = times-not_among id (identifiers was) (identifiers is) in
    by_test (list_any (bytes_eq id) (identifiers is))
    (λ t.
    let gone : times_among id (removed_identifiers was is) ≡ 0 = times ∙ ap (λ (c : Bool). if c then 0 else references id was) t in
    let there : 0 < references id is = some_among id (identifiers is) t in
    omega (arith, gone, there, less id, refers_once id was))
    (λ f.
    let all : times_among id (removed_identifiers was is) ≡ references id was = times ∙ ap (λ (c : Bool). if c then 0 else references id was) f in
    let none : references id is ≡ 0 = none_among id (identifiers is) f in
    omega (arith, all, none))

pub rewritten_counts : ValueLaws → (values : Values) (bookmark : List ℕ) (is : Option RowFields) (rows : NewestRows) (held : List RowBefore) → AreRows rows → NamesNoOther is (lookup_by_key bookmark rows)
    → HasCounts values rows held → HasCounts (with_all_released (removed_identifiers (lookup_by_key bookmark rows) is) values) (with_row bookmark is rows) held
rewritten_counts laws values bookmark is rows held sorted less has id =
    let was = lookup_by_key bookmark rows in
    let step : (k : List ℕ) → reference_count k (with_row bookmark is rows) held + times_among k (removed_identifiers was is) ≡ reference_count k rows held = λ k. omega (arith, total-with_row k bookmark is rows sorted, removed_and_left k was is less) in
    let all = released_all laws (removed_identifiers was is) values (λ k. omega (arith, has k, step k)) id in
    omega (arith, all, has id, step id)
