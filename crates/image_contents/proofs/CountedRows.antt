-- What is counted of the rows that refer to long values, one after another.
use Rattle.std.proofs.Common.{◌≡◌, ℕ, ◌+◌, Bool, true, false, ◌&&◌, cond, List, [], ◌∷◌, Option, Some, None, refl, sym, ap, ◌∙◌, arith}
use Rattle.std.specs.Prelude.{bytes_eq, not, unwrap_or}
use Rattle.std.specs.BTreeMap.{IsEmpty, Updates, get, is_at}
use Rattle.std.specs.Map.{lookup}
use Rattle.std.specs.Cmp.Lexicographic.{slice_cmp}
use Rattle.std.specs.Ordering.{is_eq, nat_cmp}
use Rattle.std.specs.List.{list_any}
use Rattle.std.proofs.lemmas.List.Sums.{sum_by-cons}
use Rattle.column_set.specs.Rows.{place_apart}
use Rattle.column_set.specs.declared.rows.RowValue.{RowValue}
use Rattle.column_set.specs.declared.rows.RowValue.TheVariants.{Here, Apart}
use Rattle.common_lemmas.proofs.Booleans.{and_false, by_test, impossible}
use Rattle.common_lemmas.proofs.Numbers.{equal_bytes, same_bytes}
use Rattle.image_contents.proofs.NamedParts.{First, Leads}
use Rattle.image_contents.specs.ReadReferences.{Told}
use Rattle.image_contents.specs.ReferringRows.{Referring, counted, counted_in}
use Rattle.image_contents.specs.ValueCounts.{count_in, is_last}
use Rattle.image_contents.specs.declared.values.counts.ReferenceCounts.{ReferenceCounts}
use Rattle.long_rows.specs.RowReferences.{identifier, named_by, times_among}
use Rattle.long_value.specs.ChangedValues.{itself, same_key}

-- ---- one reference

no_more : (n : ℕ) → n ≡ n + 0
no_more n = omega arith

turned : (a b : ℕ) → a + b ≡ b + a
turned a b = omega arith

-- what is counted is not left
moved : (old new all rest more : ℕ) → new ≡ old + more → all ≡ rest + more → new + rest ≡ old + all
moved old new all rest more next first = omega (arith, next, first)

pub one_added : (old new : ReferenceCounts) (id : List ℕ) (have more : ℕ) → have ≡ count_in old id → more ≡ have + 1 → Updates (slice_cmp nat_cmp) old.counts new.counts id (Some more)
    → (other : List ℕ) → count_in new other ≡ count_in old other + cond (bytes_eq other id) 1 0
one_added old new id have more is next updates other = ap {B = ℕ} (λ (o : Option ℕ). unwrap_or o 0) (updates.0 other) ∙ by_test (is_eq (slice_cmp nat_cmp id other)) same apart
  where
    same : is_eq (slice_cmp nat_cmp id other) ≡ true → unwrap_or (cond (is_eq (slice_cmp nat_cmp id other)) (Some more) (get (slice_cmp nat_cmp) old.counts other)) 0 ≡ count_in old other + cond (bytes_eq other id) 1 0
    same t =
        let own : id ≡ other = same_key id other t in
        ap {B = ℕ} (λ b. unwrap_or (cond b (Some more) (get (slice_cmp nat_cmp) old.counts other)) 0) t
        ∙ next ∙ ap {B = ℕ} (λ (n : ℕ). n + 1) (is ∙ ap (count_in old) own)
        ∙ ap {B = ℕ} (λ b. count_in old other + cond b 1 0) (sym (equal_bytes other id (sym own)))

    apart : is_eq (slice_cmp nat_cmp id other) ≡ false → unwrap_or (cond (is_eq (slice_cmp nat_cmp id other)) (Some more) (get (slice_cmp nat_cmp) old.counts other)) 0 ≡ count_in old other + cond (bytes_eq other id) 1 0
    apart f =
        let unlike : bytes_eq other id ≡ false = by_test (bytes_eq other id) (λ t. impossible (sym f ∙ ap (λ (i : List ℕ). is_eq (slice_cmp nat_cmp id i)) (same_bytes other id t) ∙ itself id)) (λ g. g) in
        ap {B = ℕ} (λ b. unwrap_or (cond b (Some more) (get (slice_cmp nat_cmp) old.counts other)) 0) f
        ∙ no_more (count_in old other)
        ∙ ap {B = ℕ} (λ b. count_in old other + cond b 1 0) (sym unlike)

-- ---- the values of a row

-- a row refers once more to the value that its first value names, unless one behind it names the same
times_first : (id : List ℕ) (x : ℕ × RowValue) (xs : List (ℕ × RowValue)) → times_among id (named_by (x ∷ xs)) ≡ times_among id (named_by xs) + cond (is_last id (place_apart x.1) xs) 1 0
times_first id (column, Here bytes) xs = no_more (times_among id (named_by xs))
times_first id (column, Apart entry place size) xs = by (list_any (bytes_eq (identifier entry place)) (named_by xs)) (bytes_eq id (identifier entry place)) refl
  where
    one_more : (b : Bool) → bytes_eq id (identifier entry place) ≡ b → times_among id (identifier entry place ∷ named_by xs) ≡ times_among id (named_by xs) + cond b 1 0
    one_more b e =
        sum_by-cons (λ (i : List ℕ). cond (bytes_eq id i) 1 0) (identifier entry place) (named_by xs)
        ∙ ap {B = ℕ} (λ c. cond c 1 0 + times_among id (named_by xs)) e
        ∙ turned (cond b 1 0) (times_among id (named_by xs))

    by : (named same : Bool) → bytes_eq id (identifier entry place) ≡ same → times_among id (cond named (named_by xs) (identifier entry place ∷ named_by xs)) ≡ times_among id (named_by xs) + cond (same && not named) 1 0
    by true true e = no_more (times_among id (named_by xs))
    by true false e = no_more (times_among id (named_by xs))
    by false true e = one_more true e
    by false false e = one_more false e

-- those that are counted, and those that are left
abbrev pub with_left : ReferenceCounts → List (ℕ × RowValue) → List ℕ → ℕ
with_left counts xs id = count_in counts id + times_among id (named_by xs)

pub value_counted : (old new : ReferenceCounts) (told : Option Told) (behind : List ℕ) (total : List ℕ → ℕ) (first : First told behind (with_left old) total)
    → ((id : List ℕ) → count_in new id ≡ count_in old id + cond (is_last id told first.others) 1 0) → Leads behind (with_left new) total
value_counted old new told behind total first is = (first.others, first.stand, (λ i id. each id i))
  where
    each : (id : List ℕ) → with_left new first.others id ≡ total id
    each id =
        moved (count_in old id) (count_in new id) (times_among id (named_by (first.value ∷ first.others))) (times_among id (named_by first.others)) (cond (is_last id told first.others) 1 0) (is id)
        (times_first id first.value first.others ∙ ap {B = ℕ} (λ (o : Option Told). times_among id (named_by first.others) + cond (is_last id o first.others) 1 0) (sym first.told_is))
        ∙ ap (λ (f : List ℕ → ℕ). f id) first.leads

pub none_counted : (counts : ReferenceCounts) (total : List ℕ → ℕ) → with_left counts [] ≡ total → (id : List ℕ) → count_in counts id ≡ total id
none_counted counts total e id = no_more (count_in counts id) ∙ ap (λ (f : List ℕ → ℕ). f id) e

-- ---- the rows

-- those that are counted, and those among the rows that are left
abbrev pub with_rows : ReferenceCounts → List Referring → List ℕ → ℕ
with_rows counts rows id = count_in counts id + counted id rows

pub row_counted : (old new : ReferenceCounts) (rows rest : List Referring) (row : Referring) (total : List ℕ → ℕ) → rows ≡ row ∷ rest → ((id : List ℕ) → count_in new id ≡ count_in old id + counted_in id row)
    → ((id : List ℕ) → with_rows old rows id ≡ total id) → (id : List ℕ) → with_rows new rest id ≡ total id
row_counted old new rows rest row total is more so_far id =
    moved (count_in old id) (count_in new id) (counted id rows) (counted id rest) (counted_in id row) (more id) (ap (counted id) is ∙ sum_by-cons (counted_in id) row rest ∙ turned (counted_in id row) (counted id rest))
    ∙ so_far id

pub all_counted : (counts : ReferenceCounts) (rows : List Referring) (total : List ℕ → ℕ) → rows ≡ [] → ((id : List ℕ) → with_rows counts rows id ≡ total id) → (id : List ℕ) → count_in counts id ≡ total id
all_counted counts rows total none so_far id =
    no_more (count_in counts id) ∙ ap (λ (l : List Referring). count_in counts id + counted id l) (sym none) ∙ so_far id

-- none is counted yet
pub none_yet : (counts : ReferenceCounts) (rows all : List Referring) → ((id : List ℕ) → count_in counts id ≡ 0) → rows ≡ all → (id : List ℕ) → with_rows counts rows id ≡ counted id all
none_yet counts rows all none is id = ap {B = ℕ} (λ (k : ℕ). k + counted id rows) (none id) ∙ turned 0 (counted id rows) ∙ sym (no_more (counted id rows)) ∙ ap (counted id) is

pub nothing_in : (counts : ReferenceCounts) → IsEmpty counts.counts → (id : List ℕ) → count_in counts id ≡ 0
nothing_in counts empty id = ap {B = ℕ} (λ l. unwrap_or (lookup (is_at (slice_cmp nat_cmp id)) l) 0) empty

-- a row before a change that is undone
pub undone_row : (counts : ReferenceCounts) (xs : List (ℕ × RowValue)) (undone : Bool) → undone ≡ true → (id : List ℕ) → count_in counts id ≡ count_in counts id + counted_in id (xs, undone)
undone_row counts xs undone t id = no_more (count_in counts id) ∙ ap {B = ℕ} (λ b. count_in counts id + cond b 0 (times_among id (named_by xs))) (sym t)

pub other_row : (old new : ReferenceCounts) (xs : List (ℕ × RowValue)) (undone : Bool) → undone ≡ false → ((id : List ℕ) → count_in new id ≡ count_in old id + times_among id (named_by xs)) → (id : List ℕ) → count_in new id ≡ count_in old id + counted_in id (xs, undone)
other_row old new xs undone f more id = more id ∙ ap {B = ℕ} (λ b. count_in old id + cond b 0 (times_among id (named_by xs))) (sym f)

-- ---- one value of a row

and_all : (a : Bool) → (a && true) ≡ a
and_all true = refl
and_all false = refl

pub named_behind : (counts : ReferenceCounts) (told : Option Told) (one : Told) (own : List ℕ) (xs : List (ℕ × RowValue)) (b : Bool) → told ≡ Some one → own ≡ identifier one.0 one.1 → b ≡ list_any (bytes_eq own) (named_by xs) → b ≡ true
    → (id : List ℕ) → count_in counts id ≡ count_in counts id + cond (is_last id told xs) 1 0
named_behind counts told one own xs b is mine named t id =
    no_more (count_in counts id)
    ∙ ap {B = ℕ} (λ c. count_in counts id + cond c 1 0) (sym
    (ap (λ (o : Option Told). is_last id o xs) is
    ∙ ap (λ c. bytes_eq id (identifier one.0 one.1) && not c) (ap (λ (i : List ℕ). list_any (bytes_eq i) (named_by xs)) (sym mine) ∙ sym named ∙ t)
    ∙ and_false (bytes_eq id (identifier one.0 one.1))))

pub last_named : (old new : ReferenceCounts) (told : Option Told) (one : Told) (own : List ℕ) (xs : List (ℕ × RowValue)) (b : Bool) → told ≡ Some one → own ≡ identifier one.0 one.1 → b ≡ list_any (bytes_eq own) (named_by xs) → b ≡ false
    → ((id : List ℕ) → count_in new id ≡ count_in old id + cond (bytes_eq id own) 1 0) → (id : List ℕ) → count_in new id ≡ count_in old id + cond (is_last id told xs) 1 0
last_named old new told one own xs b is mine named f more id =
    more id
    ∙ ap {B = ℕ} (λ c. count_in old id + cond c 1 0)
    (ap (bytes_eq id) mine
    ∙ sym (ap (λ (o : Option Told). is_last id o xs) is
    ∙ ap (λ c. bytes_eq id (identifier one.0 one.1) && not c) (ap (λ (i : List ℕ). list_any (bytes_eq i) (named_by xs)) (sym mine) ∙ sym named ∙ f)
    ∙ and_all (bytes_eq id (identifier one.0 one.1))))

pub nothing_named : (counts : ReferenceCounts) (told : Option Told) (xs : List (ℕ × RowValue)) → told ≡ None → (id : List ℕ) → count_in counts id ≡ count_in counts id + cond (is_last id told xs) 1 0
nothing_named counts told xs none id = no_more (count_in counts id) ∙ ap {B = ℕ} (λ (o : Option Told). count_in counts id + cond (is_last id o xs) 1 0) (sym none)
