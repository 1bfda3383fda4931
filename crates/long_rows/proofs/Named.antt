-- What holds of each long value that a row names.
use Rattle.std.proofs.Common.{◌≡◌, ℕ, ◌<◌, ◌≤◌, true, false, List, [], ◌∷◌, sym, subst, refl, arith}
use Rattle.std.specs.Prelude.{bytes_eq}
use Rattle.std.specs.List.{list_any}
use Rattle.common_lemmas.proofs.Booleans.{by_test}
use Rattle.column_set.specs.declared.rows.RowValue.{RowValue}
use Rattle.column_set.specs.declared.rows.RowValue.TheVariants.{Here, Apart}
use Rattle.long_rows.specs.RowReferences.{identifier, named_by, times_among, with_identifier}
use Rattle.long_rows.proofs.Totals.{among-no, among-yes, itself, some_among}

-- what holds of the identifier of each value that is kept apart
abbrev pub AllNamed : (List ℕ → Type 0) → List (ℕ × RowValue) → Type 0
AllNamed P [] = Unit {0}
AllNamed P ((column, Here bytes) ∷ xs) = AllNamed P xs
AllNamed P ((column, Apart entry place size) ∷ xs) = P (identifier entry place) × AllNamed P xs

pub added : (id : List ℕ) (ids : List (List ℕ)) → list_any (bytes_eq id) ids ≡ false → with_identifier id ids ≡ id ∷ ids
added id ids f = rw f refl

pub there : (id : List ℕ) (ids : List (List ℕ)) → list_any (bytes_eq id) ids ≡ true → with_identifier id ids ≡ ids
there id ids t = rw t refl

pub more_named : (k id : List ℕ) (ids : List (List ℕ)) → times_among k ids ≤ times_among k (with_identifier id ids)
more_named k id ids =
    by_test (list_any (bytes_eq id) ids)
    (λ t. subst (λ (l : List (List ℕ)). times_among k ids ≤ times_among k l) (sym (there id ids t)) (omega arith))
    (λ f. subst (λ (l : List (List ℕ)). times_among k ids ≤ times_among k l) (sym (added id ids f))
    (by_test (bytes_eq k id)
    (λ t. let more = among-yes k id ids t in omega (arith, more))
    (λ t. let same = among-no k id ids t in omega (arith, same))))

pub own_named : (id : List ℕ) (ids : List (List ℕ)) → 0 < times_among id (with_identifier id ids)
own_named id ids =
    by_test (list_any (bytes_eq id) ids)
    (λ t. subst (λ (l : List (List ℕ)). 0 < times_among id l) (sym (there id ids t)) (some_among id ids t))
    (λ f. subst (λ (l : List (List ℕ)). 0 < times_among id l) (sym (added id ids f)) (let more = among-yes id id ids (itself id) in omega (arith, more)))

pub all_named : (P : List ℕ → Type 0) (xs : List (ℕ × RowValue)) → ((id : List ℕ) → 0 < times_among id (named_by xs) → P id) → AllNamed P xs
all_named P [] h = tt
all_named P ((column, Here bytes) ∷ xs) h = all_named P xs h
all_named P ((column, Apart entry place size) ∷ xs) h = (
  h (identifier entry place) (own_named (identifier entry place) (named_by xs)),
  all_named P xs (λ k lt. let more = more_named k (identifier entry place) (named_by xs) in h k (omega (arith, lt, more))),
)
