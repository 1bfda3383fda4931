-- What is found in a list once some of it has changed, has gone, or one has come.
use Rattle.std.proofs.Common.{◌≡◌, ◌≢◌, ℕ, ◌==◌, Bool, true, false, ◌||◌, ◌&&◌, not, if◌then◌else◌, Option, List, [], ◌∷◌, ◌++◌, option_map, refl, sym, ap, subst, ◌∙◌, true≢false}
use Rattle.std.specs.Prelude.{unwrap_or}
use Rattle.std.specs.List.{list_any}
use Rattle.std.proofs.lemmas.Bool.{eqb-true}
use Rattle.std.proofs.lemmas.List.Folds.{list_any-append}
use Rattle.common_lemmas.proofs.Booleans.{and_false, by_test, or_false}
use Rattle.table_trees.specs.StoredTables.{StoredIndex, StoredTable, changed_where, has_index, has_table, is_index, is_table, part_of, put_indexes, table_indexes, with_indexes, without_where}
use Rattle.table_trees.proofs.Lookups.{changed_nowhere, found_nowhere, none_passes}

-- what is at one place or the next
at_first : {X Y : Type 0} (q : X → Bool) (part : X → List Y) (x : X) (xs : List X) → q x ≡ true → part_of q part (x ∷ xs) ≡ part x
at_first q part x xs t = rw t refl

at_next : {X Y : Type 0} (q : X → Bool) (part : X → List Y) (x : X) (xs : List X) → q x ≡ false → part_of q part (x ∷ xs) ≡ part_of q part xs
at_next q part x xs t = rw t refl

-- ---- a change

chosen : {X : Type 0} (b : Bool) (q : X → Bool) (y x : X) → q y ≡ q x → q (if b then y else x) ≡ q x
chosen true q y x e = e
chosen false q y x e = refl

pub part-changed : {X Y : Type 0} (p q : X → Bool) (f : X → X) (part : X → List Y) (xs : List X) → ((x : X) → q (f x) ≡ q x) → ((x : X) → p x ≡ true → q x ≡ true → part (f x) ≡ part x) → part_of q part (changed_where p f xs) ≡ part_of q part xs
part-changed p q f part [] same keeps = refl
part-changed {X} {Y} p q f part (x ∷ xs) same keeps =
    let y : X = if p x then f x else x in
    by_test (q x)
    (λ t. at_first q part y (changed_where p f xs) (chosen (p x) q (f x) x (same x) ∙ t) ∙ kept (p x) refl t ∙ sym (at_first q part x xs t))
    (λ t. at_next q part y (changed_where p f xs) (chosen (p x) q (f x) x (same x) ∙ t) ∙ part-changed p q f part xs same keeps ∙ sym (at_next q part x xs t))
  where
    kept : (b : Bool) → p x ≡ b → q x ≡ true → part (if b then f x else x) ≡ part x
    kept true e t = keeps x e t
    kept false e t = refl

pub own-changed : {X Y : Type 0} (p : X → Bool) (f : X → X) (part : X → List Y) (ys : List Y) (xs : List X) → ((x : X) → p (f x) ≡ p x) → ((x : X) → part (f x) ≡ ys) → list_any p xs ≡ true → part_of p part (changed_where p f xs) ≡ ys
own-changed p f part ys [] same put h = absurd (true≢false (sym h))
own-changed {X} {Y} p f part ys (x ∷ xs) same put h =
    let y : X = if p x then f x else x in
    by_test (p x)
    (λ t. at_first p part y (changed_where p f xs) (chosen (p x) p (f x) x (same x) ∙ t) ∙ ap (λ (b : Bool). part (if b then f x else x)) t ∙ put x)
    (λ t. at_next p part y (changed_where p f xs) (chosen (p x) p (f x) x (same x) ∙ t) ∙ own-changed p f part ys xs same put (rw t at h))

pub any-changed : {X : Type 0} (p q : X → Bool) (f : X → X) (xs : List X) → ((x : X) → q (f x) ≡ q x) → list_any q (changed_where p f xs) ≡ list_any q xs
any-changed p q f [] same = refl
any-changed p q f (x ∷ xs) same = (λ i. chosen (p x) q (f x) x (same x) i || any-changed p q f xs same i)

-- ---- one less

pub own-without : {X Y : Type 0} (p : X → Bool) (part : X → List Y) (xs : List X) → part_of p part (without_where p xs) ≡ []
own-without p part [] = refl
own-without p part (x ∷ xs) =
    by_test (p x)
    (λ t. rw t (own-without p part xs))
    (λ t. rw (t, t) (own-without p part xs))

pub other-without : {X Y : Type 0} (p q : X → Bool) (part : X → List Y) (xs : List X) → ((x : X) → q x ≡ true → p x ≡ false) → part_of q part (without_where p xs) ≡ part_of q part xs
other-without p q part [] apart = refl
other-without p q part (x ∷ xs) apart =
    by_test (q x)
    (λ t. let u : p x ≡ false = apart x t in rw (u, t) refl)
    (λ t. by_test (p x)
    (λ u. rw (u, t) (other-without p q part xs apart))
    (λ u. rw (u, t) (other-without p q part xs apart)))

and_true : (b : Bool) → (b && true) ≡ b
and_true true = refl
and_true false = refl

any_without_own : {X : Type 0} (p q : X → Bool) (xs : List X) → ((x : X) → q x ≡ true → p x ≡ true) → list_any q (without_where p xs) ≡ false
any_without_own p q [] own = refl
any_without_own p q (x ∷ xs) own =
    by_test (p x)
    (λ u. rw u (any_without_own p q xs own))
    (λ u. by_test (q x)
    (λ t. absurd (true≢false (sym (own x t) ∙ u)))
    (λ t. rw (u, t) (any_without_own p q xs own)))

any_without_other : {X : Type 0} (p q : X → Bool) (xs : List X) → ((x : X) → q x ≡ true → p x ≡ false) → list_any q (without_where p xs) ≡ list_any q xs
any_without_other p q [] apart = refl
any_without_other p q (x ∷ xs) apart =
    by_test (q x)
    (λ t. let u : p x ≡ false = apart x t in rw (u, t) refl)
    (λ t. by_test (p x)
    (λ u. rw (u, t) (any_without_other p q xs apart))
    (λ u. rw (u, t) (any_without_other p q xs apart)))

-- the test of what goes says the same of each that passes the other test
pub any-without : {X : Type 0} (p q : X → Bool) (b : Bool) (xs : List X) → ((x : X) → q x ≡ true → p x ≡ b) → list_any q (without_where p xs) ≡ (list_any q xs && not b)
any-without p q true xs is = any_without_own p q xs is ∙ sym (and_false (list_any q xs))
any-without p q false xs is = any_without_other p q xs is ∙ sym (and_true (list_any q xs))

-- ---- one more

pub part-pushed : {X Y : Type 0} (q : X → Bool) (part : X → List Y) (x : X) (xs : List X) → part x ≡ [] → part_of q part (xs ++ x ∷ []) ≡ part_of q part xs
part-pushed q part x [] none = by_test (q x) (λ t. rw t none) (λ t. rw t refl)
part-pushed q part x (y ∷ xs) none =
    by_test (q y)
    (λ t. rw t refl)
    (λ t. rw t (part-pushed q part x xs none))

pub any-pushed : {X : Type 0} (q : X → Bool) (x : X) (xs : List X) → list_any q (xs ++ x ∷ []) ≡ (list_any q xs || q x)
any-pushed q x xs = list_any-append q xs (x ∷ []) ∙ ap (λ (b : Bool). list_any q xs || b) (or_false (q x))

-- ---- by numbers

-- what has one number has no other
pub not_other : (a number other : ℕ) → other ≢ number → (a == other) ≡ true → (a == number) ≡ false
not_other a number other n t =
    by_test (a == number)
    (λ u. absurd (n (sym (eqb-true a other t) ∙ eqb-true a number u)))
    (λ u. u)

pub named_as : (a number other : ℕ) → (a == other) ≡ true → (a == number) ≡ (other == number)
named_as a number other t = ap (λ k. k == number) (eqb-true a other t)

-- ---- the indexes of one table

pub own_indexes : (tables : List StoredTable) (table : ℕ) (indexes : List StoredIndex) → has_table tables table ≡ true → table_indexes (with_indexes table indexes tables) table ≡ indexes
own_indexes tables table indexes h = own-changed (is_table table) (put_indexes indexes) (λ x. x.indexes) indexes tables (λ x. refl) (λ x. refl) h

no_such_table : (tables : List StoredTable) (table : ℕ) → has_table tables table ≡ false → table_indexes tables table ≡ []
no_such_table tables table h = ap (λ (o : Option StoredTable). unwrap_or (option_map (λ x. x.indexes) o) []) (found_nowhere (is_table table) tables (none_passes (is_table table) tables h))

unchanged_tables : (tables : List StoredTable) (table : ℕ) (indexes : List StoredIndex) → has_table tables table ≡ false → with_indexes table indexes tables ≡ tables
unchanged_tables tables table indexes h = changed_nowhere (is_table table) (put_indexes indexes) tables (none_passes (is_table table) tables h)

-- the indexes of a table that is there are the changed ones, and where there is none nothing changes
pub either_indexes : (P : List StoredIndex → Type 0) (tables : List StoredTable) (table : ℕ) (indexes : List StoredIndex) → P indexes → (table_indexes tables table ≡ [] → P []) → P (table_indexes (with_indexes table indexes tables) table)
either_indexes P tables table indexes put none =
    by_test (has_table tables table)
    (λ t. subst P (sym (own_indexes tables table indexes t)) put)
    (λ t.
    let e = no_such_table tables table t in
    subst P (sym (ap (λ (l : List StoredTable). table_indexes l table) (unchanged_tables tables table indexes t) ∙ e)) (none e))

pub table_of_index : (tables : List StoredTable) (table index : ℕ) → has_index tables table index ≡ true → has_table tables table ≡ true
table_of_index tables table index h =
    by_test (has_table tables table)
    (λ t. t)
    (λ t. absurd (true≢false (sym h ∙ ap (list_any (is_index index)) (no_such_table tables table t))))
