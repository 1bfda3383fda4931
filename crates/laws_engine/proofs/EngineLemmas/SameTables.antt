-- Lists of tables with the same definitions and the same tables under each id.
use Rattle.std.proofs.Common.{◌≡◌, ℕ, Bool, true, false, cond, List, [], ◌∷◌, map, Option, Some, None, refl, sym, ap, subst, ◌∙◌}
use Rattle.std.specs.Prelude.{option_map, bytes_eq}
use Rattle.std.specs.List.{AllByRecursion}
use Rattle.common_lemmas.proofs.Options.{same_some}
use Rattle.database_state.specs.Table.{Table, schema_of, table_named, table_with_id}
use Rattle.laws_versions.specs.History.{EachTwo, without_rows}
use Rattle.laws_versions.specs.TableOrder.{IdsRise}
use Rattle.laws_versions.proofs.KeyLemmas.OrderedTables.{found_each}
use Rattle.laws_engine.proofs.TableLemmas.Rising.{found_without}

-- ---- rising ids

all_bare : (id : Table) (tables : List Table) → AllByRecursion (IdsRise id) tables → AllByRecursion (IdsRise (without_rows id)) (map without_rows tables)
all_bare t [] h = tt
all_bare t (u ∷ tables) h = (h.0, all_bare t tables h.1)

bare_rise : (tables : List Table) → EachTwo IdsRise tables → EachTwo IdsRise (map without_rows tables)
bare_rise [] h = tt
bare_rise (t ∷ tables) h = (all_bare t tables h.0, bare_rise tables h.1)

all_whole : (t : Table) (tables : List Table) → AllByRecursion (IdsRise (without_rows t)) (map without_rows tables) → AllByRecursion (IdsRise t) tables
all_whole t [] h = tt
all_whole t (u ∷ tables) h = (h.0, all_whole t tables h.1)

whole_rise : (tables : List Table) → EachTwo IdsRise (map without_rows tables) → EachTwo IdsRise tables
whole_rise [] h = tt
whole_rise (t ∷ tables) h = (all_whole t tables h.0, whole_rise tables h.1)

pub ids_rise_alike : (one other : List Table) → map without_rows one ≡ map without_rows other → EachTwo IdsRise other → EachTwo IdsRise one
ids_rise_alike one other e h = whole_rise one (subst (EachTwo IdsRise) (sym e) (bare_rise other h))

-- ---- the same tables

first_same : (x y : Table) (xs ys : List Table) → x ∷ xs ≡ y ∷ ys → x ≡ y
first_same x y xs ys e = ap (λ l. first_or l) e
  where
    first_or : List Table → Table
    first_or [] = x
    first_or (z ∷ zs) = z

rest_same : (x y : Table) (xs ys : List Table) → x ∷ xs ≡ y ∷ ys → xs ≡ ys
rest_same x y xs ys e = ap (λ l. rest_of l) e
  where
    rest_of : List Table → List Table
    rest_of [] = []
    rest_of (z ∷ zs) = zs

never : {A : Type 0} (x : Table) (xs : List Table) → x ∷ xs ≡ [] → A
never x xs e = absurd (subst (λ l. is_more l) e tt)
  where
    is_more : List Table → Type 0
    is_more [] = ⊥
    is_more (z ∷ zs) = Unit {0}

same_in : (one other xs ys : List Table) → ((id : ℕ) → table_with_id one id ≡ table_with_id other id) → map without_rows xs ≡ map without_rows ys
    → AllByRecursion (λ t. table_with_id one t.id ≡ Some t) xs → AllByRecursion (λ t. table_with_id other t.id ≡ Some t) ys → xs ≡ ys
same_in one other [] [] same e f g = refl
same_in one other [] (y ∷ ys) same e f g = never (without_rows y) (map without_rows ys) (sym e)
same_in one other (x ∷ xs) [] same e f g = never (without_rows x) (map without_rows xs) e
same_in one other (x ∷ xs) (y ∷ ys) same e f g =
    let bare : without_rows x ≡ without_rows y = first_same (without_rows x) (without_rows y) (map without_rows xs) (map without_rows ys) e in
    let here : x ≡ y = same_some x y (sym f.0 ∙ same x.id ∙ ap (λ (t : Table). table_with_id other t.id) bare ∙ g.0) in
    let rest : xs ≡ ys = same_in one other xs ys same (rest_same (without_rows x) (without_rows y) (map without_rows xs) (map without_rows ys) e) f.1 g.1 in
    λ i. here i ∷ rest i

pub same_tables : (one other : List Table) → map without_rows one ≡ map without_rows other → EachTwo IdsRise other → ((id : ℕ) → table_with_id one id ≡ table_with_id other id) → one ≡ other
same_tables one other e rise same = same_in one other one other same e (found_each one (ids_rise_alike one other e rise)) (found_each other rise)

-- ---- found tables without their records

pub named_bare : (tables : List Table) (name : List ℕ) → table_named (map without_rows tables) name ≡ option_map without_rows (table_named tables name)
named_bare [] name = refl
named_bare (t ∷ tables) name = by (bytes_eq t.name name) (named_bare tables name)
  where
    by : (b : Bool) → table_named (map without_rows tables) name ≡ option_map without_rows (table_named tables name)
        → cond b (Some (without_rows t)) (table_named (map without_rows tables) name) ≡ option_map without_rows (cond b (Some t) (table_named tables name))
    by true rest = refl
    by false rest = rest

pub numbered_alike : (one other : List Table) → map without_rows one ≡ map without_rows other → (id : ℕ) → option_map without_rows (table_with_id one id) ≡ option_map without_rows (table_with_id other id)
numbered_alike one other e id = sym (found_without one id) ∙ ap (λ tables. table_with_id tables id) e ∙ found_without other id

pub named_alike : (one other : List Table) → map without_rows one ≡ map without_rows other → (name : List ℕ) → option_map without_rows (table_named one name) ≡ option_map without_rows (table_named other name)
named_alike one other e name = sym (named_bare one name) ∙ ap (λ tables. table_named tables name) e ∙ named_bare other name

schema_bare : (o : Option Table) → option_map schema_of (option_map without_rows o) ≡ option_map schema_of o
schema_bare None = refl
schema_bare (Some t) = refl

pub schema_alike : (one other : List Table) → map without_rows one ≡ map without_rows other → (id : ℕ) → option_map schema_of (table_with_id one id) ≡ option_map schema_of (table_with_id other id)
schema_alike one other e id = sym (schema_bare (table_with_id one id)) ∙ ap (option_map schema_of) (numbered_alike one other e id) ∙ schema_bare (table_with_id other id)
