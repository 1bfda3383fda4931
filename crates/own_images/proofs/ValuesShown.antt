-- The long values of each table, as the image shows them.
use Rattle.std.proofs.Common.{◌≡◌, ℕ, Bool, true, cond, List, [], ◌∷◌, Option, Some, None, length, refl, sym, ap, ◌∙◌, arith}
use Rattle.std.specs.Prelude.{◌==◌, find, map, unwrap_or}
use Rattle.std.specs.List.{AllByRecursion}
use Rattle.std.specs.Option.{option_map}
use Rattle.std.proofs.lemmas.Bool.Decides.{nat_tests}
use Rattle.common_lemmas.proofs.Booleans.{by_test}
use Rattle.common_lemmas.proofs.Found.{found_passes, of_found}
use Rattle.common_lemmas.proofs.Options.{some_apart}
use Rattle.database_state.specs.Table.{Table}
use Rattle.long_value.specs.Values.{Values}
use Rattle.table_trees.specs.StoredTables.{StoredTable, table_long_values}
use Rattle.image_findings.specs.Findings.{values_by_table}
use Rattle.image_findings.specs.TableContents.{TableContents, contents_with_id, long_values}
use Rattle.own_images.proofs.Contents.{own_contents}
use Rattle.own_images.proofs.Missing.{tables_shown}
use Rattle.own_images.proofs.OwnForest.{tables_together}
use Rattle.own_images.proofs.Together.{trees_numbers}
use Rattle.own_images.proofs.Walked.{WalkLaws}
use Rattle.own_images.specs.OwnContents.{HasOwnContents}
use Rattle.own_images.specs.OwnStores.{IsOwnStore, OwnStore, contents_of}

number_is : (m n : ℕ) → (m == n) ≡ true → m ≡ n
number_is m n e = grind (arith, nat_tests, e)

abbrev number_first : List ℕ → ℕ
number_first [] = 0
number_first (n ∷ numbers) = n

abbrev numbers_rest : List ℕ → List ℕ
numbers_rest [] = []
numbers_rest (n ∷ numbers) = numbers

-- what no element of one list has as its number none of the other has
none_there : {X Y : Type 0} (f : X → ℕ) (g : Y → ℕ) (xs : List X) (ys : List Y) (n : ℕ) → map f xs ≡ map g ys → find (λ x. f x == n) xs ≡ None → find (λ y. g y == n) ys ≡ None
none_there f g xs [] n same none = refl
none_there f g [] (y ∷ ys) n same none = absurd (omega (arith, ap (λ (l : List ℕ). length l) same))
none_there {X} {Y} f g (x ∷ xs) (y ∷ ys) n same none =
    by_test (f x == n)
    (λ at. absurd (some_apart x (sym (ap (λ (b : Bool). cond b (Some x) (find (λ z. f z == n) xs)) at) ∙ none)))
    (λ apart.
    ap (λ (b : Bool). cond b (Some y) (find (λ z. g z == n) ys)) (ap (λ (k : ℕ). k == n) (sym (ap number_first same)) ∙ apart)
    ∙ none_there f g xs ys n (ap numbers_rest same) (sym (ap (λ (b : Bool). cond b (Some x) (find (λ z. f z == n) xs)) apart) ∙ none))

abbrev values_found : Option TableContents → Values
values_found None = []
values_found (Some t) = long_values t

values_at : (contents : List TableContents) (trees : List StoredTable) (id : ℕ) → AllByRecursion (HasOwnContents trees) contents → map (λ (t : TableContents). t.table.id) contents ≡ map (λ (s : StoredTable). s.number) trees
    → (o : Option TableContents) → contents_with_id contents id ≡ o → values_found o ≡ table_long_values trees id
values_at contents trees id all same None none =
    ap (λ (o : Option StoredTable). unwrap_or (option_map (λ (s : StoredTable). s.long_values) o) []) (sym (none_there (λ (t : TableContents). t.table.id) (λ (s : StoredTable). s.number) contents trees id same none))
values_at contents trees id all same (Some t) found =
    (of_found (HasOwnContents trees) (λ (x : TableContents). x.table.id == id) contents t found all).long_values
    ∙ ap (table_long_values trees) (number_is t.table.id id (found_passes (λ (x : TableContents). x.table.id == id) contents t found))

by_table : (contents : List TableContents) (id : ℕ) → values_by_table contents id ≡ values_found (contents_with_id contents id)
by_table contents id = at (contents_with_id contents id)
  where
    at : (o : Option TableContents) → (elim o [ Some t ↦ long_values t | None ↦ [] ]) ≡ values_found o
    at None = refl
    at (Some t) = refl

ids_of : (contents : List TableContents) → map (λ (t : TableContents). t.table.id) contents ≡ map (λ (t : Table). t.id) (map (λ (t : TableContents). t.table) contents)
ids_of [] = refl
ids_of (t ∷ contents) = ap (λ (l : List ℕ). t.table.id ∷ l) (ids_of contents)

pub own_values : WalkLaws → (store : OwnStore) → IsOwnStore store → (id : ℕ) → values_by_table (contents_of store) id ≡ table_long_values store.trees.tables id
own_values laws store own id =
    by_table (contents_of store) id
    ∙ values_at (contents_of store) store.trees.tables id (own_contents laws store own)
    (ids_of (contents_of store) ∙ ap (map (λ (t : Table). t.id)) (tables_shown store own)
    ∙ sym (trees_numbers store.frames store.catalog.tables store.trees.catalog.roots store.trees.tables (tables_together store own)))
    (contents_with_id (contents_of store) id) refl
