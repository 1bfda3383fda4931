-- What has a name of its own is found by it, and names are the same with and without records.
use Rattle.std.proofs.Common.{◌≡◌, ℕ, Bool, true, false, cond, List, [], ◌∷◌, map, Option, Some, None, sym, ap, subst, ◌∙◌, option_map}
use Rattle.std.specs.Prelude.{IfSome, bytes_eq, find}
use Rattle.std.specs.List.{AllByRecursion}
use Rattle.common_lemmas.proofs.Found.{of_found}
use Rattle.common_lemmas.proofs.Lists.{all_map, all_weaker}
use Rattle.common_lemmas.proofs.Numbers.{equal_bytes}
use Rattle.common_lemmas.proofs.Options.{none_some, same_some}
use Rattle.index_derive.specs.declared.rules.IndexRule.{IndexRule}
use Rattle.database_state.specs.State.{DatabaseState}
use Rattle.database_state.specs.Table.{Table, table_with_id}
use Rattle.jet_catalog.specs.Catalog.{without_rows}
use Rattle.laws_versions.specs.History.{EachTwo}
use Rattle.laws_images.specs.SoundStates.{HasSoundCatalog, IndexesDiffer, IsSoundTable, TableNamesDiffer}
use Rattle.soft_recovery.specs.LawfulSteps.{HasOwnParts, HaveOwnNames, IndexNamesDiffer}

-- ---- found by name

-- what a test finds is found by its name too, where no two have one name
pub found_by_name : {X : Type 0} (name : X → List ℕ) (test : X → Bool) (xs : List X) (x : X) → EachTwo (λ one other. bytes_eq (name one) (name other) ≡ false) xs → find test xs ≡ Some x → find (λ y. bytes_eq (name y) (name x)) xs ≡ Some x
found_by_name name test [] x differ e = none_some x e
found_by_name {X} name test (y ∷ xs) x differ e =
    by (test y) e (λ later. of_found (λ (z : X). bytes_eq (name y) (name z) ≡ false) test xs x later differ.0) (found_by_name name test xs x differ.1)
  where
    by : (b : Bool) → cond b (Some y) (find test xs) ≡ Some x → (find test xs ≡ Some x → bytes_eq (name y) (name x) ≡ false) → (find test xs ≡ Some x → find (λ z. bytes_eq (name z) (name x)) xs ≡ Some x)
        → cond (bytes_eq (name y) (name x)) (Some y) (find (λ z. bytes_eq (name z) (name x)) xs) ≡ Some x
    by true e apart rest =
        let is : y ≡ x = same_some y x e in
        let same : bytes_eq (name y) (name x) ≡ true = equal_bytes (name y) (name x) (ap name is) in
        ap (λ b. cond b (Some y) (find (λ z. bytes_eq (name z) (name x)) xs)) same ∙ ap (λ (z : X). Some z) is
    by false e apart rest = ap (λ b. cond b (Some y) (find (λ z. bytes_eq (name z) (name x)) xs)) (apart e) ∙ rest e

-- ---- each two of a list

two_map : {X Y : Type 0} (R : Y → Y → Type 0) (f : X → Y) (xs : List X) → EachTwo (λ one other. R (f one) (f other)) xs → EachTwo R (map f xs)
two_map R f [] h = tt
two_map R f (x ∷ xs) h = (all_map (R (f x)) f xs h.0, two_map R f xs h.1)

all_unmap : {X Y : Type 0} (P : Y → Type 0) (f : X → Y) (xs : List X) → AllByRecursion P (map f xs) → AllByRecursion (λ x. P (f x)) xs
all_unmap P f [] h = tt
all_unmap P f (x ∷ xs) h = (h.0, all_unmap P f xs h.1)

two_unmap : {X Y : Type 0} (R : Y → Y → Type 0) (f : X → Y) (xs : List X) → EachTwo R (map f xs) → EachTwo (λ one other. R (f one) (f other)) xs
two_unmap R f [] h = tt
two_unmap R f (x ∷ xs) h = (all_unmap (R (f x)) f xs h.0, two_unmap R f xs h.1)

two_weaker : {X : Type 0} (R Q : X → X → Type 0) → ((one other : X) → R one other → Q one other) → (xs : List X) → EachTwo R xs → EachTwo Q xs
two_weaker R Q f [] h = tt
two_weaker R Q f (x ∷ xs) h = (all_weaker (R x) (Q x) (f x) xs h.0, two_weaker R Q f xs h.1)

-- ---- tables with the same catalog

abbrev pub FindsWithoutRows : Type 0
FindsWithoutRows = (tables : List Table) (id : ℕ) → table_with_id (map without_rows tables) id ≡ option_map without_rows (table_with_id tables id)

parts-without_rows : (found : Option Table) → IfSome found HasOwnParts → IfSome (option_map without_rows found) HasOwnParts
parts-without_rows None h = tt
parts-without_rows (Some t) h = record { columns = h.columns; indexes = h.indexes }

parts-with_rows : (found : Option Table) → IfSome (option_map without_rows found) HasOwnParts → IfSome found HasOwnParts
parts-with_rows None h = tt
parts-with_rows (Some t) h = record { columns = h.columns; indexes = h.indexes }

pub names_alike : FindsWithoutRows → (tables others : List Table) → map without_rows tables ≡ map without_rows others → HaveOwnNames tables → HaveOwnNames others
names_alike finds tables others same h = record {
  names = two_unmap TableNamesDiffer without_rows others (subst (λ (l : List Table). EachTwo TableNamesDiffer l) same (two_map TableNamesDiffer without_rows tables h.names));
  parts = λ id. parts-with_rows (table_with_id others id)
      (subst (λ (found : Option Table). IfSome found HasOwnParts) (sym (finds tables id) ∙ ap (λ (l : List Table). table_with_id l id) same ∙ finds others id)
      (parts-without_rows (table_with_id tables id) (h.parts id)));
}

-- ---- sound catalogs

sound_parts : (found : Option Table) → IfSome found IsSoundTable → IfSome found HasOwnParts
sound_parts None h = tt
sound_parts (Some t) h = record {
  columns = h.column_names;
  indexes = two_weaker IndexesDiffer IndexNamesDiffer (λ (one other : IndexRule) (d : IndexesDiffer one other). d.names) t.indexes h.indexes_differ;
}

pub sound_names : (state : DatabaseState) → HasSoundCatalog state → HaveOwnNames state.tables
sound_names state h = record { names = h.names; parts = λ id. sound_parts (table_with_id state.tables id) (h.tables id) }
