-- The indexes of a table that have a tree: the rule and the entries of a number.
use Rattle.std.proofs.Common.{◌≡◌, ℕ, Bool, true, false, List, [], ◌∷◌, ◌++◌, cond, Option, Some, None, refl, sym, ap, ◌∙◌}
use Rattle.std.specs.Prelude.{◌==◌, filter, find, map, option_map, unwrap_or, if◌then◌else◌}
use Rattle.std.specs.List.{AllByRecursion}
use Rattle.common_lemmas.proofs.Booleans.{impossible}
use Rattle.common_lemmas.proofs.Finding.{find_map}
use Rattle.common_lemmas.proofs.Options.{none_some, same_some}
use Rattle.database_state.specs.Table.{Table, schema_of}
use Rattle.index_derive.specs.Schemas.{rule_with_id}
use Rattle.index_derive.specs.declared.rules.IndexRule.{IndexRule}
use Rattle.index_tree.specs.Entries.{entry_of_node}
use Rattle.page_image.specs.Page.{Node}
use Rattle.stored_variants.specs.VersionsKept.{only_secondary, secondary_rule, secondary_rules}
use Rattle.table_trees.specs.StoredTables.{StoredIndex, index_entries, is_index}
use Rattle.image_findings.specs.OwnRules.{HasItsNodes}
use Rattle.image_findings.specs.TableContents.{TableContents, contents_with_id}
use Rattle.own_images.proofs.StoreLemmas.Lookups.{indexes_found, trees_of}
use Rattle.own_images.specs.StoredContents.{nodes_of_index, stored_index}

-- ---- the rule of a number, if it has a tree

pub record IsSecondary (table : Table) (index : ℕ) (rule : IndexRule) : Type 0 where
  pub plain : rule.flags.primary ≡ false
  pub found : rule_with_id (schema_of table) index ≡ Some rule

pub is_secondary : (table : Table) (index : ℕ) (rule : IndexRule) → secondary_rule table index ≡ Some rule → IsSecondary table index rule
is_secondary table index rule e = by (rule_with_id (schema_of table) index) refl e
  where
    at : (r : IndexRule) → rule_with_id (schema_of table) index ≡ Some r → (b : Bool) → r.flags.primary ≡ b → (if b then None else Some r) ≡ Some rule → IsSecondary table index rule
    at r f true p g = none_some rule g
    at r f false p g =
        let same : r ≡ rule = same_some r rule g in
        record { plain = ap (λ (x : IndexRule). x.flags.primary) (sym same) ∙ p; found = f ∙ ap Some same }

    by : (o : Option IndexRule) → rule_with_id (schema_of table) index ≡ o → only_secondary o ≡ Some rule → IsSecondary table index rule
    by None f g = none_some rule g
    by (Some r) f g = at r f r.flags.primary refl g

passing : {X : Type 0} (p : X → Bool) (xs : List X) → AllByRecursion (λ x. p x ≡ true) (filter p xs)
passing p [] = tt
passing p (x ∷ xs) = by (p x) refl (passing p xs)
  where
    by : (b : Bool) → p x ≡ b → AllByRecursion (λ y. p y ≡ true) (filter p xs) → AllByRecursion (λ y. p y ≡ true) (cond b (x ∷ filter p xs) (filter p xs))
    by true e rest = (e, rest)
    by false e rest = rest

behind : (p : IndexRule → Bool) (xs ys : List IndexRule) (rule : IndexRule) → AllByRecursion (λ (r : IndexRule). r.flags.primary ≡ true) xs → find p (xs ++ ys) ≡ Some rule → rule.flags.primary ≡ false → find p ys ≡ Some rule
behind p [] ys rule all e plain = e
behind p (x ∷ xs) ys rule all e plain = by (p x) e (λ g. behind p xs ys rule all.1 g plain)
  where
    by : (b : Bool) → cond b (Some x) (find p (xs ++ ys)) ≡ Some rule → (find p (xs ++ ys) ≡ Some rule → find p ys ≡ Some rule) → find p ys ≡ Some rule
    by true g rest = impossible (sym plain ∙ ap (λ (r : IndexRule). r.flags.primary) (sym (same_some x rule g)) ∙ all.0)
    by false g rest = rest g

pub among_secondary : (table : Table) (index : ℕ) (rule : IndexRule) → IsSecondary table index rule → find (λ (r : IndexRule). r.id.0 == index) (secondary_rules table) ≡ Some rule
among_secondary table index rule is =
    behind (λ (r : IndexRule). r.id.0 == index) (filter (λ (r : IndexRule). r.flags.primary) table.indexes) (secondary_rules table) rule (passing (λ (r : IndexRule). r.flags.primary) table.indexes) is.found is.plain

-- ---- its entries in the store

abbrev entries_of : Option StoredIndex → List (List ℕ × List ℕ)
entries_of o = unwrap_or (option_map (λ (x : StoredIndex). x.1) o) []

pub entries_are : (tables : List TableContents) (t : TableContents) (index : ℕ) (rule : IndexRule) → contents_with_id tables t.table.id ≡ Some t → IsSecondary t.table index rule
    → index_entries (trees_of tables) t.table.id index ≡ map entry_of_node (nodes_of_index t rule.id.0)
entries_are tables t index rule found is =
    ap (λ (l : List StoredIndex). entries_of (find (is_index index) l)) (indexes_found tables t.table.id t found)
    ∙ ap entries_of (find_map (stored_index t) (is_index index) (secondary_rules t.table) ∙ ap (option_map (stored_index t)) (among_secondary t.table index rule is))

pub nodes_are : (t : TableContents) (rule : IndexRule) (has : HasItsNodes t rule) → nodes_of_index t rule.id.0 ≡ has.nodes
nodes_are t rule has = ap (λ (o : Option (IndexRule × List Node)). unwrap_or (option_map (λ (index : IndexRule × List Node). index.1) o) []) has.found
