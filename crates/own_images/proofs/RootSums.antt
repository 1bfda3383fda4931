-- The roots of a table as its catalog's nodes tell them, against the roots as they are kept: the same, in another order.
use Rattle.std.proofs.Common.{◌≡◌, ℕ, ◌+◌, Bool, true, false, not, cond, List, [], ◌∷◌, ◌++◌, Option, Some, refl, sym, ap, subst, ◌∙◌, arith}
use Rattle.std.specs.Prelude.{◌==◌, filter, find, map, nat_lt, unwrap_or, if◌then◌else◌}
use Rattle.std.specs.List.{AllByRecursion, flat_map}
use Rattle.std.specs.Option.{option_map}
use Rattle.std.proofs.lemmas.Bool.Decides.{nat_tests}
use Rattle.std.proofs.lemmas.Grind.{flat_map-append}
use Rattle.catalog_grammar.specs.Catalogs.{by_number, catalog_table, with_number}
use Rattle.common_lemmas.proofs.Lists.{all_filter}
use Rattle.common_lemmas.proofs.Numbers.{self_equal}
use Rattle.database_state.specs.Table.{Table}
use Rattle.index_derive.specs.declared.rules.IndexRule.{IndexRule}
use Rattle.laws_images.specs.SoundStates.{IndexesDiffer}
use Rattle.laws_versions.proofs.HistoryLemmas.Lists.{each_weaker}
use Rattle.laws_versions.specs.History.{EachTwo}
use Rattle.stored_variants.specs.VersionsKept.{secondary_rules}
use Rattle.table_trees.specs.StoredTrees.{StoredRoots, root_behind, told_roots}
use Rattle.table_trees.specs.TreesInSpace.{roots_of_table}
use Rattle.tree_check.specs.Marks.{copies}
use Rattle.image_findings.specs.CatalogFindings.{roots_of}
use Rattle.own_images.proofs.Differing.{each_mapped}
use Rattle.own_images.proofs.MarkCounts.{copies-append}

-- ---- numbers that differ

abbrev pub Unequal : ℕ → ℕ → Type 0
Unequal m n = (m == n) ≡ false

abbrev pub number_of_rule : IndexRule → ℕ
number_of_rule rule = rule.id.0

each_filtered : {X : Type 0} (R : X → X → Type 0) (p : X → Bool) (xs : List X) → EachTwo R xs → EachTwo R (filter p xs)
each_filtered R p [] h = tt
each_filtered {X} R p (x ∷ xs) h = at (p x) (all_filter (R x) p xs h.0) (each_filtered R p xs h.1)
  where
    at : (b : Bool) → AllByRecursion (R x) (filter p xs) → EachTwo R (filter p xs) → EachTwo R (if b then x ∷ filter p xs else filter p xs)
    at true a rest = (a, rest)
    at false a rest = rest

pub secondary_differ : (t : Table) → EachTwo IndexesDiffer t.indexes → EachTwo Unequal (map number_of_rule (secondary_rules t))
secondary_differ t h =
    each_mapped Unequal number_of_rule (secondary_rules t)
    (each_weaker IndexesDiffer (λ r q. Unequal (number_of_rule r) (number_of_rule q)) (λ r q d. d.numbers) (secondary_rules t) (each_filtered IndexesDiffer (λ (rule : IndexRule). not rule.flags.primary) t.indexes h))

-- ---- roots by their numbers

abbrev roots_at : List (ℕ × ℕ) → List ℕ → List ℕ
roots_at roots numbers = map (λ n. root_behind n roots) numbers

others_found : (x : ℕ × ℕ) (roots : List (ℕ × ℕ)) (numbers : List ℕ) → AllByRecursion (Unequal x.0) numbers → roots_at (x ∷ roots) numbers ≡ roots_at roots numbers
others_found x roots [] h = refl
others_found x roots (n ∷ numbers) h = λ i. unwrap_or (option_map (λ (y : ℕ × ℕ). y.1) (cond (h.0 i) (Some x) (find (λ (y : ℕ × ℕ). y.0 == n) roots))) 0 ∷ others_found x roots numbers h.1 i

roots_found : (roots : List (ℕ × ℕ)) → EachTwo Unequal (map (λ (x : ℕ × ℕ). x.0) roots) → roots_at roots (map (λ (x : ℕ × ℕ). x.0) roots) ≡ map (λ (x : ℕ × ℕ). x.1) roots
roots_found [] h = refl
roots_found (x ∷ roots) h =
    ap (λ (b : Bool). unwrap_or (option_map (λ (y : ℕ × ℕ). y.1) (cond b (Some x) (find (λ (y : ℕ × ℕ). y.0 == x.0) roots))) 0 ∷ roots_at (x ∷ roots) (map (λ (y : ℕ × ℕ). y.0) roots)) (self_equal x.0)
    ∙ ap (λ (l : List ℕ). x.1 ∷ l) (others_found x roots (map (λ (y : ℕ × ℕ). y.0) roots) h.0 ∙ roots_found roots h.1)

-- ---- how often a page is below them

abbrev pub rooted_secondary : List (ℕ × ℕ) → List IndexRule → List (ℕ × IndexRule)
rooted_secondary roots rules = filter (λ (index : ℕ × IndexRule). not index.1.flags.primary) (map (λ (rule : IndexRule). (root_behind rule.id.0 roots, rule)) rules)

abbrev own_roots : List (ℕ × ℕ) → List IndexRule → List ℕ
own_roots roots rules = map (λ (index : ℕ × IndexRule). index.0) (rooted_secondary roots rules)

abbrev weight : (ℕ → List ℕ) → ℕ → List (ℕ × ℕ) → IndexRule → ℕ
weight f p roots rule = if rule.flags.primary then 0 else copies p (f (root_behind rule.id.0 roots))

abbrev weights : (ℕ → List ℕ) → ℕ → List (ℕ × ℕ) → List IndexRule → ℕ
weights f p roots [] = 0
weights f p roots (rule ∷ rules) = weight f p roots rule + weights f p roots rules

roots_weigh : (f : ℕ → List ℕ) (p : ℕ) (roots : List (ℕ × ℕ)) (rules : List IndexRule) → copies p (flat_map f (own_roots roots rules)) ≡ weights f p roots rules
roots_weigh f p roots [] = refl
roots_weigh f p roots (rule ∷ rules) = at rule.flags.primary (roots_weigh f p roots rules)
  where
    at : (b : Bool) → copies p (flat_map f (own_roots roots rules)) ≡ weights f p roots rules
        → copies p (flat_map f (map (λ (index : ℕ × IndexRule). index.0) (if not b then (root_behind rule.id.0 roots, rule) ∷ rooted_secondary roots rules else rooted_secondary roots rules))) ≡ (if b then 0 else copies p (f (root_behind rule.id.0 roots))) + weights f p roots rules
    at true h = omega (arith, h)
    at false h = omega (arith, h, copies-append p (f (root_behind rule.id.0 roots)) (flat_map f (own_roots roots rules)))

weights_put : (f : ℕ → List ℕ) (p : ℕ) (roots : List (ℕ × ℕ)) (rule : IndexRule) (rules : List IndexRule) → weights f p roots (with_number rule rules) ≡ weight f p roots rule + weights f p roots rules
weights_put f p roots rule [] = refl
weights_put f p roots rule (other ∷ rules) = at (nat_lt rule.id.0 other.id.0) (weights_put f p roots rule rules)
  where
    at : (b : Bool) → weights f p roots (with_number rule rules) ≡ weight f p roots rule + weights f p roots rules
        → weights f p roots (if b then rule ∷ other ∷ rules else other ∷ with_number rule rules) ≡ weight f p roots rule + (weight f p roots other + weights f p roots rules)
    at true h = refl
    at false h = omega (arith, h)

weights_numbered : (f : ℕ → List ℕ) (p : ℕ) (roots : List (ℕ × ℕ)) (rules : List IndexRule) → weights f p roots (by_number rules) ≡ weights f p roots rules
weights_numbered f p roots [] = refl
weights_numbered f p roots (rule ∷ rules) = weights_put f p roots rule (by_number rules) ∙ ap (λ (n : ℕ). weight f p roots rule + n) (weights_numbered f p roots rules)

abbrev is_secondary : IndexRule → Bool
is_secondary rule = not rule.flags.primary

weights_found : (f : ℕ → List ℕ) (p : ℕ) (roots : List (ℕ × ℕ)) (rules : List IndexRule) → weights f p roots rules ≡ copies p (flat_map f (roots_at roots (map number_of_rule (filter is_secondary rules))))
weights_found f p roots [] = refl
weights_found f p roots (rule ∷ rules) = at rule.flags.primary (weights_found f p roots rules)
  where
    at : (b : Bool) → weights f p roots rules ≡ copies p (flat_map f (roots_at roots (map number_of_rule (filter is_secondary rules))))
        → (if b then 0 else copies p (f (root_behind rule.id.0 roots))) + weights f p roots rules ≡ copies p (flat_map f (roots_at roots (map number_of_rule (if not b then rule ∷ filter is_secondary rules else filter is_secondary rules))))
    at true h = omega (arith, h)
    at false h = omega (arith, h, copies-append p (f (root_behind rule.id.0 roots)) (flat_map f (roots_at roots (map number_of_rule (filter is_secondary rules)))))

same_indexes : (f : ℕ → List ℕ) (p : ℕ) (roots : List (ℕ × ℕ)) (t : Table) → map (λ (x : ℕ × ℕ). x.0) roots ≡ map number_of_rule (secondary_rules t) → EachTwo IndexesDiffer t.indexes
    → copies p (flat_map f (own_roots roots (by_number t.indexes))) ≡ copies p (flat_map f (map (λ (x : ℕ × ℕ). x.1) roots))
same_indexes f p roots t e h =
    roots_weigh f p roots (by_number t.indexes) ∙ weights_numbered f p roots t.indexes ∙ weights_found f p roots t.indexes
    ∙ ap (λ (l : List ℕ). copies p (flat_map f l)) (ap (roots_at roots) (sym e) ∙ roots_found roots (subst (λ (l : List ℕ). EachTwo Unequal l) (sym e) (secondary_differ t h)))

-- so it is for a table
pub same_roots : (f : ℕ → List ℕ) (p : ℕ) (r : StoredRoots) (t : Table) → map (λ (x : ℕ × ℕ). x.0) r.indexes ≡ map number_of_rule (secondary_rules t) → EachTwo IndexesDiffer t.indexes
    → copies p (flat_map f (roots_of (catalog_table (t, told_roots r)))) ≡ copies p (flat_map f (roots_of_table r))
same_roots f p r t e h =
    let own = own_roots r.indexes (by_number t.indexes) in
    let kept = map (λ (x : ℕ × ℕ). x.1) r.indexes in
    let tail : List ℕ = r.long_values ∷ [] in
    omega (
      arith,
      same_indexes f p r.indexes t e h,
      copies-append p (f r.records) (flat_map f (own ++ tail)),
      ap (copies p) (flat_map-append f own tail),
      copies-append p (flat_map f own) (flat_map f tail),
      copies-append p (f r.long_values) [],
      copies-append p (f r.records) (f r.long_values ++ flat_map f kept),
      copies-append p (f r.long_values) (flat_map f kept),
    )
