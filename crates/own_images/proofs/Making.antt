-- Indexes by rising number, put in their order of making again.
use Rattle.std.proofs.Common.{◌≡◌, ◌<◌, ℕ, Bool, true, false, List, [], ◌∷◌, refl, sym, ap, ◌∙◌, arith}
use Rattle.std.specs.Prelude.{nat_lt, map, if◌then◌else◌}
use Rattle.std.specs.List.{AllByRecursion}
use Rattle.std.proofs.lemmas.Bool.Decides.{nat_tests}
use Rattle.catalog_grammar.specs.Catalogs.{TableRoots, by_number, catalog_table, with_number}
use Rattle.common_lemmas.proofs.Booleans.{by_test}
use Rattle.common_lemmas.proofs.Lists.{all_weaker}
use Rattle.database_state.specs.Table.{Table}
use Rattle.index_derive.specs.declared.rules.IndexRule.{IndexRule}
use Rattle.jet_catalog.specs.Catalog.{without_rows}
use Rattle.laws_images.specs.SoundStates.{IndexesDiffer}
use Rattle.laws_versions.specs.History.{EachTwo}
use Rattle.image_findings.specs.CatalogFindings.{in_order_of_making, table_of, with_order}

lower : (a b : ℕ) → a < b → nat_lt a b ≡ true
lower a b h = grind (arith, nat_tests, h)

not_lower : (a b : ℕ) → a < b → nat_lt b a ≡ false
not_lower a b h = grind (arith, nat_tests, h)

later_too : (a b o : ℕ) → a < b → nat_lt a o ≡ false → nat_lt b o ≡ false
later_too a b o h e = grind (arith, nat_tests, h, e)

-- ---- one more

put_first : (rule other : IndexRule) (rules : List IndexRule) → nat_lt rule.order other.order ≡ true → with_order rule (other ∷ rules) ≡ rule ∷ other ∷ rules
put_first rule other rules e = ap (λ (b : Bool). if b then rule ∷ other ∷ rules else other ∷ with_order rule rules) e

put_later : (rule other : IndexRule) (rules : List IndexRule) → nat_lt rule.order other.order ≡ false → with_order rule (other ∷ rules) ≡ other ∷ with_order rule rules
put_later rule other rules e = ap (λ (b : Bool). if b then rule ∷ other ∷ rules else other ∷ with_order rule rules) e

-- two come in either order
swapped : (a b : IndexRule) (rules : List IndexRule) → a.order < b.order → with_order a (with_order b rules) ≡ with_order b (with_order a rules)
swapped a b [] lt = put_first a b [] (lower a.order b.order lt) ∙ sym (put_later b a [] (not_lower a.order b.order lt))
swapped a b (o ∷ os) lt =
    by_test (nat_lt a.order o.order)
    (λ first. by_test (nat_lt b.order o.order)
    (λ both. ap (with_order a) (put_first b o os both) ∙ put_first a b (o ∷ os) (lower a.order b.order lt)
    ∙ sym (ap (with_order b) (put_first a o os first) ∙ put_later b a (o ∷ os) (not_lower a.order b.order lt) ∙ ap (λ (l : List IndexRule). a ∷ l) (put_first b o os both)))
    (λ later. ap (with_order a) (put_later b o os later) ∙ put_first a o (with_order b os) first
    ∙ sym (ap (with_order b) (put_first a o os first) ∙ put_later b a (o ∷ os) (not_lower a.order b.order lt) ∙ ap (λ (l : List IndexRule). a ∷ l) (put_later b o os later))))
    (λ later.
    let behind = later_too a.order b.order o.order lt later in
    ap (with_order a) (put_later b o os behind) ∙ put_later a o (with_order b os) later ∙ ap (λ (l : List IndexRule). o ∷ l) (swapped a b os lt)
    ∙ sym (ap (with_order b) (put_later a o os later) ∙ put_later b o (with_order a os) behind))

-- ---- all of them

abbrev IsBefore : IndexRule → IndexRule → Type 0
IsBefore rule other = rule.order < other.order

number_first : (rule other : IndexRule) (rules : List IndexRule) → nat_lt rule.id.0 other.id.0 ≡ true → with_number rule (other ∷ rules) ≡ rule ∷ other ∷ rules
number_first rule other rules e = ap (λ (b : Bool). if b then rule ∷ other ∷ rules else other ∷ with_number rule rules) e

number_later : (rule other : IndexRule) (rules : List IndexRule) → nat_lt rule.id.0 other.id.0 ≡ false → with_number rule (other ∷ rules) ≡ other ∷ with_number rule rules
number_later rule other rules e = ap (λ (b : Bool). if b then rule ∷ other ∷ rules else other ∷ with_number rule rules) e

all_put : (P : IndexRule → Type 0) (rule : IndexRule) (rules : List IndexRule) → P rule → AllByRecursion P rules → AllByRecursion P (with_number rule rules)
all_put P rule [] h all = (h, tt)
all_put P rule (other ∷ rules) h all = put (nat_lt rule.id.0 other.id.0) (all_put P rule rules h all.1)
  where
    put : (b : Bool) → AllByRecursion P (with_number rule rules) → AllByRecursion P (if b then rule ∷ other ∷ rules else other ∷ with_number rule rules)
    put true rest = (h, (all.0, all.1))
    put false rest = (all.0, rest)

pub all_numbered : (P : IndexRule → Type 0) (rules : List IndexRule) → AllByRecursion P rules → AllByRecursion P (by_number rules)
all_numbered P [] all = tt
all_numbered P (rule ∷ rules) all = all_put P rule (by_number rules) all.0 (all_numbered P rules all.1)

put_in_order : (rule : IndexRule) (rules : List IndexRule) → AllByRecursion (IsBefore rule) rules → in_order_of_making (with_number rule rules) ≡ with_order rule (in_order_of_making rules)
put_in_order rule [] before = refl
put_in_order rule (other ∷ rules) before =
    by_test (nat_lt rule.id.0 other.id.0)
    (λ first. ap in_order_of_making (number_first rule other rules first))
    (λ later. ap in_order_of_making (number_later rule other rules later) ∙ ap (with_order other) (put_in_order rule rules before.1) ∙ sym (swapped rule other (in_order_of_making rules) before.0))

in_front : (rule : IndexRule) (rules : List IndexRule) → AllByRecursion (IsBefore rule) rules → with_order rule rules ≡ rule ∷ rules
in_front rule [] before = refl
in_front rule (other ∷ rules) before = put_first rule other rules (lower rule.order other.order before.0)

pub made_again : (rules : List IndexRule) → EachTwo IndexesDiffer rules → in_order_of_making (by_number rules) ≡ rules
made_again [] h = refl
made_again (rule ∷ rules) h =
    let before : AllByRecursion (IsBefore rule) rules = all_weaker (IndexesDiffer rule) (IsBefore rule) (λ other d. d.orders) rules h.0 in
    put_in_order rule (by_number rules) (all_numbered (IsBefore rule) rules before)
    ∙ ap (with_order rule) (made_again rules h.1)
    ∙ in_front rule rules before

-- ---- tables

without_roots : (root : ℕ → ℕ) (rules : List IndexRule) → map (λ (index : ℕ × IndexRule). index.1) (map (λ (rule : IndexRule). (root rule.id.0, rule)) rules) ≡ rules
without_roots root [] = refl
without_roots root (rule ∷ rules) = ap (λ (l : List IndexRule). rule ∷ l) (without_roots root rules)

abbrev with_rules : Table → List IndexRule → Table
with_rules t rules = record t { indexes = rules; rows = [] }

pub table_again : (t : Table) (roots : TableRoots) → EachTwo IndexesDiffer t.indexes → table_of (catalog_table (t, roots)) ≡ without_rows t
table_again t roots h = ap (λ (rules : List IndexRule). with_rules t (in_order_of_making rules)) (without_roots roots.indexes (by_number t.indexes)) ∙ ap (with_rules t) (made_again t.indexes h)
