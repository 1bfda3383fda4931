-- The catalog of one table takes an index without segments and conditions.
use Rattle.std.proofs.Common.{◌≡◌, ℕ, false, List, [], refl, sym, subst, ◌∙◌, arith, codes}
use Rattle.jet_base.specs.Ids.{index_id, table_id}
use Rattle.index_derive.specs.Flags.{no_flags}
use Rattle.index_derive.specs.declared.rules.Condition.{Condition}
use Rattle.index_derive.specs.declared.rules.IndexRule.{IndexRule}
use Rattle.index_derive.specs.declared.rules.Segment.{Segment}
use Rattle.database_state.specs.SchemaChanges.{new_table}
use Rattle.catalog_record.specs.CatalogsKept.{TakesIndex}
use Rattle.tests_tables.specs.OneTable.{one_table, roots}
use Rattle.tests_tables.proofs.steps.a_new_index_has_a_node.Goals as goal

abbrev index_rule : List ℕ → List Segment → List Condition → IndexRule
index_rule name segments conditions = record {
  id = index_id 1;
  name = name;
  order = 1;
  segments = segments;
  flags = no_flags;
  conditions = conditions;
  key_most = 255;
}

takes : (name : List ℕ) (segments : List Segment) (conditions : List Condition) → name ≡ codes "i" → segments ≡ [] → conditions ≡ [] → TakesIndex roots one_table (table_id 1) 7 (index_rule name segments conditions)
takes name segments conditions n s c =
    subst (λ (x : List ℕ). TakesIndex roots one_table (table_id 1) 7 (index_rule x segments conditions)) (sym n)
    (subst (λ (x : List Segment). TakesIndex roots one_table (table_id 1) 7 (index_rule (codes "i") x conditions)) (sym s)
    (subst (λ (x : List Condition). TakesIndex roots one_table (table_id 1) 7 (index_rule (codes "i") [] x)) (sym c)
    (record { t = new_table 1 (codes "t"); there = refl; fits = refl; new = refl; number = omega arith; root_is = refl })))

pub create_index-requires : goal.create_index-requires
create_index-requires g c = (roots, one_table, c.in_ok-catalog.ensures, takes c.in_ok-new.field-0 c.new-3.result c.new-5.result c.in_ok-new.ensures (c.new-3.ensures ∙ c.new-2.ensures.items) (c.new-5.ensures ∙ c.new-4.ensures.items))

pub get-requires : goal.get-requires
get-requires g c = (c.in_ok-create_index.ensures.ok roots one_table c.in_ok-catalog.ensures (takes c.in_ok-new.field-0 c.new-3.result c.new-5.result c.in_ok-new.ensures (c.new-3.ensures ∙ c.new-2.ensures.items) (c.new-5.ensures ∙ c.new-4.ensures.items))).0.tree
