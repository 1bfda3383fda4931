-- The first parts of whole values.
use Rattle.std.proofs.Common.{◌≡◌, ℕ, List, [], ◌∷◌, length, take, Option, Some, None, refl, sym, ap, ◌∙◌, cond, Bool}
use Rattle.std.specs.Prelude.{IfSome, option_map}
use Rattle.std.specs.List.{AllByRecursion}
use Rattle.std.specs.Ordering.{is_eq}
use Rattle.btree_inplace.specs.Order.{get_in}
use Rattle.btree_inplace.specs.Trees.{nodes_of}
use Rattle.common_lemmas.proofs.Booleans.{by_test}
use Rattle.common_lemmas.proofs.Options.{none_some}
use Rattle.image_findings.specs.TableContents.{TableContents, long_values}
use Rattle.image_opening.specs.OpenedTrees.{HasContents}
use Rattle.image_opening.specs.declared.opened.OpenedTable.{OpenedTable}
use Rattle.long_value.specs.ChangedValues.{same_key}
use Rattle.long_value.specs.Values.{LongValue, Values, chunk_key, nodes_of_values, order, value_of}
use Rattle.page_image.specs.Page.{Node}
use Rattle.page_space.specs.Frames.{Frames}
use Rattle.image_contents.specs.FirstParts.{HasFirstPart, HaveFirstParts}
use Rattle.image_contents.specs.WholeValues.{HasWholeValues, IsWhole}
use Rattle.image_contents.proofs.First.{first_chunk}

-- a value that is there has an identifier of twelve bytes
named : (id : List ℕ) (value : LongValue) (values : Values) → AllByRecursion IsWhole values → value_of id values ≡ Some value → length id ≡ 12
named id value [] whole is = none_some value is
named id value (row ∷ values) whole is =
    by_test (is_eq (order id row.0))
    (λ t. ap (λ (i : List ℕ). length i) (same_key id row.0 t) ∙ whole.0.id)
    (λ f. named id value values whole.1 (sym (ap (λ (b : Bool). cond b (Some row.1) (value_of id values)) f) ∙ is))

part_of : (nodes : List Node) (id : List ℕ) (values : Values) → nodes ≡ nodes_of_values values → ((value : LongValue) → value_of id values ≡ Some value → get_in (nodes_of_values values) (chunk_key id 1) ≡ option_map (λ (v : LongValue). take 1024 v.bytes) (value_of id values))
    → (o : Option LongValue) → value_of id values ≡ o → IfSome o (HasFirstPart nodes id)
part_of nodes id values are first None is = tt
part_of nodes id values are first (Some value) is = ap (λ (l : List Node). get_in l (chunk_key id 1)) are ∙ first value is ∙ ap (option_map (λ (v : LongValue). take 1024 v.bytes)) is

pub first_parts : (frames : Frames) (table : OpenedTable) (t : TableContents) → HasContents frames table t → HasWholeValues frames table.long_values (long_values t) → HaveFirstParts t.value_nodes
first_parts frames table t has whole id =
    part_of t.value_nodes id (long_values t) (sym has.values_are ∙ whole.nodes) (λ value is. first_chunk id (long_values t) (named id value (long_values t) whole.whole is) whole.in_order whole.whole) (value_of id (long_values t)) refl
