-- What a table's tree of long values has, and becomes.
use Rattle.std.proofs.Common.{◌≡◌, ℕ, suc, ◌<◌, List, Option, Some, None, option_map, refl, sym, ap, true≢false}
use Rattle.std.specs.Prelude.{IsSome, IsSomeAnd, unwrap_or}
use Rattle.page_space.specs.Frames.{Frames}
use Rattle.btree_inplace.specs.Trees.{Exchanges}
use Rattle.long_value.specs.Stores.{HasValues, HoldsValue, id_bytes, own_pages}
use Rattle.long_value.specs.Values.{LongValue, Values, put_value, released, value_of, with_reference, without_reference}
use Rattle.long_value.specs.declared.values.LongId.{LongId}
use Rattle.table_trees.specs.LongTrees.{IsLongTree, LongBecomes, long_pages, long_root, long_values_in}
use Rattle.table_trees.specs.declared.long_values.LongTree.{LongTree}
use Rattle.table_trees.proofs.NodeChanges.{TreePagesAreOwn}
use Rattle.table_trees.proofs.Pages.{rearranged}
use Rattle.table_trees.proofs.TableChanges.{ValuesAreShown, has_shown}

-- ---- what is there

pub some_is : {X : Type 0} (o : Option X) → IsSome o → (x : X) × (o ≡ Some x)
some_is None h = absurd (true≢false (sym h))
some_is (Some x) h = (x, refl)

pub some_has : {X : Type 0} (o : Option X) (P : X → Type 0) → IsSomeAnd o P → (x : X) × (o ≡ Some x) × P x
some_has None P h = absurd h
some_has (Some x) P h = (x, refl, h)

pub some_with : {X : Type 0} (o : Option X) (P : X → Type 0) → IsSome o → ((x : X) → o ≡ Some x → P x) → IsSomeAnd o P
some_with None P h f = absurd (true≢false (sym h))
some_with (Some x) P h f = f x refl

pub some_and : {X : Type 0} (o : Option X) (P : X → Type 0) → IsSomeAnd o P → IsSome o
some_and None P h = absurd h
some_and (Some x) P h = refl

pub held : (frames : Frames) (long : LongTree) (id : LongId) → IsLongTree frames long → IsSome (value_of (id_bytes id) (long_values_in frames long)) → (value : LongValue) × HoldsValue frames long.store id value
held frames long id is there =
    let found = some_is (value_of (id_bytes id) (long_values_in frames long)) there in
    (found.0, (long_values_in frames long, is, found.1))

pub held_few : (frames : Frames) (long : LongTree) (id : LongId) → IsLongTree frames long → IsSomeAnd (value_of (id_bytes id) (long_values_in frames long)) (λ value. value.count < 4294967295)
    → (value : LongValue) × HoldsValue frames long.store id value × (value.count < 4294967295)
held_few frames long id is there =
    let found = some_has (value_of (id_bytes id) (long_values_in frames long)) (λ value. value.count < 4294967295) there in
    (found.0, (long_values_in frames long, is, found.1), found.2)

pub told : (frames : Frames) (long : LongTree) (id : LongId) (P : LongValue → Type 0) → IsLongTree frames long → IsSome (value_of (id_bytes id) (long_values_in frames long)) → ((value : LongValue) → HoldsValue frames long.store id value → P value)
    → IsSomeAnd (value_of (id_bytes id) (long_values_in frames long)) P
told frames long id P is there f =
    some_with (value_of (id_bytes id) (long_values_in frames long)) P there (λ value e. f value (long_values_in frames long, is, e))

-- ---- one reference more or less

pub referred : (id : List ℕ) (value : LongValue) (values : Values) → value_of id values ≡ Some value → put_value id (record value { count = suc value.count }) values ≡ with_reference id values
referred id value values e = ap (λ (o : Option LongValue). unwrap_or (option_map (λ (v : LongValue). put_value id (record v { count = suc v.count }) values) o) values) (sym e)

pub unreferred : (id : List ℕ) (value : LongValue) (values : Values) → value_of id values ≡ Some value → released id value values ≡ without_reference id values
unreferred id value values e = ap (λ (o : Option LongValue). unwrap_or (option_map (λ (v : LongValue). released id v values) o) values) (sym e)

-- ---- what the tree becomes

pub becomes : ValuesAreShown → TreePagesAreOwn → (old : Frames) (was : LongTree) (new : Frames) (is : LongTree) (before after : Values) → HasValues old was.store before → HasValues new is.store after → Exchanges old new (own_pages old was.store) (own_pages new is.store)
    → long_root is ≡ long_root was → LongBecomes old was new is after
becomes shown own old was new is before after had has e root = record {
  tree = has_shown shown new is.store after has;
  values_are = shown new is.store after has;
  pages = rearranged old new (long_pages old was) (long_pages new is) e (own old was.store.tree had.tree) (own new is.store.tree has.tree);
  root = root;
}
