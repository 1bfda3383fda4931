-- A node that comes beside another with other data, and nodes that go one after the other.
use Rattle.std.proofs.Common.{◌≡◌, ℕ, Bool, true, false, cond, inl, inr, Option, Some, None, List, [], ◌∷◌, ◌++◌, refl, sym, ap, ◌∙◌}
use Rattle.std.specs.Prelude.{find}
use Rattle.std.specs.Ordering.{nat_cmp, is_lt}
use Rattle.std.specs.Cmp.Lexicographic.{slice_cmp}
use Rattle.std.proofs.lemmas.Bool.{cases_Bool}
use Rattle.page_image.specs.Page.{Node}
use Rattle.btree_inplace.specs.Changes.{inserted, with_data_at, without_key}
use Rattle.btree_inplace.specs.Order.{has_key}
use Rattle.catalog_grammar.specs.CatalogBytes.{item_key}
use Rattle.catalog_grammar.specs.declared.items.CatalogItem.{CatalogItem}
use Rattle.catalog_grammar.specs.CatalogSteps.{without_items}

abbrev written : List ℕ → List ℕ → Node → Node
written key bytes n = cond (has_key key n) (record n { «data» = bytes }) n

abbrev before : Node → Node → Bool
before m n = is_lt (slice_cmp nat_cmp m.key n.key)

written-key : (key bytes : List ℕ) (n : Node) → (written key bytes n).key ≡ n.key
written-key key bytes n = elim (cases_Bool (has_key key n)) [
  | inl is ↦ ap (λ (b : Bool). (cond b (record n { «data» = bytes }) n).key) is
  | inr other ↦ ap (λ (b : Bool). (cond b (record n { «data» = bytes }) n).key) other
]

-- ---- other data beside a new node

pub data_inserted : (nodes : List Node) (n : Node) (key bytes : List ℕ) → has_key key n ≡ false → with_data_at (inserted nodes n) key bytes ≡ inserted (with_data_at nodes key bytes) n
data_inserted [] n key bytes other = ap (λ (b : Bool). cond b (record n { «data» = bytes }) n ∷ []) other
data_inserted (m ∷ ms) n key bytes other =
    let w = written key bytes in
    let rest = with_data_at ms key bytes in
    by_test (before m n) (data_inserted ms n key bytes other)
    ∙ ap (λ (k : List ℕ). cond (is_lt (slice_cmp nat_cmp k n.key)) (w m ∷ inserted rest n) (n ∷ w m ∷ rest)) (sym (written-key key bytes m))
  where
    by_test : (t : Bool) → with_data_at (inserted ms n) key bytes ≡ inserted (with_data_at ms key bytes) n → with_data_at (cond t (m ∷ inserted ms n) (n ∷ m ∷ ms)) key bytes ≡ cond t (written key bytes m ∷ inserted (with_data_at ms key bytes) n) (n ∷ written key bytes m ∷ with_data_at ms key bytes)
    by_test true e = ap (λ (l : List Node). written key bytes m ∷ l) e
    by_test false e = ap (λ (b : Bool). cond b (record n { «data» = bytes }) n ∷ written key bytes m ∷ with_data_at ms key bytes) other

pub found_beside : (nodes : List Node) (n : Node) (key : List ℕ) → has_key key n ≡ false → find (has_key key) (inserted nodes n) ≡ find (has_key key) nodes
found_beside [] n key other = ap (λ (b : Bool). cond b (Some n) None) other
found_beside (m ∷ ms) n key other = by_test (before m n) (found_beside ms n key other)
  where
    by_test : (t : Bool) → find (has_key key) (inserted ms n) ≡ find (has_key key) ms → find (has_key key) (cond t (m ∷ inserted ms n) (n ∷ m ∷ ms)) ≡ find (has_key key) (m ∷ ms)
    by_test true e = ap (λ (o : Option Node). cond (has_key key m) (Some m) o) e
    by_test false e = ap (λ (b : Bool). cond b (Some n) (find (has_key key) (m ∷ ms))) other

-- no node has a key, where none has it once one of them has other data
pub absent_before : (nodes : List Node) (key at bytes : List ℕ) → find (has_key key) (with_data_at nodes at bytes) ≡ None → find (has_key key) nodes ≡ None
absent_before [] key at bytes none = refl
absent_before (m ∷ ms) key at bytes none =
    let rest = find (has_key key) (with_data_at ms at bytes) in
    let w = written at bytes m in
    let same : has_key key w ≡ has_key key m = ap (λ (k : List ℕ). has_key key (record m { key = k })) (written-key at bytes m) in
    elim (cases_Bool (has_key key m)) [
      | inl is ↦ absurd (never w (ap (λ (b : Bool). cond b (Some w) rest) (sym (same ∙ is)) ∙ none))
      | inr other ↦ ap (λ (b : Bool). cond b (Some m) (find (has_key key) ms)) other ∙ absent_before ms key at bytes (ap (λ (b : Bool). cond b (Some w) rest) (sym (same ∙ other)) ∙ none)
    ]
  where
    never : (n : Node) → Some n ≡ None → ⊥
    never n e = cc

-- ---- nodes that go

pub one_more_goes : (items : List CatalogItem) (x : CatalogItem) (nodes : List Node) → without_items (items ++ x ∷ []) nodes ≡ without_key (without_items items nodes) (item_key x)
one_more_goes [] x nodes = refl
one_more_goes (y ∷ items) x nodes = one_more_goes items x (without_key nodes (item_key y))
