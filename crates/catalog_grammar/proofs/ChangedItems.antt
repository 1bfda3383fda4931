-- Nodes of rising items, with one of them more, less or changed.
use Rattle.std.proofs.Common.{◌≡◌, ℕ, Bool, true, false, cond, List, [], ◌∷◌, ◌++◌, length, Some, None, refl, sym, ap, ◌∙◌}
use Rattle.std.specs.Prelude.{find, map, not}
use Rattle.std.specs.Ordering.{nat_cmp, is_eq, is_lt, ordering_reverse}
use Rattle.std.specs.declared.cmp.Ordering.{Ordering}
use Rattle.std.specs.declared.cmp.Ordering.TheVariants.{Less}
use Rattle.std.specs.Cmp.Lexicographic.{slice_cmp, nat_list_cmp_total}
use Rattle.std.proofs.lemmas.Cmp.{tied_itself}
use Rattle.page_image.specs.Page.{Node}
use Rattle.btree_inplace.specs.Changes.{inserted, with_data_at, without_key}
use Rattle.btree_inplace.specs.Order.{has_key}
use Rattle.catalog_grammar.specs.CatalogBytes.{item_data, item_key, item_node}
use Rattle.catalog_grammar.specs.declared.items.CatalogItem.{CatalogItem}
use Rattle.catalog_grammar.proofs.Rising.{Below, Each, Rise}

-- ---- keys

abbrev order : List ℕ → List ℕ → Ordering
order = slice_cmp nat_cmp

less_is_lt : (r : Ordering) → r ≡ Less → is_lt r ≡ true
less_is_lt r e = ap is_lt e

less_not_eq : (r : Ordering) → r ≡ Less → is_eq r ≡ false
less_not_eq r e = ap is_eq e

turned_not_lt : (a b : List ℕ) → order a b ≡ Less → is_lt (order b a) ≡ false
turned_not_lt a b e = ap is_lt (nat_list_cmp_total.antisymm b a) ∙ ap (λ r. is_lt (ordering_reverse r)) e

turned_not_eq : (a b : List ℕ) → order a b ≡ Less → is_eq (order b a) ≡ false
turned_not_eq a b e = ap is_eq (nat_list_cmp_total.antisymm b a) ∙ ap (λ r. is_eq (ordering_reverse r)) e

itself : (a : List ℕ) → is_eq (order a a) ≡ true
itself a = ap is_eq (tied_itself nat_list_cmp_total a)

-- ---- the items before and behind one of them

pub record Splits (front : List CatalogItem) (x : CatalogItem) (behind : List CatalogItem) : Type 0 where
  pub low : Each (λ p. Below p x) front
  pub high : Each (Below x) behind

each_at : (P : CatalogItem → Type 0) (front : List CatalogItem) (x : CatalogItem) (behind : List CatalogItem) → Each P (front ++ x ∷ behind) → P x
each_at P [] x behind h = h.0
each_at P (p ∷ front) x behind h = each_at P front x behind h.1

pub splits : (front : List CatalogItem) (x : CatalogItem) (behind : List CatalogItem) → Rise (front ++ x ∷ behind) → Splits front x behind
splits [] x behind h = record { low = tt; high = h.0 }
splits (p ∷ front) x behind h =
    let rest = splits front x behind h.1 in
    record { low = (each_at (Below p) front x behind h.0, rest.low); high = rest.high }

-- ---- one more

pub added : (front : List CatalogItem) (x : CatalogItem) (behind : List CatalogItem) → Splits front x behind → inserted (map item_node (front ++ behind)) (item_node x) ≡ map item_node (front ++ x ∷ behind)
added [] x [] s = refl
added [] x (y ∷ ys) s =
    ap (λ (b : Bool). cond b (item_node y ∷ inserted (map item_node ys) (item_node x)) (item_node x ∷ item_node y ∷ map item_node ys)) (turned_not_lt (item_key x) (item_key y) s.high.0)
added (p ∷ front) x behind s =
    ap (λ (b : Bool). cond b (item_node p ∷ inserted (map item_node (front ++ behind)) (item_node x)) (item_node x ∷ item_node p ∷ map item_node (front ++ behind))) (less_is_lt (order (item_key p) (item_key x)) s.low.0)
    ∙ ap (λ (l : List Node). item_node p ∷ l) (added front x behind (record { low = s.low.1; high = s.high }))

-- ---- none with the key

no_key_behind : (x : CatalogItem) (items : List CatalogItem) → Each (Below x) items → find (has_key (item_key x)) (map item_node items) ≡ None
no_key_behind x [] h = refl
no_key_behind x (y ∷ ys) h =
    ap (λ (b : Bool). cond b (Some (item_node y)) (find (has_key (item_key x)) (map item_node ys))) (turned_not_eq (item_key x) (item_key y) h.0)
    ∙ no_key_behind x ys h.1

pub absent : (front : List CatalogItem) (x : CatalogItem) (behind : List CatalogItem) → Splits front x behind → find (has_key (item_key x)) (map item_node (front ++ behind)) ≡ None
absent [] x behind s = no_key_behind x behind s.high
absent (p ∷ front) x behind s =
    ap (λ (b : Bool). cond b (Some (item_node p)) (find (has_key (item_key x)) (map item_node (front ++ behind)))) (less_not_eq (order (item_key p) (item_key x)) s.low.0)
    ∙ absent front x behind (record { low = s.low.1; high = s.high })

pub there : (front : List CatalogItem) (x : CatalogItem) (behind : List CatalogItem) → Splits front x behind → find (has_key (item_key x)) (map item_node (front ++ x ∷ behind)) ≡ Some (item_node x)
there [] x behind s = ap (λ (b : Bool). cond b (Some (item_node x)) (find (has_key (item_key x)) (map item_node behind))) (itself (item_key x))
there (p ∷ front) x behind s =
    ap (λ (b : Bool). cond b (Some (item_node p)) (find (has_key (item_key x)) (map item_node (front ++ x ∷ behind)))) (less_not_eq (order (item_key p) (item_key x)) s.low.0)
    ∙ there front x behind (record { low = s.low.1; high = s.high })

-- ---- one less

all_kept : (x : CatalogItem) (items : List CatalogItem) → Each (Below x) items → without_key (map item_node items) (item_key x) ≡ map item_node items
all_kept x [] h = refl
all_kept x (y ∷ ys) h =
    ap (λ (b : Bool). cond (not b) (item_node y ∷ without_key (map item_node ys) (item_key x)) (without_key (map item_node ys) (item_key x))) (turned_not_eq (item_key x) (item_key y) h.0)
    ∙ ap (λ (l : List Node). item_node y ∷ l) (all_kept x ys h.1)

pub removed : (front : List CatalogItem) (x : CatalogItem) (behind : List CatalogItem) → Splits front x behind → without_key (map item_node (front ++ x ∷ behind)) (item_key x) ≡ map item_node (front ++ behind)
removed [] x behind s =
    ap (λ (b : Bool). cond (not b) (item_node x ∷ without_key (map item_node behind) (item_key x)) (without_key (map item_node behind) (item_key x))) (itself (item_key x))
    ∙ all_kept x behind s.high
removed (p ∷ front) x behind s =
    ap (λ (b : Bool). cond (not b) (item_node p ∷ without_key (map item_node (front ++ x ∷ behind)) (item_key x)) (without_key (map item_node (front ++ x ∷ behind)) (item_key x))) (less_not_eq (order (item_key p) (item_key x)) s.low.0)
    ∙ ap (λ (l : List Node). item_node p ∷ l) (removed front x behind (record { low = s.low.1; high = s.high }))

-- ---- other data

abbrev written : List ℕ → List ℕ → Node → Node
written key bytes n = cond (has_key key n) (record n { «data» = bytes }) n

data_kept : (x : CatalogItem) (bytes : List ℕ) (items : List CatalogItem) → Each (Below x) items → with_data_at (map item_node items) (item_key x) bytes ≡ map item_node items
data_kept x bytes [] h = refl
data_kept x bytes (y ∷ ys) h =
    ap (λ (b : Bool). cond b (record (item_node y) { «data» = bytes }) (item_node y) ∷ with_data_at (map item_node ys) (item_key x) bytes) (turned_not_eq (item_key x) (item_key y) h.0)
    ∙ ap (λ (l : List Node). item_node y ∷ l) (data_kept x bytes ys h.1)

-- an item of the same key, with as many bytes
pub changed : (front : List CatalogItem) (x now : CatalogItem) (behind : List CatalogItem) → Splits front x behind → item_key now ≡ item_key x → length (item_data now) ≡ length (item_data x) → with_data_at (map item_node (front ++ x ∷ behind)) (item_key now) (item_data now) ≡ map item_node (front ++ now ∷ behind)
changed front x now behind s same long =
    ap (λ (k : List ℕ). with_data_at (map item_node (front ++ x ∷ behind)) k (item_data now)) same ∙ step front s
  where
    one : record (item_node x) { «data» = item_data now } ≡ item_node now
    one = λ i. record { key = sym same i; extent = sym long i; «data» = item_data now }

    step : (front : List CatalogItem) → Splits front x behind → with_data_at (map item_node (front ++ x ∷ behind)) (item_key x) (item_data now) ≡ map item_node (front ++ now ∷ behind)
    step [] s =
        ap (λ (b : Bool). cond b (record (item_node x) { «data» = item_data now }) (item_node x) ∷ with_data_at (map item_node behind) (item_key x) (item_data now)) (itself (item_key x))
        ∙ ap (λ (n : Node). n ∷ with_data_at (map item_node behind) (item_key x) (item_data now)) one
        ∙ ap (λ (l : List Node). item_node now ∷ l) (data_kept x (item_data now) behind s.high)
    step (p ∷ front) s =
        ap (λ (b : Bool). cond b (record (item_node p) { «data» = item_data now }) (item_node p) ∷ with_data_at (map item_node (front ++ x ∷ behind)) (item_key x) (item_data now)) (less_not_eq (order (item_key p) (item_key x)) s.low.0)
        ∙ ap (λ (l : List Node). item_node p ∷ l) (step front (record { low = s.low.1; high = s.high }))
