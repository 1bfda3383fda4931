-- The least of some bookmarks, of which the first rise.
use Rattle.std.proofs.Common.{◌≡◌, ℕ, zero, suc, ◌<◌, ◌≤◌, ◌-◌, Bool, true, false, ◌&&◌, ◌==◌, cond, Option, Some, None, List, [], ◌∷◌, ◌++◌, get_or, length, map, drop, filter, find, option_map, Bor, refl, sym, ap, subst, ◌∙◌, arith}
use Rattle.std.specs.Prelude.{is_none, is_some, not, option_copied, slice_get}
use Rattle.std.specs.List.{AllByRecursion}
use Rattle.std.proofs.lemmas.Bool.{eqb-true}
use Rattle.std.specs.Ordering.{is_lt, nat_cmp}
use Rattle.std.specs.Cmp.Lexicographic.{nat_list_cmp_total, slice_cmp}
use Rattle.std.specs.FinMap.Entries.{by_order}
use Rattle.std.specs.declared.cmp.Ordering.{Ordering}
use Rattle.std.specs.declared.cmp.Ordering.TheVariants.{Less, Equal, Greater}
use Rattle.common_lemmas.proofs.Booleans.{by_test, impossible}
use Rattle.common_lemmas.proofs.Lists.{all_filter, all_map}
use Rattle.common_lemmas.proofs.Numbers.{self_equal}
use Rattle.common_lemmas.proofs.Options.{same_some, some_apart}
use Rattle.btree_inplace.specs.Order.{get_in}
use Rattle.database_state.specs.Table.{Table}
use Rattle.image_findings.specs.Images.{Finding, at_least_key, first_key, least_key}
use Rattle.image_findings.specs.RowFindings.{is_sound_node, unsound_bookmarks}
use Rattle.image_findings.specs.TableContents.{TableContents}
use Rattle.image_contents.specs.LeastBookmarks.{is_missing, lesser, missing}
use Rattle.image_contents.specs.RowsRead.{first_unsound}
use Rattle.index_derive.specs.Entries.{insert_key, sorted_keys}
use Rattle.page_image.specs.Page.{HasRisingKeys, IsBelow, Node, no_node}
use Rattle.version_store.specs.HeldChanges.{HeldChange}

pub least_cons : (k : List ℕ) (ks : List (List ℕ)) → least_key (k ∷ ks) ≡ Some (lesser k (least_key ks))
least_cons k ks = by (sorted_keys ks)
  where
    order : (x : List ℕ) (s : List (List ℕ)) (o : Ordering) → first_key (by_order o (k ∷ x ∷ s) (x ∷ s) (x ∷ insert_key k s)) ≡ Some (by_order o k x x)
    order x s Less = refl
    order x s Equal = refl
    order x s Greater = refl

    by : (s : List (List ℕ)) → first_key (insert_key k s) ≡ Some (lesser k (first_key s))
    by [] = refl
    by (x ∷ s) = order x s (slice_cmp nat_cmp k x)

-- where nothing is found at the least of some keys, there are none
pub no_keys : (found : List ℕ → Finding) (keys : List (List ℕ)) → at_least_key found keys ≡ None → keys ≡ []
no_keys found [] h = refl
no_keys found (k ∷ ks) h = absurd (some_apart (found (lesser k (least_key ks))) (sym (ap (option_map found) (least_cons k ks)) ∙ h))

has_one : {X : Type 0} (x : X) (xs : List X) → x ∷ xs ≡ [] → ⊥
has_one x xs e = cc

pub both_empty : {X : Type 0} (xs ys : List X) → xs ++ ys ≡ [] → (xs ≡ []) × (ys ≡ [])
both_empty [] ys e = (refl, e)
both_empty (x ∷ xs) ys e = absurd (has_one x (xs ++ ys) e)

lesser_through : (a b : List ℕ) (o : Option (List ℕ)) → IsBelow a b → lesser a (Some (lesser b o)) ≡ lesser a o
lesser_through a b None low = ap (λ r. by_order r a b b) low
lesser_through a b (Some x) low = by (slice_cmp nat_cmp b x) refl
  where
    by : (r : Ordering) → slice_cmp nat_cmp b x ≡ r → by_order (slice_cmp nat_cmp a (by_order r b x x)) a (by_order r b x x) (by_order r b x x) ≡ by_order (slice_cmp nat_cmp a x) a x x
    by Less e = ap (λ r. by_order r a b b) low ∙ sym (ap (λ r. by_order r a x x) (nat_list_cmp_total.trans a b x low e))
    by Equal e = refl
    by Greater e = refl

least_rising : (a : List ℕ) (keys more : List (List ℕ)) → AllByRecursion (IsBelow a) keys → lesser a (least_key (keys ++ more)) ≡ lesser a (least_key more)
least_rising a [] more low = refl
least_rising a (k ∷ keys) more low = ap (lesser a) (least_cons k (keys ++ more)) ∙ lesser_through a k (least_key (keys ++ more)) low.0 ∙ least_rising a keys more low.1

-- ---- which one is lesser

pub lesser_first : (a b : List ℕ) → is_lt (slice_cmp nat_cmp a b) ≡ true → a ≡ lesser a (Some b)
lesser_first a b = by (slice_cmp nat_cmp a b)
  where
    by : (r : Ordering) → is_lt r ≡ true → a ≡ by_order r a b b
    by Less e = refl
    by Equal e = impossible e
    by Greater e = impossible e

pub lesser_other : (a b : List ℕ) → is_lt (slice_cmp nat_cmp a b) ≡ false → b ≡ lesser a (Some b)
lesser_other a b = by (slice_cmp nat_cmp a b)
  where
    by : (r : Ordering) → is_lt r ≡ false → b ≡ by_order r a b b
    by Less e = impossible (sym e)
    by Equal e = refl
    by Greater e = refl

-- ---- rising keys

above : (n : Node) (nodes : List Node) → ((j : ℕ) → j < length nodes → IsBelow n.key (get_or nodes j no_node).key) → AllByRecursion (λ (m : Node). IsBelow n.key m.key) nodes
above n [] f = tt
above n (m ∷ nodes) f = (f 0 (omega arith), above n nodes (λ j lt. f (suc j) (omega (arith, lt))))

keys_above : (n : Node) (nodes : List Node) → HasRisingKeys (n ∷ nodes) → AllByRecursion (λ (m : Node). IsBelow n.key m.key) nodes
keys_above n nodes h = above n nodes (λ j lt. h 0 (suc j) no_node (omega arith) (omega (arith, lt)))

keys_behind : (n : Node) (nodes : List Node) → HasRisingKeys (n ∷ nodes) → HasRisingKeys nodes
keys_behind n nodes h = λ i j d lt within. h (suc i) (suc j) d (omega (arith, lt)) (omega (arith, within))

-- ---- the first of those that pass a test, before others

abbrev pub least_of : Option (List ℕ) → Option (List ℕ) → Option (List ℕ)
least_of None other = other
least_of (Some key) other = Some (lesser key other)

least_found : (q : Node → Bool) (nodes : List Node) (more : List (List ℕ)) → HasRisingKeys nodes
    → least_key (map (λ (n : Node). n.key) (filter q nodes) ++ more) ≡ least_of (option_map (λ (n : Node). n.key) (find q nodes)) (least_key more)
least_found q [] more rise = refl
least_found q (n ∷ nodes) more rise = by (q n) (least_found q nodes more (keys_behind n nodes rise))
  where
    keys : List (List ℕ)
    keys = map (λ (m : Node). m.key) (filter q nodes)

    by : (b : Bool) → least_key (map (λ (m : Node). m.key) (filter q nodes) ++ more) ≡ least_of (option_map (λ (m : Node). m.key) (find q nodes)) (least_key more)
        → least_key (map (λ (m : Node). m.key) (cond b (n ∷ filter q nodes) (filter q nodes)) ++ more) ≡ least_of (option_map (λ (m : Node). m.key) (cond b (Some n) (find q nodes))) (least_key more)
    by true rest =
        least_cons n.key (keys ++ more)
        ∙ ap Some (least_rising n.key keys more (all_map (IsBelow n.key) (λ (m : Node). m.key) (filter q nodes) (all_filter (λ (m : Node). IsBelow n.key m.key) q nodes (keys_above n nodes rise))))
    by false rest = rest

-- the first node that is not sound, and the least bookmark without a node
pub least_is : (number : ℕ) (held : List HeldChange) (t : TableContents) (found lacking : Option (List ℕ)) → HasRisingKeys t.nodes → found ≡ first_unsound number held t t.nodes → lacking ≡ least_key (missing t.table.id t.nodes held)
    → least_of found lacking ≡ least_key (unsound_bookmarks number held t)
least_is number held t found lacking rise first lack =
    ap (λ o. least_of o lacking) first ∙ ap (least_of (first_unsound number held t t.nodes)) lack ∙ sym (least_found (λ n. not (is_sound_node number held t n)) t.nodes (missing t.table.id t.nodes held) rise)

-- as the rows of a table are read
pub read_is : (number : ℕ) (held : List HeldChange) (table : Table) (values nodes : List Node) (t : TableContents) → table ≡ t.table → values ≡ t.value_nodes → nodes ≡ t.nodes
    → first_unsound number held (record { table = table; nodes = []; value_nodes = values; indexes = [] }) nodes ≡ first_unsound number held t t.nodes
read_is number held table values nodes t same values-are nodes-are =
    ap (λ (x : Table). first_unsound number held (record { table = x; nodes = []; value_nodes = values; indexes = [] }) nodes) same
    ∙ ap (λ (x : List Node). first_unsound number held (record { table = t.table; nodes = []; value_nodes = x; indexes = [] }) nodes) values-are
    ∙ ap (first_unsound number held t) nodes-are

-- ---- one node after another

pub sound_first : (number : ℕ) (held : List HeldChange) (t : TableContents) (n : Node) (nodes : List Node) → is_sound_node number held t n ≡ true → first_unsound number held t (n ∷ nodes) ≡ first_unsound number held t nodes
sound_first number held t n nodes e = ap (λ b. option_map (λ (m : Node). m.key) (cond (not b) (Some n) (find (λ m. not (is_sound_node number held t m)) nodes))) e

pub unsound_first : (number : ℕ) (held : List HeldChange) (t : TableContents) (n : Node) (nodes : List Node) → is_sound_node number held t n ≡ false → first_unsound number held t (n ∷ nodes) ≡ Some n.key
unsound_first number held t n nodes e = ap (λ b. option_map (λ (m : Node). m.key) (cond (not b) (Some n) (find (λ m. not (is_sound_node number held t m)) nodes))) e

-- ---- changes without a node

-- what a look-up finds
none_when : (o : Option (Bor (List ℕ))) (b : Bool) (found : Option (List ℕ)) → is_some o ≡ not b → option_copied o ≡ found → is_none found ≡ b
none_when None true found test e = ap is_none (sym e)
none_when None false found test e = impossible test
none_when (Some key) true found test e = impossible (sym test)
none_when (Some key) false found test e = ap is_none (sym e)

pub lacks_one : (table : ℕ) (nodes : List Node) (h : HeldChange) (o : Option (Bor (List ℕ))) (b : Bool) → h.table ≡ table → is_some o ≡ not b → option_copied o ≡ get_in nodes h.bookmark → is_missing table nodes h ≡ b
lacks_one table nodes h o b same test e = ap (λ is. is && is_none (get_in nodes h.bookmark)) (ap (λ k. k == table) same ∙ self_equal table) ∙ none_when o b (get_in nodes h.bookmark) test e

pub of_other : (table : ℕ) (nodes : List Node) (h : HeldChange) → (h.table ≡ table → ⊥) → is_missing table nodes h ≡ false
of_other table nodes h apart = ap (λ is. is && is_none (get_in nodes h.bookmark)) (by_test (h.table == table) (λ t. absurd (apart (eqb-true h.table table t))) (λ f. f))

drop_here : (held : List HeldChange) (place : ℕ) (h : HeldChange) → slice_get held place ≡ Some h → drop place held ≡ h ∷ drop (suc place) held
drop_here [] place h is = cc
drop_here (x ∷ held) zero h is = ap (λ y. y ∷ held) (same_some x h is)
drop_here (x ∷ held) (suc place) h is = drop_here held place h is

-- what the changes from a place on tell
abbrev pub LeastFrom : ℕ → List Node → List HeldChange → ℕ → Option (List ℕ) → Type 0
LeastFrom table nodes held place least = least ≡ least_key (missing table nodes (drop place held))

pub least_none : (table : ℕ) (nodes : List Node) (held : List HeldChange) (place : ℕ) → place ≡ length held → LeastFrom table nodes held place None
least_none table nodes held place end = ap (λ l. least_key (missing table nodes l)) (sym (ap (λ n. drop n held) end ∙ all held))
  where
    all : (held : List HeldChange) → drop (length held) held ≡ []
    all [] = refl
    all (h ∷ held) = all held

pub least_more : (table : ℕ) (nodes : List Node) (held : List HeldChange) (place : ℕ) (h : HeldChange) (least : Option (List ℕ)) → slice_get held place ≡ Some h → is_missing table nodes h ≡ true → LeastFrom table nodes held (suc place) least
    → LeastFrom table nodes held place (Some (lesser h.bookmark least))
least_more table nodes held place h least at is so =
    ap (λ o. Some (lesser h.bookmark o)) so
    ∙ sym (ap (λ l. least_key (missing table nodes l)) (drop_here held place h at) ∙ ap (λ b. least_key (map (λ (x : HeldChange). x.bookmark) (cond b (h ∷ filter (is_missing table nodes) (drop (suc place) held)) (filter (is_missing table nodes) (drop (suc place) held))))) is
    ∙ least_cons h.bookmark (missing table nodes (drop (suc place) held)))

pub least_same : (table : ℕ) (nodes : List Node) (held : List HeldChange) (place : ℕ) (h : HeldChange) (least : Option (List ℕ)) → slice_get held place ≡ Some h → is_missing table nodes h ≡ false → LeastFrom table nodes held (suc place) least
    → LeastFrom table nodes held place least
least_same table nodes held place h least at is so =
    so
    ∙ sym (ap (λ l. least_key (missing table nodes l)) (drop_here held place h at) ∙ ap (λ b. least_key (map (λ (x : HeldChange). x.bookmark) (cond b (h ∷ filter (is_missing table nodes) (drop (suc place) held)) (filter (is_missing table nodes) (drop (suc place) held))))) is)

-- ---- from one place to the next

pub from_behind : (table : ℕ) (nodes : List Node) (held : List HeldChange) (place : ℕ) (least : Option (List ℕ)) → 0 < place → LeastFrom table nodes held place least → LeastFrom table nodes held (suc (place - 1)) least
from_behind table nodes held zero least some so = absurd (omega (arith, some))
from_behind table nodes held (suc place) least some so = subst (λ (p : ℕ). LeastFrom table nodes held p least) (same place) so
  where
    same : (p : ℕ) → suc p ≡ suc (suc p - 1)
    same p = omega arith

pub from_all : (table : ℕ) (nodes : List Node) (held : List HeldChange) (place : ℕ) (least : Option (List ℕ)) → place ≤ 0 → LeastFrom table nodes held place least → least ≡ least_key (missing table nodes held)
from_all table nodes held zero least end so = so
from_all table nodes held (suc place) least end so = absurd (omega (arith, end))
