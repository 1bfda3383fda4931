-- Nodes by rising key, from one to the next.
use Rattle.std.proofs.Common.{◌≡◌, ℕ, zero, suc, ◌<◌, ◌≤◌, Bool, true, false, cond, List, [], ◌∷◌, length, Option, Some, None, refl, sym, ap, subst, ◌∙◌, arith}
use Rattle.std.specs.Prelude.{filter, find, option_map, slice_index_or, unwrap_or}
use Rattle.std.specs.List.{AllByRecursion}
use Rattle.std.specs.Ordering.{is_eq, is_ge, is_gt, nat_cmp, ordering_reverse}
use Rattle.std.specs.Cmp.Lexicographic.{nat_list_cmp_total, slice_cmp}
use Rattle.std.specs.declared.cmp.Ordering.{Ordering}
use Rattle.std.specs.declared.cmp.Ordering.TheVariants.{Less, Equal, Greater}
use Rattle.common_lemmas.proofs.Booleans.{by_test, impossible}
use Rattle.common_lemmas.proofs.Found.{found_passes, of_found}
use Rattle.common_lemmas.proofs.Lists.{all_weaker, filter_all}
use Rattle.common_lemmas.proofs.Options.{none_some, same_some}
use Rattle.page_image.specs.Page.{HasRisingKeys, IsBelow, Node, no_node}
use Rattle.btree_inplace.specs.Order.{after_in, extent_in, first_in, get_in, has_key, is_above, is_from, key_and_data}
use Rattle.long_value.specs.ChangedValues.{itself, same_key}
use Rattle.image_contents.specs.NodesLeft.{IsPlace, nodes_from}

-- ---- keys that rise, from the front

abbrev pub Rise : List Node → Type 0
Rise [] = Unit {0}
Rise (n ∷ nodes) = AllByRecursion (λ (m : Node). IsBelow n.key m.key) nodes × Rise nodes

each_place : (P : Node → Type 0) (nodes : List Node) → ((j : ℕ) → j < length nodes → P (slice_index_or nodes j no_node)) → AllByRecursion P nodes
each_place P [] h = tt
each_place P (n ∷ nodes) h = (h 0 (omega arith), each_place P nodes (λ j lt. h (suc j) (omega (arith, lt))))

pub rising : (nodes : List Node) → HasRisingKeys nodes → Rise nodes
rising [] h = tt
rising (n ∷ nodes) h = (
  each_place (λ (m : Node). IsBelow n.key m.key) nodes (λ j lt. h 0 (suc j) no_node (omega arith) (omega (arith, lt))),
  rising nodes (λ i j d lt low. h (suc i) (suc j) d (omega (arith, lt)) (omega (arith, low))),
)

-- ---- tests of one key

turned : (a b : List ℕ) → IsBelow a b → slice_cmp nat_cmp b a ≡ Greater
turned a b h = nat_list_cmp_total.antisymm b a ∙ ap ordering_reverse h

pub has_own : (n : Node) → has_key n.key n ≡ true
has_own n = itself n.key

from_own : (n : Node) → is_from n.key n ≡ true
from_own n = by (slice_cmp nat_cmp n.key n.key) (itself n.key)
  where
    by : (o : Ordering) → is_eq o ≡ true → is_ge o ≡ true
    by Less e = impossible e
    by Equal e = refl
    by Greater e = refl

above_own : (n : Node) → is_above n.key n ≡ false
above_own n = by (slice_cmp nat_cmp n.key n.key) (itself n.key)
  where
    by : (o : Ordering) → is_eq o ≡ true → is_gt o ≡ false
    by Less e = refl
    by Equal e = refl
    by Greater e = impossible e

pub lower_has : (m : Node) (key : List ℕ) → IsBelow m.key key → has_key key m ≡ false
lower_has m key h = ap is_eq h

lower_from : (m : Node) (key : List ℕ) → IsBelow m.key key → is_from key m ≡ false
lower_from m key h = ap is_ge h

lower_above : (m : Node) (key : List ℕ) → IsBelow m.key key → is_above key m ≡ false
lower_above m key h = ap is_gt h

higher_from : (m : Node) (key : List ℕ) → IsBelow key m.key → is_from key m ≡ true
higher_from m key h = ap is_ge (turned key m.key h)

higher_above : (m : Node) (key : List ℕ) → IsBelow key m.key → is_above key m ≡ true
higher_above m key h = ap is_gt (turned key m.key h)

-- ---- one node at the front

pub find_first : (p : Node → Bool) (n : Node) (nodes : List Node) → p n ≡ true → find p (n ∷ nodes) ≡ Some n
find_first p n nodes t = ap (λ (b : Bool). cond b (Some n) (find p nodes)) t

pub find_later : (p : Node → Bool) (n : Node) (nodes : List Node) → p n ≡ false → find p (n ∷ nodes) ≡ find p nodes
find_later p n nodes t = ap (λ (b : Bool). cond b (Some n) (find p nodes)) t

kept : (p : Node → Bool) (n : Node) (nodes : List Node) → p n ≡ true → filter p (n ∷ nodes) ≡ n ∷ filter p nodes
kept p n nodes t = ap (λ (b : Bool). cond b (n ∷ filter p nodes) (filter p nodes)) t

left_out : (p : Node → Bool) (n : Node) (nodes : List Node) → p n ≡ false → filter p (n ∷ nodes) ≡ filter p nodes
left_out p n nodes t = ap (λ (b : Bool). cond b (n ∷ filter p nodes) (filter p nodes)) t

abbrev at_key : Node → Option (List ℕ × List ℕ)
at_key n = Some (n.key, n.data)

-- all nodes are from the first one
pub all_from : (n : Node) (nodes : List Node) → Rise (n ∷ nodes) → filter (is_from n.key) (n ∷ nodes) ≡ n ∷ nodes
all_from n nodes rise =
    kept (is_from n.key) n nodes (from_own n)
    ∙ ap (λ (l : List Node). n ∷ l) (filter_all (is_from n.key) nodes (all_weaker (λ (m : Node). IsBelow n.key m.key) (λ m. is_from n.key m ≡ true) (λ m h. higher_from m n.key h) nodes rise.0))

pub own_place : (n : Node) (nodes : List Node) → get_in (n ∷ nodes) n.key ≡ Some n.data
own_place n nodes = ap (option_map (λ (m : Node). m.data)) (find_first (has_key n.key) n nodes (has_own n))

-- ---- the first place

pub from_first : (nodes : List Node) → Rise nodes → nodes_from nodes (first_in nodes) ≡ nodes
from_first [] rise = refl
from_first (n ∷ nodes) rise = all_from n nodes rise

pub first_place : (nodes : List Node) → IsPlace nodes (first_in nodes)
first_place [] = tt
first_place (n ∷ nodes) = own_place n nodes

-- ---- the next place

-- a place among the nodes behind one is a place among all
behind_place : (m : Node) (nodes : List Node) (found : Option Node) → ((n : Node) → found ≡ Some n → IsBelow m.key n.key) → IsPlace nodes (option_map key_and_data found)
    → IsPlace (m ∷ nodes) (option_map key_and_data found)
behind_place m nodes None below at = tt
behind_place m nodes (Some n) below at = ap (option_map (λ (x : Node). x.data)) (find_later (has_key n.key) m nodes (lower_has m n.key (below n refl))) ∙ at

behind_from : (m : Node) (nodes : List Node) (found : Option Node) → ((n : Node) → found ≡ Some n → IsBelow m.key n.key) → nodes_from (m ∷ nodes) (option_map key_and_data found) ≡ nodes_from nodes (option_map key_and_data found)
behind_from m nodes None below = refl
behind_from m nodes (Some n) below = left_out (is_from n.key) m nodes (lower_from m n.key (below n refl))

first_above : (m : Node) (nodes : List Node) → AllByRecursion (λ (x : Node). IsBelow m.key x.key) nodes → find (is_above m.key) nodes ≡ find (λ _. true) nodes
first_above m [] all = refl
first_above m (n ∷ nodes) all = find_first (is_above m.key) n nodes (higher_above n m.key all.0)

pub record Goes (nodes : List Node) (n : Node) (at : Option (List ℕ × List ℕ)) : Type 0 where
  pub left : filter (is_from n.key) nodes ≡ n ∷ nodes_from nodes at
  pub place : IsPlace nodes at

pub goes_on : (nodes : List Node) (n : Node) → Rise nodes → find (has_key n.key) nodes ≡ Some n → Goes nodes n (after_in nodes n.key)
goes_on [] n rise e = none_some n e
goes_on (m ∷ nodes) n rise e = by_test (has_key n.key m) here (later (goes_on nodes n rise.1))
  where
    below : (p : Node → Bool) (x : Node) → find p nodes ≡ Some x → IsBelow m.key x.key
    below p x found = of_found (λ (y : Node). IsBelow m.key y.key) p nodes x found rise.0

    here : has_key n.key m ≡ true → Goes (m ∷ nodes) n (after_in (m ∷ nodes) n.key)
    here t = subst (λ (x : Node). Goes (m ∷ nodes) x (after_in (m ∷ nodes) x.key)) same
        (subst (λ (o : Option Node). Goes (m ∷ nodes) m (option_map key_and_data o)) (sym next) (record {
          left = all_from m nodes rise ∙ ap (λ (l : List Node). m ∷ l) (sym (behind_from m nodes (find (λ _. true) nodes) (below (λ _. true)) ∙ from_first nodes rise.1));
          place = behind_place m nodes (find (λ _. true) nodes) (below (λ _. true)) (first_place nodes);
        }))
      where
        same : m ≡ n
        same = same_some m n (sym (find_first (has_key n.key) m nodes t) ∙ e)

        next : find (is_above m.key) (m ∷ nodes) ≡ find (λ _. true) nodes
        next = find_later (is_above m.key) m nodes (above_own m) ∙ first_above m nodes rise.0

    later : (find (has_key n.key) nodes ≡ Some n → Goes nodes n (after_in nodes n.key)) → has_key n.key m ≡ false → Goes (m ∷ nodes) n (after_in (m ∷ nodes) n.key)
    later more t =
        let found : find (has_key n.key) nodes ≡ Some n = sym (find_later (has_key n.key) m nodes t) ∙ e in
        let low : IsBelow m.key n.key = below (has_key n.key) n found in
        let rest = more found in
        let next : find (is_above n.key) (m ∷ nodes) ≡ find (is_above n.key) nodes = find_later (is_above n.key) m nodes (lower_above m n.key low) in
        subst (λ (o : Option Node). Goes (m ∷ nodes) n (option_map key_and_data o)) (sym next) (record {
          left = left_out (is_from n.key) m nodes (lower_from m n.key low) ∙ rest.left ∙ ap (λ (l : List Node). n ∷ l) (sym (behind_from m nodes (find (is_above n.key) nodes) (below (is_above n.key))));
          place = behind_place m nodes (find (is_above n.key) nodes) (below (is_above n.key)) rest.place;
        })

-- the node of a place
pub node_there : (nodes : List Node) (key bytes : List ℕ) → get_in nodes key ≡ Some bytes → (n : Node) × (find (has_key key) nodes ≡ Some n) × (n.key ≡ key) × (n.data ≡ bytes)
node_there nodes key bytes e = by (find (has_key key) nodes) refl e
  where
    is_there : (l : List Node) (m : Node) → find (has_key key) l ≡ Some m → m.key ≡ key
    is_there l m g = same_key m.key key (found_passes (has_key key) l m g)

    by : (o : Option Node) → find (has_key key) nodes ≡ o → option_map (λ (m : Node). m.data) o ≡ Some bytes → (n : Node) × (find (has_key key) nodes ≡ Some n) × (n.key ≡ key) × (n.data ≡ bytes)
    by None f h = none_some bytes h
    by (Some n) f h = (n, f, is_there nodes n f, same_some n.data bytes h)

pub record Next (nodes : List Node) (key bytes : List ℕ) (extent : ℕ) (at : Option (List ℕ × List ℕ)) : Type 0 where
  pub left : filter (is_from key) nodes ≡ record { key = key; extent = extent; «data» = bytes } ∷ nodes_from nodes at
  pub place : IsPlace nodes at

pub next_is : (nodes : List Node) → Rise nodes → (key bytes : List ℕ) (extent : ℕ) (at : Option (List ℕ × List ℕ)) → get_in nodes key ≡ Some bytes → extent ≡ unwrap_or (extent_in nodes key) 0 → at ≡ after_in nodes key → Next nodes key bytes extent at
next_is nodes rise key bytes extent at there size is =
    let found = node_there nodes key bytes there in
    let n : Node = found.0 in
    let goes = goes_on nodes n rise (subst (λ (k : List ℕ). find (has_key k) nodes ≡ Some n) (sym found.2) found.1) in
    let size-is : extent ≡ n.extent = size ∙ ap (λ (o : Option Node). unwrap_or (option_map (λ (m : Node). m.extent) o) 0) found.1 in
    let whole : n ≡ record { key = key; extent = extent; «data» = bytes } = (λ i. record { key = found.2 i; extent = sym size-is i; «data» = found.3 i }) in
    subst (Next nodes key bytes extent) (sym is) (record {
      left = ap (λ (k : List ℕ). filter (is_from k) nodes) (sym found.2) ∙ goes.left ∙ ap (λ (m : Node). m ∷ nodes_from nodes (after_in nodes n.key)) whole ∙ ap (λ (k : List ℕ). record { key = key; extent = extent; «data» = bytes } ∷ nodes_from nodes (after_in nodes k)) found.2;
      place = subst (λ (k : List ℕ). IsPlace nodes (after_in nodes k)) found.2 goes.place;
    })
