-- Sorted nodes: what one more node, one less, and other data change.
use Rattle.std.proofs.Common.{◌≡◌, ℕ, Bool, true, false, not, List, [], ◌∷◌, filter, find, Some, None, refl, sym, ap, subst, ◌∙◌}
use Rattle.std.specs.Prelude.{if◌then◌else◌}
use Rattle.std.specs.Ordering.{is_eq, is_lt}
use Rattle.std.proofs.lemmas.Bool.{not_from_false, not_from_true}
use Rattle.common_lemmas.proofs.Booleans.{by_test}
use Rattle.page_image.specs.Page.{Node}
use Rattle.btree_inplace.specs.Changes.{inserted, with_data_at, without_key}
use Rattle.btree_inplace.specs.Order.{has_key}
use Rattle.long_value.specs.Values.{order}
use Rattle.long_value.proofs.Keys.{between, lower, lower_differs, not_above}
use Rattle.long_value.specs.ChangedValues.{itself, same_key}

-- ---- one step

pub ins_lt : (m : Node) (nodes : List Node) (n : Node) → is_lt (order m.key n.key) ≡ true → inserted (m ∷ nodes) n ≡ m ∷ inserted nodes n
ins_lt m nodes n t = rw t refl

pub ins_ge : (m : Node) (nodes : List Node) (n : Node) → is_lt (order m.key n.key) ≡ false → inserted (m ∷ nodes) n ≡ n ∷ m ∷ nodes
ins_ge m nodes n t = rw t refl

pub find_yes : {X : Type 0} (p : X → Bool) (x : X) (xs : List X) → p x ≡ true → find p (x ∷ xs) ≡ Some x
find_yes p x xs t = rw t refl

pub find_no : {X : Type 0} (p : X → Bool) (x : X) (xs : List X) → p x ≡ false → find p (x ∷ xs) ≡ find p xs
find_no p x xs t = rw t refl

filter_yes : {X : Type 0} (p : X → Bool) (x : X) (xs : List X) → p x ≡ true → filter p (x ∷ xs) ≡ x ∷ filter p xs
filter_yes p x xs t = rw t refl

filter_no : {X : Type 0} (p : X → Bool) (x : X) (xs : List X) → p x ≡ false → filter p (x ∷ xs) ≡ filter p xs
filter_no p x xs t = rw t refl

pub not_found : {X : Type 0} (p : X → Bool) (x : X) (xs : List X) → find p (x ∷ xs) ≡ None → (p x ≡ false) × (find p xs ≡ None)
not_found p x xs e =
    by_test (p x)
    (λ t. let some : Some x ≡ None = sym (find_yes p x xs t) ∙ e in absurd cc)
    (λ t. (t, sym (find_no p x xs t) ∙ e))

-- ---- look-ups

pub found_there : (key : List ℕ) (nodes : List Node) (n : Node) → has_key key n ≡ true → find (has_key key) (inserted nodes n) ≡ Some n
found_there key [] n is = find_yes (has_key key) n [] is
found_there key (m ∷ nodes) n is =
    by_test (is_lt (order m.key n.key))
    (λ t. ap (find (has_key key)) (ins_lt m nodes n t) ∙ find_no (has_key key) m (inserted nodes n) (lower_differs m.key n.key key t is) ∙ found_there key nodes n is)
    (λ t. ap (find (has_key key)) (ins_ge m nodes n t) ∙ find_yes (has_key key) n (m ∷ nodes) is)

pub found_elsewhere : (key : List ℕ) (nodes : List Node) (n : Node) → has_key key n ≡ false → find (has_key key) (inserted nodes n) ≡ find (has_key key) nodes
found_elsewhere key [] n other = find_no (has_key key) n [] other
found_elsewhere key (m ∷ nodes) n other =
    by_test (is_lt (order m.key n.key))
    (λ t. ap (find (has_key key)) (ins_lt m nodes n t)
    ∙ by_test (has_key key m)
    (λ h. find_yes (has_key key) m (inserted nodes n) h ∙ sym (find_yes (has_key key) m nodes h))
    (λ h. find_no (has_key key) m (inserted nodes n) h ∙ found_elsewhere key nodes n other ∙ sym (find_no (has_key key) m nodes h)))
    (λ t. ap (find (has_key key)) (ins_ge m nodes n t) ∙ find_no (has_key key) n (m ∷ nodes) other)

-- ---- the order of inserts

between_two : (m : Node) (nodes : List Node) (a b : Node) → is_lt (order m.key a.key) ≡ true → is_lt (order m.key b.key) ≡ false → inserted (inserted (m ∷ nodes) a) b ≡ inserted (inserted (m ∷ nodes) b) a
between_two m nodes a b la gb =
    ap (λ l. inserted l b) (ins_lt m nodes a la) ∙ ins_ge m (inserted nodes a) b gb
    ∙ ap (λ l. b ∷ l) (sym (ins_lt m nodes a la))
    ∙ sym (ins_lt b (m ∷ nodes) a (between b.key m.key a.key gb la))
    ∙ ap (λ l. inserted l a) (sym (ins_ge m nodes b gb))

-- two nodes before all others
in_front : (rest : List Node) (a b : Node) → inserted rest a ≡ a ∷ rest → inserted rest b ≡ b ∷ rest → is_lt (order a.key b.key) ≡ true → inserted (inserted rest a) b ≡ inserted (inserted rest b) a
in_front rest a b fa fb lt =
    ap (λ l. inserted l b) fa ∙ ins_lt a rest b lt ∙ ap (λ l. a ∷ l) fb
    ∙ sym (ap (λ l. inserted l a) fb ∙ ins_ge b rest a (not_above a.key b.key lt))

either_front : (rest : List Node) (a b : Node) → inserted rest a ≡ a ∷ rest → inserted rest b ≡ b ∷ rest → is_eq (order a.key b.key) ≡ false → inserted (inserted rest a) b ≡ inserted (inserted rest b) a
either_front rest a b fa fb apart =
    by_test (is_lt (order a.key b.key))
    (λ t. in_front rest a b fa fb t)
    (λ t. sym (in_front rest b a fb fa (lower a.key b.key t apart)))

pub swapped : (nodes : List Node) (a b : Node) → is_eq (order a.key b.key) ≡ false → inserted (inserted nodes a) b ≡ inserted (inserted nodes b) a
swapped [] a b apart = either_front [] a b refl refl apart
swapped (m ∷ nodes) a b apart =
    by_test (is_lt (order m.key a.key))
    (λ la. by_test (is_lt (order m.key b.key))
    (λ lb. ap (λ l. inserted l b) (ins_lt m nodes a la) ∙ ins_lt m (inserted nodes a) b lb ∙ ap (λ l. m ∷ l) (swapped nodes a b apart)
    ∙ sym (ap (λ l. inserted l a) (ins_lt m nodes b lb) ∙ ins_lt m (inserted nodes b) a la))
    (λ gb. between_two m nodes a b la gb))
    (λ ga. by_test (is_lt (order m.key b.key))
    (λ lb. sym (between_two m nodes b a lb ga))
    (λ gb. either_front (m ∷ nodes) a b (ins_ge m nodes a ga) (ins_ge m nodes b gb) apart))

-- ---- one node less

keep : (key : List ℕ) (m : Node) (nodes : List Node) → has_key key m ≡ false → without_key (m ∷ nodes) key ≡ m ∷ without_key nodes key
keep key m nodes other = filter_yes (λ n. not (has_key key n)) m nodes (not_from_false (has_key key m) other)

lose : (key : List ℕ) (m : Node) (nodes : List Node) → has_key key m ≡ true → without_key (m ∷ nodes) key ≡ without_key nodes key
lose key m nodes is = filter_no (λ n. not (has_key key n)) m nodes (not_from_true (has_key key m) is)

pub none_less : (key : List ℕ) (nodes : List Node) → find (has_key key) nodes ≡ None → without_key nodes key ≡ nodes
none_less key [] e = refl
none_less key (m ∷ nodes) e =
    let at = not_found (has_key key) m nodes e in
    keep key m nodes at.0 ∙ ap (λ l. m ∷ l) (none_less key nodes at.1)

pub taken_out : (nodes : List Node) (n : Node) → find (has_key n.key) nodes ≡ None → without_key (inserted nodes n) n.key ≡ nodes
taken_out [] n e = lose n.key n [] (itself n.key)
taken_out (m ∷ nodes) n e =
    let at = not_found (has_key n.key) m nodes e in
    by_test (is_lt (order m.key n.key))
    (λ t. ap (λ l. without_key l n.key) (ins_lt m nodes n t) ∙ keep n.key m (inserted nodes n) at.0 ∙ ap (λ l. m ∷ l) (taken_out nodes n at.1))
    (λ t. ap (λ l. without_key l n.key) (ins_ge m nodes n t) ∙ lose n.key n (m ∷ nodes) (itself n.key) ∙ none_less n.key (m ∷ nodes) e)

pub both_less : (nodes : List Node) (a b : List ℕ) → without_key (without_key nodes a) b ≡ without_key (without_key nodes b) a
both_less [] a b = refl
both_less (m ∷ nodes) a b =
    by_test (has_key a m)
    (λ ia. by_test (has_key b m)
    (λ ib. ap (λ l. without_key l b) (lose a m nodes ia) ∙ both_less nodes a b ∙ sym (ap (λ l. without_key l a) (lose b m nodes ib)))
    (λ nb. ap (λ l. without_key l b) (lose a m nodes ia) ∙ both_less nodes a b ∙ sym (ap (λ l. without_key l a) (keep b m nodes nb) ∙ lose a m (without_key nodes b) ia)))
    (λ na. by_test (has_key b m)
    (λ ib. ap (λ l. without_key l b) (keep a m nodes na) ∙ lose b m (without_key nodes a) ib ∙ both_less nodes a b ∙ sym (ap (λ l. without_key l a) (lose b m nodes ib)))
    (λ nb. ap (λ l. without_key l b) (keep a m nodes na) ∙ keep b m (without_key nodes a) nb ∙ ap (λ l. m ∷ l) (both_less nodes a b)
    ∙ sym (ap (λ l. without_key l a) (keep b m nodes nb) ∙ keep a m (without_key nodes b) na)))

-- a look-up of another key
pub found_still : (key gone : List ℕ) (nodes : List Node) → is_eq (order gone key) ≡ false → find (has_key key) (without_key nodes gone) ≡ find (has_key key) nodes
found_still key gone [] apart = refl
found_still key gone (m ∷ nodes) apart =
    by_test (has_key gone m)
    (λ is. ap (find (has_key key)) (lose gone m nodes is) ∙ found_still key gone nodes apart
    ∙ sym (find_no (has_key key) m nodes (subst (λ k. is_eq (order k key) ≡ false) (sym (same_key m.key gone is)) apart)))
    (λ other. ap (find (has_key key)) (keep gone m nodes other)
    ∙ by_test (has_key key m)
    (λ h. find_yes (has_key key) m (without_key nodes gone) h ∙ sym (find_yes (has_key key) m nodes h))
    (λ h. find_no (has_key key) m (without_key nodes gone) h ∙ found_still key gone nodes apart ∙ sym (find_no (has_key key) m nodes h)))

-- ---- other data

redone_yes : (key value : List ℕ) (n : Node) → has_key key n ≡ true → (if has_key key n then record n { «data» = value } else n) ≡ record n { «data» = value }
redone_yes key value n t = rw t refl

redone_no : (key value : List ℕ) (n : Node) → has_key key n ≡ false → (if has_key key n then record n { «data» = value } else n) ≡ n
redone_no key value n t = rw t refl

pub none_redone : (key value : List ℕ) (nodes : List Node) → find (has_key key) nodes ≡ None → with_data_at nodes key value ≡ nodes
none_redone key value [] e = refl
none_redone key value (m ∷ nodes) e =
    let at = not_found (has_key key) m nodes e in
    ap (λ x. x ∷ with_data_at nodes key value) (redone_no key value m at.0) ∙ ap (λ l. m ∷ l) (none_redone key value nodes at.1)

pub redone_there : (nodes : List Node) (n : Node) (value : List ℕ) → find (has_key n.key) nodes ≡ None → with_data_at (inserted nodes n) n.key value ≡ inserted nodes (record n { «data» = value })
redone_there [] n value e = ap (λ x. x ∷ []) (redone_yes n.key value n (itself n.key))
redone_there (m ∷ nodes) n value e =
    let at = not_found (has_key n.key) m nodes e in
    by_test (is_lt (order m.key n.key))
    (λ t. ap (λ l. with_data_at l n.key value) (ins_lt m nodes n t) ∙ ap (λ x. x ∷ with_data_at (inserted nodes n) n.key value) (redone_no n.key value m at.0)
    ∙ ap (λ l. m ∷ l) (redone_there nodes n value at.1) ∙ sym (ins_lt m nodes (record n { «data» = value }) t))
    (λ t. ap (λ l. with_data_at l n.key value) (ins_ge m nodes n t) ∙ ap (λ x. x ∷ with_data_at (m ∷ nodes) n.key value) (redone_yes n.key value n (itself n.key))
    ∙ ap (λ l. record n { «data» = value } ∷ l) (none_redone n.key value (m ∷ nodes) e) ∙ sym (ins_ge m nodes (record n { «data» = value }) t))
