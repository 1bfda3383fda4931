-- A key that two records share stands at two neighbours of the sorted entries.
use Rattle.std.proofs.Common.{◌≡◌, ℕ, Bool, true, false, ◌||◌, cond, List, [], ◌∷◌, ◌++◌, map, flat_map, refl, sym, ap, ◌∙◌, true≢false, bytes_eq}
use Rattle.std.specs.List.{list_any, AllByRecursion}
use Rattle.std.specs.declared.cmp.Ordering.{Ordering}
use Rattle.std.specs.declared.cmp.Ordering.TheVariants.{Less, Equal, Greater}
use Rattle.std.specs.Ordering.{is_eq, is_gt, ordering_then}
use Rattle.std.specs.Cmp.{alike_right}
use Rattle.std.specs.Cmp.Lexicographic.{nat_list_cmp_total, nat_list_eq_equiv, texts_ties}
use Rattle.column_set.specs.RecordValues.{RecordFields}
use Rattle.index_derive.specs.declared.rules.IndexRule.{IndexRule}
use Rattle.index_derive.specs.declared.rules.Schema.{Schema}
use Rattle.index_derive.specs.Entries.{derive, key_list, insert_entry, sorted_entries, entry_le, has_double, has_double_key}
use Rattle.cursor_nav.specs.Places.{Pair}
use Rattle.laws_versions.specs.KeptEntries.{has_equal_neighbours}
use Rattle.index_derive.specs.RisingKeys.{key_cmp}
use Rattle.laws_versions.proofs.IndexLemmas.Members.{any_insert, any_sorted}
use Rattle.laws_versions.proofs.IndexLemmas.InOrder.{IsNotAbove, AreInOrder, in_order_sorted}
use Rattle.laws_versions.proofs.IndexLemmas.Rows.{entries_of, all_entries}

abbrev keys_in : List Pair → List (List ℕ)
keys_in entries = map (λ entry. entry.0) entries

any_keys : (p : List ℕ → Bool) (es : List Pair) → list_any p (keys_in es) ≡ list_any (λ entry. p entry.0) es
any_keys p [] = refl
any_keys p (e ∷ es) = ap (λ b. p e.0 || b) (any_keys p es)

-- ---- keys that are sorted have doubles as before

moved : (e a b d : Bool) → ((e || b) || (a || d)) ≡ ((e || a) || (b || d))
moved true a b d = refl
moved false true true d = refl
moved false true false d = refl
moved false false b d = refl

double-insert : (x : Pair) (es : List Pair) → has_double (keys_in (insert_entry x es)) ≡ has_double (x.0 ∷ keys_in es)
double-insert x [] = refl
double-insert x (e ∷ es) =
    let with_first = list_any (bytes_eq x.0) (keys_in es) in
    let with_second = list_any (bytes_eq e.0) (keys_in es) in
    let in_rest = has_double (keys_in es) in
    let second : list_any (bytes_eq e.0) (keys_in (insert_entry x es)) ≡ (bytes_eq x.0 e.0 || with_second) =
    any_keys (bytes_eq e.0) (insert_entry x es) ∙ any_insert (λ entry. bytes_eq e.0 entry.0) x es
    ∙ (λ i. nat_list_eq_equiv.symm e.0 x.0 i || sym (any_keys (bytes_eq e.0) es) i) in
    elim (entry_le x e) as (λ b. has_double (keys_in (cond b (x ∷ e ∷ es) (e ∷ insert_entry x es))) ≡ has_double (x.0 ∷ e.0 ∷ keys_in es)) [
      | true ↦ refl
      | false ↦ (λ i. second i || double-insert x es i) ∙ moved (bytes_eq x.0 e.0) with_first with_second in_rest
    ]

double-sorted : (es : List Pair) → has_double (keys_in (sorted_entries es)) ≡ has_double (keys_in es)
double-sorted [] = refl
double-sorted (e ∷ es) =
    let same : list_any (bytes_eq e.0) (keys_in (sorted_entries es)) ≡ list_any (bytes_eq e.0) (keys_in es) =
    any_keys (bytes_eq e.0) (sorted_entries es) ∙ any_sorted (λ entry. bytes_eq e.0 entry.0) es ∙ sym (any_keys (bytes_eq e.0) es) in
    double-insert e (sorted_entries es) ∙ (λ i. same i || double-sorted es i)

-- ---- sorted keys have doubles at neighbours

key_below : (r q : Ordering) → is_gt (ordering_then r q) ≡ false → is_eq r ≡ false → r ≡ Less
key_below Less q h e = refl
key_below Equal q h e = absurd (true≢false e)
key_below Greater q h e = absurd (true≢false h)

key_not_above : (r q : Ordering) → is_gt (ordering_then r q) ≡ false → is_gt r ≡ false
key_not_above Less q h = refl
key_not_above Equal q h = refl
key_not_above Greater q h = h

below_then : (x y z : List ℕ) (r : Ordering) → key_cmp x y ≡ Less → key_cmp y z ≡ r → is_gt r ≡ false → key_cmp x z ≡ Less
below_then x y z Less h e k = nat_list_cmp_total.trans x y z h e
below_then x y z Equal h e k = sym (alike_right nat_list_cmp_total y z x e) ∙ h
below_then x y z Greater h e k = absurd (true≢false k)

-- a key that is not the next entry's is none of those that follow it
none_behind : (e next : Pair) (es : List Pair) → key_cmp e.0 next.0 ≡ Less → AllByRecursion (IsNotAbove next) es → list_any (bytes_eq e.0) (keys_in es) ≡ false
none_behind e next [] below h = refl
none_behind e next (y ∷ ys) below h =
    let not_above = key_not_above (key_cmp next.0 y.0) (key_cmp next.1 y.1) h.0 in
    let first : bytes_eq e.0 y.0 ≡ false = texts_ties e.0 y.0 ∙ ap is_eq (below_then e.0 next.0 y.0 (key_cmp next.0 y.0) below refl not_above) in
    λ i. first i || none_behind e next ys below h.1 i

double-neighbours : (es : List Pair) → AreInOrder es → has_double (keys_in es) ≡ has_equal_neighbours es
double-neighbours [] h = refl
double-neighbours (e ∷ []) h = refl
double-neighbours (e ∷ next ∷ es) h =
    let rest = double-neighbours (next ∷ es) h.1 in
    let later = list_any (bytes_eq e.0) (keys_in es) in
    elim (bytes_eq e.0 next.0) as (λ b. bytes_eq e.0 next.0 ≡ b → ((b || later) || has_double (keys_in (next ∷ es))) ≡ (b || has_equal_neighbours (next ∷ es))) [
      | true ↦ λ t. refl
      | false ↦ λ t.
          let below = key_below (key_cmp e.0 next.0) (key_cmp e.1 next.1) h.0.0 (sym (texts_ties e.0 next.0) ∙ t) in
          λ i. none_behind e next es below h.1.0 i || rest i
    ] refl

-- ---- the keys of all records

map-append : (xs ys : List Pair) → keys_in (xs ++ ys) ≡ keys_in xs ++ keys_in ys
map-append [] ys = refl
map-append (x ∷ xs) ys = ap (λ r. x.0 ∷ r) (map-append xs ys)

keys-record : (bookmark : List ℕ) (keys : List (List ℕ)) → keys_in (entries_of bookmark keys) ≡ keys
keys-record bookmark [] = refl
keys-record bookmark (key ∷ keys) = ap (λ r. key ∷ r) (keys-record bookmark keys)

keys-all : {X : Type 0} (keys : X → List (List ℕ)) (rows : List (List ℕ × X)) → keys_in (all_entries keys rows) ≡ flat_map (λ place. keys place.1) rows
keys-all keys [] = refl
keys-all keys (place ∷ rows) =
    map-append (entries_of place.0 (keys place.1)) (all_entries keys rows)
    ∙ (λ i. keys-record place.0 (keys place.1) i ++ keys-all keys rows i)

pub double_keys : (rule : IndexRule) (schema : Schema) (rows : List (List ℕ × RecordFields)) → has_double_key rule schema rows ≡ has_equal_neighbours (derive rule schema rows)
unfolding has_double_key derive
double_keys rule schema rows =
    let entries = all_entries (key_list rule schema) rows in
    ap has_double (sym (keys-all (key_list rule schema) rows))
    ∙ sym (double-sorted entries)
    ∙ double-neighbours (sorted_entries entries) (in_order_sorted entries)
