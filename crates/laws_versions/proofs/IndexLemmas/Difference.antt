-- What a record that changes does to the entries, by the keys that it loses and those that are new.
use Rattle.std.proofs.Common.{◌≡◌, ℕ, Bool, true, false, not, ◌&&◌, ◌||◌, cond, List, [], ◌∷◌, filter, Some, refl, sym, ap, ◌∙◌, subst, true≢false, bytes_eq, is_none}
use Rattle.std.specs.List.{list_any, AllByRecursion}
use Rattle.std.specs.declared.cmp.Ordering.{Ordering}
use Rattle.std.specs.declared.cmp.Ordering.TheVariants.{Less, Equal, Greater}
use Rattle.std.specs.Ordering.{is_eq, ordering_then}
use Rattle.std.specs.Cmp.Lexicographic.{nat_list_cmp_total, texts_ties, nat_list_eq_equiv, bytes_decides}
use Rattle.std.specs.FinMap.Entries.{by_order}
use Rattle.std.proofs.lemmas.Bool.{not-true}
use Rattle.common_lemmas.proofs.Options.{same_some}
use Rattle.common_lemmas.proofs.Lists.{all_filter, all_weaker}
use Rattle.common_lemmas.proofs.Booleans.{and_false}
use Rattle.column_set.specs.RecordValues.{RecordFields, lookup_by_key, put_by_key}
use Rattle.index_derive.specs.declared.rules.IndexRule.{IndexRule}
use Rattle.index_derive.specs.declared.rules.Schema.{Schema}
use Rattle.index_derive.specs.Entries.{derive, key_list, own_order}
use Rattle.index_derive.specs.RisingKeys.{key_cmp}
use Rattle.cursor_nav.specs.Places.{Pair, are_sorted}
use Rattle.database_state.specs.Puts.{new_keys}
use Rattle.laws_versions.specs.KeptEntries.{with_entries, without_entries, without_each}
use Rattle.laws_versions.proofs.IndexLemmas.PairOrder.{pair_cmp, IsRising}
use Rattle.laws_versions.proofs.IndexLemmas.Members.{all_sorted, any_with}
use Rattle.laws_versions.proofs.IndexLemmas.Rising.{IsApart, IsFresh, rising_with, same_rising}
use Rattle.laws_versions.proofs.IndexLemmas.Rows.{missed-not_equal, entries_of, all_entries, RowsRise, rise-sorted, rise-put, apart_records}
use Rattle.laws_versions.proofs.IndexLemmas.Adding.{KeysRise, rising_derived}
use Rattle.laws_versions.proofs.IndexLemmas.Changing.{derived_replaced}
use Rattle.laws_versions.proofs.IndexLemmas.OneByOne.{is_one_of, not_one, each-filter, all_members, IsSame, all_same}
use Rattle.laws_versions.proofs.IndexLemmas.AnyOf.{any_filter, any_alike, any_parted, any_shared, rising_filter}

-- the keys that are not among the others
abbrev keys_beside : List (List ℕ) → List (List ℕ) → List (List ℕ)
keys_beside others keys = filter (λ key. not (list_any (bytes_eq key) others)) keys

-- a row that is put again stays
put-same : {X : Type 0} (bookmark : List ℕ) (x : X) (rows : List (List ℕ × X)) → RowsRise rows → lookup_by_key bookmark rows ≡ Some x → put_by_key bookmark x rows ≡ rows
put-same bookmark x [] h found = absurd (true≢false (ap is_none found))
put-same bookmark x (place ∷ rows) h found =
    elim (key_cmp bookmark place.0) as (λ r. key_cmp bookmark place.0 ≡ r → cond (is_eq r) (Some place.1) (lookup_by_key bookmark rows) ≡ Some x → by_order r ((bookmark, x) ∷ place ∷ rows) ((place.0, x) ∷ rows) (place ∷ put_by_key bookmark x rows) ≡ place ∷ rows) [
      | Less ↦ λ p is.
          let below : AllByRecursion (λ other. is_eq (key_cmp bookmark other.0) ≡ false) rows =
          all_weaker (λ other. key_cmp place.0 other.0 ≡ Less) (λ other. is_eq (key_cmp bookmark other.0) ≡ false) (λ other k. ap is_eq (nat_list_cmp_total.trans bookmark place.0 other.0 p k)) rows h.0 in
          absurd (true≢false (ap is_none (sym (missed-not_equal bookmark rows below)) ∙ ap is_none is))
      | Equal ↦ λ p is. λ i. (place.0, sym (same_some place.1 x is) i) ∷ rows
      | Greater ↦ λ p is. ap (λ r. place ∷ r) (put-same bookmark x rows h.1 is)
    ] refl found

-- ---- a new key has no entry among those that are left

apart_equal : (r q : Ordering) → is_eq r ≡ false → is_eq (ordering_then r q) ≡ false
apart_equal Less q h = refl
apart_equal Equal q h = absurd (true≢false h)
apart_equal Greater q h = refl

-- of another record, or of one of its keys
abbrev IsKnown : List (List ℕ) → List ℕ → Pair → Type 0
IsKnown keys bookmark entry = (bytes_eq entry.1 bookmark && not (list_any (bytes_eq entry.0) keys)) ≡ false

known_same : (a b : Bool) → not (a && b) ≡ not b → (b && not a) ≡ false
known_same true true h = refl
known_same true false h = refl
known_same false true h = h
known_same false false h = refl

apart_known : (keys : List (List ℕ)) (bookmark key : List ℕ) (entry : Pair) → list_any (bytes_eq key) keys ≡ false → IsKnown keys bookmark entry → IsApart (key, bookmark) entry
apart_known keys bookmark key entry new known =
    elim (bytes_eq entry.1 bookmark) as (λ b. bytes_eq entry.1 bookmark ≡ b → (b && not (list_any (bytes_eq entry.0) keys)) ≡ false → IsApart (key, bookmark) entry) [
      | true ↦ λ e h.
          elim (bytes_eq key entry.0) as (λ b. bytes_eq key entry.0 ≡ b → IsApart (key, bookmark) entry) [
            | true ↦ λ same. absurd (true≢false (sym (ap not (ap (λ (k : List ℕ). list_any (bytes_eq k) keys) (sym ((bytes_decides key entry.0).0 same)) ∙ new)) ∙ h))
            | false ↦ λ other. apart_equal (key_cmp key entry.0) (key_cmp bookmark entry.1) (sym (texts_ties key entry.0) ∙ other)
          ] refl
      | false ↦ λ e h. apart_records (key, bookmark) entry (sym (texts_ties bookmark entry.1) ∙ nat_list_eq_equiv.symm bookmark entry.1 ∙ e)
    ] refl known

fresh_beside : (keys : List (List ℕ)) (bookmark : List ℕ) (es : List Pair) → AllByRecursion (IsKnown keys bookmark) es
    → (others : List (List ℕ)) → AllByRecursion (λ key. list_any (bytes_eq key) keys ≡ false) others → AllByRecursion (λ key. IsFresh (key, bookmark) es) others
fresh_beside keys bookmark es known [] h = tt
fresh_beside keys bookmark es known (key ∷ others) h =
    (all_weaker (IsKnown keys bookmark) (IsApart (key, bookmark)) (λ entry k. apart_known keys bookmark key entry h.0 k) es known, fresh_beside keys bookmark es known others h.1)

beside_new : (keys others : List (List ℕ)) → AllByRecursion (λ key. list_any (bytes_eq key) keys ≡ false) (keys_beside keys others)
beside_new keys [] = tt
beside_new keys (key ∷ others) = elim (not (list_any (bytes_eq key) keys)) as (λ b. not (list_any (bytes_eq key) keys) ≡ b → AllByRecursion (λ k. list_any (bytes_eq k) keys ≡ false) (cond b (key ∷ keys_beside keys others) (keys_beside keys others))) [
  | true ↦ λ e. (not-true (list_any (bytes_eq key) keys) e, beside_new keys others)
  | false ↦ λ e. beside_new keys others
] refl

-- ---- what is left, and what is there afterwards

passes : {X : Type 0} (q : X → Bool) (xs : List X) → AllByRecursion (λ x. q x ≡ true) (filter q xs)
passes q [] = tt
passes q (x ∷ xs) = elim (q x) as (λ b. q x ≡ b → AllByRecursion (λ y. q y ≡ true) (cond b (x ∷ filter q xs) (filter q xs))) [
  | true ↦ λ e. (e, passes q xs)
  | false ↦ λ e. passes q xs
] refl

any_record : (p : Pair → Bool) (bookmark : List ℕ) (keys : List (List ℕ)) → list_any p (entries_of bookmark keys) ≡ list_any (λ key. p (key, bookmark)) keys
any_record p bookmark [] = refl
any_record p bookmark (key ∷ keys) = ap (λ b. p (key, bookmark) || b) (any_record p bookmark keys)

own_part : (a b c : Bool) → ((a && b) || (a && c)) ≡ (a && (b || c))
own_part true b c = refl
own_part false b c = refl

same_part : (q : List ℕ → Bool) (key k : List ℕ) → (q k && bytes_eq key k) ≡ (q key && bytes_eq key k)
same_part q key k = elim (bytes_eq key k) as (λ b. bytes_eq key k ≡ b → (q k && b) ≡ (q key && b)) [
  | true ↦ λ e. ap (λ (x : List ℕ). q x && true) (sym ((bytes_decides key k).0 e))
  | false ↦ λ e. and_false (q k) ∙ sym (and_false (q key))
] refl

-- whether a key is among those that pass a test
any_own : (q : List ℕ → Bool) (key : List ℕ) (keys : List (List ℕ)) → list_any (bytes_eq key) (filter q keys) ≡ (q key && list_any (bytes_eq key) keys)
any_own q key keys = any_filter (bytes_eq key) q keys ∙ among keys
  where
    nothing : (a : Bool) → false ≡ (a && false)
    nothing true = refl
    nothing false = refl

    among : (ks : List (List ℕ)) → list_any (λ k. q k && bytes_eq key k) ks ≡ (q key && list_any (bytes_eq key) ks)
    among [] = nothing (q key)
    among (k ∷ ks) = (λ i. same_part q key k i || among ks i) ∙ own_part (q key) (bytes_eq key k) (list_any (bytes_eq key) ks)

stays_shared : (m l t : Bool) → l ≡ (not m && true) → t ≡ true → not (l && t) ≡ m
stays_shared true l t e f = (λ i. not (e i && t)) ∙ refl
stays_shared false l t e f = λ i. not (e i && f i)

-- of the old keys those that are new too keep their entries
kept_keys : (olds news : List (List ℕ)) (bookmark : List ℕ) (key : List ℕ) → list_any (bytes_eq key) olds ≡ true
    → not (is_one_of (keys_beside news olds) bookmark (key, bookmark)) ≡ list_any (bytes_eq key) news
kept_keys olds news bookmark key member =
    stays_shared (list_any (bytes_eq key) news) (list_any (bytes_eq key) (keys_beside news olds)) (bytes_eq bookmark bookmark)
    (any_own (λ k. not (list_any (bytes_eq k) news)) key olds ∙ ap (λ b. not (list_any (bytes_eq key) news) && b) member)
    (nat_list_eq_equiv.refl bookmark)

regrouped : (n a b c x : Bool) → n ≡ (a || c) → b ≡ c → (n || x) ≡ (a || (b || x))
regrouped n a b c x e f = (λ i. e i || x) ∙ (λ i. (a || sym f i) || x) ∙ grouped a b x
  where
    grouped : (a b x : Bool) → ((a || b) || x) ≡ (a || (b || x))
    grouped true b x = refl
    grouped false b x = refl

-- entries with a record's new keys, or with those that it had without those that it lost and with those that it did not have
same_members : (p : Pair → Bool) (olds news : List (List ℕ)) (bookmark : List ℕ) (es : List Pair) → AllByRecursion (λ entry. bytes_eq entry.1 bookmark ≡ false) es
    → list_any p (with_entries news bookmark es) ≡ list_any p (with_entries (keys_beside olds news) bookmark (without_each (keys_beside news olds) bookmark (with_entries olds bookmark es)))
same_members p olds news bookmark es others =
    let lost = keys_beside news olds in
    let stays : Pair → Bool = λ entry. not (is_one_of lost bookmark entry) in
    let r : List ℕ → Bool = λ key. p (key, bookmark) in
    let added_are : list_any p (entries_of bookmark (keys_beside olds news)) ≡ list_any (λ key. not (list_any (bytes_eq key) olds) && r key) news =
    any_record p bookmark (keys_beside olds news) ∙ any_filter r (λ key. not (list_any (bytes_eq key) olds)) news in
    let own : list_any (λ entry. stays entry && p entry) (entries_of bookmark olds) ≡ list_any (λ key. list_any (bytes_eq key) news && r key) olds =
    any_record (λ entry. stays entry && p entry) bookmark olds
    ∙ any_alike (λ key. stays (key, bookmark) && r key) (λ key. list_any (bytes_eq key) news && r key) olds
    (all_weaker (λ key. list_any (bytes_eq key) olds ≡ true) (λ key. (stays (key, bookmark) && r key) ≡ (list_any (bytes_eq key) news && r key))
    (λ key member. ap (λ b. b && r key) (kept_keys olds news bookmark key member)) olds (all_members olds)) in
    let rest : list_any (λ entry. stays entry && p entry) es ≡ list_any p es =
    any_alike (λ entry. stays entry && p entry) p es
    (all_weaker (λ entry. bytes_eq entry.1 bookmark ≡ false) (λ entry. (stays entry && p entry) ≡ p entry) (λ entry other. ap (λ b. b && p entry) (not_one lost bookmark entry other)) es others) in
    let kept : list_any p (without_each lost bookmark (with_entries olds bookmark es)) ≡ (list_any (λ key. list_any (bytes_eq key) news && r key) olds || list_any p es) =
    ap (list_any p) (each-filter lost bookmark (with_entries olds bookmark es))
    ∙ any_filter p stays (with_entries olds bookmark es)
    ∙ any_with (λ entry. stays entry && p entry) olds bookmark es
    ∙ (λ i. own i || rest i) in
    any_with p news bookmark es
    ∙ ap (λ b. b || list_any p es) (any_record p bookmark news)
    ∙ regrouped (list_any r news) (list_any (λ key. not (list_any (bytes_eq key) olds) && r key) news) (list_any (λ key. list_any (bytes_eq key) news && r key) olds)
    (list_any (λ key. list_any (bytes_eq key) olds && r key) news) (list_any p es)
    (any_parted (λ key. list_any (bytes_eq key) olds) r news) (any_shared r olds news)
    ∙ (λ i. sym added_are i || sym kept i)
    ∙ sym (any_with p (keys_beside olds news) bookmark (without_each lost bookmark (with_entries olds bookmark es)))

-- ---- derived

known_derived : (rule : IndexRule) (schema : Schema) (rows : List (List ℕ × RecordFields)) (bookmark : List ℕ) (old : RecordFields) → RowsRise rows → lookup_by_key bookmark rows ≡ Some old
    → AllByRecursion (IsKnown (key_list rule schema old) bookmark) (derive rule schema rows)
unfolding derive
known_derived rule schema rows bookmark old rise found =
    let olds = key_list rule schema old in
    all_weaker (IsSame olds bookmark) (IsKnown olds bookmark) (λ entry same. known_same (list_any (bytes_eq entry.0) olds) (bytes_eq entry.1 bookmark) same) (derive rule schema rows)
    (all_sorted (IsSame olds bookmark) (all_entries (key_list rule schema) rows) (all_same (key_list rule schema) bookmark old rows rise found))

pub derived_by_difference : KeysRise → (rule : IndexRule) (schema : Schema) (rows : List (List ℕ × RecordFields)) (bookmark : List ℕ) (old values : RecordFields)
    → are_sorted (own_order rows) ≡ true → lookup_by_key bookmark rows ≡ Some old
    → derive rule schema (put_by_key bookmark values rows)
    ≡ with_entries (new_keys rule schema (Some old) values) bookmark (without_each (new_keys rule schema (Some values) old) bookmark (derive rule schema rows))
derived_by_difference rise rule schema rows bookmark old values sorted found =
    let rows_rise = rise-sorted rows sorted in
    let olds = key_list rule schema old in
    let news = key_list rule schema values in
    let lost = keys_beside news olds in
    let added = keys_beside olds news in
    let whole = derive rule schema rows in
    let others = without_entries bookmark whole in
    let stays : Pair → Bool = λ entry. not (is_one_of lost bookmark entry) in
    let kept_is = each-filter lost bookmark whole in
    let before : whole ≡ with_entries olds bookmark others =
    ap (derive rule schema) (sym (put-same bookmark old rows rows_rise found)) ∙ derived_replaced rise rule schema rows bookmark old sorted in
    let other : AllByRecursion (λ (entry : Pair). bytes_eq entry.1 bookmark ≡ false) others =
    all_weaker (λ (entry : Pair). not (bytes_eq entry.1 bookmark) ≡ true) (λ entry. bytes_eq entry.1 bookmark ≡ false) (λ entry h. not-true (bytes_eq entry.1 bookmark) h) others (passes (λ (entry : Pair). not (bytes_eq entry.1 bookmark)) whole) in
    let kept_rises : IsRising (without_each lost bookmark whole) = subst IsRising (sym kept_is) (rising_filter pair_cmp stays whole (rising_derived rise rule schema rows rows_rise)) in
    let kept_known : AllByRecursion (IsKnown olds bookmark) (without_each lost bookmark whole) =
    subst (AllByRecursion (IsKnown olds bookmark)) (sym kept_is) (all_filter (IsKnown olds bookmark) stays whole (known_derived rule schema rows bookmark old rows_rise found)) in
    same_rising (derive rule schema (put_by_key bookmark values rows)) (with_entries added bookmark (without_each lost bookmark whole))
    (rising_derived rise rule schema (put_by_key bookmark values rows) (rise-put bookmark values rows rows_rise))
    (rising_with added bookmark (without_each lost bookmark whole) (rising_filter key_cmp (λ key. not (list_any (bytes_eq key) olds)) news (rise rule schema values)) kept_rises
    (fresh_beside olds bookmark (without_each lost bookmark whole) kept_known added (beside_new olds news)))
    (λ p. ap (list_any p) (derived_replaced rise rule schema rows bookmark values sorted)
    ∙ same_members p olds news bookmark others other
    ∙ ap (λ es. list_any p (with_entries added bookmark (without_each lost bookmark es))) (sym before))
