-- Node keys that part the nodes as a key with a bookmark parts the entries.
use Rattle.std.proofs.Common.{◌≡◌, ℕ, Bool, true, false, not, List, [], ◌∷◌, ◌++◌, filter, find, Some, None, refl, sym, ap, subst, ◌∙◌, true≢false, bytes_eq}
use Rattle.std.specs.Prelude.{All}
use Rattle.std.specs.List.{last_or, list_all}
use Rattle.std.proofs.lemmas.List.{append-nil}
use Rattle.std.proofs.lemmas.List.Elements.{All-cons, All-nil, All-weaker}
use Rattle.std.specs.declared.cmp.Ordering.{Ordering}
use Rattle.std.specs.declared.cmp.Ordering.TheVariants.{Less, Equal, Greater}
use Rattle.std.specs.Ordering.{is_eq, is_lt, is_le, is_ge, ordering_then, ordering_reverse}
use Rattle.std.specs.Cmp.Lexicographic.{nat_list_cmp_total, texts_ties}
use Rattle.common_lemmas.proofs.Booleans.{by_test}
use Rattle.index_derive.specs.declared.entries.Place.TheVariants.{On, Gap}
use Rattle.cursor_nav.specs.Places.{Pair, are_sorted, entry_after, entry_before, is_beyond, is_short_of, pair_lt}
use Rattle.laws_versions.specs.KeptEntries.{has_key}
use Rattle.index_tree.specs.Entries.{AreApart, CutsAt, IsApart, IsApartFromAll, IsShort, gap_bookmark, is_at_or_after}
use Rattle.index_tree.proofs.Bytes.{apart_itself, apart_turned, is_front, front_lower, order, order_of_pairs, tied, turned}
use Rattle.index_tree.proofs.PairOrder.{beyond_gap, beyond_pair, key_order, le_by, pair_lower, short_below_top, short_of_gap}
use Rattle.index_tree.proofs.Lists.{all_both, all_from, any_found, any_none, filter_alike, find_alike, found_passes, none_passes, pairs_found}

-- the entries that are apart from a key that was found
pub found_apart : (p : Pair → Bool) (entries : List Pair) (f : Pair) → Some f ≡ find p entries → AreApart entries → IsApartFromAll f.0 entries
found_apart p entries f e h = pairs_found (λ one other. IsApart one.0 other.0) (λ x. apart_itself x.0) (λ x y k. apart_turned x.0 y.0 k) p entries f e h

-- ---- the entries before one that was found, and those from it on

less_not : (r : Ordering) → is_ge r ≡ false → is_lt r ≡ true
less_not Less h = refl
less_not Equal h = absurd (true≢false h)
less_not Greater h = absurd (true≢false h)

pub not_less : (r : Ordering) → is_ge r ≡ true → is_lt r ≡ false
not_less Less h = absurd (true≢false (sym h))
not_less Equal h = refl
not_less Greater h = refl

pub before_and_from : (p : Pair → Bool) (Q : Pair → Type 0) (entries : List Pair) (f : Pair) → are_sorted entries ≡ true → Some f ≡ find p entries
    → ((x : Pair) → p x ≡ false → Q x) → Q f → ((x : Pair) → pair_lt f x ≡ true → Q x) → All Q entries
before_and_from p Q [] f s e before here from = All-nil Q
before_and_from p Q (x ∷ xs) f s e before here from =
    by_test (list_all (pair_lt x) xs)
    (λ a. by_test (p x)
    (λ t.
    let some : Some f ≡ Some x = rw t at e in
    let same : f ≡ x = cc in
    All-cons Q x xs (subst Q same here) (All-weaker (λ y. pair_lt x y ≡ true) Q (λ y l. from y (ap (λ z. pair_lt z y) same ∙ l)) xs (all_from (pair_lt x) xs a)))
    (λ t. All-cons Q x xs (before x t) (before_and_from p Q xs f (rw a at s) (rw t at e) before here from)))
    (λ a. absurd (true≢false (sym (rw a at s))))

above_by : (r : Ordering) (a f g : List ℕ) (q : Ordering) → order f a ≡ r → is_lt (ordering_then r q) ≡ true → order f g ≡ Greater → order a g ≡ Greater
above_by Less a f g q e h k =
    turned a g ∙ ap ordering_reverse (nat_list_cmp_total.trans g f a (turned g f ∙ ap ordering_reverse k) e)
above_by Equal a f g q e h k = sym (nat_list_cmp_total.congr f a g e) ∙ k
above_by Greater a f g q e h k = absurd (true≢false (sym h))

-- what follows a key above another is above it too
pub above_later : (f x : Pair) (key : List ℕ) → order f.0 key ≡ Greater → pair_lt f x ≡ true → order x.0 key ≡ Greater
above_later f x key h l = above_by (order f.0 x.0) x.0 f.0 key (order f.1 x.1) refl (sym (pair_lower f x) ∙ l) h

-- ---- where the cut falls

module _ (key bookmark : List ℕ) where
  cut_below : (x : Pair) → is_at_or_after key x ≡ false → is_lt (order (x.0 ++ x.1) (key ++ [])) ≡ pair_lt x (key, bookmark)
  cut_below x h =
      let low : is_lt (order (x.0 ++ x.1) key) ≡ true = less_not (order (x.0 ++ x.1) key) h in
      let front : is_lt (order x.0 key) ≡ true = front_lower x.0 x.1 key low in
      ap (λ k. is_lt (order (x.0 ++ x.1) k)) (append-nil key) ∙ low ∙ rw front refl

  cut_above : (x : Pair) → order x.0 key ≡ Greater → is_lt (order (x.0 ++ x.1) (key ++ [])) ≡ pair_lt x (key, bookmark)
  cut_above x h =
      ap (λ k. is_lt (order (x.0 ++ x.1) k)) (append-nil key)
      ∙ by_test (is_lt (order (x.0 ++ x.1) key)) (λ t. absurd (true≢false (sym (front_lower x.0 x.1 key t) ∙ ap is_lt h))) (λ t. t)
      ∙ sym (pair_lower x (key, bookmark) ∙ ap (λ r. is_lt (ordering_then r (order x.1 bookmark))) h)

  pub cut_beside : (x : Pair) → IsApart key x.0 → is_lt (order (x.0 ++ x.1) (key ++ bookmark)) ≡ pair_lt x (key, bookmark)
  cut_beside x h = ap is_lt (order_of_pairs x.0 key x.1 bookmark (apart_turned key x.0 h)) ∙ sym (pair_lower x (key, bookmark))

  then_lower : (r q : Ordering) → is_le r ≡ is_lt (ordering_then (ordering_then r Less) q)
  then_lower Less q = refl
  then_lower Equal q = refl
  then_lower Greater q = refl

  cut_front : (front : List ℕ) (y : ℕ) (ys : List ℕ) (x : Pair) → key ≡ front ++ y ∷ ys → IsApart front x.0 → IsShort x
      → is_lt (order (x.0 ++ x.1) (front ++ gap_bookmark true)) ≡ pair_lt x (key, bookmark)
  cut_front front y ys x e h short =
      ap is_lt (order_of_pairs x.0 front x.1 (gap_bookmark true) (apart_turned front x.0 h))
      ∙ sym (le_by (order x.0 front) (order x.1 (gap_bookmark true)) (short_below_top x short))
      ∙ then_lower (order x.0 front) (order x.1 bookmark)
      ∙ ap (λ r. is_lt (ordering_then r (order x.1 bookmark))) (sym (ap (order x.0) e ∙ key_order x.0 front (y ∷ ys) (apart_turned front x.0 h)))
      ∙ sym (pair_lower x (key, bookmark))

  pub cuts_none : (entries : List Pair) → None ≡ find (is_at_or_after key) entries → CutsAt (key ++ []) (key, bookmark) entries
  cuts_none entries e =
      All-weaker (λ x. is_at_or_after key x ≡ false) (λ x. is_lt (order (x.0 ++ x.1) (key ++ [])) ≡ pair_lt x (key, bookmark)) cut_below entries
      (none_passes (is_at_or_after key) entries e)

  pub cuts_above : (entries : List Pair) (f : Pair) → are_sorted entries ≡ true → Some f ≡ find (is_at_or_after key) entries → order f.0 key ≡ Greater → CutsAt (key ++ []) (key, bookmark) entries
  cuts_above entries f s e h =
      before_and_from (is_at_or_after key) (λ x. is_lt (order (x.0 ++ x.1) (key ++ [])) ≡ pair_lt x (key, bookmark)) entries f s e
      cut_below (cut_above f h) (λ x l. cut_above x (above_later f x key h l))

  pub cuts_at : (entries : List Pair) (f : Pair) → AreApart entries → Some f ≡ find (is_at_or_after key) entries → order f.0 key ≡ Equal → CutsAt (key ++ bookmark) (key, bookmark) entries
  cuts_at entries f apart e h =
      All-weaker (λ (x : Pair). IsApart key x.0) (λ x. is_lt (order (x.0 ++ x.1) (key ++ bookmark)) ≡ pair_lt x (key, bookmark)) cut_beside entries
      (subst (λ k. IsApartFromAll k entries) (tied f.0 key h) (found_apart (is_at_or_after key) entries f e apart))

  pub cuts_front : (entries : List Pair) (f : Pair) → AreApart entries → All IsShort entries → Some f ≡ find (is_at_or_after key) entries → order f.0 key ≡ Less
      → CutsAt (f.0 ++ gap_bookmark true) (key, bookmark) entries
  cuts_front entries f apart short e h =
      let front = is_front f.0 f.1 key (ap is_lt h) (not_less (order (f.0 ++ f.1) key) (found_passes (is_at_or_after key) entries f e)) in
      All-weaker (λ (x : Pair). IsApart f.0 x.0 × IsShort x) (λ x. is_lt (order (x.0 ++ x.1) (f.0 ++ gap_bookmark true)) ≡ pair_lt x (key, bookmark))
      (λ x k. cut_front f.0 front.0 front.1 x front.2 k.0 k.1) entries
      (all_both (λ (x : Pair). IsApart f.0 x.0) IsShort entries (found_apart (is_at_or_after key) entries f e apart) short)

-- ---- whether a key is there

module _ (key : List ℕ) where
  other_key : (x : Pair) → is_eq (order x.0 key) ≡ false → bytes_eq x.0 key ≡ false
  other_key x h = texts_ties x.0 key ∙ h

  less_differs : (r : Ordering) → is_lt r ≡ true → is_eq r ≡ false
  less_differs Less h = refl
  less_differs Equal h = absurd (true≢false (sym h))
  less_differs Greater h = refl

  differs_below : (x : Pair) → is_at_or_after key x ≡ false → bytes_eq x.0 key ≡ false
  differs_below x h = other_key x (less_differs (order x.0 key) (front_lower x.0 x.1 key (less_not (order (x.0 ++ x.1) key) h)))

  pub no_key : (entries : List Pair) → None ≡ find (is_at_or_after key) entries → has_key key entries ≡ false
  no_key entries e =
      any_none (λ (x : Pair). bytes_eq x.0 key) entries
      (All-weaker (λ x. is_at_or_after key x ≡ false) (λ (x : Pair). bytes_eq x.0 key ≡ false) differs_below entries (none_passes (is_at_or_after key) entries e))

  then_differs : (r : Ordering) → is_eq (ordering_then r Less) ≡ false
  then_differs Less = refl
  then_differs Equal = refl
  then_differs Greater = refl

  differs_beside : (f : Pair) → order f.0 key ≡ Less → is_at_or_after key f ≡ true → (x : Pair) → IsApart f.0 x.0 → bytes_eq x.0 key ≡ false
  differs_beside f h p x apart =
      let front = is_front f.0 f.1 key (ap is_lt h) (not_less (order (f.0 ++ f.1) key) p) in
      other_key x (ap is_eq (ap (order x.0) front.2 ∙ key_order x.0 f.0 (front.0 ∷ front.1) (apart_turned f.0 x.0 apart)) ∙ then_differs (order x.0 f.0))

  found_key : (r : Ordering) (entries : List Pair) (f : Pair) → are_sorted entries ≡ true → AreApart entries → Some f ≡ find (is_at_or_after key) entries → order f.0 key ≡ r
      → is_eq r ≡ has_key key entries
  found_key Less entries f s apart e h =
      sym (any_none (λ (x : Pair). bytes_eq x.0 key) entries
      (All-weaker (λ (x : Pair). IsApart f.0 x.0) (λ (x : Pair). bytes_eq x.0 key ≡ false) (differs_beside f h (found_passes (is_at_or_after key) entries f e)) entries
      (found_apart (is_at_or_after key) entries f e apart)))
  found_key Equal entries f s apart e h =
      sym (any_found (is_at_or_after key) (λ (x : Pair). bytes_eq x.0 key) entries f e (texts_ties f.0 key ∙ ap is_eq h))
  found_key Greater entries f s apart e h =
      sym (any_none (λ (x : Pair). bytes_eq x.0 key) entries
      (before_and_from (is_at_or_after key) (λ (x : Pair). bytes_eq x.0 key ≡ false) entries f s e differs_below
      (other_key f (ap is_eq h)) (λ x l. other_key x (ap is_eq (above_later f x key h l)))))

  pub same_key : (entries : List Pair) (f : Pair) → are_sorted entries ≡ true → AreApart entries → Some f ≡ find (is_at_or_after key) entries → bytes_eq f.0 key ≡ has_key key entries
  same_key entries f s apart e = texts_ties f.0 key ∙ found_key (order f.0 key) entries f s apart e refl

-- ---- look-ups at a cut

from_by : (r : Ordering) → is_ge r ≡ not (is_lt r)
from_by Less = refl
from_by Equal = refl
from_by Greater = refl

pub found_from : (key : List ℕ) (pair : Pair) (entries : List Pair) → CutsAt key pair entries → find (is_at_or_after key) entries ≡ find (λ entry. not (pair_lt entry pair)) entries
found_from key pair entries h =
    find_alike (is_at_or_after key) (λ entry. not (pair_lt entry pair)) entries
    (All-weaker (λ x. is_lt (order (x.0 ++ x.1) key) ≡ pair_lt x pair) (λ x. is_at_or_after key x ≡ not (pair_lt x pair)) (λ x k. from_by (order (x.0 ++ x.1) key) ∙ ap not k) entries h)

-- whether an entry's node is below a key
abbrev pub is_before : List ℕ → Pair → Bool
is_before key entry = is_lt (order (entry.0 ++ entry.1) key)

pub found_below : (key : List ℕ) (pair : Pair) (entries : List Pair) → CutsAt key pair entries → last_or None (filter (is_before key) entries) ≡ last_or None (filter (λ entry. pair_lt entry pair) entries)
found_below key pair entries h = ap (last_or None) (filter_alike (is_before key) (λ entry. pair_lt entry pair) entries h)

pub after_pair : (key bookmark : List ℕ) (entries : List Pair) → find (λ entry. not (pair_lt entry (key, bookmark ++ 0 ∷ []))) entries ≡ entry_after (On key bookmark) entries
after_pair key bookmark entries = (λ i. find (λ entry. sym (beyond_pair key bookmark entry) i) entries)

pub after_gap : (key : List ℕ) (above : Bool) (entries : List Pair) → All IsShort entries → find (λ entry. not (pair_lt entry (key, gap_bookmark above))) entries ≡ entry_after (Gap key above) entries
after_gap key above entries h =
    find_alike (λ entry. not (pair_lt entry (key, gap_bookmark above))) (is_beyond (Gap key above)) entries
    (All-weaker IsShort (λ x. not (pair_lt x (key, gap_bookmark above)) ≡ is_beyond (Gap key above) x) (λ x k. sym (beyond_gap key above x k)) entries h)

pub before_gap : (key : List ℕ) (above : Bool) (entries : List Pair) → All IsShort entries → last_or None (filter (λ entry. pair_lt entry (key, gap_bookmark above)) entries) ≡ entry_before (Gap key above) entries
before_gap key above entries h =
    ap (last_or None) (filter_alike (λ entry. pair_lt entry (key, gap_bookmark above)) (is_short_of (Gap key above)) entries
    (All-weaker IsShort (λ x. pair_lt x (key, gap_bookmark above) ≡ is_short_of (Gap key above) x) (λ x k. sym (short_of_gap key above x k)) entries h))
