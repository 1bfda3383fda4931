-- Bookmarks that are their own keys: what lies beyond and before a place among them, by one comparison.
use Rattle.std.proofs.Common.{◌≡◌, ℕ, Bool, true, false, ◌&&◌, ◌||◌, List, refl, sym, ap, ◌∙◌, bytes_eq}
use Rattle.std.specs.declared.cmp.Ordering.{Ordering}
use Rattle.std.specs.declared.cmp.Ordering.TheVariants.{Less, Equal, Greater}
use Rattle.std.specs.Ordering.{nat_cmp, is_lt, is_le, is_gt, is_ge, is_eq, ordering_reverse}
use Rattle.std.specs.Cmp.Lexicographic.{slice_cmp, nat_list_cmp_total, texts_ties}
use Rattle.index_derive.specs.declared.entries.Place.TheVariants.{On, Gap}
use Rattle.column_set.specs.RecordValues.{bytes_lt}
use Rattle.cursor_nav.specs.Places.{is_beyond, is_short_of, pair_lt}

-- the order of byte strings
abbrev pub order : List ℕ → List ℕ → Ordering
order = slice_cmp nat_cmp

turned : (a b : List ℕ) → order a b ≡ ordering_reverse (order b a)
turned = nat_list_cmp_total.antisymm

-- equal byte strings lie alike to a third, on either side
left_alike : (a b c : List ℕ) → order a b ≡ Equal → order a c ≡ order b c
left_alike = nat_list_cmp_total.congr

right_alike : (a b c : List ℕ) → order a b ≡ Equal → order c a ≡ order c b
right_alike a b c e = turned c a ∙ ap ordering_reverse (left_alike a b c e) ∙ sym (turned c b)

-- ---- beyond

at_or_above_by : (r : Ordering) (q : Bool) → (r ≡ Equal → q ≡ true) → (is_lt r || (is_eq r && q)) ≡ is_ge (ordering_reverse r)
at_or_above_by Less q h = refl
at_or_above_by Equal q h = h refl
at_or_above_by Greater q h = refl

above_by : (r : Ordering) (q : Bool) → (r ≡ Equal → q ≡ false) → (is_lt r || (is_eq r && q)) ≡ is_gt (ordering_reverse r)
above_by Less q h = refl
above_by Equal q h = h refl
above_by Greater q h = refl

spelled : (a b : List ℕ) (q : Bool) → (bytes_lt a b || (bytes_eq a b && q)) ≡ (is_lt (order a b) || (is_eq (order a b) && q))
spelled a b q = ap (λ e. bytes_lt a b || (e && q)) (texts_ties a b)

pub beyond_from : (key bookmark own : List ℕ) → is_lt (order bookmark key) ≡ true → is_beyond (On key bookmark) (own, own) ≡ is_ge (order own key)
beyond_from key bookmark own low =
    spelled key own (bytes_lt bookmark own)
    ∙ at_or_above_by (order key own) (bytes_lt bookmark own) (λ e. ap is_lt (sym (right_alike key own bookmark e)) ∙ low)
    ∙ ap is_ge (sym (turned own key))

pub beyond_above : (key bookmark own : List ℕ) → is_lt (order bookmark key) ≡ false → is_beyond (On key bookmark) (own, own) ≡ is_gt (order own key)
beyond_above key bookmark own high =
    spelled key own (bytes_lt bookmark own)
    ∙ above_by (order key own) (bytes_lt bookmark own) (λ e. ap is_lt (sym (right_alike key own bookmark e)) ∙ high)
    ∙ ap is_gt (sym (turned own key))

gt_by : (r : Ordering) → is_lt r ≡ is_gt (ordering_reverse r)
gt_by Less = refl
gt_by Equal = refl
gt_by Greater = refl

ge_by : (r : Ordering) → is_le r ≡ is_ge (ordering_reverse r)
ge_by Less = refl
ge_by Equal = refl
ge_by Greater = refl

pub beyond_gap_above : (key own : List ℕ) → is_beyond (Gap key true) (own, own) ≡ is_gt (order own key)
beyond_gap_above key own = gt_by (order key own) ∙ ap is_gt (sym (turned own key))

pub beyond_gap_below : (key own : List ℕ) → is_beyond (Gap key false) (own, own) ≡ is_ge (order own key)
beyond_gap_below key own = ge_by (order key own) ∙ ap is_ge (sym (turned own key))

-- ---- before

at_or_below_by : (r : Ordering) (q : Bool) → (r ≡ Equal → q ≡ true) → (is_lt r || (is_eq r && q)) ≡ is_le r
at_or_below_by Less q h = refl
at_or_below_by Equal q h = h refl
at_or_below_by Greater q h = refl

below_by : (r : Ordering) (q : Bool) → (r ≡ Equal → q ≡ false) → (is_lt r || (is_eq r && q)) ≡ is_lt r
below_by Less q h = refl
below_by Equal q h = h refl
below_by Greater q h = refl

lt_by : (r : Ordering) → is_lt (ordering_reverse r) ≡ is_gt r
lt_by Less = refl
lt_by Equal = refl
lt_by Greater = refl

-- own lies to the bookmark as the key does, where it is the key
short_alike : (key bookmark own : List ℕ) → order own key ≡ Equal → bytes_lt own bookmark ≡ is_gt (order bookmark key)
short_alike key bookmark own e = ap is_lt (left_alike own key bookmark e ∙ turned key bookmark) ∙ lt_by (order bookmark key)

pub short_upto : (key bookmark own : List ℕ) → is_gt (order bookmark key) ≡ true → is_short_of (On key bookmark) (own, own) ≡ is_le (order own key)
short_upto key bookmark own high =
    spelled own key (bytes_lt own bookmark)
    ∙ at_or_below_by (order own key) (bytes_lt own bookmark) (λ e. short_alike key bookmark own e ∙ high)

pub short_under : (key bookmark own : List ℕ) → is_gt (order bookmark key) ≡ false → is_short_of (On key bookmark) (own, own) ≡ is_lt (order own key)
short_under key bookmark own low =
    spelled own key (bytes_lt own bookmark)
    ∙ below_by (order own key) (bytes_lt own bookmark) (λ e. short_alike key bookmark own e ∙ low)

-- ---- equal and rising bookmarks

eq_by : (r : Ordering) → is_eq (ordering_reverse r) ≡ is_eq r
eq_by Less = refl
eq_by Equal = refl
eq_by Greater = refl

pub same_either_way : (a b : List ℕ) → is_eq (order a b) ≡ is_eq (order b a)
same_either_way a b = ap is_eq (turned a b) ∙ eq_by (order b a)

absorbed : (a e : Bool) → (a || (e && a)) ≡ a
absorbed true e = refl
absorbed false true = refl
absorbed false false = refl

pub own_pairs_rise : (a b : List ℕ) → pair_lt (a, a) (b, b) ≡ bytes_lt a b
own_pairs_rise a b = absorbed (bytes_lt a b) (bytes_eq a b)
