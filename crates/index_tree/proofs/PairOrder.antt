-- The order of entries is that of their nodes' keys, where the keys are apart.
use Rattle.std.proofs.Common.{◌≡◌, ℕ, zero, suc, ◌<◌, Bool, true, false, not, ◌&&◌, ◌||◌, List, [], ◌∷◌, ◌++◌, length, replicate, refl, sym, ap, ◌∙◌, bytes_eq, arith}
use Rattle.std.specs.Prelude.{All}
use Rattle.std.proofs.lemmas.Cmp.{by_ranked, ranked}
use Rattle.std.proofs.lemmas.List.{append-nil}
use Rattle.std.proofs.lemmas.List.Elements.{All-head, All-tail}
use Rattle.std.specs.declared.cmp.Ordering.{Ordering}
use Rattle.std.specs.declared.cmp.Ordering.TheVariants.{Less, Equal, Greater}
use Rattle.std.specs.Ordering.{nat_cmp, is_eq, is_lt, is_le, ordering_then, ordering_reverse}
use Rattle.std.specs.Cmp.Lexicographic.{texts_ties}
use Rattle.common_lemmas.proofs.Orders.{less_then}
use Rattle.column_set.specs.RecordValues.{bytes_le, bytes_lt}
use Rattle.index_derive.specs.declared.entries.Place.TheVariants.{On, Gap}
use Rattle.cursor_nav.specs.Places.{Pair, is_beyond, is_short_of, pair_lt}
use Rattle.index_tree.specs.Entries.{IsApart, IsShort, gap_bookmark}
use Rattle.index_tree.proofs.Bytes.{order, order_of_pairs, turned}

-- one entry is below another by its key, and then by its bookmark
pub pair_lower : (a b : Pair) → pair_lt a b ≡ is_lt (ordering_then (order a.0 b.0) (order a.1 b.1))
pair_lower a b =
    ap (λ e. bytes_lt a.0 b.0 || (e && bytes_lt a.1 b.1)) (texts_ties a.0 b.0)
    ∙ less_then (order a.0 b.0) (order a.1 b.1)

then_same : (r q : Ordering) → (is_eq r && is_eq q) ≡ is_eq (ordering_then r q)
then_same Less q = refl
then_same Equal q = refl
then_same Greater q = refl

-- whether the other entry is this one
abbrev pub is_same : Pair → Pair → Bool
is_same one other = bytes_eq other.0 one.0 && bytes_eq other.1 one.1

pub pair_same : (a b : Pair) → is_same a b ≡ is_eq (ordering_then (order b.0 a.0) (order b.1 a.1))
pair_same a b = (λ i. texts_ties b.0 a.0 i && texts_ties b.1 a.1 i) ∙ then_same (order b.0 a.0) (order b.1 a.1)

-- a key by itself
pub key_order : (key other beside : List ℕ) → IsApart key other → order key (other ++ beside) ≡ ordering_then (order key other) (order [] beside)
key_order key other beside h = ap (λ k. order k (other ++ beside)) (sym (append-nil key)) ∙ order_of_pairs key other [] beside h

pub order_of_entries : (a b : Pair) → IsApart a.0 b.0 → order (a.0 ++ a.1) (b.0 ++ b.1) ≡ ordering_then (order a.0 b.0) (order a.1 b.1)
order_of_entries a b h = order_of_pairs a.0 b.0 a.1 b.1 h

-- ---- bookmarks beyond all others

pub below_top : (bookmark : List ℕ) (n : ℕ) → length bookmark < n → All (λ byte. byte < 256) bookmark → order bookmark (replicate n 255) ≡ Less
below_top [] zero lt h = absurd (omega arith)
below_top [] (suc n) lt h = refl
below_top (b ∷ bookmark) zero lt h = absurd (omega arith)
below_top (b ∷ bookmark) (suc n) lt h =
    let first : b < 256 = All-head (λ byte. byte < 256) b bookmark h in
    by_ranked _ _ _ (nat_cmp b 255) (ranked b 255 (nat_cmp b 255) refl)
    (λ e _. rw e refl)
    (λ e _. rw e (below_top bookmark n (omega arith) (All-tail (λ byte. byte < 256) b bookmark h)))
    (λ e gt. absurd (omega (arith, gt, first)))

pub short_below_top : (entry : Pair) → IsShort entry → order entry.1 (gap_bookmark true) ≡ Less
short_below_top entry h = below_top entry.1 256 (omega (arith, h.bookmark)) h.bytes

-- nothing is below no byte
pub none_below : (bookmark : List ℕ) → is_lt (order bookmark []) ≡ false
none_below [] = refl
none_below (b ∷ bookmark) = refl

-- a byte more is the next string
pub next_string : (a b : List ℕ) → is_lt (order a (b ++ 0 ∷ [])) ≡ is_le (order a b)
next_string [] [] = refl
next_string [] (y ∷ b) = refl
next_string (x ∷ a) [] =
    by_ranked _ _ _ (nat_cmp x 0) (ranked x 0 (nat_cmp x 0) refl)
    (λ e lt. absurd (omega (arith, lt)))
    (λ e _. rw e (none_below a))
    (λ e _. rw e refl)
next_string (x ∷ a) (y ∷ b) =
    by_ranked _ _ _ (nat_cmp x y) (ranked x y (nat_cmp x y) refl)
    (λ e _. rw e refl)
    (λ e _. rw e (next_string a b))
    (λ e _. rw e refl)

-- ---- places

pub le_by : (r q : Ordering) → q ≡ Less → is_le r ≡ is_lt (ordering_then r q)
le_by Less q h = refl
le_by Equal q h = sym (ap is_lt h)
le_by Greater q h = refl

lt_by : (r q : Ordering) → is_lt q ≡ false → is_lt r ≡ is_lt (ordering_then r q)
lt_by Less q h = refl
lt_by Equal q h = sym h
lt_by Greater q h = refl

pub short_of_gap : (key : List ℕ) (above : Bool) (entry : Pair) → IsShort entry → is_short_of (Gap key above) entry ≡ pair_lt entry (key, gap_bookmark above)
short_of_gap key true entry h = le_by (order entry.0 key) (order entry.1 (gap_bookmark true)) (short_below_top entry h) ∙ sym (pair_lower entry (key, gap_bookmark true))
short_of_gap key false entry h = lt_by (order entry.0 key) (order entry.1 []) (none_below entry.1) ∙ sym (pair_lower entry (key, []))

gt_turned : (r : Ordering) → is_lt r ≡ not (is_le (ordering_reverse r))
gt_turned Less = refl
gt_turned Equal = refl
gt_turned Greater = refl

ge_turned : (r : Ordering) → is_le r ≡ not (is_lt (ordering_reverse r))
ge_turned Less = refl
ge_turned Equal = refl
ge_turned Greater = refl

above_not : (a b : List ℕ) → bytes_lt a b ≡ not (bytes_le b a)
above_not a b = gt_turned (order a b) ∙ ap (λ r. not (is_le r)) (sym (turned b a))

from_not : (a b : List ℕ) → bytes_le a b ≡ not (bytes_lt b a)
from_not a b = ge_turned (order a b) ∙ ap (λ r. not (is_lt r)) (sym (turned b a))

pub beyond_gap : (key : List ℕ) (above : Bool) (entry : Pair) → IsShort entry → is_beyond (Gap key above) entry ≡ not (pair_lt entry (key, gap_bookmark above))
beyond_gap key true entry h = above_not key entry.0 ∙ ap not (short_of_gap key true entry h)
beyond_gap key false entry h = from_not key entry.0 ∙ ap not (short_of_gap key false entry h)

-- a pair that is not above another is below the next one
next_by : (r q p : Ordering) → is_lt p ≡ is_le q → is_lt (ordering_then r p) ≡ is_le (ordering_then r q)
next_by Less q p h = refl
next_by Equal q p h = h
next_by Greater q p h = refl

pub then_turned : (r q : Ordering) → ordering_reverse (ordering_then r q) ≡ ordering_then (ordering_reverse r) (ordering_reverse q)
then_turned Less q = refl
then_turned Equal q = refl
then_turned Greater q = refl

pub beyond_pair : (key bookmark : List ℕ) (entry : Pair) → is_beyond (On key bookmark) entry ≡ not (pair_lt entry (key, bookmark ++ 0 ∷ []))
beyond_pair key bookmark entry =
    pair_lower (key, bookmark) entry
    ∙ gt_turned (ordering_then (order key entry.0) (order bookmark entry.1))
    ∙ ap (λ r. not (is_le r)) (then_turned (order key entry.0) (order bookmark entry.1) ∙ (λ i. ordering_then (sym (turned entry.0 key) i) (sym (turned entry.1 bookmark) i)))
    ∙ ap not (sym (next_by (order entry.0 key) (order entry.1 bookmark) (order entry.1 (bookmark ++ 0 ∷ [])) (next_string entry.1 bookmark)))
    ∙ ap not (sym (pair_lower entry (key, bookmark ++ 0 ∷ [])))
