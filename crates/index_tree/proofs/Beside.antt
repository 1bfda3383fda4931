-- The entries beside one that is there: those of the nodes beside its own.
use Rattle.std.proofs.Common.{◌≡◌, ℕ, Bool, true, nat_eq, eq-eqb, List, ◌++◌, filter, find, None, refl, sym, ap, ◌∙◌}
use Rattle.std.specs.List.{last_or}
use Rattle.std.proofs.lemmas.List.Elements.{All-weaker}
use Rattle.std.specs.declared.cmp.Ordering.{Ordering}
use Rattle.std.specs.declared.cmp.Ordering.TheVariants.{Less, Equal, Greater}
use Rattle.std.specs.Ordering.{is_gt, is_lt, ordering_then, ordering_reverse}
use Rattle.index_derive.specs.declared.entries.Place.TheVariants.{On}
use Rattle.cursor_nav.specs.Places.{Pair, entry_after, entry_before, is_beyond, pair_lt}
use Rattle.laws_versions.specs.KeptEntries.{has_entry}
use Rattle.index_tree.specs.Entries.{AreApart, IsApart}
use Rattle.index_tree.proofs.Bytes.{order, order_of_pairs, turned}
use Rattle.index_tree.proofs.PairOrder.{pair_lower}
use Rattle.index_tree.proofs.Lists.{find_alike}
use Rattle.index_tree.proofs.Cutting.{cut_beside, found_below, is_before}
use Rattle.index_tree.proofs.Changing.{there_apart}

pub own_size : (n : ℕ) → nat_eq n n ≡ true
own_size n = eq-eqb n n refl

-- whether an entry's node is above a key
abbrev pub is_behind : List ℕ → Pair → Bool
is_behind key entry = is_gt (order (entry.0 ++ entry.1) key)

above_turned : (r : Ordering) → is_gt (ordering_reverse r) ≡ is_lt r
above_turned Less = refl
above_turned Equal = refl
above_turned Greater = refl

beyond_beside : (key bookmark : List ℕ) (x : Pair) → IsApart key x.0 → is_behind (key ++ bookmark) x ≡ is_beyond (On key bookmark) x
beyond_beside key bookmark x h =
    ap is_gt (turned (x.0 ++ x.1) (key ++ bookmark) ∙ ap ordering_reverse (order_of_pairs key x.0 bookmark x.1 h))
    ∙ above_turned (ordering_then (order key x.0) (order bookmark x.1))
    ∙ sym (pair_lower (key, bookmark) x)

pub after_entry : (key bookmark : List ℕ) (entries : List Pair) → AreApart entries → has_entry key bookmark entries ≡ true → find (is_behind (key ++ bookmark)) entries ≡ entry_after (On key bookmark) entries
after_entry key bookmark entries apart there =
    find_alike (is_behind (key ++ bookmark)) (is_beyond (On key bookmark)) entries
    (All-weaker (λ (x : Pair). IsApart key x.0) (λ x. is_behind (key ++ bookmark) x ≡ is_beyond (On key bookmark) x) (beyond_beside key bookmark) entries
    (there_apart (key, bookmark) entries there apart))

pub before_entry : (key bookmark : List ℕ) (entries : List Pair) → AreApart entries → has_entry key bookmark entries ≡ true → last_or None (filter (is_before (key ++ bookmark)) entries) ≡ entry_before (On key bookmark) entries
before_entry key bookmark entries apart there =
    found_below (key ++ bookmark) (key, bookmark) entries
    (All-weaker (λ (x : Pair). IsApart key x.0) (λ x. is_lt (order (x.0 ++ x.1) (key ++ bookmark)) ≡ pair_lt x (key, bookmark)) (cut_beside key bookmark) entries
    (there_apart (key, bookmark) entries there apart))
