-- The order of byte strings that are put together of a key and a bookmark.
use Rattle.std.proofs.Common.{◌≡◌, ℕ, true, false, List, [], ◌∷◌, ◌++◌, refl, sym, ap, subst, ◌∙◌, true≢false}
use Rattle.std.proofs.lemmas.Cmp.{by_ranked, ranked, tied_itself}
use Rattle.std.specs.declared.cmp.Ordering.{Ordering}
use Rattle.std.specs.declared.cmp.Ordering.TheVariants.{Equal}
use Rattle.std.specs.Ordering.{nat_cmp, is_eq, is_lt, ordering_then, ordering_reverse}
use Rattle.std.specs.Cmp.Lexicographic.{slice_cmp, nat_list_cmp_total, texts_ties}
use Rattle.common_lemmas.proofs.Numbers.{same_bytes}
use Rattle.index_tree.specs.Entries.{IsApart}

-- the order of byte strings
abbrev pub order : List ℕ → List ℕ → Ordering
order = slice_cmp nat_cmp

pub turned : (a b : List ℕ) → order a b ≡ ordering_reverse (order b a)
turned = nat_list_cmp_total.antisymm

pub tied : (a b : List ℕ) → order a b ≡ Equal → a ≡ b
tied a b e = same_bytes a b (texts_ties a b ∙ ap is_eq e)

pub itself : (a : List ℕ) → order a a ≡ Equal
itself a = tied_itself nat_list_cmp_total a

-- ---- apart keys

pub apart_turned : (a b : List ℕ) → IsApart a b → IsApart b a
apart_turned a b h = record { begins_not = h.begun_not; begun_not = h.begins_not }

own_rest : (a rest : List ℕ) → a ≡ a ++ rest → rest ≡ []
own_rest [] rest e = sym e
own_rest (x ∷ a) rest e = own_rest a rest cc

pub apart_itself : (a : List ℕ) → IsApart a a
apart_itself a = record { begins_not = own_rest a; begun_not = own_rest a }

some_rest : (x : ℕ) (xs : List ℕ) → x ∷ xs ≡ [] → ⊥
some_rest x xs e = cc

tails_apart : (x : ℕ) (a b : List ℕ) → IsApart (x ∷ a) (x ∷ b) → IsApart a b
tails_apart x a b h = record {
  begins_not = λ rest e. h.begins_not rest (ap (λ l. x ∷ l) e);
  begun_not = λ rest e. h.begun_not rest (ap (λ l. x ∷ l) e);
}

-- the keys decide, and then the bookmarks
pub order_of_pairs : (key other bookmark beside : List ℕ) → IsApart key other → order (key ++ bookmark) (other ++ beside) ≡ ordering_then (order key other) (order bookmark beside)
order_of_pairs [] [] bookmark beside h = refl
order_of_pairs [] (y ∷ other) bookmark beside h = absurd (some_rest y other (h.begins_not (y ∷ other) refl))
order_of_pairs (x ∷ key) [] bookmark beside h = absurd (some_rest x key (h.begun_not (x ∷ key) refl))
order_of_pairs (x ∷ key) (y ∷ other) bookmark beside h =
    by_ranked _ _ _ (nat_cmp x y) (ranked x y (nat_cmp x y) refl)
    (λ e _. rw e refl)
    (λ e same. rw e (order_of_pairs key other bookmark beside (tails_apart x key other (subst (λ z. IsApart (x ∷ key) (z ∷ other)) (sym same) h))))
    (λ e _. rw e refl)

-- ---- fronts

-- what begins a lower string is lower
pub front_lower : (front behind key : List ℕ) → is_lt (order (front ++ behind) key) ≡ true → is_lt (order front key) ≡ true
front_lower [] [] [] h = h
front_lower [] (z ∷ behind) [] h = absurd (true≢false (sym h))
front_lower [] behind (y ∷ key) h = refl
front_lower (x ∷ front) behind [] h = absurd (true≢false (sym h))
front_lower (x ∷ front) behind (y ∷ key) h =
    by_ranked _ _ _ (nat_cmp x y) (ranked x y (nat_cmp x y) refl)
    (λ e _. rw e refl)
    (λ e _. rw e (front_lower front behind key (rw e at h)))
    (λ e _. absurd (true≢false (sym (rw e at h))))

-- A lower string whose continuation is not lower is a front.
pub is_front : (front behind key : List ℕ) → is_lt (order front key) ≡ true → is_lt (order (front ++ behind) key) ≡ false → (y : ℕ) × (ys : List ℕ) × (key ≡ front ++ y ∷ ys)
is_front [] behind [] h k = absurd (true≢false (sym h))
is_front [] behind (y ∷ key) h k = (y, key, refl)
is_front (x ∷ front) behind [] h k = absurd (true≢false (sym h))
is_front (x ∷ front) behind (y ∷ key) h k =
    by_ranked _ _ _ (nat_cmp x y) (ranked x y (nat_cmp x y) refl)
    (λ e _. absurd (true≢false (rw e at k)))
    (λ e same. let rest = is_front front behind key (rw e at h) (rw e at k) in (rest.0, rest.1, λ i. sym same i ∷ rest.2 i))
    (λ e _. absurd (true≢false (sym (rw e at h))))
