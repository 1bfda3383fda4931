-- Writing one after the other, as a loop does.
use Rattle.std.proofs.Common.{◌≡◌, ℕ, ◌+◌, ◌≤◌, not, List, [], ◌∷◌, ◌++◌, length, take, filter, Option, Some, slice_get, refl, sym, ap, subst, ◌∙◌, append_assoc, arith}
use Rattle.std.specs.List.{AllByRecursion, flat_map}
use Rattle.std.proofs.lemmas.Grind.{flat_map-append}
use Rattle.std.proofs.lemmas.List.{append-nil, length-append, length-take, take_all, take_more}
use Rattle.std.proofs.lemmas.List.Elements.{filter-append}
use Rattle.std.proofs.lemmas.Option.{get_or_from_slice_get, slice_get_within}
use Rattle.common_lemmas.proofs.Lists.{all_append, length-filter}
use Rattle.database_state.specs.State.{is_undone}
use Rattle.version_store.specs.HeldChanges.{HeldChange}
use Rattle.live_part.specs.LiveBytes.{held_bytes, standing}
use Rattle.live_part.specs.Written.{Extends}

pub one_more : {A : Type 0} (xs : List A) (i : ℕ) (x : A) → slice_get xs i ≡ Some x → take (i + 1) xs ≡ take i xs ++ x ∷ []
one_more xs i x h = take_more xs i x (slice_get_within xs i x h) ∙ ap (λ y. take i xs ++ y ∷ []) (get_or_from_slice_get xs i x x h)

-- what stands there behind one more
pub written_on : {A : Type 0} (w : A → List ℕ) (xs : List A) (i : ℕ) (x : A) (old count before after : List ℕ) → slice_get xs i ≡ Some x → before ≡ old ++ (count ++ flat_map w (take i xs)) → after ≡ before ++ w x
    → after ≡ old ++ (count ++ flat_map w (take (i + 1) xs))
written_on {A = A} w xs i x old count before after found so_far more =
    let bytes = flat_map w (take i xs) in
    let one : flat_map w (take (i + 1) xs) ≡ bytes ++ w x = ap (flat_map w) (one_more xs i x found) ∙ flat_map-append w (take i xs) (x ∷ []) ∙ ap (λ b. bytes ++ b) (single w x) in
    more ∙ ap (λ b. b ++ w x) so_far ∙ append_assoc old (count ++ bytes) (w x) ∙ ap (λ b. old ++ b) (append_assoc count bytes (w x) ∙ ap (λ b. count ++ b) (sym one))
  where
    single : (w : A → List ℕ) (x : A) → flat_map w (x ∷ []) ≡ w x
    single w x = append-nil (w x)

pub all_written : {A : Type 0} (w : A → List ℕ) (xs : List A) (i : ℕ) (old count now : List ℕ) → length xs ≤ i → now ≡ old ++ (count ++ flat_map w (take i xs)) → now ≡ old ++ (count ++ flat_map w xs)
all_written w xs i old count now le so_far = so_far ∙ ap (λ ys. old ++ (count ++ flat_map w ys)) (take_all i xs le)

-- the same of the changes that stand
pub standing_on : (xs : List HeldChange) (i : ℕ) (x : HeldChange) (old count before after : List ℕ) → slice_get xs i ≡ Some x → before ≡ old ++ (count ++ flat_map held_bytes (standing (take i xs))) → after ≡ before ++ flat_map held_bytes (standing (x ∷ []))
    → after ≡ old ++ (count ++ flat_map held_bytes (standing (take (i + 1) xs)))
standing_on xs i x old count before after found so_far more =
    let bytes = flat_map held_bytes (standing (take i xs)) in
    let own = flat_map held_bytes (standing (x ∷ [])) in
    let one : flat_map held_bytes (standing (take (i + 1) xs)) ≡ bytes ++ own =
    ap (λ ys. flat_map held_bytes (standing ys)) (one_more xs i x found) ∙ ap (flat_map held_bytes) (filter-append _ (take i xs) (x ∷ [])) ∙ flat_map-append held_bytes (standing (take i xs)) (standing (x ∷ [])) in
    more ∙ ap (λ b. b ++ own) so_far ∙ append_assoc old (count ++ bytes) own ∙ ap (λ b. old ++ b) (append_assoc count bytes own ∙ ap (λ b. count ++ b) (sym one))

pub all_standing : (xs : List HeldChange) (i : ℕ) (old count now : List ℕ) → length xs ≤ i → now ≡ old ++ (count ++ flat_map held_bytes (standing (take i xs))) → now ≡ old ++ (count ++ flat_map held_bytes (standing xs))
all_standing xs i old count now le so_far = so_far ∙ ap (λ ys. old ++ (count ++ flat_map held_bytes (standing ys))) (take_all i xs le)

-- how many stand
pub counted_on : (xs : List HeldChange) (i : ℕ) (x : HeldChange) → slice_get xs i ≡ Some x → length (standing (take (i + 1) xs)) ≡ length (standing (take i xs)) + length (standing (x ∷ []))
counted_on xs i x found =
    ap (λ ys. length (standing ys)) (one_more xs i x found) ∙ ap length (filter-append _ (take i xs) (x ∷ [])) ∙ length-append (standing (take i xs)) (standing (x ∷ []))

standing_within : (xs : List HeldChange) (i : ℕ) → length (standing (take i xs)) ≤ i
standing_within xs i = omega (arith, length-filter (λ (h : HeldChange). not (is_undone h.status)) (take i xs), length-take i xs)

pub counts_fit : (xs : List HeldChange) (i : ℕ) (x : HeldChange) (count one : ℕ) → slice_get xs i ≡ Some x → count ≡ length (standing (take i xs)) → one ≡ length (standing (x ∷ [])) → count + one ≤ i + 1
counts_fit xs i x count one found so_far own =
    let more : length (standing (take (i + 1) xs)) ≡ count + one = counted_on xs i x found ∙ ap (λ n. n + length (standing (x ∷ []))) (sym so_far) ∙ ap (λ n. count + n) (sym own) in
    subst (λ (n : ℕ). n ≤ i + 1) more (standing_within xs (i + 1))

-- ---- what holds of each

pub each_on : {A : Type 0} (P : A → Type 0) (xs : List A) (i : ℕ) (x : A) → slice_get xs i ≡ Some x → AllByRecursion P (take i xs) → P x → AllByRecursion P (take (i + 1) xs)
each_on P xs i x found so_far own = subst (AllByRecursion P) (sym (one_more xs i x found)) (all_append P (take i xs) (x ∷ []) so_far (own, tt))

pub each_standing_on : (P : HeldChange → Type 0) (xs : List HeldChange) (i : ℕ) (x : HeldChange) → slice_get xs i ≡ Some x → AllByRecursion P (standing (take i xs)) → AllByRecursion P (standing (x ∷ [])) → AllByRecursion P (standing (take (i + 1) xs))
each_standing_on P xs i x found so_far own =
    subst (AllByRecursion P) (sym (ap standing (one_more xs i x found) ∙ filter-append _ (take i xs) (x ∷ []))) (all_append P (standing (take i xs)) (standing (x ∷ [])) so_far own)

-- where all are taken
pub each_of_all : {A : Type 0} (P : List A → Type 0) (xs : List A) (i : ℕ) → length xs ≤ i → P (take i xs) → P xs
each_of_all P xs i le h = subst P (take_all i xs le) h

-- ---- groups

pub three_appended : (old a b c n1 n2 n3 : List ℕ) → n1 ≡ old ++ a → n2 ≡ n1 ++ b → n3 ≡ n2 ++ c → n3 ≡ old ++ (a ++ (b ++ c))
three_appended old a b c n1 n2 n3 p q r =
    r ∙ ap (λ (x : List ℕ). x ++ c) (q ∙ ap (λ (x : List ℕ). x ++ b) p) ∙ append_assoc (old ++ a) b c ∙ append_assoc old a (b ++ c)

pub change_written : (old number level status sized row n1 n2 n3 : List ℕ) → n1 ≡ old ++ (number ++ (level ++ status)) → n2 ≡ n1 ++ sized → n3 ≡ n2 ++ row → n3 ≡ old ++ (number ++ (level ++ (status ++ (sized ++ row))))
change_written old number level status sized row n1 n2 n3 p q r =
    three_appended old (number ++ (level ++ status)) sized row n1 n2 n3 p q r
    ∙ ap (λ (x : List ℕ). old ++ x) (append_assoc number (level ++ status) (sized ++ row) ∙ ap (λ (x : List ℕ). number ++ x) (append_assoc level status (sized ++ row)))

-- ---- what was there stays

pub still_extends : (old part now new : List ℕ) → now ≡ old ++ part → new ≡ now → Extends old new
still_extends old part now new is same = (part, same ∙ is)

pub extends_again : (old part now new : List ℕ) → now ≡ old ++ part → Extends now new → Extends old new
extends_again old part now new is more = (part ++ more.0, more.1 ∙ ap (λ (x : List ℕ). x ++ more.0) is ∙ append_assoc old part more.0)

front_of : (old rest : List ℕ) → take (length old) (old ++ rest) ≡ old
front_of [] rest = refl
front_of (x ∷ old) rest = ap (λ (xs : List ℕ). x ∷ xs) (front_of old rest)

pub cut_back : (old new : List ℕ) → Extends old new → take (length old) new ≡ old
cut_back old new more = ap (take (length old)) more.1 ∙ front_of old more.0
