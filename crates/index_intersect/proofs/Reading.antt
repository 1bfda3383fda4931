-- What reading one entry more makes of the bookmarks of a range.
use Rattle.std.proofs.Common.{◌≡◌, ℕ, Bool, true, false, ◌&&◌, ◌||◌, cond, List, [], ◌∷◌, filter, refl, sym, ap, ◌∙◌, true≢false, bytes_eq}
use Rattle.std.specs.Ordering.{nat_cmp}
use Rattle.std.specs.Cmp.Lexicographic.{slice_cmp, texts_ties}
use Rattle.std.specs.List.{list_any}
use Rattle.std.specs.BTreeMap.{is_at}
use Rattle.std.specs.BTreeSet.{BTreeSet}
use Rattle.std.proofs.lemmas.Map.Views.{any-filter_same}
use Rattle.common_lemmas.proofs.Booleans.{and_false, or_false}
use Rattle.common_lemmas.proofs.Numbers.{bytes_turned, same_bytes}
use Rattle.index_intersect.specs.Walks.{has}

-- a set with one bookmark more
abbrev pub Inserts : BTreeSet (List ℕ) → List ℕ → BTreeSet (List ℕ) → Type 0
Inserts old x new = (b : List ℕ) → has new b ≡ cond (is_at (slice_cmp nat_cmp x) b) true (has old b)

moved_by : (read equal rest : Bool) → (cond equal true read || rest) ≡ (read || (equal || rest))
moved_by true true rest = refl
moved_by true false rest = refl
moved_by false true rest = refl
moved_by false false rest = refl

turned : (x b : List ℕ) → is_at (slice_cmp nat_cmp x) b ≡ bytes_eq b x
turned x b = sym (texts_ties x b) ∙ bytes_turned x b

-- the bookmark goes from those ahead to those that were read
pub moved : (old new : BTreeSet (List ℕ)) (x : List ℕ) (rest : List (List ℕ)) → Inserts old x new
    → (b : List ℕ) → (has new b || list_any (bytes_eq b) rest) ≡ (has old b || list_any (bytes_eq b) (x ∷ rest))
moved old new x rest h b =
    ap (λ t. t || list_any (bytes_eq b) rest) (h b ∙ ap (λ e. cond e true (has old b)) (turned x b))
    ∙ moved_by (has old b) (bytes_eq b x) (list_any (bytes_eq b) rest)

-- all of them were read
pub read_all : (read : BTreeSet (List ℕ)) (ahead : List (List ℕ)) → ahead ≡ [] → (b : List ℕ) → has read b ≡ (has read b || list_any (bytes_eq b) ahead)
read_all read ahead e b = sym (ap (λ xs. has read b || list_any (bytes_eq b) xs) e ∙ or_false (has read b))

-- none of them was read
pub read_none : (read : BTreeSet (List ℕ)) (ahead all : List (List ℕ)) → read.keys ≡ [] → ahead ≡ all → (b : List ℕ) → (has read b || list_any (bytes_eq b) ahead) ≡ list_any (bytes_eq b) all
read_none read ahead all empty e b =
    ap (λ ks. list_any (is_at (slice_cmp nat_cmp b)) ks || list_any (bytes_eq b) ahead) empty ∙ ap (list_any (bytes_eq b)) e

-- ---- among others

kept_by : (others read rest : Bool) → ((others && read) || (others && rest)) ≡ (others && (read || rest))
kept_by true read rest = refl
kept_by false read rest = refl

-- those that were read and are among the others
pub kept : (others old new : BTreeSet (List ℕ)) (ahead : List (List ℕ)) → new.keys ≡ filter (has others) old.keys
    → (b : List ℕ) → (has new b || (has others b && list_any (bytes_eq b) ahead)) ≡ (has others b && (has old b || list_any (bytes_eq b) ahead))
kept others old new ahead h b =
    ap (λ t. t || (has others b && list_any (bytes_eq b) ahead))
    (ap (list_any (is_at (slice_cmp nat_cmp b))) h
    ∙ any-filter_same (is_at (slice_cmp nat_cmp b)) (has others) (has others b) (λ x e. ap (has others) (sym (same_bytes b x (texts_ties b x ∙ e)))) old.keys)
    ∙ kept_by (has others b) (has old b) (list_any (bytes_eq b) ahead)

taken_by : (others read equal rest : Bool) → (equal ≡ true → others ≡ true) → (cond equal true read || (others && rest)) ≡ (read || (others && (equal || rest)))
taken_by true true true rest h = refl
taken_by true true false rest h = refl
taken_by true false true rest h = refl
taken_by true false false rest h = refl
taken_by false true equal rest h = by equal
  where
    by : (e : Bool) → (cond e true true || false) ≡ true
    by true = refl
    by false = refl
taken_by false false true rest h = sym (h refl)
taken_by false false false rest h = refl

-- a bookmark that the others have is read
pub taken : (others old new : BTreeSet (List ℕ)) (x : List ℕ) (rest : List (List ℕ)) → has others x ≡ true → Inserts old x new
    → (b : List ℕ) → (has new b || (has others b && list_any (bytes_eq b) rest)) ≡ (has old b || (has others b && list_any (bytes_eq b) (x ∷ rest)))
taken others old new x rest t h b =
    ap (λ t. t || (has others b && list_any (bytes_eq b) rest)) (h b ∙ ap (λ e. cond e true (has old b)) (turned x b))
    ∙ taken_by (has others b) (has old b) (bytes_eq b x) (list_any (bytes_eq b) rest) (λ e. ap (has others) (same_bytes b x e) ∙ t)

passed_by : (others equal rest : Bool) → (equal ≡ true → others ≡ false) → (others && rest) ≡ (others && (equal || rest))
passed_by false equal rest h = refl
passed_by true true rest h = absurd (true≢false (h refl))
passed_by true false rest h = refl

-- a bookmark that they do not have is passed by
pub passed : (others read : BTreeSet (List ℕ)) (x : List ℕ) (rest : List (List ℕ)) → has others x ≡ false
    → (b : List ℕ) → (has read b || (has others b && list_any (bytes_eq b) rest)) ≡ (has read b || (has others b && list_any (bytes_eq b) (x ∷ rest)))
passed others read x rest t b =
    ap (λ r. has read b || r) (passed_by (has others b) (bytes_eq b x) (list_any (bytes_eq b) rest) (λ e. ap (has others) (same_bytes b x e) ∙ t))

-- nothing is ahead
pub done : (others read : BTreeSet (List ℕ)) (ahead : List (List ℕ)) → ahead ≡ [] → (b : List ℕ) → has read b ≡ (has read b || (has others b && list_any (bytes_eq b) ahead))
done others read ahead e b =
    sym (ap (λ xs. has read b || (has others b && list_any (bytes_eq b) xs)) e ∙ ap (λ r. has read b || r) (and_false (has others b)) ∙ or_false (has read b))
