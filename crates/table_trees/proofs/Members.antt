-- A list of things that have pages, of which some change.
use Rattle.std.proofs.Common.{◌≡◌, ℕ, suc, ◌+◌, ◌<◌, ◌≤◌, List, [], ◌∷◌, ◌++◌, length, get_or, set, take, drop, map, refl, sym, ap, subst, ◌∙◌, arith, length-append}
use Rattle.std.specs.Prelude.{All, remove}
use Rattle.std.specs.List.{flat_map}
use Rattle.std.proofs.Math.Seq.{drop-cons}
use Rattle.std.proofs.lemmas.Grind.{flat_map-append}
use Rattle.std.proofs.lemmas.List.{append-nil, drop-set, get_or_append_left, map-append, take-append-drop, take-set}
use Rattle.std.proofs.lemmas.List.Elements.{All-append, All-cons, All-head, All-nil, All-tail}
use Rattle.page_space.specs.Frames.{Frames}
use Rattle.table_trees.specs.Pages.{OthersStay, Rearranges, copies, times_taken}
use Rattle.table_trees.proofs.Pages.{beside, copies-append}

-- ---- parts of lists

pub all_left : {X : Type 0} (P : X → Type 0) (xs ys : List X) → All P (xs ++ ys) → All P xs
all_left P xs ys h = λ k d lt. subst P (get_or_append_left xs ys d k lt) (h k d (omega (arith, length-append xs ys)))

pub all_right : {X : Type 0} (P : X → Type 0) (xs ys : List X) → All P (xs ++ ys) → All P ys
all_right P [] ys h = h
all_right P (x ∷ xs) ys h = all_right P xs ys (All-tail P x (xs ++ ys) h)

cut_at : {X : Type 0} (xs : List X) (k : ℕ) (d : X) → k < length xs → take k xs ++ get_or xs k d ∷ drop (suc k) xs ≡ xs
cut_at xs k d lt = ap (λ (l : List _). take k xs ++ l) (sym (drop-cons xs k d lt)) ∙ take-append-drop k xs

set_at : {X : Type 0} (xs : List X) (k : ℕ) (y : X) → k < length xs → take k xs ++ y ∷ drop (suc k) xs ≡ set xs k y
set_at xs k y lt =
    let next : k + 1 ≡ suc k = omega arith in
    ap (λ n. take k xs ++ y ∷ drop n xs) (sym next)
    ∙ ap (λ (l : List _). l ++ y ∷ drop (k + 1) xs) (sym (take-set xs k y))
    ∙ ap (λ (l : List _). take k (set xs k y) ++ l) (sym (drop-set xs k y lt))
    ∙ take-append-drop k (set xs k y)

pub copies-parts : {X : Type 0} (f : X → List ℕ) (page : ℕ) (front middle back : List X) → copies page (flat_map f (front ++ (middle ++ back))) ≡ copies page (flat_map f middle) + (copies page (flat_map f front) + copies page (flat_map f back))
copies-parts f page front middle back =
    let a : copies page (flat_map f (front ++ (middle ++ back))) ≡ copies page (flat_map f front ++ flat_map f (middle ++ back)) = ap (copies page) (flat_map-append f front (middle ++ back)) in
    let b : copies page (flat_map f (middle ++ back)) ≡ copies page (flat_map f middle ++ flat_map f back) = ap (copies page) (flat_map-append f middle back) in
    omega (arith, a, b, copies-append page (flat_map f front) (flat_map f (middle ++ back)), copies-append page (flat_map f middle) (flat_map f back))

-- ---- things that have none of the pages that change

pub all_stay : {X V : Type 0} (IsGood : Frames → X → Type 0) (pages : Frames → X → List ℕ) (shown : Frames → X → V) → OthersStay IsGood pages shown
    → (old new : Frames) (before after : List ℕ) (xs : List X) → Rearranges old new before after → All (IsGood old) xs → ((p : ℕ) → copies p (flat_map (pages old) xs) + copies p before ≤ times_taken old p)
    → All (IsGood new) xs × (map (shown new) xs ≡ map (shown old) xs) × (flat_map (pages new) xs ≡ flat_map (pages old) xs)
all_stay IsGood pages shown stays old new before after [] r good bound = (All-nil (IsGood new), refl, refl)
all_stay IsGood pages shown stays old new before after (x ∷ xs) r good bound =
    let first = stays old new before after x r (All-head (IsGood old) x xs good) (λ p. omega (arith, bound p, copies-append p (pages old x) (flat_map (pages old) xs))) in
    let rest = all_stay IsGood pages shown stays old new before after xs r (All-tail (IsGood old) x xs good) (λ p. omega (arith, bound p, copies-append p (pages old x) (flat_map (pages old) xs))) in
    (All-cons (IsGood new) x xs first.0 rest.0, (λ i. first.1 i ∷ rest.1 i), (λ i. first.2 i ++ rest.2 i))

-- ---- some of them change

-- A list of things has become another, which shows these values.
pub record Steps {X V : Type 0} (IsGood : Frames → X → Type 0) (pages : Frames → X → List ℕ) (shown : Frames → X → V) (old new : Frames) (xs ys : List X) (values : List V) : Type 0 where
  pub good : All (IsGood new) ys
  pub values_are : map (shown new) ys ≡ values
  pub rearranges : Rearranges old new (flat_map (pages old) xs) (flat_map (pages new) ys)

-- the pages of these things are taken, each once
abbrev pub AreBounded : {X : Type 0} → (Frames → X → List ℕ) → Frames → List X → Type 0
AreBounded pages frames xs = (p : ℕ) → copies p (flat_map (pages frames) xs) ≤ times_taken frames p

pub middle_changes : {X V : Type 0} (IsGood : Frames → X → Type 0) (pages : Frames → X → List ℕ) (shown : Frames → X → V) → OthersStay IsGood pages shown
    → (old new : Frames) (front middle changed back : List X) → All (IsGood old) (front ++ (middle ++ back)) → AreBounded pages old (front ++ (middle ++ back))
    → All (IsGood new) changed → Rearranges old new (flat_map (pages old) middle) (flat_map (pages new) changed)
    → Steps IsGood pages shown old new (front ++ (middle ++ back)) (front ++ (changed ++ back)) (map (shown old) front ++ (map (shown new) changed ++ map (shown old) back))
middle_changes IsGood pages shown stays old new front middle changed back good bound is r =
    let before = flat_map (pages old) middle in
    let after = flat_map (pages new) changed in
    let left = all_stay IsGood pages shown stays old new before after front r (all_left (IsGood old) front (middle ++ back) good) (λ p. omega (arith, bound p, copies-parts (pages old) p front middle back)) in
    let right = all_stay IsGood pages shown stays old new before after back r (all_right (IsGood old) middle back (all_right (IsGood old) front (middle ++ back) good)) (λ p. omega (arith, bound p, copies-parts (pages old) p front middle back)) in
    record {
      good = All-append (IsGood new) front (changed ++ back) left.0 (All-append (IsGood new) changed back is right.0);
      values_are =
          map-append (shown new) front (changed ++ back)
          ∙ ap (λ l. map (shown new) front ++ l) (map-append (shown new) changed back)
          ∙ (λ i. left.1 i ++ (map (shown new) changed ++ right.1 i));
      rearranges =
          beside old new before after (flat_map (pages old) (front ++ (middle ++ back))) (flat_map (pages new) (front ++ (changed ++ back))) (λ p. copies p (flat_map (pages old) front) + copies p (flat_map (pages old) back)) r
          (λ p. copies-parts (pages old) p front middle back)
          (λ p.
          let a : copies p (flat_map (pages new) front) ≡ copies p (flat_map (pages old) front) = ap (copies p) left.2 in
          let b : copies p (flat_map (pages new) back) ≡ copies p (flat_map (pages old) back) = ap (copies p) right.2 in
          omega (arith, copies-parts (pages new) p front changed back, a, b));
    }

-- One of a list has become some others. The values of those before it and behind it are the same.
pub record OneChanges {X V : Type 0} (IsGood : Frames → X → Type 0) (pages : Frames → X → List ℕ) (shown : Frames → X → V) (old new : Frames) (xs : List X) (x : X) (ys : List X) (changed : List V) : Type 0 where
  pub fronts : List V
  pub backs : List V
  pub was : map (shown old) xs ≡ fronts ++ shown old x ∷ backs
  pub steps : Steps IsGood pages shown old new xs ys (fronts ++ (changed ++ backs))

one_changes : {X V : Type 0} (IsGood : Frames → X → Type 0) (pages : Frames → X → List ℕ) (shown : Frames → X → V) → OthersStay IsGood pages shown
    → (old new : Frames) (xs : List X) (k : ℕ) (x : X) (changed : List X) → k < length xs → x ≡ get_or xs k x → All (IsGood old) xs → AreBounded pages old xs
    → All (IsGood new) changed → Rearranges old new (pages old x) (flat_map (pages new) changed)
    → OneChanges IsGood pages shown old new xs x (take k xs ++ (changed ++ drop (suc k) xs)) (map (shown new) changed)
one_changes {X} {V} IsGood pages shown stays old new xs k x changed lt e good bound is r =
    let front = take k xs in
    let back = drop (suc k) xs in
    let whole : front ++ x ∷ back ≡ xs = ap (λ (z : X). front ++ z ∷ back) e ∙ cut_at xs k x lt in
    record {
      fronts = map (shown old) front;
      backs = map (shown old) back;
      was = ap (map (shown old)) (sym whole) ∙ map-append (shown old) front (x ∷ back);
      steps =
          subst (λ (l : List X). Steps IsGood pages shown old new l (front ++ (changed ++ back)) (map (shown old) front ++ (map (shown new) changed ++ map (shown old) back))) whole
          (middle_changes IsGood pages shown stays old new front (x ∷ []) changed back
          (subst (All (IsGood old)) (sym whole) good) (subst (AreBounded pages old) (sym whole) bound) is
          (subst (λ (l : List ℕ). Rearranges old new l (flat_map (pages new) changed)) (sym (append-nil (pages old x))) r));
    }

-- one at a place becomes another
pub one_set : {X V : Type 0} (IsGood : Frames → X → Type 0) (pages : Frames → X → List ℕ) (shown : Frames → X → V) → OthersStay IsGood pages shown
    → (old new : Frames) (xs : List X) (k : ℕ) (x y : X) → k < length xs → x ≡ get_or xs k x → All (IsGood old) xs → AreBounded pages old xs → IsGood new y → Rearranges old new (pages old x) (pages new y)
    → OneChanges IsGood pages shown old new xs x (set xs k y) (shown new y ∷ [])
one_set {X} {V} IsGood pages shown stays old new xs k x y lt e good bound is r =
    subst (λ (l : List X). OneChanges IsGood pages shown old new xs x l (shown new y ∷ [])) (set_at xs k y lt)
    (one_changes IsGood pages shown stays old new xs k x (y ∷ []) lt e good bound (All-cons (IsGood new) y [] is (All-nil (IsGood new)))
    (subst (Rearranges old new (pages old x)) (sym (append-nil (pages new y))) r))

-- one at a place goes
pub one_removed : {X V : Type 0} (IsGood : Frames → X → Type 0) (pages : Frames → X → List ℕ) (shown : Frames → X → V) → OthersStay IsGood pages shown
    → (old new : Frames) (xs : List X) (k : ℕ) (x : X) → k < length xs → x ≡ get_or xs k x → All (IsGood old) xs → AreBounded pages old xs → Rearranges old new (pages old x) []
    → OneChanges IsGood pages shown old new xs x (remove xs k) []
one_removed IsGood pages shown stays old new xs k x lt e good bound r =
    one_changes IsGood pages shown stays old new xs k x [] lt e good bound (All-nil (IsGood new)) r

-- one more behind the others
pub one_added : {X V : Type 0} (IsGood : Frames → X → Type 0) (pages : Frames → X → List ℕ) (shown : Frames → X → V) → OthersStay IsGood pages shown
    → (old new : Frames) (xs : List X) (y : X) → All (IsGood old) xs → AreBounded pages old xs → IsGood new y → Rearranges old new [] (pages new y)
    → Steps IsGood pages shown old new xs (xs ++ y ∷ []) (map (shown old) xs ++ shown new y ∷ [])
one_added {X} {V} IsGood pages shown stays old new xs y good bound is r =
    let whole : xs ++ [] ≡ xs = append-nil xs in
    subst (λ (l : List X). Steps IsGood pages shown old new l (xs ++ y ∷ []) (map (shown old) xs ++ shown new y ∷ [])) whole
    (middle_changes IsGood pages shown stays old new xs [] (y ∷ []) []
    (subst (All (IsGood old)) (sym whole) good) (subst (AreBounded pages old) (sym whole) bound) (All-cons (IsGood new) y [] is (All-nil (IsGood new)))
    (subst (Rearranges old new []) (sym (append-nil (pages new y))) r))

-- the last one goes
pub last_removed : {X V : Type 0} (IsGood : Frames → X → Type 0) (pages : Frames → X → List ℕ) (shown : Frames → X → V) → OthersStay IsGood pages shown
    → (old new : Frames) (xs : List X) (x : X) → All (IsGood old) (xs ++ x ∷ []) → AreBounded pages old (xs ++ x ∷ []) → Rearranges old new (pages old x) []
    → Steps IsGood pages shown old new (xs ++ x ∷ []) xs (map (shown old) xs)
last_removed {X} {V} IsGood pages shown stays old new xs x good bound r =
    let s = middle_changes IsGood pages shown stays old new xs (x ∷ []) [] [] good bound (All-nil (IsGood new))
    (subst (λ (l : List ℕ). Rearranges old new l []) (sym (append-nil (pages old x))) r) in
    subst (λ (l : List X). Steps IsGood pages shown old new (xs ++ x ∷ []) l (map (shown old) xs)) (append-nil xs)
    (subst (Steps IsGood pages shown old new (xs ++ x ∷ []) (xs ++ [])) (append-nil (map (shown old) xs)) s)
