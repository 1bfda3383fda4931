-- One of a list that was found by its number, and what the list shows once it has changed.
use Rattle.std.proofs.Common.{◌≡◌, ℕ, zero, suc, ◌-◌, ◌<◌, ◌≤◌, Bool, true, false, if◌then◌else◌, Option, Some, None, List, [], ◌∷◌, ◌++◌, length, get_or, map, find, option_map, refl, sym, ap, subst, ◌∙◌, arith}
use Rattle.std.specs.Prelude.{All, count_by, is_some, unwrap_or}
use Rattle.std.specs.List.{list_any, position_from}
use Rattle.std.proofs.lemmas.List.{get_or-map, length-map}
use Rattle.std.proofs.lemmas.List.Elements.{All-head, All-tail}
use Rattle.common_lemmas.proofs.Booleans.{by_test}
use Rattle.page_space.specs.Frames.{Frames}
use Rattle.table_trees.specs.StoredTables.{changed_where, part_of, without_where}
use Rattle.table_trees.proofs.Lookups.{any-map, changed-only, count-append, count-map, count-no, count-yes, found_nowhere, has_place, only, placed, placed_nowhere, without-only}
use Rattle.table_trees.proofs.Members.{OneChanges, Steps}

-- It stands at this place and passes the test.
pub record IsPlaced {X : Type 0} (p : X → Bool) (xs : List X) (k : ℕ) (x : X) : Type 0 where
  pub within : k < length xs
  pub is : x ≡ get_or xs k x
  pub passes : p x ≡ true

pub within_of : {X : Type 0} (p : X → Bool) (xs given : List X) (k : ℕ) → given ≡ xs → Some k ≡ position_from p 0 given → k < length xs
within_of p xs given k same e = let place = placed p xs 0 k (e ∙ ap (position_from p 0) same) in omega (arith, place.1)

pub place_of : {X : Type 0} (p : X → Bool) (xs given : List X) (k : ℕ) (x : X) → given ≡ xs → Some k ≡ position_from p 0 given → x ≡ get_or xs k x → IsPlaced p xs k x
place_of p xs given k x same e is =
    let place = placed p xs 0 k (e ∙ ap (position_from p 0) same) in
    let whole : k - 0 ≡ k = omega arith in
    record {
      within = omega (arith, place.1);
      is = is;
      passes = ap p is ∙ ap (λ n. p (get_or xs n x)) (sym whole) ∙ place.2 x;
    }

-- ---- what is found

counted_at : {V : Type 0} (q : V → Bool) (vs : List V) (k : ℕ) (d : V) → k < length vs → q (get_or vs k d) ≡ true → 0 < count_by q vs
counted_at q [] k d lt t = absurd (omega arith)
counted_at q (v ∷ vs) zero d lt t = omega (arith, count-yes q v vs t)
counted_at q (v ∷ vs) (suc k) d lt t =
    by_test (q v)
    (λ h. omega (arith, count-yes q v vs h))
    (λ h. omega (arith, count-no q v vs h, counted_at q vs k d (omega arith) t))

found_at : {V : Type 0} (q : V → Bool) (vs : List V) (k : ℕ) (d : V) → k < length vs → q (get_or vs k d) ≡ true → count_by q vs ≤ 1 → find q vs ≡ Some (get_or vs k d)
found_at q [] k d lt t once = absurd (omega arith)
found_at q (v ∷ vs) zero d lt t once = let here : q v ≡ true = t in rw here refl
found_at q (v ∷ vs) (suc k) d lt t once =
    by_test (q v)
    (λ h. absurd (omega (arith, count-yes q v vs h, counted_at q vs k d (omega arith) t, once)))
    (λ h. rw h (found_at q vs k d (omega arith) t (omega (arith, count-no q v vs h, once))))

pub found_part : {X V Y : Type 0} (shown : X → V) (q : V → Bool) (part : V → List Y) (xs : List X) (k : ℕ) (x : X) → IsPlaced (λ x. q (shown x)) xs k x → count_by q (map shown xs) ≤ 1 → part_of q part (map shown xs) ≡ part (shown x)
found_part {X} {V} {Y} shown q part xs k x place once =
    let at : get_or (map shown xs) k (shown x) ≡ shown x = get_or-map shown xs k x (shown x) place.within ∙ ap shown (sym place.is) in
    let found : find q (map shown xs) ≡ Some (shown x) =
    found_at q (map shown xs) k (shown x) (omega (arith, length-map xs shown, place.within)) (ap q at ∙ place.passes) once ∙ ap Some at in
    ap (λ (o : Option V). unwrap_or (option_map part o) []) found

pub found_no_part : {X V Y : Type 0} (shown : X → V) (q : V → Bool) (part : V → List Y) (xs given : List X) → given ≡ xs → None ≡ position_from (λ x. q (shown x)) 0 given → part_of q part (map shown xs) ≡ []
found_no_part {X} {V} {Y} shown q part xs given same e =
    let none : count_by q (map shown xs) ≡ 0 = count-map shown q xs ∙ placed_nowhere (λ x. q (shown x)) xs 0 (e ∙ ap (position_from (λ x. q (shown x)) 0) same) in
    ap (λ (o : Option V). unwrap_or (option_map part o) []) (found_nowhere q (map shown xs) none)

pub has_shown : {X V : Type 0} (shown : X → V) (q : V → Bool) (xs given : List X) → given ≡ xs → is_some (position_from (λ x. q (shown x)) 0 given) ≡ list_any q (map shown xs)
has_shown shown q xs given same = ap (λ l. is_some (position_from (λ x. q (shown x)) 0 l)) same ∙ has_place (λ x. q (shown x)) xs 0 ∙ sym (any-map shown q xs)

pub none_shown : {X V : Type 0} (shown : X → V) (q : V → Bool) (xs given : List X) → given ≡ xs → None ≡ position_from (λ x. q (shown x)) 0 given → list_any q (map shown xs) ≡ false
none_shown shown q xs given same e = sym (has_shown shown q xs given same) ∙ ap is_some (sym e)

-- ---- how many have a number

pub count-changed : {V : Type 0} (q p : V → Bool) (f : V → V) (vs : List V) → ((v : V) → q (f v) ≡ q v) → count_by q (changed_where p f vs) ≡ count_by q vs
count-changed q p f [] same = refl
count-changed q p f (v ∷ vs) same =
    by_test (q v)
    (λ t. count-yes q (if p v then f v else v) (changed_where p f vs) (either (p v) ∙ t) ∙ ap suc (count-changed q p f vs same) ∙ sym (count-yes q v vs t))
    (λ t. count-no q (if p v then f v else v) (changed_where p f vs) (either (p v) ∙ t) ∙ count-changed q p f vs same ∙ sym (count-no q v vs t))
  where
    either : (b : Bool) → q (if b then f v else v) ≡ q v
    either true = same v
    either false = refl

pub count-without : {V : Type 0} (q p : V → Bool) (vs : List V) → count_by q (without_where p vs) ≤ count_by q vs
count-without q p [] = omega arith
count-without q p (v ∷ vs) =
    by_test (p v)
    (λ t. rw t (by_test (q v)
    (λ u. omega (arith, count-yes q v vs u, count-without q p vs))
    (λ u. omega (arith, count-no q v vs u, count-without q p vs))))
    (λ t. rw t (by_test (q v)
    (λ u. omega (arith, count-yes q v vs u, count-yes q v (without_where p vs) u, count-without q p vs))
    (λ u. omega (arith, count-no q v vs u, count-no q v (without_where p vs) u, count-without q p vs))))

pub count-added : {V : Type 0} (q : V → Bool) (vs : List V) (v : V) → count_by q vs ≤ 1 → (q v ≡ true → count_by q vs ≡ 0) → count_by q (vs ++ v ∷ []) ≤ 1
count-added q vs v once new =
    by_test (q v)
    (λ t. omega (arith, count-append q vs (v ∷ []), count-yes q v [] t, new t))
    (λ t. omega (arith, count-append q vs (v ∷ []), count-no q v [] t, once))

-- ---- what a list shows once one has changed

pub step_changed : {X V : Type 0} {IsGood : Frames → X → Type 0} {pages : Frames → X → List ℕ} {shown : Frames → X → V} {old new : Frames} {xs : List X} {x : X} {ys : List X} {v : V} (q : V → Bool) (f : V → V)
    → OneChanges IsGood pages shown old new xs x ys (v ∷ []) → q (shown old x) ≡ true → count_by q (map (shown old) xs) ≤ 1 → v ≡ f (shown old x) → Steps IsGood pages shown old new xs ys (changed_where q f (map (shown old) xs))
step_changed {X} {V} {IsGood} {pages} {shown} {old} {new} {xs} {x} {ys} {v} q f o t once e =
    let is = only q o.fronts (shown old x) o.backs t (subst (λ (l : List V). count_by q l ≤ 1) o.was once) in
    let values : o.fronts ++ v ∷ o.backs ≡ changed_where q f (map (shown old) xs) =
    ap (λ (w : V). o.fronts ++ w ∷ o.backs) e ∙ sym (changed-only q f o.fronts (shown old x) o.backs is) ∙ ap (changed_where q f) (sym o.was) in
    subst (Steps IsGood pages shown old new xs ys) values o.steps

pub step_same : {X V : Type 0} {IsGood : Frames → X → Type 0} {pages : Frames → X → List ℕ} {shown : Frames → X → V} {old new : Frames} {xs : List X} {x : X} {ys : List X} {v : V}
    → OneChanges IsGood pages shown old new xs x ys (v ∷ []) → v ≡ shown old x → Steps IsGood pages shown old new xs ys (map (shown old) xs)
step_same {X} {V} {IsGood} {pages} {shown} {old} {new} {xs} {x} {ys} {v} o e =
    let values : o.fronts ++ v ∷ o.backs ≡ map (shown old) xs = ap (λ (w : V). o.fronts ++ w ∷ o.backs) e ∙ sym o.was in
    subst (Steps IsGood pages shown old new xs ys) values o.steps

pub step_removed : {X V : Type 0} {IsGood : Frames → X → Type 0} {pages : Frames → X → List ℕ} {shown : Frames → X → V} {old new : Frames} {xs : List X} {x : X} {ys : List X} (q : V → Bool)
    → OneChanges IsGood pages shown old new xs x ys [] → q (shown old x) ≡ true → count_by q (map (shown old) xs) ≤ 1 → Steps IsGood pages shown old new xs ys (without_where q (map (shown old) xs))
step_removed {X} {V} {IsGood} {pages} {shown} {old} {new} {xs} {x} {ys} q o t once =
    let is = only q o.fronts (shown old x) o.backs t (subst (λ (l : List V). count_by q l ≤ 1) o.was once) in
    let values : o.fronts ++ o.backs ≡ without_where q (map (shown old) xs) = sym (without-only q o.fronts (shown old x) o.backs is) ∙ ap (without_where q) (sym o.was) in
    subst (Steps IsGood pages shown old new xs ys) values o.steps

-- ---- a property of what each shows

pub part_has : {X V Y : Type 0} (P : List Y → Type 0) (shown : X → V) (q : V → Bool) (part : V → List Y) (xs : List X) → P [] → All (λ x. P (part (shown x))) xs → P (part_of q part (map shown xs))
part_has P shown q part [] none each = none
part_has P shown q part (x ∷ xs) none each =
    by_test (q (shown x))
    (λ t. let first : P (part (shown x)) = All-head (λ x. P (part (shown x))) x xs each in rw t first)
    (λ t. rw t (part_has P shown q part xs none (All-tail (λ x. P (part (shown x))) x xs each)))
