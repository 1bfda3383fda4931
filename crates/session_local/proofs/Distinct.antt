-- Lists of cursors in which no label stands twice.
use Rattle.std.proofs.Common.{◌≡◌, ℕ, ◌+◌, ◌<◌, ◌==◌, Bool, true, false, cond, not, zero, suc, ltb, List, [], ◌∷◌, ◌++◌, map, filter, find, length, Option, Some, None, is_some, refl, sym, ap, ◌∙◌, subst, if◌then◌else◌, get_or, take, drop, remove, arith, add-one}
use Rattle.std.specs.List.{list_any, position, position_or_len}
use Rattle.std.proofs.Math.ListN.{set}
use Rattle.std.proofs.lemmas.Bool.Decides.{nat_tests}
use Rattle.std.proofs.lemmas.List.Folds.{find_at}
use Rattle.std.proofs.lemmas.Option.{slice_get_read}
use Rattle.std.proofs.lemmas.Bool.{and_from, and_parts, eqb-true, not-true, or_parts}
use Rattle.common_lemmas.proofs.Numbers.{unequal_turned}
use Rattle.session_local.specs.Local.{OpenCursor, unprepared}
use Rattle.session_local.specs.SessionSide.{label_of, are_distinct}

below : (m n : ℕ) → ltb m n ≡ true → m < n
below m n e = grind (arith, nat_tests)

zero_below : (n : ℕ) → ltb 0 (suc n) ≡ true
zero_below n = grind (arith, nat_tests)

lowered : (m n : ℕ) → ltb (1 + m) (suc n) ≡ ltb m n
lowered m n = grind (arith, nat_tests)

-- ---- a cursor more

any_push : (label other : ℕ) (labels : List ℕ) → list_any (λ l. l == label) labels ≡ false → (other == label) ≡ false → list_any (λ l. l == label) (labels ++ other ∷ []) ≡ false
any_push label other [] none apart = rw apart refl
any_push label other (l ∷ ls) none apart =
    let parts : ((l == label) ≡ false) × (list_any (λ l. l == label) ls ≡ false) = or_parts _ _ none in
    rw parts.0 (any_push label other ls parts.1 apart)

distinct_labels_push : (cursors : List OpenCursor) (label : ℕ) → are_distinct (map label_of cursors) ≡ true → find (λ c. c.label == label) cursors ≡ None → are_distinct (map label_of cursors ++ label ∷ []) ≡ true
distinct_labels_push [] label distinct free = refl
distinct_labels_push (x ∷ xs) label distinct free =
    let parts : (not (list_any (λ other. other == x.label) (map label_of xs)) ≡ true) × (are_distinct (map label_of xs) ≡ true) = and_parts _ _ distinct in
    elim (x.label == label) as (λ b. (x.label == label) ≡ b → cond b (Some x) (find (λ c. c.label == label) xs) ≡ None → are_distinct (x.label ∷ (map label_of xs ++ label ∷ [])) ≡ true) [
      | true ↦ λ e h. cc
      | false ↦ λ e h. and_from (not (list_any (λ other. other == x.label) (map label_of xs ++ label ∷ []))) (are_distinct (map label_of xs ++ label ∷ []))
          (ap not (any_push x.label label (map label_of xs) (not-true _ parts.0) (unequal_turned x.label label e)))
          (distinct_labels_push xs label parts.1 h)
    ] refl free

map_push : (cursors : List OpenCursor) (c : OpenCursor) → map label_of (cursors ++ c ∷ []) ≡ map label_of cursors ++ c.label ∷ []
map_push [] c = refl
map_push (x ∷ xs) c = ap (λ ls. x.label ∷ ls) (map_push xs c)

pub are_distinct-push : (cursors : List OpenCursor) (c : OpenCursor) → are_distinct (map label_of cursors) ≡ true → find (λ other. other.label == c.label) cursors ≡ None → are_distinct (map label_of (cursors ++ c ∷ [])) ≡ true
are_distinct-push cursors c distinct free = rw (map_push cursors c) (distinct_labels_push cursors c.label distinct free)

-- ---- some cursors fewer

any_filter : (test : OpenCursor → Bool) (label : ℕ) (cursors : List OpenCursor) → list_any (λ l. l == label) (map label_of cursors) ≡ false → list_any (λ l. l == label) (map label_of (filter test cursors)) ≡ false
any_filter test label [] none = refl
any_filter test label (x ∷ xs) none =
    let parts : ((x.label == label) ≡ false) × (list_any (λ l. l == label) (map label_of xs) ≡ false) = or_parts _ _ none in
    elim (test x) as (λ b. list_any (λ l. l == label) (map label_of (cond b (x ∷ filter test xs) (filter test xs))) ≡ false) [
      | true ↦ rw parts.0 (any_filter test label xs parts.1)
      | false ↦ any_filter test label xs parts.1
    ]

pub are_distinct-filter : (test : OpenCursor → Bool) (cursors : List OpenCursor) → are_distinct (map label_of cursors) ≡ true → are_distinct (map label_of (filter test cursors)) ≡ true
are_distinct-filter test [] distinct = refl
are_distinct-filter test (x ∷ xs) distinct =
    let parts : (not (list_any (λ other. other == x.label) (map label_of xs)) ≡ true) × (are_distinct (map label_of xs) ≡ true) = and_parts _ _ distinct in
    elim (test x) as (λ b. are_distinct (map label_of (cond b (x ∷ filter test xs) (filter test xs))) ≡ true) [
      | true ↦ and_from (not (list_any (λ other. other == x.label) (map label_of (filter test xs)))) (are_distinct (map label_of (filter test xs)))
          (ap not (any_filter test x.label xs (not-true _ parts.0)))
          (are_distinct-filter test xs parts.1)
      | false ↦ are_distinct-filter test xs parts.1
    ]

-- ---- the same labels

pub labels-unprepared : (cursors : List OpenCursor) → map label_of (map unprepared cursors) ≡ map label_of cursors
labels-unprepared [] = refl
labels-unprepared (x ∷ xs) = ap (λ ls. x.label ∷ ls) (labels-unprepared xs)

pub labels-set : (cursors : List OpenCursor) (at : ℕ) (new d : OpenCursor) → new.label ≡ (get_or cursors at d).label → map label_of (set cursors at new) ≡ map label_of cursors
labels-set [] at new d same = refl
labels-set (x ∷ xs) zero new d same = ap (λ l. l ∷ map label_of xs) same
labels-set (x ∷ xs) (suc at) new d same = ap (λ ls. x.label ∷ ls) (labels-set xs at new d same)

-- ---- a cursor in the place of the one with its label

no_such : (label : ℕ) (cursors : List OpenCursor) (new : OpenCursor) → list_any (λ l. l == label) (map label_of cursors) ≡ false → map (λ c. if c.label == label then new else c) cursors ≡ cursors
no_such label [] new none = refl
no_such label (x ∷ xs) new none =
    let parts : ((x.label == label) ≡ false) × (list_any (λ l. l == label) (map label_of xs) ≡ false) = or_parts _ _ none in
    rw parts.0 (ap (λ cs. x ∷ cs) (no_such label xs new parts.1))

set_is_map : (label : ℕ) (cursors : List OpenCursor) (at : ℕ) (new : OpenCursor) → are_distinct (map label_of cursors) ≡ true → position_or_len (λ c. c.label == label) cursors ≡ at → at < length cursors → set cursors at new ≡ map (λ c. if c.label == label then new else c) cursors
set_is_map label [] at new distinct place within = refl
set_is_map label (x ∷ xs) at new distinct place within =
    let parts : (not (list_any (λ other. other == x.label) (map label_of xs)) ≡ true) × (are_distinct (map label_of xs) ≡ true) = and_parts _ _ distinct in
    elim (x.label == label) as (λ b. (x.label == label) ≡ b → cond (not b) (1 + position_or_len (λ c. c.label == label) xs) 0 ≡ at → set (x ∷ xs) at new ≡ (if b then new else x) ∷ map (λ c. if c.label == label then new else c) xs) [
      | true ↦ λ e h. let same : x.label ≡ label = eqb-true x.label label e in
          let none : list_any (λ l. l == label) (map label_of xs) ≡ false = rw (← same) (not-true _ parts.0) in
          rw (← h) (ap (λ cs. new ∷ cs) (sym (no_such label xs new none)))
      | false ↦ λ e h. let k = position_or_len (λ c. c.label == label) xs in
          let next : suc k ≡ at = omega arith in
          let inside : k < length xs = omega (arith, next, within) in
          rw (← next) (ap (λ cs. x ∷ cs) (set_is_map label xs k new parts.1 refl inside))
    ] refl place

-- what is put at the place of a label is put in the place of every cursor with it
pub set-position : (label : ℕ) (cursors : List OpenCursor) (at : ℕ) (new : OpenCursor) → are_distinct (map label_of cursors) ≡ true → position (λ c. c.label == label) cursors ≡ Some at → new.label ≡ label → set cursors at new ≡ map (λ c. if c.label == new.label then new else c) cursors
set-position label cursors at new distinct place same =
    let P : ℕ → Type 0 = λ l. set cursors at new ≡ map (λ c. if c.label == l then new else c) cursors in
    subst P (sym same)
    (elim (ltb (position_or_len (λ c. c.label == label) cursors) (length cursors)) as (λ b. ltb (position_or_len (λ c. c.label == label) cursors) (length cursors) ≡ b → cond b (Some (position_or_len (λ c. c.label == label) cursors)) None ≡ Some at → set cursors at new ≡ map (λ c. if c.label == label then new else c) cursors) [
      | true ↦ λ e h. let here : position_or_len (λ c. c.label == label) cursors ≡ at = cc in
          let within : at < length cursors = rw (← here) (below _ _ e) in
          set_is_map label cursors at new distinct here within
      | false ↦ λ e h. cc
    ] refl place)

-- ---- places

is_some_below : {X : Type 0} (test : X → Bool) (cursors : List X) → ltb (position_or_len test cursors) (length cursors) ≡ is_some (find test cursors)
is_some_below test [] = refl
is_some_below test (x ∷ xs) =
    elim (test x) as (λ b. ltb (cond (not b) (1 + position_or_len test xs) 0) (suc (length xs)) ≡ is_some (cond b (Some x) (find test xs))) [
      | true ↦ zero_below (length xs)
      | false ↦ lowered (position_or_len test xs) (length xs) ∙ is_some_below test xs
    ]

is_some_cond : (b : Bool) (at : ℕ) → is_some (cond b (Some at) None) ≡ b
is_some_cond true at = refl
is_some_cond false at = refl

-- a label has a place exactly where a cursor has it
pub is_some-position : {X : Type 0} (test : X → Bool) (cursors : List X) → is_some (position test cursors) ≡ is_some (find test cursors)
is_some-position test cursors = is_some_cond _ (position_or_len test cursors) ∙ is_some_below test cursors

-- ---- prepared updates dropped up to a place

abbrev pub partly : ℕ → List OpenCursor → List OpenCursor
partly i cursors = map unprepared (take i cursors) ++ drop i cursors

one_more : (cursors : List OpenCursor) (i : ℕ) (d : OpenCursor) → i < length cursors → set (partly i cursors) i (unprepared (get_or (partly i cursors) i d)) ≡ partly (suc i) cursors
one_more [] i d within = absurd (omega (arith, within))
one_more (x ∷ xs) zero d within = refl
one_more (x ∷ xs) (suc i) d within = ap (λ cs. unprepared x ∷ cs) (one_more xs i d (omega (arith, within)))

pub drop_one_more : (cursors items : List OpenCursor) (i : ℕ) (d new : OpenCursor) → items ≡ partly i cursors → i < length cursors → new ≡ unprepared (get_or items i d) → set items i new ≡ partly (i + 1) cursors
drop_one_more cursors items i d new so_far within made =
    rw (add-one, made)
    (let step = one_more cursors i d within in rw so_far step)

-- ---- the cursor with a label taken out

none_dropped : (label : ℕ) (cursors : List OpenCursor) → list_any (λ l. l == label) (map label_of cursors) ≡ false → filter (λ c. not (c.label == label)) cursors ≡ cursors
none_dropped label [] none = refl
none_dropped label (x ∷ xs) none =
    let parts : ((x.label == label) ≡ false) × (list_any (λ l. l == label) (map label_of xs) ≡ false) = or_parts _ _ none in
    rw parts.0 (ap (λ cs. x ∷ cs) (none_dropped label xs parts.1))

remove_is_filter : (label : ℕ) (cursors : List OpenCursor) (at : ℕ) → are_distinct (map label_of cursors) ≡ true → position_or_len (λ c. c.label == label) cursors ≡ at → at < length cursors → remove cursors at ≡ filter (λ c. not (c.label == label)) cursors
remove_is_filter label [] at distinct place within = absurd (omega (arith, within))
remove_is_filter label (x ∷ xs) at distinct place within =
    let parts : (not (list_any (λ other. other == x.label) (map label_of xs)) ≡ true) × (are_distinct (map label_of xs) ≡ true) = and_parts _ _ distinct in
    elim (x.label == label) as (λ b. (x.label == label) ≡ b → cond (not b) (1 + position_or_len (λ c. c.label == label) xs) 0 ≡ at → remove (x ∷ xs) at ≡ cond (not b) (x ∷ filter (λ c. not (c.label == label)) xs) (filter (λ c. not (c.label == label)) xs)) [
      | true ↦ λ e h. let same : x.label ≡ label = eqb-true x.label label e in
          let none : list_any (λ l. l == label) (map label_of xs) ≡ false = rw (← same) (not-true _ parts.0) in
          rw (← h) (sym (none_dropped label xs none))
      | false ↦ λ e h. let k = position_or_len (λ c. c.label == label) xs in
          let next : suc k ≡ at = omega arith in
          let inside : k < length xs = omega (arith, next, within) in
          rw (← next) (ap (λ cs. x ∷ cs) (remove_is_filter label xs k parts.1 refl inside))
    ] refl place

-- the place of a label, as it is told
pub within_position : {X : Type 0} (test : X → Bool) (cursors : List X) (at : ℕ) → position test cursors ≡ Some at → (position_or_len test cursors ≡ at) × (at < length cursors)
within_position test cursors at place =
    elim (ltb (position_or_len test cursors) (length cursors)) as (λ b. ltb (position_or_len test cursors) (length cursors) ≡ b → cond b (Some (position_or_len test cursors)) None ≡ Some at → (position_or_len test cursors ≡ at) × (at < length cursors)) [
      | true ↦ λ e h. let here : position_or_len test cursors ≡ at = cc in (here, rw (← here) (below _ _ e))
      | false ↦ λ e h. cc
    ] refl place

pub remove-position : (label : ℕ) (cursors : List OpenCursor) (at : ℕ) → are_distinct (map label_of cursors) ≡ true → position (λ c. c.label == label) cursors ≡ Some at → remove cursors at ≡ filter (λ c. not (c.label == label)) cursors
remove-position label cursors at distinct place =
    let told = within_position (λ c. c.label == label) cursors at place in remove_is_filter label cursors at distinct told.0 told.1

pub none-position : (label : ℕ) (cursors : List OpenCursor) → position (λ c. c.label == label) cursors ≡ None → filter (λ c. not (c.label == label)) cursors ≡ cursors
none-position label [] place = refl
none-position label (x ∷ xs) place =
    let missing : is_some (find (λ c. c.label == label) (x ∷ xs)) ≡ false = sym (is_some-position (λ c. c.label == label) (x ∷ xs)) ∙ ap is_some place in
    elim (x.label == label) as (λ b. (x.label == label) ≡ b → is_some (cond b (Some x) (find (λ c. c.label == label) xs)) ≡ false → cond (not b) (x ∷ filter (λ c. not (c.label == label)) xs) (filter (λ c. not (c.label == label)) xs) ≡ x ∷ xs) [
      | true ↦ λ e h. cc
      | false ↦ λ e h. ap (λ cs. x ∷ cs) (none-found label xs h)
    ] refl missing
  where
    none-found : (label : ℕ) (cursors : List OpenCursor) → is_some (find (λ c. c.label == label) cursors) ≡ false → filter (λ c. not (c.label == label)) cursors ≡ cursors
    none-found label [] missing = refl
    none-found label (y ∷ ys) missing =
        elim (y.label == label) as (λ b. is_some (cond b (Some y) (find (λ c. c.label == label) ys)) ≡ false → cond (not b) (y ∷ filter (λ c. not (c.label == label)) ys) (filter (λ c. not (c.label == label)) ys) ≡ y ∷ ys) [
          | true ↦ λ h. cc
          | false ↦ λ h. ap (λ cs. y ∷ cs) (none-found label ys h)
        ] missing

pub found-position : {X : Type 0} (test : X → Bool) (cursors : List X) (at : ℕ) (c : X) → position test cursors ≡ Some at → c ≡ get_or cursors at c → find test cursors ≡ Some c
found-position test cursors at c place is =
    let told = within_position test cursors at place in
    find_at test cursors ∙ rw told.0 (slice_get_read cursors (length cursors) at c refl told.1 is)

missing : {X : Type 0} (found : Option X) → is_some found ≡ false → found ≡ None
missing None e = refl
missing (Some c) e = cc

pub missing-position : {X : Type 0} (test : X → Bool) (cursors : List X) → position test cursors ≡ None → find test cursors ≡ None
missing-position test cursors place = missing (find test cursors) (sym (is_some-position test cursors) ∙ ap is_some place)
