-- A past without some of its undone changes.
use Rattle.std.proofs.Common.{◌≡◌, ℕ, ◌+◌, ◌≤◌, Bool, true, false, not, ◌||◌, cond, List, [], ◌∷◌, ◌++◌, refl, sym, ap, subst, ◌∙◌, arith, sum_by}
use Rattle.std.specs.Prelude.{filter, map}
use Rattle.std.specs.List.{list_any}
use Rattle.std.proofs.lemmas.List.Sums.{sum_by-cons}
use Rattle.common_lemmas.proofs.Booleans.{impossible}
use Rattle.database_state.specs.State.{LiveSession, PastChange, Status, is_undone, uncommitted, committed, undone}
use Rattle.database_state.specs.VersionStore.{cost_of, from_oldest_needed, is_needed, is_needed_status}
use Rattle.laws_versions.specs.Readers.{is_standing}
use Rattle.image_writing.specs.LighterStates.{AreUndone, without_marked}

-- ---- tests that no undone change passes

not_passed : (test : PastChange → Bool) → ((item : PastChange) → test item ≡ true → is_standing item ≡ true) → (item : PastChange) → is_undone item.status ≡ true → test item ≡ false
not_passed test stands item gone = by (test item) refl
  where
    by : (b : Bool) → test item ≡ b → b ≡ false
    by true e = impossible (sym (ap not gone) ∙ stands item e)
    by false e = refl

pub filter-without : (test : PastChange → Bool) → ((item : PastChange) → test item ≡ true → is_standing item ≡ true) → (marks : List Bool) (past : List PastChange) → AreUndone marks past → filter test (without_marked marks past) ≡ filter test past
filter-without test stands [] past h = refl
filter-without test stands (mark ∷ marks) [] h = absurd h
filter-without test stands (true ∷ marks) (item ∷ past) h =
    filter-without test stands marks past h.1 ∙ sym (ap (λ b. cond b (item ∷ filter test past) (filter test past)) (not_passed test stands item h.0))
filter-without test stands (false ∷ marks) (item ∷ past) h = ap (λ l. cond (test item) (item ∷ l) l) (filter-without test stands marks past h)

pub any-without : (test : PastChange → Bool) → ((item : PastChange) → test item ≡ true → is_standing item ≡ true) → (marks : List Bool) (past : List PastChange) → AreUndone marks past → list_any test (without_marked marks past) ≡ list_any test past
any-without test stands [] past h = refl
any-without test stands (mark ∷ marks) [] h = absurd h
any-without test stands (true ∷ marks) (item ∷ past) h =
    any-without test stands marks past h.1 ∙ sym (ap (λ b. b || list_any test past) (not_passed test stands item h.0))
any-without test stands (false ∷ marks) (item ∷ past) h = ap (λ b. test item || b) (any-without test stands marks past h)

-- ---- what becomes of the changes

pub map-without : (f : PastChange → PastChange) (marks : List Bool) (past : List PastChange) → without_marked marks (map f past) ≡ map f (without_marked marks past)
map-without f [] past = refl
map-without f (mark ∷ marks) [] = refl
map-without f (true ∷ marks) (item ∷ past) = map-without f marks past
map-without f (false ∷ marks) (item ∷ past) = ap (λ l. f item ∷ l) (map-without f marks past)

pub append-without : (marks : List Bool) (past : List PastChange) → AreUndone marks past → (item : PastChange) → without_marked marks (past ++ item ∷ []) ≡ without_marked marks past ++ item ∷ []
append-without [] past h item = refl
append-without (mark ∷ marks) [] h item = absurd h
append-without (true ∷ marks) (x ∷ past) h item = append-without marks past h.1 item
append-without (false ∷ marks) (x ∷ past) h item = ap (λ l. x ∷ l) (append-without marks past h item)

pub map-undone : (f : PastChange → PastChange) → ((item : PastChange) → is_undone item.status ≡ true → f item ≡ item) → (marks : List Bool) (past : List PastChange) → AreUndone marks past → AreUndone marks (map f past)
map-undone f same [] past h = tt
map-undone f same (mark ∷ marks) [] h = absurd h
map-undone f same (true ∷ marks) (item ∷ past) h = (ap (λ (x : PastChange). is_undone x.status) (same item h.0) ∙ h.0, map-undone f same marks past h.1)
map-undone f same (false ∷ marks) (item ∷ past) h = map-undone f same marks past h

pub append-undone : (marks : List Bool) (past : List PastChange) → AreUndone marks past → (item : PastChange) → AreUndone marks (past ++ item ∷ [])
append-undone [] past h item = tt
append-undone (mark ∷ marks) [] h item = absurd h
append-undone (true ∷ marks) (x ∷ past) h item = (h.0, append-undone marks past h.1 item)
append-undone (false ∷ marks) (x ∷ past) h item = append-undone marks past h item

-- ---- the marks of all that are undone

abbrev pub marks_of : List PastChange → List Bool
marks_of past = map (λ item. is_undone item.status) past

pub all_marked : (past : List PastChange) → without_marked (marks_of past) past ≡ filter is_standing past
all_marked [] = refl
all_marked (item ∷ past) = by (is_undone item.status) (all_marked past)
  where
    by : (b : Bool) → without_marked (marks_of past) past ≡ filter is_standing past → without_marked (b ∷ marks_of past) (item ∷ past) ≡ cond (not b) (item ∷ filter is_standing past) (filter is_standing past)
    by true rest = rest
    by false rest = ap (λ l. item ∷ l) rest

pub all_undone : (past : List PastChange) → AreUndone (marks_of past) past
all_undone [] = tt
all_undone (item ∷ past) = by (is_undone item.status) refl (all_undone past)
  where
    by : (b : Bool) → is_undone item.status ≡ b → AreUndone (marks_of past) past → AreUndone (b ∷ marks_of past) (item ∷ past)
    by true e rest = (e, rest)
    by false e rest = rest

-- ---- the span

abbrev pub cost : PastChange → ℕ
cost item = cost_of item.change item.before

abbrev is_undone_item : PastChange → Bool
is_undone_item item = is_undone item.status

unneeded : (sessions : List LiveSession) (status : Status) → is_undone status ≡ true → is_needed_status sessions status ≡ false
unneeded sessions uncommitted e = impossible e
unneeded sessions (committed number) e = impossible e
unneeded sessions undone e = refl

-- the costs of changes, from the first on
abbrev total : List PastChange → ℕ
total [] = 0
total (item ∷ past) = cost item + total past

total_is : (past : List PastChange) → sum_by cost past ≡ total past
total_is [] = refl
total_is (item ∷ past) = sum_by-cons cost item past ∙ ap (λ n. cost item + n) (total_is past)

fewer : (k a b : ℕ) → a ≤ b → k + a ≤ k + b
fewer k a b h = omega (arith, h)

skipped : (k a b : ℕ) → a ≤ b → a ≤ k + b
skipped k a b h = omega (arith, h)

costs_without : (marks : List Bool) (past : List PastChange) → total (without_marked marks past) ≤ total past
costs_without [] past = omega arith
costs_without (mark ∷ marks) [] = omega arith
costs_without (true ∷ marks) (item ∷ past) = skipped (cost item) (total (without_marked marks past)) (total past) (costs_without marks past)
costs_without (false ∷ marks) (item ∷ past) = fewer (cost item) (total (without_marked marks past)) (total past) (costs_without marks past)

lighter_span : (sessions : List LiveSession) (marks : List Bool) (past : List PastChange) → AreUndone marks past → total (from_oldest_needed sessions (without_marked marks past)) ≤ total (from_oldest_needed sessions past)
lighter_span sessions [] past h = omega arith
lighter_span sessions (mark ∷ marks) [] h = absurd h
lighter_span sessions (true ∷ marks) (item ∷ past) h =
    subst (λ b. total (from_oldest_needed sessions (without_marked marks past)) ≤ total (cond b (item ∷ past) (from_oldest_needed sessions past))) (sym (unneeded sessions item.status h.0)) (lighter_span sessions marks past h.1)
lighter_span sessions (false ∷ marks) (item ∷ past) h = by (is_needed sessions item) (lighter_span sessions marks past h)
  where
    by : (b : Bool) → total (from_oldest_needed sessions (without_marked marks past)) ≤ total (from_oldest_needed sessions past)
        → total (cond b (item ∷ without_marked marks past) (from_oldest_needed sessions (without_marked marks past))) ≤ total (cond b (item ∷ past) (from_oldest_needed sessions past))
    by true rest = fewer (cost item) (total (without_marked marks past)) (total past) (costs_without marks past)
    by false rest = rest

-- ---- the span by what stands and what is undone

left : (k a b c : ℕ) → a ≡ b + c → k + a ≡ (k + b) + c
left k a b c e = omega (arith, e)

right : (k a b c : ℕ) → a ≡ b + c → k + a ≡ b + (k + c)
right k a b c e = omega (arith, e)

costs_apart : (past : List PastChange) → total past ≡ total (filter is_standing past) + total (filter is_undone_item past)
costs_apart [] = refl
costs_apart (item ∷ past) = by (is_undone item.status) (costs_apart past)
  where
    by : (b : Bool) → total past ≡ total (filter is_standing past) + total (filter is_undone_item past)
        → cost item + total past ≡ total (cond (not b) (item ∷ filter is_standing past) (filter is_standing past)) + total (cond b (item ∷ filter is_undone_item past) (filter is_undone_item past))
    by true rest = right (cost item) (total past) (total (filter is_standing past)) (total (filter is_undone_item past)) rest
    by false rest = left (cost item) (total past) (total (filter is_standing past)) (total (filter is_undone_item past)) rest

apart : (sessions : List LiveSession) (past : List PastChange)
    → total (from_oldest_needed sessions past) ≡ total (from_oldest_needed sessions (filter is_standing past)) + total (filter is_undone_item (from_oldest_needed sessions past))
apart sessions [] = refl
apart sessions (item ∷ past) = by (is_undone item.status) (is_needed sessions item) refl refl (apart sessions past)
  where
    Rest : Type 0
    Rest = total (from_oldest_needed sessions past) ≡ total (from_oldest_needed sessions (filter is_standing past)) + total (filter is_undone_item (from_oldest_needed sessions past))

    standing : Bool → List PastChange
    standing u = cond (not u) (item ∷ filter is_standing past) (filter is_standing past)

    by : (u n : Bool) → is_undone item.status ≡ u → is_needed sessions item ≡ n → Rest
        → total (cond n (item ∷ past) (from_oldest_needed sessions past)) ≡ total (from_oldest_needed sessions (standing u)) + total (filter is_undone_item (cond n (item ∷ past) (from_oldest_needed sessions past)))
    by true true e f rest = impossible (sym (unneeded sessions item.status e) ∙ f)
    by true false e f rest = rest
    by false true e f rest =
        costs_apart (item ∷ past)
        ∙ ap (λ b. total (cond (not b) (item ∷ filter is_standing past) (filter is_standing past)) + total (filter is_undone_item (item ∷ past))) e
        ∙ sym (ap (λ b. total (cond b (item ∷ filter is_standing past) (from_oldest_needed sessions (filter is_standing past))) + total (filter is_undone_item (item ∷ past))) f)
    by false false e f rest =
        rest ∙ sym (ap (λ b. total (cond b (item ∷ filter is_standing past) (from_oldest_needed sessions (filter is_standing past))) + total (filter is_undone_item (from_oldest_needed sessions past))) f)

-- ---- as the span is told

pub span_without : (sessions : List LiveSession) (marks : List Bool) (past : List PastChange) → AreUndone marks past → sum_by cost (from_oldest_needed sessions (without_marked marks past)) ≤ sum_by cost (from_oldest_needed sessions past)
span_without sessions marks past h =
    let one = total_is (from_oldest_needed sessions (without_marked marks past)) in
    let other = total_is (from_oldest_needed sessions past) in
    omega (arith, one, other, lighter_span sessions marks past h)

pub span_apart : (sessions : List LiveSession) (past : List PastChange)
    → sum_by cost (from_oldest_needed sessions past) ≡ sum_by cost (from_oldest_needed sessions (filter is_standing past)) + sum_by cost (filter is_undone_item (from_oldest_needed sessions past))
span_apart sessions past = total_is (from_oldest_needed sessions past) ∙ apart sessions past ∙ (λ i. sym (total_is (from_oldest_needed sessions (filter is_standing past))) i + sym (total_is (filter is_undone_item (from_oldest_needed sessions past))) i)
