-- Walks back through the open changes of a session.
use Rattle.std.proofs.Common.{◌≡◌, ℕ, zero, suc, ◌-◌, ◌<◌, ◌≤◌, ◌==◌, ◌⊎◌, inl, inr, Bool, true, false, ◌&&◌, List, [], ◌∷◌, Option, Some, None, map, length, get_or, set, refl, sym, ap, subst, ◌∙◌, arith}
use Rattle.std.specs.Prelude.{slice_get, if◌then◌else◌}
use Rattle.std.proofs.lemmas.Bool.{cases_lt, eqb-true}
use Rattle.std.proofs.lemmas.List.{length-set}
use Rattle.std.proofs.lemmas.Option.{slice_get_within, slice_get_read}
use Rattle.common_lemmas.proofs.Options.{same_some}
use Rattle.version_store.specs.declared.item.Item.{Item}
use Rattle.version_store.specs.HeldChanges.{is_open_at, last_place, later_place}
use Rattle.version_store.specs.Items.{held_change, held_changes, released_item, lowered}
use Rattle.version_store.specs.OpenChanges.{AreBelow, AreLinked, Reach, is_open_item}
use Rattle.version_store.proofs.OpenLemmas.{get-none, get-set_same, get-set_other, open-session}

-- ---- a walk that changes the open items of a session

-- whatever is not an open change of the session stays as it is
abbrev pub Skips : (Item → Item) → ℕ → Type 0
Skips f session = (x : Item) → is_open_item session x ≡ false → f x ≡ x

-- The items from `end` on are changed, and those before it are as they were.
pub record Walked (f : Item → Item) (session : ℕ) (old items : List Item) (end : ℕ) : Type 0 where
  pub count : length items ≡ length old
  pub within : end ≤ length old
  pub own : (place : ℕ) (x : Item) → end ≡ suc place → slice_get old place ≡ Some x → x.session.0 ≡ session
  pub done : (k : ℕ) (x : Item) → end ≤ k → slice_get old k ≡ Some x → slice_get items k ≡ Some (f x)
  pub rest : (k : ℕ) → k < end → slice_get items k ≡ slice_get old k

skipped : (f : Item → Item) (session : ℕ) (items : List Item) (k : ℕ) (x : Item) → Skips f session → is_open_item session x ≡ false → slice_get items k ≡ Some x → slice_get items k ≡ Some (f x)
skipped f session items k x skips closed at = at ∙ ap (λ (y : Item). Some y) (sym (skips x closed))

pub walked-start : (f : Item → Item) (session : ℕ) (old : List Item) (end : ℕ) → Skips f session → Reach session old end (length old) → Walked f session old old end
walked-start f session old end skips reach = record {
  count = refl;
  within = reach.within;
  own = reach.own;
  done = λ (k : ℕ) (x : Item) (ge : end ≤ k) (at : slice_get old k ≡ Some x). skipped f session old k x skips (reach.none_open k x ge (slice_get_within old k x at) at) at;
  rest = λ (k : ℕ) (lt : k < end). refl;
}

-- the item before the end, and the way on from there
pub record Here (session first : ℕ) (old : List Item) (end : ℕ) (x : Item) : Type 0 where
  pub at : slice_get old (end - 1) ≡ Some x
  pub reach : Reach session old (x.own_before - first) (end - 1)

pub walked-here : (f : Item → Item) (session first : ℕ) (old items : List Item) (end : ℕ) (x : Item) → Walked f session old items end → AreLinked first old → 0 < end → x ≡ get_or items (end - 1) x → Here session first old end x
walked-here f session first old items end x walked links some is =
    let at : slice_get old (end - 1) ≡ Some x = sym (walked.rest (end - 1) (omega arith)) ∙ slice_get_read items (length items) (end - 1) x refl (omega (arith, walked.count, walked.within)) is in
    record {
      at = at;
      reach = subst (λ (s : ℕ). Reach s old (x.own_before - first) (end - 1)) (walked.own (end - 1) x (omega arith) at) (links (end - 1) x at);
    }

pub walked-step : (f : Item → Item) (session first : ℕ) (old items : List Item) (end next : ℕ) (x y : Item) → Skips f session → Walked f session old items end → Here session first old end x → 0 < end → y ≡ f x → next ≡ x.own_before - first → Walked f session old (set items (end - 1) y) next
walked-step f session first old items end next x y skips walked here some is_y is_next =
    let reach : Reach session old next (end - 1) = subst (λ (n : ℕ). Reach session old n (end - 1)) (sym is_next) here.reach in
    record {
      count = length-set items (end - 1) y ∙ walked.count;
      within = omega (arith, reach.within, walked.within);
      own = reach.own;
      done = λ (k : ℕ) (z : Item) (ge : next ≤ k) (at : slice_get old k ≡ Some z). by reach k z ge at (cases_lt k (end - 1)) (cases_lt (end - 1) k);
      rest = λ (k : ℕ) (lt : k < next). get-set_other items (end - 1) k y (λ (e : k ≡ end - 1). let none_is : ⊥ = omega (arith, reach.within) in none_is) ∙ walked.rest k (omega (arith, reach.within));
    }
  where
    by : Reach session old next (end - 1) → (k : ℕ) (z : Item) → next ≤ k → slice_get old k ≡ Some z → (k < end - 1) ⊎ (end - 1 ≤ k) → (end - 1 < k) ⊎ (k ≤ end - 1) → slice_get (set items (end - 1) y) k ≡ Some (f z)
    by reach k z ge at (inl lt) c =
        get-set_other items (end - 1) k y (λ (e : k ≡ end - 1). let none_is : ⊥ = omega arith in none_is) ∙ walked.rest k (omega arith) ∙ skipped f session old k z skips (reach.none_open k z ge lt at) at
    by reach k z ge at (inr le) (inl gt) = get-set_other items (end - 1) k y (λ (e : k ≡ end - 1). let none_is : ⊥ = omega arith in none_is) ∙ walked.done k z (omega arith) at
    by reach k z ge at (inr le) (inr ge2) =
        let same : k ≡ end - 1 = omega arith in
        let is_x : x ≡ z = same_some x z (sym here.at ∙ ap (slice_get old) (sym same) ∙ at) in
        ap (slice_get (set items (end - 1) y)) same ∙ get-set_same items (end - 1) y (omega (arith, walked.count, walked.within)) ∙ ap (λ (w : Item). Some w) (is_y ∙ ap f is_x)

map-from : (f : Item → Item) (old items : List Item) → length items ≡ length old → ((k : ℕ) (x : Item) → slice_get old k ≡ Some x → slice_get items k ≡ Some (f x)) → items ≡ map f old
map-from f [] [] count each = refl
map-from f [] (y ∷ items) count each = absurd (omega arith)
map-from f (x ∷ old) [] count each = absurd (omega arith)
map-from f (x ∷ old) (y ∷ items) count each =
    ap (λ (z : Item). z ∷ items) (same_some y (f x) (each 0 x refl)) ∙ ap (λ (l : List Item). f x ∷ l) (map-from f old items (omega arith) (λ (k : ℕ) (z : Item) (at : slice_get old k ≡ Some z). each (suc k) z at))

-- a walk that stops where the change does nothing more
pub walked-stop : (f : Item → Item) (session : ℕ) (old items : List Item) (end : ℕ) → Walked f session old items end → ((k : ℕ) (x : Item) → k < end → slice_get old k ≡ Some x → f x ≡ x) → items ≡ map f old
walked-stop f session old items end walked still =
    map-from f old items walked.count (λ (k : ℕ) (x : Item) (at : slice_get old k ≡ Some x). by k x at (cases_lt k end))
  where
    by : (k : ℕ) (x : Item) → slice_get old k ≡ Some x → (k < end) ⊎ (end ≤ k) → slice_get items k ≡ Some (f x)
    by k x at (inl lt) = walked.rest k lt ∙ at ∙ ap (λ (y : Item). Some y) (sym (still k x lt at))
    by k x at (inr ge) = walked.done k x ge at

-- below an item that tells of no change at the level none goes to the one below
pub release-stop : (session level first : ℕ) (old : List Item) (end : ℕ) (x : Item) → AreBelow old → x.session.0 ≡ session → slice_get old (end - 1) ≡ Some x → x.highest < level → (k : ℕ) (y : Item) → k < end → slice_get old k ≡ Some y → is_open_at session level (held_change y []) ≡ false
release-stop session level first old end x below own at low k y lt y_at = by (is_open_item session y) (y.level == level) refl refl
  where
    by : (a b : Bool) → is_open_item session y ≡ a → (y.level == level) ≡ b → (a && b) ≡ false
    by true true h e =
        let bound : y.level ≤ x.highest = below (end - 1) k x y at (omega arith) y_at (ap (λ (s : ℕ). is_open_item s y) own ∙ h) in
        absurd (omega (arith, bound, eqb-true y.level level e))
    by true false h e = refl
    by false b h e = refl

pub release-still : (session level : ℕ) (x : Item) → is_open_at session level (held_change x []) ≡ false → released_item session level x ≡ x
release-still session level x e = ap (λ (b : Bool). if b then record x { level = level - 1; highest = lowered level x.highest } else x) e

-- ---- a walk that seeks an open item of a level

-- No item from `end` on passes.
pub record Sought (session level : ℕ) (items : List Item) (end : ℕ) : Type 0 where
  pub within : end ≤ length items
  pub own : (place : ℕ) (x : Item) → end ≡ suc place → slice_get items place ≡ Some x → x.session.0 ≡ session
  pub none : (k : ℕ) (x : Item) → end ≤ k → slice_get items k ≡ Some x → is_open_at session level (held_change x []) ≡ false

closed-at : (session level : ℕ) (x : Item) → is_open_item session x ≡ false → is_open_at session level (held_change x []) ≡ false
closed-at session level x e = ap (λ (b : Bool). b && (x.level == level)) e

pub sought-start : (session level : ℕ) (items : List Item) (end : ℕ) → Reach session items end (length items) → Sought session level items end
sought-start session level items end reach = record {
  within = reach.within;
  own = reach.own;
  none = λ (k : ℕ) (x : Item) (ge : end ≤ k) (at : slice_get items k ≡ Some x). closed-at session level x (reach.none_open k x ge (slice_get_within items k x at) at);
}

pub sought-here : (session level first : ℕ) (items : List Item) (end : ℕ) (x : Item) → Sought session level items end → AreLinked first items → 0 < end → x ≡ get_or items (end - 1) x → Here session first items end x
sought-here session level first items end x sought links some is =
    let at : slice_get items (end - 1) ≡ Some x = slice_get_read items (length items) (end - 1) x refl (omega (arith, sought.within)) is in
    record {
      at = at;
      reach = subst (λ (s : ℕ). Reach s items (x.own_before - first) (end - 1)) (sought.own (end - 1) x (omega arith) at) (links (end - 1) x at);
    }

pub sought-step : (session level first : ℕ) (items : List Item) (end next : ℕ) (x : Item) → Sought session level items end → Here session first items end x → 0 < end → is_open_at session level (held_change x []) ≡ false → next ≡ x.own_before - first → Sought session level items next
sought-step session level first items end next x sought here some fails is_next =
    let reach : Reach session items next (end - 1) = subst (λ (n : ℕ). Reach session items n (end - 1)) (sym is_next) here.reach in
    record {
      within = omega (arith, reach.within, sought.within);
      own = reach.own;
      none = λ (k : ℕ) (y : Item) (ge : next ≤ k) (at : slice_get items k ≡ Some y). by reach k y ge at (cases_lt k (end - 1)) (cases_lt (end - 1) k);
    }
  where
    by : Reach session items next (end - 1) → (k : ℕ) (y : Item) → next ≤ k → slice_get items k ≡ Some y → (k < end - 1) ⊎ (end - 1 ≤ k) → (end - 1 < k) ⊎ (k ≤ end - 1) → is_open_at session level (held_change y []) ≡ false
    by reach k y ge at (inl lt) c = closed-at session level y (reach.none_open k y ge lt at)
    by reach k y ge at (inr le) (inl gt) = sought.none k y (omega arith) at
    by reach k y ge at (inr le) (inr le2) =
        let same : k ≡ end - 1 = omega arith in
        ap (λ (z : Item). is_open_at session level (held_change z [])) (same_some y x (sym at ∙ ap (slice_get items) same ∙ here.at)) ∙ fails

-- the last place of a held change whose item passes
pub last-none : (session level : ℕ) (items : List Item) (rows : List (List ℕ)) → ((k : ℕ) (x : Item) → slice_get items k ≡ Some x → is_open_at session level (held_change x []) ≡ false) → last_place (is_open_at session level) (held_changes items rows) ≡ None
last-none session level [] rows none = refl
last-none session level (x ∷ items) [] none = refl
last-none session level (x ∷ items) (row ∷ rows) none =
    ap (later_place (is_open_at session level (held_change x row))) (last-none session level items rows (λ (k : ℕ) (y : Item) (at : slice_get items k ≡ Some y). none (suc k) y at))
    ∙ ap (λ (b : Bool). later_place b None) (none 0 x refl)

pub last-found : (session level : ℕ) (items : List Item) (rows : List (List ℕ)) (place : ℕ) (x : Item) → length rows ≡ length items → slice_get items place ≡ Some x → is_open_at session level (held_change x []) ≡ true
    → ((k : ℕ) (y : Item) → place < k → slice_get items k ≡ Some y → is_open_at session level (held_change y []) ≡ false) → last_place (is_open_at session level) (held_changes items rows) ≡ Some place
last-found session level [] rows place x same at passes none = absurd (get-none place x at)
last-found session level (y ∷ items) [] place x same at passes none = absurd (omega arith)
last-found session level (y ∷ items) (row ∷ rows) zero x same at passes none =
    ap (later_place (is_open_at session level (held_change y row))) (last-none session level items rows (λ (k : ℕ) (z : Item) (z_at : slice_get items k ≡ Some z). none (suc k) z (omega arith) z_at))
    ∙ ap (λ (b : Bool). later_place b None) (ap (λ (z : Item). is_open_at session level (held_change z [])) (same_some y x at) ∙ passes)
last-found session level (y ∷ items) (row ∷ rows) (suc place) x same at passes none =
    ap (later_place (is_open_at session level (held_change y row)))
    (last-found session level items rows place x (omega arith) at passes (λ (k : ℕ) (z : Item) (lt : place < k) (z_at : slice_get items k ≡ Some z). none (suc k) z (omega arith) z_at))

pub sought-found : (session level : ℕ) (items : List Item) (rows : List (List ℕ)) (end : ℕ) (x : Item) → length rows ≡ length items → Sought session level items end → 0 < end → slice_get items (end - 1) ≡ Some x → is_open_at session level (held_change x []) ≡ true → last_place (is_open_at session level) (held_changes items rows) ≡ Some (end - 1)
sought-found session level items rows end x same sought some at passes =
    last-found session level items rows (end - 1) x same at passes (λ (k : ℕ) (y : Item) (lt : end - 1 < k) (y_at : slice_get items k ≡ Some y). sought.none k y (omega arith) y_at)

-- no item before the end passes either
pub sought-stop : (session level : ℕ) (items : List Item) (rows : List (List ℕ)) (end : ℕ) → Sought session level items end → ((k : ℕ) (y : Item) → k < end → slice_get items k ≡ Some y → is_open_at session level (held_change y []) ≡ false) → last_place (is_open_at session level) (held_changes items rows) ≡ None
sought-stop session level items rows end sought before =
    last-none session level items rows (λ (k : ℕ) (x : Item) (at : slice_get items k ≡ Some x). by k x at (cases_lt k end))
  where
    by : (k : ℕ) (x : Item) → slice_get items k ≡ Some x → (k < end) ⊎ (end ≤ k) → is_open_at session level (held_change x []) ≡ false
    by k x at (inl lt) = before k x lt at
    by k x at (inr ge) = sought.none k x ge at

-- the last open item of a level is one of the session
last-passes : (session level : ℕ) (items : List Item) (rows : List (List ℕ)) (place : ℕ) (x : Item) → length rows ≡ length items → slice_get items place ≡ Some x → last_place (is_open_at session level) (held_changes items rows) ≡ Some place → is_open_at session level (held_change x []) ≡ true
last-passes session level [] rows place x same at e = absurd (get-none place x at)
last-passes session level (y ∷ items) [] place x same at e = absurd (omega arith)
last-passes session level (y ∷ items) (row ∷ rows) place x same at e = by place (last_place (is_open_at session level) (held_changes items rows)) refl at e (λ (k : ℕ) (z : slice_get items k ≡ Some x) (q : last_place (is_open_at session level) (held_changes items rows) ≡ Some k). last-passes session level items rows k x (omega arith) z q)
  where
    first : (b : Bool) (place : ℕ) → is_open_at session level (held_change y []) ≡ b → slice_get (y ∷ items) place ≡ Some x → later_place b None ≡ Some place → is_open_at session level (held_change x []) ≡ true
    first true zero h at e = ap (λ (z : Item). is_open_at session level (held_change z [])) (sym (same_some y x at)) ∙ h
    first true (suc place) h at e = cc
    first false place h at e = cc

    by : (place : ℕ) (o : Option ℕ) → last_place (is_open_at session level) (held_changes items rows) ≡ o → slice_get (y ∷ items) place ≡ Some x → later_place (is_open_at session level (held_change y [])) o ≡ Some place
        → ((k : ℕ) → slice_get items k ≡ Some x → last_place (is_open_at session level) (held_changes items rows) ≡ Some k → is_open_at session level (held_change x []) ≡ true) → is_open_at session level (held_change x []) ≡ true
    by place None is at e rest = first (is_open_at session level (held_change y [])) place refl at e
    by zero (Some k) is at e rest = cc
    by (suc place) (Some k) is at e rest = rest place at (is ∙ ap (λ (n : ℕ). Some n) (let q : k ≡ place = cc in q))

pub open-at-session : (session level : ℕ) (items : List Item) (rows : List (List ℕ)) (place : ℕ) (x : Item) → length rows ≡ length items → slice_get items place ≡ Some x → last_place (is_open_at session level) (held_changes items rows) ≡ Some place → x.session.0 ≡ session
open-at-session session level items rows place x same at e =
    open-session session x (and-first (is_open_item session x) (x.level == level) (last-passes session level items rows place x same at e))
  where
    and-first : (a b : Bool) → (a && b) ≡ true → a ≡ true
    and-first true b e = refl
    and-first false b e = e
