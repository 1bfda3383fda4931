-- The ways back through the open changes, after each step.
use Rattle.std.proofs.Common.{◌≡◌, ℕ, zero, suc, ◌+◌, ◌-◌, ◌<◌, ◌≤◌, ◌==◌, ◌⊎◌, inl, inr, Bool, true, false, ◌&&◌, List, [], ◌∷◌, ◌++◌, Some, map, length, get_or, set, drop, refl, sym, ap, subst, ◌∙◌, arith}
use Rattle.std.specs.Prelude.{slice_get, if◌then◌else◌}
use Rattle.std.proofs.lemmas.Bool.{cases_lt, eqb-false, eqb-true}
use Rattle.std.proofs.lemmas.List.{get_or-set_same, get_or-set_other, length-map, length-set, length_push}
use Rattle.std.proofs.lemmas.Option.{slice_get_within, slice_get-get_or}
use Rattle.std.proofs.Math.ListN.{get_or-eq_default}
use Rattle.common_lemmas.proofs.Booleans.{and_false}
use Rattle.common_lemmas.proofs.Options.{same_some}
use Rattle.database_state.specs.State.{is_open}
use Rattle.version_store.specs.declared.item.Item.{Item}
use Rattle.version_store.specs.declared.item.Status.TheVariants as status
use Rattle.version_store.specs.HeldChanges.{is_open_at}
use Rattle.version_store.specs.Items.{committed_item, held_change, lowered, released_item, state_of}
use Rattle.version_store.specs.OpenChanges.{AreBelow, AreLinked, OpenChanges, Reach, is_open_item}

-- ---- an element by its place

pub get-none : {X : Type 0} (k : ℕ) (x : X) → slice_get {X = X} [] k ≡ Some x → ⊥
get-none k x e = cc

get-append : {X : Type 0} (xs : List X) (y : X) (k : ℕ) → k < length xs → slice_get (xs ++ y ∷ []) k ≡ slice_get xs k
get-append [] y k lt = absurd (omega arith)
get-append (x ∷ xs) y zero lt = refl
get-append (x ∷ xs) y (suc k) lt = get-append xs y k (omega arith)

get-last : {X : Type 0} (xs : List X) (y : X) → slice_get (xs ++ y ∷ []) (length xs) ≡ Some y
get-last [] y = refl
get-last (x ∷ xs) y = get-last xs y

pub get-set_same : {X : Type 0} (xs : List X) (i : ℕ) (y : X) → i < length xs → slice_get (set xs i y) i ≡ Some y
get-set_same [] i y lt = absurd (omega arith)
get-set_same (x ∷ xs) zero y lt = refl
get-set_same (x ∷ xs) (suc i) y lt = get-set_same xs i y (omega arith)

pub get-set_other : {X : Type 0} (xs : List X) (i k : ℕ) (y : X) → (k ≡ i → ⊥) → slice_get (set xs i y) k ≡ slice_get xs k
get-set_other [] i k y other = refl
get-set_other (x ∷ xs) zero zero y other = absurd (other refl)
get-set_other (x ∷ xs) zero (suc k) y other = refl
get-set_other (x ∷ xs) (suc i) zero y other = refl
get-set_other (x ∷ xs) (suc i) (suc k) y other = get-set_other xs i k y (λ e. other (ap (λ (n : ℕ). suc n) e))

-- ---- lists that change item by item

-- an item that is still of its session, and no more open than before
pub record Tamed (old new : Item) : Type 0 where
  pub session : new.session.0 ≡ old.session.0
  pub before : new.own_before ≡ old.own_before
  pub closed : (session : ℕ) → is_open_item session old ≡ false → is_open_item session new ≡ false

pub record Was (items : List Item) (k : ℕ) (new : Item) : Type 0 where
  pub old : Item
  pub is : slice_get items k ≡ Some old
  pub tamed : Tamed old new

abbrev pub AreTamed : List Item → List Item → Type 0
AreTamed items new = (k : ℕ) (x : Item) → slice_get new k ≡ Some x → Was items k x

pub reach-tamed : (session : ℕ) (items new : List Item) (end bound : ℕ) → AreTamed items new → Reach session items end bound → Reach session new end bound
reach-tamed session items new end bound each reach = record {
  within = reach.within;
  own = λ (place : ℕ) (x : Item) (e : end ≡ suc place) (is : slice_get new place ≡ Some x).
      (each place x is).tamed.session ∙ reach.own place (each place x is).old e (each place x is).is;
  none_open = λ (k : ℕ) (x : Item) (ge : end ≤ k) (lt : k < bound) (is : slice_get new k ≡ Some x).
      (each k x is).tamed.closed session (reach.none_open k (each k x is).old ge lt (each k x is).is);
}

pub links-tamed : (first : ℕ) (items new : List Item) → AreTamed items new → AreLinked first items → AreLinked first new
links-tamed first items new each links i x is =
    let was = each i x is in
    subst (λ (n : ℕ). Reach x.session.0 new (n - first) i) (sym was.tamed.before)
    (subst (λ (s : ℕ). Reach s new (was.old.own_before - first) i) (sym was.tamed.session)
    (reach-tamed was.old.session.0 items new (was.old.own_before - first) i each (links i was.old was.is)))

-- what a map leaves at a place
record Mapped (f : Item → Item) (items : List Item) (k : ℕ) (new : Item) : Type 0 where
  old : Item
  is : slice_get items k ≡ Some old
  made : f old ≡ new

mapped-at : (f : Item → Item) (items : List Item) (k : ℕ) (new : Item) → slice_get (map f items) k ≡ Some new → Mapped f items k new
mapped-at f [] k new e = absurd (get-none k new e)
mapped-at f (x ∷ items) zero new e = record { old = x; is = refl; made = same_some (f x) new e }
mapped-at f (x ∷ items) (suc k) new e = let rest = mapped-at f items k new e in record { old = rest.old; is = rest.is; made = rest.made }

pub map-tamed : (f : Item → Item) (items : List Item) → ((x : Item) → Tamed x (f x)) → AreTamed items (map f items)
map-tamed f items tame k new e = let at = mapped-at f items k new e in record { old = at.old; is = at.is; tamed = subst (Tamed at.old) at.made (tame at.old) }

pub true-false : (b : Bool) → b ≡ true → b ≡ false → ⊥
true-false true e f = cc
true-false false e f = cc

still-open : (o x p y : Item) → Tamed o x → Tamed p y → is_open_item x.session.0 y ≡ true → is_open_item o.session.0 p ≡ true
still-open o x p y tx ty h = at (is_open_item o.session.0 p) refl
  where
    at : (b : Bool) → is_open_item o.session.0 p ≡ b → is_open_item o.session.0 p ≡ true
    at true e = e
    at false e = absurd (true-false (is_open_item x.session.0 y) h (ap (λ (s : ℕ). is_open_item s y) tx.session ∙ ty.closed o.session.0 e))

-- levels and what items say of them stay
pub levels-map : (f : Item → Item) (items : List Item) → ((x : Item) → Tamed x (f x)) → ((x : Item) → (f x).level ≡ x.level) → ((x : Item) → (f x).highest ≡ x.highest) → AreBelow items → AreBelow (map f items)
levels-map f items tame level highest below i k x y is le at opened =
    let a = mapped-at f items i x is in let b = mapped-at f items k y at in
    let tx : Tamed a.old x = subst (Tamed a.old) a.made (tame a.old) in let ty : Tamed b.old y = subst (Tamed b.old) b.made (tame b.old) in
    let same_level : y.level ≡ b.old.level = ap (λ (z : Item). z.level) (sym b.made) ∙ level b.old in
    let same_highest : x.highest ≡ a.old.highest = ap (λ (z : Item). z.highest) (sym a.made) ∙ highest a.old in
    let was_open : is_open_item a.old.session.0 b.old ≡ true = still-open a.old x b.old y tx ty opened in
    let bound : b.old.level ≤ a.old.highest = below i k a.old b.old a.is le b.is was_open in
    omega (arith, same_level, same_highest, bound)

-- ---- committed, released and undone items

pub commit-tamed : (session number : ℕ) (x : Item) → Tamed x (committed_item session number x)
commit-tamed session number x = at (is_open_item session x)
  where
    at : (b : Bool) → Tamed x (if b then record x { status = status.Committed number } else x)
    at true = record { session = refl; before = refl; closed = λ (s : ℕ) (e : is_open_item s x ≡ false). and_false (x.session.0 == s) }
    at false = record { session = refl; before = refl; closed = λ (s : ℕ) (e : is_open_item s x ≡ false). e }

pub commit-level : (session number : ℕ) (x : Item) → (committed_item session number x).level ≡ x.level
commit-level session number x = at (is_open_item session x)
  where
    at : (b : Bool) → (if b then record x { status = status.Committed number } else x).level ≡ x.level
    at true = refl
    at false = refl

pub commit-highest : (session number : ℕ) (x : Item) → (committed_item session number x).highest ≡ x.highest
commit-highest session number x = at (is_open_item session x)
  where
    at : (b : Bool) → (if b then record x { status = status.Committed number } else x).highest ≡ x.highest
    at true = refl
    at false = refl

-- none of the session is open after its commit
pub commit-closed : (session number : ℕ) (x : Item) → is_open_item session (committed_item session number x) ≡ false
commit-closed session number x = at (is_open_item session x) refl
  where
    at : (b : Bool) → is_open_item session x ≡ b → is_open_item session (if b then record x { status = status.Committed number } else x) ≡ false
    at true e = and_false (x.session.0 == session)
    at false e = e

pub commit-skips : (session number : ℕ) (x : Item) → is_open_item session x ≡ false → committed_item session number x ≡ x
commit-skips session number x e = ap (λ (b : Bool). if b then record x { status = status.Committed number } else x) e

lower : ℕ → Item → Item
lower level x = record x { level = level - 1; highest = lowered level x.highest }

pub release-tamed : (session level : ℕ) (x : Item) → Tamed x (released_item session level x)
release-tamed session level x = at (is_open_at session level (held_change x []))
  where
    at : (b : Bool) → Tamed x (if b then record x { level = level - 1; highest = lowered level x.highest } else x)
    at true = record { session = refl; before = refl; closed = λ (s : ℕ) (e : is_open_item s x ≡ false). e }
    at false = record { session = refl; before = refl; closed = λ (s : ℕ) (e : is_open_item s x ≡ false). e }

pub release-skips : (session level : ℕ) (x : Item) → is_open_item session x ≡ false → released_item session level x ≡ x
release-skips session level x e = ap (λ (b : Bool). if b && (x.level == level) then record x { level = level - 1; highest = lowered level x.highest } else x) e

-- an item that is open at the level goes to the one below, and any other stays where it is
pub record Level (session level : ℕ) (x : Item) : Type 0 where
  pub at_most : (released_item session level x).level ≤ x.level
  pub below : is_open_item session x ≡ true → x.level ≤ level → 2 ≤ level → (released_item session level x).level ≤ level - 1

release-level : (session level : ℕ) (x : Item) → 2 ≤ level → Level session level x
release-level session level x two = at (is_open_item session x) (x.level == level) refl refl
  where
    at : (b e : Bool) → is_open_item session x ≡ b → (x.level == level) ≡ e → Level session level x
    at true true h k = record {
      at_most = omega (arith, level_is h k, eqb-true x.level level k);
      below = λ (o : is_open_item session x ≡ true) (l : x.level ≤ level) (t : 2 ≤ level). omega (arith, level_is h k);
    }
      where
        level_is : is_open_item session x ≡ true → (x.level == level) ≡ true → (released_item session level x).level ≡ level - 1
        level_is h k =
            ap (λ (b : Bool). (if b && (x.level == level) then record x { level = level - 1; highest = lowered level x.highest } else x).level) h
            ∙ ap (λ (b : Bool). (if b then record x { level = level - 1; highest = lowered level x.highest } else x).level) k
    at true false h k = record {
      at_most = omega (arith, stays h k);
      below = λ (o : is_open_item session x ≡ true) (l : x.level ≤ level) (t : 2 ≤ level). omega (arith, stays h k, apart (λ (e : x.level ≡ level). eqb-false x.level level k e));
    }
      where
        apart : (x.level ≡ level → ⊥) → x.level ≤ level → x.level < level
        apart never le = omega (arith, never)

        stays : is_open_item session x ≡ true → (x.level == level) ≡ false → (released_item session level x).level ≡ x.level
        stays h k =
            ap (λ (b : Bool). (if b && (x.level == level) then record x { level = level - 1; highest = lowered level x.highest } else x).level) h
            ∙ ap (λ (b : Bool). (if b then record x { level = level - 1; highest = lowered level x.highest } else x).level) k
    at false e h k = record {
      at_most = omega (arith, ap (λ (y : Item). y.level) (release-skips session level x h));
      below = λ (o : is_open_item session x ≡ true) (l : x.level ≤ level) (t : 2 ≤ level). absurd (true-false (is_open_item session x) o h);
    }

pub open-session : (session : ℕ) (x : Item) → is_open_item session x ≡ true → x.session.0 ≡ session
open-session session x e = at (x.session.0 == session) refl e
  where
    at : (b : Bool) → (x.session.0 == session) ≡ b → (b && is_open (state_of x.status)) ≡ true → x.session.0 ≡ session
    at true h k = eqb-true x.session.0 session h
    at false h k = absurd (true-false false k refl)

released-bound : (session level : ℕ) (x y : Item) → 2 ≤ level → Level session level y → is_open_item x.session.0 y ≡ true → y.level ≤ x.highest → (released_item session level y).level ≤ (released_item session level x).highest
released-bound session level x y two l opened bound = at (is_open_item session x) (x.level == level) (x.highest == level) refl refl refl
  where
    at : (a b c : Bool) → is_open_item session x ≡ a → (x.level == level) ≡ b → (x.highest == level) ≡ c → (released_item session level y).level ≤ (if a && b then record x { level = level - 1; highest = (if c then level - 1 else x.highest) } else x).highest
    at true true true h k m = l.below (ap (λ (s : ℕ). is_open_item s y) (sym (open-session session x h)) ∙ opened) (omega (arith, eqb-true x.highest level m)) two
    at true true false h k m = omega (arith, l.at_most)
    at true false c h k m = omega (arith, l.at_most)
    at false b c h k m = omega (arith, l.at_most)

-- what a released item says of levels: as before, or from this level the one below
pub levels-released : (session level : ℕ) (items : List Item) → 2 ≤ level → AreBelow items → AreBelow (map (released_item session level) items)
levels-released session level items two below i k x y is le at_k opened =
    let a = mapped-at (released_item session level) items i x is in let b = mapped-at (released_item session level) items k y at_k in
    let tx : Tamed a.old x = subst (Tamed a.old) a.made (release-tamed session level a.old) in let ty : Tamed b.old y = subst (Tamed b.old) b.made (release-tamed session level b.old) in
    let was_open : is_open_item a.old.session.0 b.old ≡ true = still-open a.old x b.old y tx ty opened in
    let bound : b.old.level ≤ a.old.highest = below i k a.old b.old a.is le b.is was_open in
    let l = release-level session level b.old two in
    let y_level : y.level ≡ (released_item session level b.old).level = ap (λ (z : Item). z.level) (sym b.made) in
    let x_highest : x.highest ≡ (released_item session level a.old).highest = ap (λ (z : Item). z.highest) (sym a.made) in
    let final : (released_item session level b.old).level ≤ (released_item session level a.old).highest = released-bound session level a.old b.old two l was_open bound in
    omega (arith, y_level, x_highest, final)

undo : Item → Item
undo x = record x { status = status.Undone }

pub undo-tamed : (x : Item) → Tamed x (record x { status = status.Undone })
undo-tamed x = record { session = refl; before = refl; closed = λ (s : ℕ) (e : is_open_item s x ≡ false). and_false (x.session.0 == s) }

pub undo-closed : (session : ℕ) (x : Item) → is_open_item session (record x { status = status.Undone }) ≡ false
undo-closed session x = and_false (x.session.0 == session)

-- what a list has at a place after one of its items was undone
record Undone (items : List Item) (at : ℕ) (old : Item) (k : ℕ) (new : Item) : Type 0 where
  was : Item
  is : slice_get items k ≡ Some was
  tamed : Tamed was new
  level : new.level ≡ was.level
  highest : new.highest ≡ was.highest
  here : k ≡ at → (session : ℕ) → is_open_item session new ≡ false

undone-place : (items : List Item) (at : ℕ) (old : Item) (k : ℕ) (new : Item) → slice_get items at ≡ Some old → slice_get (set items at (record old { status = status.Undone })) k ≡ Some new → Undone items at old k new
undone-place items at old k new is e = by (k == at) refl
  where
    done : Item
    done = record old { status = status.Undone }

    by : (b : Bool) → (k == at) ≡ b → Undone items at old k new
    by true h =
        let same : k ≡ at = eqb-true k at h in
        let made : done ≡ new = same_some done new (sym (get-set_same items at done (slice_get_within items at old is)) ∙ ap (slice_get (set items at done)) (sym same) ∙ e) in
        record {
          was = old;
          is = ap (slice_get items) same ∙ is;
          tamed = subst (Tamed old) made (undo-tamed old);
          level = sym (ap (λ (x : Item). x.level) made);
          highest = sym (ap (λ (x : Item). x.highest) made);
          here = λ (q : k ≡ at) (session : ℕ). sym (ap (is_open_item session) made) ∙ undo-closed session old;
        }
    by false h = record {
      was = new;
      is = sym (get-set_other items at k done (λ (q : k ≡ at). eqb-false k at h q)) ∙ e;
      tamed = record { session = refl; before = refl; closed = λ (s : ℕ) (c : is_open_item s new ≡ false). c };
      level = refl;
      highest = refl;
      here = λ (q : k ≡ at) (session : ℕ). absurd (eqb-false k at h q);
    }

pub set-tamed : (items : List Item) (at : ℕ) (old : Item) → slice_get items at ≡ Some old → AreTamed items (set items at (record old { status = status.Undone }))
set-tamed items at old is k x e = let u = undone-place items at old k x is e in record { old = u.was; is = u.is; tamed = u.tamed }

levels-undone : (items : List Item) (at : ℕ) (old : Item) → slice_get items at ≡ Some old → AreBelow items → AreBelow (set items at (record old { status = status.Undone }))
levels-undone items at old is below i k x y ix le ky opened =
    let a = undone-place items at old i x is ix in let b = undone-place items at old k y is ky in
    let bound : b.was.level ≤ a.was.highest = below i k a.was b.was a.is le b.is (still-open a.was x b.was y a.tamed b.tamed opened) in
    omega (arith, a.highest, b.level, bound)

-- ---- the number of a session's newest open change is put

head-put : (session label number first : ℕ) (newest : List ℕ) (P : ℕ → Type 0) → (session < length newest → label ≡ session → P (number - first)) → ((session < length newest → label ≡ session → ⊥) → P (get_or newest label 0 - first)) → P (get_or (set newest session number) label 0 - first)
head-put session label number first newest P new old = by (label == session) refl (cases_lt session (length newest))
  where
    by : (b : Bool) → (label == session) ≡ b → (session < length newest) ⊎ (length newest ≤ session) → P (get_or (set newest session number) label 0 - first)
    by true h (inl lt) =
        let same : label ≡ session = eqb-true label session h in
        subst (λ (n : ℕ). P (n - first)) (sym (ap (λ (k : ℕ). get_or (set newest session number) k 0) same ∙ get_or-set_same newest session number 0 lt)) (new lt same)
    by true h (inr le) =
        let same : label ≡ session = eqb-true label session h in
        let none : get_or (set newest session number) label 0 ≡ 0 = get_or-eq_default (set newest session number) 0 (omega (arith, length-set newest session number)) in
        let was : get_or newest label 0 ≡ 0 = get_or-eq_default newest 0 (omega arith) in
        subst (λ (n : ℕ). P (n - first)) (was ∙ sym none) (old (λ (lt : session < length newest) (e : label ≡ session). let none_is : ⊥ = omega arith in none_is))
    by false h c = subst (λ (n : ℕ). P (n - first)) (sym (get_or-set_other newest session label number 0 (λ (e : label ≡ session). eqb-false label session h e))) (old (λ (lt : session < length newest) (e : label ≡ session). eqb-false label session h e))

pub opens-put : (session number first : ℕ) (items : List Item) (newest : List ℕ) → OpenChanges first items newest → Reach session items (number - first) (length items) → OpenChanges first items (set newest session number)
opens-put session number first items newest opens reach = record {
  heads = λ (label : ℕ). head-put session label number first newest (λ (n : ℕ). Reach label items n (length items)) (λ (lt : session < length newest) (e : label ≡ session). subst (λ (s : ℕ). Reach s items (number - first) (length items)) (sym e) reach) (λ (never : session < length newest → label ≡ session → ⊥). opens.heads label);
  links = opens.links;
  levels = opens.levels;
}

pub opens-room : (first : ℕ) (items : List Item) (newest more : List ℕ) → OpenChanges first items newest → ((label : ℕ) → get_or more label 0 ≡ get_or newest label 0) → OpenChanges first items more
opens-room first items newest more opens same = record {
  heads = λ (label : ℕ). subst (λ (n : ℕ). Reach label items (n - first) (length items)) (sym (same label)) (opens.heads label);
  links = opens.links;
  levels = opens.levels;
}

-- ---- after each step

pub opens-new : OpenChanges 0 [] []
opens-new = record {
  heads = λ (label : ℕ). record {
    within = omega arith;
    own = λ (place : ℕ) (x : Item) (e : 0 ≡ suc place) (is : slice_get {X = Item} [] place ≡ Some x). absurd (get-none place x is);
    none_open = λ (k : ℕ) (x : Item) (ge : 0 ≤ k) (lt : k < 0) (is : slice_get {X = Item} [] k ≡ Some x). absurd (get-none k x is);
  };
  links = λ (i : ℕ) (x : Item) (is : slice_get {X = Item} [] i ≡ Some x). absurd (get-none i x is);
  levels = λ (i k : ℕ) (x y : Item) (is : slice_get {X = Item} [] i ≡ Some x). absurd (get-none i x is);
}

pub opens-committed : (session number first : ℕ) (items : List Item) (newest : List ℕ) → OpenChanges first items newest → OpenChanges first (map (committed_item session number) items) (set newest session 0)
opens-committed session number first items newest opens =
    let new : List Item = map (committed_item session number) items in
    let tame : AreTamed items new = map-tamed (committed_item session number) items (commit-tamed session number) in
    opens-put session 0 first new newest
    (record {
      heads = λ (label : ℕ). subst (Reach label new (get_or newest label 0 - first)) (sym (length-map items (committed_item session number))) (reach-tamed label items new (get_or newest label 0 - first) (length items) tame (opens.heads label));
      links = links-tamed first items new tame opens.links;
      levels = levels-map (committed_item session number) items (commit-tamed session number) (commit-level session number) (commit-highest session number) opens.levels;
    })
    (record {
      within = omega arith;
      own = λ (place : ℕ) (x : Item) (e : 0 - first ≡ suc place) (is : slice_get new place ≡ Some x). absurd (omega (arith, e));
      none_open = λ (k : ℕ) (x : Item) (ge : 0 - first ≤ k) (lt : k < length new) (is : slice_get new k ≡ Some x).
          let at = mapped-at (committed_item session number) items k x is in sym (ap (is_open_item session) at.made) ∙ commit-closed session number at.old;
    })

pub opens-released : (session level first : ℕ) (items : List Item) (newest : List ℕ) → 2 ≤ level → OpenChanges first items newest → OpenChanges first (map (released_item session level) items) newest
opens-released session level first items newest two opens =
    let new : List Item = map (released_item session level) items in
    let tame : AreTamed items new = map-tamed (released_item session level) items (release-tamed session level) in
    record {
      heads = λ (label : ℕ). subst (Reach label new (get_or newest label 0 - first)) (sym (length-map items (released_item session level))) (reach-tamed label items new (get_or newest label 0 - first) (length items) tame (opens.heads label));
      links = links-tamed first items new tame opens.links;
      levels = levels-released session level items two opens.levels;
    }

-- the change at the place is undone; where it was its session's newest, the one before is that now
pub opens-undone : (session first place next : ℕ) (old : Item) (items : List Item) (newest : List ℕ) → OpenChanges first items newest → slice_get items place ≡ Some old → old.session.0 ≡ session
    → (next ≡ get_or newest session 0) ⊎ ((get_or newest session 0 - first ≡ place + 1) × (next ≡ old.own_before)) → OpenChanges first (set items place (record old { status = status.Undone })) (set newest session next)
opens-undone session first place next old items newest opens is own which =
    let new : List Item = set items place (record old { status = status.Undone }) in
    let tame : AreTamed items new = set-tamed items place old is in
    let count : length new ≡ length items = length-set items place (record old { status = status.Undone }) in
    opens-put session next first new newest
    (record {
      heads = λ (label : ℕ). subst (Reach label new (get_or newest label 0 - first)) (sym count) (reach-tamed label items new (get_or newest label 0 - first) (length items) tame (opens.heads label));
      links = links-tamed first items new tame opens.links;
      levels = levels-undone items place old is opens.levels;
    })
    (subst (Reach session new (next - first)) (sym count) (by new tame which))
  where
    by : (new : List Item) → AreTamed items new → (next ≡ get_or newest session 0) ⊎ ((get_or newest session 0 - first ≡ place + 1) × (next ≡ old.own_before)) → Reach session (set items place (record old { status = status.Undone })) (next - first) (length items)
    by new tame (inl e) = subst (λ (n : ℕ). Reach session (set items place (record old { status = status.Undone })) (n - first) (length items)) (sym e)
        (reach-tamed session items (set items place (record old { status = status.Undone })) (get_or newest session 0 - first) (length items) (set-tamed items place old is) (opens.heads session))
    by new tame (inr both) =
        let below : Reach session items (next - first) place = subst (λ (n : ℕ). Reach session items (n - first) place) (sym both.1) (subst (λ (s : ℕ). Reach s items (old.own_before - first) place) own (opens.links place old is)) in
        let head : Reach session items (place + 1) (length items) = subst (λ (n : ℕ). Reach session items n (length items)) both.0 (opens.heads session) in
        record {
          within = omega (arith, below.within, head.within);
          own = λ (q : ℕ) (x : Item) (e : next - first ≡ suc q) (at : slice_get (set items place (record old { status = status.Undone })) q ≡ Some x).
              let u = undone-place items place old q x is at in u.tamed.session ∙ below.own q u.was e u.is;
          none_open = λ (k : ℕ) (x : Item) (ge : next - first ≤ k) (lt : k < length items) (at : slice_get (set items place (record old { status = status.Undone })) k ≡ Some x).
              split k x ge lt (undone-place items place old k x is at) below head (cases_lt k place) (cases_lt place k);
        }
      where
        split : (k : ℕ) (x : Item) → next - first ≤ k → k < length items → Undone items place old k x → Reach session items (next - first) place → Reach session items (place + 1) (length items) → (k < place) ⊎ (place ≤ k) → (place < k) ⊎ (k ≤ place) → is_open_item session x ≡ false
        split k x ge lt u below head (inl before) c = u.tamed.closed session (below.none_open k u.was ge before u.is)
        split k x ge lt u below head (inr le) (inl after) = u.tamed.closed session (head.none_open k u.was (omega arith) lt u.is)
        split k x ge lt u below head (inr le) (inr ge_place) = u.here (let e : k ≡ place = omega arith in e) session

-- which number is put
pub next-newest : (number first place before next base head : ℕ) → number ≡ head → first ≡ base → next ≡ (if number - first == suc place then before else number) → (next ≡ head) ⊎ ((head - base ≡ place + 1) × (next ≡ before))
next-newest number first place before next base head same_head same_base is = by (number - first == suc place) refl is
  where
    by : (b : Bool) → (number - first == suc place) ≡ b → next ≡ (if b then before else number) → (next ≡ head) ⊎ ((head - base ≡ place + 1) × (next ≡ before))
    by true h e = inr ((let q : head - base ≡ place + 1 = omega (arith, same_head, same_base, eqb-true (number - first) (suc place) h) in q), e)
    by false h e = inl (e ∙ same_head)

pub opens-popped : (first : ℕ) (items new : List Item) (newest : List ℕ) → OpenChanges first items newest → 0 < length items → new ≡ drop 1 items → OpenChanges (first + 1) new newest
opens-popped first [] new newest opens some is = absurd (omega arith)
opens-popped first (item ∷ items) new newest opens some is =
    subst (λ (l : List Item). OpenChanges (first + 1) l newest) (sym is)
    (record {
      heads = λ (label : ℕ). shift label (get_or newest label 0) (length items) (opens.heads label);
      links = λ (i : ℕ) (x : Item) (at : slice_get items i ≡ Some x). shift x.session.0 x.own_before i (opens.links (suc i) x at);
      levels = λ (i k : ℕ) (x y : Item) (at : slice_get items i ≡ Some x) (le : k ≤ i). opens.levels (suc i) (suc k) x y at (omega arith);
    })
  where
    shift : (session number bound : ℕ) → Reach session (item ∷ items) (number - first) (suc bound) → Reach session items (number - (first + 1)) bound
    shift session number bound reach = record {
      within = omega (arith, reach.within);
      own = λ (place : ℕ) (x : Item) (e : number - (first + 1) ≡ suc place) (at : slice_get items place ≡ Some x). reach.own (suc place) x (omega (arith, e)) at;
      none_open = λ (k : ℕ) (x : Item) (ge : number - (first + 1) ≤ k) (lt : k < bound) (at : slice_get items k ≡ Some x). reach.none_open (suc k) x (omega (arith, ge)) (omega (arith, lt)) at;
    }

-- ---- a change more, behind the others

-- of the item behind the others, or one of those
data Place (items : List Item) (x : Item) (k : ℕ) (y : Item) : Type 0 where
  older : k < length items → slice_get items k ≡ Some y → Place items x k y
  newest_one : k ≡ length items → x ≡ y → Place items x k y

place-of : (items : List Item) (x : Item) (k : ℕ) (y : Item) → slice_get (items ++ x ∷ []) k ≡ Some y → Place items x k y
place-of items x k y at = by (cases_lt k (length items))
  where
    within : k < length items + 1
    within = omega (arith, slice_get_within (items ++ x ∷ []) k y at, length_push items x)

    by : (k < length items) ⊎ (length items ≤ k) → Place items x k y
    by (inl lt) = older lt (sym (get-append items x k lt) ∙ at)
    by (inr le) =
        let same : k ≡ length items = omega (arith, within) in
        newest_one same (same_some x y (sym (get-last items x) ∙ ap (slice_get (items ++ x ∷ [])) (sym same) ∙ at))

reach-longer : (session : ℕ) (items : List Item) (x : Item) (end bound : ℕ) → bound ≤ length items → Reach session items end bound → Reach session (items ++ x ∷ []) end bound
reach-longer session items x end bound le reach = record {
  within = reach.within;
  own = λ (place : ℕ) (y : Item) (e : end ≡ suc place) (at : slice_get (items ++ x ∷ []) place ≡ Some y).
      reach.own place y e (sym (get-append items x place (omega (arith, e, reach.within))) ∙ at);
  none_open = λ (k : ℕ) (y : Item) (ge : end ≤ k) (lt : k < bound) (at : slice_get (items ++ x ∷ []) k ≡ Some y).
      reach.none_open k y ge lt (sym (get-append items x k (omega arith)) ∙ at);
}

-- a walk for another session
reach-other : (session : ℕ) (items : List Item) (x : Item) (end bound : ℕ) → bound ≡ length items + 1 → is_open_item session x ≡ false → Reach session items end (length items) → Reach session (items ++ x ∷ []) end bound
reach-other session items x end bound count closed reach = record {
  within = omega (arith, reach.within);
  own = λ (place : ℕ) (y : Item) (e : end ≡ suc place) (at : slice_get (items ++ x ∷ []) place ≡ Some y).
      reach.own place y e (sym (get-append items x place (omega (arith, e, reach.within))) ∙ at);
  none_open = λ (k : ℕ) (y : Item) (ge : end ≤ k) (lt : k < bound) (at : slice_get (items ++ x ∷ []) k ≡ Some y). by k y ge (place-of items x k y at);
}
  where
    by : (k : ℕ) (y : Item) → end ≤ k → Place items x k y → is_open_item session y ≡ false
    by k y ge (older lt at) = reach.none_open k y ge lt at
    by k y ge (newest_one same is) = ap (is_open_item session) (sym is) ∙ closed

-- a walk for its own session begins behind it
reach-own : (session : ℕ) (items : List Item) (x : Item) (end bound : ℕ) → bound ≡ length items + 1 → end ≡ length items + 1 → x.session.0 ≡ session → Reach session (items ++ x ∷ []) end bound
reach-own session items x end bound count at_end own = record {
  within = omega arith;
  own = λ (place : ℕ) (y : Item) (e : end ≡ suc place) (at : slice_get (items ++ x ∷ []) place ≡ Some y). by place y (omega (arith, e)) (place-of items x place y at);
  none_open = λ (k : ℕ) (y : Item) (ge : end ≤ k) (lt : k < bound) (at : slice_get (items ++ x ∷ []) k ≡ Some y). absurd (omega arith);
}
  where
    by : (place : ℕ) (y : Item) → place ≡ length items → Place items x place y → y.session.0 ≡ session
    by place y e (older lt at) = absurd (omega arith)
    by place y e (newest_one same is) = ap (λ (z : Item). z.session.0) (sym is) ∙ own

other-closed : (label : ℕ) (x : Item) → (label ≡ x.session.0 → ⊥) → is_open_item label x ≡ false
other-closed label x never = at (x.session.0 == label) refl
  where
    at : (b : Bool) → (x.session.0 == label) ≡ b → (b && is_open (state_of x.status)) ≡ false
    at true h = absurd (never (sym (eqb-true x.session.0 label h)))
    at false h = refl

-- what the new item says of levels
new-below : (first : ℕ) (items : List Item) (newest : List ℕ) (x : Item) → OpenChanges first items newest → x.own_before ≡ get_or newest x.session.0 0 → ((place : ℕ) (y : Item) → x.own_before - first ≡ suc place → slice_get items place ≡ Some y → y.highest ≤ x.highest)
    → (k : ℕ) (y : Item) → slice_get items k ≡ Some y → is_open_item x.session.0 y ≡ true → y.level ≤ x.highest
new-below first items newest x opens before highest k y at opened = by (x.own_before - first) refl (cases_lt k (x.own_before - first))
  where
    reach : Reach x.session.0 items (x.own_before - first) (length items)
    reach = subst (λ (n : ℕ). Reach x.session.0 items (n - first) (length items)) (sym before) (opens.heads x.session.0)

    by : (end : ℕ) → x.own_before - first ≡ end → (k < x.own_before - first) ⊎ (x.own_before - first ≤ k) → y.level ≤ x.highest
    by end e (inr le) = absurd (true-false (is_open_item x.session.0 y) opened (reach.none_open k y le (slice_get_within items k y at) at))
    by zero e (inl lt) = absurd (omega arith)
    by (suc place) e (inl lt) =
        let z : Item = get_or items place y in
        let z_at : slice_get items place ≡ Some z = slice_get-get_or items place y (omega (arith, e, reach.within)) in
        let own : z.session.0 ≡ x.session.0 = reach.own place z e z_at in
        let low : y.level ≤ z.highest = opens.levels place k z y z_at (omega (arith, e)) at (ap (λ (s : ℕ). is_open_item s y) own ∙ opened) in
        let high : z.highest ≤ x.highest = highest place z e z_at in
        omega (arith, low, high)

-- the number of the session's newest open change with the new one: its own where it is open
pub record Newest (first count own number : ℕ) (opened : Bool) : Type 0 where
  pub mine : opened ≡ true → number ≡ first + count + 1
  pub older : opened ≡ false → number ≡ own

pub newest-with : (first count own before mine number : ℕ) (opened : Bool) → own ≡ before → mine ≡ first + count + 1 → number ≡ (if opened then mine else before) → Newest first count own number opened
newest-with first count own before mine number true same is e = record { mine = λ (o : true ≡ true). e ∙ is; older = λ (o : true ≡ false). absurd (true-false true refl o) }
newest-with first count own before mine number false same is e = record { mine = λ (o : false ≡ true). absurd (true-false false o refl); older = λ (o : false ≡ false). e ∙ sym same }

own-closed : (label : ℕ) (x : Item) → is_open (state_of x.status) ≡ false → is_open_item label x ≡ false
own-closed label x closed = ap (λ (b : Bool). (x.session.0 == label) && b) closed ∙ and_false (x.session.0 == label)

pub opens-pushed : (first : ℕ) (items new : List Item) (newest : List ℕ) (x : Item) (number : ℕ) → OpenChanges first items newest → new ≡ items ++ x ∷ [] → x.own_before ≡ get_or newest x.session.0 0 → x.level ≤ x.highest
    → ((place : ℕ) (y : Item) → x.own_before - first ≡ suc place → slice_get items place ≡ Some y → y.highest ≤ x.highest) → Newest first (length items) (get_or newest x.session.0 0) number (is_open (state_of x.status)) → x.session.0 < length newest → OpenChanges first new (set newest x.session.0 number)
opens-pushed first items new newest x number opens is before level highest is_number room =
    subst (λ (l : List Item). OpenChanges first l (set newest x.session.0 number)) (sym is)
    (record {
      heads = λ (label : ℕ). head-put x.session.0 label number first newest (λ (n : ℕ). Reach label (items ++ x ∷ []) n (length (items ++ x ∷ [])))
          (λ (lt : x.session.0 < length newest) (e : label ≡ x.session.0). own label (sym e) (is_open (state_of x.status)) refl)
          (λ (never : x.session.0 < length newest → label ≡ x.session.0 → ⊥). reach-other label items x (get_or newest label 0 - first) (length (items ++ x ∷ [])) (length_push items x) (other-closed label x (never room)) (opens.heads label));
      links = λ (i : ℕ) (y : Item) (at : slice_get (items ++ x ∷ []) i ≡ Some y). links i y (place-of items x i y at);
      levels = λ (i k : ℕ) (y z : Item) (at : slice_get (items ++ x ∷ []) i ≡ Some y) (le : k ≤ i) (z_at : slice_get (items ++ x ∷ []) k ≡ Some z) (opened : is_open_item y.session.0 z ≡ true).
          levels i k y z le opened (place-of items x i y at) (place-of items x k z z_at);
    })
  where
    own : (label : ℕ) → x.session.0 ≡ label → (b : Bool) → is_open (state_of x.status) ≡ b → Reach label (items ++ x ∷ []) (number - first) (length (items ++ x ∷ []))
    own label e true o = let is : number ≡ first + length items + 1 = is_number.mine o in reach-own label items x (number - first) (length (items ++ x ∷ [])) (length_push items x) (omega (arith, is)) e
    own label e false o =
        reach-other label items x (number - first) (length (items ++ x ∷ [])) (length_push items x) (own-closed label x o)
        (subst (λ (n : ℕ). Reach label items (n - first) (length items)) (ap (λ (s : ℕ). get_or newest s 0) (sym e) ∙ sym (is_number.older o)) (opens.heads label))

    links : (i : ℕ) (y : Item) → Place items x i y → Reach y.session.0 (items ++ x ∷ []) (y.own_before - first) i
    links i y (older lt at) = reach-longer y.session.0 items x (y.own_before - first) i (omega arith) (opens.links i y at)
    links i y (newest_one same e) =
        subst (λ (z : Item). Reach z.session.0 (items ++ x ∷ []) (z.own_before - first) i) e
        (subst (λ (n : ℕ). Reach x.session.0 (items ++ x ∷ []) (n - first) i) (sym before)
        (reach-longer x.session.0 items x (get_or newest x.session.0 0 - first) i (omega arith) (subst (Reach x.session.0 items (get_or newest x.session.0 0 - first)) (sym same) (opens.heads x.session.0))))

    levels : (i k : ℕ) (y z : Item) → k ≤ i → is_open_item y.session.0 z ≡ true → Place items x i y → Place items x k z → z.level ≤ y.highest
    levels i k y z le opened (older lt at) (older lt2 at2) = opens.levels i k y z at le at2 opened
    levels i k y z le opened (older lt at) (newest_one same e) = absurd (omega arith)
    levels i k y z le opened (newest_one same e) (older lt2 at2) =
        let low : z.level ≤ x.highest = new-below first items newest x opens before highest k z at2 (ap (λ (w : Item). is_open_item w.session.0 z) e ∙ opened) in
        omega (arith, low, ap (λ (w : Item). w.highest) e)
    levels i k y z le opened (newest_one same e) (newest_one same2 e2) = omega (arith, level, ap (λ (w : Item). w.highest) e, ap (λ (w : Item). w.level) e2)
