-- A walk along a chain passes over no change that has the hash.
use Rattle.std.proofs.Common.{◌≡◌, ℕ, zero, suc, ◌+◌, ◌-◌, ◌<◌, ◌≤◌, ◌==◌, Bool, true, false, ◌||◌, List, [], ◌∷◌, ◌++◌, Option, Some, None, map, length, get_or, take, refl, sym, ap, ◌∙◌, arith}
use Rattle.std.specs.Prelude.{find, if◌then◌else◌, is_some, IfSome}
use Rattle.std.specs.List.{list_any}
use Rattle.std.specs.Bool.{then_some}
use Rattle.std.specs.Option.{option_or}
use Rattle.std.proofs.lemmas.Bool.{eqb-false, eqb-true}
use Rattle.std.proofs.lemmas.List.{get_or-take, length-map, length-take-le, take-map, take_more}
use Rattle.std.proofs.lemmas.List.Folds.{find-append, list_any-append}
use Rattle.std.proofs.lemmas.Option.{slice_get-get_or}
use Rattle.version_store.specs.Answers.{change_at}
use Rattle.version_store.specs.Chained.{Walk, one_later, latest}
use Rattle.version_store.specs.HeldChanges.{HeldChange, later_place, last_place}
use Rattle.version_store.proofs.ChainLemmas.{latest-bound}
use Rattle.version_store.proofs.HeldLemmas.{held_hash}

latest-on : (hash : ℕ) (xs : List ℕ) → 0 < latest hash xs → get_or xs (latest hash xs - 1) 0 ≡ hash
latest-on hash [] some = absurd (omega arith)
latest-on hash (x ∷ xs) some = on (latest-on hash xs) (latest hash xs) refl some
  where
    on_first : (b : Bool) → (x == hash) ≡ b → 0 < one_later b 0 → get_or (x ∷ xs) (one_later b 0 - 1) 0 ≡ hash
    on_first true e h = eqb-true x hash e
    on_first false e h = absurd (omega arith)

    on : (0 < latest hash xs → get_or xs (latest hash xs - 1) 0 ≡ hash) → (n : ℕ) → latest hash xs ≡ n → 0 < one_later (x == hash) n → get_or (x ∷ xs) (one_later (x == hash) n - 1) 0 ≡ hash
    on rest zero e h = on_first (x == hash) refl h
    on rest (suc n) e h =
        ap (λ (k : ℕ). get_or (x ∷ xs) k 0) (let q : suc (suc n) - 1 ≡ suc n = omega arith in q)
        ∙ ap (λ (k : ℕ). get_or xs k 0) (let q : n ≡ latest hash xs - 1 = omega arith in q) ∙ rest (omega arith)

pub walk-start : (hash : ℕ) (hashes : List ℕ) → Walk hash hashes (latest hash hashes)
walk-start hash hashes = record { within = latest-bound hash hashes; at_last = latest-on hash hashes }

pub walk-step : (hash : ℕ) (hashes : List ℕ) (end next : ℕ) → Walk hash hashes end → 0 < end → next ≡ latest (get_or hashes (end - 1) 0) (take (end - 1) hashes) → Walk hash hashes next
walk-step hash hashes end next walk some is =
    let before : List ℕ = take (end - 1) hashes in
    let is_hash : next ≡ latest hash before = is ∙ ap (λ (k : ℕ). latest k before) (walk.at_last some) in
    let bound : next ≤ end - 1 = omega (arith, is_hash, latest-bound hash before, length-take-le (end - 1) hashes (omega (arith, walk.within))) in
    record {
      within = omega (arith, bound, walk.within);
      at_last = λ (h : 0 < next).
          sym (get_or-take (end - 1) hashes (next - 1) 0 (omega arith)) ∙ ap (λ (k : ℕ). get_or before (k - 1) 0) is_hash ∙ latest-on hash before (omega (arith, is_hash, h));
    }

pub walk-falls : (hash : ℕ) (hashes : List ℕ) (end next : ℕ) → Walk hash hashes end → 0 < end → next ≡ latest (get_or hashes (end - 1) 0) (take (end - 1) hashes) → next < end
walk-falls hash hashes end next walk some is =
    omega (arith, is, latest-bound (get_or hashes (end - 1) 0) (take (end - 1) hashes), length-take-le (end - 1) hashes (omega (arith, walk.within)))

-- ---- what passes a test that only changes of the hash pass

abbrev pub HasHash : (HeldChange → Bool) → ℕ → Type 0
HasHash test hash = (held : HeldChange) → test held ≡ true → held_hash held ≡ hash

pub off : (test : HeldChange → Bool) (hash : ℕ) (held : HeldChange) → HasHash test hash → (held_hash held == hash) ≡ false → test held ≡ false
off test hash held only e = not_here (test held) refl
  where
    not_here : (b : Bool) → test held ≡ b → b ≡ false
    not_here true t = absurd (eqb-false (held_hash held) hash e (only held t))
    not_here false t = refl

any-latest : (test : HeldChange → Bool) (hash : ℕ) (changes : List HeldChange) → HasHash test hash → list_any test (take (latest hash (map held_hash changes)) changes) ≡ list_any test changes
any-latest test hash [] only = refl
any-latest test hash (h ∷ changes) only = at (any-latest test hash changes only) (latest hash (map held_hash changes)) refl
  where
    first : (b : Bool) → (held_hash h == hash) ≡ b → list_any test changes ≡ false → list_any test (take (one_later b 0) (h ∷ changes)) ≡ (test h || list_any test changes)
    first true e none = ap (λ (b : Bool). test h || b) (sym none)
    first false e none = sym (ap (λ (b : Bool). b || list_any test changes) (off test hash h only e) ∙ none)

    at : list_any test (take (latest hash (map held_hash changes)) changes) ≡ list_any test changes → (n : ℕ) → latest hash (map held_hash changes) ≡ n → list_any test (take (one_later (held_hash h == hash) n) (h ∷ changes)) ≡ (test h || list_any test changes)
    at rest zero e = first (held_hash h == hash) refl (sym rest ∙ ap (λ (k : ℕ). list_any test (take k changes)) e)
    at rest (suc n) e = ap (λ (b : Bool). test h || b) (ap (λ (k : ℕ). list_any test (take k changes)) (sym e) ∙ rest)

find-latest : (test : HeldChange → Bool) (hash : ℕ) (changes : List HeldChange) → HasHash test hash → find test (take (latest hash (map held_hash changes)) changes) ≡ find test changes
find-latest test hash [] only = refl
find-latest test hash (h ∷ changes) only = at (find-latest test hash changes only) (latest hash (map held_hash changes)) refl
  where
    first : (b : Bool) → (held_hash h == hash) ≡ b → find test changes ≡ None → find test (take (one_later b 0) (h ∷ changes)) ≡ (if test h then Some h else find test changes)
    first true e none = ap (λ (o : Option HeldChange). if test h then Some h else o) (sym none)
    first false e none = sym (ap (λ (b : Bool). if b then Some h else find test changes) (off test hash h only e) ∙ none)

    at : find test (take (latest hash (map held_hash changes)) changes) ≡ find test changes → (n : ℕ) → latest hash (map held_hash changes) ≡ n → find test (take (one_later (held_hash h == hash) n) (h ∷ changes)) ≡ (if test h then Some h else find test changes)
    at rest zero e = first (held_hash h == hash) refl (sym rest ∙ ap (λ (k : ℕ). find test (take k changes)) e)
    at rest (suc n) e = ap (λ (o : Option HeldChange). if test h then Some h else o) (ap (λ (k : ℕ). find test (take k changes)) (sym e) ∙ rest)

pub take-take : {X : Type 0} (n m : ℕ) (xs : List X) → n ≤ m → take n (take m xs) ≡ take n xs
take-take zero m xs le = refl
take-take (suc n) zero xs le = absurd (omega arith)
take-take (suc n) (suc m) [] le = refl
take-take (suc n) (suc m) (x ∷ xs) le = ap (λ (l : List _). x ∷ l) (take-take n m xs (omega arith))

pub any-start : (test : HeldChange → Bool) (hash : ℕ) (changes : List HeldChange) (hashes : List ℕ) → HasHash test hash → hashes ≡ map held_hash changes → list_any test (take (latest hash hashes) changes) ≡ list_any test changes
any-start test hash changes hashes only are = ap (λ (l : List ℕ). list_any test (take (latest hash l) changes)) are ∙ any-latest test hash changes only

pub find-start : (test : HeldChange → Bool) (hash : ℕ) (changes : List HeldChange) (hashes : List ℕ) → HasHash test hash → hashes ≡ map held_hash changes → find test (take (latest hash hashes) changes) ≡ find test changes
find-start test hash changes hashes only are = ap (λ (l : List ℕ). find test (take (latest hash l) changes)) are ∙ find-latest test hash changes only

-- the front of a walk's next place is a front of the changes before the one just passed
record Front (hash : ℕ) (changes : List HeldChange) (end next : ℕ) : Type 0 where
  within : end - 1 < length changes
  front : take next changes ≡ take (latest hash (map held_hash (take (end - 1) changes))) (take (end - 1) changes)

front-at : (hash : ℕ) (changes : List HeldChange) (hashes : List ℕ) (end next : ℕ) → hashes ≡ map held_hash changes → Walk hash hashes end → 0 < end → next ≡ latest (get_or hashes (end - 1) 0) (take (end - 1) hashes) → Front hash changes end next
front-at hash changes hashes end next are walk some is =
    let cut : take (end - 1) hashes ≡ map held_hash (take (end - 1) changes) = ap (take (end - 1)) are ∙ take-map held_hash (end - 1) changes in
    let next_is : next ≡ latest hash (map held_hash (take (end - 1) changes)) = is ∙ ap (λ (k : ℕ). latest k (take (end - 1) hashes)) (walk.at_last some) ∙ ap (latest hash) cut in
    let len : length hashes ≡ length changes = ap length are ∙ length-map changes held_hash in
    let below : next ≤ end - 1 = omega (arith, walk-falls hash hashes end next walk some is) in
    record {
      within = omega (arith, walk.within);
      front = sym (take-take next (end - 1) changes below) ∙ ap (λ (k : ℕ). take k (take (end - 1) changes)) next_is;
    }

take_last : (changes : List HeldChange) (end : ℕ) (d : HeldChange) → 0 < end → end - 1 < length changes → take end changes ≡ take (end - 1) changes ++ get_or changes (end - 1) d ∷ []
take_last changes end d some within = ap (λ (k : ℕ). take k changes) (let e : end ≡ end - 1 + 1 = omega arith in e) ∙ take_more changes (end - 1) d within

any_last : (a b c : Bool) → c ≡ (a || (b || false)) → b ≡ false → a ≡ c
any_last true b c e f = sym e
any_last false true c e f = absurd (never f)
  where
    never : true ≡ false → ⊥
    never h = cc
any_last false false c e f = sym e

pub any-step : (test : HeldChange → Bool) (hash : ℕ) (changes : List HeldChange) (hashes : List ℕ) (end next : ℕ) (d : HeldChange) → HasHash test hash → hashes ≡ map held_hash changes → Walk hash hashes end → 0 < end → next ≡ latest (get_or hashes (end - 1) 0) (take (end - 1) hashes) → test (get_or changes (end - 1) d) ≡ false → list_any test (take next changes) ≡ list_any test (take end changes)
any-step test hash changes hashes end next d only are walk some is fails =
    let f = front-at hash changes hashes end next are walk some is in
    ap (list_any test) f.front ∙ any-latest test hash (take (end - 1) changes) only
    ∙ any_last (list_any test (take (end - 1) changes)) (test (get_or changes (end - 1) d)) (list_any test (take end changes))
    (ap (list_any test) (take_last changes end d some f.within) ∙ list_any-append test (take (end - 1) changes) (get_or changes (end - 1) d ∷ [])) fails

-- the last of the front passes, so some change does
pub any-here : (test : HeldChange → Bool) (changes : List HeldChange) (end : ℕ) (d : HeldChange) → 0 < end → end - 1 < length changes → test (get_or changes (end - 1) d) ≡ true → list_any test (take end changes) ≡ true
any-here test changes end d some within passes =
    ap (list_any test) (take_last changes end d some within) ∙ list_any-append test (take (end - 1) changes) (get_or changes (end - 1) d ∷ [])
    ∙ or_last (list_any test (take (end - 1) changes)) (test (get_or changes (end - 1) d)) passes
  where
    or_last : (a b : Bool) → b ≡ true → (a || (b || false)) ≡ true
    or_last true b e = refl
    or_last false true e = refl
    or_last false false e = e

pub or-none : (a : Option HeldChange) → option_or a None ≡ a
or-none (Some x) = refl
or-none None = refl

or-assoc : (a b c : Option HeldChange) → option_or (option_or a b) c ≡ option_or a (option_or b c)
or-assoc (Some x) b c = refl
or-assoc None b c = refl

pub find-step : (test : HeldChange → Bool) (hash : ℕ) (changes : List HeldChange) (hashes : List ℕ) (end next : ℕ) (d : HeldChange) (found : Option HeldChange) → HasHash test hash → hashes ≡ map held_hash changes → Walk hash hashes end → 0 < end → next ≡ latest (get_or hashes (end - 1) 0) (take (end - 1) hashes)
    → option_or (find test (take next changes)) (option_or (if test (get_or changes (end - 1) d) then Some (get_or changes (end - 1) d) else None) found) ≡ option_or (find test (take end changes)) found
find-step test hash changes hashes end next d found only are walk some is =
    let f = front-at hash changes hashes end next are walk some is in
    let h : HeldChange = get_or changes (end - 1) d in
    ap (λ (o : Option HeldChange). option_or o (option_or (if test h then Some h else None) found)) (ap (find test) f.front ∙ find-latest test hash (take (end - 1) changes) only)
    ∙ sym (or-assoc (find test (take (end - 1) changes)) (if test h then Some h else None) found)
    ∙ ap (λ (o : Option HeldChange). option_or o found) (sym (ap (find test) (take_last changes end d some f.within) ∙ find-append test (take (end - 1) changes) (h ∷ [])))

-- ---- what a change makes of what stands for those behind it, where a change of another hash leaves that

-- the changes of a list, oldest first, from the newest back
abbrev pub from_the_newest : {X : Type 0} → (HeldChange → X → X) → X → List HeldChange → X
from_the_newest step after [] = after
from_the_newest step after (held ∷ changes) = step held (from_the_newest step after changes)

abbrev pub LeavesOthers : {X : Type 0} → (HeldChange → X → X) → ℕ → Type 0
LeavesOthers {X} step hash = (held : HeldChange) (after : X) → (held_hash held == hash) ≡ false → step held after ≡ after

newest-append : {X : Type 0} (step : HeldChange → X → X) (after : X) (changes : List HeldChange) (last : HeldChange) → from_the_newest step after (changes ++ last ∷ []) ≡ from_the_newest step (step last after) changes
newest-append step after [] last = refl
newest-append step after (h ∷ changes) last = ap (step h) (newest-append step after changes last)

newest-latest : {X : Type 0} (step : HeldChange → X → X) (hash : ℕ) (changes : List HeldChange) (after : X) → LeavesOthers step hash → from_the_newest step after (take (latest hash (map held_hash changes)) changes) ≡ from_the_newest step after changes
newest-latest step hash [] after leaves = refl
newest-latest {X} step hash (h ∷ changes) after leaves = at (newest-latest step hash changes after leaves) (latest hash (map held_hash changes)) refl
  where
    first : (b : Bool) → (held_hash h == hash) ≡ b → after ≡ from_the_newest step after changes → from_the_newest step after (take (one_later b 0) (h ∷ changes)) ≡ step h (from_the_newest step after changes)
    first true e none = ap (step h) none
    first false e none = none ∙ sym (leaves h (from_the_newest step after changes) e)

    at : from_the_newest step after (take (latest hash (map held_hash changes)) changes) ≡ from_the_newest step after changes → (n : ℕ) → latest hash (map held_hash changes) ≡ n → from_the_newest step after (take (one_later (held_hash h == hash) n) (h ∷ changes)) ≡ step h (from_the_newest step after changes)
    at rest zero e = first (held_hash h == hash) refl (sym (ap (λ (k : ℕ). from_the_newest step after (take k changes)) e) ∙ rest)
    at rest (suc n) e = ap (step h) (ap (λ (k : ℕ). from_the_newest step after (take k changes)) (sym e) ∙ rest)

pub newest-start : {X : Type 0} (step : HeldChange → X → X) (hash : ℕ) (changes : List HeldChange) (hashes : List ℕ) (after : X) → LeavesOthers step hash → hashes ≡ map held_hash changes → from_the_newest step after (take (latest hash hashes) changes) ≡ from_the_newest step after changes
newest-start step hash changes hashes after leaves are = ap (λ (l : List ℕ). from_the_newest step after (take (latest hash l) changes)) are ∙ newest-latest step hash changes after leaves

pub newest-step : {X : Type 0} (step : HeldChange → X → X) (hash : ℕ) (changes : List HeldChange) (hashes : List ℕ) (end next : ℕ) (d : HeldChange) (after : X) → LeavesOthers step hash → hashes ≡ map held_hash changes → Walk hash hashes end → 0 < end → next ≡ latest (get_or hashes (end - 1) 0) (take (end - 1) hashes)
    → from_the_newest step (step (get_or changes (end - 1) d) after) (take next changes) ≡ from_the_newest step after (take end changes)
newest-step step hash changes hashes end next d after leaves are walk some is =
    let f = front-at hash changes hashes end next are walk some is in
    let h : HeldChange = get_or changes (end - 1) d in
    ap (from_the_newest step (step h after)) f.front ∙ newest-latest step hash (take (end - 1) changes) (step h after) leaves
    ∙ sym (ap (from_the_newest step after) (take_last changes end d some f.within) ∙ newest-append step after (take (end - 1) changes) h)

-- the place of the item just passed, where it passes the test, and else the one that was found
pub later-at : (changes : List HeldChange) (place : ℕ) (d : HeldChange) (b : Bool) (o : Option ℕ) → place < length changes → change_at changes (option_or (if b then Some place else None) o) ≡ option_or (if b then Some (get_or changes place d) else None) (change_at changes o)
later-at changes place d true o within = slice_get-get_or changes place d within
later-at changes place d false o within = refl

pub then_some-if : (b : Bool) (place : ℕ) → then_some b place ≡ (if b then Some place else None)
then_some-if true place = refl
then_some-if false place = refl

pub later-within : (n place : ℕ) (b : Bool) (o : Option ℕ) → place < n → IfSome o (λ k. k < n) → IfSome (option_or (if b then Some place else None) o) (λ k. k < n)
later-within n place true o within is = within
later-within n place false o within is = is

-- ---- the last place

later-push : (a b : Bool) (o : Option ℕ) (n : ℕ) → later_place a (if b then Some n else o) ≡ (if b then Some (suc n) else later_place a o)
later-push a true o n = refl
later-push a false o n = refl

last_place-push : (test : HeldChange → Bool) (changes : List HeldChange) (h : HeldChange) → last_place test (changes ++ h ∷ []) ≡ (if test h then Some (length changes) else last_place test changes)
last_place-push test [] h = refl
last_place-push test (x ∷ changes) h = ap (later_place (test x)) (last_place-push test changes h) ∙ later-push (test x) (test h) (last_place test changes) (length changes)

pub last_place-step : (test : HeldChange → Bool) (changes : List HeldChange) (end : ℕ) (d : HeldChange) → 0 < end → end ≤ length changes → last_place test (take end changes) ≡ (if test (get_or changes (end - 1) d) then Some (end - 1) else last_place test (take (end - 1) changes))
last_place-step test changes end d some within =
    ap (last_place test) (take_last changes end d some (omega arith)) ∙ last_place-push test (take (end - 1) changes) (get_or changes (end - 1) d)
    ∙ ap (λ (n : ℕ). if test (get_or changes (end - 1) d) then Some n else last_place test (take (end - 1) changes)) (length-take-le (end - 1) changes (omega arith))

-- ---- the last place before a walk's end

last-latest : (test : HeldChange → Bool) (hash : ℕ) (changes : List HeldChange) → HasHash test hash → last_place test (take (latest hash (map held_hash changes)) changes) ≡ last_place test changes
last-latest test hash [] only = refl
last-latest test hash (h ∷ changes) only = at (last-latest test hash changes only) (latest hash (map held_hash changes)) refl
  where
    first : (b : Bool) → (held_hash h == hash) ≡ b → last_place test changes ≡ None → last_place test (take (one_later b 0) (h ∷ changes)) ≡ later_place (test h) (last_place test changes)
    first true e none = ap (later_place (test h)) (sym none)
    first false e none = sym (ap (λ (b : Bool). later_place b (last_place test changes)) (off test hash h only e) ∙ ap (later_place false) none)

    at : last_place test (take (latest hash (map held_hash changes)) changes) ≡ last_place test changes → (n : ℕ) → latest hash (map held_hash changes) ≡ n → last_place test (take (one_later (held_hash h == hash) n) (h ∷ changes)) ≡ later_place (test h) (last_place test changes)
    at rest zero e = first (held_hash h == hash) refl (sym rest ∙ ap (λ (k : ℕ). last_place test (take k changes)) e)
    at rest (suc n) e = ap (later_place (test h)) (ap (λ (k : ℕ). last_place test (take k changes)) (sym e) ∙ rest)

pub last-start : (test : HeldChange → Bool) (hash : ℕ) (changes : List HeldChange) (hashes : List ℕ) → HasHash test hash → hashes ≡ map held_hash changes → last_place test (take (latest hash hashes) changes) ≡ last_place test changes
last-start test hash changes hashes only are = ap (λ (l : List ℕ). last_place test (take (latest hash l) changes)) are ∙ last-latest test hash changes only

-- from an item of the hash to the one before it
pub last-before : (test : HeldChange → Bool) (hash : ℕ) (changes : List HeldChange) (hashes : List ℕ) (end next : ℕ) → HasHash test hash → hashes ≡ map held_hash changes → Walk hash hashes end → 0 < end → next ≡ latest (get_or hashes (end - 1) 0) (take (end - 1) hashes) → last_place test (take next changes) ≡ last_place test (take (end - 1) changes)
last-before test hash changes hashes end next only are walk some is =
    let f = front-at hash changes hashes end next are walk some is in
    ap (last_place test) f.front ∙ last-latest test hash (take (end - 1) changes) only

pub last-step : (test : HeldChange → Bool) (hash : ℕ) (changes : List HeldChange) (hashes : List ℕ) (end next : ℕ) (d : HeldChange) → HasHash test hash → hashes ≡ map held_hash changes → Walk hash hashes end → 0 < end → next ≡ latest (get_or hashes (end - 1) 0) (take (end - 1) hashes) → test (get_or changes (end - 1) d) ≡ false → last_place test (take next changes) ≡ last_place test (take end changes)
last-step test hash changes hashes end next d only are walk some is fails =
    let f = front-at hash changes hashes end next are walk some is in
    last-before test hash changes hashes end next only are walk some is
    ∙ sym (last_place-step test changes end d some (omega (arith, f.within)) ∙ ap (λ (b : Bool). if b then Some (end - 1) else last_place test (take (end - 1) changes)) fails)

pub last-here : (test : HeldChange → Bool) (changes : List HeldChange) (end : ℕ) (d : HeldChange) → 0 < end → end ≤ length changes → test (get_or changes (end - 1) d) ≡ true → last_place test (take end changes) ≡ Some (end - 1)
last-here test changes end d some within passes = last_place-step test changes end d some within ∙ ap (λ (b : Bool). if b then Some (end - 1) else last_place test (take (end - 1) changes)) passes

-- a place stands where some change passes
pub last-any : (test : HeldChange → Bool) (changes : List HeldChange) → is_some (last_place test changes) ≡ list_any test changes
last-any test [] = refl
last-any test (h ∷ changes) = at (test h) (last_place test changes) ∙ ap (λ (b : Bool). test h || b) (last-any test changes)
  where
    at : (b : Bool) (o : Option ℕ) → is_some (later_place b o) ≡ (b || is_some o)
    at true None = refl
    at true (Some n) = refl
    at false None = refl
    at false (Some n) = refl

pub place-below : (o : Option ℕ) (n m : ℕ) → n ≤ m → IfSome o (λ place. place < n) → IfSome o (λ place. place < m)
place-below None n m le is = tt
place-below (Some place) n m le is = omega (arith, le, is)
