-- A session whose open changes are undone level by level, the innermost first.
use Rattle.std.proofs.Common.{◌≡◌, ℕ, ◌-◌, ◌<◌, ◌≤◌, Bool, true, false, ◌&&◌, ◌||◌, List, [], ◌∷◌, refl, sym, ap, ◌∙◌, arith}
use Rattle.std.specs.Prelude.{◌==◌, nat_lt}
use Rattle.std.specs.List.{AllByRecursion, list_any}
use Rattle.std.proofs.lemmas.Bool.Decides.{nat_tests}
use Rattle.std.proofs.lemmas.Bool.{false_from_ne_true}
use Rattle.common_lemmas.proofs.Booleans.{and_left, and_right}
use Rattle.common_lemmas.proofs.Lists.{all_weaker}
use Rattle.laws_versions.specs.History.{EachTwo}
use Rattle.laws_versions.proofs.HistoryLemmas.Lists.{each_weaker}
use Rattle.laws_engine.specs.HeldRecords.{HeldRecord, is_open_at, is_open_of}
use Rattle.laws_engine.specs.VersionedTables.{VersionedTables, with_changes_undone}
use Rattle.laws_engine.proofs.TableLemmas.OneByOne.{none_undone}
use Rattle.table_versions.proofs.UndoneInTurns.{Agree, GoesFirst, undone_alike, undone_in_turns}

-- the open changes of the session above a level
abbrev pub is_open_above : ℕ → ℕ → HeldRecord → Bool
is_open_above session level held = is_open_of session held && nat_lt level held.level

abbrev pub LevelsRise : ℕ → HeldRecord → HeldRecord → Type 0
LevelsRise session earlier later = is_open_of session earlier ≡ true → is_open_of session later ≡ true → earlier.level ≤ later.level

abbrev pub HasLevel : ℕ → HeldRecord → Type 0
HasLevel session held = is_open_of session held ≡ true → (1 ≤ held.level) × (held.level ≤ 7)

-- ---- numbers

not_below : (level a b : ℕ) → a ≤ b → nat_lt level a ≡ true → (b == level) ≡ true → ⊥
not_below level a b le above at = grind (arith, nat_tests)

not_over : (n : ℕ) → n ≤ 7 → nat_lt 7 n ≡ true → ⊥
not_over n le above = grind (arith, nat_tests)

positive : (n : ℕ) → 1 ≤ n → nat_lt 0 n ≡ true
positive n le = grind (arith, nat_tests)

still_above : (level n : ℕ) → 0 < level → nat_lt level n ≡ true → nat_lt (level - 1) n ≡ true
still_above level n some above = grind (arith, nat_tests)

now_above : (level n : ℕ) → 0 < level → (n == level) ≡ true → nat_lt (level - 1) n ≡ true
now_above level n some at = grind (arith, nat_tests)

still_below : (level n : ℕ) → 0 < level → nat_lt level n ≡ false → (n == level) ≡ false → nat_lt (level - 1) n ≡ false
still_below level n some above at = grind (arith, nat_tests)

one_more : (level n : ℕ) → 0 < level → (nat_lt level n || (n == level)) ≡ nat_lt (level - 1) n
one_more level n some = by (nat_lt level n) (n == level) refl refl
  where
    by : (a b : Bool) → nat_lt level n ≡ a → (n == level) ≡ b → (a || b) ≡ nat_lt (level - 1) n
    by true b e f = sym (still_above level n some e)
    by false true e f = sym (now_above level n some f)
    by false false e f = sym (still_below level n some e f)

-- ---- one level

goes_first : (session level : ℕ) (earlier later : HeldRecord) → LevelsRise session earlier later → GoesFirst (is_open_above session level) (is_open_at session level) earlier later
goes_first session level earlier later rise above =
    false_from_ne_true (is_open_at session level later)
    (λ at. not_below level earlier.level later.level (rise (and_left (is_open_of session earlier) (nat_lt level earlier.level) above) (and_left (is_open_of session later) (later.level == level) at))
    (and_right (is_open_of session earlier) (nat_lt level earlier.level) above) (and_right (is_open_of session later) (later.level == level) at))

above_or_at : (session level : ℕ) → 0 < level → (h : HeldRecord) → (is_open_above session level h || is_open_at session level h) ≡ is_open_above session (level - 1) h
above_or_at session level some h = by (is_open_of session h)
  where
    by : (b : Bool) → ((b && nat_lt level h.level) || (b && (h.level == level))) ≡ (b && nat_lt (level - 1) h.level)
    by true = one_more level h.level some
    by false = refl

pub level_undone : (session level : ℕ) (store : VersionedTables) → EachTwo (LevelsRise session) store.held → 0 < level
    → with_changes_undone (is_open_at session level) (with_changes_undone (is_open_above session level) store) ≡ with_changes_undone (is_open_above session (level - 1)) store
level_undone session level store rise some =
    undone_in_turns (is_open_above session level) (is_open_at session level) store (λ h. refl)
    (each_weaker (LevelsRise session) (GoesFirst (is_open_above session level) (is_open_at session level)) (goes_first session level) store.held rise)
    ∙ ap (λ (test : HeldRecord → Bool). with_changes_undone test store) (λ i h. above_or_at session level some h i)

-- ---- the first and the last

none_above : (session : ℕ) (held : List HeldRecord) → AllByRecursion (HasLevel session) held → list_any (is_open_above session 7) held ≡ false
none_above session [] levels = refl
none_above session (h ∷ held) levels =
    ap (λ (b : Bool). b || list_any (is_open_above session 7) held)
    (false_from_ne_true (is_open_above session 7 h) (λ above. not_over h.level (levels.0 (and_left (is_open_of session h) (nat_lt 7 h.level) above)).1 (and_right (is_open_of session h) (nat_lt 7 h.level) above)))
    ∙ none_above session held levels.1

pub none_undone_above : (session : ℕ) (store : VersionedTables) → AllByRecursion (HasLevel session) store.held → with_changes_undone (is_open_above session 7) store ≡ store
none_undone_above session store levels = none_undone (is_open_above session 7) store (none_above session store.held levels)

above_all : (session : ℕ) (h : HeldRecord) → HasLevel session h → is_open_above session 0 h ≡ is_open_of session h
above_all session h level = by (is_open_of session h) refl
  where
    by : (b : Bool) → is_open_of session h ≡ b → (b && nat_lt 0 h.level) ≡ b
    by true e = positive h.level (level e).0
    by false e = refl

pub all_undone_above : (session : ℕ) (store : VersionedTables) → AllByRecursion (HasLevel session) store.held → with_changes_undone (is_open_above session 0) store ≡ with_changes_undone (is_open_of session) store
all_undone_above session store levels =
    undone_alike (is_open_above session 0) (is_open_of session) store
    (all_weaker (HasLevel session) (Agree (is_open_above session 0) (is_open_of session)) (above_all session) store.held levels)
