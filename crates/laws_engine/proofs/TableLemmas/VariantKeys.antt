-- The keys of all variants of a record after a change, an undo of one change, and a clean.
use Rattle.std.proofs.Common.{◌≡◌, ℕ, Bool, true, false, ◌&&◌, ◌||◌, List, [], ◌∷◌, ◌++◌, Option, None, refl, sym, ap, ◌∙◌}
use Rattle.std.specs.List.{list_any}
use Rattle.std.proofs.lemmas.List.Folds.{list_any-append}
use Rattle.column_set.specs.RecordValues.{RecordFields}
use Rattle.version_store.specs.HeldChanges.{is_rewrite}
use Rattle.laws_engine.specs.HeldRecords.{HeldRecord, as_undone, is_change_at, is_standing_rewrite}

-- a test of the records before, for keys and for whether there is one
abbrev pub TestOf : Type 0
TestOf = Option RecordFields → Bool

abbrev pub some_variant : TestOf → Option RecordFields → List HeldRecord → ℕ → List ℕ → Bool
some_variant test newest held table bookmark = test newest || list_any (λ change. is_standing_rewrite table bookmark change && test change.before) held

-- ---- a change more: the record that it leaves is one more variant

pub after_change : (test : TestOf) (newest after : Option RecordFields) (held : List HeldRecord) (new : HeldRecord) (table : ℕ) (bookmark : List ℕ) → is_standing_rewrite table bookmark new ≡ true → new.before ≡ newest
    → some_variant test after (held ++ new ∷ []) table bookmark ≡ (some_variant test newest held table bookmark || test after)
after_change test newest after held new table bookmark stands before =
    ap (λ b. test after || b) (list_any-append (λ change. is_standing_rewrite table bookmark change && test change.before) held (new ∷ []))
    ∙ ap (λ b. test after || (list_any (λ change. is_standing_rewrite table bookmark change && test change.before) held || ((b && test new.before) || false))) stands
    ∙ ap (λ r. test after || (list_any (λ change. is_standing_rewrite table bookmark change && test change.before) held || (test r || false))) before
    ∙ shuffled (test after) (list_any (λ change. is_standing_rewrite table bookmark change && test change.before) held) (test newest)
  where
    shuffled : (a b c : Bool) → (a || (b || (c || false))) ≡ ((c || b) || a)
    shuffled true true true = refl
    shuffled true true false = refl
    shuffled true false true = refl
    shuffled true false false = refl
    shuffled false true true = refl
    shuffled false true false = refl
    shuffled false false true = refl
    shuffled false false false = refl

-- a change of another record, a lock and a sum leave the variants of a record
pub after_other : (test : TestOf) (newest : Option RecordFields) (held : List HeldRecord) (new : HeldRecord) (table : ℕ) (bookmark : List ℕ) → is_standing_rewrite table bookmark new ≡ false
    → some_variant test newest (held ++ new ∷ []) table bookmark ≡ some_variant test newest held table bookmark
after_other test newest held new table bookmark other =
    ap (λ b. test newest || b) (list_any-append (λ change. is_standing_rewrite table bookmark change && test change.before) held (new ∷ []))
    ∙ ap (λ b. test newest || (list_any (λ change. is_standing_rewrite table bookmark change && test change.before) held || ((b && test new.before) || false))) other
    ∙ ap (λ b. test newest || b) (plain (list_any (λ change. is_standing_rewrite table bookmark change && test change.before) held))
  where
    plain : (b : Bool) → (b || false) ≡ b
    plain true = refl
    plain false = refl

-- ---- one change undone: the record that it left is no variant any more, and the one before it is the newest

pub before_undo : (test : TestOf) (newest : Option RecordFields) (front : List HeldRecord) (gone : HeldRecord) (rest : List HeldRecord) (table : ℕ) (bookmark : List ℕ) → is_standing_rewrite table bookmark gone ≡ true
    → some_variant test newest (front ++ gone ∷ rest) table bookmark ≡ (some_variant test gone.before (front ++ as_undone gone ∷ rest) table bookmark || test newest)
before_undo test newest front gone rest table bookmark standing =
    ap (λ b. test newest || b) (list_any-append passes front (gone ∷ rest) ∙ ap (λ b. list_any passes front || ((b && test gone.before) || list_any passes rest)) standing)
    ∙ moved (test newest) (list_any passes front) (test gone.before) (list_any passes rest)
    ∙ ap (λ b. b || test newest)
    (sym (ap (λ b. test gone.before || b)
    (list_any-append passes front (as_undone gone ∷ rest) ∙ ap (λ b. list_any passes front || ((b && test None) || list_any passes rest)) (never (is_change_at table bookmark gone && is_rewrite gone.kind)))))
  where
    passes : HeldRecord → Bool
    passes change = is_standing_rewrite table bookmark change && test change.before

    never : (b : Bool) → (b && false) ≡ false
    never true = refl
    never false = refl

    moved : (a b c d : Bool) → (a || (b || (c || d))) ≡ ((c || (b || d)) || a)
    moved true true true d = refl
    moved true true false d = refl
    moved true false true d = refl
    moved true false false true = refl
    moved true false false false = refl
    moved false true true d = refl
    moved false true false d = refl
    moved false false true d = refl
    moved false false false true = refl
    moved false false false false = refl

-- ---- the oldest forgotten: the record before it is no variant any more

pub before_clean : (test : TestOf) (newest : Option RecordFields) (oldest : HeldRecord) (held : List HeldRecord) (table : ℕ) (bookmark : List ℕ)
    → some_variant test newest (oldest ∷ held) table bookmark ≡ (some_variant test newest held table bookmark || (is_standing_rewrite table bookmark oldest && test oldest.before))
before_clean test newest oldest held table bookmark =
    turned (test newest) (is_standing_rewrite table bookmark oldest && test oldest.before) (list_any (λ change. is_standing_rewrite table bookmark change && test change.before) held)
  where
    turned : (a b c : Bool) → (a || (b || c)) ≡ ((a || c) || b)
    turned true b c = refl
    turned false true true = refl
    turned false true false = refl
    turned false false true = refl
    turned false false false = refl
