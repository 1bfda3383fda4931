-- The log of a store by its numbers, once bytes are given and once a checkpoint is written.
use Rattle.std.proofs.Common.{◌≡◌, ◌≤◌, ◌<◌, ◌+◌, ◌-◌, ◌^◌, ℕ, Bool, true, false, ◌||◌, sym, ◌∙◌, ap, subst, arith, if◌then◌else◌}
use Rattle.std.specs.Prelude.{nat_le, nat_lt}
use Rattle.std.proofs.lemmas.Bool.Decides.{nat_tests}
use Rattle.jet_volume.specs.declared.files.LogStart.{LogStart}
use Rattle.checkpoint.specs.declared.image.Standing.{Standing}
use Rattle.store_core.specs.declared.store.Store.{Store}
use Rattle.store_core.specs.Store.{store_end, store_standing}
use Rattle.log_keeper.specs.Keeping.{TakesBytes, given_to}
use Rattle.kept_engine.specs.Spans.{LogSpan, given_behind, is_due, is_due_after, span_after, span_of, with_checkpoint, with_due, with_given}
use Rattle.kept_engine.specs.Keeping.{IsWithinBounds}

le_true : (a b : ℕ) → a ≤ b → nat_le a b ≡ true
le_true a b h = grind (arith, nat_tests)

le_false : (a b : ℕ) → b < a → nat_le a b ≡ false
le_false a b h = grind (arith, nat_tests)

lt_true : (a b : ℕ) → a < b → nat_lt a b ≡ true
lt_true a b h = grind (arith, nat_tests)

-- ---- when a checkpoint is due

pub due_at_depth : (depth : ℕ) (span : LogSpan) (behind : ℕ) → behind + span.start.position ≡ span.end.position → depth ≤ behind → is_due depth span 0 ≡ true
due_at_depth depth span behind is deep = le_true (span.start.position + depth) span.end.position (omega (arith, is, deep))

pub not_due_above : (depth : ℕ) (span : LogSpan) (behind : ℕ) → behind + span.start.position ≡ span.end.position → behind < depth → is_due depth span 0 ≡ false
not_due_above depth span behind is shallow = le_false (span.start.position + depth) span.end.position (omega (arith, is, shallow))

pub due_without_room : (depth : ℕ) (span : LogSpan) (left : ℕ) → 1 ≤ left → is_due depth span left ≡ true
due_without_room depth span left some = ap (λ (b : Bool). b || nat_le (span.start.position + depth) span.end.position) (lt_true 0 left some)

-- the span where one is due, and where none is
pub with_due_one : (depth : ℕ) (span : LogSpan) (left : ℕ) → is_due depth span left ≡ true → with_checkpoint span ≡ with_due depth span left
with_due_one depth span left due = ap (λ (b : Bool). if b then with_checkpoint span else span) (sym due)

pub with_due_none : (depth : ℕ) (span : LogSpan) (left : ℕ) → is_due depth span left ≡ false → span ≡ with_due depth span left
with_due_none depth span left due = ap (λ (b : Bool). if b then with_checkpoint span else span) (sym due)

-- ---- once bytes are given

abbrev span_with : Standing → LogStart → LogSpan
span_with standing end = record { number = standing.number; start = standing.start; end = end }

pub given_span : {V : Type 0} (old new : Store V) (count : ℕ) → store_standing new ≡ store_standing old → store_end new ≡ (given_to old count).end → span_of new ≡ with_given (span_of old) count
given_span {V} old new count standing end = ap (λ (s : Standing). span_with s (store_end new)) standing ∙ ap (λ (e : LogStart). span_with (store_standing old) e) end

-- a log that was made ready
pub sealed_span : {V : Type 0} (old new : Store V) → store_standing new ≡ store_standing old → store_end new ≡ store_end old → span_of new ≡ span_of old
sealed_span {V} old new standing end = ap (λ (s : Standing). span_with s (store_end new)) standing ∙ ap (λ (e : LogStart). span_with (store_standing old) e) end

abbrev span_of_parts : ℕ → LogStart → LogStart → LogSpan
span_of_parts number start end = record { number = number; start = start; end = end }

-- the next checkpoint
pub image_span : {V : Type 0} (old new : Store V) → (store_standing new).number ≡ (store_standing old).number + 1 → (store_standing new).start ≡ store_end old → store_end new ≡ store_end old
    → span_of new ≡ with_checkpoint (span_of old)
image_span {V} old new number start end =
    ap (λ (n : ℕ). span_of_parts n (store_standing new).start (store_end new)) number
    ∙ ap (λ (s : LogStart). span_of_parts ((store_standing old).number + 1) s (store_end new)) start
    ∙ ap (λ (e : LogStart). span_of_parts ((store_standing old).number + 1) (store_end old) e) end

-- all of them: what follows is as after the flush
pub due_all : (depth : ℕ) (old mid : LogSpan) (count : ℕ) → mid ≡ with_given old count → (given_behind old count).left ≡ 0 → is_due depth mid 0 ≡ is_due_after depth old count
due_all depth old mid count is none = ap (λ (s : LogSpan). is_due depth s 0) is ∙ ap (λ (n : ℕ). is_due depth (with_given old count) n) (sym none)

pub span_all : (depth : ℕ) (old mid : LogSpan) (count : ℕ) → mid ≡ with_given old count → (given_behind old count).left ≡ 0 → with_due depth mid 0 ≡ span_after depth old count
span_all depth old mid count is none = ap (λ (s : LogSpan). with_due depth s 0) is ∙ ap (λ (n : ℕ). with_due depth (with_given old count) n) (sym none)

-- not all of them
pub span_some : (depth : ℕ) (old mid : LogSpan) (count : ℕ) → mid ≡ with_given old count → 1 ≤ (given_behind old count).left → with_checkpoint mid ≡ span_after depth old count
span_some depth old mid count is some =
    ap (λ (s : LogSpan). with_checkpoint s) is
    ∙ with_due_one depth (with_given old count) (given_behind old count).left (due_without_room depth (with_given old count) (given_behind old count).left some)

-- ---- bounds

pub bounds_given : {V : Type 0} (old new : Store V) (given more : ℕ) → IsWithinBounds given (span_of old) → store_standing new ≡ store_standing old → given ≤ more
    → (store_end new).position + given ≡ (store_end old).position + more → (store_end new).generation + given ≤ (store_end old).generation + more → IsWithinBounds more (span_of new)
bounds_given {V} old new given more bounds standing rises end generation =
    let start : (store_standing new).start.position ≡ (store_standing old).start.position = ap (λ (s : Standing). s.start.position) standing in
    record {
      standing = subst (λ (s : Standing). 1 ≤ s.number) (sym standing) bounds.standing;
      follows = omega (arith, bounds.follows, start, end, rises);
      number = omega (arith, bounds.number, ap (λ (s : Standing). s.number) standing, start, end, rises);
      generation = omega (arith, bounds.generation, generation, rises);
      position = omega (arith, bounds.position, end, rises);
    }

pub bounds_checkpoint : (to : ℕ) (old new : LogSpan) → old.number < 2 ^ 62 + to → old.end.generation ≤ 2 ^ 62 + 2 ^ 24 + to → old.end.position ≤ 2 ^ 62 + 2 ^ 24 + to → new ≡ with_checkpoint old → IsWithinBounds to new
bounds_checkpoint to old new number generation position is = subst (λ (s : LogSpan). IsWithinBounds to s) (sym is) (record {
  standing = omega arith;
  follows = omega arith;
  number = omega (arith, number);
  generation = generation;
  position = position;
})

-- the log takes the bytes that are left
pub takes_left : {V : Type 0} (store : Store V) (given end : ℕ) → IsWithinBounds given (span_of store) → given ≤ end → end < 2 ^ 61 + 2 ^ 41 → TakesBytes (end - given) store
takes_left {V} store given end bounds within short = record {
  standing = bounds.standing;
  generation = omega (arith, bounds.generation, within, short);
  position = omega (arith, bounds.position, within, short);
}
