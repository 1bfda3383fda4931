-- Laws of what is kept: a change is committed after the oldest begin exactly where some open transaction began before it.
use Rattle.std.proofs.Common.{◌≡◌, ℕ, Bool, true, false, ◌||◌, List, [], ◌∷◌, map, Option, Some, None, refl, ap, ◌∙◌, arith}
use Rattle.std.specs.Prelude.{nat_lt, min, option_map}
use Rattle.std.specs.List.{list_any}
use Rattle.std.proofs.lemmas.Bool.Decides.{nat_tests}
use Rattle.database_state.specs.Conflicts.{is_after_begin}
use Rattle.database_state.specs.State.{LiveSession, Status, Transaction as WholeTransaction, uncommitted, committed, undone}
use Rattle.database_state.specs.VersionStore.{is_needed_status}
use Rattle.version_store.specs.HeldChanges.{is_after, is_kept_status}
use Rattle.version_cleanup.specs.LiveSessions.{begin_of, lesser, live_state, oldest_begin, without_snapshot}

after-min : (n m number : ℕ) → nat_lt (min n m) number ≡ (nat_lt n number || nat_lt m number)
after-min n m number = at (nat_lt n number) (nat_lt m number) (nat_lt (min n m) number) refl refl refl
  where
    at : (a b c : Bool) → nat_lt n number ≡ a → nat_lt m number ≡ b → nat_lt (min n m) number ≡ c → c ≡ (a || b)
    at true b c e f g = grind (arith, nat_tests)
    at false true c e f g = grind (arith, nat_tests)
    at false false c e f g = grind (arith, nat_tests)

after-lesser : (one other : Option ℕ) (number : ℕ) → is_after (lesser one other) number ≡ (is_after one number || is_after other number)
after-lesser None other number = refl
after-lesser (Some n) None number = or-false (nat_lt n number)
  where
    or-false : (b : Bool) → b ≡ (b || false)
    or-false true = refl
    or-false false = refl
after-lesser (Some n) (Some m) number = after-min n m number

after-begin : (t : Option WholeTransaction) (number : ℕ) → is_after (option_map (λ t. t.begin) (option_map without_snapshot t)) number ≡ is_after_begin t number
after-begin None number = refl
after-begin (Some t) number = refl

after-oldest : (sessions : List LiveSession) (number : ℕ) → is_after (oldest_begin (map live_state sessions)) number ≡ list_any (λ s. is_after_begin s.transaction number) sessions
after-oldest [] number = refl
after-oldest (s ∷ sessions) number =
    after-lesser (begin_of (live_state s)) (oldest_begin (map live_state sessions)) number
    ∙ ap (λ (b : Bool). b || is_after (oldest_begin (map live_state sessions)) number) (after-begin s.transaction number)
    ∙ ap (λ (b : Bool). is_after_begin s.transaction number || b) (after-oldest sessions number)

pub needed-kept : (sessions : List LiveSession) (status : Status) → is_kept_status (oldest_begin (map live_state sessions)) status ≡ is_needed_status sessions status
needed-kept sessions uncommitted = refl
needed-kept sessions (committed number) = after-oldest sessions number
needed-kept sessions undone = refl
