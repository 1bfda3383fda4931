-- The least begin, session by session.
use Rattle.std.proofs.Common.{◌≡◌, ℕ, ◌+◌, ◌<◌, List, [], ◌∷◌, ◌++◌, Option, Some, None, length, get_or, take, refl, sym, ap, ◌∙◌, arith}
use Rattle.std.specs.Prelude.{min}
use Rattle.std.proofs.lemmas.List.{take_more}
use Rattle.version_cleanup.specs.LiveSessions.{LiveState, begin_of, lesser, oldest_begin}

lesser-assoc : (a b c : Option ℕ) → lesser (lesser a b) c ≡ lesser a (lesser b c)
lesser-assoc None b c = refl
lesser-assoc (Some a) None c = refl
lesser-assoc (Some a) (Some b) None = refl
lesser-assoc (Some a) (Some b) (Some c) = ap (λ (n : ℕ). Some n) (let e : min (min a b) c ≡ min a (min b c) = omega arith in e)

lesser-none : (a : Option ℕ) → lesser a None ≡ a
lesser-none None = refl
lesser-none (Some n) = refl

oldest-push : (sessions : List LiveState) (s : LiveState) → oldest_begin (sessions ++ s ∷ []) ≡ lesser (oldest_begin sessions) (begin_of s)
oldest-push [] s = lesser-none (begin_of s)
oldest-push (x ∷ sessions) s = ap (lesser (begin_of x)) (oldest-push sessions s) ∙ sym (lesser-assoc (begin_of x) (oldest_begin sessions) (begin_of s))

pub oldest-more : (sessions : List LiveState) (i : ℕ) (d : LiveState) → i < length sessions → lesser (oldest_begin (take i sessions)) (begin_of (get_or sessions i d)) ≡ oldest_begin (take (i + 1) sessions)
oldest-more sessions i d lt = sym (ap oldest_begin (take_more sessions i d lt) ∙ oldest-push (take i sessions) (get_or sessions i d))
