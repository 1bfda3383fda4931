-- What is known of an outcome in either case.
use Rattle.std.proofs.Common.{◌⊎◌, inl, inr, Result, Ok, Err, OnOk, OnErr}

-- two facts that are known at `Ok`, or two that are known at `Err`
pub either : {T E : Type 0} (A B C D : Type 0) (r : Result T E) → OnOk r A → OnOk r B → OnErr r C → OnErr r D → (A × B) ⊎ (C × D)
either A B C D (Ok x) a b c d = inl (a, b)
either A B C D (Err e) a b c d = inr (c, d)

-- one fact that is known at `Ok`, or one that is known at `Err`
pub one_of : {T E : Type 0} (A C : Type 0) (r : Result T E) → OnOk r A → OnErr r C → A ⊎ C
one_of A C (Ok x) a c = inl a
one_of A C (Err e) a c = inr c
