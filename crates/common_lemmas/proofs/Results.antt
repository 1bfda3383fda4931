-- What holds of a result where it is a value, or an error.
use Rattle.std.proofs.Common.{Result, Ok, Err}
use Rattle.std.specs.Prelude.{OnErr, OnOk}

pub OnErr-from : {A B : Type 0} (r : Result A B) (P : Type 0) → P → OnErr r P
OnErr-from (Ok x) P p = tt
OnErr-from (Err e) P p = p

pub OnOk-then : {A B C D : Type 0} (r : Result A B) → (C → D) → OnOk r C → OnOk r D
OnOk-then (Ok x) f h = f h
OnOk-then (Err e) f h = tt

pub either_way : {A B : Type 0} {C D E : Type 0} (r : Result A B) → (C → E) → (D → E) → OnOk r C → OnErr r D → E
either_way (Ok x) f g h k = f h
either_way (Err e) f g h k = g k
