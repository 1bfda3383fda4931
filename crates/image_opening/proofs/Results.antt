-- What holds of what a call gave, where it gave something.
use Rattle.std.proofs.Common.{Result, Ok, Err}
use Rattle.std.specs.Prelude.{IfErr, IfOk, OnOk}

pub for_ok : {A B : Type 0} {P Q : A → Type 0} (r : Result A B) → ((x : A) → P x → Q x) → IfOk r P → IfOk r Q
for_ok (Ok x) f h = f x h
for_ok (Err e) f h = tt

pub for_err : {A B : Type 0} {P Q : B → Type 0} (r : Result A B) → ((e : B) → P e → Q e) → IfErr r P → IfErr r Q
for_err (Ok x) f h = tt
for_err (Err e) f h = f e h

pub on_ok : {A B C D : Type 0} (r : Result A B) → (C → D) → OnOk r C → OnOk r D
on_ok (Ok x) f h = f h
on_ok (Err e) f h = tt
