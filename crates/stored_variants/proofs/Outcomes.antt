-- What follows from what a call answers.
use Rattle.std.proofs.Common.{Result, Ok, Err}
use Rattle.std.specs.Prelude.{OnErr, OnOk}

pub either : {A B P Q R : Type 0} (r : Result A B) → OnOk r Q → OnErr r R → (Q → P) → (R → P) → P
either (Ok x) ok err f g = f ok
either (Err e) ok err f g = g err

pub on_ok : {A B Q P : Type 0} (r : Result A B) → OnOk r Q → (Q → P) → OnOk r P
on_ok (Ok x) ok f = f ok
on_ok (Err e) ok f = tt

pub on_err : {A B Q P : Type 0} (r : Result A B) → OnErr r Q → (Q → P) → OnErr r P
on_err (Ok x) err f = tt
on_err (Err e) err f = f err
