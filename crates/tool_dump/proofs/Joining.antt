-- Texts one behind another.
use Rattle.std.proofs.Common.{◌≡◌, ℕ, List, ◌++◌, ap, ◌∙◌, append_assoc}
use Rattle.std.specs.Prelude.{Result, Ok, Err, OnOk}

pub joined : (start middle end a b : List ℕ) → middle ≡ start ++ a → end ≡ middle ++ b → end ≡ start ++ (a ++ b)
joined start middle end a b first last = last ∙ ap (λ (t : List ℕ). t ++ b) first ∙ append_assoc start a b

-- the same where the last part is there only after success
pub ended : {T E : Type 0} (result : Result T E) (start middle end a b : List ℕ) → middle ≡ start ++ a → OnOk result (end ≡ middle ++ b) → OnOk result (end ≡ start ++ (a ++ b))
ended (Ok x) start middle end a b first last = joined start middle end a b first last
ended (Err e) start middle end a b first last = tt
