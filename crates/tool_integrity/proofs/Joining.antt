-- Texts one behind another.
use Rattle.std.proofs.Common.{◌≡◌, ℕ, List, ◌++◌, ap, ◌∙◌, append_assoc, Result, Ok, Err, OnOk}
use Rattle.std.specs.Prelude.{codes}
use Rattle.tool_integrity.specs.IntegrityLines.{index_text}

-- what was put at the end, and what was put behind it where that went well
pub ended : {T E : Type 0} (result : Result T E) (start middle end a b : List ℕ) → middle ≡ start ++ a → OnOk result (end ≡ middle ++ b) → OnOk result (end ≡ start ++ (a ++ b))
ended (Ok x) start middle end a b first last = last ∙ ap (λ (t : List ℕ). t ++ b) first ∙ append_assoc start a b
ended (Err e) start middle end a b first last = tt

-- what stands behind a table and an index of it
pub behind_index : (table index rest : List ℕ) → index_text table index ++ rest ≡ table ++ (codes " " ++ (index ++ (codes " " ++ rest)))
behind_index table index rest = append_assoc table (codes " " ++ (index ++ codes " ")) rest ∙ ap (λ (t : List ℕ). table ++ (codes " " ++ t)) (append_assoc index (codes " ") rest)
