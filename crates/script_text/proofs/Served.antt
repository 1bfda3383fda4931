-- The calls of a script of the grammar are those that the engine answers.
use Rattle.std.proofs.Common.{◌≡◌, ℕ, true, Option, Some, None, Ok, Err, List, [], ◌∷◌, refl, ap, ◌∙◌}
use Rattle.std.specs.Prelude.{IfSome}
use Rattle.std.proofs.lemmas.Bool.{and_from}
use Rattle.session_local.specs.declared.request.Request.{Request}
use Rattle.session_local.specs.BuiltCalls.{is_built_request}
use Rattle.script_text.specs.Grammar.{ScriptResult, with_front, said_lines, line_request, requests_of, script_lines}
use Rattle.script_text.specs.Built.{is_label, is_built, are_built}
use Rattle.script_text.proofs.Labels.{line-labelled}
use Rattle.script_text.proofs.ServedCalls.{line-served}

-- the calls of a rest behind one call
behind_front : (said : ℕ × Request) (rest : ScriptResult) (calls : List (ℕ × Request)) → with_front said rest ≡ Ok calls → (others : List (ℕ × Request)) × (rest ≡ Ok others) × (calls ≡ said ∷ others)
behind_front said (Ok others) calls h = (others, refl, cc)
behind_front said (Err number) calls h = absurd cc

one_more : (said : ℕ × Request) (others calls : List (ℕ × Request)) → is_label said.0 ≡ true → is_built_request said.1 ≡ true → are_built others ≡ true
    → calls ≡ said ∷ others → are_built calls ≡ true
one_more said others calls labelled served rest all =
    ap are_built all ∙ and_from (is_built said) (are_built others) (and_from (is_label said.0) (is_built_request said.1) labelled served) rest

from_line : (number : ℕ) (line : List ℕ) (lines : List (ℕ × List ℕ)) (calls : List (ℕ × Request)) (found : Option (ℕ × Request))
    → ((others : List (ℕ × Request)) → requests_of lines ≡ Ok others → are_built others ≡ true)
    → IfSome found (λ said. is_label said.0 ≡ true)
    → IfSome found (λ said. is_built_request said.1 ≡ true)
    → elim found as (λ _. ScriptResult) [ None ↦ Err number | Some said ↦ with_front said (requests_of lines) ] ≡ Ok calls
    → are_built calls ≡ true
from_line number line lines calls None rest labelled served h = absurd cc
from_line number line lines calls (Some said) rest labelled served h =
    let (others, left, all) = behind_front said (requests_of lines) calls h in
    one_more said others calls labelled served (rest others left) all

requests_of-served : (lines : List (ℕ × List ℕ)) (calls : List (ℕ × Request)) → requests_of lines ≡ Ok calls → are_built calls ≡ true
requests_of-served [] calls h = let empty : calls ≡ [] = cc in ap are_built empty
requests_of-served ((number, line) ∷ lines) calls h =
    from_line number line lines calls (line_request line) (λ others left. requests_of-served lines others left) (line-labelled line) (line-served line) h

pub script_lines-served : (bytes : List ℕ) (calls : List (ℕ × Request)) → script_lines bytes ≡ Ok calls → are_built calls ≡ true
script_lines-served bytes calls h = requests_of-served (said_lines bytes) calls h
