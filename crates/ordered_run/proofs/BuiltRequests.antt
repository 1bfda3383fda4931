-- A line that is built is of a session, and makes a call that the engine answers.
use Rattle.std.proofs.Common.{◌≡◌, ◌≤◌, ℕ, true, ◌&&◌, List, ◌∷◌, arith}
use Rattle.std.specs.Prelude.{nat_le}
use Rattle.std.proofs.lemmas.Bool.{and_parts}
use Rattle.std.proofs.lemmas.Bool.Decides.{nat_tests}
use Rattle.session_local.specs.Run.{Line}
use Rattle.session_local.specs.BuiltCalls.{is_built_request}
use Rattle.script_text.specs.Built.{is_built, is_label, are_built}
use Rattle.ordered_run.specs.Sessions.{last_label}

below : (label : ℕ) → (nat_le 1 label && nat_le label 99) ≡ true → label ≤ 99
below label e = grind (arith, nat_tests)

pub label_below : (label : ℕ) → is_label label ≡ true → label ≤ last_label
label_below label e = below label e

-- the first of some lines that are built

first_parts : (line : Line) (rest : List Line) → are_built (line ∷ rest) ≡ true → (is_label line.0 ≡ true) × (is_built_request line.1 ≡ true)
first_parts line rest built = and_parts (is_label line.0) (is_built_request line.1) (and_parts (is_built line) (are_built rest) built).0

pub request_is : (line : Line) (rest : List Line) → are_built (line ∷ rest) ≡ true → is_built_request line.1 ≡ true
request_is line rest built = (first_parts line rest built).1

pub label_is : (line : Line) (rest : List Line) → are_built (line ∷ rest) ≡ true → is_label line.0 ≡ true
label_is line rest built = (first_parts line rest built).0

pub rest_is : (line : Line) (rest : List Line) → are_built (line ∷ rest) ≡ true → are_built rest ≡ true
rest_is line rest built = (and_parts (is_built line) (are_built rest) built).1
