-- Which calls the engine answers: those of every line of the grammar.
use Rattle.std.specs.Prelude.{ℕ, Bool, ◌&&◌, nat_le, List}
use Rattle.std.specs.List.{list_all}
use Rattle.session_local.specs.declared.request.Request.{Request}
use Rattle.session_local.specs.BuiltCalls.{is_built_request}

-- whether a number is the label of a session
abbrev pub is_label : ℕ → Bool
is_label label = nat_le 1 label && nat_le label 99

-- whether the call of a line is one that the engine answers, whichever session makes it: a built call, and what it makes has a
-- name of 1 to 64 bytes
abbrev pub is_built : ℕ × Request → Bool
is_built said = is_label said.0 && is_built_request said.1

-- whether every line is so
abbrev pub are_built : List (ℕ × Request) → Bool
are_built calls = list_all is_built calls
