-- The calls of a script in pieces.
use Rattle.std.specs.Prelude.{◌≡◌, ◌≤◌, ◌<◌, ℕ, Bool, ◌&&◌, not, nat_lt, List, ◌++◌, ◌∷◌, [], All, Contains, Some, get_or, length, map, vec_len, vec_capacity}
use Rattle.std.specs.List.{flat_map}
use Rattle.jet_base.specs.declared.ids.Session.{Session}
use Rattle.session_local.specs.declared.request.Request.{Request}
use Rattle.session_local.specs.declared.request.Request.TheVariants as call
use Rattle.script_text.specs.declared.piece.CallPiece.TheInside as piece
use Rattle.script_text.specs.declared.open_piece.OpenPiece.TheInside as growing
use Rattle.script_text.specs.Grammar.{line_request}
use Rattle.script_text.specs.Parsed.{call_of}

-- what stands at a place where no call does
abbrev pub no_call : Session × Request
no_call = (record { 0 = 0 }, call.BeginSession)

-- the calls that stand at these places
abbrev pub calls_at : List (Session × Request) → List ℕ → List (Session × Request)
calls_at calls places = map (λ place. get_or calls place no_call) places

-- each line has a call
abbrev pub HasItsCalls : piece.Inside → Type 0
HasItsCalls inside = All (λ place. place < length inside.calls.items) inside.order.items

abbrev pub piece_calls : List (Session × Request) → List (Session × Request)
piece_calls piece = piece

-- the calls of all pieces, one behind the other
abbrev pub calls_in : List (List (Session × Request)) → List (Session × Request)
calls_in pieces = flat_map piece_calls pieces

-- the calls of a piece that may grow, and whether it may not
pub record OpenCalls : Type 0 where
  pub calls : List (Session × Request)
  pub is_full : Bool

abbrev pub open_calls : growing.Inside → OpenCalls
open_calls inside = record {
  calls = calls_at inside.calls.items inside.order.items;
  is_full = not (nat_lt (vec_len inside.calls) 1024 && nat_lt (vec_len inside.order) 4096);
}

-- each line that is remembered is its call
abbrev pub AreRead : List (Session × Request) → List (List ℕ × ℕ) → Type 0
AreRead calls recent = (line : List ℕ) (place : ℕ) → Contains recent (line, place) → 0 < length line
    → (place < length calls) × (line_request line ≡ Some (call_of (get_or calls place no_call)))

-- what holds of a piece that may grow: it has its room, each line has a call, and so has each that is remembered
pub record IsOpen (inside : growing.Inside) : Type 0 where
  pub room : 1024 ≤ vec_capacity inside.calls
  pub lines : 4096 ≤ vec_capacity inside.order
  pub within : vec_len inside.calls ≤ 1024
  pub placed : All (λ place. place < length inside.calls.items) inside.order.items
  pub read : AreRead inside.calls.items inside.recent

-- the last of some calls is what this line says
abbrev pub IsOfLast : List ℕ → List (Session × Request) → Type 0
IsOfLast line calls = (front : List (Session × Request)) (last : Session × Request) → calls ≡ front ++ last ∷ [] → line_request line ≡ Some (call_of last)
