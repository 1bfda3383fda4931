-- The lines of pieces, and a run over them.
use Rattle.std.proofs.Common.{◌≡◌, ℕ, ◌+◌, ◌<◌, ◌≤◌, List, [], ◌∷◌, ◌++◌, length, take, drop, get_or, Option, refl, sym, ap, subst, ◌∙◌, arith}
use Rattle.std.proofs.Math.Seq.{take_all, take-append_seam, drop-append_seam}
use Rattle.std.proofs.lemmas.List.{append-nil, map-append, take-append-drop}
use Rattle.std.proofs.lemmas.Grind.{flat_map-append}
use Rattle.jet_base.specs.declared.ids.Session.{Session}
use Rattle.session_local.specs.declared.request.Request.{Request}
use Rattle.index_derive.specs.declared.log.Entry.{Entry}
use Rattle.database_state.specs.State.{DatabaseState}
use Rattle.session_local.specs.Run.{Line, run_from}
use Rattle.script_text.specs.Parsed.{calls_of, call_of}
use Rattle.script_text.specs.Pieces.{piece_calls, calls_in}
use Rattle.laws_engine.specs.EngineState.{EngineState}
use Rattle.ordered_run.specs.declared.flushed.Flushed.{Flushed}
use Rattle.ordered_run.specs.declared.run.LineFault.{LineFault}
use Rattle.ordered_run.specs.declared.session_engine.SessionEngine.{SessionEngine}
use Rattle.ordered_run.specs.Serving.{run_engine, CanServe}
use Rattle.ordered_run.specs.RunSoFar.{StandsBy, StopsIn}
use Rattle.ordered_run.proofs.RunLaws.{drop-next, take_calls_of}
use Rattle.ordered_run.proofs.Standing.{none_so_far, stands_as}

abbrev pub Piece : Type 0
Piece = List (Session × Request)

-- the lines of some pieces
abbrev pub lines_in : List Piece → List Line
lines_in pieces = calls_of (calls_in pieces)

abbrev pub lines_of_piece : Piece → List Line
lines_of_piece piece = calls_of piece

lines_in-first : (piece : Piece) (rest : List Piece) → lines_in (piece ∷ rest) ≡ lines_of_piece piece ++ lines_in rest
lines_in-first piece rest = map-append call_of piece (calls_in rest)

-- those of one piece more
pub lines_in-append : (pieces : List Piece) (piece : Piece) → lines_in (pieces ++ piece ∷ []) ≡ lines_in pieces ++ lines_of_piece piece
lines_in-append pieces piece =
    ap calls_of (flat_map-append piece_calls pieces (piece ∷ []) ∙ ap (λ (calls : List (Session × Request)). calls_in pieces ++ calls) (append-nil piece))
    ∙ map-append call_of (calls_in pieces) piece

-- all lines are those of the pieces that are gone, of the next piece, and of the rest
pub lines_around : (gone left rest all : List Piece) (piece : Piece) (lines : List Line) → gone ++ left ≡ all → lines_in all ≡ lines → left ≡ piece ∷ rest → lines_in gone ++ (lines_of_piece piece ++ lines_in rest) ≡ lines
lines_around gone left rest all piece lines whole same is =
    ap (λ (l : List Line). lines_in gone ++ l) (sym (lines_in-first piece rest) ∙ ap lines_in (sym is))
    ∙ sym (ap calls_of (flat_map-append piece_calls gone left) ∙ map-append call_of (calls_in gone) (calls_in left))
    ∙ ap lines_in whole ∙ same

-- no piece is left
pub nothing_left : (pieces : List Piece) → length pieces ≡ 0 → pieces ≡ []
nothing_left [] none = refl
nothing_left (piece ∷ rest) none = absurd (omega arith)

-- ---- the lines of a piece

pub all_taken : (calls : Piece) (count : ℕ) → length calls ≤ count → take count (calls_of calls) ≡ calls_of calls
all_taken calls count all = sym (take_calls_of calls count) ∙ ap calls_of (take_all count calls all)

-- the lines that are gone, the next line, and the rest
pub line_within : (calls : Piece) (i : ℕ) (line : Session × Request) → line ≡ get_or calls i line → i < length calls
    → take i (calls_of calls) ++ (call_of line ∷ drop (i + 1) (calls_of calls)) ≡ calls_of calls
line_within calls i line is below =
    ap (λ (l : List Line). take i (calls_of calls) ++ l) (sym (drop-next calls i line is below)) ∙ take-append-drop i (calls_of calls)

-- ---- how a run ends

module _ {E : Type 0} (held : E → EngineState) (made : List Entry → E → E → Type 0) (flushed : E → E → Flushed → Type 0) where
  pub run_stopped : (by : LineFault) (opening : DatabaseState) (limit : ℕ) (before after : SessionEngine E) (lines : List Line) (taken_before taken_after : Option (List ℕ)) → CanServe held limit before (run_from opening) lines
      → StopsIn held made flushed by before after lines taken_before taken_after
      → (count : ℕ) × StandsBy held made flushed by opening limit (run_engine before) after (take count lines) (drop count lines) taken_before taken_after
  run_stopped by opening limit before after lines taken_before taken_after ready stops =
      let begin = none_so_far held made flushed opening limit before (lines ++ []) taken_before
      (subst (λ (l : List Line). CanServe held limit before (run_from opening) l) (sym (append-nil lines)) ready) in
      let stop = stops opening limit (run_engine before) [] [] taken_before begin in (
        length stop.0,
        stands_as held made flushed by opening limit (run_engine before) after stop.0 (take (length stop.0) lines) (stop.1 ++ []) (drop (length stop.0) lines) taken_before taken_after
            (sym (ap (take (length stop.0)) (sym stop.2) ∙ take-append_seam stop.0 stop.1))
            (append-nil stop.1 ∙ sym (ap (drop (length stop.0)) (sym stop.2) ∙ drop-append_seam stop.0 stop.1))
            stop.3,
      )
