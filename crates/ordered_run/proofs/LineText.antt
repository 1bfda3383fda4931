-- The text of one line.
use Rattle.std.proofs.Common.{◌≡◌, ◌≢◌, ℕ, true, false, true≢false, List, [], ◌∷◌, ◌++◌, Option, refl, sym, ap, ◌∙◌}
use Rattle.std.specs.Io.KnownBytes.{append_known}
use Rattle.std.proofs.lemmas.Bool.{false≢true}
use Rattle.std.proofs.lemmas.List.{append-nil}
use Rattle.jet_base.specs.declared.replies.Jet.{Jet}
use Rattle.jet_base.specs.declared.replies.Jet.TheVariants as jet
use Rattle.jet_base.specs.declared.ids.Session.{Session}
use Rattle.session_local.specs.declared.request.Request.{Request}
use Rattle.session_local.specs.declared.reply.Reply.{Reply}
use Rattle.session_local.specs.Answer.{Row, answered_by}
use Rattle.session_local.specs.Run.{RunState, Line, LineOutcome, rows_of_line}
use Rattle.script_transcript.specs.TranscriptLine.{transcript_of, transcript_line, row_line}
use Rattle.ordered_run.specs.Outcomes.{is_plain, line_text}
use Rattle.ordered_run.specs.declared.flushed.Flush.{Flush}
use Rattle.ordered_run.specs.declared.flushed.Flush.TheVariants.{Kept, Failed, NoRoom}
use Rattle.ordered_run.specs.Flushing.{found_no_room, outcome_of_jet, rows_by_flush}
use Rattle.ordered_run.specs.SessionRun.{row_told}
use Rattle.ordered_run.proofs.Pieces.{append_nothing}

is_plain-jet : (reply : Jet) → is_plain (outcome_of_jet reply Kept) ≡ true
is_plain-jet jet.OutOfMemory = refl
is_plain-jet _ = refl

-- where all is kept a line is served, or finds no memory
pub is_plain-kept : (reply : Jet) (flush : Flush) → flush ≡ Kept → is_plain (outcome_of_jet reply flush) ≡ true
is_plain-kept reply flush is = ap (λ (f : Flush). is_plain (outcome_of_jet reply f)) is ∙ is_plain-jet reply

-- a line has its row, but where its flush found no room
rows-answered : (flush : Flush) (row : Row) → found_no_room flush ≡ false → rows_by_flush flush row ≡ row ∷ []
rows-answered Kept row room = refl
rows-answered Failed row room = refl
rows-answered NoRoom row room = absurd (true≢false room)

rows-unanswered : (flush : Flush) (row : Row) → found_no_room flush ≡ true → rows_by_flush flush row ≡ []
rows-unanswered Kept row none = absurd (false≢true none)
rows-unanswered Failed row none = absurd (false≢true none)
rows-unanswered NoRoom row none = refl

pub no_room_is : (flush : Flush) → found_no_room flush ≡ true → flush ≡ NoRoom
no_room_is Kept none = absurd (false≢true none)
no_room_is Failed none = absurd (false≢true none)
no_room_is NoRoom none = refl

pub room_is : (flush : Flush) → found_no_room flush ≡ false → flush ≢ NoRoom
room_is flush room is = true≢false (sym (ap found_no_room is) ∙ room)

-- a line without its row adds nothing
pub no_text : (limit : ℕ) (run : RunState) (line : Line) (outcome : LineOutcome) (flush : Flush) (row : Row) (known : Option (List ℕ)) → rows_of_line limit run line outcome ≡ rows_by_flush flush row → found_no_room flush ≡ true
    → known ≡ append_known known (line_text limit run line outcome)
no_text limit run line outcome flush row known rows none = sym (ap (append_known known) (ap transcript_of (rows ∙ rows-unanswered flush row none)) ∙ append_nothing known)

pub line_text-row : (limit : ℕ) (run : RunState) (line : Line) (outcome : LineOutcome) (row : Row) → rows_of_line limit run line outcome ≡ row ∷ [] → line_text limit run line outcome ≡ row_line row
line_text-row limit run line outcome row e = ap transcript_of e ∙ append-nil (row_line row)

-- the piece that is written of an empty text with one line behind it is the line of the row
pub piece-row : (n : ℕ) (session : Session) (request : Request) (reply : Reply) (bytes shown before after piece : List ℕ)
    → before ≡ [] → after ≡ before ++ transcript_line n session.0 request reply bytes → bytes ≡ shown → piece ≡ after
    → piece ≡ row_line (row_told n session request (answered_by reply shown))
piece-row n session request reply bytes shown before after piece empty appended same is =
    is ∙ appended ∙ ap (λ xs. xs ++ transcript_line n session.0 request reply bytes) empty
    ∙ ap (λ b. transcript_line n session.0 request reply b) same

-- the same piece, as the text of a line
pub piece-line_text : (limit : ℕ) (run : RunState) (line : Line) (outcome : LineOutcome) (flush : Flush) (row : Row) (piece : List ℕ) → piece ≡ row_line row
    → rows_of_line limit run line outcome ≡ rows_by_flush flush row → found_no_room flush ≡ false → piece ≡ line_text limit run line outcome
piece-line_text limit run line outcome flush row piece is rows room = is ∙ sym (line_text-row limit run line outcome row (rows ∙ rows-answered flush row room))
