-- What the code does to a session's temporary tables.
use Rattle.std.specs.Prelude.{◌≡◌, ℕ, List, [], ◌∷◌, ◌++◌, Option, Some, None, Result, Ok, Err, unwrap_or}
use Rattle.jet_base.specs.declared.memory.OutOfMemory.{OutOfMemory}
use Rattle.jet_base.specs.declared.replies.Jet.{Jet}
use Rattle.jet_base.specs.declared.replies.Jet.TheVariants as jet
use Rattle.jet_base.specs.declared.words.Given.{Given}
use Rattle.temp_table.specs.TempRows.{TempRows}
use Rattle.session_local.specs.declared.open_temp.OpenTemp.{OpenTemp}
use Rattle.session_local.specs.declared.reply.Reply.{Reply}
use Rattle.session_local.specs.declared.request.Request.{Request}
use Rattle.session_local.specs.declared.showing.Shown.{Shown}
use Rattle.session_local.specs.Answer.{Answered, Nothing, answered_by}
use Rattle.session_local.specs.SessionSide.{HeldState}
use Rattle.session_local.specs.Showing.{answered_or}
use Rattle.session_local.specs.TempCalls.{TempOutcome, row_refusal, temp_outcome, with_given}

-- a call that shows nothing, or nothing where there was no memory
abbrev pub ChangesTemps : List OpenTemp → TempOutcome → Result Jet OutOfMemory → List OpenTemp → Type 0
ChangesTemps old told (Ok reply) new = told ≡ record { answered = record { jet = reply; shown = Nothing }; temps = new }
ChangesTemps old told (Err e) new = new ≡ old

-- a row that is put in a table, or nothing where there was no memory
abbrev pub IsPut : TempRows → List Given → Option Jet → Jet → TempRows → Type 0
IsPut old values (Some refusal) reply new = (reply ≡ refusal) × (new ≡ old)
IsPut old values None reply new = (reply ≡ jet.Success) × (new ≡ with_given old values)

abbrev pub PutsTo : TempRows → List Given → Result Jet OutOfMemory → TempRows → Type 0
PutsTo old values (Ok reply) new = IsPut old values (row_refusal old values) reply new
PutsTo old values (Err e) new = new ≡ old

-- the bytes of a row one behind the other, NULL without any
abbrev pub bytes_of_row : List (Option (List ℕ)) → List ℕ
bytes_of_row [] = []
bytes_of_row (value ∷ row) = unwrap_or value [] ++ bytes_of_row row

-- what is shown of a value, or the refusal
abbrev pub read_by : Result Shown Jet → Answered
read_by value = answered_or 255 value

-- what the code does with a call, once the session was begun
abbrev pub TempStepsBy : HeldState → Request → Result (Option Reply) OutOfMemory → HeldState → Type 0
TempStepsBy old request (Ok (Some reply)) new =
    (temp_outcome old.temps request ≡ Some (record { answered = answered_by reply new.reply; temps = new.temps })) × (new.cursors ≡ old.cursors)
TempStepsBy old request (Ok None) new = (temp_outcome old.temps request ≡ None) × (new ≡ old)
TempStepsBy old request (Err e) new = new ≡ old
