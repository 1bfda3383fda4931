-- What the engine of a script goes on to, line by line.
use Rattle.std.proofs.Common.{Result, Ok, Err, true≢false, ◌≡◌, ℕ, Bool, true, false, ◌≤◌, List, refl, sym, subst, arith}
use Rattle.std.specs.Prelude.{if◌then◌else◌}
use Rattle.std.specs.Result.{OnOk, OnErr, is_err}
use Rattle.std.proofs.lemmas.Bool.{false≢true}
use Rattle.database_state.specs.State.{DatabaseState}
use Rattle.session_local.specs.Run.{run_from}
use Rattle.session_local.specs.declared.reply.Reply.{Reply}
use Rattle.script_transcript.specs.TranscriptLine.{NamesNoMore}
use Rattle.ordered_run.specs.declared.sessions.RunSession.{RunSession}
use Rattle.ordered_run.specs.Sessions.{last_label, AreFresh, AreSessionsOf, HasPlace}
use Rattle.laws_engine.specs.EngineState.{EngineState}
use Rattle.engine_core.specs.Runs.{HoldsRun}
use Rattle.ordered_run.specs.SessionRun.{no_memory_reply, IsInRun}

-- before the first line
pub in_run-first : (limit : ℕ) (engine : EngineState) (sessions : List RunSession) (opening : DatabaseState) → HoldsRun limit engine (run_from opening)
    → AreFresh sessions → AreSessionsOf sessions (run_from opening) → HasPlace sessions last_label → IsInRun limit engine sessions (run_from opening)
in_run-first limit engine sessions opening holds fresh parts places = record {
  holds = holds;
  parts = parts;
  labels = λ label. subst (λ (s : RunSession). s.local.session ≡ label) (sym (fresh label)) refl;
  places = places;
}

-- ---- replies

-- a reply is of the buffer that a session has, or of none
pub short_buffer : (begun : Bool) (count : ℕ) → count ≤ (if begun then 1048576 else 0) → count ≤ 1048576
short_buffer true count is = omega (arith, is)
short_buffer false count is = omega (arith, is)

pub named-none : (reply : Reply) (most : ℕ) → reply ≡ no_memory_reply → NamesNoMore reply most
named-none reply most is = subst (λ (r : Reply). NamesNoMore r most) (sym is) refl

-- ---- results

pub from_err : {A E P : Type 0} (r : Result A E) → is_err r ≡ true → OnErr r P → P
from_err (Ok a) err known = absurd (false≢true err)
from_err (Err e) err known = known

pub from_ok : {A E P : Type 0} (r : Result A E) → is_err r ≡ false → OnOk r P → P
from_ok (Ok a) err known = known
from_ok (Err e) err known = absurd (true≢false err)
