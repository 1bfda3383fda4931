-- Where a run stands: what a line adds, and lines behind others.
use Rattle.std.proofs.Common.{◌≡◌, ◌≢◌, ℕ, ◌+◌, ◌<◌, ◌≤◌, true, List, [], ◌∷◌, ◌++◌, length, take, Option, Result, Ok, Err, refl, sym, ap, subst, ◌∙◌, append_assoc, arith}
use Rattle.std.specs.Prelude.{MatchResult}
use Rattle.std.specs.Result.{OnOk, OnErr}
use Rattle.std.specs.Io.KnownBytes.{append_known}
use Rattle.std.proofs.Math.Seq.{take-append-add}
use Rattle.std.proofs.lemmas.List.{append-nil, length-append}
use Rattle.index_derive.specs.declared.log.Entry.{Entry}
use Rattle.database_state.specs.State.{DatabaseState}
use Rattle.session_local.specs.Run.{RunState, Line, LineOutcome, may_come, run_after, run_after_all, run_from}
use Rattle.laws_engine.specs.EngineState.{EngineState}
use Rattle.ordered_run.specs.declared.flushed.After.{After}
use Rattle.ordered_run.specs.declared.flushed.After.TheVariants.{Goes, Fault, Memory}
use Rattle.ordered_run.specs.declared.flushed.Flush.{Flush}
use Rattle.ordered_run.specs.declared.flushed.Flush.TheVariants.{Kept, Failed, NoRoom}
use Rattle.ordered_run.specs.declared.flushed.Flushed.{Flushed}
use Rattle.ordered_run.specs.declared.run.LineFault.{LineFault}
use Rattle.ordered_run.specs.declared.run.LineFault.TheVariants as fault
use Rattle.ordered_run.specs.declared.session_engine.SessionEngine.{SessionEngine}
use Rattle.ordered_run.specs.Flushing.{IsFlushOutcome}
use Rattle.ordered_run.specs.Outcomes.{is_plain, line_text, run_transcript, TookFront, TookWhole}
use Rattle.ordered_run.specs.Serving.{run_engine, CanServe}
use Rattle.ordered_run.specs.ServedLines.{LineMade}
use Rattle.ordered_run.specs.MadeRuns.{HasMade, HasStopped}
use Rattle.ordered_run.specs.RunSoFar.{line_result, SoFar, Stopped, StandsBy, RunsOn, StopsIn}
use Rattle.ordered_run.proofs.Pieces.{append_nothing, append_twice}
use Rattle.ordered_run.proofs.RunLaws.{Served, all_plain-append, AreOutcomesOf-append, but_last-append, MayComeTo-append, run_after_all-append, run_transcript-append}

below_sum : (a n m : ℕ) → n < m → a + n < a + m
below_sum a n m h = omega arith

above_sum : (a n : ℕ) → a ≤ a + n
above_sum a n = omega arith

-- ---- what is told of a flush

goes_no_fault : Goes ≡ Fault → ⊥
goes_no_fault is = let never : ⊥ = cc in never

memory_no_fault : Memory ≡ Fault → ⊥
memory_no_fault is = let never : ⊥ = cc in never

-- a flush that met no fault and found room kept all bytes
kept_else : (was : Flush) (after : After) → (was ≡ Failed → after ≡ Fault) → was ≢ NoRoom → after ≢ Fault → was ≡ Kept
kept_else Kept after failed room sound = refl
kept_else Failed after failed room sound = absurd (sound (failed refl))
kept_else NoRoom after failed room sound = absurd (room refl)

-- ---- what was written

pub took_ok : {A X P Q : Type 0} (printed : Result A X) → (P → Q) → OnOk printed P → OnOk printed Q
took_ok (Ok done) f took = f took
took_ok (Err e) f took = tt

pub took_err : {A X P Q : Type 0} (printed : Result A X) → (P → Q) → OnErr printed P → OnErr printed Q
took_err (Ok done) f took = tt
took_err (Err e) f took = f took

module _ {E : Type 0} (held : E → EngineState) (made : List Entry → E → E → Type 0) (flushed : E → E → Flushed → Type 0) where
  -- ---- what an engine makes

  -- one line more
  has_made-append : (limit : ℕ) (run : RunState) (pairs : List Served) (line : Line) (outcome : LineOutcome) (old between new : E) (told : Flushed) → HasMade made flushed limit run pairs old between
      → LineMade made flushed limit (run_after_all limit run pairs) line outcome between new told → told.after ≡ Goes → HasMade made flushed limit run (pairs ++ (line, outcome) ∷ []) old new
  has_made-append limit run [] line outcome old between new told went last goes =
      (new, told, subst (λ (e : E). LineMade made flushed limit run line outcome e new told) went last, goes, refl)
  has_made-append limit run (first ∷ pairs) line outcome old between new told went last goes =
      (went.0, went.1, went.2, went.3, has_made-append limit (run_after limit run first.0 first.1) pairs line outcome went.0 between new told went.4 last goes)

  -- ---- a line

  -- a line had this outcome, whatever run the engine was in, and this was told of its flush
  pub record LineTold (before after : SessionEngine E) (line : Line) (outcome : LineOutcome) (told : Flushed) : Type 0 where
    pub plain : told.flush ≡ Kept → is_plain outcome ≡ true
    pub may_be : (limit : ℕ) (run : RunState) (rest : List Line) → CanServe held limit before run (line ∷ rest) → may_come limit run line outcome ≡ true
    pub ready : (limit : ℕ) (run : RunState) (rest : List Line) → CanServe held limit before run (line ∷ rest) → CanServe held limit after (run_after limit run line outcome) rest
    pub line_made : (limit : ℕ) (run : RunState) (rest : List Line) → CanServe held limit before run (line ∷ rest) → LineMade made flushed limit run line outcome (run_engine before) (run_engine after) told

  -- the sink took its text
  abbrev pub TookText : SessionEngine E → Line → LineOutcome → Option (List ℕ) → Option (List ℕ) → Type 0
  TookText before line outcome taken_before taken_after =
      (limit : ℕ) (run : RunState) (rest : List Line) → CanServe held limit before run (line ∷ rest) → taken_after ≡ append_known taken_before (line_text limit run line outcome)

  -- or a front of it
  abbrev pub TookSome : SessionEngine E → Line → LineOutcome → Option (List ℕ) → Option (List ℕ) → Type 0
  TookSome before line outcome taken_before taken_after =
      (limit : ℕ) (run : RunState) (rest : List Line) → CanServe held limit before run (line ∷ rest)
      → (n : ℕ) × (n < length (line_text limit run line outcome)) × (taken_after ≡ append_known taken_before (take n (line_text limit run line outcome)))

  module _ (before after : SessionEngine E) (line : Line) (outcome : LineOutcome) (told : Flushed) (t : LineTold before after line outcome told)
      (opening : DatabaseState) (limit : ℕ) (start : E) (gone rest : List Line) (first taken_before taken_after : Option (List ℕ))
      (so_far : SoFar held made flushed opening limit start before gone (line ∷ rest) first taken_before) where
    abbrev here : RunState
    here = run_after_all limit (run_from opening) so_far.pairs

    abbrev with_it : List Served
    with_it = so_far.pairs ++ (line, outcome) ∷ []

    ready_behind : CanServe held limit after (run_after_all limit (run_from opening) with_it) rest
    ready_behind = subst (λ (r : RunState). CanServe held limit after r rest) (sym (run_after_all-append limit (run_from opening) so_far.pairs (line, outcome))) (t.ready limit here rest so_far.ready)

    whole_text : TookText before line outcome taken_before taken_after → TookWhole opening limit with_it first taken_after
    whole_text text =
        text limit here rest so_far.ready ∙ ap (λ (known : Option (List ℕ)). append_known known (line_text limit here line outcome)) so_far.taken
        ∙ append_twice first (run_transcript opening limit so_far.pairs) (line_text limit here line outcome)
        ∙ ap (append_known first) (sym (run_transcript-append opening limit so_far.pairs (line, outcome)))

    front_text : TookSome before line outcome taken_before taken_after → TookFront opening limit with_it first taken_after
    front_text some =
        let front = some limit here rest so_far.ready in
        let old : List ℕ = run_transcript opening limit so_far.pairs in
        let text : List ℕ = line_text limit here line outcome in
        let whole = run_transcript-append opening limit so_far.pairs (line, outcome) in (
          length old + front.0,
          (
            subst (λ (pairs : List Served). length (run_transcript opening limit pairs) ≤ length old + front.0) (sym (but_last-append so_far.pairs (line, outcome))) (above_sum (length old) front.0),
            rw (whole, length-append old text) (below_sum (length old) front.0 (length text) front.1),
          ),
          rw (whole, take-append-add old text front.0)
              (front.2 ∙ ap (λ (known : Option (List ℕ)). append_known known (take front.0 text)) so_far.taken ∙ append_twice first old (take front.0 text)),
        )

    -- it goes on
    more_so_far : told.flush ≡ Kept → told.after ≡ Goes → TookText before line outcome taken_before taken_after
        → SoFar held made flushed opening limit start after (gone ++ line ∷ []) rest first taken_after
    more_so_far kept goes text = record {
      pairs = with_it;
      outcomes = AreOutcomesOf-append opening limit gone so_far.pairs line outcome so_far.outcomes (t.plain kept) (t.may_be limit here rest so_far.ready);
      ready = ready_behind;
      lines_made = has_made-append limit (run_from opening) so_far.pairs line outcome start (run_engine before) (run_engine after) told so_far.lines_made (t.line_made limit here rest so_far.ready) goes;
      taken = whole_text text;
    }

    -- it stops
    stopped : Stopped held made flushed told opening limit start after (gone ++ line ∷ []) rest with_it
    stopped = record {
      outcomes = MayComeTo-append opening limit gone so_far.pairs line outcome so_far.outcomes (t.may_be limit here rest so_far.ready);
      plain = λ kept. all_plain-append so_far.pairs line outcome so_far.outcomes.1 (t.plain kept);
      ready = ready_behind;
      lines_made = record {
        before = so_far.pairs;
        line = line;
        outcome = outcome;
        pairs_are = refl;
        between = run_engine before;
        went_on = so_far.lines_made;
        stops = t.line_made limit here rest so_far.ready;
      };
      plain_before = so_far.outcomes.1;
    }

  -- ---- how a line ends

  module _ (before after : SessionEngine E) (line : Line) (outcome : LineOutcome) (told : Flushed) (t : LineTold before after line outcome told) (taken_before taken_after : Option (List ℕ)) where
    ends_going : told.flush ≡ Kept → told.after ≡ Goes → TookText before line outcome taken_before taken_after → RunsOn held made flushed before after (line ∷ []) taken_before taken_after
    ends_going kept goes text opening limit start gone rest first so_far =
        more_so_far before after line outcome told t opening limit start gone rest first taken_before taken_after so_far kept goes text

    ends_at_sink : told.flush ≡ Kept → told.after ≢ Fault → TookSome before line outcome taken_before taken_after → StopsIn held made flushed fault.Sink before after (line ∷ []) taken_before taken_after
    ends_at_sink kept sound some opening limit start gone rest first so_far = (
      line ∷ [],
      [],
      refl,
      (
        told,
        kept,
        sound,
        (
          with_it before after line outcome told t opening limit start gone rest first taken_before taken_after so_far,
          stopped before after line outcome told t opening limit start gone rest first taken_before taken_after so_far,
          front_text before after line outcome told t opening limit start gone rest first taken_before taken_after so_far some,
        ),
      ),
    )

    ends_at_volume : told.after ≡ Fault → TookText before line outcome taken_before taken_after → StopsIn held made flushed fault.Volume before after (line ∷ []) taken_before taken_after
    ends_at_volume met text opening limit start gone rest first so_far = (
      line ∷ [],
      [],
      refl,
      (
        told,
        met,
        (
          with_it before after line outcome told t opening limit start gone rest first taken_before taken_after so_far,
          stopped before after line outcome told t opening limit start gone rest first taken_before taken_after so_far,
          whole_text before after line outcome told t opening limit start gone rest first taken_before taken_after so_far text,
        ),
      ),
    )

    ends_at_both : told.after ≡ Fault → TookSome before line outcome taken_before taken_after → StopsIn held made flushed fault.VolumeAndSink before after (line ∷ []) taken_before taken_after
    ends_at_both met some opening limit start gone rest first so_far = (
      line ∷ [],
      [],
      refl,
      (
        told,
        met,
        (
          with_it before after line outcome told t opening limit start gone rest first taken_before taken_after so_far,
          stopped before after line outcome told t opening limit start gone rest first taken_before taken_after so_far,
          front_text before after line outcome told t opening limit start gone rest first taken_before taken_after so_far some,
        ),
      ),
    )

    pub ends_at_image : told.after ≡ Memory → TookText before line outcome taken_before taken_after → StopsIn held made flushed fault.Image before after (line ∷ []) taken_before taken_after
    ends_at_image lacks text opening limit start gone rest first so_far = (
      line ∷ [],
      [],
      refl,
      (
        told,
        lacks,
        (
          with_it before after line outcome told t opening limit start gone rest first taken_before taken_after so_far,
          stopped before after line outcome told t opening limit start gone rest first taken_before taken_after so_far,
          whole_text before after line outcome told t opening limit start gone rest first taken_before taken_after so_far text,
        ),
      ),
    )

    -- a line that is printed
    pub line_ends : {X : Type 0} (printed : Result (Unit {0}) X) (how : After) → told.after ≡ how → IsFlushOutcome told → told.flush ≢ NoRoom
        → OnOk printed (TookText before line outcome taken_before taken_after) → OnErr printed (TookSome before line outcome taken_before taken_after)
        → MatchResult (line_result how printed) (λ done. RunsOn held made flushed before after (line ∷ []) taken_before taken_after)
        (λ by. StopsIn held made flushed by before after (line ∷ []) taken_before taken_after)
    line_ends (Ok done) Goes is flush room text some = ends_going (flush.kept is) is text
    line_ends (Err e) Goes is flush room text some = ends_at_sink (flush.kept is) (λ met. goes_no_fault (sym is ∙ met)) some
    line_ends (Ok done) Fault is flush room text some = ends_at_volume is text
    line_ends (Err e) Fault is flush room text some = ends_at_both is some
    line_ends (Ok done) Memory is flush room text some = ends_at_image is text
    line_ends (Err e) Memory is flush room text some =
        let sound : told.after ≢ Fault = λ met. memory_no_fault (sym is ∙ met) in
        ends_at_sink (kept_else told.flush told.after flush.failed room sound) sound some

  -- ---- lines behind others

  pub stands_as : (by : LineFault) (opening : DatabaseState) (limit : ℕ) (start : E) (engine : SessionEngine E) (gone here left right : List Line) (first taken : Option (List ℕ)) → gone ≡ here → left ≡ right
      → StandsBy held made flushed by opening limit start engine gone left first taken → StandsBy held made flushed by opening limit start engine here right first taken
  stands_as by opening limit start engine gone here left right first taken gone_is left_is stands =
      subst (λ (lines : List Line). StandsBy held made flushed by opening limit start engine here lines first taken) left_is
      (subst (λ (lines : List Line). StandsBy held made flushed by opening limit start engine lines left first taken) gone_is stands)

  -- before the first
  pub none_so_far : (opening : DatabaseState) (limit : ℕ) (engine : SessionEngine E) (lines : List Line) (taken : Option (List ℕ)) → CanServe held limit engine (run_from opening) lines
      → SoFar held made flushed opening limit (run_engine engine) engine [] lines taken taken
  none_so_far opening limit engine lines taken ready = record { pairs = []; outcomes = (refl, refl, refl); ready = ready; lines_made = refl; taken = sym (append_nothing taken) }

  pub runs_none : (engine : SessionEngine E) (taken : Option (List ℕ)) → RunsOn held made flushed engine engine [] taken taken
  runs_none engine taken opening limit start gone rest first so_far =
      subst (λ (lines : List Line). SoFar held made flushed opening limit start engine lines rest first taken) (sym (append-nil gone)) so_far

  -- where there is no memory for a line nothing has changed
  pub stops_before : (engine : SessionEngine E) (lines : List Line) (taken : Option (List ℕ)) → StopsIn held made flushed fault.Memory engine engine lines taken taken
  stops_before engine lines taken opening limit start gone rest first so_far = ([], lines, refl, runs_none engine taken opening limit start gone (lines ++ rest) first so_far)

  pub runs_then : (before engine after : SessionEngine E) (ran more : List Line) (taken_before taken_now taken_after : Option (List ℕ)) → RunsOn held made flushed before engine ran taken_before taken_now
      → RunsOn held made flushed engine after more taken_now taken_after → RunsOn held made flushed before after (ran ++ more) taken_before taken_after
  runs_then before engine after ran more taken_before taken_now taken_after on then opening limit start gone rest first so_far =
      subst (λ (lines : List Line). SoFar held made flushed opening limit start after lines rest first taken_after) (append_assoc gone ran more)
      (then opening limit start (gone ++ ran) rest first
      (on opening limit start gone (more ++ rest) first
      (subst (λ (lines : List Line). SoFar held made flushed opening limit start before gone lines first taken_before) (append_assoc ran more rest) so_far)))

  -- the run that has come to some lines, with others behind them
  pub so_far_at : (before engine : SessionEngine E) (ran left lines : List Line) (taken_before taken_now : Option (List ℕ)) → ran ++ left ≡ lines → RunsOn held made flushed before engine ran taken_before taken_now
      → (opening : DatabaseState) (limit : ℕ) (start : E) (gone rest : List Line) (first : Option (List ℕ)) → SoFar held made flushed opening limit start before gone (lines ++ rest) first taken_before
      → SoFar held made flushed opening limit start engine (gone ++ ran) (left ++ rest) first taken_now
  so_far_at before engine ran left lines taken_before taken_now whole on opening limit start gone rest first so_far =
      on opening limit start gone (left ++ rest) first
      (subst (λ (all : List Line). SoFar held made flushed opening limit start before gone all first taken_before) (ap (λ (l : List Line). l ++ rest) (sym whole) ∙ append_assoc ran left rest) so_far)

  pub stops_later : (by : LineFault) (before engine after : SessionEngine E) (ran more left lines : List Line) (taken_before taken_now taken_after : Option (List ℕ)) → ran ++ (more ++ left) ≡ lines
      → RunsOn held made flushed before engine ran taken_before taken_now → StopsIn held made flushed by engine after more taken_now taken_after → StopsIn held made flushed by before after lines taken_before taken_after
  stops_later by before engine after ran more left lines taken_before taken_now taken_after whole on stops opening limit start gone rest first so_far =
      let now = so_far_at before engine ran (more ++ left) lines taken_before taken_now whole on opening limit start gone rest first so_far in
      let stop = stops opening limit start (gone ++ ran) (left ++ rest) first
      (subst (λ (all : List Line). SoFar held made flushed opening limit start engine (gone ++ ran) all first taken_now) (append_assoc more left rest) now) in (
        ran ++ stop.0,
        stop.1 ++ left,
        append_assoc ran stop.0 (stop.1 ++ left) ∙ ap (λ (l : List Line). ran ++ l) (sym (append_assoc stop.0 stop.1 left) ∙ ap (λ (l : List Line). l ++ left) stop.2) ∙ whole,
        stands_as by opening limit start after ((gone ++ ran) ++ stop.0) (gone ++ (ran ++ stop.0)) (stop.1 ++ (left ++ rest)) ((stop.1 ++ left) ++ rest) first taken_after
            (append_assoc gone ran stop.0) (sym (append_assoc stop.1 left rest)) stop.3,
      )
