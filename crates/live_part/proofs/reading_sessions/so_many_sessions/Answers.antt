use Rattle.std.proofs.Common.{◌∷◌, ◌++◌, ◌+◌, ◌-◌, [], ap, ◌∙◌, true, ltb, ◌≡◌}
use Rattle.std.proofs.lemmas.Result.{err_from_is_err_and}
use Rattle.live_part.specs.LiveBytes.{label_of}
use Rattle.live_part.specs.LiveReading.{rising_at, session_at}
use Rattle.live_part.proofs.ReadLoops.{all_below, all_up_to, are_up_to, is_above, rising_done, rising_ends, rising_goes_on, with_front}
use Rattle.live_part.proofs.reading_sessions.so_many_sessions.Goals as goal

pub returns-in_err-session : goal.returns-in_err-session
returns-in_err-session c =
    let p = err_from_is_err_and c.from_residual.result c.from_residual.ensures.1 in
    rw (p.1, p.2) (rising_ends c.in_err-session.field-0.0 label_of session_at c.loop.sessions c.loop.last c.args.count c.loop.counter c.loop.rest.now (rising_at label_of session_at 0 c.args.count c.args.bytes.now) c.loop-test.true c.in_err-session.ensures c.loop.invariant.read)

pub push_session-requires : goal.push_session-requires
push_session-requires c =
    all_below c.loop.last c.in_ok-session.session.label c.loop.sessions c.loop.invariant.upto (is_above label_of session_at c.loop.last c.loop.rest.now (c.in_ok-session.session, c.in_ok-session.after.now) c.in_ok-session.ensures)

pub loop-preserved : goal.loop-preserved
loop-preserved c =
    let session = c.in_ok-session.session in
    let after = c.in_ok-session.after.now in
    let left = c.args.count - (c.loop.counter + 1) in
    let above : ltb c.loop.last session.label ≡ true = is_above label_of session_at c.loop.last c.loop.rest.now (session, after) c.in_ok-session.ensures in
    record {
      read =
          ap (λ front. with_front front (rising_at label_of session_at c.label-last.result.0 left after)) c.in_ok-push_session.ensures
          ∙ ap (λ low. with_front (c.loop.sessions ++ session ∷ []) (rising_at label_of session_at low left after)) c.label-last.ensures
          ∙ rising_goes_on label_of session_at c.loop.sessions c.loop.last c.args.count c.loop.counter c.loop.rest.now session after (rising_at label_of session_at 0 c.args.count c.args.bytes.now) c.loop-test.true c.in_ok-session.ensures c.loop.invariant.read;
      upto =
          ap (λ sessions. are_up_to c.label-last.result.0 sessions) c.in_ok-push_session.ensures
          ∙ ap (λ low. are_up_to low (c.loop.sessions ++ session ∷ [])) c.label-last.ensures
          ∙ all_up_to c.loop.last session c.loop.sessions c.loop.invariant.upto above;
    }

pub returns : goal.returns
returns c = rising_done label_of session_at c.loop.sessions c.loop.last c.args.count c.loop.counter c.loop.rest.now (rising_at label_of session_at 0 c.args.count c.args.bytes.now) c.loop-test.false c.loop.invariant.read
