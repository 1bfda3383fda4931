use Rattle.ordered_run.proofs.SessionServes.{in_run-first}
use Rattle.ordered_run.proofs.session_engine.SessionEngine.over.Goals as goal

pub returns-in-Ok-clause-ready : goal.returns-in-Ok-clause-ready
returns-in-Ok-clause-ready g c = λ opening holds lines built.
    let engine = g.E.RunEngine.held c.args.engine in
    record {
      in_run = in_run-first engine.limit engine c.in-Ok.sessions opening (c.a_run_begins_without_sessions.ensures.opened engine opening holds c.requires)
          c.in-Ok.ensures.fresh (c.a_run_begins_with_fresh_sessions.ensures c.in-Ok.sessions opening c.in-Ok.ensures.fresh) c.in-Ok.ensures.places;
      built = built;
    }
