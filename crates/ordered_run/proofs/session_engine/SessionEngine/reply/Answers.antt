use Rattle.std.proofs.Common.{length}
use Rattle.ordered_run.specs.Sessions.{session_at}
use Rattle.ordered_run.proofs.SessionServes.{short_buffer}
use Rattle.ordered_run.proofs.session_engine.SessionEngine.reply.Goals as goal

pub returns-clause-short : goal.returns-clause-short
returns-clause-short g c =
    let local = (session_at c.args.self.now.sessions c.args.session.0).local in
    short_buffer local.state.begun (length local.reply) c.reply.ensures.count
