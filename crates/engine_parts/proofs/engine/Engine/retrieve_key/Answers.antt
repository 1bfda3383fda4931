use Rattle.std.proofs.Common.{Ok, Err, refl, ap}
use Rattle.session_local.specs.declared.reply.Reply.{Reply}
use Rattle.session_local.specs.Answer.{answered_by}
use Rattle.engine_parts.specs.Deciding.{only_reply}
use Rattle.engine_parts.proofs.CursorCallsShown.{retrieve_key-decides}
use Rattle.engine_parts.proofs.engine.Engine.retrieve_key.Goals as goal

pub returns-in-Ok-clause-answer : goal.returns-in-Ok-clause-answer
returns-in-Ok-clause-answer c =
    retrieve_key-decides c.a_session_reads_its_view.ensures.records c.args.self.now c.args.local.now c.show_key.new.local c.args.cursor (only_reply c.show_key.result) (Ok (c.in-Ok.key, c.in-Ok.field-0-1)) c.requires.shared c.in-Ok.ensures
    (record {
      reply = c.show_key.ensures.shown;
      step = refl;
      state = c.show_key.ensures.state;
    })

pub returns-in-Err-clause-answer : goal.returns-in-Err-clause-answer
returns-in-Err-clause-answer c =
    retrieve_key-decides c.a_session_reads_its_view.ensures.records c.args.self.now c.args.local.now c.args.local.now c.args.cursor (only_reply c.refusal.result) (Err c.in-Err.jet) c.requires.shared c.in-Err.ensures
    (record {
      reply = ap (λ (r : Reply). answered_by r c.args.local.now.reply) c.refusal.ensures;
      step = refl;
      state = refl;
    })
