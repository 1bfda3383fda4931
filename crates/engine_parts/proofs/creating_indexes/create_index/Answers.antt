use Rattle.engine_parts.proofs.SchemaCalls.{index-keys}
use Rattle.engine_parts.proofs.creating_indexes.create_index.Goals as goal

pub decide_call-requires-clause-short : goal.decide_call-requires-clause-short
decide_call-requires-clause-short c = index-keys c.args.request.now c.in_ok-call.call c.requires.index c.requires.built c.in_ok-call.ensures

pub decide_call-requires-clause-lawful : goal.decide_call-requires-clause-lawful
decide_call-requires-clause-lawful c = λ state h step. c.an_answer_is_lawful_and_stays_in_step.ensures.lawful c.args.engine.now state h c.args.local.now.session c.args.local.now.state c.args.request.now step c.requires.built
