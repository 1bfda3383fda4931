use Rattle.jet_base.specs.declared.replies.Jet.TheVariants as jet
use Rattle.session_local.proofs.open_cursor.OpenCursor.set_to.Goals as goal

pub returns-clause-answer : goal.returns-clause-answer
returns-clause-answer g c = c.jet_of.ensures jet.Success c.set_index.ensures.answer
