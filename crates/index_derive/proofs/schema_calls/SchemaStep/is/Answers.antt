use Rattle.std.proofs.Common.{IsTrue, sym, ◌∙◌, subst}
use Rattle.index_derive.proofs.SameSteps.{same_steps}
use Rattle.index_derive.specs.contracts.schema_calls.SchemaStepPartialEq.TheImpl as step_eq
use Rattle.index_derive.specs.contracts.schema_calls.SchemaStepEq.TheImpl.Laws.{laws-law}
use Rattle.index_derive.proofs.schema_calls.SchemaStep.is.Goals as goal

pub returns : goal.returns
returns c = (λ equal. same_steps c.args.self.now c.args.other.now (sym c.eq.ensures ∙ equal), λ same. c.eq.ensures ∙ subst (λ x. IsTrue ((step_eq.ghosts).eq c.args.self.now x)) same (laws-law.refl c.args.self.now))
