use Rattle.std.proofs.Common.{sym, ap, subst, ◌∙◌}
use Rattle.image_contents.specs.NodesLeft.{node_in}
use Rattle.image_contents.specs.ValuePass.{IsWithin, pass_of, passed}
use Rattle.image_contents.proofs.values.whole.Progress.past.Goals as goal

pub past_chunk-requires : goal.past_chunk-requires
past_chunk-requires c = subst (λ p. IsWithin (pass_of p)) c.in-Lacks.is c.requires

pub returns-in-Whole-clause-pass : goal.returns-in-Whole-clause-pass
returns-in-Whole-clause-pass c = c.past_head.ensures.pass ∙ ap (λ p. passed c.args.number (pass_of p) (node_in c.args.node)) (sym c.in-Whole.is)

pub returns-in-Lacks-clause-pass : goal.returns-in-Lacks-clause-pass
returns-in-Lacks-clause-pass c = c.past_chunk.ensures.pass ∙ ap (λ p. passed c.args.number (pass_of p) (node_in c.args.node)) (sym c.in-Lacks.is)

pub returns-in-Broken-clause-pass : goal.returns-in-Broken-clause-pass
returns-in-Broken-clause-pass c = ap (λ p. passed c.args.number (pass_of p) (node_in c.args.node)) (sym c.in-Broken.is)
