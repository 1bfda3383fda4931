use Rattle.std.proofs.Common.{sym, ap, ◌∙◌}
use Rattle.std.specs.Prelude.{option_map}
use Rattle.jet_base.specs.declared.ids.TableId.{TableId}
use Rattle.variant_trees.proofs.Forgotten.{always_first}
use Rattle.variant_trees.proofs.forgetting.forget_oldest.Goals as goal

pub forget_of-requires-clause-first : goal.forget_of-requires-clause-first
forget_of-requires-clause-first c = sym c.oldest_table.ensures ∙ ap (option_map (λ (t : TableId). t.0)) c.in-Some.is

pub returns-in-None-clause-forgotten : goal.returns-in-None-clause-forgotten
returns-in-None-clause-forgotten c = always_first c.args.versions.now c.requires.some (sym (ap (option_map (λ (t : TableId). t.0)) c.in-None.is) ∙ c.oldest_table.ensures)
