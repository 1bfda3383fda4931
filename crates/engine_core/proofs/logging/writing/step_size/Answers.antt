use Rattle.std.proofs.Common.{length, Some, ap, ◌∙◌, arith}
use Rattle.index_derive.specs.declared.log.Step.{Step}
use Rattle.index_derive.specs.Steps.{entries_of_step}
use Rattle.log_grammar.specs.EntryStreams.{stream_bytes}
use Rattle.engine_core.proofs.StepBytes.{alone_size}
use Rattle.engine_core.proofs.logging.writing.step_size.Goals as goal

pub returns-in-Alone-clause-value : goal.returns-in-Alone-clause-value
returns-in-Alone-clause-value c =
    let sized = ap (λ (s : Step). length (stream_bytes (entries_of_step (Some s)))) c.in-Alone.is ∙ alone_size c.in-Alone.made in
    omega (arith, sized, c.entry_size-in-Alone.ensures.value)
