use Rattle.std.proofs.Common.{length, Some, ap, ◌∙◌, arith}
use Rattle.index_derive.specs.declared.log.Step.{Step}
use Rattle.index_derive.specs.Steps.{entries_of_step}
use Rattle.log_grammar.specs.EntryStreams.{stream_bytes}
use Rattle.engine_core.proofs.StepBytes.{alone_size}
use Rattle.engine_core.proofs.logging.writing.write.Goals as goal

pub write_alone-requires-clause-room : goal.write_alone-requires-clause-room
write_alone-requires-clause-room c =
    let sized = ap (λ (s : Step). length (stream_bytes (entries_of_step (Some s)))) c.in-Alone.is ∙ alone_size c.in-Alone.made in
    omega (arith, sized, c.requires.room)

pub write_alone-requires-clause-position : goal.write_alone-requires-clause-position
write_alone-requires-clause-position c =
    let sized = ap (λ (s : Step). length (stream_bytes (entries_of_step (Some s)))) c.in-Alone.is ∙ alone_size c.in-Alone.made in
    omega (arith, sized, c.requires.position)

pub returns-in-Alone-clause-room : goal.returns-in-Alone-clause-room
returns-in-Alone-clause-room c =
    let sized = ap (λ (s : Step). length (stream_bytes (entries_of_step (Some s)))) c.in-Alone.is ∙ alone_size c.in-Alone.made in
    omega (arith, sized, c.write_alone.ensures.room)
