use Rattle.std.proofs.Common.{Ok, Err, ℕ, inl, inr, refl, sym, subst, ◌∙◌}
use Rattle.std.specs.Prelude.{⊤}
use Rattle.std.specs.Process.{exit_status}
use Rattle.folder_volume.specs.Disk.{disk_faults}
use Rattle.jet_volume.specs.Image.{no_bytes}
use Rattle.memory_volume.specs.Memory.{memory_faults, memory_left_at, memory_moment, memory_seen}
use Rattle.esentutl.specs.declared.process.WordsFault.TheVariants as fault
use Rattle.esentutl.specs.Process.{CallEnds}
use Rattle.esentutl.specs.Words.{words_of}
use Rattle.esentutl.proofs.NewVolumes.{never_refused, only_empty, only_new}
use Rattle.esentutl.proofs.Processes.{ends_before_all, files_end, new_volume_ends}
use Rattle.esentutl.proofs.process.end_words.Goals as goal

pub returns-then-is_in_memory : goal.returns-then-is_in_memory
returns-then-is_in_memory g c =
    let ends = c.end_over.ensures in
    let after : ℕ = memory_faults ends.0 in (
      after,
      ends.1,
      inl (new_volume_ends ⊤ memory_seen memory_moment memory_left_at c.new.result ends.0 (words_of c.args.words.now) (λ (n : ℕ). record {
        left_before = g.S.Source.left c.args.script.now;
        left_after = g.S.Source.left c.end_over.new.script;
        source_before = g.S.Source.faults c.args.script.now;
        source_after = g.S.Source.faults c.end_over.new.script;
        taken_before = g.K.Sink.taken c.args.out.now;
        taken_after = g.K.Sink.taken c.end_over.new.out;
        sink_before = g.K.Sink.faults c.args.out.now;
        sink_after = g.K.Sink.faults c.end_over.new.out;
        volume_before = n;
        volume_after = after;
      }) (exit_status c.end_over.result.0) (memory_faults c.new.result) tt
          (only_empty c.files_recover_to_one_state.ensures (memory_seen c.new.result) c.new.ensures.files)
          (never_refused c.files_are_refused_for_one_cause.ensures.recovered (memory_seen c.new.result) c.new.ensures.files)
          (only_new c.one_checkpoint_stands_on_files.ensures (memory_seen c.new.result) c.new.ensures.files)
          c.new.ensures.faults ends.2),
    )

pub returns-in-Ok : goal.returns-in-Ok
returns-in-Ok g c =
    let ends = c.end_over-in-Ok.ensures in
    let after : ℕ = disk_faults ends.0 in (
      after,
      ends.1,
      inl (files_end ⊥ (λ v. no_bytes) (λ v. 0) (λ v k image. ⊥) c.new-in-Ok.result ends.0 (words_of c.args.words.now) (λ (n : ℕ). record {
        left_before = g.S.Source.left c.args.script.now;
        left_after = g.S.Source.left c.end_over-in-Ok.new.script;
        source_before = g.S.Source.faults c.args.script.now;
        source_after = g.S.Source.faults c.end_over-in-Ok.new.script;
        taken_before = g.K.Sink.taken c.args.out.now;
        taken_after = g.K.Sink.taken c.end_over-in-Ok.new.out;
        sink_before = g.K.Sink.faults c.args.out.now;
        sink_after = g.K.Sink.faults c.end_over-in-Ok.new.out;
        volume_before = n;
        volume_after = after;
      }) (exit_status c.end_over-in-Ok.result.0) (disk_faults c.new-in-Ok.result)
          (sym c.is_in_memory.ensures ∙ c.if-is_in_memory.false) c.new-in-Ok.ensures ends.2),
    )

pub returns-in-None : goal.returns-in-None
returns-in-None g c =
    let ends = c.end_over-in-None.ensures in
    let after : ℕ = memory_faults ends.0 in (
      after,
      ends.1,
      inl (new_volume_ends ⊤ memory_seen memory_moment memory_left_at c.new-in-None.result ends.0 (words_of c.args.words.now) (λ (n : ℕ). record {
        left_before = g.S.Source.left c.args.script.now;
        left_after = g.S.Source.left c.end_over-in-None.new.script;
        source_before = g.S.Source.faults c.args.script.now;
        source_after = g.S.Source.faults c.end_over-in-None.new.script;
        taken_before = g.K.Sink.taken c.args.out.now;
        taken_after = g.K.Sink.taken c.end_over-in-None.new.out;
        sink_before = g.K.Sink.faults c.args.out.now;
        sink_after = g.K.Sink.faults c.end_over-in-None.new.out;
        volume_before = n;
        volume_after = after;
      }) (exit_status c.end_over-in-None.result.0) (memory_faults c.new-in-None.result) tt
          (only_empty c.files_recover_to_one_state.ensures (memory_seen c.new-in-None.result) c.new-in-None.ensures.files)
          (never_refused c.files_are_refused_for_one_cause.ensures.recovered (memory_seen c.new-in-None.result) c.new-in-None.ensures.files)
          (only_new c.one_checkpoint_stands_on_files.ensures (memory_seen c.new-in-None.result) c.new-in-None.ensures.files)
          c.new-in-None.ensures.faults ends.2),
    )

pub returns-in-Err : goal.returns-in-Err
returns-in-Err g c =
    let left = g.S.Source.left c.args.script.now in
    let taken = g.K.Sink.taken c.args.out.now in (
      0,
      refl,
      inr (subst (λ (status : ℕ). CallEnds (Err fault.Memory)
          (record {
            left_before = left;
            left_after = left;
            source_before = g.S.Source.faults c.args.script.now;
            source_after = g.S.Source.faults c.args.script.now;
            taken_before = taken;
            taken_after = taken;
            sink_before = g.K.Sink.faults c.args.out.now;
            sink_after = g.K.Sink.faults c.args.out.now;
            volume_before = 0;
            volume_after = 0;
          }) status) (sym c.from.ensures) (ends_before_all left taken (g.S.Source.faults c.args.script.now) (g.K.Sink.faults c.args.out.now))),
    )
