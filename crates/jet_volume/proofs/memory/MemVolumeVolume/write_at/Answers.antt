use Rattle.std.proofs.Common.{◌≡◌, [], ℕ, List, length, reverse, inl, inr, ⊎_elim, refl, ◌∙◌, ap, subst}
use Rattle.jet_volume.specs.declared.memory.MemVolume.{MemVolume}
use Rattle.jet_volume.specs.Image.{Image, with_file}
use Rattle.jet_volume.specs.Crash.{written}
use Rattle.jet_volume.specs.Covers.{Covers}
use Rattle.jet_volume.proofs.FileLemmas.{with_file-with_file, with_file-file_bytes}
use Rattle.jet_volume.proofs.Calls.{follows_same, miss_follows, WritesOrNot, write_crash, write_time, write_torn}
use Rattle.jet_volume.proofs.Outcomes.{either}
use Rattle.jet_volume.proofs.memory.MemVolumeVolume.write_at.Goals as goal

-- a scheduled failure is noted, or leaves no trace
pub returns-then-next_fails-clause-crash : goal.returns-then-next_fails-clause-crash
returns-then-next_fails-clause-crash c =
    let new : MemVolume = record { contents = c.args.self.now.contents; calls = c.note_missed.new.calls; schedule = c.next_fails.new.self; faults = c.rise.new.self; short = c.note_missed.new.short } in
    ⊎_elim (λ noted. miss_follows c.args.self.now new c.args.file c.args.at (length c.args.piece.now) noted.0 refl)
    (λ same. follows_same c.args.self.now new c.args.file c.args.at (length c.args.piece.now) (ap reverse same.0) refl)
    c.note_missed.ensures

abbrev after : goal.After-counted → MemVolume
after c = record { contents = c.put.new.self; calls = c.write_noted-outcome.new.calls; schedule = c.next_fails.new.self; faults = c.counted.new.faults; short = c.counted.new.short }

-- the file was taken out, and put back written or as it was
outcome : (c : goal.After-counted) → WritesOrNot c.args.self.now (after c) c.args.file c.args.at c.args.piece.now
outcome c =
    let file = c.args.file in
    let was : Image = c.args.self.now.contents in
    let taken = c.take-bytes.ensures.taken in
    let put : c.put.new.self ≡ with_file file c.write_noted-outcome.new.bytes.items was =
    c.put.ensures ∙ ap (λ (i : Image). with_file file c.write_noted-outcome.new.bytes.items i) c.take-bytes.ensures.rest ∙ with_file-with_file file c.write_noted-outcome.new.bytes.items [] was in
    ⊎_elim
    (λ did. inl (
      did.1.0,
      did.1.1,
      subst (λ (b : List ℕ). Covers c.args.at (length c.args.piece.now) b did.1.0) taken did.1.2,
      put ∙ ap (λ (b : List ℕ). with_file file b was) (did.0 ∙ ap (λ (b : List ℕ). written c.args.at c.args.piece.now b) taken),
    ))
    (λ not. inr (ap reverse not.1, put ∙ ap (λ (b : List ℕ). with_file file b was) (not.0 ∙ taken) ∙ with_file-file_bytes file was))
    (either _ _ _ _ c.write_noted-outcome.result c.write_noted-outcome.ensures.written c.write_noted-outcome.ensures.noted c.write_noted-outcome.ensures.same c.write_noted-outcome.ensures.none)

pub returns-clause-torn : goal.returns-clause-torn
returns-clause-torn c = write_torn c.args.self.now (after c) c.args.file c.args.at c.args.piece.now (outcome c)

pub returns-clause-crash : goal.returns-clause-crash
returns-clause-crash c = write_crash c.args.self.now (after c) c.args.file c.args.at c.args.piece.now (outcome c)

pub returns-clause-time : goal.returns-clause-time
returns-clause-time c = write_time c.args.self.now (after c) c.args.file c.args.at c.args.piece.now (outcome c)
