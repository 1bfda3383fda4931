use Rattle.std.proofs.Common.{◌≡◌, List, ℕ, reverse, sym, ◌∙◌, ap, subst}
use Rattle.jet_volume.specs.declared.files.File.TheVariants.{Database, CheckpointA, CheckpointB, Log}
use Rattle.jet_volume.specs.Image.{Image, file_bytes}
use Rattle.jet_volume.specs.Record.{MayHold, MayLeave, changes_of, settled_bytes}
use Rattle.jet_volume.proofs.FileLemmas.{each_file, same_image}
use Rattle.jet_volume.proofs.crash.crashed.Goals as goal

pub returns-clause-may : goal.returns-clause-may
returns-clause-may c =
    let calls = reverse c.args.calls.now in
    subst (λ (i : Image). MayLeave c.args.contents.now calls i) (sym c.of_files.ensures)
    (each_file (λ f. MayHold (file_bytes f c.args.contents.now) (changes_of f calls)
    (file_bytes f (record { database = c.in_ok-database.database.items; checkpoint_a = c.in_ok-checkpoint_a.checkpoint_a.items; checkpoint_b = c.in_ok-checkpoint_b.checkpoint_b.items; log = c.in_ok-log.log.items })))
    (subst (λ (b : List ℕ). MayHold b (changes_of Database calls) c.in_ok-database.database.items) c.get.ensures c.in_ok-database.ensures.may)
    (subst (λ (b : List ℕ). MayHold b (changes_of CheckpointA calls) c.in_ok-checkpoint_a.checkpoint_a.items) c.get-2.ensures c.in_ok-checkpoint_a.ensures.may)
    (subst (λ (b : List ℕ). MayHold b (changes_of CheckpointB calls) c.in_ok-checkpoint_b.checkpoint_b.items) c.get-3.ensures c.in_ok-checkpoint_b.ensures.may)
    (subst (λ (b : List ℕ). MayHold b (changes_of Log calls) c.in_ok-log.log.items) c.get-4.ensures c.in_ok-log.ensures.may))

pub returns-clause-whole : goal.returns-clause-whole
returns-clause-whole c is =
    c.of_files.ensures ∙ same_image _ c.args.contents.now (each_file (λ f. file_bytes f (record { database = c.in_ok-database.database.items; checkpoint_a = c.in_ok-checkpoint_a.checkpoint_a.items; checkpoint_b = c.in_ok-checkpoint_b.checkpoint_b.items; log = c.in_ok-log.log.items }) ≡ file_bytes f c.args.contents.now)
    (c.in_ok-database.ensures.whole is ∙ c.get.ensures) (c.in_ok-checkpoint_a.ensures.whole is ∙ c.get-2.ensures)
    (c.in_ok-checkpoint_b.ensures.whole is ∙ c.get-3.ensures) (c.in_ok-log.ensures.whole is ∙ c.get-4.ensures))

pub returns-clause-settled : goal.returns-clause-settled
returns-clause-settled c is =
    let calls = reverse c.args.calls.now in
    each_file (λ f. file_bytes f c.of_files.result ≡ settled_bytes (file_bytes f c.args.contents.now) (changes_of f calls))
    (ap (λ (i : Image). i.database) c.of_files.ensures ∙ c.in_ok-database.ensures.settled is ∙ ap (λ (b : List ℕ). settled_bytes b (changes_of Database calls)) c.get.ensures)
    (ap (λ (i : Image). i.checkpoint_a) c.of_files.ensures ∙ c.in_ok-checkpoint_a.ensures.settled is ∙ ap (λ (b : List ℕ). settled_bytes b (changes_of CheckpointA calls)) c.get-2.ensures)
    (ap (λ (i : Image). i.checkpoint_b) c.of_files.ensures ∙ c.in_ok-checkpoint_b.ensures.settled is ∙ ap (λ (b : List ℕ). settled_bytes b (changes_of CheckpointB calls)) c.get-3.ensures)
    (ap (λ (i : Image). i.log) c.of_files.ensures ∙ c.in_ok-log.ensures.settled is ∙ ap (λ (b : List ℕ). settled_bytes b (changes_of Log calls)) c.get-4.ensures)
