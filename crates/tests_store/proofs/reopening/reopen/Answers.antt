use Rattle.std.proofs.Common.{◌≡◌, ◌⊎◌, inl, inr, ℕ, ◌+◌, true, Result, Ok, Err, List, [], ◌++◌, Option, Some, sym, ◌∙◌, ap, subst}
use Rattle.std.specs.Prelude.{is_ok, OnOk}
use Rattle.jet_volume.specs.declared.memory.MemVolume.{MemVolume}
use Rattle.jet_volume.specs.Image.{Image as Files}
use Rattle.jet_volume.specs.Memory.{mem_seen, mem_moment, mem_left_at}
use Rattle.jet_volume.specs.Moments.{leaves_now}
use Rattle.checkpoint.specs.declared.image.Standing.{Standing}
use Rattle.store_core.specs.Stands.{Checkpoint, number_of, Stands}
use Rattle.store_core.specs.Store.{store_volume, store_standing, checkpoint_found}
use Rattle.store_core.specs.Runs.{StandsOnTheWay}
use Rattle.tests_store.proofs.reopening.reopen.Goals as goal

-- what a success says
on_ok_at : {T E : Type 0} (r : Result T E) (P : Type 0) → is_ok r ≡ true → OnOk r P → P
on_ok_at (Ok x) P is p = p
on_ok_at (Err e) P is p = cc

-- what stands is found, in each case
found_again : (checkpoint : Option Checkpoint) (stream first : List ℕ) (next : Checkpoint) (second after : List ℕ) (files : Files) (number number_after : ℕ) → number_of checkpoint ≡ number → next.number ≡ number + 1
    → ((k : Option Checkpoint) (s : List ℕ) → Stands k s files → (number_after ≡ number_of k) × (after ≡ s)) → StandsOnTheWay checkpoint stream first next second files
    → ((number_after ≡ number) × ((after ≡ stream) ⊎ (after ≡ stream ++ first))) ⊎ ((number_after ≡ number + 1) × ((after ≡ []) ⊎ (after ≡ second)))
found_again checkpoint stream first next second after files number number_after was is finds (inl (inl stands)) =
    let found = finds checkpoint stream stands in inl (found.0 ∙ was, inl found.1)
found_again checkpoint stream first next second after files number number_after was is finds (inl (inr stands)) =
    let found = finds checkpoint (stream ++ first) stands in inl (found.0 ∙ was, inr found.1)
found_again checkpoint stream first next second after files number number_after was is finds (inr (inl stands)) =
    let found = finds (Some next) [] stands in inr (found.0 ∙ is, inl found.1)
found_again checkpoint stream first next second after files number number_after was is finds (inr (inr stands)) =
    let found = finds (Some next) second stands in inr (found.0 ∙ is, inr found.1)

pub returns-in-Ok-open-clause-kept : goal.returns-in-Ok-open-clause-kept
returns-in-Ok-open-clause-kept c settled =
    let first = c.args.first.now in
    let second = c.args.second.now in
    let stream = c.in-Ok.before.items in
    let after = c.in-Ok-open.after.items in
    let checkpoint = checkpoint_found c.in-Ok._found (store_standing c.in-Ok.store) in
    let files = mem_seen c.in-Ok-crash.left in
    let opened = c.in-Ok.ensures.opened tt settled in
    let way = c.seal_flush_checkpoint_flush.ensures.any_moment tt checkpoint stream opened in
    let next : Checkpoint = way.0 in
    let left : mem_left_at (store_volume c.seal_flush_checkpoint_flush.new.store) (mem_moment (store_volume c.seal_flush_checkpoint_flush.new.store)) files =
    subst (λ (v : MemVolume). mem_left_at v (mem_moment v) files) c.into_volume.ensures c.in-Ok-crash.ensures.image in
    let stands : StandsOnTheWay checkpoint stream first next second files =
    leaves_now mem_moment mem_left_at (store_volume c.in-Ok.store) (store_volume c.seal_flush_checkpoint_flush.new.store) (StandsOnTheWay checkpoint stream first next second) way.2 files left in
    let again = c.in-Ok-open.ensures.opened tt c.in-Ok-crash.ensures.settled in
    let same : (store_standing c.in-Ok.store).number ≡ c.standing.result.now.number = sym (ap (λ (s : Standing). s.number) c.standing.ensures) in
    found_again checkpoint stream first next second after files c.standing.result.now.number c.standing-in-Ok-open.result.now.number (sym opened.bears.copy.number ∙ same)
    (ap (λ (k : Checkpoint). k.number) way.1.is ∙ ap (λ (n : ℕ). n + 1) same)
    (λ k s stand.
    let found = c.in-Ok-open.ensures.finds tt k s stand in
    (ap (λ (t : Standing). t.number) c.standing-in-Ok-open.ensures ∙ again.bears.copy.number ∙ ap number_of found.0, found.1))
    stands

pub returns-in-Ok-open-clause-acknowledged : goal.returns-in-Ok-open-clause-acknowledged
returns-in-Ok-open-clause-acknowledged c settled told =
    let second = c.args.second.now in
    let stream = c.in-Ok.before.items in
    let checkpoint = checkpoint_found c.in-Ok._found (store_standing c.in-Ok.store) in
    let files = mem_seen c.in-Ok-crash.left in
    let opened = c.in-Ok.ensures.opened tt settled in
    let done = on_ok_at c.seal_flush_checkpoint_flush.result _ (sym c.is_ok-acknowledged.ensures.value ∙ told) (c.seal_flush_checkpoint_flush.ensures.done tt checkpoint stream opened) in
    let next : Checkpoint = done.0 in
    let store = c.seal_flush_checkpoint_flush.new.store in
    let left : mem_left_at (store_volume store) (mem_moment (store_volume store)) files = subst (λ (v : MemVolume). mem_left_at v (mem_moment v) files) c.into_volume.ensures c.in-Ok-crash.ensures.image in
    let stands : Stands (Some next) second files = c.opened_stores_stand.ensures.stands store (Some next) second (c.opened_stores_stand.ensures.opened store (Some next) second done.2) files left in
    let again = c.in-Ok-open.ensures.opened tt c.in-Ok-crash.ensures.settled in
    let same : (store_standing c.in-Ok.store).number ≡ c.standing.result.now.number = sym (ap (λ (s : Standing). s.number) c.standing.ensures) in
    let found = c.in-Ok-open.ensures.finds tt (Some next) second stands in (
      ap (λ (t : Standing). t.number) c.standing-in-Ok-open.ensures ∙ again.bears.copy.number ∙ ap number_of found.0 ∙ ap (λ (k : Checkpoint). k.number) done.1.is ∙ ap (λ (n : ℕ). n + 1) same,
      found.1,
    )
