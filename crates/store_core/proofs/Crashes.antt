-- What a crash leaves while a store changes its volume.
use Rattle.std.proofs.Common.{◌≡◌, ◌≢◌, ℕ, ◌+◌, ◌≤◌, true, List, [], ◌∷◌, Option, Some, None, refl, sym, ◌∙◌, ap, subst, arith}
use Rattle.jet_volume.specs.declared.files.LogStart.{LogStart}
use Rattle.jet_volume.specs.Image.{Image}
use Rattle.jet_volume.specs.Crash.{CrashLeaves, LeavesOnly}
use Rattle.jet_volume.specs.Moments.{started, leaves_weaker, leaves_now}
use Rattle.log_ring.specs.Blocks.{next_block, Leads, Scans}
use Rattle.log_ring.specs.Gates.{is_barred}
use Rattle.log_ring.specs.Ready.{IsReady}
use Rattle.log_ring.specs.Appends.{Gives}
use Rattle.log_ring.specs.Ring.{ring_standing, IsRingOf}
use Rattle.checkpoint.specs.declared.image.Standing.{Standing}
use Rattle.log_ring.specs.Writes.{ChangesLog, LogGoes, LooksOnly}
use Rattle.checkpoint.specs.Shape.{IsStanding}
use Rattle.checkpoint.specs.Steps.{EachFollows, KeepsOrBrings}
use Rattle.store_core.specs.declared.store.Store.{Store}
use Rattle.store_core.specs.Stands.{Checkpoint, contents_in_slots, first_start, start_of, ShowsIn, Stands, StandsOldOrNew}
use Rattle.store_core.specs.Store.{store_volume, store_ring, store_end, store_standing, IsCopyOf, Bears, IsOpened, IsWritable}
use Rattle.store_core.proofs.Shows.{shows_still, numbered, stands_by, old_or_new, log_kept}

-- a scan of an empty log ends where it begins
nothing_leads : (blocks : List (LogStart × List ℕ)) (end : LogStart) → Leads 1 [] first_start blocks end → first_start ≡ end
nothing_leads [] end is = is
nothing_leads (block ∷ blocks) end leads = absurd (never leads.0)
  where
    never : next_block 1 [] first_start ≡ Some block → ⊥
    never e = cc

-- the log of a new volume can be appended to
new_ready : (log stream : List ℕ) (end : LogStart) → log ≡ [] → Scans log first_start stream end → IsReady log first_start stream end
new_ready log stream end empty scans =
    let at : first_start ≡ end = nothing_leads scans.blocks end (subst (λ (l : List ℕ). Leads 1 l first_start scans.blocks end) empty scans.leads) in
    record {
      scans = scans;
      barred = subst (λ (l : List ℕ). is_barred (end.generation + 1) l ≡ true) (sym empty) (subst (λ (e : LogStart). is_barred (e.generation + 1) [] ≡ true) at refl);
      closed = λ some. absurd (omega (arith, some, ap (λ (e : LogStart). e.offset) at));
    }

-- the log behind a checkpoint begins in a generation from 1 on
pub began : (checkpoint : Option Checkpoint) (standing : Standing) (generation : ℕ) → IsCopyOf checkpoint standing → generation ≡ standing.start.generation → 1 ≤ generation → 1 ≤ (start_of checkpoint).generation
began checkpoint standing generation copy follows first =
    subst (λ (n : ℕ). 1 ≤ n) (follows ∙ ap (λ (s : LogStart). s.generation) copy.start) first

module _ {V : Type 0} (seen : V → Image) (moment : V → ℕ) (left_at : V → ℕ → Image → Type 0) where
  -- no call of the volume
  pub unmoved : (volume : V) (P : Image → Type 0) → CrashLeaves moment left_at volume P → LeavesOnly moment left_at volume volume P
  unmoved volume P now = started moment left_at volume P now

  -- what an opened store stands for
  pub opened_stands : (store : Store V) (checkpoint : Option Checkpoint) (stream : List ℕ) → IsOpened seen moment left_at store checkpoint stream
      → CrashLeaves moment left_at (store_volume store) (Stands checkpoint stream)
  opened_stands store checkpoint stream is = λ image left. record {
    slots = (store_standing store).slots.items;
    shows = is.bears.shows image left;
    gives = (store_end store, subst (λ (l : List ℕ). Scans l (start_of checkpoint) stream (store_end store)) (sym (is.is.left image left)) is.scans);
  }

  -- a store that can be written is an opened one
  pub writable_opened : (store : Store V) (checkpoint : Option Checkpoint) (stream : List ℕ) → IsWritable seen moment left_at store checkpoint stream → IsOpened seen moment left_at store checkpoint stream
  writable_opened store checkpoint stream is = record { bears = is.bears; log = is.ring.log; is = is.ring.is; scans = is.ring.ready.scans }

  pub writable_stands : (store : Store V) (checkpoint : Option Checkpoint) (stream : List ℕ) → IsWritable seen moment left_at store checkpoint stream
      → CrashLeaves moment left_at (store_volume store) (Stands checkpoint stream)
  writable_stands store checkpoint stream is = opened_stands store checkpoint stream (writable_opened store checkpoint stream is)

  -- a change of the log leaves the checkpoint
  pub shows_after : (old new : V) (step : List ℕ → List ℕ → Type 0) (slots : List ℕ) (c : Checkpoint) → LogGoes moment left_at step old new
      → CrashLeaves moment left_at old (ShowsIn slots (Some c)) → CrashLeaves moment left_at new (ShowsIn slots (Some c))
  shows_after old new step slots c goes shows = λ image left.
      let one = leaves_now moment left_at old new (ChangesLog moment left_at old step) goes image left in
      shows_still slots c one.from image one.others (shows one.from one.left)

  -- and at each moment of it
  pub stands_while : (old new : V) (step : List ℕ → List ℕ → Type 0) (slots : List ℕ) (c : Checkpoint) (P : Image → Type 0) → LogGoes moment left_at step old new
      → CrashLeaves moment left_at old (ShowsIn slots (Some c)) → ((from : List ℕ) (image : Image) → ShowsIn slots (Some c) image → step from image.log → P image) → LeavesOnly moment left_at old new P
  stands_while old new step slots c P goes shows then =
      leaves_weaker moment left_at old new (ChangesLog moment left_at old step) P
      (λ image one. then one.from.log image (shows_still slots c one.from image one.others (shows one.from one.left)) one.log) goes

  -- the copy in memory is what a crash leaves
  pub bears_standing : (store : Store V) (checkpoint : Option Checkpoint) → Bears seen moment left_at store checkpoint → CrashLeaves moment left_at (store_volume store) (IsStanding (store_standing store))
  bears_standing store checkpoint bears = λ image left. stands_by checkpoint (store_standing store) image bears.copy (bears.shows image left)

  -- while the next checkpoint is written
  pub checkpoint_stands : (old new : V) (checkpoint : Option Checkpoint) (stream : List ℕ) (c : Checkpoint) (slots log : List ℕ)
      → CrashLeaves moment left_at old (ShowsIn slots checkpoint) → CrashLeaves moment left_at old (λ image. image.log ≡ log) → Gives (start_of checkpoint) stream log → Gives c.start [] log
      → EachFollows moment left_at (KeepsOrBrings (λ s. contents_in_slots s c) c.pages) old new → LeavesOnly moment left_at old new (StandsOldOrNew checkpoint stream c)
  checkpoint_stands old new checkpoint stream c slots log shows is gives none follows =
      leaves_weaker moment left_at old new
      (λ image. (before : Image) × left_at old (moment old) before × KeepsOrBrings (λ s. contents_in_slots s c) c.pages before image) (StandsOldOrNew checkpoint stream c)
      (λ image one. old_or_new checkpoint stream c slots log one.0 image (shows one.0 one.1) (is one.0 one.1) gives none one.2) follows

  -- the log stays meanwhile
  pub checkpoint_log : (old new : V) (c : Checkpoint) (log : List ℕ) → CrashLeaves moment left_at old (λ image. image.log ≡ log)
      → EachFollows moment left_at (KeepsOrBrings (λ s. contents_in_slots s c) c.pages) old new → CrashLeaves moment left_at new (λ image. image.log ≡ log)
  checkpoint_log old new c log is follows = λ image left.
      let one = leaves_now moment left_at old new (λ i. (before : Image) × left_at old (moment old) before × KeepsOrBrings (λ s. contents_in_slots s c) c.pages before i) follows image left in
      log_kept (λ s. contents_in_slots s c) c.pages one.0 image one.2 ∙ is one.0 one.1

  -- a volume that is new needs no seal
  pub new_writable : (store : Store V) (checkpoint : Option Checkpoint) (stream : List ℕ) → (store_standing store).number ≡ 0 → ring_standing (store_ring store) ≡ (store_standing store).start.generation
      → left_at (store_volume store) (moment (store_volume store)) (seen (store_volume store)) → IsOpened seen moment left_at store checkpoint stream → IsWritable seen moment left_at store checkpoint stream
  new_writable store None stream zero follows here is =
      let empty : is.log ≡ [] = sym is.is.read ∙ (is.bears.shows (seen (store_volume store)) here).no_log in
      record {
        bears = is.bears;
        ring = record {
          log = is.log;
          is = is.is;
          ready = new_ready is.log stream (store_end store) empty is.scans;
          standing = follows ∙ ap (λ (s : LogStart). s.generation) is.bears.copy.start;
        };
      }
  new_writable store (Some c) stream zero follows here is =
      let number : c.number ≡ 0 = sym is.bears.copy.number ∙ zero in
      let one : 1 ≤ c.number = numbered (store_standing store).slots.items c (seen (store_volume store)) (is.bears.shows (seen (store_volume store)) here) in
      absurd (omega (arith, number, one))

  -- the ring of a store with a checkpoint has changed its log
  pub ring_changed : (old new : Store V) (checkpoint : Option Checkpoint) (stream : List ℕ) (step : List ℕ → List ℕ → Type 0) → store_standing new ≡ store_standing old → (store_standing old).number ≢ 0
      → Bears seen moment left_at old checkpoint → LogGoes moment left_at step (store_volume old) (store_volume new)
      → IsRingOf seen moment left_at (store_volume new) (store_ring new) (start_of checkpoint) stream → IsWritable seen moment left_at new checkpoint stream
  ring_changed old new None stream step same some bears goes ring = absurd (some bears.copy.number)
  ring_changed old new (Some c) stream step same some bears goes ring = record {
    bears = record {
      shows = subst (λ (s : Standing). CrashLeaves moment left_at (store_volume new) (ShowsIn s.slots.items (Some c))) (sym same)
          (shows_after (store_volume old) (store_volume new) step (store_standing old).slots.items c goes bears.shows);
      copy = subst (λ (s : Standing). IsCopyOf (Some c) s) (sym same) bears.copy;
    };
    ring = ring;
  }

  -- and at each moment of it
  pub ring_stands : (old : Store V) (new : V) (checkpoint : Option Checkpoint) (step : List ℕ → List ℕ → Type 0) (P : Image → Type 0) → (store_standing old).number ≢ 0
      → Bears seen moment left_at old checkpoint → LogGoes moment left_at step (store_volume old) new
      → ((from : List ℕ) (image : Image) → ShowsIn (store_standing old).slots.items checkpoint image → step from image.log → P image) → LeavesOnly moment left_at (store_volume old) new P
  ring_stands old new None step P some bears goes then = absurd (some bears.copy.number)
  ring_stands old new (Some c) step P some bears goes then = stands_while (store_volume old) new step (store_standing old).slots.items c P goes bears.shows then

  -- a volume that was scanned is opened
  pub scanned_opened : (volume : V) (store : Store V) (checkpoint : Option Checkpoint) (stream : List ℕ) (end : LogStart) → LooksOnly moment left_at volume (store_volume store) → seen (store_volume store) ≡ seen volume
      → IsCopyOf checkpoint (store_standing store) → CrashLeaves moment left_at volume (ShowsIn (store_standing store).slots.items checkpoint) → CrashLeaves moment left_at volume (λ image. image.log ≡ (seen volume).log)
      → Scans (seen volume).log (store_standing store).start stream end → store_end store ≡ end → IsOpened seen moment left_at store checkpoint stream
  scanned_opened volume store checkpoint stream end looks same copy shows log scans at =
      let was : CrashLeaves moment left_at (store_volume store) (left_at volume (moment volume)) = leaves_now moment left_at volume (store_volume store) (left_at volume (moment volume)) looks in
      record {
        bears = record { shows = λ image left. shows image (was image left); copy = copy };
        log = (seen volume).log;
        is = record { read = ap (λ (i : Image). i.log) same; left = λ image left. log image (was image left) };
        scans = subst (λ (from : LogStart). Scans (seen volume).log from stream (store_end store)) copy.start
            (subst (λ (e : LogStart). Scans (seen volume).log (store_standing store).start stream e) (sym at) scans);
      }

  -- the next checkpoint is written
  pub checkpoint_writable : (old new : Store V) (checkpoint : Option Checkpoint) (stream : List ℕ) (c : Checkpoint) → IsWritable seen moment left_at old checkpoint stream
      → ((log : List ℕ) → IsReady log (start_of checkpoint) stream (store_end old) → IsReady log (store_end old) [] (store_end old))
      → c.start ≡ store_end old → store_end new ≡ store_end old → ring_standing (store_ring new) ≡ (store_end old).generation
      → CrashLeaves moment left_at (store_volume new) (ShowsIn (store_standing new).slots.items (Some c)) → IsCopyOf (Some c) (store_standing new)
      → (seen (store_volume new)).log ≡ (seen (store_volume old)).log → EachFollows moment left_at (KeepsOrBrings (λ s. contents_in_slots s c) c.pages) (store_volume old) (store_volume new)
      → IsWritable seen moment left_at new (Some c) []
  checkpoint_writable old new checkpoint stream c is goes_on start end standing shows copy same follows =
      let log = is.ring.log in
      let ready : IsReady log (store_end old) [] (store_end old) = goes_on log is.ring.ready in
      let from : IsReady log c.start [] (store_end old) = subst (λ (s : LogStart). IsReady log s [] (store_end old)) (sym start) ready in
      record {
        bears = record { shows = shows; copy = copy };
        ring = record {
          log = log;
          is = record { read = same ∙ is.ring.is.read; left = checkpoint_log (store_volume old) (store_volume new) c log is.ring.is.left follows };
          ready = subst (λ (e : LogStart). IsReady log c.start [] e) (sym end) from;
          standing = standing ∙ ap (λ (s : LogStart). s.generation) (sym start);
        };
      }

  -- and at each moment of it
  pub checkpoint_moments : (old : Store V) (new : V) (checkpoint : Option Checkpoint) (stream : List ℕ) (c : Checkpoint) → IsWritable seen moment left_at old checkpoint stream
      → ((log : List ℕ) → IsReady log (start_of checkpoint) stream (store_end old) → IsReady log (store_end old) [] (store_end old))
      → c.start ≡ store_end old → EachFollows moment left_at (KeepsOrBrings (λ s. contents_in_slots s c) c.pages) (store_volume old) new
      → LeavesOnly moment left_at (store_volume old) new (StandsOldOrNew checkpoint stream c)
  checkpoint_moments old new checkpoint stream c is goes_on start follows =
      let log = is.ring.log in
      let none : Gives c.start [] log = (store_end old, subst (λ (s : LogStart). Scans log s [] (store_end old)) (sym start) (goes_on log is.ring.ready).scans) in
      checkpoint_stands (store_volume old) new checkpoint stream c (store_standing old).slots.items log is.bears.shows is.ring.is.left (store_end old, is.ring.ready.scans) none follows

  -- a new volume that was scanned can be written
  pub new_scanned : (volume : V) (store : Store V) (stream : List ℕ) (end : LogStart) → LooksOnly moment left_at volume (store_volume store) → seen (store_volume store) ≡ seen volume
      → IsCopyOf None (store_standing store) → CrashLeaves moment left_at volume (ShowsIn (store_standing store).slots.items None)
      → left_at volume (moment volume) (seen volume) → left_at (store_volume store) (moment (store_volume store)) (seen (store_volume store))
      → Scans (seen volume).log (store_standing store).start stream end → store_end store ≡ end → ring_standing (store_ring store) ≡ (store_standing store).start.generation
      → IsWritable seen moment left_at store None stream
  new_scanned volume store stream end looks same copy shows before here scans at follows =
      new_writable store None stream copy.number follows here
      (scanned_opened volume store None stream end looks same copy shows (λ image left. (shows image left).no_log ∙ sym (shows (seen volume) before).no_log) scans at)
