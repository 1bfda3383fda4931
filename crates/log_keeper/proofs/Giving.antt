-- A store is given more of a log.
use Rattle.std.proofs.Common.{◌≡◌, ⊎_elim, ℕ, ◌+◌, ◌-◌, ◌≤◌, List, ◌++◌, length, take, Option, sym, ◌∙◌, ap, subst, arith}
use Rattle.jet_volume.specs.Image.{Image as Files}
use Rattle.jet_volume.specs.Crash.{CrashLeaves, LeavesOnly}
use Rattle.jet_volume.specs.Moments.{started, goes_on_by, leaves_weaker}
use Rattle.checkpoint.specs.declared.image.Standing.{Standing}
use Rattle.store_core.specs.declared.store.Store.{Store}
use Rattle.store_core.specs.Stands.{Checkpoint, Stands, StandsBeforeOrAfter}
use Rattle.store_core.specs.Store.{IsOpened, IsWritable, store_volume, store_end, store_standing}
use Rattle.log_keeper.specs.declared.keeper.LogKeeper.{LogKeeper}
use Rattle.log_keeper.specs.Keeping.{keeper_store, keeper_volume, keeper_given, keeper_block, between, KeepsLog, StandsUpTo, HasNext, TakesBytes}
use Rattle.log_keeper.proofs.Parts.{between_more}

module _ {V : Type 0} (seen : V → Files) (moment : V → ℕ) (left_at : V → ℕ → Files → Type 0) where
  -- the part that stands once the next bytes stand behind it
  part_more : (keeper : LogKeeper V) (checkpoint : Option Checkpoint) (base count : ℕ) (whole bytes : List ℕ) → KeepsLog seen moment left_at keeper checkpoint base whole → HasNext count whole keeper
      → bytes ≡ take count (keeper_block keeper) → between base (keeper_given keeper) whole ++ bytes ≡ between base (keeper_given keeper + count) whole
  part_more keeper checkpoint base count whole bytes keeps next is =
      ap (λ (l : List ℕ). between base (keeper_given keeper) whole ++ l) (is ∙ next.are) ∙ sym (between_more base (keeper_given keeper) count whole keeps.from keeps.within)

  pub keeps_more : (old new : LogKeeper V) (checkpoint : Option Checkpoint) (base count : ℕ) (whole bytes : List ℕ) → KeepsLog seen moment left_at old checkpoint base whole → HasNext count whole old
      → bytes ≡ take count (keeper_block old) → keeper_given new ≡ keeper_given old + count
      → IsWritable seen moment left_at (keeper_store new) checkpoint (between base (keeper_given old) whole ++ bytes) → KeepsLog seen moment left_at new checkpoint base whole
  keeps_more old new checkpoint base count whole bytes keeps next is given written = record {
    from = omega (arith, keeps.from, given);
    within = omega (arith, next.there, given);
    writable = subst (λ (l : List ℕ). IsWritable seen moment left_at (keeper_store new) checkpoint l)
        (part_more old checkpoint base count whole bytes keeps next is ∙ ap (λ (n : ℕ). between base n whole) (sym given)) written;
  }

  -- while they are given
  pub giving : (old : LogKeeper V) (checkpoint : Option Checkpoint) (base count : ℕ) (whole bytes : List ℕ) (before after : V) → KeepsLog seen moment left_at old checkpoint base whole → HasNext count whole old
      → bytes ≡ take count (keeper_block old) → LeavesOnly moment left_at before after (StandsBeforeOrAfter checkpoint (between base (keeper_given old) whole) bytes)
      → LeavesOnly moment left_at before after (StandsUpTo checkpoint base (keeper_given old) (keeper_given old + count) whole)
  giving old checkpoint base count whole bytes before after keeps next is leaves =
      leaves_weaker moment left_at before after (StandsBeforeOrAfter checkpoint (between base (keeper_given old) whole) bytes) (StandsUpTo checkpoint base (keeper_given old) (keeper_given old + count) whole)
      (λ files stands. ⊎_elim
      (λ was. record { at = keeper_given old; since = omega arith; most = omega arith; stands = was })
      (λ is_now. record { at = keeper_given old + count; since = omega arith; most = omega arith; stands = subst (λ (l : List ℕ). Stands checkpoint l files) (part_more old checkpoint base count whole bytes keeps next is) is_now })
      stands) leaves

  -- more may be given later
  up_to_more : (checkpoint : Option Checkpoint) (base low other high most : ℕ) (whole : List ℕ) (before after : V) → low ≤ other → high ≤ most
      → LeavesOnly moment left_at before after (StandsUpTo checkpoint base other high whole) → LeavesOnly moment left_at before after (StandsUpTo checkpoint base low most whole)
  up_to_more checkpoint base low other high most whole before after from to leaves =
      leaves_weaker moment left_at before after (StandsUpTo checkpoint base other high whole) (StandsUpTo checkpoint base low most whole)
      (λ files stands. record { at = stands.at; since = omega (arith, from, stands.since); most = omega (arith, to, stands.most); stands = stands.stands }) leaves

  -- a keeper with the same store, which was given as much
  pub keeps_same : (old new : LogKeeper V) (checkpoint : Option Checkpoint) (base : ℕ) (whole : List ℕ) → keeper_store new ≡ keeper_store old → keeper_given new ≡ keeper_given old
      → KeepsLog seen moment left_at old checkpoint base whole → KeepsLog seen moment left_at new checkpoint base whole
  keeps_same old new checkpoint base whole store given keeps = record {
    from = omega (arith, keeps.from, given);
    within = omega (arith, keeps.within, given);
    writable = subst (λ (s : Store V). IsWritable seen moment left_at s checkpoint (between base (keeper_given new) whole)) (sym store)
        (subst (λ (n : ℕ). IsWritable seen moment left_at (keeper_store old) checkpoint (between base n whole)) (sym given) keeps.writable);
  }

  -- before any block is given
  pub starts_giving : ((store : Store V) (checkpoint : Option Checkpoint) (stream : List ℕ) → IsOpened seen moment left_at store checkpoint stream → CrashLeaves moment left_at (store_volume store) (Stands checkpoint stream))
      → ((store : Store V) (checkpoint : Option Checkpoint) (stream : List ℕ) → IsWritable seen moment left_at store checkpoint stream → IsOpened seen moment left_at store checkpoint stream)
      → (keeper : LogKeeper V) (checkpoint : Option Checkpoint) (base : ℕ) (whole : List ℕ) → KeepsLog seen moment left_at keeper checkpoint base whole
      → LeavesOnly moment left_at (keeper_volume keeper) (keeper_volume keeper) (StandsUpTo checkpoint base (keeper_given keeper) (length whole) whole)
  starts_giving stands opens keeper checkpoint base whole keeps =
      let bytes = between base (keeper_given keeper) whole in
      started moment left_at (keeper_volume keeper) (StandsUpTo checkpoint base (keeper_given keeper) (length whole) whole)
      (λ files left. record { at = keeper_given keeper; since = omega arith; most = keeps.within; stands = stands (keeper_store keeper) checkpoint bytes (opens (keeper_store keeper) checkpoint bytes keeps.writable) files left })

  -- a block more
  pub gives_on : (old at taken new : LogKeeper V) (checkpoint : Option Checkpoint) (base count : ℕ) (whole : List ℕ) → keeper_store taken ≡ keeper_store at → keeper_given taken ≡ keeper_given at
      → keeper_given old ≤ keeper_given at → keeper_given taken + count ≤ length whole
      → LeavesOnly moment left_at (keeper_volume old) (keeper_volume at) (StandsUpTo checkpoint base (keeper_given old) (length whole) whole)
      → LeavesOnly moment left_at (keeper_volume taken) (keeper_volume new) (StandsUpTo checkpoint base (keeper_given taken) (keeper_given taken + count) whole)
      → LeavesOnly moment left_at (keeper_volume old) (keeper_volume new) (StandsUpTo checkpoint base (keeper_given old) (length whole) whole)
  gives_on old at taken new checkpoint base count whole store given rises within so_far gives =
      goes_on_by moment left_at (keeper_volume old) (keeper_volume at) (keeper_volume new) (StandsUpTo checkpoint base (keeper_given old) (length whole) whole) so_far
      (subst (λ (s : Store V). LeavesOnly moment left_at (store_volume s) (keeper_volume new) (StandsUpTo checkpoint base (keeper_given old) (length whole) whole)) store
      (up_to_more checkpoint base (keeper_given old) (keeper_given taken) (keeper_given taken + count) (length whole) whole (keeper_volume taken) (keeper_volume new) (omega (arith, rises, given)) within gives))

-- a store that takes the bytes that are left takes the rest once a block is given
pub takes_more : {V : Type 0} (at taken new : Store V) (left count rest : ℕ) → taken ≡ at → TakesBytes left at → 1 ≤ count → count ≤ left → rest ≡ left - count
    → store_standing new ≡ store_standing taken → (store_end new).generation ≤ (store_end taken).generation + 1 → (store_end new).position ≡ (store_end taken).position + count → TakesBytes rest new
takes_more {V} at taken new left count rest same takes some most is standing generation position = record {
  standing = subst (λ (s : Standing). 1 ≤ s.number) (sym (standing ∙ ap (λ (s : Store V). store_standing s) same)) takes.standing;
  generation = omega (arith, takes.generation, generation, ap (λ (s : Store V). (store_end s).generation) same, some, most, is);
  position = omega (arith, takes.position, position, ap (λ (s : Store V). (store_end s).position) same, most, is);
}
