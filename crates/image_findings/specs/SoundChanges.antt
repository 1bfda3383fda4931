-- What a held change of a consistent image has.
use Rattle.std.specs.Prelude.{◌≡◌, ◌≤◌, ℕ, true, false, List, Some, None, IfSome, is_some}
use Rattle.btree_inplace.specs.Order.{get_in}
use Rattle.database_state.specs.State.{is_undone}
use Rattle.live_part.specs.LiveBytes.{held_fits}
use Rattle.stored_variants.specs.VersionsKept.{IsRowUnder}
use Rattle.version_cleanup.specs.LiveSessions.{LiveState}
use Rattle.version_store.specs.HeldChanges.{HeldChange, is_rewrite}
use Rattle.image_findings.specs.LiveFindings.{adds_to_sum, is_drop, is_placed}
use Rattle.image_findings.specs.TableContents.{TableContents, contents_with_id, long_values}

-- It stands, is of an entry that was made, and can be written. Its table is there, and its record has a node. It is in its place among the
-- transactions of the sessions. A sum is one of an escrow column. The row before it is one under its bookmark: a drop has one, a lock and
-- a sum have none.
pub record IsSoundChange (number : ℕ) (tables : List TableContents) (sessions : List LiveState) (h : HeldChange) : Type 0 where
  pub t : TableContents
  pub found : contents_with_id tables h.table ≡ Some t
  pub stands : is_undone h.status ≡ false
  pub within : h.number ≤ number
  pub fits : held_fits h ≡ true
  pub node : is_some (get_in t.nodes h.bookmark) ≡ true
  pub placed : is_placed number sessions h h.status ≡ true
  pub adds : adds_to_sum t.table h.kind ≡ true
  pub before : IfSome h.before (IsRowUnder (long_values t) t.table h.bookmark)
  pub drop : is_drop h.kind ≡ true → is_some h.before ≡ true
  pub other : is_rewrite h.kind ≡ false → h.before ≡ None
