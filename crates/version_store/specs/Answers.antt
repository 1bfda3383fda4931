-- Places among held changes, and what is told of one.
use Rattle.std.specs.Prelude.{ℕ, List, Option, Some, None, option_copied, slice_get}
use Rattle.version_store.specs.declared.calls.Held.{Held}
use Rattle.version_store.specs.HeldChanges.{HeldChange}
use Rattle.version_store.specs.Items.{state_of}

-- the change at the place
abbrev pub change_at : List HeldChange → Option ℕ → Option HeldChange
change_at changes None = None
change_at changes (Some place) = slice_get changes place

-- the change of which all is told
abbrev pub told_change : Held → HeldChange
told_change held = record {
  number = held.number;
  session = held.session.0;
  level = held.level;
  kind = held.kind;
  table = held.table.0;
  bookmark = held.bookmark.now;
  before = option_copied held.before;
  status = state_of held.status;
}
