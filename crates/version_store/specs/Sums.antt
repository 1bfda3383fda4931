-- The sums on a column of a record that a reader does not see.
use Rattle.std.specs.Prelude.{ℕ, ◌+◌, ◌%◌, ◌^◌, ◌==◌, ◌&&◌, List, [], ◌∷◌, if◌then◌else◌}
use Rattle.std.specs.Int.{w32, cast_unsigned}
use Rattle.version_store.specs.declared.calls.ChangeKind.{ChangeKind}
use Rattle.version_store.specs.declared.calls.ChangeKind.TheVariants as kind
use Rattle.version_store.specs.declared.calls.Reader.{Reader}
use Rattle.version_store.specs.HeldChanges.{HeldChange, is_record, is_rewrite, is_unseen}

-- what a change adds to the column, as a number of 32 bits
abbrev pub amount_on : ℕ → ChangeKind → ℕ
amount_on column kind.Put = 0
amount_on column kind.Drop = 0
amount_on column kind.Hold = 0
amount_on column (kind.Add other amount) = if other.0 == column then cast_unsigned w32 amount else 0

-- A change before others, of which this much is not seen: a put or a drop of the record that the reader does not see hides all that come after it, and a sum that it does not see adds to them, wrapping at 32 bits.
abbrev pub unseen_with : ℕ → List ℕ → ℕ → Reader → HeldChange → ℕ → ℕ
unseen_with table bookmark column reader held after =
    if is_record table bookmark held && is_unseen reader held
    then (if is_rewrite held.kind then 0 else (amount_on column held.kind + after) % 2 ^ 32)
    else after

-- the changes, oldest first, before others of which this much is not seen
abbrev pub unseen_before : ℕ → List ℕ → ℕ → Reader → ℕ → List HeldChange → ℕ
unseen_before table bookmark column reader after [] = after
unseen_before table bookmark column reader after (held ∷ changes) = unseen_with table bookmark column reader held (unseen_before table bookmark column reader after changes)

-- The amounts on the column of the record that the reader does not see and that stand before the oldest put or drop of the record that it does not see, or all of them where there is no such put or drop: their sum, wrapping at 32 bits.
abbrev pub unseen_sum : ℕ → List ℕ → ℕ → Reader → List HeldChange → ℕ
unseen_sum table bookmark column reader changes = unseen_before table bookmark column reader 0 changes
