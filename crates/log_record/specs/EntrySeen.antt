-- What a function that reads answers.
use Rattle.std.specs.Prelude.{◌≡◌, Option, Some, None, Result, Ok, Err}
use Rattle.log_record.specs.declared.fault.EntryFault.{EntryFault}
use Rattle.log_record.specs.declared.fault.EntryFault.TheVariants.{BadEntry, OutOfMemory}

-- memory may be lacking at any read; else nothing is read exactly where there is nothing to read
abbrev pub Fails : {Y : Type 0} → EntryFault → Option Y → Type 0
Fails BadEntry read = read ≡ None
Fails OutOfMemory read = Unit {0}

-- what a function returned, seen by view, is what reading gives
abbrev pub Gives : {X Y : Type 0} → (X → Y) → Result X EntryFault → Option Y → Type 0
Gives view (Ok x) read = read ≡ Some (view x)
Gives view (Err e) read = Fails e read
