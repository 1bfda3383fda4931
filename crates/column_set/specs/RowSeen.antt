-- What is seen of a row that is read in place.
use Rattle.std.specs.Prelude.{◌≡◌, Option, Some, None, Result, Ok, Err}
use Rattle.column_set.specs.declared.rows.RowValue.{RowValue}
use Rattle.column_set.specs.declared.rows.RowValue.TheVariants as values
use Rattle.column_set.specs.declared.reading.ValueRef.{ValueRef}
use Rattle.column_set.specs.declared.reading.ValueRef.TheVariants.{Here, Apart}
use Rattle.column_set.specs.declared.row_fault.RowFault.{RowFault}
use Rattle.column_set.specs.declared.row_fault.RowFault.TheVariants.{RecordTooBig, BadRecord, OutOfMemory}

-- a value in place, without where it lies in memory
abbrev pub seen : ValueRef → RowValue
seen (Here bytes) = values.Here bytes.now
seen (Apart entry place size) = values.Apart entry place size

-- what a function returned, seen by view, is what reading gives
abbrev pub Sees : {X Y : Type 0} → (X → Y) → Option X → Option Y → Type 0
Sees view None read = read ≡ None
Sees view (Some x) read = read ≡ Some (view x)

-- the same of a function that may lack memory
abbrev pub Fails : {Y : Type 0} → RowFault → Option Y → Type 0
Fails RecordTooBig read = ⊥
Fails BadRecord read = read ≡ None
Fails OutOfMemory read = Unit {0}

abbrev pub Gives : {X Y : Type 0} → (X → Y) → Result X RowFault → Option Y → Type 0
Gives view (Ok x) read = read ≡ Some (view x)
Gives view (Err e) read = Fails e read
