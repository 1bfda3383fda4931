-- What a reader of the code gives, against a reading on lists.
use Rattle.std.specs.Prelude.{◌≡◌, Option, Some, None, Result, Ok, Err}
use Rattle.script_words.specs.declared.refusal.Refusal.{Refusal}
use Rattle.script_words.specs.declared.refusal.Refusal.TheVariants.{Bad, Memory}

-- a refusal says that there is no such reading, unless memory ran out
abbrev pub Refuses : {Y : Type 0} → Refusal → Option Y → Type 0
Refuses Bad reading = reading ≡ None
Refuses Memory reading = Unit {0}

-- what a function returned, seen by view, is what reading gives, unless memory ran out
abbrev pub Reads : {X Y : Type 0} → (X → Y) → Result X Refusal → Option Y → Type 0
Reads view (Ok x) reading = reading ≡ Some (view x)
Reads view (Err refusal) reading = Refuses refusal reading
