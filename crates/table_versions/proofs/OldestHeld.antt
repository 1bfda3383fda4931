-- The oldest of the held changes is forgotten.
use Rattle.std.proofs.Common.{◌≡◌, ◌<◌, List, [], ◌∷◌, length, drop, map, refl, arith}
use Rattle.version_store.specs.HeldChanges.{HeldChange}
use Rattle.stored_variants.specs.RecordRows.{TableValues, held_record_in}

pub some_held : (longs : TableValues) (held : List HeldChange) → 0 < length (map (held_record_in longs) held) → 0 < length held
some_held longs [] some = some
some_held longs (h ∷ held) some = omega arith

pub rest_of_records : (longs : TableValues) (held : List HeldChange) → map (held_record_in longs) (drop 1 held) ≡ drop 1 (map (held_record_in longs) held)
rest_of_records longs [] = refl
rest_of_records longs (h ∷ held) = refl
