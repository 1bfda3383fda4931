-- What a volume in memory holds is among what a crash may leave of it.
use Rattle.std.specs.Prelude.{List, [], ◌∷◌, length, refl}
use Rattle.std.proofs.Common.{inl}
use Rattle.jet_volume.specs.declared.record.Call.{Call}
use Rattle.jet_volume.specs.Image.{Image}
use Rattle.jet_volume.specs.Record.{MayLeave, LeftAt}

-- a crash after the last call leaves what it may leave now
pub left_now : (now : Image) (calls : List Call) (image : Image) → MayLeave now calls image → LeftAt now calls (length calls) image
left_now now [] image may = (refl, may)
left_now now (call ∷ earlier) image may = inl (refl, may)

pub seen_stays : (now : Image) (calls : List Call) → LeftAt now calls (length calls) now
seen_stays now calls = left_now now calls now (λ file. inl refl)
