-- What files hold now is what they hold at the last moment.
use Rattle.std.specs.Prelude.{List, [], ◌∷◌, length, refl}
use Rattle.std.proofs.Common.{inl}
use Rattle.jet_volume.specs.Image.{Image}
use Rattle.memory_volume.specs.Memory.{HeldAt}

pub now_held : (now : Image) (past : List Image) → HeldAt now past (length past) now
now_held now [] = (refl, refl)
now_held now (before ∷ earlier) = inl (refl, refl)
