-- What is found in a list, from its front and from its end.
use Rattle.std.proofs.Common.{◌≡◌, Option, Some, None, option_map, refl}

pub none_found : {X Y : Type 0} (f : X → Y) (o : Option X) → option_map f o ≡ None → o ≡ None
none_found f None e = refl
none_found f (Some x) e = absurd cc
