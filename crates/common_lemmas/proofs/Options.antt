-- Options that are equal, or of which is known whether something is there.
use Rattle.std.proofs.Common.{◌≡◌, Bool, true, false, Option, Some, None, is_some, is_none, option_map, refl, sym, true≢false}

pub same_some : {X : Type 0} (x y : X) → Some x ≡ Some y → x ≡ y
same_some x y e = cc

pub none_some : {A : Type 0} {X : Type 0} (x : X) → None ≡ Some x → A
none_some x e = cc

pub some_apart : {X : Type 0} (x : X) → Some x ≡ None → ⊥
some_apart x e = cc

pub none_there : {X : Type 0} (o : Option X) → is_some o ≡ false → o ≡ None
none_there None e = refl
none_there (Some v) e = absurd (true≢false e)

pub some_there : {X : Type 0} (o : Option X) → is_none o ≡ false → is_some o ≡ true
some_there None e = absurd (true≢false e)
some_there (Some v) e = refl

pub is_some-map : {X Y : Type 0} (f : X → Y) (o : Option X) → is_some (option_map f o) ≡ is_some o
is_some-map f None = refl
is_some-map f (Some v) = refl
