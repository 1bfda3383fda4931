-- The value that is shared with one of a row.
use Rattle.std.proofs.Common.{◌≡◌, ℕ, Bool, if◌then◌else◌, Option, Some, None, List, [], ◌∷◌, refl, sym, ap, ◌∙◌}
use Rattle.column_set.specs.Rows.{RowFields, apart_at}
use Rattle.long_value.specs.Values.{Values, value_of}
use Rattle.long_rows.specs.RowReferences.{identifier}
use Rattle.long_rows.specs.KeptRows.{may_share, or_else, shared_in, shared_one}

or_none : (o : Option (ℕ × ℕ)) → or_else o None ≡ o
or_none None = refl
or_none (Some id) = refl

pub shared_found : (values : Values) (given row : RowFields) (column at : ℕ) (v : List ℕ) (entry place size : ℕ) (b : Bool) → given ≡ row → Some (entry, place, size) ≡ apart_at row column at → b ≡ may_share v (value_of (identifier entry place) values)
    → (if b then Some (entry, place) else None) ≡ shared_in values (given ∷ []) column at v
shared_found values given row column at v entry place size b is there tested =
    sym (ap (λ (r : RowFields). or_else (shared_one values v (apart_at r column at)) None) is
    ∙ or_none (shared_one values v (apart_at row column at))
    ∙ ap (shared_one values v) (sym there)
    ∙ ap (λ (t : Bool). if t then Some (entry, place) else None) (sym tested))

pub shared_missing : (values : Values) (given row : RowFields) (column at : ℕ) (v : List ℕ) → given ≡ row → None ≡ apart_at row column at → None ≡ shared_in values (given ∷ []) column at v
shared_missing values given row column at v is there =
    sym (ap (λ (r : RowFields). or_else (shared_one values v (apart_at r column at)) None) is
    ∙ or_none (shared_one values v (apart_at row column at))
    ∙ ap (shared_one values v) (sym there))
