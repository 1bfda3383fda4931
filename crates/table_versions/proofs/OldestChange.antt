-- What held changes tell, by the records that they hold.
use Rattle.std.proofs.Common.{◌≡◌, ℕ, suc, Bool, true, false, ◌||◌, cond, List, [], ◌∷◌, length, Option, Some, None, map, refl, sym, ap, ◌∙◌, arith}
use Rattle.std.proofs.lemmas.Bool.Decides.{nat_tests}
use Rattle.std.specs.Prelude.{◌==◌, slice_get, unwrap_or}
use Rattle.std.specs.List.{list_any}
use Rattle.common_lemmas.proofs.Booleans.{impossible}
use Rattle.column_set.specs.declared.changes.Change.{Change}
use Rattle.version_store.specs.declared.calls.Reader.{Reader}
use Rattle.version_store.specs.HeldChanges.{HeldChange, conflicts, is_kept}
use Rattle.laws_engine.specs.HeldRecords.{conflicts as conflicts_with}
use Rattle.stored_variants.specs.RecordRows.{TableValues, held_record_in}
use Rattle.stored_variants.specs.StoredVersions.{next_to_forget}

pub same_conflicts : (longs : TableValues) (reader : Reader) (made : Change) (held : List HeldChange) → list_any (conflicts reader made) held ≡ list_any (conflicts_with reader made) (map (held_record_in longs) held)
same_conflicts longs reader made [] = refl
same_conflicts longs reader made (h ∷ held) = ap (λ b. conflicts reader made h || b) (same_conflicts longs reader made held)

-- ---- the oldest change

pub none_held : (longs : TableValues) (oldest : Option ℕ) (held : List HeldChange) → (length held == 0) ≡ true → None ≡ next_to_forget oldest (map (held_record_in longs) held)
none_held longs oldest [] e = refl
none_held longs oldest (h ∷ held) e = impossible (sym (not_zero (length held)) ∙ e)
  where
    not_zero : (n : ℕ) → (suc n == 0) ≡ false
    not_zero n = grind (arith, nat_tests)

pub kept_first : (longs : TableValues) (oldest : Option ℕ) (held : List HeldChange) (b : Bool) → slice_get (map (is_kept oldest) held) 0 ≡ Some b → b ≡ true → None ≡ next_to_forget oldest (map (held_record_in longs) held)
kept_first longs oldest [] b e is = refl
kept_first longs oldest (h ∷ held) b e is = sym (ap (λ t. cond t None (Some h.number)) (ap (λ (o : Option Bool). unwrap_or o false) e ∙ is))

pub forgotten : (longs : TableValues) (oldest : Option ℕ) (held : List HeldChange) (b : Bool) (number : ℕ) → slice_get (map (is_kept oldest) held) 0 ≡ Some b → b ≡ false → slice_get (map (λ h. h.number) held) 0 ≡ Some number
    → Some number ≡ next_to_forget oldest (map (held_record_in longs) held)
forgotten longs oldest [] b number e low n = sym n
forgotten longs oldest (h ∷ held) b number e low n = sym n ∙ sym (ap (λ t. cond t None (Some h.number)) (ap (λ (o : Option Bool). unwrap_or o false) e ∙ low))
