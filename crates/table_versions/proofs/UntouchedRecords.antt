-- A record of which no change is held: none stands against a key of it, and every reader sees the newest record.
use Rattle.std.proofs.Common.{◌≡◌, ℕ, Bool, true, false, ◌&&◌, ◌||◌, cond, List, [], ◌∷◌, Option, Some, None, find, refl, sym, ap, ◌∙◌}
use Rattle.std.specs.Prelude.{is_some}
use Rattle.std.specs.List.{list_any}
use Rattle.common_lemmas.proofs.Booleans.{and_false, impossible}
use Rattle.column_set.specs.RecordValues.{RecordFields}
use Rattle.index_derive.specs.declared.rules.IndexRule.{IndexRule}
use Rattle.index_derive.specs.declared.rules.Schema.{Schema}
use Rattle.version_store.specs.declared.calls.Reader.{Reader}
use Rattle.version_store.specs.HeldChanges.{is_rewrite}
use Rattle.laws_engine.specs.HeldRecords.{HeldRecord, before_or, hides, is_change_at, is_concurrent, is_unseen, seen_record}
use Rattle.table_versions.specs.KeyConflicts.{conflicts_under, next_yields}
use Rattle.table_versions.proofs.LastUndone.{is_there}

pub some_there : (o : Option ℕ) → is_some o ≡ is_there o
some_there None = refl
some_there (Some place) = refl

neither : (a b : Bool) → (a || b) ≡ false → (a ≡ false) × (b ≡ false)
neither true b e = impossible (sym e)
neither false b e = (refl, e)

pub no_conflict : (reader : Reader) (rule : IndexRule) (schema : Schema) (key : List ℕ) (newest : Bool) (table : ℕ) (bookmark : List ℕ) (held : List HeldRecord) → list_any (is_change_at table bookmark) held ≡ false
    → conflicts_under reader rule schema key newest table bookmark held ≡ false
no_conflict reader rule schema key newest table bookmark [] untouched = refl
no_conflict reader rule schema key newest table bookmark (h ∷ held) untouched =
    let both = neither (is_change_at table bookmark h) (list_any (is_change_at table bookmark) held) untouched in
    let rest : conflicts_under reader rule schema key newest table bookmark held ≡ false = no_conflict reader rule schema key newest table bookmark held both.1 in
    (λ i. (is_concurrent reader h && (both.0 i && (next_yields rule schema key newest table bookmark (h ∷ held) || next_yields rule schema key newest table bookmark held))) || rest i)
    ∙ ap (λ b. b || false) (and_false (is_concurrent reader h))

pub sees_newest : (table : ℕ) (bookmark : List ℕ) (reader : Reader) (newest : Option RecordFields) (held : List HeldRecord) → list_any (is_change_at table bookmark) held ≡ false → seen_record table bookmark reader newest held ≡ newest
sees_newest table bookmark reader newest [] untouched = refl
sees_newest table bookmark reader newest (h ∷ held) untouched =
    let both = neither (is_change_at table bookmark h) (list_any (is_change_at table bookmark) held) untouched in
    ap (λ b. before_or newest (cond (b && is_rewrite h.kind && is_unseen reader h) (Some h) (find (hides table bookmark reader) held))) both.0
    ∙ sees_newest table bookmark reader newest held both.1
