-- What every newest record and every record before has, every record of the history has.
use Rattle.std.proofs.Common.{◌≡◌, ℕ, Bool, true, false, cond, Option, Some, None, List, [], ◌∷◌, refl, sym, ap, subst, ◌∙◌}
use Rattle.std.specs.Prelude.{◌==◌, ◌&&◌, bytes_eq, IfSome}
use Rattle.std.specs.List.{AllByRecursion}
use Rattle.std.proofs.lemmas.Bool.{eqb-true}
use Rattle.common_lemmas.proofs.Booleans.{and_left, and_right}
use Rattle.common_lemmas.proofs.Numbers.{same_bytes}
use Rattle.column_set.specs.RecordValues.{RecordFields}
use Rattle.column_set.specs.ChangedRecords.{changed_table}
use Rattle.database_state.specs.State.{PastChange}
use Rattle.database_state.specs.Table.{Table, schema_of, table_with_id}
use Rattle.index_derive.specs.declared.rules.Schema.{Schema}
use Rattle.laws_versions.specs.Records.{Records, is_change_of, record_after, records_after, records_of}
use Rattle.version_store.specs.declared.calls.ChangeKind.{ChangeKind}
use Rattle.version_store.specs.declared.calls.ChangeKind.TheVariants as kind
use Rattle.laws_engine.specs.HeldRecords.{HeldRecord, inverse, inverse_of}
use Rattle.laws_images.specs.InTurn.{AreInTurn}
use Rattle.laws_images.specs.ShownStates.{past_change, past_of, tables_before}
use Rattle.laws_versions.specs.EachRecord.{HasBoth}
use Rattle.laws_images.proofs.OpenedLemmas.TakenBack.{made_bookmark, made_table, step_back}
use Rattle.laws_images.specs.ShowableEngines.{EachHeld, EachIn, SumsKeepAll, SumsKeepIt}

back : (P : ℕ → Schema → List ℕ → RecordFields → Type 0) (number : ℕ) (schema : Schema) (what : ChangeKind) (table : ℕ) (bookmark : List ℕ) (before after : Option RecordFields)
    → SumsKeepIt P number schema bookmark what → IfSome before (P number schema bookmark) → IfSome after (P number schema bookmark) → IfSome (record_after (inverse_of what table bookmark before) after) (P number schema bookmark)
back P number schema kind.Put table bookmark None after keeps b a = tt
back P number schema kind.Put table bookmark (Some values) after keeps b a = b
back P number schema kind.Drop table bookmark None after keeps b a = tt
back P number schema kind.Drop table bookmark (Some values) after keeps b a = b
back P number schema kind.Hold table bookmark before after keeps b a = a
back P number schema (kind.Add column amount) table bookmark before None keeps b a = tt
back P number schema (kind.Add column amount) table bookmark before (Some values) keeps b a = keeps values a

inverse_at : (h : HeldRecord) (id : ℕ) (b : List ℕ) → is_change_of id b (inverse h) ≡ ((h.table == id) && bytes_eq h.bookmark b)
inverse_at h id b = at h.kind h.table h.bookmark h.before
  where
    at : (what : ChangeKind) (table : ℕ) (bookmark : List ℕ) (before : Option RecordFields) → is_change_of id b (inverse_of what table bookmark before) ≡ ((table == id) && bytes_eq bookmark b)
    at kind.Put table bookmark None = refl
    at kind.Put table bookmark (Some values) = refl
    at kind.Drop table bookmark None = refl
    at kind.Drop table bookmark (Some values) = refl
    at kind.Hold table bookmark before = refl
    at (kind.Add column amount) table bookmark before = refl

one_back : (P : ℕ → Schema → List ℕ → RecordFields → Type 0) (number : ℕ) (tables : List Table) (r : Records) (h : HeldRecord) → IfSome (table_with_id tables h.table) (λ table. SumsKeepIt P number (schema_of table) h.bookmark h.kind)
    → IfSome (table_with_id tables h.table) (λ table. IfSome h.before (P number (schema_of table) h.bookmark)) → EachIn P number tables r → EachIn P number tables (records_after r (inverse h))
one_back P number tables r h keeps before each id = at (table_with_id tables id) refl (each id)
  where
    at : (o : Option Table) → table_with_id tables id ≡ o → IfSome o (λ table. (bookmark : List ℕ) → IfSome (r id bookmark) (P number (schema_of table) bookmark)) → IfSome o (λ table. (bookmark : List ℕ) → IfSome (records_after r (inverse h) id bookmark) (P number (schema_of table) bookmark))
    at None e here = tt
    at (Some table) e here = λ b. subst (λ (x : Bool). IfSome (cond x (record_after (inverse h) (r id b)) (r id b)) (P number (schema_of table) b)) (sym (inverse_at h id b)) (by b ((h.table == id) && bytes_eq h.bookmark b) refl)
      where
        by : (b : List ℕ) (x : Bool) → ((h.table == id) && bytes_eq h.bookmark b) ≡ x → IfSome (cond x (record_after (inverse h) (r id b)) (r id b)) (P number (schema_of table) b)
        by b false f = here b
        by b true f =
            let own : h.table ≡ id = eqb-true h.table id (and_left (h.table == id) (bytes_eq h.bookmark b) f) in
            let same : h.bookmark ≡ b = same_bytes h.bookmark b (and_right (h.table == id) (bytes_eq h.bookmark b) f) in
            let found : table_with_id tables h.table ≡ Some table = ap (table_with_id tables) own ∙ e in
            let k : SumsKeepIt P number (schema_of table) h.bookmark h.kind = subst (λ (o : Option Table). IfSome o (λ table. SumsKeepIt P number (schema_of table) h.bookmark h.kind)) found keeps in
            let p : IfSome h.before (P number (schema_of table) h.bookmark) = subst (λ (o : Option Table). IfSome o (λ table. IfSome h.before (P number (schema_of table) h.bookmark))) found before in
            subst (λ (c : List ℕ). IfSome (record_after (inverse h) (r id c)) (P number (schema_of table) c)) same
            (back P number (schema_of table) h.kind h.table h.bookmark h.before (r id h.bookmark) k p (here h.bookmark))

pub each_before : (P : ℕ → Schema → List ℕ → RecordFields → Type 0) (number : ℕ) (tables : List Table) (changes : List HeldRecord) → AreInTurn changes tables → SumsKeepAll P number tables changes → EachHeld P number tables changes → EachIn P number tables (records_of tables) → EachIn P number tables (records_of (tables_before changes tables))
each_before P number tables [] turn keeps befores each = each
each_before P number tables (h ∷ changes) turn keeps befores each =
    subst (EachIn P number tables) (sym (step_back h changes tables turn)) (one_back P number tables (records_of (tables_before changes tables)) h keeps.0 befores.0 (each_before P number tables changes turn.3 keeps.1 befores.1 each))

-- ---- before and after each change

abbrev pub EachBoth : (ℕ → Schema → List ℕ → RecordFields → Type 0) → ℕ → List Table → List PastChange → Type 0
EachBoth P number tables past = AllByRecursion (λ item. IfSome (table_with_id tables (changed_table item.change)) (λ table. HasBoth P number (schema_of table) item)) past

both_of : (P : ℕ → Schema → List ℕ → RecordFields → Type 0) (number : ℕ) (tables : List Table) (r : Records) (h : HeldRecord) → IfSome (table_with_id tables h.table) (λ table. SumsKeepIt P number (schema_of table) h.bookmark h.kind)
    → IfSome (table_with_id tables h.table) (λ table. IfSome h.before (P number (schema_of table) h.bookmark)) → IfSome (table_with_id tables h.table) (λ table. (bookmark : List ℕ) → IfSome (r h.table bookmark) (P number (schema_of table) bookmark))
    → IfSome (table_with_id tables h.table) (λ table. IfSome (record_after (inverse h) (r h.table h.bookmark)) (P number (schema_of table) h.bookmark) × IfSome (r h.table h.bookmark) (P number (schema_of table) h.bookmark))
both_of P number tables r h keeps before each = at (table_with_id tables h.table) keeps before each
  where
    at : (o : Option Table) → IfSome o (λ table. SumsKeepIt P number (schema_of table) h.bookmark h.kind) → IfSome o (λ table. IfSome h.before (P number (schema_of table) h.bookmark)) → IfSome o (λ table. (bookmark : List ℕ) → IfSome (r h.table bookmark) (P number (schema_of table) bookmark))
        → IfSome o (λ table. IfSome (record_after (inverse h) (r h.table h.bookmark)) (P number (schema_of table) h.bookmark) × IfSome (r h.table h.bookmark) (P number (schema_of table) h.bookmark))
    at None k b e = tt
    at (Some table) k b e = (back P number (schema_of table) h.kind h.table h.bookmark h.before (r h.table h.bookmark) k b (e h.bookmark), e h.bookmark)

pub each_both : (P : ℕ → Schema → List ℕ → RecordFields → Type 0) (number : ℕ) (tables : List Table) (changes : List HeldRecord) → AreInTurn changes tables → SumsKeepAll P number tables changes → EachHeld P number tables changes → EachIn P number tables (records_of tables) → EachBoth P number tables (past_of changes tables)
each_both P number tables [] turn keeps befores each = tt
each_both P number tables (h ∷ changes) turn keeps befores each =
    let r = records_of (tables_before changes tables) in
    let here = both_of P number tables r h keeps.0 befores.0 (each_before P number tables changes turn.3 keeps.1 befores.1 each h.table) in (
      subst (λ n. IfSome (table_with_id tables n) (λ table. HasBoth P number (schema_of table) (past_change h (r h.table h.bookmark)))) (sym (made_table h.kind h.table h.bookmark (r h.table h.bookmark)))
          (subst (λ (b : List ℕ). IfSome (table_with_id tables h.table) (λ table. IfSome (record_after (inverse h) (r h.table h.bookmark)) (P number (schema_of table) b) × IfSome (r h.table h.bookmark) (P number (schema_of table) b))) (sym (made_bookmark h.kind h.table h.bookmark (r h.table h.bookmark))) here),
      each_both P number tables changes turn.3 keeps.1 befores.1 each,
    )
