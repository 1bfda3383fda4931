-- What held changes hide of a reader is what the kept ones do.
use Rattle.std.proofs.Common.{◌≡◌, ℕ, Bool, true, false, not, ◌&&◌, ◌||◌, cond, List, [], ◌∷◌, Option, Some, None, refl, ap, ◌∙◌}
use Rattle.std.specs.Prelude.{◌==◌, bytes_eq, find}
use Rattle.common_lemmas.proofs.Booleans.{and_left, and_right}
use Rattle.column_set.specs.declared.changes.Change.{Change}
use Rattle.column_set.specs.declared.changes.Change.TheVariants.{Put, Drop, Hold, Add}
use Rattle.column_set.specs.RecordValues.{RecordFields}
use Rattle.database_state.specs.State.{PastChange, Transaction, Status, uncommitted, committed, undone, is_open, is_undone}
use Rattle.database_state.specs.Conflicts.{is_after_begin}
use Rattle.laws_versions.specs.Records.{is_change_of}
use Rattle.laws_versions.specs.Readers.{is_unseen as is_unseen_change, hides as hides_record, is_rewrite as rewrites, was_committed_status, found_record, before_or as found_before}
use Rattle.version_store.specs.declared.calls.Reader.{Reader}
use Rattle.version_store.specs.HeldChanges.{kind_of, is_rewrite, is_after, is_unseen_status}
use Rattle.laws_engine.specs.HeldRecords.{HeldRecord, is_unseen, hides, before_or, seen_record}
use Rattle.laws_engine.specs.Holding.{Matches, AllMatch, begin_of}

after_begin : (t : Option Transaction) (n : ℕ) → is_after (begin_of t) n ≡ is_after_begin t n
after_begin None n = refl
after_begin (Some t) n = refl

pub rewrite_kind : (c : Change) → is_rewrite (kind_of c) ≡ rewrites c
rewrite_kind (Put t b copied values) = refl
rewrite_kind (Drop t b) = refl
rewrite_kind (Hold t b) = refl
rewrite_kind (Add t b c a) = refl

unseen_status : (reader : Reader) (t : Option Transaction) (owner : ℕ) (s : Status) → reader.begin ≡ begin_of t
    → is_unseen_status reader owner s ≡ (not (is_undone s) && not (was_committed_status t s || (is_open s && (owner == reader.session.0))))
unseen_status reader t owner uncommitted e = refl
unseen_status reader t owner (committed n) e = ap (λ b. is_after b n) e ∙ after_begin t n ∙ twice (is_after_begin t n)
  where
    twice : (b : Bool) → b ≡ not (not b || false)
    twice true = refl
    twice false = refl
unseen_status reader t owner undone e = refl

pub same_unseen : (item : PastChange) (held : HeldRecord) → Matches item held → (reader : Reader) (t : Option Transaction) → reader.begin ≡ begin_of t → is_unseen reader held ≡ is_unseen_change reader.session.0 t item
same_unseen item held m reader t e = (λ i. is_unseen_status reader (m.session i) (m.status i)) ∙ unseen_status reader t item.session item.status e

pub same_hides : (item : PastChange) (held : HeldRecord) → Matches item held → (reader : Reader) (t : Option Transaction) → reader.begin ≡ begin_of t → (table : ℕ) (bookmark : List ℕ)
    → hides table bookmark reader held ≡ hides_record reader.session.0 t table bookmark item
same_hides item held m reader t e table bookmark =
    λ i. ((m.table i == table) && bytes_eq (m.bookmark i) bookmark) && (ap is_rewrite m.kind ∙ rewrite_kind item.change) i && same_unseen item held m reader t e i

pub seen_is_found : (reader : Reader) (t : Option Transaction) → reader.begin ≡ begin_of t → (table : ℕ) (bookmark : List ℕ) (newest : Option RecordFields) (items : List PastChange) (held : List HeldRecord) → AllMatch items held
    → seen_record table bookmark reader newest held ≡ found_record reader.session.0 t table bookmark newest items
seen_is_found reader t e table bookmark newest [] [] m = refl
seen_is_found reader t e table bookmark newest [] (h ∷ held) m = absurd m
seen_is_found reader t e table bookmark newest (item ∷ items) [] m = absurd m
seen_is_found reader t e table bookmark newest (item ∷ items) (h ∷ held) m =
    ap (λ b. before_or newest (cond b (Some h) (find (hides table bookmark reader) held))) (same_hides item h m.0 reader t e table bookmark)
    ∙ elim (hides_record reader.session.0 t table bookmark item) as (λ b. hides_record reader.session.0 t table bookmark item ≡ b
    → before_or newest (cond b (Some h) (find (hides table bookmark reader) held)) ≡ found_before newest (cond b (Some item) (find (hides_record reader.session.0 t table bookmark) items))) [
      | true ↦ λ hit. m.0.before (and_left _ _ (and_right (is_change_of table bookmark item.change && rewrites item.change) _ hit)) (and_right (is_change_of table bookmark item.change) _ (and_left _ _ hit))
      | false ↦ λ miss. seen_is_found reader t e table bookmark newest items held m.1
    ] refl
