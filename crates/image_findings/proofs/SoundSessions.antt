-- The sessions and the past of the state that a consistent image shows are within their limits.
use Rattle.std.proofs.Common.{◌≡◌, ◌≤◌, ◌<◌, ℕ, true, ◌&&◌, List, [], ◌∷◌, length, Option, Some, None, sym, ap, subst, ◌∙◌, arith}
use Rattle.std.specs.Prelude.{◌==◌, ◌^◌, nat_le, nat_lt, map, is_some, not, option_map, IfSome}
use Rattle.std.specs.List.{AllByRecursion, list_all}
use Rattle.std.proofs.lemmas.Bool.{leb-true, ltb-true}
use Rattle.std.proofs.lemmas.List.{length-map}
use Rattle.common_lemmas.proofs.Booleans.{and_left, and_right}
use Rattle.common_lemmas.proofs.Finding.{find_map}
use Rattle.common_lemmas.proofs.Lists.{all_filter, all_weaker}
use Rattle.common_lemmas.proofs.Options.{is_some-map}
use Rattle.database_state.specs.State.{PastChange, is_undone}
use Rattle.database_state.specs.Table.{Table, table_with_id}
use Rattle.laws_engine.specs.HoldsState.{HoldsState}
use Rattle.laws_images.specs.ShownStates.{past_of, session_of, tables_before, with_snapshot}
use Rattle.laws_images.specs.SoundStates.{DoNotFall, HasSoundSessions, IsLabel, IsLevel, IsOfEntry, IsSoundSession, IsSoundTransaction}
use Rattle.laws_versions.specs.History.{EachTwo, without_rows}
use Rattle.live_part.specs.LiveBytes.{LivePart, entry_of, held_fits, label_of, live_fits, number_of, rises, row_fits, session_fits, standing, status_fits, transaction_fits}
use Rattle.log_grammar.specs.EntryBytes.{entry_rest, has_spelling, kind_fits}
use Rattle.stored_variants.specs.RecordRows.{TableValues, held_record_in}
use Rattle.version_cleanup.specs.LiveSessions.{LiveState}
use Rattle.version_cleanup.specs.declared.live.Transaction.{Transaction as LiveTransaction}
use Rattle.version_store.specs.HeldChanges.{HeldChange}
use Rattle.image_findings.specs.Findings.{contents_in, engine_in, live_of, state_in, values_by_table, whole_of}
use Rattle.image_findings.specs.Images.{ImageContents}
use Rattle.image_findings.specs.LiveFindings.{are_in_order, are_sound_sessions, do_not_fall, have_room, is_sound_change, is_sound_session, is_sound_transaction}
use Rattle.image_findings.specs.NoFindings.{HasNoFinding}
use Rattle.image_findings.specs.TableContents.{TableContents, contents_with_id, newest_table}
use Rattle.image_findings.proofs.Lists.{each_passes}
use Rattle.image_findings.proofs.Sessions.{fits_of, sound_of}

-- ---- numbers

further : (l m n : ℕ) → l < m → m < n → l < n
further l m n p q = omega (arith, p, q)

upto : (l m n : ℕ) → l ≤ m → m ≤ n → l ≤ n
upto l m n p q = omega (arith, p, q)

from_one : (n : ℕ) → 0 < n → 1 ≤ n
from_one n h = omega (arith, h)

all_above : {X : Type 0} (key : X → ℕ) (low : ℕ) (xs : List X) → rises key low xs ≡ true → AllByRecursion (λ x. low < key x) xs
all_above key low [] h = tt
all_above key low (x ∷ xs) h =
    let up = ltb-true low (key x) (and_left (nat_lt low (key x)) (rises key (key x) xs) h) in
    (up, all_weaker (λ y. key x < key y) (λ y. low < key y) (λ y more. further low (key x) (key y) up more) xs (all_above key (key x) xs (and_right (nat_lt low (key x)) (rises key (key x) xs) h)))

-- ---- sessions

none_falls : (ids : List ℕ) → do_not_fall ids ≡ true → EachTwo DoNotFall ids
none_falls [] h = tt
none_falls (n ∷ []) h = (tt, tt)
none_falls (n ∷ m ∷ ids) h =
    let rest = none_falls (m ∷ ids) (and_right (nat_le n m) (do_not_fall (m ∷ ids)) h) in
    let low = leb-true n m (and_left (nat_le n m) (do_not_fall (m ∷ ids)) h) in
    ((low, all_weaker (DoNotFall m) (DoNotFall n) (λ k up. upto n m k low up) ids rest.0), rest)

sound_transaction : (number : ℕ) (first : List Table) (past : List PastChange) (o : Option LiveTransaction) → transaction_fits o ≡ true → is_sound_transaction number o ≡ true → IfSome (option_map (with_snapshot first past) o) (IsSoundTransaction number)
sound_transaction number first past None fits sound = tt
sound_transaction number first past (Some t) fits sound =
    let most = and_left (nat_le t.levels 7) (nat_lt t.begin (2 ^ 64)) (and_right (nat_le 1 t.levels) (nat_le t.levels 7 && nat_lt t.begin (2 ^ 64)) fits) in (
      (leb-true 1 t.levels (and_left (nat_le 1 t.levels) (nat_le t.levels 7 && nat_lt t.begin (2 ^ 64)) fits), leb-true t.levels 7 most),
      leb-true 1 t.begin (and_left (nat_le 1 t.begin) (nat_le t.begin number) sound),
      leb-true t.begin number (and_right (nat_le 1 t.begin) (nat_le t.begin number) sound),
    )

abbrev SameTables : List Table → List TableContents → Type 0
SameTables tables contents = (id : ℕ) → is_some (table_with_id tables id) ≡ is_some (contents_with_id contents id)

sound_session : (number : ℕ) (tables : List Table) (contents : List TableContents) → SameTables tables contents → (first : List Table) (past : List PastChange) (s : LiveState) → 0 < s.label → session_fits s ≡ true → is_sound_session number contents s ≡ true
    → IsSoundSession number tables (session_of first past s)
sound_session number tables contents same first past s up fits sound =
    let open_fits = nat_lt (length s.open_tables) (2 ^ 32) && list_all (λ table. nat_lt table (2 ^ 32)) s.open_tables in
    let there = list_all (λ id. is_some (contents_with_id contents id)) s.open_tables in
    let begun = is_sound_transaction number s.transaction in
    record {
      label = (from_one s.label up, leb-true s.label 99 (and_left (nat_le s.label 99) (open_fits && transaction_fits s.transaction) fits));
      in_order = none_falls s.open_tables (and_left (do_not_fall s.open_tables) (there && begun) sound);
      there = all_weaker (λ id. is_some (contents_with_id contents id) ≡ true) (λ id. is_some (table_with_id tables id) ≡ true) (λ id e. same id ∙ e) s.open_tables
          (each_passes (λ id. is_some (contents_with_id contents id)) s.open_tables (and_left there begun (and_right (do_not_fall s.open_tables) (there && begun) sound)));
      transaction = sound_transaction number first past s.transaction (fits_of s fits) (sound_of number contents s sound);
    }

each_session : (number : ℕ) (tables : List Table) (contents : List TableContents) → SameTables tables contents → (first : List Table) (past : List PastChange) (sessions : List LiveState) → AllByRecursion (λ (s : LiveState). 0 < s.label) sessions → list_all session_fits sessions ≡ true
    → list_all (is_sound_session number contents) sessions ≡ true → AllByRecursion (IsSoundSession number tables) (map (session_of first past) sessions)
each_session number tables contents same first past [] up fits sound = tt
each_session number tables contents same first past (s ∷ sessions) up fits sound = (
  sound_session number tables contents same first past s up.0 (and_left (session_fits s) (list_all session_fits sessions) fits) (and_left (is_sound_session number contents s) (list_all (is_sound_session number contents) sessions) sound),
  each_session number tables contents same first past sessions up.1 (and_right (session_fits s) (list_all session_fits sessions) fits) (and_right (is_sound_session number contents s) (list_all (is_sound_session number contents) sessions) sound),
)

-- the tables of the state are those of the image, but for their records
same_without : (one other : List Table) → map without_rows one ≡ map without_rows other → (id : ℕ) → is_some (table_with_id other id) ≡ is_some (table_with_id one id)
same_without one other e id =
    sym (is_some-map without_rows (table_with_id other id)) ∙ sym (ap is_some (find_map without_rows (λ (t : Table). t.id == id) other)) ∙ ap (λ (tables : List Table). is_some (table_with_id tables id)) (sym e)
    ∙ ap is_some (find_map without_rows (λ (t : Table). t.id == id) one) ∙ is_some-map without_rows (table_with_id one id)

same_tables : (tables : List Table) (contents : List TableContents) → map without_rows (map newest_table contents) ≡ map without_rows tables → SameTables tables contents
same_tables tables contents e id =
    same_without (map newest_table contents) tables e id ∙ ap is_some (find_map newest_table (λ (t : Table). t.id == id) contents) ∙ is_some-map newest_table (contents_with_id contents id)

-- ---- the past

label_in : (h : HeldChange) → has_spelling (entry_of h) ≡ true → IsLabel h.session
unfolding has_spelling
label_in h e =
    let label = nat_le 1 h.session && nat_le h.session 99 in
    let is = and_left label (kind_fits (entry_of h).kind && nat_lt (length (entry_rest (entry_of h))) (2 ^ 32)) e in
    (leb-true 1 h.session (and_left (nat_le 1 h.session) (nat_le h.session 99) is), leb-true h.session 99 (and_right (nat_le 1 h.session) (nat_le h.session 99) is))

-- what the spelling of a held change asks of its session and its level
record IsBounded (h : HeldChange) : Type 0 where
  level : IsLevel h.level
  label : IsLabel h.session

bounded : (h : HeldChange) → held_fits h ≡ true → IsBounded h
bounded h fits =
    let level = nat_le 1 h.level && nat_le h.level 7 in
    let rest = status_fits h.status && (has_spelling (entry_of h) && row_fits h.before) in
    let behind = and_right (nat_lt h.number (2 ^ 64)) (level && rest) fits in
    let is = and_left level rest behind in
    record {
      level = (leb-true 1 h.level (and_left (nat_le 1 h.level) (nat_le h.level 7) is), leb-true h.level 7 (and_right (nat_le 1 h.level) (nat_le h.level 7) is));
      label = label_in h (and_left (has_spelling (entry_of h)) (row_fits h.before) (and_right (status_fits h.status) (has_spelling (entry_of h) && row_fits h.before) (and_right level rest behind)));
    }

levels_in : (longs : TableValues) (tables : List Table) (held : List HeldChange) → AllByRecursion IsBounded held → AllByRecursion (λ (item : PastChange). IsLevel item.level) (past_of (map (held_record_in longs) held) tables)
levels_in longs tables [] all = tt
levels_in longs tables (h ∷ held) all = (all.0.level, levels_in longs tables held all.1)

entries_in : (longs : TableValues) (tables : List Table) (held : List HeldChange) → AllByRecursion IsBounded held → AllByRecursion (λ (h : HeldChange). 0 < h.number) held → AllByRecursion IsOfEntry (past_of (map (held_record_in longs) held) tables)
entries_in longs tables [] all up = tt
entries_in longs tables (h ∷ held) all up = ((from_one h.number up.0, all.0.label), entries_in longs tables held all.1 up.1)

-- ---- the whole

-- what the form of a live part says of its sessions and its held changes
record HasForm (live : LivePart) : Type 0 where
  most : length live.sessions ≤ 64
  labels : AllByRecursion (λ (s : LiveState). 0 < s.label) live.sessions
  sessions : list_all session_fits live.sessions ≡ true
  numbers : AllByRecursion (λ (h : HeldChange). 0 < h.number) live.held
  held : AllByRecursion IsBounded live.held

form : (live : LivePart) → live_fits live ≡ true → HasForm live
form live h =
    let each_session = rises label_of 0 live.sessions && list_all session_fits live.sessions in
    let each_held = rises number_of 0 live.held && list_all held_fits live.held in
    let sessions = and_left (nat_le (length live.sessions) 64 && each_session) (nat_lt (length live.held) (2 ^ 32) && each_held) h in
    let held = and_right (nat_lt (length live.held) (2 ^ 32)) each_held (and_right (nat_le (length live.sessions) 64 && each_session) (nat_lt (length live.held) (2 ^ 32) && each_held) h) in
    let labels = and_right (nat_le (length live.sessions) 64) each_session sessions in
    record {
      most = leb-true (length live.sessions) 64 (and_left (nat_le (length live.sessions) 64) each_session sessions);
      labels = all_above label_of 0 live.sessions (and_left (rises label_of 0 live.sessions) (list_all session_fits live.sessions) labels);
      sessions = and_right (rises label_of 0 live.sessions) (list_all session_fits live.sessions) labels;
      numbers = all_above number_of 0 live.held (and_left (rises number_of 0 live.held) (list_all held_fits live.held) held);
      held = all_weaker (λ h. held_fits h ≡ true) IsBounded bounded live.held (each_passes held_fits live.held (and_right (rises number_of 0 live.held) (list_all held_fits live.held) held));
    }

pub sound_sessions : (image : ImageContents) → HoldsState (engine_in 0 image) (state_in image) → HasNoFinding image → live_fits (whole_of image) ≡ true → HasSoundSessions (state_in image)
sound_sessions image holds n fits =
    let whole = whole_of image in
    let store = (engine_in 0 image).store in
    let tables = contents_in image in
    let first = tables_before store.held store.tables in
    let past = past_of store.held store.tables in
    let changes = list_all (is_sound_change image.number tables whole.sessions) whole.held && are_in_order tables whole.sessions (standing whole.held) in
    let checked = list_all (is_sound_session image.number tables) whole.sessions in
    let has = form whole fits in
    let bounded_held = all_filter IsBounded (λ (h : HeldChange). not (is_undone h.status)) whole.held has.held in
    record {
      labels = holds.labels;
      most = subst (λ (n : ℕ). n ≤ 64) (sym (length-map whole.sessions (session_of first past))) has.most;
      each = each_session image.number (state_in image).tables tables (same_tables (state_in image).tables tables holds.holds.defined) first past whole.sessions has.labels has.sessions
          (and_left checked (have_room image.number whole.sessions) (and_left (are_sound_sessions image.number tables whole.sessions) changes n.live));
      levels = levels_in (values_by_table tables) store.tables (live_of image).held bounded_held;
      entries = entries_in (values_by_table tables) store.tables (live_of image).held bounded_held (all_filter (λ (h : HeldChange). 0 < h.number) (λ (h : HeldChange). not (is_undone h.status)) whole.held has.numbers);
    }
