-- The sessions and the held changes of the engine that is made of a consistent image.
use Rattle.std.proofs.Common.{◌≡◌, ◌≤◌, ◌<◌, ℕ, Bool, true, false, ◌&&◌, ◌||◌, List, [], ◌∷◌, Option, Some, None, refl, sym, ap, ◌∙◌, arith}
use Rattle.std.specs.Prelude.{not, cond, ◌==◌, ◌^◌, nat_le, nat_lt, map, filter, find, length, is_some, bytes_eq, option_map, option_and_then, IfSome}
use Rattle.std.specs.List.{AllByRecursion, list_all}
use Rattle.std.proofs.lemmas.Bool.{and_from, leb-true, ltb-true, eq-eqb}
use Rattle.column_set.specs.RecordValues.{RecordFields}
use Rattle.common_lemmas.proofs.Booleans.{and_left, and_right, impossible}
use Rattle.common_lemmas.proofs.Lists.{all_weaker, all_filter}
use Rattle.column_set.specs.ChangedRecords.{changed_bookmark, changed_table}
use Rattle.common_lemmas.proofs.Numbers.{bytes_turned, equal_turned}
use Rattle.database_state.specs.Changes.{is_sum}
use Rattle.database_state.specs.Conflicts.{collide}
use Rattle.database_state.specs.State.{LiveSession, PastChange, Status, Transaction, committed, is_open, is_undone, transaction_of, uncommitted, undone}
use Rattle.database_state.specs.Table.{Table, record_in}
use Rattle.laws_images.specs.ShownStates.{change_made, past_change, past_of, session_of, shown_state, tables_before, with_empty_snapshot, with_snapshot}
use Rattle.laws_versions.specs.History.{EachTwo, InOrder, LabelsRise, LevelsRise, NumbersRise, is_apart_by}
use Rattle.live_part.specs.LiveBytes.{LivePart, held_fits, label_of, live_fits, number_of, rises, session_fits, standing, transaction_fits}
use Rattle.stored_variants.specs.RecordRows.{TableValues, held_record_in}
use Rattle.version_cleanup.specs.LiveSessions.{LiveState, transaction_in}
use Rattle.version_cleanup.specs.declared.live.Transaction.{Transaction as LiveTransaction}
use Rattle.version_store.specs.HeldChanges.{HeldChange, is_add, is_record}
use Rattle.version_store.specs.declared.calls.ChangeKind.{ChangeKind}
use Rattle.version_store.specs.declared.calls.ChangeKind.TheVariants as kind
use Rattle.image_findings.specs.LiveFindings.{are_apart, are_in_order, are_sound_sessions, do_not_fall, goes_on, have_room, is_before, is_sound_change, is_sound_live, is_sound_session, is_sound_transaction, levels_rise, node_under}
use Rattle.image_findings.specs.TableContents.{TableContents, contents_with_id}
use Rattle.image_findings.proofs.Lists.{each_passes, if_found}

-- ---- labels

labels_above : (first : List Table) (past : List PastChange) (low high : ℕ) → low < high → (s : LiveSession) → high < s.label → low < s.label
labels_above first past low high p s q = omega (arith, p, q)

record AreRising (low : ℕ) (sessions : List LiveSession) : Type 0 where
  two : EachTwo LabelsRise sessions
  each : AllByRecursion (λ s. low < s.label) sessions

rising : (first : List Table) (past : List PastChange) (low : ℕ) (sessions : List LiveState) → rises label_of low sessions ≡ true → AreRising low (map (session_of first past) sessions)
rising first past low [] h = record { two = tt; each = tt }
rising first past low (s ∷ sessions) h =
    let up = ltb-true low s.label (and_left (nat_lt low s.label) (rises label_of s.label sessions) h) in
    let rest = rising first past s.label sessions (and_right (nat_lt low s.label) (rises label_of s.label sessions) h) in
    record { two = (rest.each, rest.two); each = (up, all_weaker (λ (t : LiveSession). s.label < t.label) (λ (t : LiveSession). low < t.label) (labels_above first past low s.label up) (map (session_of first past) sessions) rest.each) }

pub labels_rise : (first : List Table) (past : List PastChange) (live : LivePart) → live_fits live ≡ true → EachTwo LabelsRise (map (session_of first past) live.sessions)
labels_rise first past live h =
    let sessions = and_left (nat_le (length live.sessions) 64 && (rises label_of 0 live.sessions && list_all session_fits live.sessions)) (nat_lt (length live.held) (2 ^ 32) && (rises number_of 0 live.held && list_all held_fits live.held)) h in
    let up = and_right (nat_le (length live.sessions) 64) (rises label_of 0 live.sessions && list_all session_fits live.sessions) sessions in
    (rising first past 0 live.sessions (and_left (rises label_of 0 live.sessions) (list_all session_fits live.sessions) up)).two

-- ---- begins

begun : (number : ℕ) (o : Option LiveTransaction) → transaction_fits o ≡ true → is_sound_transaction number o ≡ true → IfSome o (λ t. (t.begin ≤ number) × (1 ≤ t.levels))
begun number None fits sound = tt
begun number (Some t) fits sound =
    (leb-true t.begin number (and_right (nat_le 1 t.begin) (nat_le t.begin number) sound), leb-true 1 t.levels (and_left (nat_le 1 t.levels) (nat_le t.levels 7 && nat_lt t.begin (2 ^ 64)) fits))

with_copy : (number : ℕ) (first : List Table) (past : List PastChange) (o : Option LiveTransaction) → IfSome o (λ t. (t.begin ≤ number) × (1 ≤ t.levels)) → IfSome (option_map (with_snapshot first past) o) (λ t. (t.begin ≤ number) × (1 ≤ t.levels))
with_copy number first past None h = tt
with_copy number first past (Some t) h = h

pub fits_of : (s : LiveState) → session_fits s ≡ true → transaction_fits s.transaction ≡ true
fits_of s h =
    and_right (nat_lt (length s.open_tables) (2 ^ 32) && list_all (λ table. nat_lt table (2 ^ 32)) s.open_tables) (transaction_fits s.transaction)
    (and_right (nat_le s.label 99) ((nat_lt (length s.open_tables) (2 ^ 32) && list_all (λ table. nat_lt table (2 ^ 32)) s.open_tables) && transaction_fits s.transaction) h)

pub sound_of : (number : ℕ) (tables : List TableContents) (s : LiveState) → is_sound_session number tables s ≡ true → is_sound_transaction number s.transaction ≡ true
sound_of number tables s h =
    and_right (list_all (λ id. is_some (contents_with_id tables id)) s.open_tables) (is_sound_transaction number s.transaction)
    (and_right (do_not_fall s.open_tables) (list_all (λ id. is_some (contents_with_id tables id)) s.open_tables && is_sound_transaction number s.transaction) h)

each_begun : (number : ℕ) (tables : List TableContents) (first : List Table) (past : List PastChange) (sessions : List LiveState) → list_all session_fits sessions ≡ true → list_all (is_sound_session number tables) sessions ≡ true
    → AllByRecursion (λ (s : LiveSession). IfSome s.transaction (λ t. (t.begin ≤ number) × (1 ≤ t.levels))) (map (session_of first past) sessions)
each_begun number tables first past [] fits sound = tt
each_begun number tables first past (s ∷ sessions) fits sound = (
  with_copy number first past s.transaction (begun number s.transaction (fits_of s (and_left (session_fits s) (list_all session_fits sessions) fits)) (sound_of number tables s (and_left (is_sound_session number tables s) (list_all (is_sound_session number tables) sessions) sound))),
  each_begun number tables first past sessions (and_right (session_fits s) (list_all session_fits sessions) fits) (and_right (is_sound_session number tables s) (list_all (is_sound_session number tables) sessions) sound),
)

then_found : (P : Transaction → Type 0) (o : Option LiveSession) → IfSome o (λ s. IfSome s.transaction P) → IfSome (option_and_then (λ (s : LiveSession). s.transaction) o) P
then_found P None h = tt
then_found P (Some s) h = h

pub begins : (number : ℕ) (tables : List TableContents) (first : List Table) (past : List PastChange) (live : LivePart) → live_fits live ≡ true → is_sound_live number tables live ≡ true → (session : ℕ)
    → IfSome (option_and_then (λ (s : LiveSession). s.transaction) (find (λ (s : LiveSession). s.label == session) (map (session_of first past) live.sessions))) (λ t. (t.begin ≤ number) × (1 ≤ t.levels))
begins number tables first past live fits sound session =
    let one = and_left (nat_le (length live.sessions) 64 && (rises label_of 0 live.sessions && list_all session_fits live.sessions)) (nat_lt (length live.held) (2 ^ 32) && (rises number_of 0 live.held && list_all held_fits live.held)) fits in
    let two = and_right (rises label_of 0 live.sessions) (list_all session_fits live.sessions) (and_right (nat_le (length live.sessions) 64) (rises label_of 0 live.sessions && list_all session_fits live.sessions) one) in
    let three = and_left (are_sound_sessions number tables live.sessions) (list_all (is_sound_change number tables live.sessions) live.held && are_in_order tables live.sessions (standing live.held)) sound in
    then_found (λ t. (t.begin ≤ number) × (1 ≤ t.levels)) (find (λ (s : LiveSession). s.label == session) (map (session_of first past) live.sessions))
    (if_found (λ (s : LiveSession). IfSome s.transaction (λ t. (t.begin ≤ number) × (1 ≤ t.levels))) (λ (s : LiveSession). s.label == session) (map (session_of first past) live.sessions)
    (each_begun number tables first past live.sessions two (and_left (list_all (is_sound_session number tables) live.sessions) (have_room number live.sessions) three)))

-- ---- numbers of held changes

numbers_above : (low high : ℕ) → low < high → (h : HeldChange) → high < h.number → low < h.number
numbers_above low high p h q = omega (arith, p, q)

record NumbersAbove (low : ℕ) (held : List HeldChange) : Type 0 where
  two : EachTwo (λ (h g : HeldChange). h.number < g.number) held
  each : AllByRecursion (λ (h : HeldChange). low < h.number) held

numbered : (low : ℕ) (held : List HeldChange) → rises number_of low held ≡ true → NumbersAbove low held
numbered low [] h = record { two = tt; each = tt }
numbered low (g ∷ held) h =
    let up = ltb-true low g.number (and_left (nat_lt low g.number) (rises number_of g.number held) h) in
    let rest = numbered g.number held (and_right (nat_lt low g.number) (rises number_of g.number held) h) in
    record { two = (rest.each, rest.two); each = (up, all_weaker (λ (t : HeldChange). g.number < t.number) (λ (t : HeldChange). low < t.number) (numbers_above low g.number up) held rest.each) }

-- what two of a list have, two of those that pass have
two_filtered : {X : Type 0} (R : X → X → Type 0) (p : X → Bool) (xs : List X) → EachTwo R xs → EachTwo R (filter p xs)
two_filtered R p [] h = tt
two_filtered {X} R p (x ∷ xs) h = by (p x) (two_filtered R p xs h.1)
  where
    by : (b : Bool) → EachTwo R (filter p xs) → EachTwo R (cond b (x ∷ filter p xs) (filter p xs))
    by true rest = (all_filter (R x) p xs h.0, rest)
    by false rest = rest

-- what two held changes have, two past ones have, where it does not ask for their records
module _ (R : HeldChange → HeldChange → Type 0) (Q : PastChange → PastChange → Type 0) (longs : TableValues) (tables : List Table)
    (told : (h g : HeldChange) (one : Option RecordFields) (other : Option RecordFields) → R h g → Q (past_change (held_record_in longs h) one) (past_change (held_record_in longs g) other)) where
  past_each : (h : HeldChange) (one : Option RecordFields) (held : List HeldChange) → AllByRecursion (R h) held → AllByRecursion (Q (past_change (held_record_in longs h) one)) (past_of (map (held_record_in longs) held) tables)
  past_each h one [] r = tt
  past_each h one (g ∷ held) r = (told h g one (record_in (tables_before (map (held_record_in longs) held) tables) g.table g.bookmark) r.0, past_each h one held r.1)

  past_two : (held : List HeldChange) → EachTwo R held → EachTwo Q (past_of (map (held_record_in longs) held) tables)
  past_two [] r = tt
  past_two (h ∷ held) r = (past_each h (record_in (tables_before (map (held_record_in longs) held) tables) h.table h.bookmark) held r.0, past_two held r.1)

pub numbers_rise : (longs : TableValues) (tables : List Table) (live : LivePart) → live_fits live ≡ true → EachTwo NumbersRise (past_of (map (held_record_in longs) (standing live.held)) tables)
numbers_rise longs tables live h =
    let held = and_right (nat_le (length live.sessions) 64 && (rises label_of 0 live.sessions && list_all session_fits live.sessions)) (nat_lt (length live.held) (2 ^ 32) && (rises number_of 0 live.held && list_all held_fits live.held)) h in
    let up = and_left (rises number_of 0 live.held) (list_all held_fits live.held) (and_right (nat_lt (length live.held) (2 ^ 32)) (rises number_of 0 live.held && list_all held_fits live.held) held) in
    past_two (λ (h g : HeldChange). h.number < g.number) NumbersRise longs tables (λ h g one other r. r) (standing live.held)
    (two_filtered (λ (h g : HeldChange). h.number < g.number) (λ h. not (is_undone h.status)) live.held (numbered 0 live.held up).two)

-- ---- levels of open changes

level_of : (open_one open_other same le : Bool) → (not (open_one && (open_other && same)) || le) ≡ true → open_one ≡ true → open_other ≡ true → same ≡ true → le ≡ true
level_of true true true le h p q r = h
level_of false open_other same le h p q r = impossible p
level_of true false same le h p q r = impossible q
level_of true true false le h p q r = impossible r

two_levels : (tables : List TableContents) (sessions : List LiveState) (held : List HeldChange) → are_in_order tables sessions held ≡ true → EachTwo (λ h g. levels_rise h g ≡ true) held
two_levels tables sessions [] h = tt
two_levels tables sessions (g ∷ held) h =
    let rest = and_right (goes_on (node_under tables g) g held) (list_all (is_before sessions g) held && are_in_order tables sessions held) h in (
      all_weaker (λ other. is_before sessions g other ≡ true) (λ other. levels_rise g other ≡ true) (λ other e. and_right (not (is_record g.table g.bookmark other) || ((is_add g.kind && is_add other.kind) || are_apart sessions g other)) (levels_rise g other) e) held (each_passes (is_before sessions g) held (and_left (list_all (is_before sessions g) held) (are_in_order tables sessions held) rest)),
      two_levels tables sessions held (and_right (list_all (is_before sessions g) held) (are_in_order tables sessions held) rest),
    )

pub levels_stay : (number : ℕ) (contents : List TableContents) (longs : TableValues) (tables : List Table) (live : LivePart) → is_sound_live number contents live ≡ true → EachTwo LevelsRise (past_of (map (held_record_in longs) (standing live.held)) tables)
levels_stay number contents longs tables live h =
    let rest = and_right (are_sound_sessions number contents live.sessions) (list_all (is_sound_change number contents live.sessions) live.held && are_in_order contents live.sessions (standing live.held)) h in
    past_two (λ h g. levels_rise h g ≡ true) LevelsRise longs tables
    (λ h g one other r p q same. leb-true h.level g.level (level_of (is_open h.status) (is_open g.status) (h.session == g.session) (nat_le h.level g.level) r p q (eq-eqb h.session g.session same)))
    (standing live.held) (two_levels contents live.sessions (standing live.held) (and_right (list_all (is_sound_change number contents live.sessions) live.held) (are_in_order contents live.sessions (standing live.held)) rest))

-- ---- changes that collide

made_table : (what : ChangeKind) (table : ℕ) (bookmark : List ℕ) (after : Option RecordFields) → changed_table (change_made what table bookmark after) ≡ table
made_table kind.Put table bookmark after = refl
made_table kind.Drop table bookmark after = refl
made_table kind.Hold table bookmark after = refl
made_table (kind.Add column amount) table bookmark after = refl

made_bookmark : (what : ChangeKind) (table : ℕ) (bookmark : List ℕ) (after : Option RecordFields) → changed_bookmark (change_made what table bookmark after) ≡ bookmark
made_bookmark kind.Put table bookmark after = refl
made_bookmark kind.Drop table bookmark after = refl
made_bookmark kind.Hold table bookmark after = refl
made_bookmark (kind.Add column amount) table bookmark after = refl

made_sum : (what : ChangeKind) (table : ℕ) (bookmark : List ℕ) (after : Option RecordFields) → is_sum (change_made what table bookmark after) ≡ is_add what
made_sum kind.Put table bookmark after = refl
made_sum kind.Drop table bookmark after = refl
made_sum kind.Hold table bookmark after = refl
made_sum (kind.Add column amount) table bookmark after = refl

-- the transaction of a session in the state is the live one with its copy
pub copied : (first : List Table) (past : List PastChange) (sessions : List LiveState) (label : ℕ)
    → option_and_then (λ (s : LiveSession). s.transaction) (find (λ (s : LiveSession). s.label == label) (map (session_of first past) sessions)) ≡ option_map (with_snapshot first past) (transaction_in label sessions)
copied first past [] label = refl
copied first past (s ∷ sessions) label = by (s.label == label) (copied first past sessions label)
  where
    rest : Option LiveSession
    rest = find (λ (s : LiveSession). s.label == label) (map (session_of first past) sessions)

    others : Option LiveState
    others = find (λ (s : LiveState). s.label == label) sessions

    by : (b : Bool) → option_and_then (λ (s : LiveSession). s.transaction) rest ≡ option_map (with_snapshot first past) (option_and_then (λ (s : LiveState). s.transaction) others)
        → option_and_then (λ (s : LiveSession). s.transaction) (cond b (Some (session_of first past s)) rest) ≡ option_map (with_snapshot first past) (option_and_then (λ (s : LiveState). s.transaction) (cond b (Some s) others))
    by true e = refl
    by false e = e

-- whether two changes are apart does not depend on the copy
apart_alike : (first : List Table) (past : List PastChange) (o : Option LiveTransaction) (number : ℕ) (same : Bool) (earlier later : Status) → is_apart_by (option_map with_empty_snapshot o) number same earlier later ≡ is_apart_by (option_map (with_snapshot first past) o) number same earlier later
apart_alike first past None number same earlier later = refl
apart_alike first past (Some t) number same earlier uncommitted = refl
apart_alike first past (Some t) number same earlier (committed at) = refl
apart_alike first past (Some t) number same earlier undone = refl

-- of two changes of one record that are not both sums
apart_of : (record_same add_one add_other apart : Bool) → (not record_same || ((add_one && add_other) || apart)) ≡ true → record_same ≡ true → not (add_one && add_other) ≡ true → apart ≡ true
apart_of true false add_other apart h r n = h
apart_of true true false apart h r n = h
apart_of true true true apart h r n = impossible n
apart_of false add_one add_other apart h r n = impossible r

-- a collision is of one record, and not of two sums
same_record : (h g : HeldChange) → ((h.table == g.table) && bytes_eq h.bookmark g.bookmark && not (is_add h.kind && is_add g.kind)) ≡ true → is_record h.table h.bookmark g ≡ true
same_record h g e =
    let both = and_left ((h.table == g.table) && bytes_eq h.bookmark g.bookmark) (not (is_add h.kind && is_add g.kind)) e in
    and_from (g.table == h.table) (bytes_eq g.bookmark h.bookmark)
    (equal_turned g.table h.table ∙ and_left (h.table == g.table) (bytes_eq h.bookmark g.bookmark) both)
    (bytes_turned g.bookmark h.bookmark ∙ and_right (h.table == g.table) (bytes_eq h.bookmark g.bookmark) both)

collided : (longs : TableValues) (h g : HeldChange) (one other : Option RecordFields) → collide (past_change (held_record_in longs h) one).change (past_change (held_record_in longs g) other).change ≡ true
    → ((h.table == g.table) && bytes_eq h.bookmark g.bookmark && not (is_add h.kind && is_add g.kind)) ≡ true
collided longs h g one other e =
    sym (ap (λ n. (n == changed_table (change_made g.kind g.table g.bookmark other)) && bytes_eq (changed_bookmark (change_made h.kind h.table h.bookmark one)) (changed_bookmark (change_made g.kind g.table g.bookmark other)) && not (is_sum (change_made h.kind h.table h.bookmark one) && is_sum (change_made g.kind g.table g.bookmark other))) (made_table h.kind h.table h.bookmark one)
    ∙ ap (λ n. (h.table == n) && bytes_eq (changed_bookmark (change_made h.kind h.table h.bookmark one)) (changed_bookmark (change_made g.kind g.table g.bookmark other)) && not (is_sum (change_made h.kind h.table h.bookmark one) && is_sum (change_made g.kind g.table g.bookmark other))) (made_table g.kind g.table g.bookmark other)
    ∙ ap (λ b. (h.table == g.table) && bytes_eq b (changed_bookmark (change_made g.kind g.table g.bookmark other)) && not (is_sum (change_made h.kind h.table h.bookmark one) && is_sum (change_made g.kind g.table g.bookmark other))) (made_bookmark h.kind h.table h.bookmark one)
    ∙ ap (λ b. (h.table == g.table) && bytes_eq h.bookmark b && not (is_sum (change_made h.kind h.table h.bookmark one) && is_sum (change_made g.kind g.table g.bookmark other))) (made_bookmark g.kind g.table g.bookmark other)
    ∙ ap (λ b. (h.table == g.table) && bytes_eq h.bookmark g.bookmark && not (b && is_sum (change_made g.kind g.table g.bookmark other))) (made_sum h.kind h.table h.bookmark one)
    ∙ ap (λ b. (h.table == g.table) && bytes_eq h.bookmark g.bookmark && not (is_add h.kind && b)) (made_sum g.kind g.table g.bookmark other)) ∙ e

two_apart : (tables : List TableContents) (sessions : List LiveState) (held : List HeldChange) → are_in_order tables sessions held ≡ true → EachTwo (λ h g. is_before sessions h g ≡ true) held
two_apart tables sessions [] h = tt
two_apart tables sessions (g ∷ held) h =
    let rest = and_right (goes_on (node_under tables g) g held) (list_all (is_before sessions g) held && are_in_order tables sessions held) h in
    (each_passes (is_before sessions g) held (and_left (list_all (is_before sessions g) held) (are_in_order tables sessions held) rest), two_apart tables sessions held (and_right (list_all (is_before sessions g) held) (are_in_order tables sessions held) rest))

pub in_order : (number greatest : ℕ) (contents : List TableContents) (longs : TableValues) (tables : List Table) (live : LivePart) → is_sound_live number contents live ≡ true
    → EachTwo (InOrder (transaction_of (shown_state number greatest live.sessions (record { tables = tables; held = map (held_record_in longs) (standing live.held) })))) (past_of (map (held_record_in longs) (standing live.held)) tables)
in_order number greatest contents longs tables live h =
    let rest = and_right (are_sound_sessions number contents live.sessions) (list_all (is_sound_change number contents live.sessions) live.held && are_in_order contents live.sessions (standing live.held)) h in
    let first = tables_before (map (held_record_in longs) (standing live.held)) tables in
    let past = past_of (map (held_record_in longs) (standing live.held)) tables in
    let transactions = transaction_of (shown_state number greatest live.sessions (record { tables = tables; held = map (held_record_in longs) (standing live.held) })) in
    past_two (λ h g. is_before live.sessions h g ≡ true) (InOrder transactions) longs tables
    (λ h g one other r p q e.
    let hit = collided longs h g one other e in
    let apart = apart_of (is_record h.table h.bookmark g) (is_add h.kind) (is_add g.kind) (are_apart live.sessions h g)
    (and_left (not (is_record h.table h.bookmark g) || ((is_add h.kind && is_add g.kind) || are_apart live.sessions h g)) (levels_rise h g) r)
    (same_record h g hit) (and_right ((h.table == g.table) && bytes_eq h.bookmark g.bookmark) (not (is_add h.kind && is_add g.kind)) hit) in
    ap (λ o. is_apart_by o g.number (h.session == g.session) h.status g.status) (copied first past live.sessions g.session)
    ∙ (sym (apart_alike first past (transaction_in g.session live.sessions) g.number (h.session == g.session) h.status g.status) ∙ apart))
    (standing live.held) (two_apart contents live.sessions (standing live.held) (and_right (list_all (is_sound_change number contents live.sessions) live.held) (are_in_order contents live.sessions (standing live.held)) rest))
