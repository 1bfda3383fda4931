-- Lawful entries keep sessions and levels within their limits.
use Rattle.std.proofs.Common.{◌≡◌, ℕ, suc, ◌+◌, ◌-◌, ◌≤◌, Bool, true, false, not, cond, List, [], ◌∷◌, ◌++◌, length, Option, Some, None, refl, sym, ap, subst, ◌∙◌, arith}
use Rattle.std.specs.Prelude.{◌==◌, ◌&&◌, option_and_then, nat_le, nat_lt, map, filter, is_none, is_some, unwrap_or, IfSome}
use Rattle.std.specs.List.{AllByRecursion, list_any}
use Rattle.std.proofs.lemmas.Bool.Decides.{nat_tests}
use Rattle.std.proofs.lemmas.Bool.{eqb-true}
use Rattle.std.proofs.lemmas.List.{length-map}
use Rattle.common_lemmas.proofs.Booleans.{and_left, and_right, impossible}
use Rattle.common_lemmas.proofs.Found.{found_passes, of_found}
use Rattle.common_lemmas.proofs.Lists.{all_append, all_each, all_filter, all_weaker, length-filter}
use Rattle.jet_base.specs.declared.replies.Jet.TheVariants as jet
use Rattle.index_derive.specs.declared.log.Entry.{Entry}
use Rattle.index_derive.specs.declared.log.EntryKind.{EntryKind}
use Rattle.index_derive.specs.declared.log.EntryKind.TheVariants as entry
use Rattle.index_derive.specs.declared.schema_calls.SchemaStep.{SchemaStep}
use Rattle.index_derive.specs.declared.schema_calls.SchemaStep.TheVariants as step
use Rattle.column_set.specs.RecordValues.{tagged_if_long}
use Rattle.database_state.specs.Table.{Table, table_with_id, with_table}
use Rattle.database_state.specs.SchemaChanges.{is_in_use, makes_table, new_table, schema_refusal, step_refusals, step_table, tables_after_step, with_column, with_index, without_column, without_index}
use Rattle.database_state.specs.State.{DatabaseState, LiveSession, PastChange, Transaction, committed, empty_state, is_open_change_of, levels, levels_of, live_session, transaction_of, undone}
use Rattle.database_state.specs.Step.{applied, at_levels, every_change, insert_session, is_at_level, state_after, with_changes_at, with_levels, with_one, with_transaction, without_one}
use Rattle.database_state.specs.Lawful.{has_number, is_lawful, is_lawful_kind, is_live}
use Rattle.laws_versions.specs.History.{EachTwo, LabelsRise}
use Rattle.laws_versions.specs.KeptSteps.{with_next_number}
use Rattle.laws_versions.proofs.ChangeLemmas.Tests.{or_second}
use Rattle.laws_versions.proofs.HistoryLemmas.Labels.{are_labelled, labels_rise}
use Rattle.laws_versions.proofs.HistoryLemmas.Lists.{all_both}
use Rattle.laws_versions.proofs.HistoryLemmas.Viewing.{same_there}
use Rattle.laws_versions.proofs.KeyLemmas.IndexNumbers.{found_in_filter, none_of}
use Rattle.laws_versions.proofs.KeyLemmas.SchemaKeys.{unrefused}
use Rattle.laws_engine.proofs.LawfulLemmas.TableTests.{definitions_stay, is_schema_entry}
use Rattle.laws_images.specs.SoundStates.{DoNotFall, HasSoundSessions, IsLabel, IsLevel, IsOfEntry, IsSoundSession, IsSoundTransaction}

-- ---- open tables

all_with : (P : ℕ → Type 0) (id : ℕ) (ids : List ℕ) → P id → AllByRecursion P ids → AllByRecursion P (with_one id ids)
all_with P id [] p h = (p, tt)
all_with P id (other ∷ ids) p h = elim (nat_lt id other) as (λ b. AllByRecursion P (cond b (id ∷ other ∷ ids) (other ∷ with_one id ids))) [
  | true ↦ (p, h)
  | false ↦ (h.0, all_with P id ids p h.1)
]

order_with : (id : ℕ) (ids : List ℕ) → EachTwo DoNotFall ids → EachTwo DoNotFall (with_one id ids)
order_with id [] h = (tt, tt)
order_with id (other ∷ ids) h = elim (nat_lt id other) as (λ b. nat_lt id other ≡ b → EachTwo DoNotFall (cond b (id ∷ other ∷ ids) (other ∷ with_one id ids))) [
  | true ↦ λ e. ((less id other e, all_weaker (DoNotFall other) (DoNotFall id) (λ x le. less_all id other x e le) ids h.0), h)
  | false ↦ λ e. (all_with (DoNotFall other) id ids (above other id e) h.0, order_with id ids h.1)
] refl
  where
    less : (a b : ℕ) → nat_lt a b ≡ true → a ≤ b
    less a b e = grind (arith, nat_tests)

    less_all : (a b c : ℕ) → nat_lt a b ≡ true → b ≤ c → a ≤ c
    less_all a b c e le = grind (arith, nat_tests)

    above : (a b : ℕ) → nat_lt b a ≡ false → a ≤ b
    above a b e = grind (arith, nat_tests)

all_without : (P : ℕ → Type 0) (id : ℕ) (ids : List ℕ) → AllByRecursion P ids → AllByRecursion P (without_one id ids)
all_without P id [] h = tt
all_without P id (other ∷ ids) h = elim (other == id) as (λ b. AllByRecursion P (cond b ids (other ∷ without_one id ids))) [ true ↦ h.1 | false ↦ (h.0, all_without P id ids h.1) ]

order_without : (id : ℕ) (ids : List ℕ) → EachTwo DoNotFall ids → EachTwo DoNotFall (without_one id ids)
order_without id [] h = tt
order_without id (other ∷ ids) h = elim (other == id) as (λ b. EachTwo DoNotFall (cond b ids (other ∷ without_one id ids))) [ true ↦ h.1 | false ↦ (all_without (DoNotFall other) id ids h.0, order_without id ids h.1) ]

-- ---- one session

itself : (n : ℕ) → n ≤ n
itself n = omega arith

least : (n : ℕ) → 1 ≤ n + 1
least n = omega arith

first_level : IsLevel 1
first_level = (itself 1, below)
  where
    below : 1 ≤ 7
    below = omega arith

-- after an entry more, where its open tables are still there
later_session : (number : ℕ) (one other : List Table) (s : LiveSession) → AllByRecursion (λ id. is_some (table_with_id other id) ≡ true) s.open_tables → IsSoundSession number one s → IsSoundSession (number + 1) other s
later_session number one other s there h = record { label = h.label; in_order = h.in_order; there = there; transaction = later s.transaction h.transaction }
  where
    more : (a b : ℕ) → a ≤ b → a ≤ b + 1
    more a b le = omega arith

    later : (o : Option Transaction) → IfSome o (IsSoundTransaction number) → IfSome o (IsSoundTransaction (number + 1))
    later None t = tt
    later (Some t) h = (h.0, h.1, more t.begin number h.2)

-- with another transaction
in_transaction : (number : ℕ) (tables : List Table) (t : Option Transaction) (s : LiveSession) → IfSome t (IsSoundTransaction number) → IsSoundSession number tables s → IsSoundSession number tables (record s { transaction = t })
in_transaction number tables t s sound h = record { label = h.label; in_order = h.in_order; there = h.there; transaction = sound }

one_more : (number : ℕ) (o : Option Transaction) → levels_of o ≤ 6 → IfSome o (IsSoundTransaction number) → IfSome (at_levels (λ n. n + 1) o) (IsSoundTransaction number)
one_more number None le h = tt
one_more number (Some t) le h = ((least t.levels, most t.levels le), h.1, h.2)
  where
    most : (n : ℕ) → n ≤ 6 → n + 1 ≤ 7
    most n le = omega arith

lower_level : (n : ℕ) → 2 ≤ n → n ≤ 7 → IsLevel (n - 1)
lower_level n low high = (still_one n low, most n high)
  where
    still_one : (n : ℕ) → 2 ≤ n → 1 ≤ n - 1
    still_one n le = omega arith

    most : (n : ℕ) → n ≤ 7 → n - 1 ≤ 7
    most n le = omega arith

one_less : (number : ℕ) (o : Option Transaction) → 2 ≤ levels_of o → IfSome o (IsSoundTransaction number) → IfSome (at_levels (λ n. n - 1) o) (IsSoundTransaction number)
one_less number None le h = tt
one_less number (Some t) le h = (lower_level t.levels le h.0.1, h.1, h.2)

-- ---- all sessions

all_insert : (P : LiveSession → Type 0) (new : LiveSession) (sessions : List LiveSession) → P new → AllByRecursion P sessions → AllByRecursion P (insert_session new sessions)
all_insert P new [] p h = (p, tt)
all_insert P new (s ∷ sessions) p h = elim (nat_lt new.label s.label) as (λ b. AllByRecursion P (cond b (new ∷ s ∷ sessions) (s ∷ insert_session new sessions))) [
  | true ↦ (p, h)
  | false ↦ (h.0, all_insert P new sessions p h.1)
]

length-insert : (new : LiveSession) (sessions : List LiveSession) → length (insert_session new sessions) ≡ suc (length sessions)
length-insert new [] = refl
length-insert new (s ∷ sessions) = elim (nat_lt new.label s.label) as (λ b. length (cond b (new ∷ s ∷ sessions) (s ∷ insert_session new sessions)) ≡ suc (length (s ∷ sessions))) [
  | true ↦ refl
  | false ↦ ap suc (length-insert new sessions)
]

each_changed : (P : LiveSession → Type 0) (label : ℕ) (change : LiveSession → LiveSession) (sessions : List LiveSession) → AllByRecursion (λ s. P s × ((s.label == label) ≡ true → P (change s))) sessions
    → AllByRecursion P (map (λ s. cond (s.label == label) (change s) s) sessions)
each_changed P label change [] h = tt
each_changed P label change (s ∷ sessions) h = (by (s.label == label) refl, each_changed P label change sessions h.1)
  where
    by : (b : Bool) → (s.label == label) ≡ b → P (cond b (change s) s)
    by true e = h.0.1 e
    by false e = h.0.0

-- the session of the label changes, in the levels that it has
own_changed : (state : DatabaseState) (label : ℕ) (P : LiveSession → Type 0) (change : LiveSession → LiveSession) → EachTwo LabelsRise state.sessions → ((s : LiveSession) → levels_of s.transaction ≡ levels state label → P s → P (change s))
    → AllByRecursion P state.sessions → AllByRecursion P (map (λ s. cond (s.label == label) (change s) s) state.sessions)
own_changed state label P change rise step h =
    each_changed P label change state.sessions
    (all_both P (λ s. transaction_of state s.label ≡ s.transaction) (λ s. P s × ((s.label == label) ≡ true → P (change s)))
    (λ s p own. (p, λ e. step s (sym (ap levels_of own) ∙ ap (levels state) (eqb-true s.label label e)) p)) state.sessions h (are_labelled state rise))

-- the levels of a session that is there
levels_most : (state : DatabaseState) (label : ℕ) → AllByRecursion (IsSoundSession state.number state.tables) state.sessions → levels state label ≤ 7
levels_most state label h = by (live_session state label) refl
  where
    none : 0 ≤ 7
    none = omega arith

    most : (o : Option Transaction) → IfSome o (IsSoundTransaction state.number) → levels_of o ≤ 7
    most None t = none
    most (Some t) h = h.0.1

    by : (o : Option LiveSession) → live_session state label ≡ o → levels state label ≤ 7
    by None e = subst (λ (found : Option LiveSession). levels_of (option_and_then (λ (s : LiveSession). s.transaction) found) ≤ 7) (sym e) none
    by (Some s) e = subst (λ (found : Option LiveSession). levels_of (option_and_then (λ (s : LiveSession). s.transaction) found) ≤ 7) (sym e)
        (most s.transaction (of_found (IsSoundSession state.number state.tables) (λ (x : LiveSession). x.label == label) state.sessions s e h).transaction)

-- ---- tables that are still there

there_with : (d : ℕ) (change : Table → Table) → ((t : Table) → (change t).id ≡ t.id) → (tables : List Table) (id : ℕ) → is_some (table_with_id (with_table d change tables) id) ≡ is_some (table_with_id tables id)
there_with d change same [] id = refl
there_with d change same (t ∷ tables) id =
    ap (λ n. is_some (cond (n == id) (Some (cond (t.id == d) (change t) t)) (table_with_id (with_table d change tables) id))) own
    ∙ elim (t.id == id) as (λ b. is_some (cond b (Some (cond (t.id == d) (change t) t)) (table_with_id (with_table d change tables) id)) ≡ is_some (cond b (Some t) (table_with_id tables id))) [
      | true ↦ refl
      | false ↦ there_with d change same tables id
    ]
  where
    own : (cond (t.id == d) (change t) t).id ≡ t.id
    own = elim (t.id == d) as (λ b. (cond b (change t) t).id ≡ t.id) [ true ↦ same t | false ↦ refl ]

there_last : (new : Table) (tables : List Table) (id : ℕ) → is_some (table_with_id tables id) ≡ true → is_some (table_with_id (tables ++ new ∷ []) id) ≡ true
there_last new [] id h = impossible h
there_last new (t ∷ tables) id h = elim (t.id == id) as (λ b. is_some (cond b (Some t) (table_with_id tables id)) ≡ true → is_some (cond b (Some t) (table_with_id (tables ++ new ∷ []) id)) ≡ true) [
  | true ↦ λ g. refl
  | false ↦ λ g. there_last new tables id g
] h

there_apart : (d : ℕ) (tables : List Table) (id : ℕ) → (id == d) ≡ false → is_some (table_with_id tables id) ≡ true → is_some (table_with_id (filter (λ t. not (t.id == d)) tables) id) ≡ true
there_apart d tables id apart h =
    ap is_some (found_in_filter (λ t. t.id == id) (λ t. not (t.id == d)) tables (all_each (λ t. (t.id == id) ≡ true → not (t.id == d) ≡ true) (λ t f. ap (λ k. not (k == d)) (eqb-true t.id id f) ∙ ap not apart) tables)) ∙ h

not_in_use : (state : DatabaseState) (label : ℕ) (made : SchemaStep) → is_none (schema_refusal state label made) ≡ true → (not (makes_table made) && is_none (step_table state.tables made)) ≡ false × is_in_use state label (step_table state.tables made) ≡ false
unfolding schema_refusal
not_in_use state label made h =
    let all = unrefused
    ((not (levels state label == 0), jet.InTransaction) ∷ (not (makes_table made) && is_none (step_table state.tables made), jet.ObjectNotFound) ∷ (is_in_use state label (step_table state.tables made), jet.TableInUse)
    ∷ step_refusals state (unwrap_or (step_table state.tables made) (new_table 0 [])) made) h in
    (all.1.0, all.1.1.0)

-- no session has a table open that goes
none_open : (state : DatabaseState) (label d : ℕ) → is_none (table_with_id state.tables d) ≡ false → is_in_use state label (table_with_id state.tables d) ≡ false → AllByRecursion (λ s. AllByRecursion (λ id. (id == d) ≡ false) s.open_tables) state.sessions
none_open state label d there free = by (table_with_id state.tables d) refl there free
  where
    by : (o : Option Table) → table_with_id state.tables d ≡ o → is_none o ≡ false → is_in_use state label o ≡ false → AllByRecursion (λ s. AllByRecursion (λ id. (id == d) ≡ false) s.open_tables) state.sessions
    by None e there free = impossible (sym there)
    by (Some t) e there free =
        all_weaker (λ s. list_any (λ id. id == t.id) s.open_tables ≡ false) (λ s. AllByRecursion (λ id. (id == d) ≡ false) s.open_tables)
        (λ s f. none_of (λ id. id == d) s.open_tables (ap (λ k. list_any (λ id. id == k) s.open_tables) (sym (eqb-true t.id d (found_passes (λ (x : Table). x.id == d) state.tables t e))) ∙ f)) state.sessions
        (none_of (λ s. list_any (λ id. id == t.id) s.open_tables) state.sessions (or_second (list_any (λ s. not (s.label == label) && is_some s.transaction) state.sessions) _ free))

abbrev AllThere : List Table → LiveSession → Type 0
AllThere tables s = AllByRecursion (λ id. is_some (table_with_id tables id) ≡ true) s.open_tables

-- where each table is still there
each_there : (one other : List Table) → ((id : ℕ) → is_some (table_with_id one id) ≡ true → is_some (table_with_id other id) ≡ true) → (sessions : List LiveSession) → AllByRecursion (AllThere one) sessions → AllByRecursion (AllThere other) sessions
each_there one other same sessions h = all_weaker (AllThere one) (AllThere other) (λ s. all_weaker (λ id. is_some (table_with_id one id) ≡ true) (λ id. is_some (table_with_id other id) ≡ true) same s.open_tables) sessions h

there_after_step : (state : DatabaseState) (label : ℕ) (made : SchemaStep) → is_none (schema_refusal state label made) ≡ true → AllByRecursion (AllThere state.tables) state.sessions → AllByRecursion (AllThere (tables_after_step state.tables made)) state.sessions
there_after_step state label (step.CreateTable table name) e h = each_there state.tables (tables_after_step state.tables (step.CreateTable table name)) (λ id. there_last (new_table table.0 name) state.tables id) state.sessions h
there_after_step state label (step.DeleteTable table) e h =
    let free = not_in_use state label (step.DeleteTable table) e in
    all_both (AllThere state.tables) (λ s. AllByRecursion (λ id. (id == table.0) ≡ false) s.open_tables) (AllThere (tables_after_step state.tables (step.DeleteTable table)))
    (λ s there apart. all_both (λ id. is_some (table_with_id state.tables id) ≡ true) (λ id. (id == table.0) ≡ false) (λ id. is_some (table_with_id (tables_after_step state.tables (step.DeleteTable table)) id) ≡ true)
    (λ id is e. there_apart table.0 state.tables id e is) s.open_tables there apart) state.sessions h (none_open state label table.0 free.0 free.1)
there_after_step state label (step.AddColumn table column) e h = each_there state.tables (tables_after_step state.tables (step.AddColumn table column)) (λ id is. there_with table.0 (with_column (tagged_if_long column)) (λ t. refl) state.tables id ∙ is) state.sessions h
there_after_step state label (step.DeleteColumn table column) e h = each_there state.tables (tables_after_step state.tables (step.DeleteColumn table column)) (λ id is. there_with table.0 (without_column column.0) (λ t. refl) state.tables id ∙ is) state.sessions h
there_after_step state label (step.CreateIndex table rule) e h = each_there state.tables (tables_after_step state.tables (step.CreateIndex table rule)) (λ id is. there_with table.0 (with_index rule) (λ t. refl) state.tables id ∙ is) state.sessions h
there_after_step state label (step.DeleteIndex table index) e h = each_there state.tables (tables_after_step state.tables (step.DeleteIndex table index)) (λ id is. there_with table.0 (without_index index.0) (λ t. refl) state.tables id ∙ is) state.sessions h

there_after : (state : DatabaseState) (label : ℕ) (kind : EntryKind) → is_lawful_kind state label kind ≡ true → AllByRecursion (AllThere state.tables) state.sessions → AllByRecursion (AllThere (applied label kind (with_next_number state)).tables) state.sessions
there_after state label kind e h = by (is_schema_entry kind) refl
  where
    of_step : (k : EntryKind) → is_schema_entry k ≡ true → is_lawful_kind state label k ≡ true → AllByRecursion (AllThere (applied label k (with_next_number state)).tables) state.sessions
    of_step (entry.Schema made) f e = there_after_step state label made (and_right (is_live state label) _ (and_left _ _ e)) h
    of_step _ f e = impossible f

    by : (b : Bool) → is_schema_entry kind ≡ b → AllByRecursion (AllThere (applied label kind (with_next_number state)).tables) state.sessions
    by true f = of_step kind f e
    by false f = each_there state.tables (applied label kind (with_next_number state)).tables (λ id is. same_there (applied label kind (with_next_number state)).tables state.tables (definitions_stay state label kind f) id ∙ is) state.sessions h

-- ---- any entry

abbrev Sound : DatabaseState → Type 0
Sound state = AllByRecursion (IsSoundSession state.number state.tables) state.sessions

-- the sessions as they were, beside the number and the tables of an entry more
abbrev AreStill : DatabaseState → ℕ → EntryKind → Type 0
AreStill state label kind = AllByRecursion (IsSoundSession (state.number + 1) (applied label kind (with_next_number state)).tables) state.sessions

still : (state : DatabaseState) (label : ℕ) (kind : EntryKind) → is_lawful_kind state label kind ≡ true → Sound state → AreStill state label kind
still state label kind e h =
    all_both (IsSoundSession state.number state.tables) (AllThere (applied label kind (with_next_number state)).tables) (IsSoundSession (state.number + 1) (applied label kind (with_next_number state)).tables)
    (λ s sound there. later_session state.number state.tables (applied label kind (with_next_number state)).tables s there sound) state.sessions h
    (there_after state label kind e (all_weaker (IsSoundSession state.number state.tables) (AllThere state.tables) (λ s sound. sound.there) state.sessions h))

sound_by_kind : (state : DatabaseState) (label : ℕ) (kind : EntryKind) → IsLabel label → EachTwo LabelsRise state.sessions → is_lawful_kind state label kind ≡ true → AreStill state label kind
    → AllByRecursion (IsSoundSession (state.number + 1) (applied label kind (with_next_number state)).tables) (applied label kind (with_next_number state)).sessions
sound_by_kind state label entry.Enter is rise e h = all_insert (IsSoundSession (state.number + 1) state.tables) (record { label = label; open_tables = []; transaction = None }) state.sessions (record { label = is; in_order = tt; there = tt; transaction = tt }) h
sound_by_kind state label entry.Leave is rise e h =
    all_filter (IsSoundSession (state.number + 1) state.tables) (λ s. not (s.label == label)) (with_transaction label None (with_next_number state)).sessions
    (own_changed state label (IsSoundSession (state.number + 1) state.tables) (λ s. record s { transaction = None }) rise (λ s levels p. in_transaction (state.number + 1) state.tables None s tt p) h)
sound_by_kind state label (entry.Open table) is rise e h =
    own_changed state label (IsSoundSession (state.number + 1) state.tables) (λ s. record s { open_tables = with_one table.0 s.open_tables }) rise
    (λ s levels p. record {
      label = p.label;
      in_order = order_with table.0 s.open_tables p.in_order;
      there = all_with (λ id. is_some (table_with_id state.tables id) ≡ true) table.0 s.open_tables (and_right (is_live state label) _ e) p.there;
      transaction = p.transaction;
    }) h
sound_by_kind state label (entry.Shut table) is rise e h =
    own_changed state label (IsSoundSession (state.number + 1) state.tables) (λ s. record s { open_tables = without_one table.0 s.open_tables }) rise
    (λ s levels p. record {
      label = p.label;
      in_order = order_without table.0 s.open_tables p.in_order;
      there = all_without (λ id. is_some (table_with_id state.tables id) ≡ true) table.0 s.open_tables p.there;
      transaction = p.transaction;
    }) h
sound_by_kind state label entry.Begin is rise e h =
    own_changed state label (IsSoundSession (state.number + 1) state.tables) (λ s. record s { transaction = Some (record { levels = 1; begin = state.number + 1; snapshot = state.tables }) }) rise
    (λ s levels p. in_transaction (state.number + 1) state.tables (Some (record { levels = 1; begin = state.number + 1; snapshot = state.tables })) s (first_level, least state.number, itself (state.number + 1)) p) h
sound_by_kind state label entry.Save is rise e h =
    own_changed state label (IsSoundSession (state.number + 1) state.tables) (λ s. record s { transaction = at_levels (λ n. n + 1) s.transaction }) rise
    (λ s own p. in_transaction (state.number + 1) state.tables _ s (one_more (state.number + 1) s.transaction (subst (λ n. n ≤ 6) (sym own) (most (levels state label) (and_right (nat_le 1 (levels state label)) _ e))) p.transaction) p) h
  where
    most : (n : ℕ) → nat_le n 6 ≡ true → n ≤ 6
    most n e = grind (arith, nat_tests)
sound_by_kind state label (entry.Change change) is rise e h = h
sound_by_kind state label entry.Release is rise e h =
    own_changed state label (IsSoundSession (state.number + 1) state.tables) (λ s. record s { transaction = at_levels (λ n. n - 1) s.transaction }) rise
    (λ s own p. in_transaction (state.number + 1) state.tables _ s (one_less (state.number + 1) s.transaction (subst (λ n. 2 ≤ n) (sym own) (two (levels state label) e)) p.transaction) p) h
  where
    two : (n : ℕ) → nat_le 2 n ≡ true → 2 ≤ n
    two n e = grind (arith, nat_tests)
sound_by_kind state label entry.Undo is rise e h = either (nat_lt 1 (levels state label)) refl h
  where
    undoing : DatabaseState
    undoing = with_changes_at label (is_at_level (levels state label)) (λ item. record item { status = undone }) (with_next_number state)

    after : Bool → DatabaseState
    after b = cond b (with_levels label (λ n. n - 1) undoing) (with_transaction label None undoing)

    two : (n : ℕ) → nat_lt 1 n ≡ true → 2 ≤ n
    two n e = grind (arith, nat_tests)

    either : (b : Bool) → nat_lt 1 (levels state label) ≡ b → AllByRecursion (IsSoundSession (state.number + 1) (after b).tables) state.sessions → AllByRecursion (IsSoundSession (state.number + 1) (after b).tables) (after b).sessions
    either true f h =
        own_changed state label (IsSoundSession (state.number + 1) state.tables) (λ s. record s { transaction = at_levels (λ n. n - 1) s.transaction }) rise
        (λ s own p. in_transaction (state.number + 1) state.tables _ s (one_less (state.number + 1) s.transaction (subst (λ n. 2 ≤ n) (sym own) (two (levels state label) f)) p.transaction) p) h
    either false f h =
        own_changed state label (IsSoundSession (state.number + 1) state.tables) (λ s. record s { transaction = None }) rise (λ s levels p. in_transaction (state.number + 1) state.tables None s tt p) h
sound_by_kind state label entry.UndoAll is rise e h =
    own_changed state label (IsSoundSession (state.number + 1) state.tables) (λ s. record s { transaction = None }) rise (λ s levels p. in_transaction (state.number + 1) state.tables None s tt p) h
sound_by_kind state label entry.Commit is rise e h =
    own_changed state label (IsSoundSession (state.number + 1) (applied label entry.Commit (with_next_number state)).tables) (λ s. record s { transaction = None }) rise
    (λ s levels p. in_transaction (state.number + 1) (applied label entry.Commit (with_next_number state)).tables None s tt p) h
sound_by_kind state label (entry.Schema made) is rise e h = h

-- ---- how many they are

most_by_kind : (state : DatabaseState) (label : ℕ) (kind : EntryKind) → is_lawful_kind state label kind ≡ true → length state.sessions ≤ 64 → length (applied label kind (with_next_number state)).sessions ≤ 64
most_by_kind state label entry.Enter e h = subst (λ n. n ≤ 64) (sym (length-insert (record { label = label; open_tables = []; transaction = None }) state.sessions)) (room (length state.sessions) (and_right (not (is_live state label)) _ e))
  where
    room : (n : ℕ) → nat_lt n 64 ≡ true → suc n ≤ 64
    room n e = grind (arith, nat_tests)
most_by_kind state label entry.Leave e h = through _ _ (length-filter (λ s. not (s.label == label)) (with_transaction label None (with_next_number state)).sessions) (subst (λ n. n ≤ 64) (sym (length-map state.sessions _)) h)
  where
    through : (a b : ℕ) → a ≤ b → b ≤ 64 → a ≤ 64
    through a b le h = omega arith
most_by_kind state label (entry.Open table) e h = subst (λ n. n ≤ 64) (sym (length-map state.sessions _)) h
most_by_kind state label (entry.Shut table) e h = subst (λ n. n ≤ 64) (sym (length-map state.sessions _)) h
most_by_kind state label entry.Begin e h = subst (λ n. n ≤ 64) (sym (length-map state.sessions _)) h
most_by_kind state label entry.Save e h = subst (λ n. n ≤ 64) (sym (length-map state.sessions _)) h
most_by_kind state label (entry.Change change) e h = h
most_by_kind state label entry.Release e h = subst (λ n. n ≤ 64) (sym (length-map state.sessions _)) h
most_by_kind state label entry.Undo e h = either (nat_lt 1 (levels state label))
  where
    undoing : DatabaseState
    undoing = with_changes_at label (is_at_level (levels state label)) (λ item. record item { status = undone }) (with_next_number state)

    either : (b : Bool) → length (cond b (with_levels label (λ n. n - 1) undoing) (with_transaction label None undoing)).sessions ≤ 64
    either true = subst (λ n. n ≤ 64) (sym (length-map state.sessions _)) h
    either false = subst (λ n. n ≤ 64) (sym (length-map state.sessions _)) h
most_by_kind state label entry.UndoAll e h = subst (λ n. n ≤ 64) (sym (length-map state.sessions _)) h
most_by_kind state label entry.Commit e h = subst (λ n. n ≤ 64) (sym (length-map state.sessions _)) h
most_by_kind state label (entry.Schema made) e h = h

-- ---- levels of changes

abbrev HasLevel : PastChange → Type 0
HasLevel item = IsLevel item.level

abbrev changed_item : ℕ → (PastChange → Bool) → (PastChange → PastChange) → PastChange → PastChange
changed_item label test change item = cond (is_open_change_of label item && test item) (change item) item

-- changes that keep a fact where they are made
each_item : (P : PastChange → Type 0) (label : ℕ) (test : PastChange → Bool) (change : PastChange → PastChange) → ((item : PastChange) → test item ≡ true → P item → P (change item)) → (past : List PastChange) → AllByRecursion P past → AllByRecursion P (map (changed_item label test change) past)
each_item P label test change keeps [] h = tt
each_item P label test change keeps (item ∷ past) h = (by (is_open_change_of label item && test item) refl, each_item P label test change keeps past h.1)
  where
    by : (b : Bool) → (is_open_change_of label item && test item) ≡ b → P (cond b (change item) item)
    by true e = keeps item (and_right (is_open_change_of label item) _ e) h.0
    by false e = h.0

levels_changed : (label : ℕ) (test : PastChange → Bool) (change : PastChange → PastChange) → ((item : PastChange) → test item ≡ true → HasLevel item → HasLevel (change item)) → (past : List PastChange) → AllByRecursion HasLevel past → AllByRecursion HasLevel (map (changed_item label test change) past)
levels_changed = each_item HasLevel

abbrev undone_item : PastChange → PastChange
undone_item item = record item { status = undone }

levels_by_kind : (state : DatabaseState) (label : ℕ) (kind : EntryKind) → is_lawful_kind state label kind ≡ true → levels state label ≤ 7 → AllByRecursion HasLevel state.past → AllByRecursion HasLevel (applied label kind (with_next_number state)).past
levels_by_kind state label entry.Enter e most h = h
levels_by_kind state label entry.Leave e most h = levels_changed label every_change undone_item (λ item f p. p) state.past h
levels_by_kind state label (entry.Open table) e most h = h
levels_by_kind state label (entry.Shut table) e most h = h
levels_by_kind state label entry.Begin e most h = h
levels_by_kind state label entry.Save e most h = h
levels_by_kind state label (entry.Change change) e most h = all_append HasLevel state.past _ h ((one (levels state label) (and_left _ _ (and_left _ _ e)), most), tt)
  where
    one : (n : ℕ) → nat_lt 0 n ≡ true → 1 ≤ n
    one n e = grind (arith, nat_tests)
levels_by_kind state label entry.Release e most h =
    levels_changed label (is_at_level (levels state label)) (λ item. record item { level = item.level - 1 })
    (λ item f p. lower_level item.level (subst (λ n. 2 ≤ n) (sym (eqb-true item.level (levels state label) f)) (two (levels state label) e)) p.1) state.past h
  where
    two : (n : ℕ) → nat_le 2 n ≡ true → 2 ≤ n
    two n e = grind (arith, nat_tests)
levels_by_kind state label entry.Undo e most h = either (nat_lt 1 (levels state label))
  where
    undoing : DatabaseState
    undoing = with_changes_at label (is_at_level (levels state label)) undone_item (with_next_number state)

    either : (b : Bool) → AllByRecursion HasLevel (cond b (with_levels label (λ n. n - 1) undoing) (with_transaction label None undoing)).past
    either true = levels_changed label (is_at_level (levels state label)) undone_item (λ item f p. p) state.past h
    either false = levels_changed label (is_at_level (levels state label)) undone_item (λ item f p. p) state.past h
levels_by_kind state label entry.UndoAll e most h = levels_changed label every_change undone_item (λ item f p. p) state.past h
levels_by_kind state label entry.Commit e most h = levels_changed label every_change (λ item. record item { status = committed (state.number + 1) }) (λ item f p. p) state.past h
levels_by_kind state label (entry.Schema made) e most h = h

-- ---- entries of changes

-- no change of a change has another number or session
same_entry : (label : ℕ) (test : PastChange → Bool) (change : PastChange → PastChange) → ((item : PastChange) → IsOfEntry item → IsOfEntry (change item)) → (past : List PastChange) → AllByRecursion IsOfEntry past → AllByRecursion IsOfEntry (map (changed_item label test change) past)
same_entry label test change keeps past h = each_item IsOfEntry label test change (λ item f p. keeps item p) past h

entries_by_kind : (state : DatabaseState) (label : ℕ) (kind : EntryKind) → IsLabel label → AllByRecursion IsOfEntry state.past → AllByRecursion IsOfEntry (applied label kind (with_next_number state)).past
entries_by_kind state label entry.Enter is h = h
entries_by_kind state label entry.Leave is h = same_entry label every_change undone_item (λ item p. p) state.past h
entries_by_kind state label (entry.Open table) is h = h
entries_by_kind state label (entry.Shut table) is h = h
entries_by_kind state label entry.Begin is h = h
entries_by_kind state label entry.Save is h = h
entries_by_kind state label (entry.Change change) is h = all_append IsOfEntry state.past _ h ((least state.number, is), tt)
entries_by_kind state label entry.Release is h = same_entry label (is_at_level (levels state label)) (λ item. record item { level = item.level - 1 }) (λ item p. p) state.past h
entries_by_kind state label entry.Undo is h = either (nat_lt 1 (levels state label))
  where
    undoing : DatabaseState
    undoing = with_changes_at label (is_at_level (levels state label)) undone_item (with_next_number state)

    either : (b : Bool) → AllByRecursion IsOfEntry (cond b (with_levels label (λ n. n - 1) undoing) (with_transaction label None undoing)).past
    either true = same_entry label (is_at_level (levels state label)) undone_item (λ item p. p) state.past h
    either false = same_entry label (is_at_level (levels state label)) undone_item (λ item p. p) state.past h
entries_by_kind state label entry.UndoAll is h = same_entry label every_change undone_item (λ item p. p) state.past h
entries_by_kind state label entry.Commit is h = same_entry label every_change (λ item. record item { status = committed (state.number + 1) }) (λ item p. p) state.past h
entries_by_kind state label (entry.Schema made) is h = h

-- ---- the whole

pub sessions_empty : HasSoundSessions empty_state
sessions_empty = record { labels = tt; most = none; each = tt; levels = tt; entries = tt }
  where
    none : 0 ≤ 64
    none = omega arith

pub sessions_kept : (state : DatabaseState) (made : Entry) → HasSoundSessions state → IsLabel made.session.0 → is_lawful state made ≡ true → HasSoundSessions (state_after state made)
unfolding is_lawful state_after
sessions_kept state made h is e =
    let label = made.session.0 in
    let lawful : is_lawful_kind state label made.kind ≡ true = and_right (has_number state.number made.kind) _ e in
    record {
      labels = labels_rise state made h.labels e;
      most = most_by_kind state label made.kind lawful h.most;
      each = each made.kind lawful;
      levels = levels_by_kind state label made.kind lawful (levels_most state label h.each) h.levels;
      entries = entries_by_kind state label made.kind is h.entries;
    }
  where
    number_of : (kind : EntryKind) → (applied made.session.0 kind (with_next_number state)).number ≡ state.number + 1
    number_of entry.Enter = refl
    number_of entry.Leave = refl
    number_of (entry.Open table) = refl
    number_of (entry.Shut table) = refl
    number_of entry.Begin = refl
    number_of entry.Save = refl
    number_of (entry.Change change) = refl
    number_of entry.Release = refl
    number_of entry.Undo = either (nat_lt 1 (levels state made.session.0))
      where
        undoing : DatabaseState
        undoing = with_changes_at made.session.0 (is_at_level (levels state made.session.0)) undone_item (with_next_number state)

        either : (b : Bool) → (cond b (with_levels made.session.0 (λ n. n - 1) undoing) (with_transaction made.session.0 None undoing)).number ≡ state.number + 1
        either true = refl
        either false = refl
    number_of entry.UndoAll = refl
    number_of entry.Commit = refl
    number_of (entry.Schema made) = refl

    each : (kind : EntryKind) → is_lawful_kind state made.session.0 kind ≡ true → AllByRecursion (IsSoundSession (applied made.session.0 kind (with_next_number state)).number (applied made.session.0 kind (with_next_number state)).tables) (applied made.session.0 kind (with_next_number state)).sessions
    each kind f =
        subst (λ n. AllByRecursion (IsSoundSession n (applied made.session.0 kind (with_next_number state)).tables) (applied made.session.0 kind (with_next_number state)).sessions) (sym (number_of kind))
        (sound_by_kind state made.session.0 kind is h.labels f (still state made.session.0 kind f h.each))
