-- The cursors of a session, one of which changes, comes or goes.
use Rattle.std.proofs.Common.{◌≡◌, ℕ, ◌+◌, Bool, true, false, not, ◌&&◌, ◌||◌, cond, List, [], ◌∷◌, ◌++◌, Option, Some, None, refl, sym, ap, subst, ◌∙◌, arith}
use Rattle.std.specs.Prelude.{◌==◌, count_by, filter, find, is_some, map, if◌then◌else◌, IsTrue, IsSome}
use Rattle.std.specs.List.{AllByRecursion, list_any}
use Rattle.std.proofs.lemmas.Bool.Decides.{nat_tests}
use Rattle.std.proofs.lemmas.Bool.{and_from, eqb-true, not-true}
use Rattle.database_state.specs.Table.{Table, row_at, rows_of, table_with_id}
use Rattle.index_derive.specs.Schemas.{rule_with_id}
use Rattle.database_state.specs.State.{DatabaseState}
use Rattle.database_state.specs.View.{view}
use Rattle.database_state.specs.Lawful.{keeps_escrow}
use Rattle.cursor_nav.specs.Navigation.{CursorState}
use Rattle.laws_versions.proofs.ChangeLemmas.Tests.{or_first, or_second}
use Rattle.common_lemmas.proofs.Found.{found_passes, of_found}
use Rattle.common_lemmas.proofs.Booleans.{and_left, and_right, impossible}
use Rattle.common_lemmas.proofs.Lists.{all_map, all_weaker}
use Rattle.session_local.specs.Agreement.{Agrees, HasSchemaOf, IsStorable, MayReplace, cursor_table, has_lock, replaced_in}
use Rattle.session_local.specs.Local.{LocalState, OpenCursor, PreparedFor, PreparedUpdate, cursor_labelled, inserting, replacing, with_cursor}
use Rattle.session_local.specs.SessionSide.{are_distinct, label_of}
use Rattle.laws_engine.specs.EntryTypes.{HasRisingColumns}
use Rattle.laws_engine.specs.InStep.{IsInStep}
use Rattle.laws_engine.proofs.AgreeingLemmas.Counting.{counted, turned}

-- ---- labels

none_labelled : (l : ℕ) (cursors : List OpenCursor) → list_any (λ other. other == l) (map label_of cursors) ≡ false → AllByRecursion (λ x. (x.label == l) ≡ false) cursors
none_labelled l [] h = tt
none_labelled l (x ∷ cursors) h = (or_first (x.label == l) _ h, none_labelled l cursors (or_second (x.label == l) _ h))

some_same : (a b : OpenCursor) → Some a ≡ Some b → a ≡ b
some_same a b e = cc

no_some : (a : OpenCursor) → None ≡ Some a → ⊥
no_some a e = cc

-- no other cursor has the label
pub only : (l : ℕ) (cursors : List OpenCursor) (c : OpenCursor) → are_distinct (map label_of cursors) ≡ true → find (λ c. c.label == l) cursors ≡ Some c → AllByRecursion (λ x. (x.label == l) ≡ true → x ≡ c) cursors
only l [] c distinct e = absurd (no_some c e)
only l (x ∷ cursors) c distinct e =
    elim (x.label == l) as (λ b. (x.label == l) ≡ b → cond b (Some x) (find (λ c. c.label == l) cursors) ≡ Some c → ((x.label == l) ≡ true → x ≡ c) × AllByRecursion (λ y. (y.label == l) ≡ true → y ≡ c) cursors) [
      | true ↦ λ f g. (
        (λ h. some_same x c g),
        all_weaker (λ y. (y.label == x.label) ≡ false) (λ y. (y.label == l) ≡ true → y ≡ c)
            (λ y miss hit. impossible (sym (ap (λ k. y.label == k) (sym (eqb-true x.label l f)) ∙ miss) ∙ hit)) cursors
            (none_labelled x.label cursors (not-true _ (and_left _ _ distinct))),
      )
      | false ↦ λ f g. ((λ h. impossible (sym f ∙ h)), only l cursors c (and_right _ _ distinct) g)
    ] refl e

-- ---- one changes

abbrev replaced : OpenCursor → OpenCursor → OpenCursor
replaced new x = if x.label == new.label then new else x

mapped_all : (P : OpenCursor → Type 0) (new : OpenCursor) (cursors : List OpenCursor) → AllByRecursion P cursors → P new → AllByRecursion P (map (λ x. if x.label == new.label then new else x) cursors)
mapped_all P new cursors h p = all_map P (replaced new) cursors (all_weaker P (λ x. P (replaced new x)) (λ x q. elim (x.label == new.label) as (λ b. P (cond b new x)) [ true ↦ p | false ↦ q ]) cursors h)

mapped_same : (f : OpenCursor → ℕ) (new : OpenCursor) (cursors : List OpenCursor) → AllByRecursion (λ x. (x.label == new.label) ≡ true → f x ≡ f new) cursors → map f (map (λ x. if x.label == new.label then new else x) cursors) ≡ map f cursors
mapped_same f new [] h = refl
mapped_same f new (x ∷ cursors) h =
    elim (x.label == new.label) as (λ b. (x.label == new.label) ≡ b → (f (cond b new x) ∷ map f (map (λ x. if x.label == new.label then new else x) cursors)) ≡ (f x ∷ map f cursors)) [
      | true ↦ λ e. ap (λ k. k ∷ map f (map (λ x. if x.label == new.label then new else x) cursors)) (sym (h.0 e)) ∙ ap (λ ys. f x ∷ ys) (mapped_same f new cursors h.1)
      | false ↦ λ e. ap (λ ys. f x ∷ ys) (mapped_same f new cursors h.1)
    ] refl

pub with_cursor_in_step : (state : DatabaseState) (session : ℕ) (local : LocalState) (l : ℕ) (c new : OpenCursor) → IsInStep state session local → cursor_labelled local l ≡ Some c → new.label ≡ c.label → new.cursor.table ≡ c.cursor.table
    → HasSchemaOf new (table_with_id state.tables new.cursor.table) → IsStorable state session new new.prepared → HasRisingColumns new.prepared → IsInStep state session (with_cursor local new)
with_cursor_in_step state session local l c new step e same_label same_table schema storable rise = record {
  agrees = record {
    begun = step.agrees.begun;
    tables = λ id. ap (count_by (λ n. n == id)) (mapped_same cursor_table new local.cursors (all_weaker (λ x. (x.label == l) ≡ true → x ≡ c) (λ x. (x.label == new.label) ≡ true → x.cursor.table ≡ new.cursor.table)
        (λ x same hit. ap cursor_table (same (ap (λ k. x.label == k) (sym of_new) ∙ hit)) ∙ sym same_table) local.cursors the_only)) ∙ step.agrees.tables id;
    schemas = mapped_all (λ x. HasSchemaOf x (table_with_id state.tables x.cursor.table)) new local.cursors step.agrees.schemas schema;
    prepared = mapped_all (λ x. IsStorable state session x x.prepared) new local.cursors step.agrees.prepared storable;
  };
  labels = ap are_distinct (mapped_same label_of new local.cursors (all_true_label local.cursors)) ∙ step.labels;
  updates = mapped_all (λ x. HasRisingColumns x.prepared) new local.cursors step.updates rise;
}
  where
    of_new : new.label ≡ l
    of_new = same_label ∙ eqb-true c.label l (found_passes (λ c. c.label == l) local.cursors c e)

    the_only : AllByRecursion (λ x. (x.label == l) ≡ true → x ≡ c) local.cursors
    the_only = only l local.cursors c step.labels e

    all_true_label : (xs : List OpenCursor) → AllByRecursion (λ x. (x.label == new.label) ≡ true → x.label ≡ new.label) xs
    all_true_label [] = tt
    all_true_label (x ∷ xs) = ((λ hit. eqb-true x.label new.label hit), all_true_label xs)

-- ---- a cursor that moves

-- what is prepared on it stays
storable_moved : (state : DatabaseState) (session : ℕ) (c : OpenCursor) (moved : CursorState) → moved.table ≡ c.cursor.table → (o : Option PreparedUpdate) → IsStorable state session c o → IsStorable state session (record c { cursor = moved }) o
storable_moved state session c moved same None h = tt
storable_moved state session c moved same (Some p) h = let rest = by p.for (h.2, h.3) in (h.0, h.1, rest.0, rest.1)
  where
    by : (for : PreparedFor) → IsTrue (keeps_escrow c.schema.columns (replaced_in state session c for) p.values) × MayReplace state session c for
        → IsTrue (keeps_escrow c.schema.columns (replaced_in state session (record c { cursor = moved }) for) p.values) × MayReplace state session (record c { cursor = moved }) for
    by (inserting copied) g = g
    by (replacing b) g = (
      subst (λ (k : ℕ). IsTrue (keeps_escrow c.schema.columns (row_at (rows_of (table_with_id (view state session) k)) b) p.values)) (sym same) g.0,
      (subst (λ (k : ℕ). IsSome (row_at (rows_of (table_with_id (view state session) k)) b)) (sym same) g.1.0, subst (λ (k : ℕ). IsTrue (has_lock state session k b)) (sym same) g.1.1),
    )

pub moved_in_step : (state : DatabaseState) (session : ℕ) (local : LocalState) (l : ℕ) (c : OpenCursor) (moved : CursorState) → IsInStep state session local → cursor_labelled local l ≡ Some c → moved.table ≡ c.cursor.table
    → IsTrue ((moved.index == 0) || is_some (rule_with_id c.schema moved.index)) → IsInStep state session (with_cursor local (record c { cursor = moved }))
moved_in_step state session local l c moved step e same index =
    with_cursor_in_step state session local l c (record c { cursor = moved }) step e refl same
    (subst (λ (k : ℕ). HasSchemaOf (record c { cursor = moved }) (table_with_id state.tables k)) (sym same) (by (table_with_id state.tables c.cursor.table) (of_found (λ x. HasSchemaOf x (table_with_id state.tables x.cursor.table)) (λ c. c.label == l) local.cursors c e step.agrees.schemas)))
    (storable_moved state session c moved same c.prepared (of_found (λ x. IsStorable state session x x.prepared) (λ c. c.label == l) local.cursors c e step.agrees.prepared))
    (of_found (λ x. HasRisingColumns x.prepared) (λ c. c.label == l) local.cursors c e step.updates)
  where
    by : (o : Option Table) → HasSchemaOf c o → HasSchemaOf (record c { cursor = moved }) o
    by None h = h
    by (Some t) h = (h.0, index)

-- the index that it has
pub own_index : (state : DatabaseState) (session : ℕ) (local : LocalState) (l : ℕ) (c : OpenCursor) → Agrees state session local → cursor_labelled local l ≡ Some c → IsTrue ((c.cursor.index == 0) || is_some (rule_with_id c.schema c.cursor.index))
own_index state session local l c agrees e = by (table_with_id state.tables c.cursor.table) (of_found (λ x. HasSchemaOf x (table_with_id state.tables x.cursor.table)) (λ c. c.label == l) local.cursors c e agrees.schemas)
  where
    by : (o : Option Table) → HasSchemaOf c o → IsTrue ((c.cursor.index == 0) || is_some (rule_with_id c.schema c.cursor.index))
    by None h = absurd h
    by (Some t) h = h.1

-- what is prepared on it becomes another
pub prepared_in_step : (state : DatabaseState) (session : ℕ) (local : LocalState) (l : ℕ) (c : OpenCursor) (prepared : Option PreparedUpdate) → IsInStep state session local → cursor_labelled local l ≡ Some c → IsStorable state session (record c { prepared = prepared }) prepared → HasRisingColumns prepared
    → IsInStep state session (with_cursor local (record c { prepared = prepared }))
prepared_in_step state session local l c prepared step e storable rise =
    with_cursor_in_step state session local l c (record c { prepared = prepared }) step e refl refl
    (by (table_with_id state.tables c.cursor.table) (of_found (λ x. HasSchemaOf x (table_with_id state.tables x.cursor.table)) (λ c. c.label == l) local.cursors c e step.agrees.schemas)) storable rise
  where
    by : (o : Option Table) → HasSchemaOf c o → HasSchemaOf (record c { prepared = prepared }) o
    by None h = h
    by (Some t) h = h

-- or ends
pub unprepared_in_step : (state : DatabaseState) (session : ℕ) (local : LocalState) (l : ℕ) (c : OpenCursor) → IsInStep state session local → cursor_labelled local l ≡ Some c → IsInStep state session (with_cursor local (record c { prepared = None }))
unprepared_in_step state session local l c step e = prepared_in_step state session local l c None step e tt tt

-- ---- one comes

distinct_last : (cursors : List OpenCursor) (new : OpenCursor) → are_distinct (map label_of cursors) ≡ true → is_some (find (λ c. c.label == new.label) cursors) ≡ false → are_distinct (map label_of (cursors ++ new ∷ [])) ≡ true
distinct_last [] new d e = refl
distinct_last (c ∷ cursors) new d e =
    elim (c.label == new.label) as (λ b. (c.label == new.label) ≡ b → is_some (cond b (Some c) (find (λ c. c.label == new.label) cursors)) ≡ false → (not (list_any (λ other. other == c.label) (map label_of (cursors ++ new ∷ []))) && are_distinct (map label_of (cursors ++ new ∷ []))) ≡ true) [
      | true ↦ λ f g. impossible (sym g)
      | false ↦ λ f g. and_from _ _ (ap not (still_none cursors (not-true _ (and_left _ _ d)) (other_way c.label new.label f))) (distinct_last cursors new (and_right _ _ d) g)
    ] refl e
  where
    other_way : (a b : ℕ) → (a == b) ≡ false → (b == a) ≡ false
    other_way a b e = grind (arith, nat_tests)

    still_none : (xs : List OpenCursor) → list_any (λ other. other == c.label) (map label_of xs) ≡ false → (new.label == c.label) ≡ false → list_any (λ other. other == c.label) (map label_of (xs ++ new ∷ [])) ≡ false
    still_none [] h k = ap (λ b. b || false) k
    still_none (x ∷ xs) h k = ap (λ b. b || list_any (λ other. other == c.label) (map label_of (xs ++ new ∷ []))) (or_first (x.label == c.label) _ h) ∙ still_none xs (or_second (x.label == c.label) _ h) k

pub labels_with : (local : LocalState) (new : OpenCursor) → are_distinct (map label_of local.cursors) ≡ true → is_some (cursor_labelled local new.label) ≡ false → are_distinct (map label_of (local.cursors ++ new ∷ [])) ≡ true
labels_with local new d e = distinct_last local.cursors new d e

-- ---- one goes

pub filtered_all : (P : OpenCursor → Type 0) (q : OpenCursor → Bool) (cursors : List OpenCursor) → AllByRecursion P cursors → AllByRecursion P (filter q cursors)
filtered_all P q [] h = tt
filtered_all P q (c ∷ cursors) h = elim (q c) as (λ b. AllByRecursion P (cond b (c ∷ filter q cursors) (filter q cursors))) [
  | true ↦ (h.0, filtered_all P q cursors h.1)
  | false ↦ filtered_all P q cursors h.1
]

none_filtered : (l : ℕ) (q : OpenCursor → Bool) (cursors : List OpenCursor) → list_any (λ other. other == l) (map label_of cursors) ≡ false → list_any (λ other. other == l) (map label_of (filter q cursors)) ≡ false
none_filtered l q [] h = refl
none_filtered l q (c ∷ cursors) h = elim (q c) as (λ b. list_any (λ other. other == l) (map label_of (cond b (c ∷ filter q cursors) (filter q cursors))) ≡ false) [
  | true ↦ ap (λ b. b || list_any (λ other. other == l) (map label_of (filter q cursors))) (or_first (c.label == l) _ h) ∙ none_filtered l q cursors (or_second (c.label == l) _ h)
  | false ↦ none_filtered l q cursors (or_second (c.label == l) _ h)
]

pub distinct_filtered : (q : OpenCursor → Bool) (cursors : List OpenCursor) → are_distinct (map label_of cursors) ≡ true → are_distinct (map label_of (filter q cursors)) ≡ true
distinct_filtered q [] d = refl
distinct_filtered q (c ∷ cursors) d = elim (q c) as (λ b. are_distinct (map label_of (cond b (c ∷ filter q cursors) (filter q cursors))) ≡ true) [
  | true ↦ and_from _ _ (ap not (none_filtered c.label q cursors (not-true _ (and_left _ _ d)))) (distinct_filtered q cursors (and_right _ _ d))
  | false ↦ distinct_filtered q cursors (and_right _ _ d)
]

-- where none has the label all stay
all_stay : (l : ℕ) (cursors : List OpenCursor) → AllByRecursion (λ x. (x.label == l) ≡ false) cursors → filter (λ c. not (c.label == l)) cursors ≡ cursors
all_stay l [] h = refl
all_stay l (c ∷ cursors) h = ap (λ b. cond (not b) (c ∷ filter (λ c. not (c.label == l)) cursors) (filter (λ c. not (c.label == l)) cursors)) h.0 ∙ ap (λ ys. c ∷ ys) (all_stay l cursors h.1)

pub counted-without : (p : ℕ → Bool) (l : ℕ) (cursors : List OpenCursor) (c : OpenCursor) → are_distinct (map label_of cursors) ≡ true → find (λ c. c.label == l) cursors ≡ Some c
    → counted p (c.cursor.table ∷ map cursor_table (filter (λ c. not (c.label == l)) cursors)) ≡ counted p (map cursor_table cursors)
counted-without p l [] c d e = absurd (no_some c e)
counted-without p l (x ∷ cursors) c d e =
    elim (x.label == l) as (λ b. (x.label == l) ≡ b → cond b (Some x) (find (λ c. c.label == l) cursors) ≡ Some c
    → counted p (c.cursor.table ∷ map cursor_table (cond (not b) (x ∷ filter (λ c. not (c.label == l)) cursors) (filter (λ c. not (c.label == l)) cursors))) ≡ counted p (x.cursor.table ∷ map cursor_table cursors)) [
      | true ↦ λ f g.
          ap (λ (k : OpenCursor). counted p (k.cursor.table ∷ map cursor_table (filter (λ c. not (c.label == l)) cursors))) (sym (some_same x c g))
          ∙ ap (λ (ys : List OpenCursor). counted p (x.cursor.table ∷ map cursor_table ys)) (all_stay l cursors (all_weaker (λ y. (y.label == x.label) ≡ false) (λ y. (y.label == l) ≡ false) (λ y miss. ap (λ k. y.label == k) (sym (eqb-true x.label l f)) ∙ miss) cursors
          (none_labelled x.label cursors (not-true _ (and_left _ _ d)))))
      | false ↦ λ f g. turned (p c.cursor.table) (p x.cursor.table) (counted p (map cursor_table (filter (λ c. not (c.label == l)) cursors)))
          ∙ ap (λ n. cond (p x.cursor.table) (1 + n) n) (counted-without p l cursors c (and_right _ _ d) g)
    ] refl e
