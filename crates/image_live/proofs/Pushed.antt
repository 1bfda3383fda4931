-- The spans of one row that are put at the end.
use Rattle.std.proofs.Common.{◌≡◌, ℕ, suc, ◌+◌, Bool, true, false, cond, List, [], ◌∷◌, ◌++◌, length, Option, Some, None, map, take, refl, sym, ap, ◌∙◌, arith}
use Rattle.std.specs.Prelude.{◌==◌, slice_get, IfOk, Result, Ok, Err}
use Rattle.std.proofs.lemmas.Bool.{eqb-true}
use Rattle.common_lemmas.proofs.Booleans.{impossible}
use Rattle.common_lemmas.proofs.Options.{same_some}
use Rattle.database_state.specs.Table.{schema_of}
use Rattle.image_findings.specs.TableContents.{TableContents, long_values}
use Rattle.index_derive.specs.Entries.{key_list}
use Rattle.index_derive.specs.declared.rules.IndexRule.{IndexRule}
use Rattle.page_image.specs.Page.{Node}
use Rattle.stored_variants.specs.RecordRows.{record_of, row_in_node}
use Rattle.version_store.specs.HeldChanges.{HeldChange, is_standing_rewrite, last_place}
use Rattle.image_live.specs.KeySpans.{Span, begin_behind, begin_of, span_of, spans_before, spans_of_node, spans_of_row}
use Rattle.image_live.proofs.Places.{whole_front}

-- what is told of a result that is one, more is told of
pub if_ok : {A E : Type 0} (r : Result A E) (P Q : Type 0) → (P → Q) → IfOk r (λ x. P) → IfOk r (λ x. Q)
if_ok (Ok x) P Q f told = f told
if_ok (Err fault) P Q f told = told

pub behind_some : (n : ℕ) → n + 1 ≡ suc n
behind_some n = omega arith

pub some_bytes : (d : List ℕ) → (length d == 0) ≡ false → length d ≡ 0 → ⊥
some_bytes d other e = impossible (sym other ∙ ap (λ n. n == 0) e)

nothing : (old : List Span) → old ≡ old ++ []
nothing [] = refl
nothing (s ∷ old) = ap (λ l. s ∷ l) (nothing old)

module _ (rule : IndexRule) (t : TableContents) (held : List HeldChange) where
  abbrev spans_with : List ℕ → ℕ → ℕ → List ℕ → List Span
  spans_with bookmark begins ends bytes = map (span_of bookmark begins ends) (key_list rule (schema_of t.table) (record_of (long_values t) bytes))

  -- ---- the row before a change

  pub other_table : (place : ℕ) (x h : HeldChange) (old : List Span) → slice_get held place ≡ Some x → (x.table == t.table.id) ≡ false → slice_get held place ≡ Some h → old ≡ old ++ spans_before rule t held place h
  other_table place x h old at other same =
      nothing old ∙ ap (λ (l : List Span). old ++ l) (sym (ap (λ b. cond b (spans_of_row rule t held x.bookmark place x.before) []) other)) ∙ ap (λ (y : HeldChange). old ++ spans_before rule t held place y) (same_some x h (sym at ∙ same))

  pub no_row : (place : ℕ) (x h : HeldChange) (old : List Span) → slice_get held place ≡ Some x → x.before ≡ None → slice_get held place ≡ Some h → old ≡ old ++ spans_before rule t held place h
  no_row place x h old at none same =
      nothing old ∙ ap (λ (l : List Span). old ++ l) (sym (ap (λ (o : Option (List ℕ)). cond (x.table == t.table.id) (spans_of_row rule t held x.bookmark place o) []) none ∙ either (x.table == t.table.id) []))
      ∙ ap (λ (y : HeldChange). old ++ spans_before rule t held place y) (same_some x h (sym at ∙ same))
    where
      either : (b : Bool) (l : List Span) → cond b l l ≡ l
      either true l = refl
      either false l = refl

  -- since when the row is as it is
  abbrev BeginsBehind : ℕ → Option ℕ → Type 0
  BeginsBehind begins o = begins ≡ begin_behind o

  pub row_before : (place begins : ℕ) (x h : HeldChange) (bytes : List ℕ) (older : Option ℕ) (new old : List Span) → slice_get held place ≡ Some x → (x.table == t.table.id) ≡ true → x.before ≡ Some bytes
      → ((y : HeldChange) → slice_get held place ≡ Some y → older ≡ last_place (is_standing_rewrite y.table y.bookmark) (take place held)) → BeginsBehind begins older
      → new ≡ old ++ spans_with x.bookmark begins place bytes → slice_get held place ≡ Some h → new ≡ old ++ spans_before rule t held place h
  row_before place begins x h bytes older new old at own row found behind put same =
      put
      ∙ ap (λ (n : ℕ). old ++ spans_with x.bookmark n place bytes) (behind ∙ ap begin_behind (found x at) ∙ ap (λ (n : ℕ). begin_of n held x.bookmark place) (eqb-true x.table t.table.id own))
      ∙ ap (λ (l : List Span). old ++ l) (sym (ap (λ b. cond b (spans_of_row rule t held x.bookmark place x.before) []) own ∙ ap (spans_of_row rule t held x.bookmark place) row))
      ∙ ap (λ (y : HeldChange). old ++ spans_before rule t held place y) (same_some x h (sym at ∙ same))

  -- ---- the newest row

  pub empty_node : (n : Node) (old : List Span) → length n.data ≡ 0 → old ≡ old ++ spans_of_node rule t held n
  empty_node n old none = nothing old ∙ ap (λ (l : List Span). old ++ l) (by n.data none)
    where
      by : (bytes : List ℕ) → length bytes ≡ 0 → [] ≡ spans_of_row rule t held n.key (length held) (row_in_node bytes)
      by [] e = refl
      by (b ∷ bytes) e = absurd (omega (arith, e))

  pub row_of_node : (n : Node) (begins ends : ℕ) (newest : Option ℕ) (new old : List Span) → (length n.data ≡ 0 → ⊥) → newest ≡ last_place (is_standing_rewrite t.table.id n.key) held → BeginsBehind begins newest → ends ≡ length held
      → new ≡ old ++ spans_with n.key begins ends n.data → new ≡ old ++ spans_of_node rule t held n
  row_of_node n begins ends newest new old some found behind last put =
      put
      ∙ ap (λ (e : ℕ). old ++ spans_with n.key begins e n.data) last
      ∙ ap (λ (b : ℕ). old ++ spans_with n.key b (length held) n.data) (behind ∙ ap begin_behind found ∙ ap (λ (l : List HeldChange). begin_behind (last_place (is_standing_rewrite t.table.id n.key) l)) (sym (whole_front held)))
      ∙ ap (λ (l : List Span). old ++ l) (by n.data some)
    where
      by : (bytes : List ℕ) → (length bytes ≡ 0 → ⊥) → spans_with n.key (begin_of t.table.id held n.key (length held)) (length held) bytes ≡ spans_of_row rule t held n.key (length held) (row_in_node bytes)
      by [] e = absurd (e refl)
      by (b ∷ bytes) e = refl
