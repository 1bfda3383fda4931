-- A key of a span is one of the entries that are wanted of an index.
use Rattle.std.proofs.Common.{◌≡◌, ℕ, suc, Bool, true, false, ◌&&◌, ◌||◌, cond, List, [], ◌∷◌, length, Option, Some, None, map, refl, sym, ap, subst, ◌∙◌, ◌⊎◌, inl, inr}
use Rattle.std.specs.Prelude.{◌==◌, bytes_eq}
use Rattle.std.specs.List.{flat_map, list_any}
use Rattle.column_set.specs.RecordValues.{RecordFields}
use Rattle.common_lemmas.proofs.Booleans.{and_left, impossible, or_swap}
use Rattle.common_lemmas.proofs.Numbers.{equal_bytes, same_bytes}
use Rattle.cursor_nav.specs.Places.{Pair}
use Rattle.database_state.specs.Table.{schema_of}
use Rattle.image_findings.specs.EntryFindings.{in_order, pairs_of, row_before, variants_of, wanted_entries}
use Rattle.image_findings.specs.TableContents.{TableContents, long_values}
use Rattle.index_derive.specs.Entries.{entry_le, insert_entry, key_list}
use Rattle.index_derive.specs.declared.rules.IndexRule.{IndexRule}
use Rattle.index_tree.specs.Entries.{insert_entry_if_absent}
use Rattle.laws_versions.specs.KeptEntries.{has_entry}
use Rattle.long_value.specs.Values.{Values}
use Rattle.page_image.specs.Page.{Node}
use Rattle.stored_variants.specs.RecordRows.{record_of, row_in_node, rows_of_nodes, with_record}
use Rattle.version_store.specs.HeldChanges.{HeldChange}
use Rattle.image_live.specs.KeySpans.{Span as KeySpan, begin_of, span_of, spans_before, spans_from, spans_of, spans_of_node, spans_of_row}
use Rattle.image_live.proofs.Lists.{Among, In, Made, in_either, in_first, in_flat, in_map, in_second, of_flat, of_map}

-- ---- pairs with a key

abbrev is_named : List ℕ → List Pair → Bool
is_named key pairs = list_any (λ (p : Pair). bytes_eq key p.0) pairs

or_first : (a b : Bool) → a ≡ true → (a || b) ≡ true
or_first true b e = refl
or_first false b e = impossible e

or_second : (a b : Bool) → b ≡ true → (a || b) ≡ true
or_second true b e = refl
or_second false b e = e

named_entry : (key : List ℕ) (p : Pair) (pairs : List Pair) → is_named key (insert_entry p pairs) ≡ (bytes_eq key p.0 || is_named key pairs)
named_entry key p [] = refl
named_entry key p (q ∷ pairs) = by (entry_le p q) (named_entry key p pairs)
  where
    by : (b : Bool) → is_named key (insert_entry p pairs) ≡ (bytes_eq key p.0 || is_named key pairs) → is_named key (cond b (p ∷ q ∷ pairs) (q ∷ insert_entry p pairs)) ≡ (bytes_eq key p.0 || is_named key (q ∷ pairs))
    by true rest = refl
    by false rest = ap (λ b. bytes_eq key q.0 || b) rest ∙ or_swap (bytes_eq key q.0) (bytes_eq key p.0) (is_named key pairs)

there_named : (key : List ℕ) (p : Pair) (pairs : List Pair) → has_entry p.0 p.1 pairs ≡ true → bytes_eq key p.0 ≡ true → is_named key pairs ≡ true
there_named key p [] has is = has
there_named key p (q ∷ pairs) has is = by (bytes_eq q.0 p.0 && bytes_eq q.1 p.1) refl has (λ more. there_named key p pairs more is)
  where
    by : (b : Bool) → (bytes_eq q.0 p.0 && bytes_eq q.1 p.1) ≡ b → (b || has_entry p.0 p.1 pairs) ≡ true → (has_entry p.0 p.1 pairs ≡ true → is_named key pairs ≡ true) → (bytes_eq key q.0 || is_named key pairs) ≡ true
    by true e has rest = or_first (bytes_eq key q.0) (is_named key pairs) (ap (bytes_eq key) (same_bytes q.0 p.0 (and_left (bytes_eq q.0 p.0) (bytes_eq q.1 p.1) e)) ∙ is)
    by false e has rest = or_second (bytes_eq key q.0) (is_named key pairs) (rest has)

named_if_absent : (key : List ℕ) (p : Pair) (pairs : List Pair) → (bytes_eq key p.0 || is_named key pairs) ≡ true → is_named key (insert_entry_if_absent p pairs) ≡ true
named_if_absent key p pairs h = by (has_entry p.0 p.1 pairs) refl
  where
    there : (b : Bool) → bytes_eq key p.0 ≡ b → (b || is_named key pairs) ≡ true → has_entry p.0 p.1 pairs ≡ true → is_named key pairs ≡ true
    there true e f has = there_named key p pairs has e
    there false e f has = f

    by : (b : Bool) → has_entry p.0 p.1 pairs ≡ b → is_named key (cond b pairs (insert_entry p pairs)) ≡ true
    by true has = there (bytes_eq key p.0) refl h has
    by false has = named_entry key p pairs ∙ h

named_in_order : (key : List ℕ) (p : Pair) (pairs : List Pair) → In p pairs → p.0 ≡ key → is_named key (in_order pairs) ≡ true
named_in_order key p [] h is = absurd h
named_in_order key p (q ∷ pairs) (inl e) is =
    named_if_absent key q (in_order pairs) (or_first (bytes_eq key q.0) (is_named key (in_order pairs)) (equal_bytes key q.0 (sym is ∙ sym (ap (λ (x : Pair). x.0) e))))
named_in_order key p (q ∷ pairs) (inr h) is = named_if_absent key q (in_order pairs) (or_second (bytes_eq key q.0) (is_named key (in_order pairs)) (named_in_order key p pairs h is))

in_named : (key : List ℕ) (pairs : List Pair) → is_named key pairs ≡ true → In key (map (λ (p : Pair). p.0) pairs)
in_named key [] h = impossible h
in_named key (p ∷ pairs) h = by (bytes_eq key p.0) refl h (λ g. in_named key pairs g)
  where
    by : (b : Bool) → bytes_eq key p.0 ≡ b → (b || is_named key pairs) ≡ true → (is_named key pairs ≡ true → In key (map (λ (q : Pair). q.0) pairs)) → In key (p.0 ∷ map (λ (q : Pair). q.0) pairs)
    by true e h rest = inl (sym (same_bytes key p.0 e))
    by false e h rest = inr (rest h)

-- ---- variants with a key

module _ (rule : IndexRule) (t : TableContents) (held : List HeldChange) where
  abbrev keys_of : RecordFields → List (List ℕ)
  keys_of fields = key_list rule (schema_of t.table) fields

  -- a variant of which the span is
  record OfVariant (rows : List (List ℕ × RecordFields)) (key : List ℕ) : Type 0 where
    row : List ℕ × RecordFields
    there : In row rows
    has : In key (keys_of row.1)

  key_of : (b : List ℕ) (e : ℕ) (bytes : List ℕ) (s : KeySpan) → In s (spans_of_row rule t held b e (Some bytes)) → In s.key (keys_of (record_of (long_values t) bytes))
  key_of b e bytes s h =
      let made : Made (span_of b (begin_of t.table.id held b e) e) (keys_of (record_of (long_values t) bytes)) s = of_map (span_of b (begin_of t.table.id held b e) e) s (keys_of (record_of (long_values t) bytes)) h in
      subst (λ (k : List ℕ). In k (keys_of (record_of (long_values t) bytes))) (ap (λ (x : KeySpan). x.key) made.is) made.there

  of_before : (i : ℕ) (h : HeldChange) (s : KeySpan) → In s (spans_before rule t held i h) → OfVariant (row_before t h) s.key
  of_before i h s there = by (h.table == t.table.id) h.before there
    where
      by : (b : Bool) (o : Option (List ℕ)) → In s (cond b (spans_of_row rule t held h.bookmark i o) []) → OfVariant (elim o [ Some bytes ↦ cond b ((h.bookmark, record_of (long_values t) bytes) ∷ []) [] | None ↦ [] ]) s.key
      by true None g = absurd g
      by false None g = absurd g
      by false (Some bytes) g = absurd g
      by true (Some bytes) g = record { row = (h.bookmark, record_of (long_values t) bytes); there = inl refl; has = key_of h.bookmark i bytes s g }

  -- a held change before which the variant was
  record OfChange (l : List HeldChange) (key : List ℕ) : Type 0 where
    change : HeldChange
    there : In change l
    variant : OfVariant (row_before t change) key

  of_from : (l : List HeldChange) (i : ℕ) (s : KeySpan) → In s (spans_from rule t held i l) → OfChange l s.key
  of_from [] i s there = absurd there
  of_from (h ∷ l) i s there = by (in_either s (spans_before rule t held i h) (spans_from rule t held (suc i) l) there) (λ g. of_from l (suc i) s g)
    where
      by : In s (spans_before rule t held i h) ⊎ In s (spans_from rule t held (suc i) l) → (In s (spans_from rule t held (suc i) l) → OfChange l s.key) → OfChange (h ∷ l) s.key
      by (inl g) rest = record { change = h; there = inl refl; variant = of_before i h s g }
      by (inr g) rest = let r : OfChange l s.key = rest g in record { change = r.change; there = inr r.there; variant = r.variant }

  in_rows : (values : Values) (n : Node) (bytes : List ℕ) (nodes : List Node) → In n nodes → row_in_node n.data ≡ Some bytes → In (n.key, record_of values bytes) (rows_of_nodes values nodes)
  in_rows values n bytes [] h row = absurd h
  in_rows values n bytes (m ∷ nodes) (inl e) row =
      subst (λ (o : Option (List ℕ)). In (n.key, record_of values bytes) (with_record values m.key o (rows_of_nodes values nodes))) (sym (ap (λ (x : Node). row_in_node x.data) e ∙ row)) (inl (ap (λ (x : Node). (x.key, record_of values bytes)) e))
  in_rows values n bytes (m ∷ nodes) (inr h) row = by (row_in_node m.data) (in_rows values n bytes nodes h row)
    where
      by : (o : Option (List ℕ)) → In (n.key, record_of values bytes) (rows_of_nodes values nodes) → In (n.key, record_of values bytes) (with_record values m.key o (rows_of_nodes values nodes))
      by None g = g
      by (Some other) g = inr g

  of_node : (n : Node) → In n t.nodes → (s : KeySpan) → In s (spans_of_node rule t held n) → OfVariant (rows_of_nodes (long_values t) t.nodes) s.key
  of_node n there s g = by (row_in_node n.data) refl g
    where
      by : (o : Option (List ℕ)) → row_in_node n.data ≡ o → In s (spans_of_row rule t held n.key (length held) o) → OfVariant (rows_of_nodes (long_values t) t.nodes) s.key
      by None e g = absurd g
      by (Some bytes) e g = record { row = (n.key, record_of (long_values t) bytes); there = in_rows (long_values t) n bytes t.nodes there e; has = key_of n.key (length held) bytes s g }

  of_variant : (s : KeySpan) → In s (spans_of rule t held) → OfVariant (variants_of held t) s.key
  of_variant s there = by (in_either s (spans_from rule t held 0 held) (flat_map (spans_of_node rule t held) t.nodes) there)
    where
      by : In s (spans_from rule t held 0 held) ⊎ In s (flat_map (spans_of_node rule t held) t.nodes) → OfVariant (variants_of held t) s.key
      by (inl g) =
          let r : OfChange held s.key = of_from held 0 s g in
          record { row = r.variant.row; there = in_second r.variant.row (rows_of_nodes (long_values t) t.nodes) (flat_map (row_before t) held) (in_flat (row_before t) r.change r.variant.row held r.there r.variant.there); has = r.variant.has }
      by (inr g) =
          let a : Among (spans_of_node rule t held) t.nodes s = of_flat (spans_of_node rule t held) s t.nodes g in
          let r : OfVariant (rows_of_nodes (long_values t) t.nodes) s.key = of_node a.of a.there s a.here in
          record { row = r.row; there = in_first r.row (rows_of_nodes (long_values t) t.nodes) (flat_map (row_before t) held) r.there; has = r.has }

  pub is_wanted : (s : KeySpan) → In s (spans_of rule t held) → In s.key (map (λ (p : Pair). p.0) (wanted_entries held t rule))
  is_wanted s there =
      let r : OfVariant (variants_of held t) s.key = of_variant s there in
      in_named s.key (wanted_entries held t rule)
      (named_in_order s.key (s.key, r.row.0) (flat_map (pairs_of rule (schema_of t.table)) (variants_of held t))
      (in_flat (pairs_of rule (schema_of t.table)) r.row (s.key, r.row.0) (variants_of held t) r.there (in_map (λ (k : List ℕ). (k, r.row.0)) s.key (keys_of r.row.1) r.has)) refl)
