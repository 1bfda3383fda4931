-- The spans that are derived of a table's variants are those of the timelines of their keys.
use Rattle.std.proofs.Common.{◌≡◌, ℕ, zero, suc, ◌+◌, ◌<◌, ◌≤◌, Bool, true, false, ◌&&◌, cond, List, [], ◌∷◌, length, Option, Some, None, drop, refl, sym, ap, subst, ◌∙◌, ◌⊎◌, inl, inr, arith}
use Rattle.std.specs.Prelude.{not, ◌==◌, find, is_some, option_map, option_and_then, slice_get, bytes_eq}
use Rattle.std.specs.List.{flat_map, list_any}
use Rattle.std.specs.Ordering.{eq_by_cmp, nat_cmp}
use Rattle.std.specs.Cmp.Lexicographic.{slice_cmp, nat_list_cmp_total, texts_ties}
use Rattle.std.proofs.lemmas.Bool.{false_from_ne_true}
use Rattle.btree_inplace.specs.Order.{get_in, has_key}
use Rattle.common_lemmas.proofs.Booleans.{and_left, and_right, impossible}
use Rattle.common_lemmas.proofs.Finding.{find_map}
use Rattle.common_lemmas.proofs.Numbers.{equal_bytes, same_bytes}
use Rattle.common_lemmas.proofs.Options.{same_some}
use Rattle.common_lemmas.proofs.Orders.{less-irreflexive}
use Rattle.database_state.specs.Conflicts.{yields_key}
use Rattle.database_state.specs.State.{is_undone}
use Rattle.database_state.specs.Table.{Table, row_at, rows_of, schema_of}
use Rattle.image_findings.specs.TableContents.{TableContents, contents_with_id, long_values, newest_table}
use Rattle.index_derive.specs.Entries.{key_list}
use Rattle.index_derive.specs.declared.rules.IndexRule.{IndexRule}
use Rattle.page_image.specs.Page.{IsBelow, Node}
use Rattle.stored_variants.specs.RecordRows.{record_of, row_in_node, rows_of_nodes, with_record}
use Rattle.version_cleanup.specs.LiveSessions.{LiveState}
use Rattle.version_store.specs.HeldChanges.{HeldChange, is_rewrite, is_standing_rewrite}
use Rattle.image_live.specs.KeySpans.{Span as KeySpan, begin_of, span_of, spans_before, spans_from, spans_of, spans_of_node, spans_of_row}
use Rattle.image_live.proofs.HeldFacts.{AreHeld}
use Rattle.image_live.proofs.HeldTimelines.{has_step, of_sets, sets_of, timeline}
use Rattle.image_live.proofs.Lists.{Among, In, Made, in_either, in_first, in_flat, in_map, in_second, listed, of_flat, of_map, unlisted}
use Rattle.image_live.proofs.NodeRows.{Rises, record_at}
use Rattle.image_live.proofs.Places.{At, first_left, nothing_left, place_within, rest_left, stands_at}
use Rattle.image_live.proofs.RecordsLeft.{NamesNoSum, has_left}
use Rattle.image_live.proofs.Timelines.{Span, Timeline, upto}

-- ---- the newest row of a node

-- nodes that are behind one
behind : (n m : Node) (nodes : List Node) → Rises (n ∷ nodes) → In m nodes → IsBelow n.key m.key
behind n m [] rise h = absurd h
behind n m (k ∷ nodes) rise (inl e) = subst (λ (x : Node). IsBelow n.key x.key) e rise.0
behind n m (k ∷ nodes) rise (inr h) = nat_list_cmp_total.trans n.key k.key m.key rise.0 (behind k m nodes rise.1 h)

rest_rises : (n : Node) (nodes : List Node) → Rises (n ∷ nodes) → Rises nodes
rest_rises n [] rise = tt
rest_rises n (m ∷ nodes) rise = rise.1

own_key : (n : Node) → has_key n.key n ≡ true
own_key n = sym (texts_ties n.key n.key) ∙ equal_bytes n.key n.key refl

found_node : (nodes : List Node) → Rises nodes → (n : Node) → In n nodes → get_in nodes n.key ≡ Some n.data
found_node [] rise n h = absurd h
found_node (m ∷ nodes) rise n (inl e) =
    subst (λ (x : Node). get_in (m ∷ nodes) x.key ≡ Some x.data) e (ap (λ b. option_map (λ (x : Node). x.data) (cond b (Some m) (find (has_key m.key) nodes))) (own_key m))
found_node (m ∷ nodes) rise n (inr h) =
    ap (λ b. option_map (λ (x : Node). x.data) (cond b (Some m) (find (has_key n.key) nodes))) other ∙ found_node nodes (rest_rises m nodes rise) n h
  where
    other : has_key n.key m ≡ false
    other = false_from_ne_true (has_key n.key m) (λ e. less-irreflexive n.key (subst (λ (k : List ℕ). IsBelow k n.key) (same_bytes m.key n.key (texts_ties m.key n.key ∙ e)) (behind m n nodes rise h)))

-- the row of a node that has a key
record NodeWith (rule : IndexRule) (t : TableContents) (key b : List ℕ) (nodes : List Node) : Type 0 where
  node : Node
  there : In node nodes
  own : node.key ≡ b
  bytes : List ℕ
  row : row_in_node node.data ≡ Some bytes
  listed : list_any (bytes_eq key) (key_list rule (schema_of t.table) (record_of (long_values t) bytes)) ≡ true

node_with : (rule : IndexRule) (t : TableContents) (key b : List ℕ) (nodes : List Node) → yields_key rule (schema_of t.table) key (row_at (rows_of_nodes (long_values t) nodes) b) ≡ true → NodeWith rule t key b nodes
node_with rule t key b [] has = impossible has
node_with rule t key b (n ∷ nodes) has = by (row_in_node n.data) refl has (λ rest. more (node_with rule t key b nodes rest))
  where
    more : NodeWith rule t key b nodes → NodeWith rule t key b (n ∷ nodes)
    more r = record { node = r.node; there = inr r.there; own = r.own; bytes = r.bytes; row = r.row; listed = r.listed }

    here : (bytes : List ℕ) → row_in_node n.data ≡ Some bytes → (x : Bool) → eq_by_cmp (slice_cmp nat_cmp) b n.key ≡ x
        → yields_key rule (schema_of t.table) key (cond x (Some (record_of (long_values t) bytes)) (row_at (rows_of_nodes (long_values t) nodes) b)) ≡ true
        → (yields_key rule (schema_of t.table) key (row_at (rows_of_nodes (long_values t) nodes) b) ≡ true → NodeWith rule t key b (n ∷ nodes)) → NodeWith rule t key b (n ∷ nodes)
    here bytes row true e h rest = record { node = n; there = inl refl; own = sym (same_bytes b n.key (texts_ties b n.key ∙ e)); bytes = bytes; row = row; listed = h }
    here bytes row false e h rest = rest h

    by : (o : Option (List ℕ)) → row_in_node n.data ≡ o → yields_key rule (schema_of t.table) key (row_at (with_record (long_values t) n.key o (rows_of_nodes (long_values t) nodes)) b) ≡ true
        → (yields_key rule (schema_of t.table) key (row_at (rows_of_nodes (long_values t) nodes) b) ≡ true → NodeWith rule t key b (n ∷ nodes)) → NodeWith rule t key b (n ∷ nodes)
    by None row h rest = rest h
    by (Some bytes) row h rest = here bytes row (eq_by_cmp (slice_cmp nat_cmp) b n.key) refl h rest

module _ (sessions : List LiveState) (tables : List TableContents) (t : TableContents) (rule : IndexRule) (held : List HeldChange) (found : contents_with_id tables t.table.id ≡ Some t) (plain : NamesNoSum rule (schema_of t.table)) (are : AreHeld sessions tables t held) (rise : Rises t.nodes) where
  abbrev tl : List ℕ → Timeline
  tl key = timeline sessions tables t rule held key

  abbrev keys_in : List ℕ → List (List ℕ)
  keys_in bytes = key_list rule (schema_of t.table) (record_of (long_values t) bytes)

  -- what a span tells
  pub record IsSpan (s : KeySpan) : Type 0 where
    pub span : Span (tl s.key) s.bookmark s.ends
    pub begins : s.begins ≡ begin_of t.table.id held s.bookmark s.ends

  -- the keys of one record
  of_keys : (b : List ℕ) (e : ℕ) (bytes : List ℕ) (s : KeySpan) → In s (spans_of_row rule t held b e (Some bytes)) → ((key : List ℕ) → list_any (bytes_eq key) (keys_in bytes) ≡ true → Span (tl key) b e) → IsSpan s
  of_keys b e bytes s h each =
      let made : Made (span_of b (begin_of t.table.id held b e) e) (keys_in bytes) s = of_map (span_of b (begin_of t.table.id held b e) e) s (keys_in bytes) h in
      subst IsSpan made.is (record { span = each made.of (unlisted made.of (keys_in bytes) made.there); begins = refl })

  -- ---- rows before held changes

  and_both : (a b : Bool) → a ≡ true → b ≡ true → (a && b) ≡ true
  and_both a b e f = ap (λ x. x && b) e ∙ f

  sets_it : (i : ℕ) (h : HeldChange) → slice_get held i ≡ Some h → (h.table == t.table.id) ≡ true → is_some h.before ≡ true → is_standing_rewrite t.table.id h.bookmark h ≡ true
  sets_it i h at own some =
      and_both (((h.table == t.table.id) && bytes_eq h.bookmark h.bookmark) && is_rewrite h.kind) (not (is_undone h.status))
      (and_both ((h.table == t.table.id) && bytes_eq h.bookmark h.bookmark) (is_rewrite h.kind) (and_both (h.table == t.table.id) (bytes_eq h.bookmark h.bookmark) own (equal_bytes h.bookmark h.bookmark refl)) ((are.told i h at).before own some))
      (ap not (are.told i h at).stands)

  of_before : (i : ℕ) (h : HeldChange) → slice_get held i ≡ Some h → (s : KeySpan) → In s (spans_before rule t held i h) → IsSpan s
  of_before i h at s there = by (h.table == t.table.id) refl there
    where
      row : (h.table == t.table.id) ≡ true → (o : Option (List ℕ)) → h.before ≡ o → In s (spans_of_row rule t held h.bookmark i o) → IsSpan s
      row own None e g = absurd g
      row own (Some bytes) e g =
          of_keys h.bookmark i bytes s g
          (λ key has. (
            (lt_le (place_within held i h at), λ lt. sets_of sessions tables t rule held key h.bookmark i h at (sets_it i h at own (ap is_some e))),
            has_step sessions tables t rule held key found plain are i h at h.bookmark
                ∙ ap (λ b. cond b (yields_key rule (schema_of t.table) key (option_map (record_of (long_values t)) h.before)) ((tl key).has (suc i) h.bookmark)) (sets_it i h at own (ap is_some e))
                ∙ ap (λ (o : Option (List ℕ)). yields_key rule (schema_of t.table) key (option_map (record_of (long_values t)) o)) e
                ∙ has,
          ))
        where
          lt_le : i < length held → i ≤ length held
          lt_le lt = omega (arith, lt)

      by : (b : Bool) → (h.table == t.table.id) ≡ b → In s (cond b (spans_of_row rule t held h.bookmark i h.before) []) → IsSpan s
      by true own g = row own h.before refl g
      by false own g = absurd g

  of_from : (l : List HeldChange) (i : ℕ) → drop i held ≡ l → (s : KeySpan) → In s (spans_from rule t held i l) → IsSpan s
  of_from [] i at s there = absurd there
  of_from (h ∷ l) i at s there = by (in_either s (spans_before rule t held i h) (spans_from rule t held (suc i) l) there) (λ g. of_from l (suc i) (rest_left held i h l at) s g)
    where
      by : In s (spans_before rule t held i h) ⊎ In s (spans_from rule t held (suc i) l) → (In s (spans_from rule t held (suc i) l) → IsSpan s) → IsSpan s
      by (inl g) rest = of_before i h (first_left held i h l at) s g
      by (inr g) rest = rest g

  -- ---- newest rows

  newest_has : (key b : List ℕ) → (tl key).has (length held) b ≡ yields_key rule (schema_of t.table) key (row_at (rows_of_nodes (long_values t) t.nodes) b)
  newest_has key b =
      ap (λ (l : List HeldChange). has_left tables t rule key l b) (nothing_left held (length held) (omega arith))
      ∙ ap (λ (o : Option Table). yields_key rule (schema_of t.table) key (row_at (rows_of o) b)) (find_map newest_table (λ (u : Table). u.id == t.table.id) tables ∙ ap (option_map newest_table) found)

  of_node : (n : Node) → In n t.nodes → (s : KeySpan) → In s (spans_of_node rule t held n) → IsSpan s
  of_node n there s g = by (row_in_node n.data) refl g
    where
      by : (o : Option (List ℕ)) → row_in_node n.data ≡ o → In s (spans_of_row rule t held n.key (length held) o) → IsSpan s
      by None e g = absurd g
      by (Some bytes) e g =
          of_keys n.key (length held) bytes s g
          (λ key has. (
            (omega arith, λ lt. absurd (omega (arith, lt))),
            newest_has key n.key
                ∙ ap (yields_key rule (schema_of t.table) key) (record_at (long_values t) t.nodes rise n.key ∙ ap (λ (o : Option (List ℕ)). option_map (record_of (long_values t)) (option_and_then row_in_node o)) (found_node t.nodes rise n there) ∙ ap (option_map (record_of (long_values t))) e)
                ∙ has,
          ))

  -- ---- all

  pub is_span : (s : KeySpan) → In s (spans_of rule t held) → IsSpan s
  is_span s there = by (in_either s (spans_from rule t held 0 held) (flat_map (spans_of_node rule t held) t.nodes) there)
    where
      by : In s (spans_from rule t held 0 held) ⊎ In s (flat_map (spans_of_node rule t held) t.nodes) → IsSpan s
      by (inl g) = of_from held 0 refl s g
      by (inr g) = let r : Among (spans_of_node rule t held) t.nodes s = of_flat (spans_of_node rule t held) s t.nodes g in of_node r.of r.there s r.here

  -- ---- the other way round

  in_row : (b : List ℕ) (e : ℕ) (bytes key : List ℕ) → list_any (bytes_eq key) (keys_in bytes) ≡ true → In (span_of b (begin_of t.table.id held b e) e key) (spans_of_row rule t held b e (Some bytes))
  in_row b e bytes key has = in_map (span_of b (begin_of t.table.id held b e) e) key (keys_in bytes) (listed key (keys_in bytes) has)

  in_from : (l : List HeldChange) (i j : ℕ) (h : HeldChange) (s : KeySpan) → slice_get l j ≡ Some h → In s (spans_before rule t held (i + j) h) → In s (spans_from rule t held i l)
  in_from [] i j h s at there = absurd (nothing at)
    where
      nothing : None ≡ Some h → ⊥
      nothing e = cc
  in_from (g ∷ l) i zero h s at there =
      in_first s (spans_before rule t held i g) (spans_from rule t held (suc i) l) (subst (λ (x : HeldChange). In s (spans_before rule t held i x)) (sym (same_some g h at)) (subst (λ (n : ℕ). In s (spans_before rule t held n h)) (omega arith) there))
  in_from (g ∷ l) i (suc j) h s at there =
      in_second s (spans_before rule t held i g) (spans_from rule t held (suc i) l) (in_from l (suc i) j h s at (subst (λ (n : ℕ). In s (spans_before rule t held n h)) (omega arith) there))

  pub has_span : (key b : List ℕ) (e : ℕ) → Span (tl key) b e → In (span_of b (begin_of t.table.id held b e) e key) (spans_of rule t held)
  has_span key b e span = by (upto (length held) e)
    where
      s : KeySpan
      s = span_of b (begin_of t.table.id held b e) e key

      -- the row before a change
      changed : (h : HeldChange) → slice_get held e ≡ Some h → is_standing_rewrite t.table.id b h ≡ true → In s (spans_from rule t held 0 held)
      changed h at sets =
          let bookmark : h.bookmark ≡ b = same_bytes h.bookmark b (and_right (h.table == t.table.id) (bytes_eq h.bookmark b) first) in
          in_from held 0 e h s at
          (subst (λ (n : ℕ). In s (spans_before rule t held n h)) from_first (ap_in (sym (ap (λ x. cond x (spans_of_row rule t held h.bookmark e h.before) []) own ∙ ap (λ (m : List ℕ). spans_of_row rule t held m e h.before) bookmark))
          (row h.before
          (sym (has_step sessions tables t rule held key found plain are e h at b ∙ ap (λ x. cond x (yields_key rule (schema_of t.table) key (option_map (record_of (long_values t)) h.before)) ((tl key).has (suc e) b)) sets) ∙ span.1))))
        where
          first : ((h.table == t.table.id) && bytes_eq h.bookmark b) ≡ true
          first = and_left ((h.table == t.table.id) && bytes_eq h.bookmark b) (is_rewrite h.kind) (and_left (((h.table == t.table.id) && bytes_eq h.bookmark b) && is_rewrite h.kind) (not (is_undone h.status)) sets)

          own : (h.table == t.table.id) ≡ true
          own = and_left (h.table == t.table.id) (bytes_eq h.bookmark b) first

          from_first : e ≡ 0 + e
          from_first = omega arith

          ap_in : {xs ys : List KeySpan} → xs ≡ ys → In s xs → In s ys
          ap_in e g = subst (λ (l : List KeySpan). In s l) e g

          row : (o : Option (List ℕ)) → yields_key rule (schema_of t.table) key (option_map (record_of (long_values t)) o) ≡ true → In s (spans_of_row rule t held b e o)
          row None has = impossible has
          row (Some bytes) has = in_row b e bytes key has

      -- the newest one
      kept : e ≡ length held → In s (flat_map (spans_of_node rule t held) t.nodes)
      kept last =
          let n : NodeWith rule t key b t.nodes = node_with rule t key b t.nodes (sym (newest_has key b) ∙ ap (λ m. (tl key).has m b) (sym last) ∙ span.1) in
          in_flat (spans_of_node rule t held) n.node s t.nodes n.there
          (subst (λ (l : List KeySpan). In s l)
          (ap (λ m. spans_of_row rule t held b m (Some n.bytes)) last ∙ ap (λ (m : List ℕ). spans_of_row rule t held m (length held) (Some n.bytes)) (sym n.own) ∙ ap (spans_of_row rule t held n.node.key (length held)) (sym n.row))
          (in_row b e n.bytes key n.listed))

      by : (length held ≤ e) ⊎ (e < length held) → In s (spans_of rule t held)
      by (inl le) = in_second s (spans_from rule t held 0 held) (flat_map (spans_of_node rule t held) t.nodes) (kept (omega (arith, le, span.0.0)))
      by (inr lt) =
          let there : At held e = stands_at held e lt in
          in_first s (spans_from rule t held 0 held) (flat_map (spans_of_node rule t held) t.nodes)
          (changed there.item there.is_at (of_sets sessions tables t rule held key b e there.item there.is_at (span.0.1 lt)))
