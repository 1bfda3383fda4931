-- The loops over held changes, nodes and indexes, step by step.
use Rattle.std.proofs.Common.{◌≡◌, ℕ, suc, List, [], ◌∷◌, ◌++◌, arith, drop, length, map, Option, Some, None, refl, sym, ap, ◌∙◌}
use Rattle.std.specs.Prelude.{◌==◌, slice_get}
use Rattle.std.specs.List.{AllByRecursion, flat_map, position_or_len}
use Rattle.std.specs.Option.{option_or}
use Rattle.std.proofs.lemmas.List.{append_assoc}
use Rattle.std.proofs.lemmas.List.Concat.{flat_map-cons}
use Rattle.std.proofs.lemmas.List.Folds.{find_at}
use Rattle.database_state.specs.Table.{Table, schema_of}
use Rattle.image_contents.specs.LegalRules.{HasLegalRules, IsLegalRule}
use Rattle.image_contents.specs.declared.entries.variants.TableVariants.{TableVariants}
use Rattle.image_findings.specs.Images.{Finding, first_of}
use Rattle.image_findings.specs.KeyFindings.{key_finding, unique_finding}
use Rattle.image_findings.specs.OwnRules.{IsOwnRule}
use Rattle.image_findings.specs.TableContents.{TableContents}
use Rattle.image_opening.specs.OpenedTrees.{index_opened, index_shown}
use Rattle.image_opening.specs.declared.opened.OpenedIndex.{OpenedIndex}
use Rattle.index_derive.specs.Schemas.{rule_with_id}
use Rattle.index_derive.specs.declared.rules.IndexRule.{IndexRule}
use Rattle.index_derive.specs.declared.rules.Schema.{Schema}
use Rattle.live_part.specs.LiveBytes.{standing}
use Rattle.page_image.specs.Page.{Node}
use Rattle.version_cleanup.specs.LiveSessions.{LiveState}
use Rattle.version_store.specs.HeldChanges.{HeldChange}
use Rattle.image_live.specs.KeptRows.{HasSoundChanges, finding_by, history_in}
use Rattle.image_live.specs.KeySpans.{Span, spans_before, spans_from}
use Rattle.image_live.proofs.Places.{left_at}

-- ---- held changes

-- what is left of them loses the spans that are put at the end
pub one_more : (rule : IndexRule) (t : TableContents) (held : List HeldChange) (at next : ℕ) (h : HeldChange) (new old base : List Span) → slice_get held at ≡ Some h → next ≡ suc at → new ≡ old ++ spans_before rule t held at h
    → old ++ spans_from rule t held at (drop at held) ≡ base → new ++ spans_from rule t held next (drop next held) ≡ base
one_more rule t held at next h new old base there is put all =
    ap (λ (n : ℕ). new ++ spans_from rule t held n (drop n held)) is
    ∙ ap (λ (l : List Span). l ++ spans_from rule t held (suc at) (drop (suc at) held)) put
    ∙ append_assoc old (spans_before rule t held at h) (spans_from rule t held (suc at) (drop (suc at) held))
    ∙ ap (λ (l : List HeldChange). old ++ spans_from rule t held at l) (sym (left_at held at h there))
    ∙ all

pub none_more : (rule : IndexRule) (t : TableContents) (held : List HeldChange) (at : ℕ) (old base : List Span) → drop at held ≡ [] → old ++ spans_from rule t held at (drop at held) ≡ base → old ≡ base
none_more rule t held at old base none all = sym (end old) ∙ sym (ap (λ (l : List HeldChange). old ++ spans_from rule t held at l) none) ∙ all
  where
    end : (l : List Span) → l ++ [] ≡ l
    end [] = refl
    end (s ∷ l) = ap (λ m. s ∷ m) (end l)

-- ---- nodes

pub next_node : (f : Node → List Span) (walk rest : List Node) (n : Node) (new old base : List Span) → walk ≡ n ∷ rest → new ≡ old ++ f n → old ++ flat_map f walk ≡ base → new ++ flat_map f rest ≡ base
next_node f walk rest n new old base is put all =
    ap (λ (l : List Span). l ++ flat_map f rest) put ∙ append_assoc old (f n) (flat_map f rest)
    ∙ ap (λ (l : List Span). old ++ l) (sym (flat_map-cons f n rest)) ∙ sym (ap (λ (l : List Node). old ++ flat_map f l) is) ∙ all

pub last_node : (f : Node → List Span) (walk : List Node) (old base : List Span) → walk ≡ [] → old ++ flat_map f walk ≡ base → old ≡ base
last_node f walk old base none all = sym (end old) ∙ sym (ap (λ (l : List Node). old ++ flat_map f l) none) ∙ all
  where
    end : (l : List Span) → l ++ [] ≡ l
    end [] = refl
    end (s ∷ l) = ap (λ m. s ∷ m) (end l)

-- ---- indexes

pub legal_found : (schema : Schema) (id : ℕ) (rule : IndexRule) → HasLegalRules schema → rule_with_id schema id ≡ Some rule → IsLegalRule schema rule
legal_found schema id rule legal e = legal (position_or_len (λ (r : IndexRule). r.id.0 == id) schema.indexes) rule (sym (find_at (λ (r : IndexRule). r.id.0 == id) schema.indexes) ∙ e)

module _ (sessions : List LiveState) (v : TableVariants) where
  -- what is found of an opened index
  abbrev pub opened_finding : HasSoundChanges sessions v → OpenedIndex → Option Finding
  opened_finding kept index = finding_by kept (rule_with_id (schema_of v.table.now) index.index.0)

  pub passed : (kept : HasSoundChanges sessions v) (rest others : List OpenedIndex) (x : OpenedIndex) (total : Option Finding) → rest ≡ x ∷ others → None ≡ opened_finding kept x → first_of (map (opened_finding kept) rest) ≡ total → first_of (map (opened_finding kept) others) ≡ total
  passed kept rest others x total split none all = ap (λ (o : Option Finding). option_or o (first_of (map (opened_finding kept) others))) none ∙ sym (ap (λ (l : List OpenedIndex). first_of (map (opened_finding kept) l)) split) ∙ all

  pub found_at : (kept : HasSoundChanges sessions v) (rest others : List OpenedIndex) (x : OpenedIndex) (total : Option Finding) (found : Finding) → rest ≡ x ∷ others → Some found ≡ opened_finding kept x → first_of (map (opened_finding kept) rest) ≡ total → Some found ≡ total
  found_at kept rest others x total found split some all = ap (λ (o : Option Finding). option_or o (first_of (map (opened_finding kept) others))) some ∙ sym (ap (λ (l : List OpenedIndex). first_of (map (opened_finding kept) l)) split) ∙ all

  one_left : (x : OpenedIndex) (rest : List OpenedIndex) → length (x ∷ rest) ≡ 0 → ⊥
  one_left x rest e = omega (arith, e)

  pub ended : (kept : HasSoundChanges sessions v) (rest : List OpenedIndex) (total : Option Finding) → length rest ≡ 0 → first_of (map (opened_finding kept) rest) ≡ total → None ≡ total
  ended kept [] total end all = all
  ended kept (x ∷ rest) total end all = absurd (one_left x rest end)

  abbrev shown_finding : HasSoundChanges sessions v → IndexRule × List Node → Option Finding
  shown_finding kept index = unique_finding (history_in kept) (standing kept.live.held) kept.contents index.0

  same_index : (kept : HasSoundChanges sessions v) (x : OpenedIndex) (index : IndexRule × List Node) → index_opened v.space.now x ≡ index_shown index → IsOwnRule kept.contents.table index → opened_finding kept x ≡ shown_finding kept index
  same_index kept x index same own =
      ap (λ (table : Table). finding_by kept (rule_with_id (schema_of table) x.index.0)) kept.shown.table
      ∙ ap (λ (p : ℕ × List Node). finding_by kept (rule_with_id (schema_of kept.contents.table) p.0)) same
      ∙ ap (finding_by kept) own

  same_first : {X : Type 0} (x y : X) (xs ys : List X) → x ∷ xs ≡ y ∷ ys → x ≡ y
  same_first x y xs ys e = cc

  same_rest : {X : Type 0} (x y : X) (xs ys : List X) → x ∷ xs ≡ y ∷ ys → xs ≡ ys
  same_rest x y xs ys e = cc

  nothing_more : {A : Type 0} {X : Type 0} (x : X) (xs : List X) → [] ≡ x ∷ xs → A
  nothing_more x xs e = cc

  same_indexes : (kept : HasSoundChanges sessions v) (opened : List OpenedIndex) (shown : List (IndexRule × List Node)) → map (index_opened v.space.now) opened ≡ map index_shown shown → AllByRecursion (IsOwnRule kept.contents.table) shown
      → first_of (map (opened_finding kept) opened) ≡ first_of (map (shown_finding kept) shown)
  same_indexes kept [] [] same own = refl
  same_indexes kept [] (y ∷ shown) same own = nothing_more _ _ same
  same_indexes kept (x ∷ opened) [] same own = nothing_more _ _ (sym same)
  same_indexes kept (x ∷ opened) (y ∷ shown) same own =
      ap (λ (f : Option Finding). option_or f (first_of (map (opened_finding kept) opened))) (same_index kept x y (same_first _ _ _ _ same) own.0)
      ∙ ap (option_or (shown_finding kept y)) (same_indexes kept opened shown (same_rest _ _ _ _ same) own.1)

  pub all_indexes : (kept : HasSoundChanges sessions v) → first_of (map (opened_finding kept) v.opened.now.indexes.items) ≡ key_finding (history_in kept) (standing kept.live.held) kept.contents
  all_indexes kept = same_indexes kept v.opened.now.indexes.items kept.contents.indexes kept.shown.contents.indexes_are kept.shown.rules
