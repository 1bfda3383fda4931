-- What is found of a table's opened indexes, against what is found of the indexes that an image has of it.
use Rattle.std.proofs.Common.{◌≡◌, ℕ, Bool, List, [], ◌∷◌, ◌++◌, arith, length, map, Option, Some, None, refl, sym, ap, ◌∙◌}
use Rattle.std.specs.Prelude.{◌==◌, if◌then◌else◌}
use Rattle.std.specs.List.{AllByRecursion, position_or_len}
use Rattle.std.specs.Option.{option_or}
use Rattle.std.proofs.lemmas.List.Folds.{find_at}
use Rattle.btree_inplace.specs.Trees.{nodes_of}
use Rattle.cursor_nav.specs.Places.{Pair}
use Rattle.database_state.specs.Table.{Table, schema_of}
use Rattle.image_contents.specs.FoundEntries.{IsShown, finding_by, finding_in, name_of_rule, opened_finding}
use Rattle.image_findings.specs.OwnRules.{IsOwnRule}
use Rattle.image_contents.specs.LegalRules.{HasLegalRules, IsLegalRule}
use Rattle.image_contents.specs.ReadVariants.{contents_of}
use Rattle.image_contents.specs.declared.entries.differing.Difference.{Difference}
use Rattle.image_contents.specs.declared.entries.indexes.DifferingEntry.{DifferingEntry}
use Rattle.image_contents.specs.declared.entries.variants.TableVariants.{TableVariants}
use Rattle.image_findings.specs.EntryFindings.{differing, entry_finding, index_finding}
use Rattle.image_findings.specs.Images.{Finding, first_of}
use Rattle.image_findings.specs.Images.Finding.{Index}
use Rattle.image_findings.specs.TableContents.{TableContents}
use Rattle.image_opening.specs.OpenedTrees.{index_opened, index_shown}
use Rattle.image_opening.specs.declared.opened.OpenedIndex.{OpenedIndex}
use Rattle.index_derive.specs.Schemas.{rule_with_id}
use Rattle.index_derive.specs.declared.rules.IndexRule.{IndexRule}
use Rattle.index_derive.specs.declared.rules.Schema.{Schema}
use Rattle.jet_base.specs.declared.ids.IndexId.{IndexId}
use Rattle.page_image.specs.Page.{Node}
use Rattle.version_store.specs.HeldChanges.{HeldChange}

-- ---- the rule of an index

pub legal_found : (schema : Schema) (id : ℕ) (rule : IndexRule) → HasLegalRules schema → rule_with_id schema id ≡ Some rule → IsLegalRule schema rule
legal_found schema id rule legal e = legal (position_or_len (λ (r : IndexRule). r.id.0 == id) schema.indexes) rule (sym (find_at (λ (r : IndexRule). r.id.0 == id) schema.indexes) ∙ e)

-- ---- one index after another

pub passed : (v : TableVariants) (rest others : List OpenedIndex) (x : OpenedIndex) (total : Option Finding) → rest ≡ x ∷ others → None ≡ opened_finding v x → first_of (map (opened_finding v) rest) ≡ total → first_of (map (opened_finding v) others) ≡ total
passed v rest others x total split none all = ap (λ (o : Option Finding). option_or o (first_of (map (opened_finding v) others))) none ∙ sym (ap (λ (l : List OpenedIndex). first_of (map (opened_finding v) l)) split) ∙ all

pub found_at : (v : TableVariants) (rest others : List OpenedIndex) (x : OpenedIndex) (total : Option Finding) (found : Finding) → rest ≡ x ∷ others → Some found ≡ opened_finding v x → first_of (map (opened_finding v) rest) ≡ total → Some found ≡ total
found_at v rest others x total found split some all = ap (λ (o : Option Finding). option_or o (first_of (map (opened_finding v) others))) some ∙ sym (ap (λ (l : List OpenedIndex). first_of (map (opened_finding v) l)) split) ∙ all

one_left : (x : OpenedIndex) (rest : List OpenedIndex) → length (x ∷ rest) ≡ 0 → ⊥
one_left x rest e = omega (arith, e)

pub ended : (v : TableVariants) (rest : List OpenedIndex) (total : Option Finding) → length rest ≡ 0 → first_of (map (opened_finding v) rest) ≡ total → None ≡ total
ended v [] total end all = all
ended v (x ∷ rest) total end all = absurd (one_left x rest end)

-- ---- an entry as it is found and as it is told

pub told_is : (table : Table) (rule : IndexRule) (told : DifferingEntry) (d : Difference) (index : IndexId) → rule_with_id (schema_of table) index.0 ≡ Some rule → told.index ≡ index → told.key.items ≡ d.key.now ++ d.bookmark.now → told.is_stored ≡ d.is_stored
    → finding_in table told ≡ Index table.name rule.name (d.key.now ++ d.bookmark.now) (if d.is_stored then 1 else 0) (if d.is_stored then 0 else 1)
told_is table rule told d index own same keys stored =
    ap (λ (i : IndexId). Index table.name (name_of_rule (rule_with_id (schema_of table) i.0)) told.key.items (if told.is_stored then 1 else 0) (if told.is_stored then 0 else 1)) same
    ∙ ap (λ (o : Option IndexRule). Index table.name (name_of_rule o) told.key.items (if told.is_stored then 1 else 0) (if told.is_stored then 0 else 1)) own
    ∙ ap (λ (key : List ℕ). Index table.name rule.name key (if told.is_stored then 1 else 0) (if told.is_stored then 0 else 1)) keys
    ∙ ap (λ (b : Bool). Index table.name rule.name (d.key.now ++ d.bookmark.now) (if b then 1 else 0) (if b then 0 else 1)) stored

pub differing_is : (found : Pair → ℕ → ℕ → Finding) (have want stored wanted : List Pair) (o : Option Finding) → o ≡ differing found have want → have ≡ stored → want ≡ wanted → o ≡ differing found stored wanted
differing_is found have want stored wanted o e has wants = e ∙ ap (λ (l : List Pair). differing found l want) has ∙ ap (differing found stored) wants

-- ---- the same table, by its parts

same_parts : (held : List HeldChange) (table : Table) (nodes values : List Node) (t : TableContents) (index : IndexRule × List Node) → table ≡ t.table → nodes ≡ t.nodes → values ≡ t.value_nodes
    → index_finding held (record { table = table; nodes = nodes; value_nodes = values; indexes = [] }) index ≡ index_finding held t index
same_parts held table nodes values t index tables news longs =
    ap (λ (x : Table). index_finding held (record { table = x; nodes = nodes; value_nodes = values; indexes = [] }) index) tables
    ∙ ap (λ (x : List Node). index_finding held (record { table = t.table; nodes = x; value_nodes = values; indexes = [] }) index) news
    ∙ ap (λ (x : List Node). index_finding held (record { table = t.table; nodes = t.nodes; value_nodes = x; indexes = [] }) index) longs

same_index : (v : TableVariants) (t : TableContents) (x : OpenedIndex) (index : IndexRule × List Node) → IsShown v t → index_opened v.space.now x ≡ index_shown index → IsOwnRule t.table index → opened_finding v x ≡ index_finding v.versions.now t index
same_index v t x index shown same own =
    ap (λ (table : Table). finding_by v.versions.now (contents_of v) (rule_with_id (schema_of table) x.index.0) (nodes_of v.space.now x.tree)) shown.table
    ∙ ap (λ (p : ℕ × List Node). finding_by v.versions.now (contents_of v) (rule_with_id (schema_of t.table) p.0) p.1) same
    ∙ ap (λ (rule : Option IndexRule). finding_by v.versions.now (contents_of v) rule index.1) own
    ∙ same_parts v.versions.now v.table.now (nodes_of v.space.now v.opened.now.nodes) (nodes_of v.space.now v.opened.now.long_values) t index shown.table shown.contents.nodes_are shown.contents.values_are

same_first : {X : Type 0} (x y : X) (xs ys : List X) → x ∷ xs ≡ y ∷ ys → x ≡ y
same_first x y xs ys e = cc

same_rest : {X : Type 0} (x y : X) (xs ys : List X) → x ∷ xs ≡ y ∷ ys → xs ≡ ys
same_rest x y xs ys e = cc

none_more : {A : Type 0} {X : Type 0} (x : X) (xs : List X) → [] ≡ x ∷ xs → A
none_more x xs e = cc

same_indexes : (v : TableVariants) (t : TableContents) (opened : List OpenedIndex) (shown : List (IndexRule × List Node)) → IsShown v t → map (index_opened v.space.now) opened ≡ map index_shown shown → AllByRecursion (IsOwnRule t.table) shown
    → first_of (map (opened_finding v) opened) ≡ first_of (map (index_finding v.versions.now t) shown)
same_indexes v t [] [] is same own = refl
same_indexes v t [] (y ∷ shown) is same own = none_more _ _ same
same_indexes v t (x ∷ opened) [] is same own = none_more _ _ (sym same)
same_indexes v t (x ∷ opened) (y ∷ shown) is same own =
    ap (λ (f : Option Finding). option_or f (first_of (map (opened_finding v) opened))) (same_index v t x y is (same_first _ _ _ _ same) own.0)
    ∙ ap (option_or (index_finding v.versions.now t y)) (same_indexes v t opened shown is (same_rest _ _ _ _ same) own.1)

pub shown_finding : (v : TableVariants) (t : TableContents) → IsShown v t → first_of (map (opened_finding v) v.opened.now.indexes.items) ≡ entry_finding v.versions.now t
shown_finding v t is = same_indexes v t v.opened.now.indexes.items t.indexes is is.contents.indexes_are is.rules
