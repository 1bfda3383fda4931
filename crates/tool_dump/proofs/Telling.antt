-- Trees that are told one after another.
use Rattle.std.proofs.Common.{◌≡◌, ℕ, zero, suc, ◌+◌, ◌<◌, ◌≤◌, Bool, true, false, List, [], ◌∷◌, ◌++◌, Option, Some, None, get_or, length, map, take, drop, refl, sym, ap, subst, ◌∙◌, arith, append_assoc, add-one}
use Rattle.std.specs.Prelude.{Result, Ok, Err, OnOk, cond, count_by, filter, is_none, not, replicate, if◌then◌else◌, codes}
use Rattle.std.specs.List.{flat_map}
use Rattle.std.specs.Option.{option_map, option_or}
use Rattle.std.proofs.lemmas.List.{append-nil, take_all}
use Rattle.std.proofs.lemmas.List.Sums.{sum_by_push}
use Rattle.common_lemmas.proofs.Options.{some_apart}
use Rattle.catalog_grammar.specs.Catalogs.{CatalogTable}
use Rattle.index_derive.specs.declared.rules.IndexRule.{IndexRule}
use Rattle.jet_base.specs.declared.memory.OutOfMemory.{OutOfMemory}
use Rattle.page_image.specs.Page.{PageContents}
use Rattle.page_space.specs.Frames.{Frames, page_at}
use Rattle.tree_check.specs.Marks.{with_marks}
use Rattle.tree_check.specs.Walks.{tree_fault}
use Rattle.tree_check.specs.declared.fault.WalkFault.{WalkFault}
use Rattle.image_findings.specs.CatalogFindings.{CatalogTold, catalog_told, roots_of, rooted_indexes}
use Rattle.image_findings.specs.Findings.{IsConsistent, roots_told, told_in}
use Rattle.image_findings.specs.Images.{Finding, ImageContents}
use Rattle.image_findings.specs.NoFindings.{HasNoFinding}
use Rattle.image_findings.specs.TreeFindings.{finding_of_fault, marks_after, no_marks, nodes_below, pages_below, trees_finding}
use Rattle.tool_dump.specs.SoundTrees.{HasSoundTrees, IsTold, lines_of_index, roots_of_index}
use Rattle.tool_dump.specs.SpaceTexts.{index_line, nodes_line, table_lines, tables_below, trees_text, values_line}

-- ---- answers

pub on_ok : {T E A B : Type 0} (r : Result T E) → (A → B) → OnOk r A → OnOk r B
on_ok (Ok x) f h = f h
on_ok (Err e) f h = tt

-- ---- findings of trees one after another

or_none : {X : Type 0} (a b : Option X) → option_or a b ≡ None → (a ≡ None) × (b ≡ None)
or_none None b h = (refl, h)
or_none (Some x) b h = absurd (some_apart x h)

or-assoc : (a b c : Option Finding) → option_or a (option_or b c) ≡ option_or (option_or a b) c
or-assoc None b c = refl
or-assoc (Some x) b c = refl

finding-append : (frames : Frames) (roots more : List ℕ) (marks : List Bool) → trees_finding frames (roots ++ more) marks ≡ option_or (trees_finding frames roots marks) (trees_finding frames more (marks_after frames roots marks))
finding-append frames [] more marks = refl
finding-append frames (root ∷ roots) more marks =
    let rest : List Bool = with_marks (pages_below frames root) marks in
    let first : Option Finding = option_map (finding_of_fault root) (tree_fault frames marks root) in
    ap (option_or first) (finding-append frames roots more rest) ∙ or-assoc first (trees_finding frames roots rest) (trees_finding frames more (marks_after frames roots rest))

marks-append : (frames : Frames) (roots more : List ℕ) (marks : List Bool) → marks_after frames (roots ++ more) marks ≡ marks_after frames more (marks_after frames roots marks)
marks-append frames [] more marks = refl
marks-append frames (root ∷ roots) more marks = marks-append frames roots more (with_marks (pages_below frames root) marks)

-- nothing is found of the first, and nothing behind them
pub none_of_both : (frames : Frames) (roots more : List ℕ) (marks : List Bool) → trees_finding frames (roots ++ more) marks ≡ None → (trees_finding frames roots marks ≡ None) × (trees_finding frames more (marks_after frames roots marks) ≡ None)
none_of_both frames roots more marks h = or_none (trees_finding frames roots marks) (trees_finding frames more (marks_after frames roots marks)) (sym (finding-append frames roots more marks) ∙ h)

no_fault : (root : ℕ) (fault : Option WalkFault) → option_map (finding_of_fault root) fault ≡ None → fault ≡ None
no_fault root None h = refl
no_fault root (Some fault) h = absurd (some_apart (finding_of_fault root fault) h)

-- so the first tree has no fault
pub first_whole : (frames : Frames) (root : ℕ) (more : List ℕ) (marks : List Bool) → trees_finding frames (root ∷ more) marks ≡ None → tree_fault frames marks root ≡ None
first_whole frames root more marks h =
    no_fault root (tree_fault frames marks root) (or_none (option_map (finding_of_fault root) (tree_fault frames marks root)) (trees_finding frames more (with_marks (pages_below frames root) marks)) h).0

-- ---- texts one behind another

pub told_none : (frames : Frames) (text : List ℕ) (marks : List Bool) → IsTold frames [] [] text text marks marks
told_none frames text marks = record { text = sym (append-nil text); marks = refl }

pub told_both : (frames : Frames) (roots more lines others a b c : List ℕ) (m n o : List Bool) → IsTold frames roots lines a b m n → IsTold frames more others b c n o → IsTold frames (roots ++ more) (lines ++ others) a c m o
told_both frames roots more lines others a b c m n o one next = record {
  text = next.text ∙ ap (λ (t : List ℕ). t ++ others) one.text ∙ append_assoc a lines others;
  marks = next.marks ∙ ap (marks_after frames more) one.marks ∙ sym (marks-append frames roots more m);
}

-- a line is its head and what stands behind that
pub told_behind : (frames : Frames) (roots head lines a b c : List ℕ) (m n : List Bool) → b ≡ a ++ head → IsTold frames roots lines b c m n → IsTold frames roots (head ++ lines) a c m n
told_behind frames roots head lines a b c m n is told = record {
  text = told.text ∙ ap (λ (t : List ℕ). t ++ lines) is ∙ append_assoc a head lines;
  marks = told.marks;
}

-- ---- the items of a list, each with its roots and its lines

flat_next : {X : Type 0} (f : X → List ℕ) (xs : List X) (i : ℕ) (x : X) → i < length xs → x ≡ get_or xs i x → flat_map f (take (suc i) xs) ≡ flat_map f (take i xs) ++ f x
flat_next f [] i x within is = absurd (omega (arith, within))
flat_next f (y ∷ xs) zero x within is = append-nil (f y) ∙ ap f (sym is)
flat_next f (y ∷ xs) (suc i) x within is = ap (λ (l : List ℕ). f y ++ l) (flat_next f xs i x (omega (arith, within)) is) ∙ sym (append_assoc (f y) (flat_map f (take i xs)) (f x))

flat_parted : {X : Type 0} (f : X → List ℕ) (xs : List X) (i : ℕ) (x : X) → i < length xs → x ≡ get_or xs i x → flat_map f xs ≡ flat_map f (take i xs) ++ (f x ++ flat_map f (drop (suc i) xs))
flat_parted f [] i x within is = absurd (omega (arith, within))
flat_parted f (y ∷ xs) zero x within is = ap (λ z. f z ++ flat_map f xs) (sym is)
flat_parted f (y ∷ xs) (suc i) x within is =
    ap (λ (l : List ℕ). f y ++ l) (flat_parted f xs i x (omega (arith, within)) is)
    ∙ sym (append_assoc (f y) (flat_map f (take i xs)) (f x ++ flat_map f (drop (suc i) xs)))

module _ {X : Type 0} (frames : Frames) (roots lines : X → List ℕ) where
  -- the first items are told
  abbrev pub FirstTold : List X → ℕ → List ℕ → List ℕ → List Bool → List Bool → Type 0
  FirstTold xs i old new before after = IsTold frames (flat_map roots (take i xs)) (flat_map lines (take i xs)) old new before after

  -- of the next one nothing is found
  pub next_whole : (xs : List X) (i : ℕ) (x : X) (old new : List ℕ) (before after : List Bool) → i < length xs → x ≡ get_or xs i x → trees_finding frames (flat_map roots xs) before ≡ None → FirstTold xs i old new before after → trees_finding frames (roots x) after ≡ None
  next_whole xs i x old new before after within is none told =
      let rest : List ℕ = roots x ++ flat_map roots (drop (suc i) xs) in
      let parted : trees_finding frames (flat_map roots (take i xs) ++ rest) before ≡ None = sym (ap (λ (l : List ℕ). trees_finding frames l before) (flat_parted roots xs i x within is)) ∙ none in
      let behind : trees_finding frames rest after ≡ None = ap (trees_finding frames rest) told.marks ∙ (none_of_both frames (flat_map roots (take i xs)) rest before parted).1 in
      (none_of_both frames (roots x) (flat_map roots (drop (suc i) xs)) after behind).0

  pub next_told : (xs : List X) (i : ℕ) (x : X) (a b c : List ℕ) (m n o : List Bool) → i < length xs → x ≡ get_or xs i x → FirstTold xs i a b m n → IsTold frames (roots x) (lines x) b c n o → FirstTold xs (i + 1) a c m o
  next_told xs i x a b c m n o within is so next =
      subst (λ (k : ℕ). FirstTold xs k a c m o) (sym (add-one i))
      (subst (λ (l : List ℕ). IsTold frames l (flat_map lines (take (suc i) xs)) a c m o) (sym (flat_next roots xs i x within is))
      (subst (λ (l : List ℕ). IsTold frames (flat_map roots (take i xs) ++ roots x) l a c m o) (sym (flat_next lines xs i x within is))
      (told_both frames (flat_map roots (take i xs)) (roots x) (flat_map lines (take i xs)) (lines x) a b c m n o so next)))

  pub all_told : (xs : List X) (i : ℕ) (old new : List ℕ) (before after : List Bool) → length xs ≤ i → FirstTold xs i old new before after → IsTold frames (flat_map roots xs) (flat_map lines xs) old new before after
  all_told xs i old new before after end so = subst (λ (l : List X). IsTold frames (flat_map roots l) (flat_map lines l) old new before after) (take_all i xs end) so

-- ---- indexes

abbrev has_tree : ℕ × IndexRule → Bool
has_tree index = not index.1.flags.primary

roots_are : (xs : List (ℕ × IndexRule)) → map (λ (index : ℕ × IndexRule). index.0) (filter has_tree xs) ≡ flat_map roots_of_index xs
roots_are [] = refl
roots_are (x ∷ xs) = by x.1.flags.primary (roots_are xs)
  where
    by : (b : Bool) → map (λ (index : ℕ × IndexRule). index.0) (filter has_tree xs) ≡ flat_map roots_of_index xs → map (λ (index : ℕ × IndexRule). index.0) (if not b then x ∷ filter has_tree xs else filter has_tree xs) ≡ (if b then [] else x.0 ∷ []) ++ flat_map roots_of_index xs
    by true others = others
    by false others = ap (λ (l : List ℕ). x.0 ∷ l) others

lines_are : (frames : Frames) (table : List ℕ) (xs : List (ℕ × IndexRule)) → flat_map (index_line frames table) (filter has_tree xs) ≡ flat_map (lines_of_index frames table) xs
lines_are frames table [] = refl
lines_are frames table (x ∷ xs) = by x.1.flags.primary (lines_are frames table xs)
  where
    by : (b : Bool) → flat_map (index_line frames table) (filter has_tree xs) ≡ flat_map (lines_of_index frames table) xs → flat_map (index_line frames table) (if not b then x ∷ filter has_tree xs else filter has_tree xs) ≡ (if b then [] else index_line frames table x) ++ flat_map (lines_of_index frames table) xs
    by true others = others
    by false others = ap (λ (l : List ℕ). index_line frames table x ++ l) others

-- ---- a table

pub table_roots : (x : CatalogTable) → roots_of x ≡ (x.table.records ∷ []) ++ (flat_map roots_of_index x.indexes ++ x.table.long_values ∷ [])
table_roots x = ap (λ (l : List ℕ). x.table.records ∷ (l ++ x.table.long_values ∷ [])) (roots_are x.indexes)

-- what is asked of its trees, one after another
pub record AsksOfTable (frames : Frames) (x : CatalogTable) (marks : List Bool) : Type 0 where
  pub records : tree_fault frames marks x.table.records ≡ None
  pub behind : trees_finding frames (flat_map roots_of_index x.indexes ++ x.table.long_values ∷ []) (with_marks (pages_below frames x.table.records) marks) ≡ None

pub asks_of_table : (frames : Frames) (x : CatalogTable) (marks : List Bool) → trees_finding frames (roots_of x) marks ≡ None → AsksOfTable frames x marks
asks_of_table frames x marks h =
    let behind : List ℕ = flat_map roots_of_index x.indexes ++ x.table.long_values ∷ [] in
    let all : trees_finding frames (x.table.records ∷ behind) marks ≡ None = sym (ap (λ (l : List ℕ). trees_finding frames l marks) (table_roots x)) ∙ h in
    record { records = first_whole frames x.table.records behind marks all; behind = (none_of_both frames (x.table.records ∷ []) behind marks all).1 }

pub asks_of_indexes : (frames : Frames) (x : CatalogTable) (indexes : List (ℕ × IndexRule)) (a b lines : List ℕ) (m n : List Bool) → indexes ≡ x.indexes → trees_finding frames (roots_of x) m ≡ None → IsTold frames (x.table.records ∷ []) lines a b m n → trees_finding frames (flat_map roots_of_index indexes) n ≡ None
asks_of_indexes frames x indexes a b lines m n same h told =
    let behind : List ℕ = flat_map roots_of_index x.indexes ++ x.table.long_values ∷ [] in
    ap (λ (l : List (ℕ × IndexRule)). trees_finding frames (flat_map roots_of_index l) n) same
    ∙ (none_of_both frames (flat_map roots_of_index x.indexes) (x.table.long_values ∷ []) n (ap (trees_finding frames behind) told.marks ∙ (asks_of_table frames x m h).behind)).0

pub asks_of_values : (frames : Frames) (x : CatalogTable) (indexes : List (ℕ × IndexRule)) (a b c lines others : List ℕ) (m n o : List Bool) → indexes ≡ x.indexes → trees_finding frames (roots_of x) m ≡ None → IsTold frames (x.table.records ∷ []) lines a b m n
    → IsTold frames (flat_map roots_of_index indexes) others b c n o → tree_fault frames o x.table.long_values ≡ None
asks_of_values frames x indexes a b c lines others m n o same h told next =
    let behind : List ℕ = flat_map roots_of_index x.indexes ++ x.table.long_values ∷ [] in
    let rest = (none_of_both frames (flat_map roots_of_index x.indexes) (x.table.long_values ∷ []) n (ap (trees_finding frames behind) told.marks ∙ (asks_of_table frames x m h).behind)).1 in
    let marks : o ≡ marks_after frames (flat_map roots_of_index x.indexes) n = next.marks ∙ ap (λ (l : List (ℕ × IndexRule)). marks_after frames (flat_map roots_of_index l) n) same in
    first_whole frames x.table.long_values [] o (ap (trees_finding frames (x.table.long_values ∷ [])) marks ∙ rest)

all_of_table : (frames : Frames) (x : CatalogTable) (a b c d : List ℕ) (m n o p : List Bool) → IsTold frames (x.table.records ∷ []) (nodes_line frames x.table.name (codes "records") x.table.records) a b m n
    → IsTold frames (flat_map roots_of_index x.indexes) (flat_map (lines_of_index frames x.table.name) x.indexes) b c n o
    → IsTold frames (x.table.long_values ∷ []) (values_line frames x.table.name x.table.long_values) c d o p → IsTold frames (roots_of x) (table_lines frames x) a d m p
all_of_table frames x a b c d m n o p records indexes values =
    let table : List ℕ = x.table.name in
    let first : List ℕ = nodes_line frames table (codes "records") x.table.records in
    let last : List ℕ = values_line frames table x.table.long_values in
    let behind = told_both frames (flat_map roots_of_index x.indexes) (x.table.long_values ∷ []) (flat_map (lines_of_index frames table) x.indexes) last b c d n o p indexes values in
    let all = told_both frames (x.table.records ∷ []) (flat_map roots_of_index x.indexes ++ x.table.long_values ∷ []) first (flat_map (lines_of_index frames table) x.indexes ++ last) a b d m n p records behind in
    subst (λ (l : List ℕ). IsTold frames l (table_lines frames x) a d m p) (sym (table_roots x))
    (subst (λ (l : List ℕ). IsTold frames ((x.table.records ∷ []) ++ (flat_map roots_of_index x.indexes ++ x.table.long_values ∷ [])) (first ++ (l ++ last)) a d m p) (sym (lines_are frames table x.indexes)) all)

-- what was told of a table by its name and its indexes, as the code has them
pub record TellsParts (frames : Frames) (x : CatalogTable) (name : List ℕ) (indexes : List (ℕ × IndexRule)) (a b c : List ℕ) (m n o : List Bool) : Type 0 where
  pub name_is : name ≡ x.table.name
  pub indexes_are : indexes ≡ x.indexes
  pub records : IsTold frames (x.table.records ∷ []) (nodes_line frames name (codes "records") x.table.records) a b m n
  pub entries : IsTold frames (flat_map roots_of_index indexes) (flat_map (lines_of_index frames name) indexes) b c n o

pub table_told : (result : Result (Unit {0}) OutOfMemory) (frames : Frames) (x now : CatalogTable) (name : List ℕ) (indexes : List (ℕ × IndexRule)) (a b c d : List ℕ) (m n o p : List Bool) → x ≡ now → TellsParts frames x name indexes a b c m n o
    → OnOk result (IsTold frames (x.table.long_values ∷ []) (values_line frames name x.table.long_values) c d o p) → OnOk result (IsTold frames (roots_of now) (table_lines frames now) a d m p)
table_told (Err fault) frames x now name indexes a b c d m n o p same parts values = tt
table_told (Ok done) frames x now name indexes a b c d m n o p same parts values =
    let table : List ℕ = x.table.name in
    let records : IsTold frames (x.table.records ∷ []) (nodes_line frames table (codes "records") x.table.records) a b m n =
    subst (λ (t : List ℕ). IsTold frames (x.table.records ∷ []) (nodes_line frames t (codes "records") x.table.records) a b m n) parts.name_is parts.records in
    let named : IsTold frames (flat_map roots_of_index indexes) (flat_map (lines_of_index frames table) indexes) b c n o =
    subst (λ (t : List ℕ). IsTold frames (flat_map roots_of_index indexes) (flat_map (lines_of_index frames t) indexes) b c n o) parts.name_is parts.entries in
    let entries : IsTold frames (flat_map roots_of_index x.indexes) (flat_map (lines_of_index frames table) x.indexes) b c n o =
    subst (λ (l : List (ℕ × IndexRule)). IsTold frames (flat_map roots_of_index l) (flat_map (lines_of_index frames table) l) b c n o) parts.indexes_are named in
    let long : IsTold frames (x.table.long_values ∷ []) (values_line frames table x.table.long_values) c d o p = subst (λ (t : List ℕ). IsTold frames (x.table.long_values ∷ []) (values_line frames t x.table.long_values) c d o p) parts.name_is values in
    subst (λ (y : CatalogTable). IsTold frames (roots_of y) (table_lines frames y) a d m p) same (all_of_table frames x a b c d m n o p records entries long)

-- ---- the whole

told_tables : (frames : Frames) (root : ℕ) (told : CatalogTold) → catalog_told (nodes_below frames root) ≡ Some told → tables_below frames root ≡ told.tables
told_tables frames root told e = ap (λ (o : Option CatalogTold). elim o [ Some t ↦ t.tables | None ↦ [] ]) e

pub all_trees_told : (result : Result (Unit {0}) OutOfMemory) (frames : Frames) (root : ℕ) (told : CatalogTold) (tables : List CatalogTable) (a b c : List ℕ) (m n o : List Bool) → tables ≡ told.tables → catalog_told (nodes_below frames root) ≡ Some told
    → IsTold frames (root ∷ []) (nodes_line frames (codes "catalog") (codes "nodes") root) a b m n → OnOk result (IsTold frames (flat_map roots_of tables) (flat_map (table_lines frames) tables) b c n o) → OnOk result (c ≡ a ++ trees_text frames (Some root))
all_trees_told (Err fault) frames root told tables a b c m n o same e catalog lines = tt
all_trees_told (Ok done) frames root told tables a b c m n o same e catalog lines =
    let line : List ℕ = nodes_line frames (codes "catalog") (codes "nodes") root in
    (told_both frames (root ∷ []) (flat_map roots_of tables) line (flat_map (table_lines frames) tables) a b c m n o catalog lines).text
    ∙ ap (λ (l : List CatalogTable). a ++ (line ++ flat_map (table_lines frames) l)) (same ∙ sym (told_tables frames root told e))

pub asks_of_tables : (frames : Frames) (root : ℕ) (told : CatalogTold) (tables : List CatalogTable) (a b lines : List ℕ) (m n : List Bool) → tables ≡ told.tables → trees_finding frames (root ∷ roots_told told) m ≡ None → IsTold frames (root ∷ []) lines a b m n
    → trees_finding frames (flat_map roots_of tables) n ≡ None
asks_of_tables frames root told tables a b lines m n same h catalog =
    ap (λ (l : List CatalogTable). trees_finding frames (flat_map roots_of l) n) same ∙ ap (trees_finding frames (roots_told told)) catalog.marks ∙ (none_of_both frames (root ∷ []) (roots_told told) m h).1

some_same : (one other : CatalogTold) → Some one ≡ Some other → one ≡ other
some_same one other e = ap (λ (o : Option CatalogTold). elim o [ Some t ↦ t | None ↦ one ]) e

pub sound_trees : (frames : Frames) (root : ℕ) (told : CatalogTold) (marks : List Bool) → HasSoundTrees frames root → catalog_told (nodes_below frames root) ≡ Some told → marks ≡ no_marks frames → trees_finding frames (root ∷ roots_told told) marks ≡ None
sound_trees frames root told marks sound e is =
    let all : trees_finding frames (root ∷ roots_told sound.told) (no_marks frames) ≡ None =
    finding-append frames (root ∷ []) (roots_told sound.told) (no_marks frames) ∙ ap (λ (o : Option Finding). option_or o (trees_finding frames (roots_told sound.told) (marks_after frames (root ∷ []) (no_marks frames)))) sound.catalog_tree ∙ sound.trees in
    ap (trees_finding frames (root ∷ roots_told told)) is
    ∙ ap (λ (t : CatalogTold). trees_finding frames (root ∷ roots_told t) (no_marks frames)) (some_same told sound.told (sym e ∙ sound.telling))
    ∙ all

-- ---- the marks and the pages of a space

pub unmarked_each : (frames : Frames) → replicate (length frames) false ≡ no_marks frames
unmarked_each [] = refl
unmarked_each (x ∷ frames) = ap (λ (l : List Bool). false ∷ l) (unmarked_each frames)

abbrev one_if_free : Option PageContents → ℕ
one_if_free o = cond (is_none o) 1 0

take_page : (frames : Frames) (page : ℕ) → page < length frames → take (suc page) frames ≡ take page frames ++ page_at frames page ∷ []
take_page [] page h = absurd (omega arith)
take_page (o ∷ frames) zero h = refl
take_page (o ∷ frames) (suc page) h = ap (λ (l : Frames). o ∷ l) (take_page frames page (omega arith))

pub free_next : (frames : Frames) (page count more : ℕ) → page < length frames → count ≡ count_by is_none (take page frames) → more ≡ count + (if is_none (page_at frames page) then 1 else 0) → more ≡ count_by is_none (take (suc page) frames)
free_next frames page count more within so is =
    is ∙ ap (λ (k : ℕ). k + one_if_free (page_at frames page)) so ∙ sym (sum_by_push one_if_free (take page frames) (page_at frames page)) ∙ ap (count_by is_none) (sym (take_page frames page within))

pub free_all : (frames : Frames) (page count : ℕ) → length frames ≤ page → count ≡ count_by is_none (take page frames) → count ≡ count_by is_none frames
free_all frames page count end so = so ∙ ap (count_by is_none) (take_all page frames end)

-- ---- an index

pub primary_told : (frames : Frames) (table : List ℕ) (index : ℕ × IndexRule) (text : List ℕ) (marks : List Bool) → index.1.flags.primary ≡ true → IsTold frames (roots_of_index index) (lines_of_index frames table index) text text marks marks
primary_told frames table index text marks e =
    subst (λ (b : Bool). IsTold frames (if b then [] else index.0 ∷ []) (if b then [] else index_line frames table index) text text marks marks) (sym e) (told_none frames text marks)

pub index_told : (frames : Frames) (table : List ℕ) (index : ℕ × IndexRule) (old new : List ℕ) (before after : List Bool) → index.1.flags.primary ≡ false → IsTold frames (index.0 ∷ []) (index_line frames table index) old new before after
    → IsTold frames (roots_of_index index) (lines_of_index frames table index) old new before after
index_told frames table index old new before after e told =
    subst (λ (b : Bool). IsTold frames (if b then [] else index.0 ∷ []) (if b then [] else index_line frames table index) old new before after) (sym e) told

pub index_whole : (frames : Frames) (index : ℕ × IndexRule) (marks : List Bool) → index.1.flags.primary ≡ false → trees_finding frames (roots_of_index index) marks ≡ None → tree_fault frames marks index.0 ≡ None
index_whole frames index marks e h =
    first_whole frames index.0 [] marks (subst (λ (b : Bool). trees_finding frames (if b then [] else index.0 ∷ []) marks ≡ None) e h)

-- ---- a consistent image

pub sound_of_consistent : ((image : ImageContents) → IsConsistent image → HasNoFinding image) → (image : ImageContents) → IsConsistent image → HasSoundTrees image.pages image.catalog_root
sound_of_consistent passes image h =
    let none = passes image h in
    record { told = told_in image; catalog_tree = none.catalog_tree; telling = none.told; catalog = none.catalog; trees = none.trees }
