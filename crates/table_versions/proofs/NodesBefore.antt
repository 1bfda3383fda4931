-- Nodes that are gone over backwards where they lie, up to the first whose record a reader sees.
use Rattle.std.proofs.Common.{◌≡◌, ◌≤◌, ◌<◌, ℕ, Bool, true, false, ◌⊎◌, inl, inr, cond, List, [], ◌∷◌, Option, Some, None, filter, find, length, option_map, refl, sym, ap, ◌∙◌}
use Rattle.std.specs.Prelude.{IfSome}
use Rattle.std.specs.List.{last_or, list_all}
use Rattle.std.proofs.lemmas.Bool.{false_from_ne_true}
use Rattle.common_lemmas.proofs.Booleans.{and_left, and_right}
use Rattle.btree_inplace.specs.Order.{get_in, has_key, key_and_data}
use Rattle.cursor_nav.specs.Places.{Pair, are_sorted, entry_before, is_short_of, pair_lt}
use Rattle.index_derive.specs.declared.entries.Place.{Place}
use Rattle.index_derive.specs.declared.entries.Place.TheVariants.{On}
use Rattle.page_image.specs.Page.{Node}
use Rattle.table_trees.specs.StoredNodes.{bookmark_entries, node_before}
use Rattle.stored_variants.proofs.NodeRecords.{apart, key_is}
use Rattle.table_versions.proofs.NodesShown.{entry_at}
use Rattle.stored_variants.proofs.NodeWalks.{below, has_own_key}
use Rattle.laws_engine.proofs.TableLemmas.Neighbours.{IsIn, fewer_left_to, left_to, shown_before, shown_to}

-- the neighbours among nodes are those among their bookmarks
abbrev pub NeighbourLaw : Type 0
NeighbourLaw = (place : Place) (nodes : List Node) → option_map (λ (found : Pair). (found.0, found.0)) (node_before place nodes) ≡ entry_before place (bookmark_entries nodes)

-- The node that was found, or else the one before it that is shown, is the one that is looked for.
pub record StandsAt (test : Pair → Bool) (place : Place) (nodes : List Node) (found : Option Pair) : Type 0 where
  pub shown : entry_before place (filter test (bookmark_entries nodes)) ≡ shown_to test (bookmark_entries nodes) (entry_at found)
  pub row : IfSome found (λ (f : Pair). get_in nodes f.0 ≡ Some f.1)
  pub short : IfSome found (λ (f : Pair). length f.0 ≤ 255)

-- a node is the one under its bookmark
is_there : (nodes : List Node) (n : Node) → are_sorted (bookmark_entries nodes) ≡ true → IsIn n nodes → find (has_key n.key) nodes ≡ Some n
is_there [] n sorted i = absurd i
is_there (x ∷ nodes) n sorted (inl same) =
    ap (λ b. cond b (Some x) (find (has_key n.key) nodes)) (has_own_key x n.key (ap (λ (m : Node). m.key) same)) ∙ ap (λ (m : Node). Some m) same
is_there (x ∷ nodes) n sorted (inr later) =
    let low : list_all (pair_lt (x.key, x.key)) (bookmark_entries nodes) ≡ true = and_left _ _ sorted in
    let other : has_key n.key x ≡ false = false_from_ne_true (has_key n.key x) (λ same. apart x.key n.key (below x n nodes low later) (key_is x.key n.key same)) in
    ap (λ b. cond b (Some x) (find (has_key n.key) nodes)) other ∙ is_there nodes n (and_right (list_all (pair_lt (x.key, x.key)) (bookmark_entries nodes)) _ sorted) later

-- the last that passes is one of them
last_found : (q : Node → Bool) (n : Node) (o : Option Node) (nodes : List Node) → last_or o (filter q nodes) ≡ Some n → (o ≡ Some n) ⊎ IsIn n nodes
last_found q n o [] h = inl h
last_found q n o (x ∷ nodes) h = by (q x) h (last_found q n (Some x) nodes) (last_found q n o nodes)
  where
    node_or : Option Node → Node
    node_or None = x
    node_or (Some m) = m

    by : (b : Bool) → last_or o (cond b (x ∷ filter q nodes) (filter q nodes)) ≡ Some n → (last_or (Some x) (filter q nodes) ≡ Some n → (Some x ≡ Some n) ⊎ IsIn n nodes) → (last_or o (filter q nodes) ≡ Some n → (o ≡ Some n) ⊎ IsIn n nodes)
        → (o ≡ Some n) ⊎ IsIn n (x ∷ nodes)
    by true h with_it without = elim (with_it h) [ inl same ↦ inr (inl (ap node_or same)) | inr later ↦ inr (inr later) ]
    by false h with_it without = elim (without h) [ inl same ↦ inl same | inr later ↦ inr (inr later) ]

row_at_previous : (place : Place) (nodes : List Node) (found : Option Pair) → are_sorted (bookmark_entries nodes) ≡ true → found ≡ node_before place nodes → IfSome found (λ (f : Pair). get_in nodes f.0 ≡ Some f.1)
row_at_previous place nodes None sorted e = tt
row_at_previous place nodes (Some f) sorted e = by (last_or None (filter passes nodes)) refl e
  where
    passes : Node → Bool
    passes n = is_short_of place (n.key, n.key)

    pair_or : Option Pair → Pair
    pair_or None = f
    pair_or (Some p) = p

    no : {A : Type 0} {X : Type 0} {x : X} → Some x ≡ None → A
    no e = cc

    none : {A : Type 0} (n : Node) → None ≡ Some n → A
    none n e = cc

    by : (o : Option Node) → last_or None (filter passes nodes) ≡ o → Some f ≡ option_map key_and_data o → get_in nodes f.0 ≡ Some f.1
    by None last e = no e
    by (Some n) last e =
        let same : f ≡ (n.key, n.data) = ap pair_or e in
        let there : IsIn n nodes = elim (last_found passes n None nodes last) [ inl nothing ↦ none n nothing | inr there ↦ there ] in
        ap (λ (p : Pair). get_in nodes p.0) same ∙ ap (option_map (λ (n : Node). n.data)) (is_there nodes n sorted there) ∙ ap (λ (p : Pair). Some p.1) (sym same)

pub stands_at : NeighbourLaw → (test : Pair → Bool) (start place : Place) (nodes : List Node) (found : Option Pair) → are_sorted (bookmark_entries nodes) ≡ true
    → entry_before start (filter test (bookmark_entries nodes)) ≡ entry_before place (filter test (bookmark_entries nodes)) → found ≡ node_before place nodes → IfSome found (λ (f : Pair). length f.0 ≤ 255) → StandsAt test start nodes found
stands_at law test start place nodes found sorted from e short = record {
  shown = from ∙ shown_before test place (entry_at found) (bookmark_entries nodes) sorted (ap entry_at e ∙ law place nodes);
  row = row_at_previous place nodes found sorted e;
  short = short;
}

-- a node that is shown is the one that is looked for
pub stands_on_it : (test : Pair → Bool) (start : Place) (nodes : List Node) (bookmark bytes : List ℕ) → StandsAt test start nodes (Some (bookmark, bytes)) → test (bookmark, bookmark) ≡ true
    → entry_before start (filter test (bookmark_entries nodes)) ≡ Some (bookmark, bookmark)
stands_on_it test start nodes bookmark bytes stands passes = stands.shown ∙ ap (λ b. cond b (Some (bookmark, bookmark)) (entry_before (On bookmark bookmark) (filter test (bookmark_entries nodes)))) passes

-- one that is not is passed over
pub goes_on : NeighbourLaw → (test : Pair → Bool) (start : Place) (nodes : List Node) (bookmark bytes : List ℕ) (next : Option Pair) → are_sorted (bookmark_entries nodes) ≡ true → StandsAt test start nodes (Some (bookmark, bytes))
    → test (bookmark, bookmark) ≡ false → next ≡ node_before (On bookmark bookmark) nodes → IfSome next (λ (f : Pair). length f.0 ≤ 255) → StandsAt test start nodes next
goes_on law test start nodes bookmark bytes next sorted stands fails e short =
    stands_at law test start (On bookmark bookmark) nodes next sorted
    (stands.shown ∙ ap (λ b. cond b (Some (bookmark, bookmark)) (entry_before (On bookmark bookmark) (filter test (bookmark_entries nodes)))) fails) e short

pub fewer_to : NeighbourLaw → (nodes : List Node) (bookmark bytes : List ℕ) (next : Option Pair) → next ≡ node_before (On bookmark bookmark) nodes
    → left_to (bookmark_entries nodes) (entry_at next) < left_to (bookmark_entries nodes) (entry_at (Some (bookmark, bytes)))
fewer_to law nodes bookmark bytes next e = fewer_left_to (bookmark, bookmark) (entry_at next) (bookmark_entries nodes) (ap entry_at e ∙ law (On bookmark bookmark) nodes)
