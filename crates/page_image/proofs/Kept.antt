-- A page in memory shows what each edit makes of its contents.
use Rattle.std.proofs.Common.{◌≡◌, ℕ, zero, suc, ◌+◌, ◌-◌, ◌<◌, ◌≤◌, inl, inr, true, false, nat_eq, eq-eqb, List, [], ◌∷◌, ◌++◌, length, take, drop, replicate, get_or, set, slice_range, refl, sym, ap, ◌∙◌, subst, arith, add-one}
use Rattle.std.specs.Prelude.{sum_by, insert, remove}
use Rattle.std.proofs.lemmas.List.{get_or_default, length-set, length-take-le, length-drop, take-set-le, take-take, take-append-drop, get_or-take, take_all, take_more}
use Rattle.std.proofs.Math.Seq.{take-add}
use Rattle.std.proofs.lemmas.List.Elements.{All-set, All-take, All-drop}
use Rattle.std.proofs.lemmas.List.Quantifiers.{all_pairs_remove}
use Rattle.std.proofs.lemmas.List.Sums.{sum_by_more, get_or-le-sum_by, sum_by_more_le, sum_by-append, sum_by-take-le}
use Rattle.std.proofs.lemmas.List.Edits.{insert_end, length-insert, length-remove}
use Rattle.std.proofs.lemmas.Bool.{cases_lt, cases_eq}
use Rattle.std.specs.Cmp.Lexicographic.{pointwise}
use Rattle.byteorder.specs.Numbers.{little_number-reads_back}
use Rattle.byteorder.specs.Endian.{little_number}
use Rattle.page_image.specs.Page.{Node, PageContents, IsPage, IsInsertPlace, IsBelow, DataFits, with_extent, no_node, node_at, node_bytes, node_size, node_area, page_size, page_front, page_head, page_body, page_bytes}
use Rattle.page_image.specs.Reading.{contents_of}
use Rattle.page_image.specs.Shown.{Shows}
use Rattle.page_image.proofs.Nodes.{contents_of-body, drop-page_bytes, few_nodes, HasNode, has_node}
use Rattle.common_lemmas.proofs.Edits.{AllPairs-take, AllPairs-drop, sum-insert, sum-take-insert, take-insert, sum-remove, sum-take-remove, take-remove, sum-set, sum-take-set, sum-take-le, All-insert, All-remove, AllPairs-insert, AllPairs-set}
use Rattle.page_image.proofs.Spelled.{front_of, has_front, headed, inserted_bytes, is_front, removed_bytes, replaced_bytes}

pub few : (p : PageContents) → IsPage p → length p.nodes ≤ 677
few p page = omega (arith, few_nodes p.nodes, page.size)

-- What bytes show is what they read as.
pub shown : (bytes offsets : List ℕ) (count end : ℕ) (p : PageContents) → Shows bytes offsets count end p → contents_of bytes ≡ p
shown bytes offsets count end p s = contents_of-body p bytes s.page (omega (arith, few p s.page)) s.spelled

pub again : (bytes offsets : List ℕ) (count end : ℕ) (p : PageContents) → Shows bytes offsets count end p → Shows bytes offsets count end (contents_of bytes)
again bytes offsets count end p s = subst (λ (q : PageContents). Shows bytes offsets count end q) (sym (shown bytes offsets count end p s)) s

-- What the fields of an open page show is what clauses see.
pub opened : (bytes offsets : List ℕ) (count end : ℕ) (p : PageContents) → contents_of bytes ≡ p → Shows bytes offsets count end (contents_of bytes) → Shows bytes offsets count end p
opened bytes offsets count end p view s = subst (λ (q : PageContents). Shows bytes offsets count end q) view s

-- What `finish` promises of bytes.
abbrev pub Finishes : List ℕ → List ℕ → ℕ → Type 0
Finishes old new count = (p q : PageContents) → q.number ≡ p.number → q.kind ≡ p.kind → count ≡ length q.nodes → drop 8 old ≡ page_head p ++ node_area q.nodes → drop 8 new ≡ page_body q

pub is_page-insert : (p : PageContents) (i : ℕ) (n : Node) → IsPage p → IsInsertPlace p.nodes n.key i → DataFits n → page_size p.nodes + node_size n ≤ 4096 → IsPage (record p { nodes = insert p.nodes i n })
is_page-insert p i n page place fits room = record {
  number = page.number;
  kind = page.kind;
  rising = AllPairs-insert (λ a b. IsBelow a.key b.key) p.nodes i n place.within page.rising
      (λ k d h. rw (get_or_default p.nodes k d no_node (omega (arith, place.within))) (place.below k h))
      (λ k d from h. rw (get_or_default p.nodes k d no_node h) (place.above k from h));
  fits = All-insert DataFits p.nodes i n fits page.fits;
  size = omega (arith, sum-insert node_size p.nodes i n);
}

-- where the nodes begin once a node was put in
offsets-insert : (nodes : List Node) (i : ℕ) (n : Node) (old new : List ℕ) (count at size : ℕ) → i ≤ length nodes → count ≡ length nodes → size ≡ node_size n → at ≡ page_size (take i nodes) → ((k : ℕ) → k < count → get_or old k 0 ≡ page_size (take k nodes)) → ((k : ℕ) → k < i → get_or new k 0 ≡ get_or old k 0) → get_or new i 0 ≡ at → ((k : ℕ) → i ≤ k → k < count → get_or new (k + 1) 0 ≡ get_or old k 0 + size) → (k : ℕ) → k < count + 1 → get_or new k 0 ≡ page_size (take k (insert nodes i n))
offsets-insert nodes i n old new count at size within counted size_is at_is placed below here above k h =
    elim (cases_lt i k) [ inl past ↦ later k past h | inr early ↦ elim (cases_eq k i) [ inl same ↦ at_place same | inr other ↦ before (omega arith) ] ]
  where
    before : k < i → get_or new k 0 ≡ page_size (take k (insert nodes i n))
    before lt = below k lt ∙ placed k (omega arith) ∙ ap page_size (sym (take-insert nodes i k n (omega arith) (omega arith)))

    at_place : k ≡ i → get_or new k 0 ≡ page_size (take k (insert nodes i n))
    at_place same =
        ap (λ j. get_or new j 0) same ∙ here ∙ at_is
        ∙ ap page_size (sym (take-insert nodes i i n (omega arith) within)) ∙ ap (λ j. page_size (take j (insert nodes i n))) (sym same)

    later : (k : ℕ) → i < k → k < count + 1 → get_or new k 0 ≡ page_size (take k (insert nodes i n))
    later zero past h = absurd (omega arith)
    later (suc k) past h =
        ap (λ j. get_or new j 0) (sym (add-one k)) ∙ above k (omega arith) (omega arith)
        ∙ omega (arith, placed k (omega arith), sum-take-insert node_size nodes i k n (omega arith))

pub shows-insert : (old offsets : List ℕ) (count end : ℕ) (p : PageContents) (i : ℕ) (n : Node) (edited new placed : List ℕ) (at size : ℕ) → Shows old offsets count end p → IsInsertPlace p.nodes n.key i → DataFits n → size ≡ node_size n → end + size ≤ 4096 → at ≡ page_size (take i p.nodes) → edited ≡ take at old ++ (node_bytes n ++ (slice_range old at end ++ drop (end + size) old)) → Finishes edited new (count + 1) → ((k : ℕ) → k < i → get_or placed k 0 ≡ get_or offsets k 0) → get_or placed i 0 ≡ at → ((k : ℕ) → i ≤ k → k < count → get_or placed (k + 1) 0 ≡ get_or offsets k 0 + size) → Shows new placed (count + 1) (end + size) (record p { nodes = insert p.nodes i n })
shows-insert old offsets count end p i n edited new placed at size s place fits size_is room at_is edited_is finished below here above = record {
  page = is_page-insert p i n s.page place fits (omega (arith, s.ended));
  spelled = finished p (record p { nodes = insert p.nodes i n }) refl refl (omega (arith, s.counted, length-insert p.nodes i n place.within))
      (headed (front_of old p) p (insert p.nodes i n) edited (is_front old p s.spelled) (inserted_bytes (front_of old p) p i n old edited at end size (is_front old p s.spelled).long s.page (has_front old p s.spelled) at_is s.ended size_is edited_is));
  counted = omega (arith, s.counted, length-insert p.nodes i n place.within);
  ended = omega (arith, s.ended, sum-insert node_size p.nodes i n);
  placed = offsets-insert p.nodes i n offsets placed count at size place.within s.counted size_is at_is s.placed below here above;
}

-- what stands at the place that an offset gives
pub node_here : (bytes offsets : List ℕ) (count end : ℕ) (p : PageContents) (i at : ℕ) → contents_of bytes ≡ p → Shows bytes offsets count end (contents_of bytes) → i < length p.nodes → at ≡ page_size (take i p.nodes) → HasNode bytes at (node_at p.nodes i)
node_here bytes offsets count end p i at view s h at_is =
    let s' = opened bytes offsets count end p view s in
    has_node p i bytes at s'.page h s'.spelled at_is

-- a node's data, by the two lengths that were read
pub data_read : (bytes : List ℕ) (at : ℕ) (n : Node) (key «data» : ℕ) → HasNode bytes at n → key ≡ little_number 2 (drop at bytes) → «data» ≡ little_number 2 (drop (at + 2) bytes) → take (at + 6 + key + «data» - (at + 6 + key)) (drop (at + 6 + key) bytes) ≡ n.data
data_read bytes at n key «data» node key_is data_is =
    let k : key ≡ length n.key = key_is ∙ node.key_length in
    let d : at + 6 + key + «data» - (at + 6 + key) ≡ length n.data = omega (arith, data_is, node.data_length) in
    rw (d, k) node.data

-- A node may be taken out of a page.
is_page-remove : (p : PageContents) (i : ℕ) → IsPage p → i < length p.nodes → IsPage (record p { nodes = remove p.nodes i })
is_page-remove p i page h = record {
  number = page.number;
  kind = page.kind;
  rising = all_pairs_remove (λ a b. IsBelow a.key b.key) p.nodes i h page.rising;
  fits = All-remove DataFits p.nodes i page.fits;
  size = omega (arith, page.size, sum-remove node_size p.nodes i no_node h);
}

-- the offsets behind a node are past it
pub offsets_behind : (offsets : List ℕ) (count : ℕ) (p : PageContents) (i size : ℕ) → count ≡ length p.nodes → ((k : ℕ) → k < count → get_or offsets k 0 ≡ page_size (take k p.nodes)) → i < length p.nodes → size ≡ node_size (node_at p.nodes i) → (k : ℕ) → i < k → k < count → size ≤ get_or offsets k 0
offsets_behind offsets count p i size counted placed h size_is k past within =
    omega (arith, placed k within, sum_by_more node_size p.nodes i no_node h, sum-take-le node_size p.nodes (i + 1) k (omega arith))

offsets-remove : (nodes : List Node) (i : ℕ) (old new : List ℕ) (count size : ℕ) → i < length nodes → count ≡ length nodes → size ≡ node_size (node_at nodes i) → ((k : ℕ) → k < count → get_or old k 0 ≡ page_size (take k nodes)) → ((k : ℕ) → k < i → get_or new k 0 ≡ get_or old k 0) → ((k : ℕ) → i ≤ k → k + 1 < count → get_or new k 0 ≡ get_or old (k + 1) 0 - size) → (k : ℕ) → k < count - 1 → get_or new k 0 ≡ page_size (take k (remove nodes i))
offsets-remove nodes i old new count size h counted size_is placed below above k within =
    elim (cases_lt k i) [
      | inl early ↦ below k early ∙ placed k (omega arith) ∙ ap page_size (sym (take-remove nodes i k (omega arith)))
      | inr late ↦ above k late (omega arith) ∙ omega (arith, placed (k + 1) (omega arith), ap (λ j. sum_by node_size (take j nodes)) (add-one k), sum-take-remove node_size nodes i k no_node late h)
    ]

pub shows-remove : (old offsets : List ℕ) (count end : ℕ) (p : PageContents) (i : ℕ) (edited new placed : List ℕ) (at size : ℕ) → Shows old offsets count end p → i < length p.nodes → size ≡ node_size (node_at p.nodes i) → at ≡ page_size (take i p.nodes) → edited ≡ take at old ++ (slice_range old (at + size) end ++ (replicate size 0 ++ drop end old)) → Finishes edited new (count - 1) → ((k : ℕ) → k < i → get_or placed k 0 ≡ get_or offsets k 0) → ((k : ℕ) → i ≤ k → k + 1 < count → get_or placed k 0 ≡ get_or offsets (k + 1) 0 - size) → Shows new placed (count - 1) (end - size) (record p { nodes = remove p.nodes i })
shows-remove old offsets count end p i edited new placed at size s h size_is at_is edited_is finished below above = record {
  page = is_page-remove p i s.page h;
  spelled = finished p (record p { nodes = remove p.nodes i }) refl refl (omega (arith, s.counted, length-remove p.nodes i h))
      (headed (front_of old p) p (remove p.nodes i) edited (is_front old p s.spelled) (removed_bytes (front_of old p) p i old edited at end size (is_front old p s.spelled).long s.page h (has_front old p s.spelled) at_is s.ended size_is edited_is));
  counted = omega (arith, s.counted, length-remove p.nodes i h);
  ended = omega (arith, s.ended, sum-remove node_size p.nodes i no_node h);
  placed = offsets-remove p.nodes i offsets placed count size h s.counted size_is s.placed below above;
}

-- A node may be written over by one with the same key.
is_page-set : (p : PageContents) (i : ℕ) (n : Node) → IsPage p → i < length p.nodes → n.key ≡ (node_at p.nodes i).key → DataFits n → page_size (set p.nodes i n) ≤ 4096 → IsPage (record p { nodes = set p.nodes i n })
is_page-set p i n page h same fits room = record {
  number = page.number;
  kind = page.kind;
  rising = AllPairs-set IsBelow (λ (a : Node). a.key) p.nodes i n h (λ d. same ∙ ap (λ (a : Node). a.key) (get_or_default p.nodes i no_node d h)) page.rising;
  fits = All-set DataFits p.nodes i n fits page.fits;
  size = room;
}

pub shows-replace : (old offsets : List ℕ) (count end : ℕ) (p : PageContents) (i : ℕ) (n : Node) (written new : List ℕ) (at size : ℕ) → Shows old offsets count end p → i < length p.nodes → n.key ≡ (node_at p.nodes i).key → n.extent ≡ (node_at p.nodes i).extent → DataFits n → size ≡ node_size (node_at p.nodes i) → at ≡ page_size (take i p.nodes) → written ≡ node_bytes n → Finishes (take at old ++ (written ++ drop size (drop at old))) new count → Shows new offsets count end (record p { nodes = set p.nodes i n })
shows-replace old offsets count end p i n written new at size s h key extent fits size_is at_is written_is finished =
    let same : node_size n ≡ node_size (node_at p.nodes i) = omega (arith, ap (λ (k : List ℕ). length k) key, extent) in
    let room : page_size (set p.nodes i n) ≡ page_size p.nodes = omega (arith, same, sum-set node_size p.nodes i n no_node h) in
    record {
      page = is_page-set p i n s.page h key fits (omega (arith, room, s.page.size));
      spelled = finished p (record p { nodes = set p.nodes i n }) refl refl (s.counted ∙ sym (length-set p.nodes i n))
          (headed (front_of old p) p (set p.nodes i n) (take at old ++ (written ++ drop size (drop at old))) (is_front old p s.spelled) (replaced_bytes (front_of old p) p i n old written at size (is_front old p s.spelled).long s.page h (has_front old p s.spelled) at_is size_is same written_is));
      counted = s.counted ∙ sym (length-set p.nodes i n);
      ended = s.ended ∙ sym room;
      placed = λ k within. elim (cases_lt i k) [
        | inl past ↦ s.placed k within ∙ omega (arith, same, sum-take-set node_size p.nodes i k n no_node past h)
        | inr early ↦ s.placed k within ∙ ap page_size (sym (take-set-le k p.nodes i n early))
      ];
    }

pub shows-extent : (old offsets : List ℕ) (count end : ℕ) (p : PageContents) (i extent : ℕ) (edited new placed : List ℕ) (was : ℕ) → Shows old offsets count end p → i < length p.nodes → length (node_at p.nodes i).data ≤ extent → page_size (with_extent p.nodes i extent) ≤ 4096 → was ≡ (node_at p.nodes i).extent → edited ≡ front_of old p ++ node_area (with_extent p.nodes i extent) → Finishes edited new count → ((k : ℕ) → k < i + 1 → get_or placed k 0 ≡ get_or offsets k 0) → ((k : ℕ) → i + 1 ≤ k → k < count → get_or placed k 0 + was ≡ get_or offsets k 0 + extent) → Shows new placed count (end - was + extent) (record p { nodes = with_extent p.nodes i extent })
shows-extent old offsets count end p i extent edited new placed was s h fits room was_is edited_is finished below above =
    let n : Node = record (node_at p.nodes i) { extent = extent } in
    let sums = sum-set node_size p.nodes i n no_node h in
    record {
      page = is_page-set p i n s.page h refl fits room;
      spelled = finished p (record p { nodes = set p.nodes i n }) refl refl (s.counted ∙ sym (length-set p.nodes i n)) (headed (front_of old p) p (set p.nodes i n) edited (is_front old p s.spelled) edited_is);
      counted = s.counted ∙ sym (length-set p.nodes i n);
      ended = omega (arith, s.ended, sums, was_is, get_or-le-sum_by node_size p.nodes i no_node h);
      placed = λ k within. elim (cases_lt i k) [
        | inl past ↦ omega (arith, above k (omega arith) within, s.placed k within, was_is, sum-take-set node_size p.nodes i k n no_node past h, offsets_behind offsets count p i (node_size (node_at p.nodes i)) s.counted s.placed h refl k past within)
        | inr early ↦ below k (omega arith) ∙ s.placed k within ∙ ap page_size (sym (take-set-le k p.nodes i n early))
      ];
    }

-- the first nodes of a page, and the last ones
pub shows-take : (old offsets : List ℕ) (count end : ℕ) (p : PageContents) (i : ℕ) (edited new : List ℕ) (start : ℕ) → Shows old offsets count end p → i ≤ length p.nodes → start ≡ page_size (take i p.nodes) → edited ≡ front_of old p ++ node_area (take i p.nodes) → Finishes edited new i → Shows new offsets i start (record p { nodes = take i p.nodes })
shows-take old offsets count end p i edited new start s h start_is edited_is finished = record {
  page = record {
    number = s.page.number;
    kind = s.page.kind;
    rising = AllPairs-take (λ a b. IsBelow a.key b.key) p.nodes i s.page.rising;
    fits = All-take DataFits i p.nodes s.page.fits;
    size = omega (arith, s.page.size, sum_by-take-le node_size p.nodes i);
  };
  spelled = finished p (record p { nodes = take i p.nodes }) refl refl (sym (length-take-le i p.nodes h)) (headed (front_of old p) p (take i p.nodes) edited (is_front old p s.spelled) edited_is);
  counted = sym (length-take-le i p.nodes h);
  ended = start_is;
  placed = λ k within. s.placed k (omega (arith, s.counted)) ∙ ap page_size (sym (take-take k i p.nodes (omega arith)));
}

pub shows-drop : (old offsets other others : List ℕ) (count end count' end' : ℕ) (p q : PageContents) (i : ℕ) (edited new placed : List ℕ) (start : ℕ) → Shows old offsets count end p → Shows other others count' end' q → i ≤ length p.nodes → start ≡ page_size (take i p.nodes) → edited ≡ front_of other q ++ node_area (drop i p.nodes) → Finishes edited new (count - i) → ((k : ℕ) → k < count - i → get_or placed k 0 ≡ get_or offsets (i + k) 0 - (start - 32)) → Shows new placed (count - i) (32 + (end - start)) (record q { nodes = drop i p.nodes })
shows-drop old offsets other others count end count' end' p q i edited new placed start s t h start_is edited_is finished moved =
    let sums : sum_by node_size (take i p.nodes) + sum_by node_size (drop i p.nodes) ≡ sum_by node_size p.nodes = sym (sum_by-append node_size (take i p.nodes) (drop i p.nodes)) ∙ ap (sum_by node_size) (take-append-drop i p.nodes) in
    let counted : count - i ≡ length (drop i p.nodes) = omega (arith, s.counted, length-drop i p.nodes) in
    record {
      page = record {
        number = t.page.number;
        kind = t.page.kind;
        rising = AllPairs-drop (λ a b. IsBelow a.key b.key) p.nodes i s.page.rising;
        fits = All-drop DataFits i p.nodes s.page.fits;
        size = omega (arith, s.page.size);
      };
      spelled = finished q (record q { nodes = drop i p.nodes }) refl refl counted (headed (front_of other q) q (drop i p.nodes) edited (is_front other q t.spelled) edited_is);
      counted = counted;
      ended = omega (arith, s.ended);
      placed = λ k within.
          let first : sum_by node_size (take (i + k) p.nodes) ≡ sum_by node_size (take i p.nodes) + sum_by node_size (take k (drop i p.nodes)) = ap (sum_by node_size) (take-add i k p.nodes) ∙ sum_by-append node_size (take i p.nodes) (take k (drop i p.nodes)) in
          omega (arith, moved k within, s.placed (i + k) (omega arith), first);
    }

-- While the first k nodes of a page are taken over, the next one stands where these end.
pub next_node : (old offsets : List ℕ) (count end : ℕ) (q : PageContents) (bytes : List ℕ) (p : PageContents) (k : ℕ) → Shows old offsets count end q → IsPage p → bytes ≡ page_bytes p → q ≡ record p { nodes = take k p.nodes } → k < length p.nodes → HasNode bytes end (node_at p.nodes k)
next_node old offsets count end q bytes p k s page spelled taken h = has_node p k bytes end page h (ap (drop 8) spelled ∙ drop-page_bytes p) (s.ended ∙ ap (λ (r : PageContents). page_size r.nodes) taken)

pub key_read : (bytes : List ℕ) (at : ℕ) (n : Node) (key : ℕ) → HasNode bytes at n → key ≡ little_number 2 (drop at bytes) → take (at + 6 + key - (at + 6)) (drop (at + 6) bytes) ≡ n.key
key_read bytes at n key node key_is =
    let k : at + 6 + key - (at + 6) ≡ length n.key = omega (arith, key_is, node.key_length) in
    rw k node.key

-- The next key of a page is above the keys before it.
pub next_place : (q p : PageContents) (k : ℕ) (key : List ℕ) → q ≡ record p { nodes = take k p.nodes } → IsPage p → k < length p.nodes → key ≡ (node_at p.nodes k).key → IsInsertPlace q.nodes key (length q.nodes)
next_place q p k key taken page h key_is =
    let nodes : q.nodes ≡ take k p.nodes = ap (λ (r : PageContents). r.nodes) taken in
    let count : length (take k p.nodes) ≡ k = length-take-le k p.nodes (omega arith) in
    let place : IsInsertPlace (take k p.nodes) (node_at p.nodes k).key (length (take k p.nodes)) = record {
      within = omega arith;
      below = λ j lt. let early : j < k = omega arith in rw (get_or-take k p.nodes j no_node early) (page.rising j k no_node early h);
      above = λ j from lt. absurd (omega arith);
    } in
    subst (λ (ns : List Node). IsInsertPlace ns key (length ns)) (sym nodes) (subst (λ (x : List ℕ). IsInsertPlace (take k p.nodes) x (length (take k p.nodes))) (sym key_is) place)

pub next_room : (q p : PageContents) (k : ℕ) (key : List ℕ) (extent : ℕ) → q ≡ record p { nodes = take k p.nodes } → IsPage p → k < length p.nodes → key ≡ (node_at p.nodes k).key → extent ≡ (node_at p.nodes k).extent → page_size q.nodes + (6 + length key + extent) ≤ 4096
next_room q p k key extent taken page h key_is extent_is =
    omega (arith, ap (λ (r : PageContents). page_size r.nodes) taken, page.size, sum_by_more_le node_size p.nodes k no_node h, ap (λ (x : List ℕ). length x) key_is, extent_is)

pub taken_over : (q new p : PageContents) (k count : ℕ) (n : Node) → new ≡ record q { nodes = insert q.nodes count n } → count ≡ length q.nodes → q ≡ record p { nodes = take k p.nodes } → k < length p.nodes → n ≡ node_at p.nodes k → new ≡ record p { nodes = take (k + 1) p.nodes }
taken_over q new p k count n new_is count_is taken h n_is =
    let nodes : insert q.nodes count n ≡ take (k + 1) p.nodes =
    ap (λ j. insert q.nodes j n) count_is ∙ insert_end q.nodes n ∙ ap (λ (r : PageContents). r.nodes ++ n ∷ []) taken ∙ ap (λ (m : Node). take k p.nodes ++ m ∷ []) n_is ∙ sym (take_more p.nodes k no_node h) in
    new_is ∙ ap (λ (r : PageContents). record r { nodes = insert q.nodes count n }) taken ∙ ap (λ (ns : List Node). record p { nodes = ns }) nodes

pub kind_read : (p : PageContents) (bytes : List ℕ) → bytes ≡ page_bytes p → get_or bytes 12 0 ≡ p.kind
unfolding page_bytes page_front page_head
kind_read p bytes is = ap (λ (x : List ℕ). get_or x 12 0) is

pub same_node : (n : Node) (key : List ℕ) (extent : ℕ) (value : List ℕ) → key ≡ n.key → extent ≡ n.extent → value ≡ n.data → record { key = key; extent = extent; «data» = value } ≡ n
same_node n key extent value k e d = rw (k, e, d) refl

pub never : false ≡ true → ⊥
never f = cc

pub number_read : (p : PageContents) (bytes : List ℕ) → IsPage p → bytes ≡ page_bytes p → little_number 4 (take 4088 (drop 8 bytes)) ≡ p.number
unfolding page_bytes page_front page_head
number_read p bytes page is = ap (λ (x : List ℕ). little_number 4 (take 4088 (drop 8 x))) is ∙ little_number-reads_back 4 p.number [] page.number

pub count_read : (p : PageContents) (bytes : List ℕ) → IsPage p → bytes ≡ page_bytes p → little_number 2 (drop 14 bytes) ≡ length p.nodes
unfolding page_bytes page_front page_head
count_read p bytes page is = ap (λ (x : List ℕ). little_number 2 (drop 14 x)) is ∙ little_number-reads_back 2 (length p.nodes) [] (omega (arith, few p page))

-- All of a page's nodes are the page.
pub all_taken : (q p : PageContents) (k : ℕ) → q ≡ record p { nodes = take k p.nodes } → length p.nodes ≤ k → q ≡ p
all_taken q p k taken h = taken ∙ ap (λ (ns : List Node). record p { nodes = ns }) (take_all k p.nodes h)

pub same_head : (p : PageContents) (number kind : ℕ) → number ≡ p.number → kind ≡ p.kind → record { number = number; kind = kind; nodes = [] } ≡ record p { nodes = [] }
same_head p number kind n k = rw (n, k) refl

pub pointwise-same : (xs : List ℕ) → pointwise nat_eq xs xs ≡ true
pointwise-same [] = refl
pointwise-same (x ∷ xs) = rw (eq-eqb x x refl) (pointwise-same xs)
