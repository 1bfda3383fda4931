-- A walk along the chain of a slot passes over no item that has the hash.
use Rattle.std.proofs.Common.{◌≡◌, ℕ, zero, suc, ◌+◌, ◌-◌, ◌^◌, ◌<◌, ◌≤◌, ◌==◌, Bool, true, false, List, [], ◌∷◌, ◌++◌, map, length, get_or, set, take, refl, sym, ap, subst, ◌∙◌, arith}
use Rattle.std.specs.Prelude.{if◌then◌else◌}
use Rattle.std.proofs.lemmas.Bool.{eq-eqb, eqb-true, ne_eqb}
use Rattle.std.proofs.lemmas.List.{get_or-map, length-map, length-set, length-take-le, take-map, take_more, take_more_set}
use Rattle.std.proofs.Math.Seq.{map-set_same}
use Rattle.version_store.specs.declared.chains.Link.{Link}
use Rattle.version_store.specs.Chained.{AreLinked, ChainOf, Chains, Walk, befores_of, hashes_of, latest, one_later, slot_of, slots_of}
use Rattle.version_store.proofs.ChainLemmas.{chains-push, latest-push, length-slots}
use Rattle.version_store.proofs.WalkLemmas.{take-take, walk-falls, walk-start, walk-step}

-- equal hashes have equal slots
differ : (f : ℕ → ℕ) (x y : ℕ) (b : Bool) → (x == y) ≡ b → (f x == f y) ≡ false → (x == y) ≡ false
differ f x y true e other = absurd (never (sym (eq-eqb (f x) (f y) (ap f (eqb-true x y e))) ∙ other))
  where
    never : true ≡ false → ⊥
    never h = cc
differ f x y false e other = e

pub latest-coarse : (f : ℕ → ℕ) (hash : ℕ) (hashes : List ℕ) → latest hash (take (latest (f hash) (map f hashes)) hashes) ≡ latest hash hashes
latest-coarse f hash [] = refl
latest-coarse f hash (h ∷ hashes) = at (latest-coarse f hash hashes) (latest (f hash) (map f hashes)) refl
  where
    first : (b : Bool) → (f h == f hash) ≡ b → latest hash hashes ≡ 0 → latest hash (take (one_later b 0) (h ∷ hashes)) ≡ one_later (h == hash) (latest hash hashes)
    first true e none = ap (one_later (h == hash)) (sym none)
    first false e none = sym (ap (one_later (h == hash)) none ∙ ap (λ (b : Bool). one_later b 0) (differ f h hash (h == hash) refl e))

    at : latest hash (take (latest (f hash) (map f hashes)) hashes) ≡ latest hash hashes → (n : ℕ) → latest (f hash) (map f hashes) ≡ n → latest hash (take (one_later (f h == f hash) n) (h ∷ hashes)) ≡ one_later (h == hash) (latest hash hashes)
    at rest zero e = first (f h == f hash) refl (sym rest ∙ ap (λ (k : ℕ). latest hash (take k hashes)) e)
    at rest (suc n) e = ap (one_later (h == hash)) (ap (λ (k : ℕ). latest hash (take k hashes)) (sym e) ∙ rest)

pub slots-hashes : (shift : ℕ) (links : List Link) → slots_of shift links ≡ map (slot_of shift) (hashes_of links)
slots-hashes shift [] = refl
slots-hashes shift (link ∷ links) = ap (λ (l : List ℕ). slot_of shift link.hash ∷ l) (slots-hashes shift links)

pub length-hashes : (links : List Link) → length (hashes_of links) ≡ length links
length-hashes links = length-map links (λ (link : Link). link.hash)

-- the last of the front has the hash, or the front before it serves as well
latest-last : (hash : ℕ) (hashes : List ℕ) (end : ℕ) → 0 < end → end - 1 < length hashes → latest hash (take end hashes) ≡ (if get_or hashes (end - 1) 0 == hash then end else latest hash (take (end - 1) hashes))
latest-last hash hashes end some within =
    let e : end ≡ end - 1 + 1 = omega arith in
    let len : suc (length (take (end - 1) hashes)) ≡ end = omega (arith, length-take-le (end - 1) hashes (omega arith)) in
    ap (λ (k : ℕ). latest hash (take k hashes)) e ∙ ap (latest hash) (take_more hashes (end - 1) 0 within)
    ∙ latest-push hash (take (end - 1) hashes) (get_or hashes (end - 1) 0)
    ∙ ap (λ (k : ℕ). if get_or hashes (end - 1) 0 == hash then k else latest hash (take (end - 1) hashes)) len

pub latest-here : (hash : ℕ) (hashes : List ℕ) (end : ℕ) → 0 < end → end - 1 < length hashes → get_or hashes (end - 1) 0 ≡ hash → latest hash (take end hashes) ≡ end
latest-here hash hashes end some within is = latest-last hash hashes end some within ∙ ap (λ (b : Bool). if b then end else latest hash (take (end - 1) hashes)) (eq-eqb (get_or hashes (end - 1) 0) hash is)

pub latest-other : (hash : ℕ) (hashes : List ℕ) (end : ℕ) → 0 < end → end - 1 < length hashes → (get_or hashes (end - 1) 0 ≡ hash → ⊥) → latest hash (take end hashes) ≡ latest hash (take (end - 1) hashes)
latest-other hash hashes end some within other = latest-last hash hashes end some within ∙ ap (λ (b : Bool). if b then end else latest hash (take (end - 1) hashes)) (ne_eqb (get_or hashes (end - 1) 0) hash other)

-- where a step of the walk goes on
pub record Passed (hash shift : ℕ) (links : List Link) (end next : ℕ) : Type 0 where
  pub walk : Walk (slot_of shift hash) (slots_of shift links) next
  pub falls : next < end
  pub same : latest hash (take next (hashes_of links)) ≡ latest hash (take (end - 1) (hashes_of links))

pub passed : (hash first shift : ℕ) (links : List Link) (end next : ℕ) → AreLinked first shift links → Walk (slot_of shift hash) (slots_of shift links) end → 0 < end → next ≡ get_or (befores_of links) (end - 1) 0 - first → Passed hash shift links end next
passed hash first shift links end next linked walk some is =
    let slots : List ℕ = slots_of shift links in let slot : ℕ = slot_of shift hash in let front : List ℕ = take (end - 1) (hashes_of links) in
    let within : end - 1 < length links = omega (arith, walk.within, length-slots shift links) in
    let is_next : next ≡ latest (get_or slots (end - 1) 0) (take (end - 1) slots) = is ∙ linked (end - 1) within in
    let falls : next < end = walk-falls slot slots end next walk some is_next in
    let cut : take (end - 1) slots ≡ map (slot_of shift) front = ap (take (end - 1)) (slots-hashes shift links) ∙ take-map (slot_of shift) (end - 1) (hashes_of links) in
    let found : next ≡ latest slot (map (slot_of shift) front) = is_next ∙ ap (λ (k : ℕ). latest k (take (end - 1) slots)) (walk.at_last some) ∙ ap (latest slot) cut in
    record {
      walk = walk-step slot slots end next walk some is_next;
      falls = falls;
      same = ap (latest hash) (sym (take-take next (end - 1) (hashes_of links) (omega arith))) ∙ ap (λ (k : ℕ). latest hash (take k front)) found ∙ latest-coarse (slot_of shift) hash front;
    }

-- ---- what is read of a link

pub before-at : (links : List Link) (at : ℕ) (x : Link) → at < length links → x ≡ get_or links at x → get_or (befores_of links) at 0 ≡ x.before
before-at links at x within is = get_or-map (λ (l : Link). l.before) links at x 0 within ∙ ap (λ (l : Link). l.before) (sym is)

pub hash-at : (links : List Link) (at : ℕ) (x : Link) → at < length links → x ≡ get_or links at x → get_or (hashes_of links) at 0 ≡ x.hash
hash-at links at x within is = get_or-map (λ (l : Link). l.hash) links at x 0 within ∙ ap (λ (l : Link). l.hash) (sym is)

slot-at : (shift : ℕ) (links : List Link) (at : ℕ) (x : Link) → at < length links → x ≡ get_or links at x → get_or (slots_of shift links) at 0 ≡ slot_of shift x.hash
slot-at shift links at x within is = get_or-map (λ (l : Link). slot_of shift l.hash) links at x 0 within ∙ ap (λ (l : Link). slot_of shift l.hash) (sym is)

-- ---- where a walk begins

head-end : (hash first shift : ℕ) (links : List Link) (heads : List ℕ) (end : ℕ) → Chains first shift links heads → end ≡ get_or heads (slot_of shift hash) 0 - first → end ≡ latest (slot_of shift hash) (slots_of shift links)
head-end hash first shift links heads end kept is = is ∙ kept.are_heads (slot_of shift hash)

pub head-chain : (hash first shift : ℕ) (links : List Link) (heads : List ℕ) (end : ℕ) → Chains first shift links heads → end ≡ get_or heads (slot_of shift hash) 0 - first → ChainOf hash first links end
head-chain hash first shift links heads end kept is = record {
  shift = shift;
  are_links = kept.are_links;
  walk = subst (Walk (slot_of shift hash) (slots_of shift links)) (sym (head-end hash first shift links heads end kept is)) (walk-start (slot_of shift hash) (slots_of shift links));
}

pub head-same : (hash first shift : ℕ) (links : List Link) (heads : List ℕ) (end : ℕ) → Chains first shift links heads → end ≡ get_or heads (slot_of shift hash) 0 - first → latest hash (take end (hashes_of links)) ≡ latest hash (hashes_of links)
head-same hash first shift links heads end kept is =
    ap (λ (k : ℕ). latest hash (take k (hashes_of links))) (head-end hash first shift links heads end kept is ∙ ap (latest (slot_of shift hash)) (slots-hashes shift links))
    ∙ latest-coarse (slot_of shift) hash (hashes_of links)

-- the walk back from a link
pub behind-link : (first shift : ℕ) (links : List Link) (at next : ℕ) (x : Link) → AreLinked first shift links → at < length links → x ≡ get_or links at x → next ≡ x.before - first → Passed x.hash shift links (at + 1) next
behind-link first shift links at next x linked within is is_next =
    let e : at + 1 - 1 ≡ at = omega arith in
    passed x.hash first shift links (at + 1) next linked
    (record { within = omega (arith, within, length-slots shift links); at_last = λ (h : 0 < at + 1). ap (λ (n : ℕ). get_or (slots_of shift links) n 0) e ∙ slot-at shift links at x within is })
    (omega arith) (is_next ∙ ap (λ (n : ℕ). n - first) (sym (ap (λ (n : ℕ). get_or (befores_of links) n 0) e ∙ before-at links at x within is)))

-- ---- one item more is linked anew

pub record Linked (first shift : ℕ) (links new : List Link) (heads more : List ℕ) (at : ℕ) : Type 0 where
  pub within : at + 1 ≤ length new
  pub hashes : hashes_of new ≡ hashes_of links
  pub count : length more ≡ length heads
  pub linked : Chains first shift (take (at + 1) new) more

pub link-one : (first shift : ℕ) (links new : List Link) (heads more : List ℕ) (at : ℕ) (x : Link) → Chains first shift (take at links) heads → at < length links → first + length links < 2 ^ 64 → slot_of shift x.hash < length heads → x ≡ get_or links at x
    → new ≡ set links at (record { hash = x.hash; before = get_or heads (slot_of shift x.hash) 0 }) → more ≡ set heads (slot_of shift x.hash) (first + at + 1) → Linked first shift links new heads more at
link-one first shift links new heads more at x kept within fits room is is_new is_more =
    let y : Link = record { hash = x.hash; before = get_or heads (slot_of shift x.hash) 0 } in
    let cut : take (at + 1) new ≡ take at links ++ y ∷ [] = ap (take (at + 1)) is_new ∙ take_more_set links at y within in
    let len : length (take at links) ≡ at = length-take-le at links (omega arith) in
    record {
      within = omega (arith, ap (length {A = Link}) is_new, length-set links at y, within);
      hashes = ap hashes_of is_new ∙ map-set_same (λ (l : Link). l.hash) links at y x (ap (λ (l : Link). l.hash) is);
      count = ap (length {A = ℕ}) is_more ∙ length-set heads (slot_of shift x.hash) (first + at + 1);
      linked = subst (Chains first shift (take (at + 1) new)) (sym is_more) (chains-push first shift (take at links) (take (at + 1) new) heads x.hash (first + at + 1) kept room (omega (arith, len, within, fits)) cut (omega (arith, len)));
    }
