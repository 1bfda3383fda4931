-- The way that a scan goes, and what keeps it.
use Rattle.std.proofs.Common.{◌≡◌, ⊎_elim, ℕ, ◌+◌, ◌-◌, ◌≤◌, ◌<◌, Bool, true, false, nat_lt, if◌then◌else◌, Option, Some, None, List, [], ◌∷◌, ◌++◌, length, drop, refl, sym, ◌∙◌, ap, subst, arith, append_assoc, length-take, length-drop}
use Rattle.std.proofs.lemmas.Bool.{cases_lt}
use Rattle.std.proofs.lemmas.Bool.Decides.{nat_tests}
use Rattle.jet_volume.specs.declared.files.LogStart.{LogStart}
use Rattle.log_ring.specs.Blocks.{slot_start, address, slot_rest, open_payload, behind, next_generation, first_block, next_block, Leads, payloads}
use Rattle.log_ring.proofs.Opened.{opened}

-- a block with its place
abbrev pub Block : Type 0
Block = LogStart × List ℕ

-- the block is at the place, or the place has none and the next generation begins with it
pub data Found (first : ℕ) (log : List ℕ) (place : LogStart) (block : Block) : Type 0 where
  Here : block.0 ≡ place → open_payload log place ≡ Some block.1 → Found first log place block
  Turned : block.0 ≡ next_generation place → open_payload log place ≡ None → open_payload log (next_generation place) ≡ Some block.1 → place.generation + 1 < first + 8 → Found first log place block

module _ (first : ℕ) (log : List ℕ) (place : LogStart) where
  abbrev turned_block : Bool → Option Block
  turned_block b = if b then first_block (next_generation place) (open_payload log (next_generation place)) None else None

  near : place.generation + 1 < first + 8 → nat_lt (place.generation + 1) (first + 8) ≡ true
  near less = grind (arith, nat_tests)

  is_near : nat_lt (place.generation + 1) (first + 8) ≡ true → place.generation + 1 < first + 8
  is_near test = grind (arith, nat_tests)

  pub next_here : (payload : List ℕ) → open_payload log place ≡ Some payload → next_block first log place ≡ Some (place, payload)
  next_here payload is = ap (λ (o : Option (List ℕ)). first_block place o (turned_block (nat_lt (place.generation + 1) (first + 8)))) is

  not_here : open_payload log place ≡ None → next_block first log place ≡ turned_block (nat_lt (place.generation + 1) (first + 8))
  not_here is = ap (λ (o : Option (List ℕ)). first_block place o (turned_block (nat_lt (place.generation + 1) (first + 8)))) is

  pub next_turned : (payload : List ℕ) → open_payload log place ≡ None → place.generation + 1 < first + 8 → open_payload log (next_generation place) ≡ Some payload
      → next_block first log place ≡ Some (next_generation place, payload)
  next_turned payload none less is = not_here none ∙ ap turned_block (near less) ∙ ap (λ (o : Option (List ℕ)). first_block (next_generation place) o None) is

  none_either : (b : Bool) → nat_lt (place.generation + 1) (first + 8) ≡ b → (place.generation + 1 < first + 8 → open_payload log (next_generation place) ≡ None) → turned_block b ≡ None
  none_either true test turned = ap (λ (o : Option (List ℕ)). first_block (next_generation place) o None) (turned (is_near test))
  none_either false test turned = refl

  pub next_none : open_payload log place ≡ None → (place.generation + 1 < first + 8 → open_payload log (next_generation place) ≡ None) → next_block first log place ≡ None
  next_none here turned = not_here here ∙ none_either (nat_lt (place.generation + 1) (first + 8)) refl turned

  none_of : (o : Option (List ℕ)) (other : Option Block) → first_block place o other ≡ None → (o ≡ None) × (other ≡ None)
  none_of None other is = (refl, is)
  none_of (Some payload) other is = cc

  pub none_here : next_block first log place ≡ None → open_payload log place ≡ None
  none_here is = (none_of (open_payload log place) (turned_block (nat_lt (place.generation + 1) (first + 8))) is).0

  turned_none : (o : Option (List ℕ)) → first_block (next_generation place) o None ≡ None → o ≡ None
  turned_none None is = refl
  turned_none (Some payload) is = cc

  pub none_turned : next_block first log place ≡ None → place.generation + 1 < first + 8 → open_payload log (next_generation place) ≡ None
  none_turned is less =
      turned_none (open_payload log (next_generation place))
      (sym (ap turned_block (near less)) ∙ (none_of (open_payload log place) (turned_block (nat_lt (place.generation + 1) (first + 8))) is).1)

  found_turned : (b : Bool) (block : Block) (o : Option (List ℕ)) → open_payload log place ≡ None → nat_lt (place.generation + 1) (first + 8) ≡ b → open_payload log (next_generation place) ≡ o
      → (if b then first_block (next_generation place) o None else None) ≡ Some block → Found first log place block
  found_turned false block o none test opens is = cc
  found_turned true block None none test opens is = cc
  found_turned true block (Some payload) none test opens is =
      let same : (next_generation place, payload) ≡ block = some_inj is in
      Turned (ap (λ (b : Block). b.0) (sym same)) none (opens ∙ ap (λ (b : Block). Some b.1) same) (is_near test)
    where
      some_inj : {x y : Block} → Some x ≡ Some y → x ≡ y
      some_inj e = cc

  found_by : (block : Block) (o : Option (List ℕ)) → open_payload log place ≡ o → first_block place o (turned_block (nat_lt (place.generation + 1) (first + 8))) ≡ Some block → Found first log place block
  found_by block None opens is = found_turned (nat_lt (place.generation + 1) (first + 8)) block (open_payload log (next_generation place)) opens refl refl is
  found_by block (Some payload) opens is =
      let same : (place, payload) ≡ block = some_inj is in
      Here (ap (λ (b : Block). b.0) (sym same)) (opens ∙ ap (λ (b : Block). Some b.1) same)
    where
      some_inj : {x y : Block} → Some x ≡ Some y → x ≡ y
      some_inj e = cc

  pub found : (block : Block) → next_block first log place ≡ Some block → Found first log place block
  found block is = found_by block (open_payload log place) refl is

-- how far a scan has come
pub record Bounds (first : ℕ) (log : List ℕ) (place end : LogStart) : Type 0 where
  pub generation : place.generation ≤ end.generation
  pub offset : place.generation ≡ end.generation → place.offset ≤ end.offset
  pub file : place.generation < end.generation → slot_start end.generation < length log
  pub near : place.generation < first + 8 → end.generation < first + 8

-- an open block lies in the file
pub open_in_file : (log : List ℕ) (place : LogStart) (payload : List ℕ) → open_payload log place ≡ Some payload → address place + 21 + length payload ≤ length log
open_in_file log place payload is =
    let o = opened place (slot_rest log place) payload is in
    omega (arith, o.whole, length-take (1048576 - place.offset) (drop (address place) log), length-drop (address place) log)

pub leads_bounds : (first : ℕ) (log : List ℕ) (place : LogStart) (blocks : List Block) (end : LogStart) → Leads first log place blocks end → Bounds first log place end
leads_bounds first log place [] end is =
    subst (Bounds first log place) is (record { generation = omega arith; offset = λ e. omega arith; file = λ less. absurd (omega (arith, less)); near = λ less. less })
leads_bounds first log place (block ∷ blocks) end leads =
    let rest = leads_bounds first log (behind block.0 (length block.1)) blocks end leads.1 in
    from_found (found first log place block leads.0) rest
  where
    from_found : Found first log place block → Bounds first log (behind block.0 (length block.1)) end → Bounds first log place end
    from_found (Here at is) rest =
        let g : block.0.generation ≡ place.generation = ap (λ (p : LogStart). p.generation) at in
        let o : block.0.offset ≡ place.offset = ap (λ (p : LogStart). p.offset) at in
        record {
          generation = omega (arith, g, rest.generation);
          offset = λ e. omega (arith, o, rest.offset (g ∙ e));
          file = λ less. rest.file (omega (arith, g, less));
          near = λ less. rest.near (omega (arith, g, less));
        }
    from_found (Turned at none is less) rest =
        let g : block.0.generation ≡ place.generation + 1 = ap (λ (p : LogStart). p.generation) at in
        let in_file = open_in_file log (next_generation place) block.1 is in
        record {
          generation = omega (arith, g, rest.generation);
          offset = λ e. absurd (omega (arith, g, rest.generation, e));
          file = λ below. ⊎_elim
              (λ (more : place.generation + 1 < end.generation). rest.file (omega (arith, g, more)))
              (λ (last : end.generation ≤ place.generation + 1).
              let e : end.generation ≡ place.generation + 1 = omega (arith, g, last, rest.generation) in
              subst (λ (n : ℕ). slot_start n < length log) (sym e) (omega (arith, in_file)))
              (cases_lt (place.generation + 1) end.generation);
          near = λ ok. rest.near (omega (arith, g, less));
        }

-- the blocks on the way to an end stay as they are
pub record Keeps (first : ℕ) (old new : List ℕ) (end : LogStart) : Type 0 where
  pub below : (q : LogStart) → first ≤ q.generation → q.generation < end.generation → open_payload new q ≡ open_payload old q
  pub within : (q : LogStart) (payload : List ℕ) → q.generation ≡ end.generation → q.offset + 21 + length payload ≤ end.offset → open_payload old q ≡ Some payload → open_payload new q ≡ Some payload

pub leads_keep : (first : ℕ) (old new : List ℕ) (place : LogStart) (blocks tail : List Block) (end last : LogStart) → first ≤ place.generation → Leads first old place blocks end
    → Keeps first old new end → Leads first new end tail last → Leads first new place (blocks ++ tail) last
leads_keep first old new place [] tail end last from is keeps goes = subst (λ (p : LogStart). Leads first new p tail last) (sym is) goes
leads_keep first old new place (block ∷ blocks) tail end last from leads keeps goes =
    let rest = leads_bounds first old (behind block.0 (length block.1)) blocks end leads.1 in (
      still (found first old place block leads.0) rest,
      leads_keep first old new (behind block.0 (length block.1)) blocks tail end last (up (found first old place block leads.0)) leads.1 keeps goes,
    )
  where
    up : Found first old place block → first ≤ block.0.generation
    up (Here at is) = omega (arith, ap (λ (p : LogStart). p.generation) at, from)
    up (Turned at none is less) = omega (arith, ap (λ (p : LogStart). p.generation) at, from)

    stays : (q : LogStart) → first ≤ q.generation → Bounds first old (behind q (length block.1)) end → open_payload old q ≡ Some block.1 → open_payload new q ≡ Some block.1
    stays q above rest is = ⊎_elim
        (λ (less : q.generation < end.generation). keeps.below q above less ∙ is)
        (λ (same : end.generation ≤ q.generation).
        let e : q.generation ≡ end.generation = omega (arith, same, rest.generation) in
        keeps.within q block.1 e (rest.offset e) is)
        (cases_lt q.generation end.generation)

    still : Found first old place block → Bounds first old (behind block.0 (length block.1)) end → next_block first new place ≡ Some block
    still (Here at is) rest =
        next_here first new place block.1 (stays place from (subst (λ (p : LogStart). Bounds first old (behind p (length block.1)) end) at rest) is)
        ∙ ap (λ (p : LogStart). Some (p, block.1)) (sym at)
    still (Turned at none is less) rest =
        let there = subst (λ (p : LogStart). Bounds first old (behind p (length block.1)) end) at rest in
        next_turned first new place block.1 (keeps.below place from (omega (arith, there.generation)) ∙ none) less
        (stays (next_generation place) (omega (arith, from)) there is)
        ∙ ap (λ (p : LogStart). Some (p, block.1)) (sym at)

pub payloads-append : (a b : List Block) → payloads (a ++ b) ≡ payloads a ++ payloads b
payloads-append [] b = refl
payloads-append (block ∷ a) b = ap (λ (l : List ℕ). block.1 ++ l) (payloads-append a b) ∙ sym (append_assoc block.1 (payloads a) (payloads b))
