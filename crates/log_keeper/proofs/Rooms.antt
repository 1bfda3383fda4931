-- Where the log of a store ends once a block more is given, and what it tells that one is refused.
use Rattle.std.proofs.Common.{◌≡◌, ◌↔◌, ℕ, ◌-◌, ◌≤◌, min, Option, Some, None, Result, Ok, Err, refl, sym, ◌∙◌, ap, subst, arith}
use Rattle.jet_volume.specs.declared.files.LogStart.{LogStart}
use Rattle.log_ring.specs.Blocks.{behind}
use Rattle.log_ring.specs.Gates.{place_for}
use Rattle.checkpoint.specs.declared.image.Standing.{Standing}
use Rattle.store_core.specs.declared.store.Store.{Store}
use Rattle.store_core.specs.declared.fault.StoreFault.{StoreFault}
use Rattle.store_core.specs.declared.fault.StoreFault.TheVariants.{Down, NoRoom, VolumeFault}
use Rattle.store_core.specs.Store.{store_volume, store_end, store_standing, store_down, CountsStoreFault}
use Rattle.log_keeper.specs.Blocks.{Given, given_in}
use Rattle.log_keeper.specs.Keeping.{given_to}
use Rattle.log_keeper.proofs.Blocks.{given_block, given_none}

-- where the next block of so many bytes goes
abbrev pub next_place : {V : Type 0} → Store V → ℕ → Option LogStart
next_place store count = place_for (store_standing store).start.generation (store_end store) count

record HasPlace (place : Option LogStart) : Type 0 where
  at : LogStart
  is : place ≡ Some at

has_place : (place : Option LogStart) → (place ≡ None → ⊥) → HasPlace place
has_place None some = absurd (some refl)
has_place (Some at) some = record { at = at; is = refl }

-- once a block is given the rest ends where it would have ended before
pub given_on : {V : Type 0} (at taken new : Store V) (left count : ℕ) → taken ≡ at → 1 ≤ left → count ≡ min 65500 left → (next_place taken count ≡ None → ⊥)
    → ((place : LogStart) → next_place taken count ≡ Some place → store_end new ≡ behind place count) → store_standing new ≡ store_standing taken
    → given_to new (left - count) ≡ given_to at left
given_on {V} at taken new left count same some is there ends standing =
    let found = has_place (next_place taken count) there in
    let place : LogStart = found.at in
    let generation : ℕ = (store_standing taken).start.generation in
    ap (λ (s : Standing). given_in s.start.generation (store_end new) (left - count)) standing
    ∙ ap (λ (e : LogStart). given_in generation e (left - count)) (ends place found.is)
    ∙ ap (λ (n : ℕ). given_in generation (behind place n) (left - n)) is
    ∙ sym (given_block generation (store_end taken) place left some (ap (λ (n : ℕ). next_place taken n) (sym is) ∙ found.is))
    ∙ ap (λ (s : Store V). given_to s left) same

-- where the next block finds no room all that is left does not
pub given_stops : {V : Type 0} (at taken : Store V) (left count : ℕ) → taken ≡ at → 1 ≤ left → count ≡ min 65500 left → next_place taken count ≡ None
    → given_to at left ≡ record { end = store_end taken; left = left }
given_stops {V} at taken left count same some is none =
    ap (λ (s : Store V). given_to s left) (sym same)
    ∙ given_none (store_standing taken).start.generation (store_end taken) left some (ap (λ (n : ℕ). next_place taken n) (sym is) ∙ none)

pub ok_is_no_err : (value : Unit {0}) (fault : StoreFault) → Ok value ≡ Err fault → ⊥
ok_is_no_err value fault is = cc

some_is_not_none : (count : ℕ) (down : Option ℕ) → down ≡ Some count → down ≡ None → ⊥
some_is_not_none count down is none = cc

-- a store that is up, of a volume with no new fault, refuses a block for want of room alone
pub no_room_alone : {V : Type 0} (faults : V → ℕ) (fault : StoreFault) (old new : Store V) → CountsStoreFault faults (Err fault) old new → store_down old ≡ None
    → faults (store_volume new) ≡ faults (store_volume old) → fault ≡ NoRoom
no_room_alone faults (Down count) old new counts up same = absurd (some_is_not_none count (store_down old) counts.0 up)
no_room_alone faults NoRoom old new counts up same = refl
no_room_alone faults VolumeFault old new counts up same = absurd (omega (arith, counts.1, same))

pub no_room_is_no_fault : {V : Type 0} (faults : V → ℕ) (result : Result (Unit {0}) StoreFault) (old new : Store V) → CountsStoreFault faults result old new → result ≡ Err NoRoom
    → faults (store_volume new) ≡ faults (store_volume old)
no_room_is_no_fault faults result old new counts is = (subst (λ (r : Result (Unit {0}) StoreFault). CountsStoreFault faults r old new) is counts).2

abbrev pub refusal : StoreFault → Result (Unit {0}) StoreFault
refusal fault = Err fault

-- A block was refused: the store from before the first block, at the block, once its bytes were taken, and after it.
pub record IsRefused {V : Type 0} (faults : V → ℕ) (fault : StoreFault) (old at taken new : Store V) (total left count : ℕ) : Type 0 where
  pub blocks : given_to at left ≡ given_to old total
  pub same : taken ≡ at
  pub some : 1 ≤ left
  pub count_is : count ≡ min 65500 left
  pub down : store_down at ≡ store_down old
  pub before : faults (store_volume at) ≡ faults (store_volume old)
  pub counts : CountsStoreFault faults (Err fault) taken new
  pub no_room : (refusal fault ≡ refusal NoRoom) ↔ ((store_down taken ≡ None) × (next_place taken count ≡ None))
  pub end : store_end new ≡ store_end taken

abbrev given_end : LogStart → ℕ → Given
given_end end left = record { end = end; left = left }

module _ {V : Type 0} (faults : V → ℕ) (fault : StoreFault) (old at taken new : Store V) (total left count : ℕ) (refused : IsRefused faults fault old at taken new total left count) where
  abbrev IsNoFault : Type 0
  IsNoFault = faults (store_volume new) ≡ faults (store_volume old)

  taken_up : store_down old ≡ None → store_down taken ≡ None
  taken_up up = ap (λ (s : Store V). store_down s) refused.same ∙ refused.down ∙ up

  no_more_faults : IsNoFault → faults (store_volume new) ≡ faults (store_volume taken)
  no_more_faults same = same ∙ sym refused.before ∙ sym (ap (λ (s : Store V). faults (store_volume s)) refused.same)

  pub is_no_room : store_down old ≡ None → IsNoFault → refusal fault ≡ refusal NoRoom
  is_no_room up same = ap refusal (no_room_alone faults fault taken new refused.counts (taken_up up) (no_more_faults same))

  stops_at : next_place taken count ≡ None → given_to old total ≡ record { end = store_end new; left = left }
  stops_at none = sym refused.blocks ∙ given_stops at taken left count refused.same refused.some refused.count_is none ∙ ap (λ (e : LogStart). given_end e left) (sym refused.end)

  pub refused_at : store_down old ≡ None → IsNoFault → given_to old total ≡ record { end = store_end new; left = left }
  refused_at up same = stops_at (refused.no_room.0 (is_no_room up same)).1

  pub tells_no_room : refusal fault ≡ refusal NoRoom → (store_down old ≡ None) × IsNoFault × (1 ≤ (given_to old total).left)
  tells_no_room is = (
    sym (ap (λ (s : Store V). store_down s) refused.same ∙ refused.down) ∙ (refused.no_room.0 is).0,
    no_room_is_no_fault faults (Err fault) taken new refused.counts is ∙ ap (λ (s : Store V). faults (store_volume s)) refused.same ∙ refused.before,
    subst (λ (g : Given). 1 ≤ g.left) (sym (stops_at (refused.no_room.0 is).1)) refused.some,
  )
