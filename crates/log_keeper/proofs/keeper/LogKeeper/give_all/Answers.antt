use Rattle.std.proofs.Common.{◌≡◌, ◌≤◌, ◌+◌, ◌-◌, ℕ, None, refl, sym, ◌∙◌, ap, subst, arith}
use Rattle.entry_log.specs.LogState.{stream_end}
use Rattle.store_core.specs.declared.store.Store.{Store}
use Rattle.store_core.specs.declared.fault.StoreFault.{StoreFault}
use Rattle.store_core.specs.Store.{store_end, store_standing, store_volume, store_down}
use Rattle.log_keeper.specs.Blocks.{Given}
use Rattle.log_keeper.specs.Keeping.{keeper_store, keeper_volume, keeper_given, given_to}
use Rattle.log_keeper.proofs.Parts.{block_some, block_within}
use Rattle.log_keeper.proofs.Giving.{keeps_same, starts_giving, gives_on, takes_more}
use Rattle.log_keeper.proofs.Rooms.{IsRefused, given_on, is_no_room, ok_is_no_err, refused_at, tells_no_room}
use Rattle.log_keeper.proofs.keeper.LogKeeper.give_all.Given.{Over}
use Rattle.log_keeper.proofs.keeper.LogKeeper.give_all.Goals as goal

pub loop-self-init : goal.loop-self-init
loop-self-init g c = record {
  rises = omega arith;
  within = c.requires.within;
  takes = c.requires.takes;
  standing = refl;
  position = refl;
  generation = omega arith;
  first = λ same. refl;
  up = λ more. absurd (omega (arith, more));
  down = refl;
  faults = refl;
  identity = refl;
  blocks = refl;
  keeps = λ tells checkpoint base whole keeps kept. (keeps, starts_giving g.V.Volume.seen g.V.Volume.moment g.V.Volume.left_at c.opened_stores_stand.ensures.stands c.opened_stores_stand.ensures.opened c.args.self.now checkpoint base whole keeps);
}

pub loop-self-preserved : goal.loop-self-preserved
loop-self-preserved g c =
    let at = c.loop-self in
    let taken = c.take_block-count.new.self in
    let new = c.give_block.new.self in
    let count : ℕ = c.take_block-count.result in
    let end : ℕ = stream_end (g.L.LogBytes.stream c.args.log.now) in
    let left : ℕ = end - keeper_given at.self in
    let more : 1 ≤ left = omega (arith, c.loop-self-test.true, c.stream_end.ensures) in
    let some : 1 ≤ count = subst (λ (n : ℕ). 1 ≤ n) (sym c.take_block-count.ensures.count) (block_some left more) in
    let within : count ≤ left = subst (λ (n : ℕ). n ≤ left) (sym c.take_block-count.ensures.count) (block_within left) in
    let given : keeper_given new ≡ keeper_given at.self + count = c.in-Ok.ensures.given ∙ ap (λ (n : ℕ). n + count) c.take_block-count.ensures.given in
    let rest : end - keeper_given new ≡ left - count = omega (arith, given) in
    record {
      rises = omega (arith, at.invariant.rises, given);
      within = omega (arith, given, within, at.invariant.within);
      takes = takes_more (keeper_store at.self) (keeper_store taken) (keeper_store new) left count (end - keeper_given new) c.take_block-count.ensures.store at.invariant.takes some within rest
          c.give_block.ensures.standing c.give_block.ensures.generation c.in-Ok.ensures.position;
      standing = c.give_block.ensures.standing ∙ ap (λ (s : Store g.row.V.Denot). store_standing s) c.take_block-count.ensures.store ∙ at.invariant.standing;
      position = omega (arith, at.invariant.position, c.in-Ok.ensures.position, given, ap (λ (s : Store g.row.V.Denot). (store_end s).position) c.take_block-count.ensures.store);
      generation = omega (arith, at.invariant.generation, c.give_block.ensures.generation, given, some, ap (λ (s : Store g.row.V.Denot). (store_end s).generation) c.take_block-count.ensures.store);
      first = λ same. absurd (omega (arith, same, given, some, at.invariant.rises));
      up = λ more. c.in-Ok.ensures.faults.1;
      down = c.in-Ok.ensures.faults.1 ∙ sym c.in-Ok.ensures.faults.0 ∙ ap (λ (s : Store g.row.V.Denot). store_down s) c.take_block-count.ensures.store ∙ at.invariant.down;
      faults = c.in-Ok.ensures.faults.2 ∙ ap (λ (s : Store g.row.V.Denot). g.V.Volume.faults (store_volume s)) c.take_block-count.ensures.store ∙ at.invariant.faults;
      identity = c.give_block.ensures.identity ∙ ap (λ (s : Store g.row.V.Denot). g.V.Volume.identity (store_volume s)) c.take_block-count.ensures.store ∙ at.invariant.identity;
      blocks = ap (λ (n : ℕ). given_to (keeper_store new) n) rest
          ∙ given_on (keeper_store at.self) (keeper_store taken) (keeper_store new) left count c.take_block-count.ensures.store more c.take_block-count.ensures.count
          (λ none. ok_is_no_err c.in-Ok.field-0 StoreFault.NoRoom (c.in-Ok.ensures.no_room.1 (c.in-Ok.ensures.faults.0, none))) c.in-Ok.ensures.end c.give_block.ensures.standing
          ∙ at.invariant.blocks;
      keeps = λ tells checkpoint base whole keeps kept.
          let so_far = at.invariant.keeps tells checkpoint base whole keeps kept in
          let keeps_taken = keeps_same g.V.Volume.seen g.V.Volume.moment g.V.Volume.left_at at.self taken checkpoint base whole c.take_block-count.ensures.store c.take_block-count.ensures.given so_far.0 in
          let next = c.take_block-count.ensures.next whole kept in (
            c.in-Ok.ensures.keeps tells checkpoint base whole keeps_taken next,
            gives_on g.V.Volume.seen g.V.Volume.moment g.V.Volume.left_at c.args.self.now at.self taken new checkpoint base count whole c.take_block-count.ensures.store c.take_block-count.ensures.given at.invariant.rises
                next.there so_far.1 (c.give_block.ensures.any_moment tells checkpoint base whole keeps_taken next),
          );
    }

pub returns-in-Err-clause-any_moment : goal.returns-in-Err-clause-any_moment
returns-in-Err-clause-any_moment g c tells checkpoint base whole keeps kept =
    let at = c.loop-self in
    let taken = c.take_block-count.new.self in
    let so_far = at.invariant.keeps tells checkpoint base whole keeps kept in
    let keeps_taken = keeps_same g.V.Volume.seen g.V.Volume.moment g.V.Volume.left_at at.self taken checkpoint base whole c.take_block-count.ensures.store c.take_block-count.ensures.given so_far.0 in
    let next = c.take_block-count.ensures.next whole kept in
    gives_on g.V.Volume.seen g.V.Volume.moment g.V.Volume.left_at c.args.self.now at.self taken c.give_block.new.self checkpoint base c.take_block-count.result whole c.take_block-count.ensures.store c.take_block-count.ensures.given at.invariant.rises
    next.there so_far.1 (c.give_block.ensures.any_moment tells checkpoint base whole keeps_taken next)

pub returns-in-Err-clause-still : goal.returns-in-Err-clause-still
returns-in-Err-clause-still g c tells checkpoint base whole keeps kept is =
    let at = c.loop-self in
    let taken = c.take_block-count.new.self in
    let so_far = at.invariant.keeps tells checkpoint base whole keeps kept in
    c.in-Err.ensures.still tells checkpoint base whole
    (keeps_same g.V.Volume.seen g.V.Volume.moment g.V.Volume.left_at at.self taken checkpoint base whole c.take_block-count.ensures.store c.take_block-count.ensures.given so_far.0) is

refused : (g : Over) (c : goal.In-Err g) → IsRefused g.V.Volume.faults c.in-Err.fault (keeper_store c.args.self.now) (keeper_store c.loop-self.self) (keeper_store c.take_block-count.new.self) (keeper_store c.give_block.new.self)
    (stream_end (g.L.LogBytes.stream c.args.log.now) - keeper_given c.args.self.now) (stream_end (g.L.LogBytes.stream c.args.log.now) - keeper_given c.loop-self.self) c.take_block-count.result
refused g c = record {
  blocks = c.loop-self.invariant.blocks;
  same = c.take_block-count.ensures.store;
  some = omega (arith, c.loop-self-test.true, c.stream_end.ensures);
  count_is = c.take_block-count.ensures.count;
  down = c.loop-self.invariant.down;
  before = c.loop-self.invariant.faults;
  counts = c.in-Err.ensures.faults;
  no_room = c.in-Err.ensures.no_room;
  end = c.in-Err.ensures.same_end;
}

-- where the log ends then, and how many bytes are left
ended : (g : Over) (c : goal.In-Err g) → g.V.Volume.faults (keeper_volume c.give_block.new.self) ≡ g.V.Volume.faults (keeper_volume c.args.self.now) → store_down (keeper_store c.args.self.now) ≡ None
    → given_to (keeper_store c.args.self.now) (stream_end (g.L.LogBytes.stream c.args.log.now) - keeper_given c.args.self.now)
    ≡ record { end = store_end (keeper_store c.give_block.new.self); left = stream_end (g.L.LogBytes.stream c.args.log.now) - keeper_given c.loop-self.self }
ended g c same up =
    refused_at g.V.Volume.faults c.in-Err.fault (keeper_store c.args.self.now) (keeper_store c.loop-self.self) (keeper_store c.take_block-count.new.self) (keeper_store c.give_block.new.self)
    (stream_end (g.L.LogBytes.stream c.args.log.now) - keeper_given c.args.self.now) (stream_end (g.L.LogBytes.stream c.args.log.now) - keeper_given c.loop-self.self) c.take_block-count.result (refused g c) up same

pub returns-in-Err-clause-end : goal.returns-in-Err-clause-end
returns-in-Err-clause-end g c same up = sym (ap (λ (given : Given). given.end) (ended g c same up))

pub returns-in-Err-clause-left : goal.returns-in-Err-clause-left
returns-in-Err-clause-left g c same up =
    omega (arith, ap (λ (given : Given). given.left) (ended g c same up), c.in-Err.ensures.kept, c.take_block-count.ensures.given, c.loop-self.invariant.within)

pub returns-in-Err-clause-no_room : goal.returns-in-Err-clause-no_room
returns-in-Err-clause-no_room g c =
    let old = keeper_store c.args.self.now in
    let at = keeper_store c.loop-self.self in
    let taken = keeper_store c.take_block-count.new.self in
    let new = keeper_store c.give_block.new.self in
    let end : ℕ = stream_end (g.L.LogBytes.stream c.args.log.now) in (
      tells_no_room g.V.Volume.faults c.in-Err.fault old at taken new (end - keeper_given c.args.self.now) (end - keeper_given c.loop-self.self) c.take_block-count.result (refused g c),
      λ given. is_no_room g.V.Volume.faults c.in-Err.fault old at taken new (end - keeper_given c.args.self.now) (end - keeper_given c.loop-self.self) c.take_block-count.result (refused g c) given.0 given.1,
    )

pub returns-clause-keeps : goal.returns-clause-keeps
returns-clause-keeps g c tells checkpoint base whole keeps kept = (c.loop-self.invariant.keeps tells checkpoint base whole keeps kept).0

pub returns-clause-any_moment : goal.returns-clause-any_moment
returns-clause-any_moment g c tells checkpoint base whole keeps kept = (c.loop-self.invariant.keeps tells checkpoint base whole keeps kept).1
