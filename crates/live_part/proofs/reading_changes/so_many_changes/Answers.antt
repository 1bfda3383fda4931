use Rattle.std.proofs.Common.{◌∷◌, ◌++◌, ◌+◌, ◌-◌, [], ap, ◌∙◌}
use Rattle.std.proofs.lemmas.Result.{err_from_is_err_and}
use Rattle.log_grammar.specs.EntryReading.{changed}
use Rattle.live_part.specs.LiveBytes.{number_of, standing}
use Rattle.live_part.specs.LiveReading.{held_at, parted, rising_at}
use Rattle.live_part.specs.Read.{read_change}
use Rattle.live_part.proofs.ReadLoops.{parts_begin, parts_done, parts_end, parts_go_on, with_parts}
use Rattle.live_part.proofs.reading_changes.so_many_changes.Goals as goal

pub loop-init : goal.loop-init
loop-init c =
    parts_begin number_of held_at c.new-changes.result.standing c.new-changes.result.undone 0 c.args.count c.args.bytes.now c.new-changes.ensures.standing c.new-changes.ensures.undone

pub returns-in_err-held : goal.returns-in_err-held
returns-in_err-held c =
    let p = err_from_is_err_and c.from_residual.result c.from_residual.ensures.1 in
    rw (p.1, p.2) (parts_end c.in_err-held.field-0.0 number_of held_at c.loop.changes.standing c.loop.changes.undone c.loop.last c.args.count c.loop.counter c.loop.rest.now (changed parted (rising_at number_of held_at 0 c.args.count) c.args.bytes.now) c.loop-test.true c.in_err-held.ensures.read c.loop.invariant)

pub loop-preserved : goal.loop-preserved
loop-preserved c =
    let held = read_change c.in_ok-held.held in
    let left = rising_at number_of held_at (number_of held) (c.args.count - (c.loop.counter + 1)) c.in_ok-held.after.now in
    ap (λ stand. with_parts stand c.hold.new.self.undone left) c.in_ok-hold.ensures.standing
    ∙ ap (λ gone. with_parts (c.loop.changes.standing ++ standing (held ∷ [])) gone left) c.in_ok-hold.ensures.undone
    ∙ parts_go_on number_of held_at c.loop.changes.standing c.loop.changes.undone c.loop.last c.args.count c.loop.counter c.loop.rest.now held c.in_ok-held.after.now (changed parted (rising_at number_of held_at 0 c.args.count) c.args.bytes.now) c.loop-test.true c.in_ok-held.ensures.read c.loop.invariant

pub returns : goal.returns
returns c = parts_done number_of held_at c.loop.changes.standing c.loop.changes.undone c.loop.last c.args.count c.loop.counter c.loop.rest.now (changed parted (rising_at number_of held_at 0 c.args.count) c.args.bytes.now) c.loop-test.false c.loop.invariant
