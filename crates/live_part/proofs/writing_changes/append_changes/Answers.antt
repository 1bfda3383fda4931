use Rattle.std.proofs.Common.{◌++◌, length, take}
use Rattle.std.specs.Int.{w32, to_le_bytes}
use Rattle.std.specs.List.{flat_map}
use Rattle.common_lemmas.proofs.Results.{OnErr-from}
use Rattle.version_store.specs.Answers.{told_change}
use Rattle.live_part.specs.LiveBytes.{held_bytes, standing}
use Rattle.live_part.specs.Written.{Extends, IsTold}
use Rattle.live_part.proofs.WriteLoops.{each_standing_on, standing_on, still_extends}
use Rattle.live_part.proofs.writing_changes.append_changes.Goals as goal

pub loop-place-preserved : goal.loop-place-preserved
loop-place-preserved c = record {
  items = standing_on c.args.versions.now c.loop-place.place (told_change c.change_at.result) c.args.into.now.items (to_le_bytes w32 (length (standing c.args.versions.now))) c.loop-place.into.items c.append_standing.new.into.items c.change_at.ensures
      c.loop-place.invariant.items c.in_ok-append_standing.ensures.ok;
  told = each_standing_on IsTold c.args.versions.now c.loop-place.place (told_change c.change_at.result) c.change_at.ensures c.loop-place.invariant.told c.in_ok-append_standing.ensures.told;
}

pub returns-in_err-append_standing-clause-err : goal.returns-in_err-append_standing-clause-err
returns-in_err-append_standing-clause-err c =
    OnErr-from c.from_residual-in_err-append_standing.result (Extends c.args.into.now.items c.append_standing.new.into.items)
    (still_extends c.args.into.now.items (to_le_bytes w32 (length (standing c.args.versions.now)) ++ flat_map held_bytes (standing (take c.loop-place.place c.args.versions.now))) c.loop-place.into.items c.append_standing.new.into.items c.loop-place.invariant.items c.in_err-append_standing.ensures.err)
