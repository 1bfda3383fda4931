use Rattle.std.proofs.Common.{◌≡◌, ◌≤◌, ◌-◌, ℕ, List, refl, sym, ◌∙◌, subst, ap, arith}
use Rattle.entry_log.specs.LogState.{IsKeptOf, KeptStream, stream_end}
use Rattle.log_grammar.specs.EntryStreams.{stream_bytes}
use Rattle.store_core.specs.declared.fault.StoreFault.TheVariants.{Down, NoRoom, VolumeFault}
use Rattle.store_core.specs.Store.{store_volume}
use Rattle.log_keeper.specs.Keeping.{given_to, keeper_given, keeper_store, TakesBytes}
use Rattle.kept_engine.specs.Keeping.{kept_depth, kept_end, kept_given, kept_span, kept_store}
use Rattle.kept_engine.specs.Spans.{given_behind, is_due_after, span_after, span_of, with_given}
use Rattle.kept_engine.proofs.Clashes.{failed, failed_kept, fault_goes, told_down, told_fault, told_no_room}
use Rattle.kept_engine.proofs.Spans.{bounds_given, due_all, due_without_room, given_span, span_all, span_some, takes_left}
use Rattle.kept_engine.proofs.Surviving.{fed_keeps, giving_leaves, keeps_on_after}
use Rattle.kept_engine.proofs.Telling.{flushes_after, flushes_failed}
use Rattle.kept_engine.proofs.kept.KeptEngine.keep.Given.{Over}
use Rattle.kept_engine.proofs.kept.KeptEngine.keep.Goals as goal

pub give_all-requires-clause-kept : goal.give_all-requires-clause-kept
give_all-requires-clause-kept g c = subst (λ (s : KeptStream). s.from ≤ kept_given c.args.self.now) (sym c.log.ensures) c.requires.from

pub give_all-requires-clause-within : goal.give_all-requires-clause-within
give_all-requires-clause-within g c = subst (λ (s : KeptStream). kept_given c.args.self.now ≤ stream_end s) (sym c.log.ensures) c.requires.within

pub give_all-requires-clause-takes : goal.give_all-requires-clause-takes
give_all-requires-clause-takes g c =
    let old = c.args.self.now in
    subst (λ (s : KeptStream). TakesBytes (stream_end s - kept_given old) (kept_store old)) (sym c.log.ensures)
    (takes_left (kept_store old) (kept_given old) (kept_end old) c.requires.bounds c.requires.within c.stream_end-end.ensures.bound)

pub follow_flush-requires-clause-ready : goal.follow_flush-requires-clause-ready
follow_flush-requires-clause-ready g c = record {
  holds = c.requires.holds;
  room = c.requires.room;
  from = omega (arith, c.requires.from, c.give_all.ensures.rises);
  within = omega (arith, c.in-Ok.ensures.all, ap stream_end c.log.ensures);
  up = c.in-Ok.ensures.faults.1 ∙ c.requires.up;
  bounds = bounds_given (kept_store c.args.self.now) (keeper_store c.give_all.new.self) (kept_given c.args.self.now) (keeper_given c.give_all.new.self) c.requires.bounds c.give_all.ensures.standing c.give_all.ensures.rises c.give_all.ensures.position c.give_all.ensures.generation;
}

pub follow_flush-requires-clause-all : goal.follow_flush-requires-clause-all
follow_flush-requires-clause-all g c = c.in-Ok.ensures.all ∙ ap stream_end c.log.ensures

pub replace_flush-requires-clause-ready : goal.replace_flush-requires-clause-ready
replace_flush-requires-clause-ready g c = record {
  holds = c.requires.holds;
  room = c.requires.room;
  from = omega (arith, c.requires.from, c.give_all.ensures.rises);
  within = omega (arith, c.in-Err-NoRoom.ensures.some, ap stream_end c.log.ensures);
  up = (told_no_room g.V.Volume.faults _ c.give_all.result (kept_store c.args.self.now) (keeper_store c.give_all.new.self) (c.in-Err-NoRoom.is ∙ ap failed c.in-Err-NoRoom.field-0-is) c.give_all.ensures.faults).1;
  bounds = bounds_given (kept_store c.args.self.now) (keeper_store c.give_all.new.self) (kept_given c.args.self.now) (keeper_given c.give_all.new.self) c.requires.bounds c.give_all.ensures.standing c.give_all.ensures.rises c.give_all.ensures.position c.give_all.ensures.generation;
}

pub replace_flush-requires-clause-some : goal.replace_flush-requires-clause-some
replace_flush-requires-clause-some g c = omega (arith, c.in-Err-NoRoom.ensures.some, ap stream_end c.log.ensures)

pub returns-in-Ok-clause-keeps : goal.returns-in-Ok-clause-keeps
returns-in-Ok-clause-keeps g c tells opening entries keeps =
    let seen = g.V.Volume.seen in
    let moment = g.V.Volume.moment in
    let left_at = g.V.Volume.left_at in
    let laws = c.what_is_kept_survives.ensures in
    let old = c.args.self.now in
    let whole : List ℕ = stream_bytes entries in
    let kept = subst (λ (s : KeptStream). IsKeptOf whole s) (sym c.log.ensures) keeps.logged.kept in
    keeps_on_after seen moment left_at laws opening entries old _ c.follow_flush.new.self c.follow_flush.result c.give_all.ensures.rises
    (giving_leaves seen moment left_at laws opening entries old keeps _ _ (c.give_all.ensures.any_moment tells keeps.checkpoint keeps.base whole keeps.keeps kept))
    (c.follow_flush.ensures.keeps tells opening entries (fed_keeps seen moment left_at opening entries old _ keeps refl (c.in-Ok.ensures.keeps tells keeps.checkpoint keeps.base whole keeps.keeps kept)))

pub returns-in-Err-NoRoom-clause-keeps : goal.returns-in-Err-NoRoom-clause-keeps
returns-in-Err-NoRoom-clause-keeps g c tells opening entries keeps =
    let seen = g.V.Volume.seen in
    let moment = g.V.Volume.moment in
    let left_at = g.V.Volume.left_at in
    let laws = c.what_is_kept_survives.ensures in
    let old = c.args.self.now in
    let whole : List ℕ = stream_bytes entries in
    let kept = subst (λ (s : KeptStream). IsKeptOf whole s) (sym c.log.ensures) keeps.logged.kept in
    keeps_on_after seen moment left_at laws opening entries old _ c.replace_flush.new.self c.replace_flush.result c.give_all.ensures.rises
    (giving_leaves seen moment left_at laws opening entries old keeps _ _ (c.give_all.ensures.any_moment tells keeps.checkpoint keeps.base whole keeps.keeps kept))
    (c.replace_flush.ensures.keeps tells opening entries (fed_keeps seen moment left_at opening entries old _ keeps refl
    (c.give_all.ensures.still tells keeps.checkpoint keeps.base whole keeps.keeps kept (c.in-Err-NoRoom.is ∙ ap failed c.in-Err-NoRoom.field-0-is))))

pub returns-in-Err-VolumeFault-clause-keeps : goal.returns-in-Err-VolumeFault-clause-keeps
returns-in-Err-VolumeFault-clause-keeps g c tells opening entries keeps =
    let old = c.args.self.now in
    let whole : List ℕ = stream_bytes entries in
    let kept = subst (λ (s : KeptStream). IsKeptOf whole s) (sym c.log.ensures) keeps.logged.kept in
    record {
      any_moment = giving_leaves g.V.Volume.seen g.V.Volume.moment g.V.Volume.left_at c.what_is_kept_survives.ensures opening entries old keeps _ _
          (c.give_all.ensures.any_moment tells keeps.checkpoint keeps.base whole keeps.keeps kept);
      kept = λ is_kept. absurd (failed_kept (sym c.flush_failed.ensures.flush ∙ is_kept));
      goes = λ goes. absurd (fault_goes (sym c.flush_failed.ensures.after ∙ goes));
    }

pub returns-in-Err-VolumeFault-clause-ready : goal.returns-in-Err-VolumeFault-clause-ready
returns-in-Err-VolumeFault-clause-ready g c goes = absurd (fault_goes (sym c.flush_failed.ensures.after ∙ goes))

-- where the log ends once all bytes that found room are given
ended : (g : Over) (c : goal.After-follow_flush g) → span_of (keeper_store c.give_all.new.self) ≡ with_given (kept_span c.args.self.now) (kept_end c.args.self.now - kept_given c.args.self.now)
ended g c =
    let old = c.args.self.now in
    given_span (kept_store old) (keeper_store c.give_all.new.self) (kept_end old - kept_given old) c.give_all.ensures.standing
    (c.give_all.ensures.end c.in-Ok.ensures.faults.2 c.requires.up ∙ ap (λ (s : KeptStream). (given_to (kept_store old) (stream_end s - kept_given old)).end) c.log.ensures)

none_left : (g : Over) (c : goal.After-follow_flush g) → (given_behind (kept_span c.args.self.now) (kept_end c.args.self.now - kept_given c.args.self.now)).left ≡ 0
none_left g c =
    let old = c.args.self.now in
    omega (
      arith,
      c.give_all.ensures.left c.in-Ok.ensures.faults.2 c.requires.up,
      c.in-Ok.ensures.all,
      ap (λ (s : KeptStream). (given_to (kept_store old) (stream_end s - kept_given old)).left) c.log.ensures,
    )

pub returns-in-Ok-clause-told : goal.returns-in-Ok-clause-told
returns-in-Ok-clause-told g c =
    let old = c.args.self.now in
    let count : ℕ = kept_end old - kept_given old in
    let span = span_of (keeper_store c.give_all.new.self) in
    flushes_after g.V.Volume.faults g.V.Volume.identity _ _ _ _ old _ c.follow_flush.new.self c.follow_flush.result refl refl c.in-Ok.ensures.faults.2 c.give_all.ensures.identity
    (due_all (kept_depth old) (kept_span old) span count (ended g c) (none_left g c)) (span_all (kept_depth old) (kept_span old) span count (ended g c) (none_left g c)) c.follow_flush.ensures.told

counted : (g : Over) (c : goal.After-replace_flush g) → g.V.Volume.faults (store_volume (keeper_store c.give_all.new.self)) ≡ g.V.Volume.faults (store_volume (kept_store c.args.self.now))
counted g c = (told_no_room g.V.Volume.faults _ c.give_all.result (kept_store c.args.self.now) (keeper_store c.give_all.new.self) (c.in-Err-NoRoom.is ∙ ap failed c.in-Err-NoRoom.field-0-is) c.give_all.ensures.faults).2

ended_before : (g : Over) (c : goal.After-replace_flush g) → span_of (keeper_store c.give_all.new.self) ≡ with_given (kept_span c.args.self.now) (kept_end c.args.self.now - kept_given c.args.self.now)
ended_before g c =
    let old = c.args.self.now in
    given_span (kept_store old) (keeper_store c.give_all.new.self) (kept_end old - kept_given old) c.give_all.ensures.standing
    (c.give_all.ensures.end (counted g c) c.requires.up ∙ ap (λ (s : KeptStream). (given_to (kept_store old) (stream_end s - kept_given old)).end) c.log.ensures)

some_left : (g : Over) (c : goal.After-replace_flush g) → 1 ≤ (given_behind (kept_span c.args.self.now) (kept_end c.args.self.now - kept_given c.args.self.now)).left
some_left g c =
    let old = c.args.self.now in
    omega (
      arith,
      c.give_all.ensures.left (counted g c) c.requires.up,
      c.in-Err-NoRoom.ensures.some,
      ap (λ (s : KeptStream). (given_to (kept_store old) (stream_end s - kept_given old)).left) c.log.ensures,
    )

pub returns-in-Err-NoRoom-clause-told : goal.returns-in-Err-NoRoom-clause-told
returns-in-Err-NoRoom-clause-told g c =
    let old = c.args.self.now in
    let count : ℕ = kept_end old - kept_given old in
    let given = given_behind (kept_span old) count in
    flushes_after g.V.Volume.faults g.V.Volume.identity _ _ _ _ old _ c.replace_flush.new.self c.replace_flush.result refl refl (counted g c) c.give_all.ensures.identity
    (sym (due_without_room (kept_depth old) (with_given (kept_span old) count) given.left (some_left g c)))
    (span_some (kept_depth old) (kept_span old) (span_of (keeper_store c.give_all.new.self)) count (ended_before g c) (some_left g c)) c.replace_flush.ensures.told

pub returns-in-Err-VolumeFault-clause-told : goal.returns-in-Err-VolumeFault-clause-told
returns-in-Err-VolumeFault-clause-told g c =
    let old = c.args.self.now in
    let count : ℕ = kept_end old - kept_given old in
    flushes_failed g.V.Volume.faults g.V.Volume.identity (is_due_after (kept_depth old) (kept_span old) count) (span_after (kept_depth old) (kept_span old) count) old _ c.flush_failed.result
    c.flush_failed.ensures.flush c.flush_failed.ensures.after refl refl (omega (arith, c.in-Err-VolumeFault.ensures.some, ap stream_end c.log.ensures)) (record {
      fault = λ fault. (told_fault g.V.Volume.faults _ c.give_all.result (kept_store old) (keeper_store c.give_all.new.self) (c.in-Err-VolumeFault.is ∙ ap failed c.in-Err-VolumeFault.field-0-is) c.give_all.ensures.faults).1;
      sound = λ sound. absurd (sound refl);
      same = c.give_all.ensures.identity;
    })

never : {A : Type 0} (g : Over) (c : goal.After-flush_failed-in-Err-Down g) → A
never g c = absurd (told_down g.V.Volume.faults _ c.give_all.result (kept_store c.args.self.now) (keeper_store c.give_all.new.self) c.in-Err-Down.field-0-0 (c.in-Err-Down.is ∙ ap failed c.in-Err-Down.field-0-is) c.requires.up c.give_all.ensures.faults)

pub returns-in-Err-Down-clause-keeps : goal.returns-in-Err-Down-clause-keeps
returns-in-Err-Down-clause-keeps g c tells opening entries keeps = never g c

pub returns-in-Err-Down-clause-ready : goal.returns-in-Err-Down-clause-ready
returns-in-Err-Down-clause-ready g c goes = never g c

pub returns-in-Err-Down-clause-told : goal.returns-in-Err-Down-clause-told
returns-in-Err-Down-clause-told g c = never g c
