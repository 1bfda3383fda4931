use Rattle.std.proofs.Common.{◌≡◌, ◌⊎◌, inl, inr, ⊎_elim, true, Result, Ok, Err, List, ◌++◌, sym, ◌∙◌, subst}
use Rattle.std.specs.Prelude.{is_ok, OnOk}
use Rattle.jet_volume.specs.Memory.{mem_seen, mem_moment, mem_left_at}
use Rattle.jet_volume.specs.Moments.{leaves_now}
use Rattle.log_ring.specs.Blocks.{Scans}
use Rattle.log_ring.specs.Writes.{ChangesLog}
use Rattle.log_ring.specs.Appends.{Gives, GivesBeforeOrAfter}
use Rattle.log_ring.specs.Ring.{ring_end}
use Rattle.tests_ring.proofs.reopening.reopen.Goals as goal

-- what a success says
on_ok_at : {T E : Type 0} (r : Result T E) (P : Type 0) → is_ok r ≡ true → OnOk r P → P
on_ok_at (Ok x) P is p = p
on_ok_at (Err e) P is p = cc

pub returns-in-Ok-open-clause-kept : goal.returns-in-Ok-open-clause-kept
returns-in-Ok-open-clause-kept c settled =
    let from = c.args.from in
    let before = c.in-Ok.before.items in
    let bytes = c.args.bytes.now in
    let log = (mem_seen c.in-Ok-crash.left).log in
    let moments = c.append.ensures.any_moment tt from before c.requires.first (c.in-Ok.ensures.ready settled) in
    let one = leaves_now mem_moment mem_left_at c.open.new.volume c.append.new.volume (ChangesLog mem_moment mem_left_at c.open.new.volume (λ old new. GivesBeforeOrAfter from before bytes new)) moments
    (mem_seen c.in-Ok-crash.left) c.in-Ok-crash.ensures.image in
    ⊎_elim
    (λ (gives : Gives from before log). inl (c.scans_once.ensures.stream log from c.in-Ok-open.after.items before (ring_end c.in-Ok-open.again) gives.0 c.in-Ok-open.ensures.stream gives.1))
    (λ (gives : Gives from (before ++ bytes) log). inr (c.scans_once.ensures.stream log from c.in-Ok-open.after.items (before ++ bytes) (ring_end c.in-Ok-open.again) gives.0 c.in-Ok-open.ensures.stream gives.1))
    one.log

pub returns-in-Ok-open-clause-acknowledged : goal.returns-in-Ok-open-clause-acknowledged
returns-in-Ok-open-clause-acknowledged c settled told =
    let from = c.args.from in
    let before = c.in-Ok.before.items in
    let bytes = c.args.bytes.now in
    let log = (mem_seen c.in-Ok-crash.left).log in
    let ring = on_ok_at c.append.result _ (sym c.is_ok-acknowledged.ensures.value ∙ told) (c.append.ensures.appended tt from before c.requires.first (c.in-Ok.ensures.ready settled)) in
    let same : log ≡ ring.log = ring.is.left (mem_seen c.in-Ok-crash.left) c.in-Ok-crash.ensures.image in
    c.scans_once.ensures.stream log from c.in-Ok-open.after.items (before ++ bytes) (ring_end c.in-Ok-open.again) (ring_end c.append.new.self) c.in-Ok-open.ensures.stream
    (subst (λ (l : List _). Scans l from (before ++ bytes) (ring_end c.append.new.self)) (sym same) ring.ready.scans)
