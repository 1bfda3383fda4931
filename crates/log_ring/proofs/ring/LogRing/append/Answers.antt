use Rattle.std.proofs.Common.{◌≡◌, ◌⊎◌, inl, inr, ℕ, ◌<◌, ◌^◌, Some, List, ◌++◌, length, sym, ◌∙◌, ap, subst, arith}
use Rattle.jet_volume.specs.declared.files.LogStart.{LogStart}
use Rattle.log_ring.specs.Blocks.{behind, Scans}
use Rattle.log_ring.specs.Gates.{place_for, appended}
use Rattle.log_ring.specs.Ready.{IsReady}
use Rattle.log_ring.specs.Appends.{AppendingLeaves, GivesBeforeOrAfter}
use Rattle.log_ring.specs.Writes.{LogIs}
use Rattle.log_ring.proofs.Steps.{log_started, log_weaker}
use Rattle.log_ring.proofs.Appending.{Chosen, chosen, chosen_generation, chosen_position, one_place, appending_scans, appended_ready}
use Rattle.log_ring.proofs.ring.LogRing.append.Goals as goal

-- a place in the range of its numbers
small_generation : (first : ℕ) (end : LogStart) (len : ℕ) (place : LogStart) → Chosen first end len place → end.generation < 2 ^ 63 → place.generation < 2 ^ 64
small_generation first end len place which less = omega (arith, chosen_generation first end len place which, less)

small_position : (first : ℕ) (end : LogStart) (len : ℕ) (place : LogStart) → Chosen first end len place → end.position < 2 ^ 63 → place.position < 2 ^ 64
small_position first end len place which less = omega (arith, chosen_position first end len place which, less)

goes : (from : LogStart) (stream : List ℕ) (end last : LogStart) (bytes log : List ℕ) → Scans log from stream end ⊎ Scans log from (stream ++ bytes) last → GivesBeforeOrAfter from stream bytes log
goes from stream end last bytes log (inl scans) = inl (end, scans)
goes from stream end last bytes log (inr scans) = inr (last, scans)

pub returns-in-Ok-clause-appended : goal.returns-in-Ok-clause-appended
returns-in-Ok-clause-appended g c tells from stream one ring =
    let end = c.args.self.now.end in
    let place = c.in-Some.place in
    let bytes = c.args.bytes.now in
    let is : place_for from.generation end (length bytes) ≡ Some place = ap (λ (n : ℕ). place_for n end (length bytes)) (sym ring.standing) ∙ sym c.choose_place.ensures ∙ c.in-Some.is in
    let which = chosen from.generation end (length bytes) place is in
    record {
      log = appended place bytes ring.log;
      is = c.in-Ok.ensures.ok tells ring.log ring.is;
      ready = subst (λ (e : LogStart). IsReady (appended place bytes ring.log) from (stream ++ bytes) e) (sym c.behind_of-self.ensures)
          (appended_ready from stream end place bytes one c.args.self.now.inside c.requires.some c.requires.most (small_generation from.generation end (length bytes) place which c.requires.generation)
          (small_position from.generation end (length bytes) place which c.requires.position) ring.log ring.ready which);
      standing = ring.standing;
    }

pub returns-in_default-clause-any_moment : goal.returns-in_default-clause-any_moment
returns-in_default-clause-any_moment g c tells from stream one ring =
    log_started g.V.Volume.seen g.V.Volume.moment g.V.Volume.left_at c.args.volume.now (λ before log. GivesBeforeOrAfter from stream c.args.bytes.now log)
    (λ image left. inl (c.args.self.now.end, subst (λ (l : List ℕ). Scans l from stream c.args.self.now.end) (sym (ring.is.left image left)) ring.ready.scans))

pub returns-in-Ok-clause-any_moment : goal.returns-in-Ok-clause-any_moment
returns-in-Ok-clause-any_moment g c tells from stream one ring =
    let end = c.args.self.now.end in
    let place = c.in-Some.place in
    let bytes = c.args.bytes.now in
    let is : place_for from.generation end (length bytes) ≡ Some place = ap (λ (n : ℕ). place_for n end (length bytes)) (sym ring.standing) ∙ sym c.choose_place.ensures ∙ c.in-Some.is in
    let which = chosen from.generation end (length bytes) place is in
    log_weaker g.V.Volume.seen g.V.Volume.moment g.V.Volume.left_at c.args.volume.now c.append_at.new.volume (λ before to. AppendingLeaves place bytes ring.log to)
    (λ before log. GivesBeforeOrAfter from stream bytes log) (c.append_at.ensures.any_moment tells ring.log ring.is)
    (λ image to left one_step. goes from stream end (behind place (length bytes)) bytes to
    (appending_scans from stream end place bytes one c.args.self.now.inside c.requires.some c.requires.most (small_generation from.generation end (length bytes) place which c.requires.generation)
    (small_position from.generation end (length bytes) place which c.requires.position) ring.log ring.ready to which one_step))

pub returns-in-Err-clause-any_moment : goal.returns-in-Err-clause-any_moment
returns-in-Err-clause-any_moment g c tells from stream one ring =
    let end = c.args.self.now.end in
    let place = c.in-Some.place in
    let bytes = c.args.bytes.now in
    let is : place_for from.generation end (length bytes) ≡ Some place = ap (λ (n : ℕ). place_for n end (length bytes)) (sym ring.standing) ∙ sym c.choose_place.ensures ∙ c.in-Some.is in
    let which = chosen from.generation end (length bytes) place is in
    log_weaker g.V.Volume.seen g.V.Volume.moment g.V.Volume.left_at c.args.volume.now c.append_at.new.volume (λ before to. AppendingLeaves place bytes ring.log to)
    (λ before log. GivesBeforeOrAfter from stream bytes log) (c.append_at.ensures.any_moment tells ring.log ring.is)
    (λ image to left one_step. goes from stream end (behind place (length bytes)) bytes to
    (appending_scans from stream end place bytes one c.args.self.now.inside c.requires.some c.requires.most (small_generation from.generation end (length bytes) place which c.requires.generation)
    (small_position from.generation end (length bytes) place which c.requires.position) ring.log ring.ready to which one_step))

pub returns-in-Ok-clause-bytes : goal.returns-in-Ok-clause-bytes
returns-in-Ok-clause-bytes g c tells log is place which =
    subst (λ (p : LogStart). LogIs g.V.Volume.seen g.V.Volume.moment g.V.Volume.left_at c.append_at.new.volume (appended p c.args.bytes.now log))
    (one_place c.in-Some.place place c.choose_place.result c.in-Some.is (c.choose_place.ensures ∙ which))
    (c.in-Ok.ensures.ok tells log is)
