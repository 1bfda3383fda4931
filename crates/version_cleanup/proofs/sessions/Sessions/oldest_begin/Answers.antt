-- One session more is gone over.
use Rattle.std.proofs.Common.{ℕ, Option, ap, take, ◌∙◌}
use Rattle.std.specs.Prelude.{option_map}
use Rattle.std.proofs.lemmas.List.{take_all}
use Rattle.version_cleanup.specs.declared.live.Transaction.{Transaction}
use Rattle.version_cleanup.specs.LiveSessions.{LiveState, begin_of, lesser, oldest_begin}
use Rattle.version_cleanup.proofs.Oldest.{oldest-more}
use Rattle.version_cleanup.proofs.sessions.Sessions.oldest_begin.Goals as goal

pub loop-live-preserved : goal.loop-live-preserved
loop-live-preserved c =
    let lives = c.deref-live-items.result.now in let x = c.live-item.result in
    c.earlier-oldest.ensures
    ∙ ap (λ (o : Option ℕ). lesser o (option_map (λ (t : Transaction). t.begin) c.transaction.result)) c.loop-live.invariant
    ∙ ap (λ (o : Option Transaction). lesser (oldest_begin (take c.loop-live.live-index lives)) (option_map (λ (t : Transaction). t.begin) o)) c.transaction.ensures.value
    ∙ ap (λ (s : LiveState). lesser (oldest_begin (take c.loop-live.live-index lives)) (begin_of s)) c.live-item.is
    ∙ oldest-more lives c.loop-live.live-index x c.loop-live-test.true

pub returns : goal.returns
returns c =
    let lives = c.deref-live-items.result.now in
    c.loop-live.invariant ∙ ap oldest_begin (take_all c.loop-live.live-index lives c.loop-live-test.false ∙ c.deref-live-items.ensures.value ∙ c.self.view_is)
