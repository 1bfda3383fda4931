-- The session at its place is changed where memory suffices.
use Rattle.std.proofs.Common.{◌≡◌, ℕ, Ok, Err, List, set, refl, sym, ◌∙◌}
use Rattle.std.specs.Prelude.{Result, OnErr, OnOk}
use Rattle.jet_base.specs.declared.memory.OutOfMemory.{OutOfMemory}
use Rattle.version_cleanup.specs.LiveSessions.{LiveState, opened, with_session}
use Rattle.version_cleanup.specs.Shown.{AreLive}
use Rattle.version_cleanup.proofs.Places.{Here, live-same, live-set, set-is, set-none}
use Rattle.version_cleanup.proofs.sessions.Sessions.open_table.Goals as goal

live-opened : (r : Result (Unit {0}) OutOfMemory) (label table place : ℕ) (items sessions : List LiveState) (x y : LiveState) → Here label place items sessions x → OnOk r (y ≡ opened table x) → OnErr r (y ≡ x) → AreLive (set items place y)
live-opened (Ok u) label table place items sessions x y here done kept = live-set label place (opened table) items sessions x y (λ (s : LiveState). refl) here done
live-opened (Err e) label table place items sessions x y here done kept = live-same place items x y here.live here.is kept

opened-is : (r : Result (Unit {0}) OutOfMemory) (label table place : ℕ) (items sessions : List LiveState) (x y : LiveState) → Here label place items sessions x → OnOk r (y ≡ opened table x) → OnOk r (set items place y ≡ with_session label (opened table) sessions)
opened-is (Ok u) label table place items sessions x y here done = set-is label place (opened table) items sessions x y here done
opened-is (Err e) label table place items sessions x y here done = tt

pub invariant_of-self : goal.invariant_of-self
invariant_of-self c =
    live-opened c.open_table.result c.args.session.0 c.args.table.0 c.in-Some.place c.self.inside.lives.items c.args.self.now c.index_mut.result.now c.open_table.new.self
    (record { shown = c.self.view_is; live = c.self.invariant; at_place = sym c.place_of.ensures ∙ c.in-Some.is; is = c.index_mut.ensures.value }) c.open_table.ensures.done c.open_table.ensures.kept

pub returns-in-Some-clause-ok : goal.returns-in-Some-clause-ok
returns-in-Some-clause-ok c =
    opened-is c.open_table.result c.args.session.0 c.args.table.0 c.in-Some.place c.self.inside.lives.items c.args.self.now c.index_mut.result.now c.open_table.new.self
    (record { shown = c.self.view_is; live = c.self.invariant; at_place = sym c.place_of.ensures ∙ c.in-Some.is; is = c.index_mut.ensures.value }) c.open_table.ensures.done

pub returns-in-None-clause-ok : goal.returns-in-None-clause-ok
returns-in-None-clause-ok c = set-none c.args.session.0 (opened c.args.table.0) c.args.self.now (sym c.place_of.ensures ∙ c.in-None.is)
