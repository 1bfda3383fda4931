use Rattle.std.proofs.Common.{sym, ◌∙◌}
use Rattle.image_live.proofs.Ordered.{by_apart, not_following, not_left, not_rising}
use Rattle.image_live.specs.TablesRead.{AreTablesOf}
use Rattle.image_live.proofs.tables.ImageTables.are_in_order.Goals as goal

pub returns-then-not-all_follow : goal.returns-then-not-all_follow
returns-then-not-all_follow c = not_following (AreTablesOf c.args.self.now) c.args.sessions.now c.args.changes.now (sym c.if-not-all_follow.true ∙ c.all_follow.ensures)

pub all_leave-requires : goal.all_leave-requires
all_leave-requires c = c.requires.tables

pub returns-then-not-all_leave : goal.returns-then-not-all_leave
returns-then-not-all_leave c = not_left (AreTablesOf c.args.self.now) c.args.sessions.now c.args.changes.now (λ tables are. sym c.if-not-all_leave.true ∙ c.all_leave.ensures tables are)

pub all_levels_rise-requires : goal.all_levels_rise-requires
all_levels_rise-requires c = c.requires.placed

pub returns-then-not-all_levels_rise : goal.returns-then-not-all_levels_rise
returns-then-not-all_levels_rise c = not_rising (AreTablesOf c.args.self.now) c.args.sessions.now c.args.changes.now (sym c.if-not-all_levels_rise.true ∙ c.all_levels_rise.ensures)

pub are_all_apart-requires : goal.are_all_apart-requires
are_all_apart-requires c = c.requires.placed

pub returns : goal.returns
returns c =
    by_apart (AreTablesOf c.args.self.now) c.args.sessions.now c.args.changes.now c.are_all_apart.result (sym c.if-not-all_follow.false ∙ c.all_follow.ensures) (λ tables are. sym c.if-not-all_leave.false ∙ c.all_leave.ensures tables are)
    (sym c.if-not-all_levels_rise.false ∙ c.all_levels_rise.ensures) c.are_all_apart.ensures
