use Rattle.std.proofs.Common.{◌≡◌, length, true, sym, ap, subst, ◌∙◌, arith}
use Rattle.index_derive.specs.declared.log.Entry.{Entry}
use Rattle.log_grammar.specs.EntryBytes.{entry_bytes, has_spelling}
use Rattle.engine_core.proofs.StepBytes.{begin_size, begin_spelled, commit_size, commit_spelled, end_appended, loggable_parts}
use Rattle.engine_core.proofs.logging.writing.write_alone.Goals as goal

pub append-requires-clause-spelled : goal.append-requires-clause-spelled
append-requires-clause-spelled c = subst (λ (e : Entry). has_spelling e ≡ true) (sym c.plain-begin.ensures) (begin_spelled c.args.made.now (loggable_parts c.args.made.now c.requires.loggable).0)

pub append-requires-clause-room : goal.append-requires-clause-room
append-requires-clause-room c =
    let first = ap (λ (e : Entry). length (entry_bytes e)) c.plain-begin.ensures ∙ begin_size c.args.made.now.session in
    omega (arith, first, c.requires.room)

pub append-requires-clause-position : goal.append-requires-clause-position
append-requires-clause-position c =
    let first = ap (λ (e : Entry). length (entry_bytes e)) c.plain-begin.ensures ∙ begin_size c.args.made.now.session in
    omega (arith, first, c.requires.position)

pub append-requires-2-clause-room : goal.append-requires-2-clause-room
append-requires-2-clause-room c =
    let first = ap (λ (e : Entry). length (entry_bytes e)) c.plain-begin.ensures ∙ begin_size c.args.made.now.session in
    omega (arith, first, c.append.ensures.room, c.requires.room)

pub append-requires-2-clause-position : goal.append-requires-2-clause-position
append-requires-2-clause-position c =
    let first = ap (λ (e : Entry). length (entry_bytes e)) c.plain-begin.ensures ∙ begin_size c.args.made.now.session in
    let end = end_appended (entry_bytes c.plain-begin.result) c.args.log.now.stream c.append.new.self.stream c.append.ensures.stream in
    omega (arith, first, end, c.requires.position)

pub append-requires-3-clause-spelled : goal.append-requires-3-clause-spelled
append-requires-3-clause-spelled c = subst (λ (e : Entry). has_spelling e ≡ true) (sym c.plain-commit.ensures) (commit_spelled c.args.made.now (loggable_parts c.args.made.now c.requires.loggable).0)

pub append-requires-3-clause-room : goal.append-requires-3-clause-room
append-requires-3-clause-room c =
    let first = ap (λ (e : Entry). length (entry_bytes e)) c.plain-begin.ensures ∙ begin_size c.args.made.now.session in
    let last = ap (λ (e : Entry). length (entry_bytes e)) c.plain-commit.ensures ∙ commit_size c.args.made.now.session in
    omega (arith, first, last, c.append.ensures.room, c.append-2.ensures.room, c.requires.room)

pub append-requires-3-clause-position : goal.append-requires-3-clause-position
append-requires-3-clause-position c =
    let first = ap (λ (e : Entry). length (entry_bytes e)) c.plain-begin.ensures ∙ begin_size c.args.made.now.session in
    let last = ap (λ (e : Entry). length (entry_bytes e)) c.plain-commit.ensures ∙ commit_size c.args.made.now.session in
    let end = end_appended (entry_bytes c.plain-begin.result) c.args.log.now.stream c.append.new.self.stream c.append.ensures.stream in
    let end_2 = end_appended (entry_bytes c.args.made.now) c.append.new.self.stream c.append-2.new.self.stream c.append-2.ensures.stream in
    omega (arith, first, last, end, end_2, c.requires.position)

pub returns-clause-room : goal.returns-clause-room
returns-clause-room c =
    let first = ap (λ (e : Entry). length (entry_bytes e)) c.plain-begin.ensures ∙ begin_size c.args.made.now.session in
    let last = ap (λ (e : Entry). length (entry_bytes e)) c.plain-commit.ensures ∙ commit_size c.args.made.now.session in
    omega (arith, first, last, c.append.ensures.room, c.append-2.ensures.room, c.append-3.ensures.room)
