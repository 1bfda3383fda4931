use Rattle.std.proofs.Common.{◌+◌, ◌<◌, ◌≤◌, ◌^◌, [], length, subst, vec_len}
use Rattle.std.specs.Prelude.{option_copied, unwrap_or}
use Rattle.std.specs.Vec.{vec_capacity}
use Rattle.live_part.proofs.writing_changes.put_row.Goals as goal

pub put_own_row-requires-clause-short : goal.put_own_row-requires-clause-short
put_own_row-requires-clause-short c = subst (λ row. length (unwrap_or (option_copied row) []) < 2 ^ 16) c.in-Some.is c.requires.short

pub put_own_row-requires-clause-room : goal.put_own_row-requires-clause-room
put_own_row-requires-clause-room c = subst (λ row. vec_len c.args.bytes.now + (3 + length (unwrap_or (option_copied row) [])) ≤ vec_capacity c.args.bytes.now) c.in-Some.is c.requires.room
