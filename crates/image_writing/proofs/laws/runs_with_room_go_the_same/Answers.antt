use Rattle.image_writing.proofs.RunsWithRoom.{ends_alike, logs_alike, runs_alike}
use Rattle.image_writing.proofs.laws.runs_with_room_go_the_same.Goals as goal

pub returns-clause-rows : goal.returns-clause-rows
returns-clause-rows c limit one other d s h g labels plain pairs lawful room = runs_alike limit one other d s h g labels plain pairs lawful room

pub returns-clause-log : goal.returns-clause-log
returns-clause-log c limit one other d s h g labels plain pairs lawful room = logs_alike limit one other d s h g labels plain pairs lawful room

pub returns-clause-after : goal.returns-clause-after
returns-clause-after c limit one other d s h g labels plain pairs lawful room = ends_alike limit one other d s h g labels plain pairs lawful room
