use Rattle.engine_image.proofs.InOrder.{live_part_refuses, may_live, may_record, may_values, records_tell, values_refuse}
use Rattle.engine_image.proofs.LiveChecks.{sound_live}
use Rattle.engine_image.proofs.parts.ImageParts.check.Goals as goal

pub check_tables-requires : goal.check_tables-requires
check_tables-requires c = may_values c.args.self.now c.requires.0 c.requires.1

pub check_live-requires : goal.check_live-requires
check_live-requires c = may_live c.args.self.now c.requires.0 c.requires.1 c.in-Ok.ensures

pub check_records-requires : goal.check_records-requires
check_records-requires c = may_record c.args.self.now c.requires.0 c.requires.1 c.in-Ok.ensures (λ image is. sound_live image (c.in-Ok-check_live.ensures image is))

pub returns-in-Err : goal.returns-in-Err
returns-in-Err c image is = values_refuse image c.in-Err.fault (c.in-Err.ensures image is)

pub returns-in-Err-check_live : goal.returns-in-Err-check_live
returns-in-Err-check_live c image is = live_part_refuses image c.in-Err-check_live.fault (c.in-Ok.ensures image is) (c.in-Err-check_live.ensures image is)

pub returns-in-Ok-check_live : goal.returns-in-Ok-check_live
returns-in-Ok-check_live c image is = records_tell image c.check_records.result (c.in-Ok.ensures image is) (sound_live image (c.in-Ok-check_live.ensures image is)) (c.check_records.ensures image is)
