use Rattle.log_record.proofs.Sizes.{record_size}
use Rattle.log_record.proofs.spelling.size_of_record.Goals as goal

pub returns : goal.returns
returns c = record_size c.fields.result.now c.args.values.now c.size_of_fields.result c.saturating_add.result c.fields.ensures.fields c.size_of_fields.ensures c.saturating_add.ensures
