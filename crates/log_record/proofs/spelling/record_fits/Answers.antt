use Rattle.std.proofs.Common.{◌∙◌}
use Rattle.std.proofs.lemmas.Bool.{lt-leb}
use Rattle.log_record.proofs.Sizes.{record_of_few, record_of_many}
use Rattle.log_record.proofs.spelling.record_fits.Goals as goal

pub returns-then-count_of_all-le-COUNT_MOST : goal.returns-then-count_of_all-le-COUNT_MOST
returns-then-count_of_all-le-COUNT_MOST c =
    c.fields_fit.ensures ∙ record_of_few c.fields-fields.result.now c.args.values.now c.count_of_all.result c.fields-fields.ensures.fields c.fields-fields.ensures.formed c.count_of_all.ensures c.if-count_of_all-le-COUNT_MOST.true

pub returns-else-count_of_all-le-COUNT_MOST : goal.returns-else-count_of_all-le-COUNT_MOST
returns-else-count_of_all-le-COUNT_MOST c =
    lt-leb _ _ c.if-count_of_all-le-COUNT_MOST.false
    ∙ record_of_many c.fields-fields.result.now c.args.values.now c.count_of_all.result c.fields-fields.ensures.fields c.fields-fields.ensures.formed c.count_of_all.ensures c.if-count_of_all-le-COUNT_MOST.false
