use Rattle.esentutl.proofs.FoundTexts.{for_ok, header_told}
use Rattle.esentutl.proofs.inspections.header_of.Goals as goal

pub returns : goal.returns
returns c =
    for_ok c.header.result (λ text is checkpoint stands stream found.
    header_told c.cut_bytes_begin_with_no_entry.ensures checkpoint stream c.args.standing.now c.args.database.now text.items c.number-number.result c.table_count-tables.result c.number-number.ensures c.table_count-tables.ensures stands found is)
    c.header.ensures
