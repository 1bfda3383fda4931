use Rattle.std.proofs.Common.{◌≡◌, ◌++◌, ap, sym, ◌∙◌, subst, true}
use Rattle.std.specs.Int.{w16, w32, to_le_bytes, cast_unsigned}
use Rattle.log_grammar.specs.EntryBytes.{bookmark_bytes, change_bytes, change_fits}
use Rattle.log_record.proofs.Appends.{three_appended}
use Rattle.log_grammar.proofs.Fits.{add_amount, amount_passed}
use Rattle.log_record.proofs.encoding.put_change.Goals as goal

pub returns-in-Add-clause-items : goal.returns-in-Add-clause-items
returns-in-Add-clause-items c =
    let fits = add_amount c.in-Add.table c.in-Add.bookmark c.in-Add.column c.in-Add.amount (subst (λ change. change_fits change ≡ true) c.in-Add.is c.requires.fits) in
    three_appended c.args.bytes.now.items (to_le_bytes w32 c.in-Add.table.0) (bookmark_bytes c.in-Add.bookmark) (to_le_bytes w16 c.in-Add.column.0 ++ to_le_bytes w32 (cast_unsigned w32 c.in-Add.amount))
    c.put_table-in-Add.new.bytes.items c.put_bookmark-in-Add.new.bytes.items c.put_amount.new.bytes.items
    c.put_table-in-Add.ensures.items c.put_bookmark-in-Add.ensures.items
    (c.put_amount.ensures.items ∙ ap (λ n. c.put_bookmark-in-Add.new.bytes.items ++ (to_le_bytes w16 c.in-Add.column.0 ++ to_le_bytes w32 n)) (amount_passed c.in-Add.amount fits))
    ∙ ap (λ change. c.args.bytes.now.items ++ change_bytes change) (sym c.in-Add.is)
