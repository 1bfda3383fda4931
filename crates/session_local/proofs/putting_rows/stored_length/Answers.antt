use Rattle.std.proofs.Common.{length, sym, ap, ◌∙◌}
use Rattle.jet_base.specs.declared.words.Given.{Given}
use Rattle.jet_base.specs.Given.{given_bytes}
use Rattle.session_local.proofs.GivenRows.{length-number}
use Rattle.session_local.proofs.putting_rows.stored_length.Goals as goal

pub returns-in-Number : goal.returns-in-Number
returns-in-Number c = c.largest_value.ensures ∙ sym (length-number c.args.kind c.in-Number.field-0) ∙ ap (λ (v : Given). length (given_bytes c.args.kind v)) (sym c.in-Number.is)
