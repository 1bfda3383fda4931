use Rattle.std.proofs.Common.{false, sym, ◌∙◌}
use Rattle.jet_base.specs.declared.words.ColType.TheVariants.{Bit}
use Rattle.session_local.proofs.GivenRows.{refused-empty, refused-no_values, refused-first, refused-later}
use Rattle.session_local.proofs.putting_rows.+values_refusal.Goals as goal

pub returns-in-empty : goal.returns-in-empty
returns-in-empty t c = sym (refused-empty c.args.columns.now c.args.values.now c.in-empty.len_below)

pub returns-in-empty-values : goal.returns-in-empty-values
returns-in-empty-values t c = sym (refused-no_values c.args.columns.now c.args.values.now c.in-empty-values.len_below)

pub returns-in-Some : goal.returns-in-Some
returns-in-Some t c =
    sym (refused-first c.args.columns.now c.args.values.now (record { kind = Bit; is_key = false; descending = false }) c.value-item.result c.in-Some.refusal
    (record { column = c.in-len1-up.len_at_least; some = c.in-len1-up-values.len_at_least; first = c.value-item.is })
    (sym c.value_refusal.ensures ∙ c.in-Some.is))

pub returns-in-None : goal.returns-in-None
returns-in-None t c =
    c.values_refusal.ensures
    ∙ sym (refused-later c.args.columns.now c.args.values.now (record { kind = Bit; is_key = false; descending = false }) c.value-item.result
    (record { column = c.in-len1-up.len_at_least; some = c.in-len1-up-values.len_at_least; first = c.value-item.is })
    (sym c.value_refusal.ensures ∙ c.in-None.is))
