use Rattle.std.proofs.Common.{ℕ, ◌-◌, List, length, take, ap, sym, ◌∙◌}
use Rattle.std.specs.Prelude.{bytes_eq, drop}
use Rattle.std.specs.List.{list_any}
use Rattle.database_state.specs.Table.{Table}
use Rattle.image_opening.proofs.SoundParts.{differ_next, differ_stops}
use Rattle.image_opening.proofs.rules.table_names_differ.Goals as goal

pub returns-then-has_named_table : goal.returns-then-has_named_table
returns-then-has_named_table c =
    let rest = c.loop-rest.rest.now in
    sym (c.loop-rest.invariant ∙ differ_stops (λ (t u : Table). bytes_eq t.name u.name) rest c.first-item.result c.in-len1-up.len_at_least c.first-item.is
    (ap (λ (n : List ℕ). list_any (λ (u : Table). bytes_eq n u.name) (take (length rest - 1) (drop 1 rest))) (sym c.name.ensures) ∙ sym c.has_named_table.ensures ∙ c.if-has_named_table.true))

pub loop-rest-preserved : goal.loop-rest-preserved
loop-rest-preserved c =
    let rest = c.loop-rest.rest.now in
    c.loop-rest.invariant ∙ differ_next (λ (t u : Table). bytes_eq t.name u.name) rest c.first-item.result c.in-len1-up.len_at_least c.first-item.is
    (ap (λ (n : List ℕ). list_any (λ (u : Table). bytes_eq n u.name) (take (length rest - 1) (drop 1 rest))) (sym c.name.ensures) ∙ sym c.has_named_table.ensures ∙ c.if-has_named_table.false)
