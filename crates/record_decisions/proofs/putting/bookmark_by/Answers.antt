use Rattle.std.proofs.Common.{◌≡◌, ℕ, List, Option, sym, ap, subst, ◌∙◌}
use Rattle.std.specs.Prelude.{IfOk, unwrap_or}
use Rattle.jet_base.specs.ColumnType.{big_endian}
use Rattle.session_local.specs.Preparing.{for_of}
use Rattle.index_derive.specs.Schemas.{primary_rule}
use Rattle.record_decisions.specs.Updating.{bookmark_by, new_bookmark}
use Rattle.record_decisions.proofs.OwnKeys.{new-bookmark}
use Rattle.record_decisions.proofs.putting.bookmark_by.Goals as goal

pub returns-in-Insert : goal.returns-in-Insert
returns-in-Insert c =
    subst (λ (bytes : List ℕ). IfOk c.new_bookmark.result (λ bookmark. bookmark ≡ bytes))
    (ap (λ (key : Option (List ℕ)). unwrap_or key (big_endian 8 c.number_of_change-number.result)) c.requires.key
    ∙ new-bookmark c.number_of_change-number.result c.args.schema.now c.args.prepared.now.buffer.fields
    ∙ ap (λ n. new_bookmark n c.args.schema.now c.args.prepared.now.buffer.fields (primary_rule c.args.schema.now)) c.number_of_change-number.ensures
    ∙ ap (λ purpose. bookmark_by c.args.engine.now c.args.session.0 c.args.schema.now (for_of purpose) c.args.prepared.now.buffer.fields) (sym c.in-Insert.is))
    c.new_bookmark.ensures
