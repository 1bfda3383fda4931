use Rattle.std.proofs.Common.{ℕ, List, length, ap, subst, ◌∙◌}
use Rattle.std.proofs.lemmas.List.{length-map}
use Rattle.stored_variants.specs.StoredVersions.{StoredVersions}
use Rattle.esentutl.specs.About.{Tells}
use Rattle.esentutl.specs.Words.{recovered_line}
use Rattle.esentutl.proofs.ends.tell_recovered.Goals as goal

pub returns : goal.returns
returns g c =
    let tables = c.tables-2.result.now in
    subst (λ (line : List ℕ). Tells (g.K.Sink.taken c.args.out.now) (g.K.Sink.taken c.tell_text.new.out) (g.K.Sink.faults c.args.out.now) (g.K.Sink.faults c.tell_text.new.out) line c.tell_text.result)
    (c.as_str.ensures.value ∙ c.make_recovered_line-line.ensures ∙ ap (λ (number : ℕ). recovered_line number (length tables)) c.number.ensures
    ∙ ap (λ (count : ℕ). recovered_line c.args.engine.now.number count) (ap length c.tables-2.ensures ∙ length-map _ _ ∙ ap (λ (all : StoredVersions). length all.store.tables) c.tables.ensures))
    c.tell_text.ensures
