use Rattle.std.proofs.Common.{List, ℕ, inl, inr, refl, subst}
use Rattle.esentutl.specs.About.{Tells}
use Rattle.esentutl.proofs.inspections.tell_database.Goals as goal

pub text_of-requires-clause-found : goal.text_of-requires-clause-found
text_of-requires-clause-found g c = c.requires.found

pub text_of-requires-clause-room : goal.text_of-requires-clause-room
text_of-requires-clause-room g c = c.requires.room

pub returns-in-Ok : goal.returns-in-Ok
returns-in-Ok g c = λ checkpoint stands found.
    inl (
      c.in-Ok.text.items,
      c.in-Ok.ensures checkpoint stands found,
      subst (λ (bytes : List ℕ). Tells (g.K.Sink.taken c.args.out.now) (g.K.Sink.taken c.tell_bytes.new.out) (g.K.Sink.faults c.args.out.now) (g.K.Sink.faults c.tell_bytes.new.out) bytes c.tell_bytes.result) c.as_slice.ensures.value
          c.tell_bytes.ensures,
    )

pub returns-in-Err : goal.returns-in-Err
returns-in-Err g c = λ checkpoint stands found. inr (refl, (refl, refl))
