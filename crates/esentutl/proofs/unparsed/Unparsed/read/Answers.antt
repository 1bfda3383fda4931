use Rattle.std.proofs.Common.{◌≡◌, ℕ, ◌+◌, ◌≤◌, List, length, take, drop, ap, ◌∙◌, arith, rules}
use Rattle.std.proofs.lemmas.List.{with_items_is, places}
use Rattle.esentutl.proofs.Buffers.{length-read, take-read}
use Rattle.esentutl.proofs.unparsed.Unparsed.read.Goals as goal

pub returns-in-Ok-read_behind-clause-bytes : goal.returns-in-Ok-read_behind-clause-bytes
returns-in-Ok-read_behind-clause-bytes g c =
    let later = c.read_behind.new.buffer in
    let made = c.make_room.new.buffer in
    let len = c.self.inside.len in
    let count = c.in-Ok-read_behind.count in
    let lent : c.deref_mut.result.now ≡ made.items = c.deref_mut.ensures.value in
    let within : len + count ≤ length later = omega (arith, ap length lent, c.in-Ok-read_behind.ensures.within) in
    let front : take len later ≡ c.args.self.now = c.in-Ok-read_behind.ensures.front ∙ ap (λ (l : List ℕ). take len l) lent ∙ c.in-Ok.ensures.front ∙ c.self.view_is in (
      take count (drop len later),
      length-read later len count within,
      ap (λ (l : List ℕ). take (len + count) l) (with_items_is made later (first_of (omega (arith, ap length lent), search (rules, places)))) ∙ take-read later c.args.self.now len count front,
      c.in-Ok-read_behind.ensures.bytes,
    )
