-- What a function that reads an entry answers.
use Rattle.std.proofs.Common.{◌≡◌, ℕ, List, length, Option, Some, None, refl, sym, ◌∙◌}
use Rattle.std.specs.Prelude.{Result, Ok, Err, IfOk, MatchResult}
use Rattle.column_set.specs.NumberReading.{IsBytes, some_is}
use Rattle.index_derive.specs.declared.log.Entry.{Entry}
use Rattle.log_record.specs.declared.fault.EntryFault.{EntryFault}
use Rattle.log_record.specs.declared.fault.EntryFault.TheVariants.{BadEntry, OutOfMemory}
use Rattle.log_grammar.specs.EntryBytes.{BeginsWith, entry_bytes}
use Rattle.log_grammar.specs.EntryReading.{front_at}
use Rattle.log_record.specs.EntrySeen.{Gives}
use Rattle.log_grammar.proofs.FrontLaws.{begins, front_take}

pub found_front : (bytes : List ℕ) (r : Result (Entry × ℕ) EntryFault) → IsBytes bytes → Gives (λ x. x) r (front_at bytes) → IfOk r (λ x. BeginsWith bytes x.0 × (x.1 ≡ length (entry_bytes x.0)))
found_front bytes (Ok x) is_bytes given = let t = front_take bytes x is_bytes given in ((t.rest, t.formed, t.spelled), t.size)
found_front bytes (Err fault) is_bytes given = tt

abbrev none_read : Option (Entry × ℕ)
none_read = None

abbrev read : Entry × ℕ → Option (Entry × ℕ)
read x = Some x

none_is : (x : Entry × ℕ) → read x ≡ none_read → ⊥
none_is x e = absurd cc

pub only_front : (bytes : List ℕ) (r : Result (Entry × ℕ) EntryFault) → Gives (λ x. x) r (front_at bytes) → (entry : Entry) → BeginsWith bytes entry → MatchResult r (λ x. x ≡ (entry, length (entry_bytes entry))) (λ fault. fault ≡ OutOfMemory)
only_front bytes (Ok x) given entry h = some_is x (entry, length (entry_bytes entry)) (sym given ∙ begins bytes entry h)
only_front bytes (Err BadEntry) given entry h = absurd (none_is (entry, length (entry_bytes entry)) (sym (begins bytes entry h) ∙ given))
only_front bytes (Err OutOfMemory) given entry h = refl
