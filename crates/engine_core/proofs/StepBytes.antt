-- The bytes of the entries of a step.
use Rattle.std.proofs.Common.{◌≡◌, ℕ, ◌+◌, ◌^◌, ◌<◌, true, leb, ltb, ◌&&◌, List, [], ◌∷◌, ◌++◌, length, Some, refl, ap, ◌∙◌, arith}
use Rattle.std.specs.Prelude.{nat_lt}
use Rattle.std.proofs.lemmas.Bool.{and_parts, and_from, ltb-true}
use Rattle.std.proofs.lemmas.List.{append-nil, length-append}
use Rattle.std.proofs.lemmas.List.Concat.{flat_map-cons}
use Rattle.index_derive.specs.declared.log.Entry.{Entry}
use Rattle.index_derive.specs.declared.log.EntryKind.TheVariants as entry
use Rattle.index_derive.specs.declared.log.Step.TheVariants.{Alone}
use Rattle.index_derive.specs.Steps.{entries_of_step}
use Rattle.jet_base.specs.declared.ids.Session.{Session}
use Rattle.entry_log.specs.LogState.{KeptStream, appended, stream_end}
use Rattle.log_grammar.specs.EntryBytes.{entry_bytes, entry_rest, has_spelling, kind_fits}
use Rattle.log_grammar.specs.EntryStreams.{stream_bytes}
use Rattle.loggable_steps.specs.Loggable.{is_loggable}

pub stream-one : (made : Entry) → stream_bytes (made ∷ []) ≡ entry_bytes made
stream-one made = flat_map-cons entry_bytes made [] ∙ append-nil (entry_bytes made)

abbrev pub begin_by : Session → Entry
begin_by session = record { session = session; kind = entry.Begin }

abbrev pub commit_by : Session → Entry
commit_by session = record { session = session; kind = entry.Commit }

pub stream-alone : (made : Entry) → stream_bytes (entries_of_step (Some (Alone made))) ≡ entry_bytes (begin_by made.session) ++ (entry_bytes made ++ entry_bytes (commit_by made.session))
stream-alone made =
    flat_map-cons entry_bytes (begin_by made.session) (made ∷ commit_by made.session ∷ [])
    ∙ ap (λ (xs : List ℕ). entry_bytes (begin_by made.session) ++ xs) (flat_map-cons entry_bytes made (commit_by made.session ∷ []) ∙ ap (λ (xs : List ℕ). entry_bytes made ++ xs) (stream-one (commit_by made.session)))

-- ---- entries without fields

pub begin_size : (session : Session) → length (entry_bytes (begin_by session)) ≡ 9
unfolding entry_bytes
begin_size session = omega arith

pub commit_size : (session : Session) → length (entry_bytes (commit_by session)) ≡ 9
unfolding entry_bytes
commit_size session = omega arith

pub begin_spelled : (made : Entry) → has_spelling made ≡ true → has_spelling (begin_by made.session) ≡ true
unfolding has_spelling
begin_spelled made h = and_from (leb 1 made.session.0 && leb made.session.0 99) true (and_parts (leb 1 made.session.0 && leb made.session.0 99) (kind_fits made.kind && ltb (length (entry_rest made)) (2 ^ 32)) h).0 refl

pub commit_spelled : (made : Entry) → has_spelling made ≡ true → has_spelling (commit_by made.session) ≡ true
unfolding has_spelling
commit_spelled made h = and_from (leb 1 made.session.0 && leb made.session.0 99) true (and_parts (leb 1 made.session.0 && leb made.session.0 99) (kind_fits made.kind && ltb (length (entry_rest made)) (2 ^ 32)) h).0 refl

pub alone_size : (made : Entry) → length (stream_bytes (entries_of_step (Some (Alone made)))) ≡ 18 + length (entry_bytes made)
alone_size made =
    ap length (stream-alone made)
    ∙ omega (arith, begin_size made.session, commit_size made.session, length-append (entry_bytes (begin_by made.session)) (entry_bytes made ++ entry_bytes (commit_by made.session)), length-append (entry_bytes made) (entry_bytes (commit_by made.session)))

pub one_size : (made : Entry) → length (stream_bytes (made ∷ [])) ≡ length (entry_bytes made)
one_size made = ap length (stream-one made)

pub loggable_parts : (made : Entry) → is_loggable made ≡ true → (has_spelling made ≡ true) × (length (entry_bytes made) < 2 ^ 27)
loggable_parts made h = let p = and_parts (has_spelling made) (nat_lt (length (entry_bytes made)) (2 ^ 27)) h in (p.0, ltb-true _ _ p.1)

-- ---- positions

pub end_appended : (bytes : List ℕ) (old new : KeptStream) → new ≡ appended bytes old → stream_end new ≡ stream_end old + length bytes
end_appended bytes old new e = ap stream_end e ∙ by old.from (length old.bytes) (length bytes) (length (old.bytes ++ bytes)) (length-append old.bytes bytes)
  where
    by : (f a b c : ℕ) → c ≡ a + b → f + c ≡ (f + a) + b
    by f a b c e = omega (arith, e)
