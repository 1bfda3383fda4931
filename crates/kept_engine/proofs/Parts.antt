-- Parts of a log.
use Rattle.std.proofs.Common.{◌≡◌, ℕ, ◌-◌, ◌≤◌, List, [], ◌++◌, length, take, drop, sym, ◌∙◌, ap, arith, append_assoc, take-append-drop, length-take, length-drop}
use Rattle.std.proofs.Math.Seq.{drop_at}
use Rattle.std.proofs.lemmas.List.Concat.{flat_map-append}
use Rattle.std.proofs.lemmas.List.{take-append-le}
use Rattle.index_derive.specs.declared.log.Entry.{Entry}
use Rattle.entry_log.specs.LogState.{KeptStream, stream_end, trimmed_to}
use Rattle.log_grammar.specs.EntryBytes.{entry_bytes}
use Rattle.log_grammar.specs.EntryStreams.{stream_bytes}
use Rattle.log_keeper.specs.Keeping.{between}

pub between_none : (at : ℕ) (whole : List ℕ) → between at at whole ≡ []
between_none at whole = let none : at - at ≡ 0 = omega arith in ap (λ (m : ℕ). take m (drop at whole)) none

drop_front : (n : ℕ) (xs ys : List ℕ) → n ≤ length xs → drop n (xs ++ ys) ≡ drop n xs ++ ys
drop_front n xs ys le =
    let front : length (take n xs) ≡ n = omega (arith, length-take n xs, le) in
    ap (λ (l : List ℕ). drop n (l ++ ys)) (sym (take-append-drop n xs))
    ∙ ap (λ (l : List ℕ). drop n l) (append_assoc (take n xs) (drop n xs) ys)
    ∙ drop_at (take n xs) (drop n xs ++ ys) n front

-- bytes that come behind change no part before them
pub between_behind : (base at : ℕ) (whole more : List ℕ) → base ≤ at → at ≤ length whole → between base at (whole ++ more) ≡ between base at whole
between_behind base at whole more from within =
    ap (λ (l : List ℕ). take (at - base) l) (drop_front base whole more (omega (arith, from, within)))
    ∙ take-append-le (at - base) (drop base whole) more (omega (arith, length-drop base whole, from, within))

-- a log that is trimmed ends where it ended
pub end_trimmed : (to : ℕ) (s : KeptStream) → to ≤ stream_end s → stream_end (trimmed_to to s) ≡ stream_end s
end_trimmed to s within = omega (arith, within, length-drop (to - s.from) s.bytes)

-- the bytes of more entries stand behind those of the first
pub stream_append : (xs ys : List Entry) → stream_bytes (xs ++ ys) ≡ stream_bytes xs ++ stream_bytes ys
stream_append xs ys = flat_map-append entry_bytes xs ys
