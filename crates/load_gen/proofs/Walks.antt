-- The calls behind the records, and the parts of the script, by their places.
use Rattle.std.proofs.Common.{◌≡◌, ℕ, suc, ◌+◌, ◌-◌, ◌*◌, ◌%◌, ◌^◌, ◌<◌, ◌≤◌, List, [], ◌∷◌, ◌++◌, length, drop, replicate, Some, None, refl, ap, sym, ◌∙◌, add-one, arith}
use Rattle.std.specs.Prelude.{◌==◌, false, if◌then◌else◌, slice_get}
use Rattle.std.specs.List.{flat_map}
use Rattle.std.proofs.lemmas.List.{length-append, length-replicate}
use Rattle.std.proofs.lemmas.Option.{slice_get_past}
use Rattle.jet_base.specs.declared.words.Way.TheVariants as way
use Rattle.session_local.specs.declared.request.Request.TheVariants as call
use Rattle.load_gen.specs.declared.table.LoadIndex.{LoadIndex}
use Rattle.load_gen.specs.Table.{cursor, index_name, load_indexes, opening_calls}
use Rattle.load_gen.specs.Records.{last_commit, records_calls}
use Rattle.load_gen.specs.Script.{ending_calls, entries_in, generated_calls, walk_calls}
use Rattle.load_gen.proofs.Lengths.{entries_small, records_fit}
use Rattle.load_gen.proofs.Opening.{length-opening_calls}
use Rattle.load_gen.proofs.Pieces.{get_behind, get_front, get_replicated}
use Rattle.load_gen.proofs.RecordCalls.{above_zero, at_zero, length_unless}

-- ---- one walk

pub walk_chosen : (n place : ℕ) (walked : LoadIndex) → place ≡ 0 → slice_get (walk_calls n walked) place ≡ Some (call.SetCurrentIndex cursor (Some (index_name walked)))
unfolding walk_calls
walk_chosen n place walked e = ap (slice_get (walk_calls n walked)) e

pub walk_first : (n place : ℕ) (walked : LoadIndex) → place ≡ 1 → slice_get (walk_calls n walked) place ≡ Some (call.Move cursor way.First)
unfolding walk_calls
walk_first n place walked e = ap (slice_get (walk_calls n walked)) e

pub walk_next : (n place : ℕ) (walked : LoadIndex) → 2 ≤ place → place < 2 + entries_in walked n → slice_get (walk_calls n walked) place ≡ Some (call.Move cursor way.Next)
unfolding walk_calls
walk_next n place walked least most =
    get_behind (call.SetCurrentIndex cursor (Some (index_name walked)) ∷ call.Move cursor way.First ∷ []) (replicate (entries_in walked n) (call.Move cursor way.Next)) 2 place refl least
    ∙ get_replicated (entries_in walked n) (place - 2) (call.Move cursor way.Next) (omega arith)

pub length-walk_calls : (n : ℕ) (walked : LoadIndex) → length (walk_calls n walked) ≡ 2 + entries_in walked n
unfolding walk_calls
length-walk_calls n walked = omega (arith, length-replicate (entries_in walked n) (call.Move cursor way.Next))

pub walk_past : (n place : ℕ) (walked : LoadIndex) → 2 + entries_in walked n ≤ place → slice_get (walk_calls n walked) place ≡ None
walk_past n place walked least = slice_get_past (walk_calls n walked) place (omega (arith, length-walk_calls n walked))

pub ruleset walk_places = (walk_chosen, walk_first, walk_next, walk_past)

-- ---- several walks

pub walk_within : (n place : ℕ) (walked : LoadIndex) (others : List LoadIndex) → place < 2 + entries_in walked n
    → slice_get (flat_map (walk_calls n) (walked ∷ others)) place ≡ slice_get (walk_calls n walked) place
walk_within n place walked others most =
    get_front (walk_calls n walked) (flat_map (walk_calls n) others) place (omega (arith, length-walk_calls n walked))

pub walk_behind : (n place : ℕ) (walked : LoadIndex) (others : List LoadIndex) → 2 + entries_in walked n ≤ place
    → slice_get (flat_map (walk_calls n) (walked ∷ others)) place ≡ slice_get (flat_map (walk_calls n) others) (place - (2 + entries_in walked n))
walk_behind n place walked others least =
    get_behind (walk_calls n walked) (flat_map (walk_calls n) others) (2 + entries_in walked n) place (length-walk_calls n walked) least

-- the walk at hand of those that are left, which has these calls
pub in_this_walk : (n place first calls i : ℕ) (indexes : List LoadIndex) (walked : LoadIndex)
    → slice_get (flat_map (walk_calls n) indexes) first ≡ slice_get (flat_map (walk_calls n) (drop i indexes)) place
    → calls ≡ entries_in walked n → drop i indexes ≡ walked ∷ drop (suc i) indexes → place < 2 + calls
    → slice_get (flat_map (walk_calls n) indexes) first ≡ slice_get (walk_calls n walked) place
in_this_walk n place first calls i indexes walked so_far e at most =
    so_far
    ∙ ap (λ l. slice_get (flat_map (walk_calls n) l) place) at
    ∙ walk_within n place walked (drop (suc i) indexes) (omega (arith, e, most))

pub behind_this_walk : (n place first calls i : ℕ) (indexes : List LoadIndex) (walked : LoadIndex)
    → slice_get (flat_map (walk_calls n) indexes) first ≡ slice_get (flat_map (walk_calls n) (drop i indexes)) place
    → calls ≡ entries_in walked n → drop i indexes ≡ walked ∷ drop (suc i) indexes → 2 + calls ≤ place
    → slice_get (flat_map (walk_calls n) indexes) first ≡ slice_get (flat_map (walk_calls n) (drop (i + 1) indexes)) (place - (2 + calls))
behind_this_walk n place first calls i indexes walked so_far e at least =
    so_far
    ∙ ap (λ l. slice_get (flat_map (walk_calls n) l) place) at
    ∙ walk_behind n place walked (drop (suc i) indexes) (omega (arith, e, least))
    ∙ ap (λ k. slice_get (flat_map (walk_calls n) (drop (suc i) indexes)) (place - (2 + k))) (sym e)
    ∙ ap (λ k. slice_get (flat_map (walk_calls n) (drop k indexes)) (place - (2 + calls))) (sym (add-one i))

pub walks_more : (n so_far calls i all : ℕ) (indexes : List LoadIndex) (walked : LoadIndex)
    → so_far + length (flat_map (walk_calls n) (drop i indexes)) ≡ all
    → calls ≡ entries_in walked n → drop i indexes ≡ walked ∷ drop (suc i) indexes
    → so_far + (2 + calls) + length (flat_map (walk_calls n) (drop (i + 1) indexes)) ≡ all
walks_more n so_far calls i all indexes walked sum e at =
    let whole : length (flat_map (walk_calls n) (drop i indexes)) ≡ length (walk_calls n walked) + length (flat_map (walk_calls n) (drop (suc i) indexes))
    = ap (λ l. length (flat_map (walk_calls n) l)) at ∙ length-append (walk_calls n walked) (flat_map (walk_calls n) (drop (suc i) indexes)) in
    let turned : length (flat_map (walk_calls n) (drop (i + 1) indexes)) ≡ length (flat_map (walk_calls n) (drop (suc i) indexes))
    = ap (λ k. length (flat_map (walk_calls n) (drop k indexes))) (add-one i) in
    omega (arith, sum, e, whole, turned, length-walk_calls n walked)

walks_fit : (n : ℕ) (indexes : List LoadIndex) → n < 2 ^ 32 → length (flat_map (walk_calls n) indexes) ≤ 2 ^ 34 * length indexes
walks_fit n [] small = omega arith
walks_fit n (walked ∷ indexes) small = omega (
  arith,
  length-append (walk_calls n walked) (flat_map (walk_calls n) indexes),
  length-walk_calls n walked,
  entries_small walked n,
  walks_fit n indexes small,
)

pub all_walks_fit : (n : ℕ) → n < 2 ^ 32 → length (flat_map (walk_calls n) load_indexes) ≤ 2 ^ 37
all_walks_fit n small =
    let six : length load_indexes ≡ 6 = refl in
    omega (arith, six, walks_fit n load_indexes small)

-- ---- behind the records

pub ending_walks : (n place : ℕ) → n % 100 ≡ 0 → slice_get (ending_calls n) place ≡ slice_get (flat_map (walk_calls n) load_indexes) place
unfolding ending_calls
ending_walks n place e = ap (λ calls. slice_get (calls ++ flat_map (walk_calls n) load_indexes) place) (at_zero (n % 100) [] (call.CommitTransaction false ∷ []) e)

with_commit : (n : ℕ) → 0 < n % 100 → ending_calls n ≡ call.CommitTransaction false ∷ flat_map (walk_calls n) load_indexes
unfolding ending_calls
with_commit n h = ap (λ calls. calls ++ flat_map (walk_calls n) load_indexes) (above_zero (n % 100) [] (call.CommitTransaction false ∷ []) h)

pub ending_commit : (n place : ℕ) → 0 < n % 100 → place ≡ 0 → slice_get (ending_calls n) place ≡ Some (call.CommitTransaction false)
ending_commit n place h e = ap (λ calls. slice_get calls place) (with_commit n h) ∙ ap (slice_get (call.CommitTransaction false ∷ flat_map (walk_calls n) load_indexes)) e

pub ending_behind : (n place : ℕ) → 0 < n % 100 → 1 ≤ place → slice_get (ending_calls n) place ≡ slice_get (flat_map (walk_calls n) load_indexes) (place - 1)
ending_behind n place h least =
    ap (λ calls. slice_get calls place) (with_commit n h)
    ∙ get_behind (call.CommitTransaction false ∷ []) (flat_map (walk_calls n) load_indexes) 1 place refl least

pub ruleset behind_records = (ending_walks, ending_commit, ending_behind)

-- ---- the parts of the script

pub script_opening : (n i : ℕ) → i < 49 → slice_get (generated_calls n) i ≡ slice_get opening_calls i
unfolding generated_calls
script_opening n i most = get_front opening_calls (records_calls n ++ ending_calls n) i (omega (arith, length-opening_calls))

behind_opening : (n i : ℕ) → 49 ≤ i → slice_get (generated_calls n) i ≡ slice_get (records_calls n ++ ending_calls n) (i - 49)
unfolding generated_calls
behind_opening n i least = get_behind opening_calls (records_calls n ++ ending_calls n) 49 i length-opening_calls least

pub script_record : (n i : ℕ) → 49 ≤ i → i - 49 < length (records_calls n) → slice_get (generated_calls n) i ≡ slice_get (records_calls n) (i - 49)
script_record n i least most = behind_opening n i least ∙ get_front (records_calls n) (ending_calls n) (i - 49) most

pub script_ending : (n i : ℕ) → 49 ≤ i → length (records_calls n) ≤ i - 49 → slice_get (generated_calls n) i ≡ slice_get (ending_calls n) (i - 49 - length (records_calls n))
script_ending n i least behind = behind_opening n i least ∙ get_behind (records_calls n) (ending_calls n) (length (records_calls n)) (i - 49) refl behind

pub ruleset parts = (script_opening, script_record, script_ending)

length-ending_calls : (n : ℕ) → length (ending_calls n) ≡ (if n % 100 == 0 then 0 else 1) + length (flat_map (walk_calls n) load_indexes)
unfolding ending_calls
length-ending_calls n = omega (arith, length-append (last_commit n) (flat_map (walk_calls n) load_indexes), length_unless (n % 100 == 0) (call.CommitTransaction false))

pub length-generated_calls : (n : ℕ) → length (generated_calls n) ≡ 49 + length (records_calls n) + (if n % 100 == 0 then 0 else 1) + length (flat_map (walk_calls n) load_indexes)
unfolding generated_calls
length-generated_calls n = omega (arith, length-append opening_calls (records_calls n ++ ending_calls n), length-append (records_calls n) (ending_calls n), length-opening_calls, length-ending_calls n)

pub ruleset script_length = (length-generated_calls, records_fit, all_walks_fit, at_zero, above_zero)
