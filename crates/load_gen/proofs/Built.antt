-- That every call of the script is one that is built.
use Rattle.std.proofs.Common.{◌≡◌, ℕ, zero, suc, ◌+◌, ◌%◌, List, [], ◌∷◌, ◌++◌, map, replicate, refl, ap, ◌∙◌}
use Rattle.std.specs.Prelude.{◌==◌, Bool, true, false, ◌&&◌, codes, if◌then◌else◌, pos}
use Rattle.std.specs.List.{flat_map, list_all, range_with_len}
use Rattle.std.proofs.lemmas.List.Folds.{list_all-append}
use Rattle.jet_base.specs.declared.words.Given.TheVariants as given
use Rattle.jet_base.specs.declared.words.Way.TheVariants as way
use Rattle.session_local.specs.BuiltCalls.{is_built_request}
use Rattle.session_local.specs.declared.request.Request.{Request}
use Rattle.session_local.specs.declared.request.Request.TheVariants as call
use Rattle.load_gen.specs.declared.table.LoadIndex.{LoadIndex}
use Rattle.load_gen.specs.Table.{add_columns, add_numbered_columns, cursor, load_indexes, opening_calls}
use Rattle.load_gen.specs.Records.{begins_transaction, ends_transaction, filling_calls, last_commit, record_calls, records_calls, set_group, set_last_values, set_later_values, set_mail, set_mails, set_number, set_value, set_values}
use Rattle.load_gen.specs.Script.{ending_calls, entries_in, generated_calls, walk_calls}

abbrev AreBuilt : List Request → Type 0
AreBuilt calls = list_all is_built_request calls ≡ true

-- ---- lists of calls

joined : (front behind : List Request) → AreBuilt front → AreBuilt behind → AreBuilt (front ++ behind)
joined front behind h k = list_all-append is_built_request front behind ∙ ap (λ b. b && list_all is_built_request behind) h ∙ k

mapped : (f : ℕ → Request) → ((k : ℕ) → is_built_request (f k) ≡ true) → (numbers : List ℕ) → AreBuilt (map f numbers)
mapped f each [] = refl
mapped f each (k ∷ numbers) = ap (λ b. b && list_all is_built_request (map f numbers)) (each k) ∙ mapped f each numbers

in_pieces : {X : Type 0} (f : X → List Request) → ((x : X) → AreBuilt (f x)) → (xs : List X) → AreBuilt (flat_map f xs)
in_pieces f each [] = refl
in_pieces f each (x ∷ xs) = joined (f x) (flat_map f xs) (each x) (in_pieces f each xs)

repeated : (n : ℕ) (request : Request) → is_built_request request ≡ true → AreBuilt (replicate n request)
repeated zero request h = refl
repeated (suc n) request h = ap (λ b. b && list_all is_built_request (replicate n request)) h ∙ repeated n request h

where_it_is : (b : Bool) (request : Request) → is_built_request request ≡ true → AreBuilt (if b then request ∷ [] else [])
where_it_is true request h = ap (λ b. b && true) h
where_it_is false request h = refl

where_it_is_not : (b : Bool) (request : Request) → is_built_request request ≡ true → AreBuilt (if b then [] else request ∷ [])
where_it_is_not true request h = refl
where_it_is_not false request h = ap (λ b. b && true) h

-- ---- the script

opening_built : AreBuilt opening_calls
unfolding opening_calls add_columns add_numbered_columns
opening_built = refl

last_values_built : (i : ℕ) → AreBuilt (set_last_values i)
unfolding set_last_values
last_values_built i = mapped (set_number i) (λ k. refl) (range_with_len 7 34)

later_values_built : (i : ℕ) → AreBuilt (set_later_values i)
unfolding set_later_values
later_values_built i =
    joined (set_group i) (set_last_values i) (where_it_is_not (i % 10 == 0) (set_value (codes "grp") 1 (given.Number (pos (i % 7)))) refl) (last_values_built i)

values_built : (i : ℕ) → AreBuilt (set_values i)
unfolding set_values
values_built i = joined (set_mails i) (set_later_values i) (mapped (set_mail i) (λ k. refl) (range_with_len 1 (1 + i % 3))) (later_values_built i)

filling_built : (i : ℕ) → AreBuilt (filling_calls i)
unfolding filling_calls
filling_built i =
    joined (set_values i) (call.Update cursor ∷ (if ends_transaction i then call.CommitTransaction false ∷ [] else [])) (values_built i)
    (where_it_is (ends_transaction i) (call.CommitTransaction false) refl)

record_built : (i : ℕ) → AreBuilt (record_calls i)
unfolding record_calls
record_built i =
    joined (if begins_transaction i then call.BeginTransaction ∷ [] else []) (filling_calls i) (where_it_is (begins_transaction i) call.BeginTransaction refl) (filling_built i)

records_built : (n : ℕ) → AreBuilt (records_calls n)
unfolding records_calls
records_built n = in_pieces record_calls record_built (range_with_len 1 n)

walk_built : (n : ℕ) (walked : LoadIndex) → AreBuilt (walk_calls n walked)
unfolding walk_calls
walk_built n walked = repeated (entries_in walked n) (call.Move cursor way.Next) refl

ending_built : (n : ℕ) → AreBuilt (ending_calls n)
unfolding ending_calls
ending_built n =
    joined (last_commit n) (flat_map (walk_calls n) load_indexes) (where_it_is_not (ends_transaction n) (call.CommitTransaction false) refl)
    (in_pieces (walk_calls n) (walk_built n) load_indexes)

pub script_built : (n : ℕ) → list_all is_built_request (generated_calls n) ≡ true
unfolding generated_calls
script_built n =
    joined opening_calls (records_calls n ++ ending_calls n) opening_built
    (joined (records_calls n) (ending_calls n) (records_built n) (ending_built n))
