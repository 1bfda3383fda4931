use Rattle.std.proofs.Common.{◌≡◌, ◌∙◌, ℕ, true, List, Option, refl, sym, subst}
use Rattle.std.specs.Str.{bytes_eq}
use Rattle.std.proofs.lemmas.Slice.Eq.{bytes_eq-Decides}
use Rattle.session_local.specs.declared.request.Request.{Request}
use Rattle.session_local.specs.CallNames as named
use Rattle.script_text.specs.Calls.{named_call, schema_call, call_of_cursor, place_call, record_call, temp_call}
use Rattle.script_text.specs.CallNames.{reading}
use Rattle.script_text.specs.declared.call_names.CallName.TheVariants as name
use Rattle.script_text.specs.declared.call_names.CursorCall.TheVariants as cursor_name
use Rattle.script_text.proofs.call_names.frequent_call.Goals as goal

-- a name is the word that it is found to be, of which the readings are known
same_reading : (name word : List ℕ) (f : List (List ℕ) → Option Request) → bytes_eq name word ≡ true → ((words : List (List ℕ)) → named_call word words ≡ f words)
    → (words : List (List ℕ)) → named_call name words ≡ f words
same_reading name word f is known = subst (λ (n : List ℕ). (words : List (List ℕ)) → named_call n words ≡ f words) (sym ((bytes_eq-Decides name word).0 is)) known

pub returns-in-4 : goal.returns-in-4
unfolding named_call schema_call call_of_cursor place_call record_call
returns-in-4 c = same_reading c.args.name.now named.move (reading (name.OfCursor cursor_name.Move)) (sym c.is_word.ensures ∙ c.if-is_word.true) (λ words. refl)

pub returns-in-6 : goal.returns-in-6
unfolding named_call schema_call call_of_cursor place_call record_call
returns-in-6 c = same_reading c.args.name.now named.update (reading (name.OfCursor cursor_name.Update)) (sym c.if-is_word-2.ensures) (λ words. refl)

pub returns-in-7 : goal.returns-in-7
unfolding named_call schema_call call_of_cursor place_call record_call temp_call
returns-in-7 c = same_reading c.args.name.now named.temp_put (reading (name.OfCursor cursor_name.TempPut)) (sym c.if-is_word-3.ensures) (λ words. refl)

pub returns-in-9 : goal.returns-in-9
unfolding named_call schema_call call_of_cursor place_call record_call
returns-in-9 c = same_reading c.args.name.now named.set_column (reading (name.OfCursor cursor_name.SetColumn)) (sym c.if-is_word-4.ensures) (λ words. refl)

pub returns-in-13 : goal.returns-in-13
unfolding named_call schema_call call_of_cursor place_call record_call
returns-in-13 c = same_reading c.args.name.now named.prepare_update (reading (name.OfCursor cursor_name.PrepareUpdate)) (sym c.if-is_word-5.ensures) (λ words. refl)

pub returns-in-14 : goal.returns-in-14
unfolding named_call schema_call call_of_cursor place_call record_call
returns-in-14 c = same_reading c.args.name.now named.retrieve_column (reading (name.OfCursor cursor_name.RetrieveColumn)) (sym c.if-is_word-6.ensures) (λ words. refl)
