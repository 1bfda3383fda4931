use Rattle.std.proofs.Common.{List, ℕ, ap}
use Rattle.script_words.specs.Words.{words_of}
use Rattle.script_text.specs.Calls.{move_call}
use Rattle.script_text.proofs.frequent_calls.frequent_way.Goals as goal

pub returns-then-is_the_word : goal.returns-then-is_the_word
unfolding move_call
returns-then-is_the_word c = λ cursor. ap (λ (text : List ℕ). move_call cursor (words_of text)) (c.is_the_word.ensures c.if-is_the_word.true)

pub returns-then-is_the_word-2 : goal.returns-then-is_the_word-2
unfolding move_call
returns-then-is_the_word-2 c = λ cursor. ap (λ (text : List ℕ). move_call cursor (words_of text)) (c.is_the_word-else-is_the_word.ensures c.if-is_the_word-2.true)
