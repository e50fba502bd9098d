-- The invariant of `words`: the numbers so far, and then those of the tokens to come, are those of the tokens that were to come.
use Rattle.std.proofs.Common.{◌≡◌, vec_items}
use Rattle.text.specs.Readings.{after, words_of}
use Rattle.text.specs.Tokens.{to_come}
use Rattle.text.proofs.lists.words.Given as goal

abbrev pub invariant-loop-token : goal.invariant-loop-token
invariant-loop-token l =
    words_of (to_come l.fn.reader) ≡ after (vec_items l.all) (words_of (to_come l.token-iterator))
