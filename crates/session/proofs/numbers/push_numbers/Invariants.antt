use Rattle.std.proofs.Common.{vec_items}
use Rattle.words.specs.Words.{words, words_left}
use Rattle.session.proofs.Pushed.{Pushed}
use Rattle.session.proofs.numbers.push_numbers.Given as goal

abbrev pub invariant-loop-word : goal.invariant-loop-word
invariant-loop-word l = Pushed (vec_items l.initial.numbers) (words l.line) (vec_items l.numbers) (words_left l.word-iterator) l.had
