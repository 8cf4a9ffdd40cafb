use Rattle.std.proofs.Common.{◌≡◌, [], length, Some, None, ap, refl, true, false, arith, rules, tests}
use Rattle.std.specs.Option.{unwrap_or}
use Rattle.std.proofs.lemmas.Iterator.{IsFirst-from_position, YieldsList-from_slice}
use Rattle.words.specs.Words.{blank, words_left}
use Rattle.words.proofs.Splits.{lead, no_word, first_word, counted}
use Rattle.words.proofs.split.WordsIterator.next.Goals as goal

pub returns-in_default-clause-steps : goal.returns-in_default-clause-steps
returns-in_default-clause-steps c =
    let line = c.args.self.now.rest.now in
    let none = no_word line (counted true line None
    (IsFirst-from_position _ _ None (λ x. blank x ≡ false) (λ x. blank x ≡ true) c.in_default.ensures.ran (YieldsList-from_slice line cc) (λ x q k. search (rules, tests)) (λ x q k. search (rules, tests)))) in
    let nothing_left = no_word [] refl in
    search (rules, tests)

pub returns-clause-steps : goal.returns-clause-steps
returns-clause-steps c =
    let line = c.args.self.now.rest.now in
    let rest = c.split_at.result.1.now in
    let first = IsFirst-from_position _ _ (Some c.in-Some.start) (λ x. blank x ≡ false) (λ x. blank x ≡ true) c.in-Some.ensures.ran (YieldsList-from_slice line cc) (λ x q k. search (rules, tests)) (λ x q k. search (rules, tests)) in
    let start : lead true line ≡ c.in-Some.start = counted true line (Some c.in-Some.start) first in
    let ended : lead false rest ≡ unwrap_or c.position-2.result (length rest) = counted false rest c.position-2.result
    (IsFirst-from_position _ _ c.position-2.result (λ x. blank x ≡ true) (λ x. blank x ≡ false) c.position-2.ensures.ran (YieldsList-from_slice rest cc) (λ x q k. search (rules, tests)) (λ x q k. search (rules, tests))) in
    first_word line rest c.split_at-2.result.0.now c.split_at-2.result.1.now (omega (arith, start, first.0)) (cc) (cc) (cc)

pub returns-clause-goes : goal.returns-clause-goes
returns-clause-goes c =
    let e : length (words_left c.args.self.now) ≡ _ = ap length (returns-clause-steps c) in
    search (rules, arith)
