use Rattle.std.proofs.Common.{◌<◌, length, get_or, sym, ◌∙◌, arith, rules}
use Rattle.std.proofs.lemmas.Bool.{eqb-true}
use Rattle.words.proofs.Figures.{reading_more, reading_stops, reading_ends, reading_fits, reading_small, digit_le, too_short, too_long}
use Rattle.words.proofs.number.figures.Goals as goal
use Rattle.words.proofs.number.figures.Goals.{then-is_empty-via-then-is_empty, then-is_empty-via-else-is_empty+then-word-gt-MOST}

pub returns-then-is_empty-clause-value : goal.returns-then-is_empty-clause-value
returns-then-is_empty-clause-value c =
    elim c.then-is_empty.branch [ then-is_empty-via-then-is_empty w ↦ sym (too_short c.args.word.now (eqb-true (length c.args.word.now) 0 (sym c.is_empty.ensures ∙ w.if-is_empty.true))) | then-is_empty-via-else-is_empty+then-word-gt-MOST w ↦ sym (too_long c.args.word.now w.if-word-gt-MOST.true) ]

pub returns-then-not-is_ascii_digit : goal.returns-then-not-is_ascii_digit
returns-then-not-is_ascii_digit c =
    record { value = sym (reading_stops c.args.word.now c.loop-byte.byte-index c.loop-byte.n c.loop-byte.invariant (omega arith) (sym c.is_ascii_digit.ensures.value ∙ c.if-not-is_ascii_digit.true)); small = tt }

pub overflow_mul-n : goal.overflow_mul-n
overflow_mul-n c = omega (arith, reading_fits c.args.word.now c.loop-byte.byte-index c.loop-byte.n c.loop-byte.invariant (omega arith))

pub overflow_add-n : goal.overflow_add-n
overflow_add-n c =
    let le : get_or c.args.word.now c.loop-byte.byte-index 0 < 58 = digit_le _ (sym c.is_ascii_digit.ensures.value ∙ c.if-not-is_ascii_digit.false) in
    omega (arith, reading_fits c.args.word.now c.loop-byte.byte-index c.loop-byte.n c.loop-byte.invariant (omega arith))

pub loop-byte-preserved : goal.loop-byte-preserved
loop-byte-preserved c =
    let is = sym c.is_ascii_digit.ensures.value ∙ c.if-not-is_ascii_digit.false in
    reading_more c.args.word.now c.loop-byte.byte-index c.loop-byte.n c.loop-byte.invariant (omega arith) is (digit_le _ is)

pub returns : goal.returns
returns c =
    let some : 0 < length c.args.word.now = search rules in
    record { value = sym (reading_ends c.args.word.now c.loop-byte.byte-index c.loop-byte.n c.loop-byte.invariant (omega arith) some (omega arith)); small = reading_small c.args.word.now c.loop-byte.byte-index c.loop-byte.n c.loop-byte.invariant (omega arith) }
