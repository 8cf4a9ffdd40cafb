use Rattle.std.proofs.Common.{[], ◌∷◌, ◌++◌, ℤ, vec_items, ap, ◌∙◌, w32, w64, SFits, rules}
use Rattle.std.proofs.lemmas.Int.{to_z-of_z}
use Rattle.words.specs.Words.{words, words_left}
use Rattle.session.proofs.Pushed.{pushed_more, pushed_all, pushed_none}
use Rattle.session.proofs.numbers.push_numbers.Goals as goal

pub returns : goal.returns
returns c =
    pushed_all (vec_items c.args.numbers.now) (vec_items c.loop-word.numbers) (words c.args.line.now) (words_left c.loop-word.word-iterator) c.len-had.result c.loop-word.invariant c.in-None.ensures.steps.0

pub returns-in_default : goal.returns-in_default
returns-in_default c =
    pushed_none (vec_items c.args.numbers.now) (vec_items c.loop-word.numbers) (vec_items c.truncate.new.self) (words c.args.line.now) (words_left c.loop-word.word-iterator) (words_left c.next.new.self) c.len-had.result c.in-Some.word.now
    c.loop-word.invariant c.in-Some.ensures.steps c.in_default.ensures.value c.truncate.ensures.items

pub loop-word-preserved : goal.loop-word-preserved
loop-word-preserved c =
    let f : SFits w64 c.in-Some-number.z = search rules in
    let g : SFits w32 c.kept.result = search rules in
    pushed_more (vec_items c.args.numbers.now) (vec_items c.loop-word.numbers) (vec_items c.push.new.self) (words c.args.line.now) (words_left c.loop-word.word-iterator) (words_left c.next.new.self) c.len-had.result c.in-Some.word.now c.in-Some-number.z
    c.loop-word.invariant c.in-Some.ensures.steps c.in-Some-number.ensures.value
    ((simp to_z-of_z at c.in_ok-push.ensures.items) ∙ ap (λ (x : ℤ). vec_items c.loop-word.numbers ++ (x ∷ [])) (simp to_z-of_z at c.kept.ensures))
