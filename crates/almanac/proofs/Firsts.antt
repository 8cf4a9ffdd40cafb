-- What the search found, as an answer. Assumes nothing.
use Rattle.std.proofs.Common.{sym, ◌≡◌, ℕ, min, Bool, true, List, ℤ, pos, ◌*ℤ◌, Option, unwrap_or, refl, ap, ◌∙◌, subst, arith, w64, SFits, to_z, of_z}
use Rattle.std.proofs.lemmas.Int.{to_z-of_z}
use Rattle.crossing.specs.Above.{over, above}
use Rattle.crossing.specs.Events.{event_number, happens}
use Rattle.crossing.specs.declared.event.Event.{Event}
use Rattle.crossing.specs.declared.event.Event.TheVariants.{Above, Rise, Set}
use Rattle.height.specs.Almanacs.{Almanac, ticks}
use Rattle.height.specs.Files.{almanac_in}
use Rattle.height.specs.Spans.{unit}
use Rattle.search.specs.Walks.{Course, First, Walked, start_for, wanted_for}
use Rattle.sight.specs.Sights.{over_level}
use Rattle.almanac.specs.Answers.{SaysFirst, CountsFirst, FirstAsked, asked}
use Rattle.almanac.specs.Refuses.{Taken}

-- the answer of the search over the body, the level and the end that the code handed it
pub answered : (m n : Almanac) (line level : ℤ) (event : Event) (t till k stop end : ℕ) (o : Option ℕ) → n ≡ m → level ≡ line *ℤ pos (unit m.fine) → end ≡ ticks m → stop ≡ min end (ticks m) → First (happens event (over n level)) true t stop o → Walked (over_level n level stop) (wanted_for event) (start_for event t) (unwrap_or o stop) till k → SaysFirst (happens event (above m line)) t (ticks m) o × CountsFirst m line event t o k
answered m n line level event t till k stop end o n_is level-is end_is stop_is first walked = (
  subst (λ (x : Course). First (happens event x.so) true t x.stop o) same first,
  (till, subst (λ (x : Course). Walked x (wanted_for event) (start_for event t) (unwrap_or o x.stop) till k) same walked),
)
  where
    stop_at : stop ≡ ticks m
    stop_at = omega arith

    same : over_level n level stop ≡ over_level m (line *ℤ pos (unit m.fine)) (ticks m)
    same = λ i. over_level (n_is i) (level-is i) (stop_at i)

-- an event and its number ask for the same
pub asked_as : (e : Event) (what : ℕ) (f : ℕ → Bool) → event_number e ≡ what → happens e f ≡ asked what f
asked_as e what f same = by_case e ∙ ap (λ (w : ℕ). asked w f) same
  where
    by_case : (e : Event) → happens e f ≡ asked (event_number e) f
    by_case Above = refl
    by_case Rise = refl
    by_case Set = refl

-- the first tick of what was asked for by its number, over the line that the code holds as its bits
pub by_number : {xs : List ℤ} {line : ℤ} {t what n : ℕ} {o : Option ℕ} (r : Option ℕ) → SFits w64 line → o ≡ r → FirstAsked xs (to_z w64 (of_z w64 line)) t what o n → Taken xs line t what × SaysFirst (asked what (above (almanac_in 1024 xs) line)) t (ticks (almanac_in 1024 xs)) r
by_number {xs} {line} {t} {what} {n} {o} r fits is told =
    let a : FirstAsked xs line t what o n = subst (λ (z : ℤ). FirstAsked xs z t what o n) (to_z-of_z w64 line fits) told in (
      a.taken,
      subst (SaysFirst (asked what (above (almanac_in 1024 xs) line)) t (ticks (almanac_in 1024 xs))) is
          (subst (λ (f : ℕ → Bool). SaysFirst f t (ticks (almanac_in 1024 xs)) o) (asked_as a.event what (above (almanac_in 1024 xs) line) a.by_number) a.first),
    )

-- what was found, as it is handed on
pub handed : (m : Almanac) (line : ℤ) (event : Event) (t : ℕ) (o r : Option ℕ) (k n : ℕ) → r ≡ o → n ≡ k → SaysFirst (happens event (above m line)) t (ticks m) o × CountsFirst m line event t o k → SaysFirst (happens event (above m line)) t (ticks m) r × CountsFirst m line event t r n
handed m line event t o r k n same count p = (
  subst (SaysFirst (happens event (above m line)) t (ticks m)) (sym same) p.0,
  subst (λ (x : ℕ). CountsFirst m line event t r x) (sym count) (subst (λ (x : Option ℕ). CountsFirst m line event t x k) (sym same) p.1),
)
