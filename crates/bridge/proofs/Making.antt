-- The table of a file from what was filled. Assumes nothing.
use Rattle.std.proofs.Common.{◌≡◌, ℕ, ◌-◌, Bool, false, Option, unwrap_or, ap, min, List, ℤ, pos, ◌*ℤ◌, refl, subst}
use Rattle.almanac.specs.Refuses.{Taken}
use Rattle.crossing.specs.Above.{above}
use Rattle.crossing.specs.Events.{crossings}
use Rattle.crossing.specs.Promise.{Listed}
use Rattle.height.specs.Almanacs.{Almanac, ticks}
use Rattle.height.specs.Files.{almanac_in}
use Rattle.height.specs.Spans.{unit}
use Rattle.search.specs.Walks.{Course}
use Rattle.sight.specs.Sights.{over_level}
use Rattle.bridge.specs.declared.table.Filled.{Filled}
use Rattle.bridge.specs.Answers.{nothing}
use Rattle.bridge.specs.Tables.{FilledWith, TableMade, first_rises}
use Rattle.bridge.proofs.Tables.{take_turns}

pub made : Listed → (xs : List ℤ) (line level : ℤ) (t end stop : ℕ) (n : Almanac) (into out : List ℕ) (r : Filled) → Taken xs line t 0 → n ≡ almanac_in 1024 xs → level ≡ line *ℤ pos 1073741824 → stop ≡ min end (ticks (almanac_in 1024 xs)) → FilledWith (over_level n level stop) t into out r → TableMade xs line t end into out (record { refused = nothing; entries = r.entries; rises = unwrap_or r.first false; evaluations = r.evaluations })
made listed xs line level t end stop n into out r taken n_is level-is stop_is filled = record {
  taken = taken;
  entries = crossings (above m line) t (min end (ticks m) - t);
  listed = (refl, at.steps);
  written = at.written;
  is = λ i. record { refused = nothing; entries = at.entries i; rises = rises i; evaluations = r.evaluations };
  turns = take_turns listed (above m line) t (min end (ticks m) - t) (crossings (above m line) t (min end (ticks m) - t)) refl (unwrap_or r.first false) rises;
}
  where
    m : Almanac
    m = almanac_in 1024 xs

    same : over_level n level stop ≡ over_level m (line *ℤ pos (unit m.fine)) (min end (ticks m))
    same = λ i. over_level (n_is i) (level-is i) (stop_is i)

    at : FilledWith (over_level m (line *ℤ pos (unit m.fine)) (min end (ticks m))) t into out r
    at = subst (λ (k : Course). FilledWith k t into out r) same filled

    rises : unwrap_or r.first false ≡ first_rises (crossings (above m line) t (min end (ticks m) - t))
    rises = ap (λ (o : Option Bool). unwrap_or o false) at.first
