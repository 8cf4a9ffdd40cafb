-- What the exported table answers and writes. Assumes nothing: these are definitions.
use Rattle.std.specs.Prelude.{◌≡◌, ℕ, zero, suc, ◌-◌, ◌<◌, ◌≤◌, Bool, false, not, ◌⊎◌, Option, Some, None, unwrap_or, List, [], ◌∷◌, length, ℤ, slice_index, slice_index_or}
use Rattle.almanac.specs.Answers.{ListsCrossings}
use Rattle.almanac.specs.Refuses.{Taken}
use Rattle.crossing.specs.Events.{crossings}
use Rattle.crossing.specs.declared.event.Crossing.{Crossing}
use Rattle.height.specs.Files.{almanac_in}
use Rattle.search.specs.Walks.{Course, Steps}
use Rattle.bridge.specs.declared.answer.Refused.{Refused}
use Rattle.bridge.specs.declared.answer.TableAnswer.{TableAnswer}
use Rattle.bridge.specs.declared.table.Filled.{Filled}
use Rattle.bridge.specs.Answers.{RefusedAs, nothing}

-- whether the first of them is a rising, if there is one
abbrev pub first_kind : List Crossing → Option Bool
first_kind [] = None
first_kind (c ∷ cs) = Some c.rises

-- the same as it is handed out: false if there is none
abbrev pub first_rises : List Crossing → Bool
first_rises cs = unwrap_or (first_kind cs) false

-- what the k-th of those that take turns is, if the first is w
abbrev pub turned : Bool → ℕ → Bool
turned w zero = w
turned w (suc k) = not (turned w k)

-- The ticks of the crossings stand in order from the first place on, as far as there is room, and what lay behind them stays.
pub record Copied (cs : List Crossing) (into out : List ℕ) : Type 0 where
  pub ticks : (k : ℕ) (d : Crossing) → k < length cs → k < length into → slice_index out k ≡ (slice_index_or cs k d).tick
  pub behind : (k : ℕ) → length cs ≤ k → slice_index out k ≡ slice_index into k

-- all risings and settings of a row from tick t on, and how many ticks its walk evaluates
pub record FilledWith (m : Course) (t : ℕ) (into out : List ℕ) (r : Filled) : Type 0 where
  pub entries : r.entries ≡ length (crossings m.so t (m.stop - t))
  pub first : r.first ≡ first_kind (crossings m.so t (m.stop - t))
  pub written : Copied (crossings m.so t (m.stop - t)) into out
  pub steps : Steps m (t - 1) t r.evaluations

-- what was filled, as it is handed out: where there is no entry, the first is said to be no rising
abbrev pub table_told : Filled → TableAnswer
table_told f = record { refused = nothing; entries = f.entries; rises = unwrap_or f.first false; evaluations = f.evaluations }

-- the table of a question that is taken
pub record TableMade (xs : List ℤ) (line : ℤ) (t end : ℕ) (into out : List ℕ) (r : TableAnswer) : Type 0 where
  pub taken : Taken xs line t 0
  pub entries : List Crossing
  pub listed : ListsCrossings (almanac_in 1024 xs) line t end entries r.evaluations
  pub written : Copied entries into out
  pub is : r ≡ record { refused = nothing; entries = length entries; rises = first_rises entries; evaluations = r.evaluations }
  pub turns : (k : ℕ) (d : Crossing) → k < length entries → (slice_index_or entries k d).rises ≡ turned r.rises k

abbrev pub none_made : Refused → TableAnswer
none_made refused = record { refused = refused; entries = 0; rises = false; evaluations = 0 }

-- The table; or it is refused, and nothing is written.
abbrev pub TableSays : (xs : List ℤ) (line : ℤ) (t end : ℕ) (into out : List ℕ) → TableAnswer → Type 0
TableSays xs line t end into out r =
    TableMade xs line t end into out r
    ⊎ ((out ≡ into) × RefusedAs xs line t 0 r.refused × (r ≡ none_made r.refused))
