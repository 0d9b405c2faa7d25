-- What the calls return that tell who fails an audit, and what does not fit of a board, and what the slice then holds. Assumes nothing.
use Rattle.std.specs.Prelude.{cond, List, [], ◌∷◌, ◌++◌, ℕ, eqb, ltb, length, drop}
use Rattle.finding.specs.declared.Party.{Party}
use Rattle.finding.specs.declared.Finding.{Finding}
use Rattle.plan_needs.specs.declared.Needs.{Needs}
use Rattle.plan_where.specs.declared.PlanFinding.{PlanFinding}

-- ## A number, and numbers in the slice

-- a slice too short for them is 11, tried last
abbrev pub told_number : ℕ → ℕ → List ℕ → ℕ
told_number count number slice = cond (ltb (length slice) count) (cond (eqb number 0) 11 number) number

-- with no room for all of them it stays
abbrev pub told_filled : List ℕ → List ℕ → List ℕ
told_filled numbers slice = cond (ltb (length slice) (length numbers)) slice (numbers ++ drop (length numbers) slice)

abbrev pub party_numbers : Party → List ℕ
party_numbers p = p.number ∷ p.place ∷ []

-- ## Who fails an audit: the record, its place, the other record, its place

abbrev pub who_numbers : Finding → List ℕ
who_numbers f = party_numbers f.party ++ party_numbers f.other

abbrev pub who_number : Finding → List ℕ → ℕ
who_number f = told_number 4 f.number

abbrev pub who_filled : Finding → List ℕ → List ℕ
who_filled f = told_filled (who_numbers f)

-- ## What does not fit of a board: the same, then what is needed, then the alignments. A slice with room for all but these gets all but
-- these

abbrev pub need_numbers : Needs → List ℕ
need_numbers n = n.buses ∷ n.low ∷ n.high ∷ n.io ∷ []

abbrev pub align_numbers : Needs → List ℕ
align_numbers n = n.low_align ∷ n.high_align ∷ n.io_align ∷ []

abbrev pub plan_numbers : PlanFinding → List ℕ
plan_numbers f = party_numbers f.party ++ party_numbers f.other ++ need_numbers f.needs

abbrev pub all_numbers : PlanFinding → List ℕ
all_numbers f = plan_numbers f ++ align_numbers f.needs

abbrev pub plan_number : PlanFinding → List ℕ → ℕ
plan_number f = told_number 8 f.number

abbrev pub plan_filled : PlanFinding → List ℕ → List ℕ
plan_filled f slice = cond (ltb (length slice) 11) (told_filled (plan_numbers f) slice) (told_filled (all_numbers f) slice)
