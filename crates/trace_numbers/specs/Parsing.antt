-- What any numbers are taken for: fewer than six are 11, then a stage and value that none has, or more kept bytes than a front has, 10.
-- Assumes nothing.
use Rattle.std.specs.Prelude.{ℕ, Bool, cond, ◌&&◌, ◌||◌, List, [], ◌∷◌, ◌++◌, length, get_or, ltb, leb, eqb, Result, Ok, Err}
use Rattle.endian.specs.Endian.{be_bytes}
use Rattle.records.specs.declared.frame.Stage.{Stage}
use Rattle.records.specs.declared.frame.Stage.TheVariants.{Start, Other, Between, Length, Inside}
use Rattle.trace.specs.declared.Trace.{Trace}
use Rattle.trace.specs.Annotated.{front_length}
use Rattle.trace.specs.Trace.{tracing, fresh}

-- how many numbers a state has
abbrev pub size : ℕ
size = 6

-- a state, or the number of the first check that the numbers fail
pub data Parsed : Type 0 where
  Accepted : Trace → Parsed
  Refused : ℕ → Parsed

-- ## The stage

-- Start, Other and Between have no value, Length has a byte, Inside the bytes of a record that are to come, one at least
abbrev pub is_stage : ℕ → ℕ → Bool
is_stage number value =
    ltb number 3 && eqb value 0 || eqb number 3 && leb value 255 || eqb number 4 && ltb 0 value && leb value 65535

-- in the order of their numbers, with the value
unfoldable pub stages : ℕ → List Stage
stages value = Start ∷ Other ∷ Between ∷ Length value ∷ Inside value ∷ []

unfoldable pub stage_at : ℕ → ℕ → Stage
stage_at number value = get_or (stages value) number Start

-- ## In order

unfoldable pub head_at : ℕ → ℕ → List ℕ
head_at first second = be_bytes 8 first ++ be_bytes 8 second

unfoldable pub state_at : List ℕ → Trace
state_at ns = tracing (stage_at (get_or ns 0 0) (get_or ns 1 0)) (get_or ns 2 0) (get_or ns 3 0) (head_at (get_or ns 4 0) (get_or ns 5 0))

unfoldable pub is_state : List ℕ → Bool
is_state ns = is_stage (get_or ns 0 0) (get_or ns 1 0) && leb (get_or ns 3 0) front_length

unfoldable pub trace_of : List ℕ → Parsed
trace_of ns = cond (ltb (length ns) size) (Refused 11) (cond (is_state ns) (Accepted (state_at ns)) (Refused 10))

-- as the code holds it
abbrev pub taken_as : Parsed → Result Trace ℕ
taken_as (Accepted t) = Ok t
taken_as (Refused n) = Err n

-- its number, 0 where there is a state, and that state, a fresh one where there is none
abbrev pub number_in : Result Trace ℕ → ℕ
number_in (Ok t) = 0
number_in (Err n) = n

abbrev pub state_in : Result Trace ℕ → Trace
state_in (Ok t) = t
state_in (Err n) = fresh
