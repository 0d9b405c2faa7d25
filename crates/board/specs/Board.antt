-- Document 01, "The board" and "Numbers given back": the number of the first check that a board's bytes fail, 0 where they are lawful, and
-- what a lawful board says. Each check covers all records before the next starts. Assumes nothing.
use Rattle.std.specs.Prelude.{ℕ, Bool, true, cond, not, ◌||◌, List, [], ◌∷◌, map, length, get_or, drop, eqb, ltb}
use Rattle.lists.specs.Lists.{any}
use Rattle.records.specs.Limits.{most_functions}
use Rattle.records.specs.Records.{Parts, parts_of, any_part}
use Rattle.board_record.specs.declared.Host.{Host}
use Rattle.board_record.specs.declared.Function.{Function}
use Rattle.board_record.specs.Host.{host_length, host_of_part, host_wrong}
use Rattle.board_record.specs.Function.{is_short, function_of_part, wrong_in, readbacks_wrong}
use Rattle.board_order.specs.Order.{any_misplaced}

-- "no host record, or host not 30"
abbrev pub no_host : List (List ℕ) → Bool
no_host [] = true
no_host (p ∷ ps) = not (eqb (length p) host_length)

-- 20: "lengths not ending at the end; no host record, or host not 30; function under 6"
unfoldable pub misframed : Parts → Bool
misframed r = not r.whole || no_host r.parts || any_part is_short (drop 1 r.parts)

-- 21: "version not 1", and since document 02's E10 not 2 either
abbrev pub is_version : ℕ → Bool
is_version v = eqb v 1 || eqb v 2

-- ## The checks in order: 20 empty, 21, 20, 22, 24, 26, 23, 25

unfoldable pub from_readbacks : List Function → ℕ
from_readbacks fs = cond (any readbacks_wrong fs) 25 0

unfoldable pub from_order : List Function → ℕ
from_order fs = let rest = from_readbacks fs in cond (any_misplaced 0 [] fs) 23 rest

unfoldable pub from_edges : Host → List Function → ℕ
from_edges h fs = let rest = from_order fs in cond (host_wrong h) 26 rest

unfoldable pub from_headers : ℕ → Host → List (List ℕ) → ℕ
from_headers v h ps = let rest = from_edges h (map function_of_part ps) in cond (any_part (wrong_in v) ps) 24 rest

unfoldable pub from_count : ℕ → Host → List (List ℕ) → ℕ
from_count v h ps = let rest = from_headers v h ps in cond (ltb most_functions (length ps)) 22 rest

unfoldable pub from_frame : ℕ → Parts → ℕ
from_frame v r = let rest = from_count v (host_of_part (get_or r.parts 0 [])) (drop 1 r.parts) in cond (misframed r) 20 rest

unfoldable pub from_version : List ℕ → ℕ
from_version b = let rest = from_frame (get_or b 0 0) (parts_of (drop 1 b)) in cond (is_version (get_or b 0 0)) rest 21

unfoldable pub board_number : List ℕ → ℕ
board_number b = let rest = from_version b in cond (eqb (length b) 0) 20 rest

-- ## The decoded board

unfoldable pub host_of : List ℕ → Host
host_of b = host_of_part (get_or (parts_of (drop 1 b)).parts 0 [])

-- functions, numbered from 1
unfoldable pub functions_of : List ℕ → List Function
functions_of b = map function_of_part (drop 1 (parts_of (drop 1 b)).parts)
