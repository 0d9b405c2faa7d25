-- Which number a lawful board is refused with: 30 where the bus numbers run out, 31 to 33 where a pool does, in that order. Assumes
-- nothing.
use Rattle.std.specs.Prelude.{◌≡◌, Bool, cond, ◌&&◌, List, ℕ, suc, ◌+◌, ◌≤◌, ltb}
use Rattle.lists.specs.Lists.{All, any}
use Rattle.plan_rule.specs.Pools.{Pool, low, high, io, refusal}
use Rattle.plan_rule.specs.Records.{Host, Function}
use Rattle.plan_rule.specs.Placing.{placed}
use Rattle.plan_rule.specs.Layout.{Placed, end_of, is_placed_on}
use Rattle.plan_rule.specs.Numbering.{bridges}

-- First bus + bridges > last bus
abbrev pub out_of_buses : Host → List Function → Bool
out_of_buses h fs = ltb h.last_bus (h.first_bus + bridges fs)

-- Is it a root bus item of pool q with its last byte above the pool's last?
abbrev pub is_past : Host → Pool → Placed → Bool
is_past h q x = is_placed_on 0 q x && ltb (suc (h.last q)) (end_of x)

unfoldable pub out_of_pool : Host → List Function → Pool → Bool
out_of_pool h fs q = any (is_past h q) (placed h fs)

-- No root bus item of pool q ends past it
abbrev pub Kept : Host → List Function → Pool → Type 0
Kept h fs q = All (λ x. x.piece.bus ≡ 0 → x.piece.pool ≡ q → end_of x ≤ suc (h.last q)) (placed h fs)

-- 0 where nothing runs out
unfoldable pub refusal_of : Host → List Function → ℕ
refusal_of h fs =
    cond (out_of_buses h fs) 30
    (cond (out_of_pool h fs low) (refusal low) (cond (out_of_pool h fs high) (refusal high) (cond (out_of_pool h fs io) (refusal io) 0)))
