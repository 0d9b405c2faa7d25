-- `plan_pass::own_windows` meets its contract. Assumes nothing.
use Rattle.arith.specs.Powers.{PowerOfTwo}
use Rattle.plan_pass.specs.CallLaws.{windows_in_lem}
use mathlib.Core.Path.{sym, subst}
use Prim.Native.Nat.{max}
use native.Mathlib.Numerals.{add-one}
use Rattle.pools.specs.Pools.{granule}
use Rattle.plan_function.specs.declared.Extents.{Extents}
use Rattle.plan_function.specs.Kept.{extent_in}
use Rattle.plan_pass.proofs.own_windows.Goals as goal

pub place_windows-requires : goal.place_windows-requires
place_windows-requires c = λ q. subst (λ (x : Extents). PowerOfTwo (max (granule q) (extent_in x q).align)) (sym c.extents_at.ensures)
    (c.requires.2 q)

pub returns : goal.returns
returns c = windows_in_lem c.args.memo.now c.args.cursors.now c.args.i c.args.after (add-one c.args.i) c.extents_at.ensures
    c.cursors_at.ensures c.place_windows.ensures
