-- A good sheet, told by bus numbers and register values alone, beyond checks 20 to 29: bus ranges, then BARs and open windows, lie within
-- their parent's, and siblings are apart. Command words do not appear. Each part is a record of its own, named by the number that document
-- 02 gives its refusal. Assumes nothing.
use Rattle.std.specs.Prelude.{List}
use Rattle.lists.specs.ListLaws.{all_imp, some_imp}
use Rattle.walk.specs.Ranges.{Inside, Within}
use Rattle.walk.proofs.Ranges.{within_of_inside}
use Rattle.walk.specs.Registers.{Registers, items}
use Rattle.walk.specs.Good.{Good, Host, InWindowAbove, Sound}

pub window_above_within : (fs : List Registers) → InWindowAbove Inside fs → InWindowAbove Within fs
window_above_within fs above =
    all_imp _ _ fs above (λ b held is.
    all_imp _ _ (items fs) (held is) (λ i lies at.
    some_imp _ _ (λ w inside. within_of_inside inside) b.windows (lies at)))

pub sound_of_good : {host : Host} {fs : List Registers} → Good host fs → Sound host fs
sound_of_good {host} {fs} good =
    record {
      bridges_rise = good.bridges_rise;
      tree = good.tree;
      in_window_above = window_above_within fs good.nested.in_window_above;
      disjoint
          = good.disjoint;
    }
