-- `sheet_bytes::put_memory` meets its contract. Three stores that meet. Assumes nothing.
use mathlib.Core.Path.{refl}
use mathlib.Core.List.{◌++◌}
use Rattle.endian.specs.Endian.{le_bytes}
use Rattle.endian.specs.SetsLaws.{sets_append}
use Rattle.sheet_bytes.specs.Layout.{window_bytes}
use Rattle.sheet_bytes.proofs.put_memory.Goals as goal

pub returns : goal.returns
unfolding le_bytes
returns c = sets_append c.args.out.now c.args.at 8 (window_bytes c.args.low ++ window_bytes c.args.high)
    (le_bytes 4 c.args.high.upper_base ++ le_bytes 4 c.args.high.upper_limit) refl
    (sets_append c.args.out.now c.args.at 4 (window_bytes c.args.low) (window_bytes c.args.high) refl c.put_window.ensures
    c.put_window-2.ensures) c.put_le_pair.ensures
