-- `sheet_bytes::put_common` meets its contract. Four stores that meet; a byte in two is the byte, then 0. Assumes nothing.
use mathlib.Core.Path.{refl, ap, ◌∙◌}
use mathlib.Core.List.{List, ◌++◌}
use Prim.Native.Nat.{ℕ}
use native.Mathlib.Omega.{arith}
use lib.Seq.{sets}
use Rattle.endian.specs.Endian.{be_bytes, le_bytes}
use Rattle.endian.specs.SetsLaws.{sets_append}
use Rattle.sheet_bytes.specs.Layout.{zeros, common_bytes}
use Rattle.sheet_bytes.proofs.LayoutLaws.{le_bytes_of_byte}
use Rattle.sheet_bytes.proofs.put_common.Goals as goal

pub returns : goal.returns
unfolding common_bytes le_bytes be_bytes
returns c = let front = zeros 4 ++ le_bytes 2 c.args.command ++ zeros 8 in
    sets_append c.args.out.now c.args.at 14 front (le_bytes 2 c.args.header) refl
    (sets_append c.args.out.now c.args.at 6 (zeros 4 ++ le_bytes 2 c.args.command) (zeros 8) refl
    (sets_append c.args.out.now c.args.at 4 (zeros 4) (le_bytes 2 c.args.command) refl c.write_le32.ensures c.write_le16.ensures)
    c.write_be64.ensures) c.write_le16-2.ensures
    ∙ ap (λ (l : List ℕ). sets c.args.out.now c.args.at (front ++ l)) (le_bytes_of_byte c.args.header (omega arith))
