-- `tlp_layout::put_outcome` meets its contract. Assumes nothing.
use Rattle.tlp_layout.specs.Layout.{bit as bit_of, flag_bit, outcome_bytes}
use lib.ListN.{length-set}
use native.Mathlib.Omega.{arith}
use Rattle.endian.specs.SetsLaws.{sets_append}
use Rattle.endian.specs.EndianLaws.{length_be_bytes}
use Rattle.endian.specs.Endian.{be_bytes}
use mathlib.Core.List.{[], ◌∷◌}
use Prim.Native.Nat.{◌+◌, ◌*◌, ◌/◌, ◌%◌}
use mathlib.Core.Path.{refl, ◌∙◌}
use Rattle.tlp_layout.proofs.put_outcome.Goals as goal

pub bounds-room-7 : goal.bounds-room-7
bounds-room-7 c = simp length-set (omega arith)

pub returns : goal.returns
unfolding outcome_bytes
returns c = let after = (c.args.o.status * 32 + bit_of c.args.o.bcm * 16 + c.args.o.count / 256) ∷ (c.args.o.count % 256) ∷ [] in
    rw (c.from-bcm.ensures ∙ flag_bit c.args.o.bcm)
    (sets_append c.args.room.now 4 2 (be_bytes 2 c.args.o.completer) after (length_be_bytes 2 c.args.o.completer) c.write_be16.ensures refl)
