-- `tlp_layout::put_message` meets its contract. Assumes nothing.
use Rattle.tlp_layout.specs.Layout.{message_bytes}
use lib.ListN.{length-set}
use native.Mathlib.Omega.{arith}
use Rattle.endian.specs.SetsLaws.{sets_append}
use Rattle.endian.specs.EndianLaws.{length_be_bytes}
use Rattle.endian.specs.Endian.{be_bytes}
use mathlib.Core.List.{[], ◌∷◌}
use Prim.Native.Nat.{◌%◌}
use mathlib.Core.Path.{refl}
use Rattle.tlp_layout.proofs.put_message.Goals as goal

pub bounds-room-7 : goal.bounds-room-7
bounds-room-7 c = simp length-set (omega arith)

pub returns : goal.returns
unfolding message_bytes
returns c = sets_append c.args.room.now 4 2 (be_bytes 2 c.args.h.requester) (c.args.h.tag % 256 ∷ c.args.code ∷ []) (length_be_bytes 2 c.args.h.requester) c.write_be16.ensures refl
