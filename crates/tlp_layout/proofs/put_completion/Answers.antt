-- `tlp_layout::put_completion` meets its contract. Assumes nothing.
use Rattle.tlp_layout.specs.Layout.{outcome_bytes, completion_bytes}
use Rattle.tlp_layout.specs.LayoutLaws.{length_outcome}
use lib.ListN.{length-set}
use native.Mathlib.Omega.{arith}
use Rattle.endian.specs.SetsLaws.{sets_append}
use Rattle.endian.specs.Endian.{be_bytes}
use mathlib.Core.List.{[], ◌∷◌, ◌++◌}
use Prim.Native.Nat.{◌%◌}
use mathlib.Core.Path.{refl}
use Rattle.tlp_layout.proofs.put_completion.Goals as goal

pub bounds-room-11 : goal.bounds-room-11
bounds-room-11 c = simp length-set (omega arith)

pub shape_of-room : goal.shape_of-room
shape_of-room c = simp length-set (omega arith)

pub returns : goal.returns
unfolding completion_bytes outcome_bytes be_bytes
returns c = let id = be_bytes 2 c.args.h.requester in
    let outcome = outcome_bytes c.args.o in
    let six = sets_append c.args.room.now 4 4 outcome id (length_outcome c.args.o) c.put_outcome.ensures c.write_be16.ensures in
    sets_append c.args.room.now 4 6 (outcome ++ id) (c.args.h.tag % 256 ∷ c.args.o.lower ∷ []) refl six refl
