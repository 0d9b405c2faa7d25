-- `capi_packet::write_packet` meets its contract: by what the writer answers in the part of the room that it is lent. Assumes nothing.
use lib.Seq.{length-take-le}
use mathlib.Core.Path.{refl, sym}
use native.Mathlib.Omega.{arith}
use Rattle.capi_packet.specs.CallsLaws.{wrote}
use Rattle.capi_packet.proofs.write_packet.Goals as goal

pub slice_bounds-write-end-2 : goal.slice_bounds-write-end-2
slice_bounds-write-end-2 c = sym (length-take-le _ _ (omega arith))

pub returns-in-Written : goal.returns-in-Written
returns-in-Written c = let both = wrote c.args.p c.args.room.now c.args.written.now c.space_for-space.result c.space_for-space.ensures.value c.write.result c.write.ensures.0 _
    c.write.ensures.1 _ _ (rw c.in-Written.is (c.give_one.ensures.value, c.give_one.ensures.out_after)) in
    record { value = both.0; room_after = both.1.0; written_after = both.1.1 }

pub returns-in-Refused : goal.returns-in-Refused
returns-in-Refused c = let both = wrote c.args.p c.args.room.now c.args.written.now c.space_for-space.result c.space_for-space.ensures.value c.write.result c.write.ensures.0 _
    c.write.ensures.1 _ _
    (rw c.in-Refused.is (refl, refl)) in
    record { value = both.0; room_after = both.1.0; written_after = both.1.1 }
