-- `capi_script::script` meets its contract: a number too wide, and else what the writer answers in the part of the room that it is lent.
-- Assumes nothing.
use lib.Seq.{length-take-le}
use mathlib.Core.Path.{refl, sym}
use native.Mathlib.Omega.{arith}
use Rattle.capi_script.specs.CallsLaws.{requester_too_wide, tag_too_wide, scripted}
use Rattle.capi_script.proofs.script.Goals as goal

pub returns-then-requester-gt-LAST_REQUESTER : goal.returns-then-requester-gt-LAST_REQUESTER
returns-then-requester-gt-LAST_REQUESTER c = let both = requester_too_wide c.args.board.now c.args.requester c.args.tag c.args.room.now c.args.written.now c.if-requester-gt-LAST_REQUESTER.true in
    record { value = both.0; room_after = both.1.0; written_after = both.1.1 }

pub returns-then-tag-gt-LAST_TAG : goal.returns-then-tag-gt-LAST_TAG
returns-then-tag-gt-LAST_TAG c = let both = tag_too_wide c.args.board.now c.args.requester c.args.tag c.args.room.now c.args.written.now c.if-requester-gt-LAST_REQUESTER.false c.if-tag-gt-LAST_TAG.true in
    record { value = both.0; room_after = both.1.0; written_after = both.1.1 }

pub slice_bounds-write_script-end-2 : goal.slice_bounds-write_script-end-2
slice_bounds-write_script-end-2 c = sym (length-take-le _ _ (omega arith))

pub returns-in-Written : goal.returns-in-Written
returns-in-Written c = let both = scripted c.args.board.now c.args.requester c.args.tag c.args.room.now c.args.written.now c.if-requester-gt-LAST_REQUESTER.false c.if-tag-gt-LAST_TAG.false
    c.space_for-space.result c.space_for-space.ensures.value c.write_script.result c.write_script.ensures.0 _
    c.write_script.ensures.1 _ _ (rw c.in-Written.is (c.give_one.ensures.value, c.give_one.ensures.out_after)) in
    record { value = both.0; room_after = both.1.0; written_after = both.1.1 }

pub returns-in-Refused : goal.returns-in-Refused
returns-in-Refused c = let both = scripted c.args.board.now c.args.requester c.args.tag c.args.room.now c.args.written.now c.if-requester-gt-LAST_REQUESTER.false c.if-tag-gt-LAST_TAG.false
    c.space_for-space.result c.space_for-space.ensures.value c.write_script.result c.write_script.ensures.0 _
    c.write_script.ensures.1 _ _ (rw c.in-Refused.is (refl, refl)) in
    record { value = both.0; room_after = both.1.0; written_after = both.1.1 }
