-- `capi_packet::write` meets its contract: by what the twenty numbers are taken for. Assumes nothing.
use mathlib.Core.Path.{refl}
use Rattle.capi_answers.proofs.AnswersLaws.{left_same}
use Rattle.capi_packet.specs.CallsLaws.{fields_agree}
use Rattle.capi_packet.proofs.write.Goals as goal

pub returns-in-Accepted : goal.returns-in-Accepted
returns-in-Accepted c = let same = fields_agree c.args.room.now c.args.packet.now c.fields_of.result c.fields_of.ensures in
    record { value = rw (same.0, c.in-Accepted.is) c.write_packet.ensures.value; room_after = rw (same.1, c.in-Accepted.is) c.write_packet.ensures.room_after; written_after = rw (same.0, c.in-Accepted.is) c.write_packet.ensures.written_after }

pub returns-in-Refused : goal.returns-in-Refused
returns-in-Refused c = let same = fields_agree c.args.room.now c.args.packet.now c.fields_of.result c.fields_of.ensures in
    record { value = rw (same.0, c.in-Refused.is) refl; room_after = rw (same.1, c.in-Refused.is) (left_same c.args.written.now c.args.room.now); written_after = rw (same.0, c.in-Refused.is) refl }
