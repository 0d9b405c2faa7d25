-- Byte 0 of messages, and the kind and routing that the table of pairs has for each. Assumes nothing.
use Rattle.std.specs.Prelude.{ℕ, ◌%◌, Bool, cond, ◌||◌, eqb, ltb}
use Rattle.pairs.specs.declared.MessageKind.{MessageKind}
use Rattle.pairs.specs.declared.MessageKind.TheVariants.{Msg, MsgD}
use Rattle.pairs.specs.declared.MessageRouting.{MessageRouting}
use Rattle.pairs.specs.declared.MessageRouting.TheVariants.{ToRoot, ByAddress, ById, Broadcast, Local, Gathered}

abbrev pub is_message : ℕ → Bool
is_message b =
    eqb b 0x30
    || (eqb b 0x31
    || (eqb b 0x32
    || (eqb b 0x33
    || (eqb b 0x34
    || (eqb b 0x35 || (eqb b 0x70 || (eqb b 0x71 || (eqb b 0x72 || (eqb b 0x73 || (eqb b 0x74 || eqb b 0x75))))))))))

abbrev pub message_kind : ℕ → MessageKind
message_kind b = cond (ltb b 0x40) Msg MsgD

abbrev pub message_routing : ℕ → MessageRouting
message_routing b =
    cond (eqb (b % 8) 0) ToRoot
    (cond (eqb (b % 8) 1) ByAddress
    (cond (eqb (b % 8) 2) ById (cond (eqb (b % 8) 3) Broadcast (cond (eqb (b % 8) 4) Local Gathered))))
