-- `tlp_layout::put_body` meets its contract. Assumes nothing.
use Rattle.packet.proofs.VerdictLaws.{memory_of_lawful, io_of_lawful, config_of_lawful, completion_of_lawful}
use Rattle.tlp_layout.specs.Layout.{request_bytes, address_bytes, target_bytes, message_bytes}
use Rattle.tlp_layout.specs.LayoutLaws.{length_request, length_message, form_of_message}
use Rattle.endian.specs.Endian.{be_bytes}
use Rattle.endian.specs.SetsLaws.{sets_append}
use native.Mathlib.Omega.{arith}
use Rattle.tlp_layout.proofs.put_body.Goals as goal

pub put_request-requires : goal.put_request-requires
put_request-requires c = let b = memory_of_lawful _ _ _ _ _ (rw c.in-Memory.is at c.requires.0) in
    (c.requires.1, b.0.last, b.0.first)

pub put_address-requires : goal.put_address-requires
put_address-requires c = let whole = rw c.in-Memory.is at c.requires.2 in
    omega (arith, c.put_request.auto.room, c.requires.1)

pub put_request-requires-in-Io : goal.put_request-requires-in-Io
put_request-requires-in-Io c = let b = io_of_lawful _ _ _ _ _ (rw c.in-Io.is at c.requires.0) in
    (c.requires.1, b.0.last, b.0.first)

pub put_address-requires-in-Io : goal.put_address-requires-in-Io
put_address-requires-in-Io c = let whole = rw c.in-Io.is at c.requires.2 in
    omega (arith, c.put_request-in-Io.auto.room, c.requires.1)

pub put_request-requires-in-Config : goal.put_request-requires-in-Config
put_request-requires-in-Config c = let b = config_of_lawful _ _ _ _ _ (rw c.in-Config.is at c.requires.0) in
    (c.requires.1, b.0.last, b.0.first)

pub put_target-requires : goal.put_target-requires
put_target-requires c = let b = config_of_lawful _ _ _ _ _ (rw c.in-Config.is at c.requires.0) in
    (omega (arith, c.put_request-in-Config.auto.room, c.requires.1), b.2)

pub put_completion-requires : goal.put_completion-requires
put_completion-requires c = let b = completion_of_lawful _ _ _ _ (rw c.in-Completion.is at c.requires.0) in
    (c.requires.1, b.1)

pub put_message-requires : goal.put_message-requires
put_message-requires c = c.requires.1

pub write_be64-requires : goal.write_be64-requires
write_be64-requires c = let four = form_of_message _ _ _ _ _ _ (rw c.in-Message.is at c.requires.0) in
    let whole = rw c.in-Message.is at c.requires.2 in
    omega (arith, c.put_message.auto.room, four)

pub returns-in-Memory : goal.returns-in-Memory
returns-in-Memory c = rw c.in-Memory.is
    (sets_append c.args.room.now 4 4 (request_bytes c.in-Memory.h c.in-Memory.e) (address_bytes c.in-Memory.h c.in-Memory.a) (length_request c.in-Memory.h c.in-Memory.e)
    c.put_request.ensures c.put_address.ensures)

pub returns-in-Io : goal.returns-in-Io
returns-in-Io c = rw c.in-Io.is
    (sets_append c.args.room.now 4 4 (request_bytes c.in-Io.h c.in-Io.e) (address_bytes c.in-Io.h c.in-Io.a) (length_request c.in-Io.h c.in-Io.e)
    c.put_request-in-Io.ensures c.put_address-in-Io.ensures)

pub returns-in-Config : goal.returns-in-Config
returns-in-Config c = rw c.in-Config.is
    (sets_append c.args.room.now 4 4 (request_bytes c.in-Config.h c.in-Config.e) (target_bytes c.in-Config.t) (length_request c.in-Config.h c.in-Config.e)
    c.put_request-in-Config.ensures c.put_target.ensures)

pub returns-in-Completion : goal.returns-in-Completion
returns-in-Completion c = rw c.in-Completion.is c.put_completion.ensures

pub returns-in-Message : goal.returns-in-Message
returns-in-Message c = rw c.in-Message.is
    (sets_append c.args.room.now 4 4 (message_bytes c.in-Message.h c.in-Message.code) (be_bytes 8 c.in-Message.tail) (length_message c.in-Message.h c.in-Message.code)
    c.put_message.ensures c.write_be64.ensures)
