-- A lawful packet's layout is made of bytes: each field stays in its place. Assumes nothing.
use Rattle.std.specs.Prelude.{ℕ, ◌+◌, ◌*◌, ◌/◌, ◌%◌, ◌<◌, ◌≡◌, Bool, true, false, cond, [], ◌∷◌, ◌++◌, eqb}
use Rattle.std.proofs.Common.{append_assoc, arith}
use Rattle.endian.specs.Endian.{Bytes, be_bytes}
use Rattle.endian.specs.BytesLaws.{bytes_nil, bytes_cons, bytes_append}
use Rattle.endian.specs.EndianLaws.{bytes_be_bytes}
use Rattle.pairs.specs.declared.Row.{Row}
use Rattle.packet.specs.declared.Head.{Head}
use Rattle.packet.specs.declared.Enables.{Enables}
use Rattle.packet.specs.declared.Target.{Target}
use Rattle.packet.specs.declared.Outcome.{Outcome}
use Rattle.packet.specs.declared.Packet.{Packet}
use Rattle.packet.specs.declared.Packet.TheVariants.{Memory, Io, Config, Completion, Message}
use Rattle.packet.specs.declared.Verdict.TheVariants.{Lawful}
use Rattle.packet.specs.Fields.{head_of}
use Rattle.packet.proofs.WidthsLaws.{HeadBounds, OutcomeBounds}
use Rattle.packet.specs.Verdict.{verdict_of}
use Rattle.packet.proofs.VerdictLaws.{RequestBounds, head_of_lawful, memory_of_lawful, io_of_lawful, config_of_lawful, completion_of_lawful}
use Rattle.packet.proofs.VerdictLaws.{message_of_lawful}
use Rattle.tlp_layout.specs.Layout.{bit, length_code, front_bytes, request_bytes, address_bytes, target_bytes, outcome_bytes}
use Rattle.tlp_layout.specs.Layout.{completion_bytes, message_bytes, body_bytes, layout}
use Rattle.tlp_layout.specs.LayoutLaws.{bit_le_one, row_of_lawful, layout_carried}

bytes_two : (x y : ℕ) → x < 256 → y < 256 → Bytes (x ∷ y ∷ [])
bytes_two x y small small' = bytes_cons x (y ∷ []) small (bytes_cons y [] small' bytes_nil)

-- two bytes of an ID and two more
bytes_id_two : (id x y : ℕ) → x < 256 → y < 256 → Bytes (be_bytes 2 id ++ (x ∷ y ∷ []))
bytes_id_two id x y small small' = bytes_append (be_bytes 2 id) (x ∷ y ∷ []) (bytes_be_bytes 2 id) (bytes_two x y small small')

byte1_lt : (h : Head) → HeadBounds h → h.tag / 512 * 128 + h.tc * 16 + h.tag / 256 % 2 * 8 + h.attr / 4 * 4 < 256
byte1_lt h b =
    sum (h.tag / 512) h.tc (h.tag / 256 % 2) (h.attr / 4) (omega (arith, b.tag)) b.tc (omega arith) (omega (arith, b.attr))
  where
    sum : (t c e a : ℕ) → t < 2 → c < 8 → e < 2 → a < 2 → t * 128 + c * 16 + e * 8 + a * 4 < 256
    sum t c e a t_lt c_lt e_lt a_lt = omega arith

bytes_front : (row : Row) (h : Head) → row.byte < 256 → HeadBounds h → Bytes (front_bytes row h)
unfolding front_bytes
bytes_front row h byte b =
    let one_td = bit_le_one h.td in
    let one_ep = bit_le_one h.ep in
    let code = length_code h.length in
    let byte2 = bit h.td * 128 + bit h.ep * 64 + h.attr % 4 * 16 + h.at * 4 + code / 256 in
    bytes_append (_ ∷ _ ∷ []) (_ ∷ _ ∷ [])
    (bytes_two row.byte (h.tag / 512 * 128 + h.tc * 16 + h.tag / 256 % 2 * 8 + h.attr / 4 * 4) byte (byte1_lt h b))
    (bytes_two byte2 (code % 256) (omega arith) (omega arith))

bytes_request : (h : Head) (e : Enables) → RequestBounds h e → Bytes (request_bytes h e)
unfolding request_bytes
bytes_request h e b = bytes_id_two h.requester (h.tag % 256) (e.last * 16 + e.first) (omega arith) (omega (arith, b.last, b.first))

bytes_address : (h : Head) (a : ℕ) → Bytes (address_bytes h a)
unfolding address_bytes
bytes_address h a = go (eqb h.form 4)
  where
    go : (c : Bool) → Bytes (cond c (be_bytes 8 a) (be_bytes 4 a))
    go true = bytes_be_bytes 8 a
    go false = bytes_be_bytes 4 a

bytes_target : (u : Target) → u.register < 1024 → Bytes (target_bytes u)
unfolding target_bytes
bytes_target u below = bytes_id_two u.id (u.register / 64) (u.register % 64 * 4) (omega arith) (omega arith)

bytes_outcome : (o : Outcome) → OutcomeBounds o → Bytes (outcome_bytes o)
unfolding outcome_bytes
bytes_outcome o b =
    let one = bit_le_one o.bcm in
    bytes_id_two o.completer (o.status * 32 + bit o.bcm * 16 + o.count / 256) (o.count % 256) (omega arith) (omega arith)

bytes_completion : (h : Head) (o : Outcome) → HeadBounds h → OutcomeBounds o → Bytes (completion_bytes h o)
unfolding completion_bytes
bytes_completion h o head b =
    rw append_assoc
    (bytes_append (outcome_bytes o) (be_bytes 2 h.requester ++ (h.tag % 256 ∷ o.lower ∷ []))
    (bytes_outcome o b)
    (bytes_id_two h.requester (h.tag % 256) o.lower (omega arith) (omega arith)))

bytes_message : (h : Head) (code : ℕ) → HeadBounds h → code < 256 → Bytes (message_bytes h code)
unfolding message_bytes
bytes_message h code head below = bytes_id_two h.requester (h.tag % 256) code (omega arith) below

bytes_body : (row : Row) (p : Packet) → verdict_of p ≡ Lawful row → Bytes (body_bytes p)
bytes_body row (Memory k h e a) l =
    let b = memory_of_lawful row k h e a l in
    bytes_append (request_bytes h e) (address_bytes h a) (bytes_request h e b.0) (bytes_address h a)
bytes_body row (Io k h e a) l =
    let b = io_of_lawful row k h e a l in
    bytes_append (request_bytes h e) (address_bytes h a) (bytes_request h e b.0) (bytes_address h a)
bytes_body row (Config k h e t) l =
    let b = config_of_lawful row k h e t l in
    bytes_append (request_bytes h e) (target_bytes t) (bytes_request h e b.0) (bytes_target t b.2)
bytes_body row (Completion k h o) l = let b = completion_of_lawful row k h o l in bytes_completion h o b.0 b.1
bytes_body row (Message k h routing code tail) l =
    let b = message_of_lawful row k h routing code tail l in
    bytes_append (message_bytes h code) (be_bytes 8 tail) (bytes_message h code b.0 b.1) (bytes_be_bytes 8 tail)

pub bytes_layout : (row : Row) (p : Packet) → verdict_of p ≡ Lawful row → Bytes (layout p)
bytes_layout row p lawful =
    let c = row_of_lawful row p lawful in
    rw (layout_carried row p lawful)
    (bytes_append (front_bytes row (head_of p)) (body_bytes p)
    (bytes_front row (head_of p) c.byte_below (head_of_lawful row p lawful))
    (bytes_body row p lawful))
