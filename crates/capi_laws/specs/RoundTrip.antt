-- Demand 2 at the C boundary: a header that was read is written back to its own bytes from the twenty numbers, and numbers that were
-- written are read back the same. Assumes nothing.
use Rattle.std.specs.Prelude.{ℕ, ◌≤◌, ◌≡◌, refl, List, [], ◌∷◌, ◌++◌, length, take, drop}
use Rattle.std.proofs.Common.{arith, ap, ◌∙◌, ⊎_elim, le-ltb, ne_eqb}
use Rattle.endian.specs.Endian.{Bytes}
use Rattle.pairs.specs.declared.Row.{Row}
use Rattle.pairs.proofs.PairsLaws.{row_pair}
use Rattle.packet.specs.declared.Packet.{Packet}
use Rattle.packet.specs.Fields.{kind_of, head_of}
use Rattle.packet.specs.declared.Verdict.TheVariants.{Lawful}
use Rattle.packet.specs.Verdict.{verdict_of}
use Rattle.packet.proofs.VerdictLaws.{lawful_elim}
use Rattle.packet_parsing.specs.declared.Parsed.{Parsed}
use Rattle.packet_parsing.specs.declared.Parsed.TheVariants.{Accepted as Taken, Refused as NotTaken}
use Rattle.packet_numbers.specs.Numbers.{numbers_of}
use Rattle.packet_numbers.specs.NumbersLaws.{length_numbers_of}
use Rattle.packet_parsing.specs.Parsing.{packet_of}
use Rattle.packet_parsing.specs.RoundTrip.{packet_of_numbers, numbers_of_packet}
use Rattle.tlp.specs.declared.Reading.{Reading}
use Rattle.tlp.specs.declared.Reading.TheVariants.{Accepted, Refused as NotRead}
use Rattle.tlp.specs.declared.Writing.{Writing}
use Rattle.tlp.specs.declared.Writing.TheVariants.{Written, Refused as NotWritten}
use Rattle.tlp.specs.Reading.{read_of}
use Rattle.tlp_layout.specs.Layout.{size}
use Rattle.tlp.specs.Writing.{write_of, room_after}
use Rattle.tlp.specs.RoundTrip.{read_write, write_read, read_lawful}
use Rattle.capi_answers.specs.Answers.{returned, filled}
use Rattle.capi_answers.proofs.AnswersLaws.{Given, given_of_zero}
use Rattle.capi_laws.specs.Numbered.{numbered_read, numbered_write}
use Rattle.capi_packet.specs.Calls.{on_reading, read_answer, on_writing, on_parsed, write_answer, room_left}

-- the header's packet, as it was written into a slice
abbrev pub read_into : List ℕ → List ℕ → List ℕ
read_into header packet = filled (read_answer header) packet

-- a header that was read into a slice is written back from it: its own first bytes, 12 or 16, and nothing past them
pub record WrittenBack (header packet room written : List ℕ) : Type 0 where
  pub bytes : ℕ
  pub at_most : bytes ≤ 16
  pub accepted : returned (write_answer (read_into header packet) (length room)) written ≡ 0
  pub room_holds : room_left (read_into header packet) room written ≡ take bytes header ++ drop bytes room
  pub length_given : filled (write_answer (read_into header packet) (length room)) written ≡ bytes ∷ drop 1 written

size_most : (row : Row) (p : Packet) → verdict_of p ≡ Lawful row → size p ≤ 16
size_most row p l =
    let r = row_pair (kind_of p) (head_of p).form (lawful_elim row p l).carried in
    ⊎_elim (λ e. omega (arith, r.1)) (λ e. omega (arith, r.1)) r.2.dwords

module _ (header packet room written : List ℕ) (bytes : Bytes header) (wide : 16 ≤ length room) (one : 1 ≤ length written) where
  written_as : (p : Packet) → read_of header ≡ Accepted p → length (numbers_of p) ≤ length packet → WrittenBack header packet room written
  written_as p read fits =
      let l = read_lawful header p bytes read in
      let rest = drop (length (numbers_of p)) packet in
      let slice : read_into header packet ≡ numbers_of p ++ rest = rw (read, le-ltb (length packet) (length (numbers_of p)) fits) in
      let taken : packet_of (read_into header packet) ≡ Taken p = ap packet_of slice ∙ packet_of_numbers l.0 rest p l.1 in
      let w = write_read header p room bytes read (omega (arith, size_most l.0 p l.1)) in
      record {
        bytes = size p;
        at_most = size_most l.0 p l.1;
        accepted = rw (taken, w.0, le-ltb (length written) 1 one);
        room_holds = rw (ne_eqb (length written) 0 (λ z. omega arith), taken) w.1;
        length_given = rw (taken, w.0, le-ltb (length written) 1 one);
      }

  pub written_back : returned (read_answer header) packet ≡ 0 → WrittenBack header packet room written
  written_back ok = go (read_of header) refl (given_of_zero (read_answer header) packet (numbered_read header) ok)
    where
      go : (r : Reading) → read_of header ≡ r → Given (on_reading r) packet → WrittenBack header packet room written
      go (Accepted p) e g = written_as p e (let ns : numbers_of p ≡ g.numbers = cc in rw ns g.fits)
      go (NotRead n) e g = absurd (let z : ◌≡◌ {A = ℕ} 0 1 = cc in omega arith)

-- ## Numbers that were written are read back

pub record ReadBack (packet room written out : List ℕ) : Type 0 where
  pub accepted : returned (read_answer (room_left packet room written)) out ≡ 0
  pub same_numbers : read_into (room_left packet room written) out ≡ take 20 packet ++ drop 20 out

module _ (packet room written out : List ℕ) (wide : 20 ≤ length out) where
  read_as : (p : Packet) (n : ℕ) → packet_of packet ≡ Taken p → write_of p (length room) ≡ Written n → 1 ≤ length written
      → ReadBack packet room written out
  read_as p n taken wrote one =
      let left : room_left packet room written ≡ room_after p room = rw (ne_eqb (length written) 0 (λ z. omega arith), taken) in
      let read : read_of (room_left packet room written) ≡ Accepted p = rw left (read_write p room n wrote) in
      let same = (numbers_of_packet packet p taken).1 in
      let twenty = length_numbers_of p in
      let roomy = le-ltb (length out) (length (numbers_of p)) (omega arith) in
      record { accepted = rw (read, roomy); same_numbers = rw (read, roomy) (rw (twenty, same)) }

  pub read_back : returned (write_answer packet (length room)) written ≡ 0 → ReadBack packet room written out
  read_back ok =
      on_parsed_lem (packet_of packet) refl (given_of_zero (write_answer packet (length room)) written (numbered_write packet (length room)) ok)
    where
      on_writing_lem : (p : Packet) (w : Writing) → packet_of packet ≡ Taken p → write_of p (length room) ≡ w → Given (on_writing w) written
          → ReadBack packet room written out
      on_writing_lem p (Written n) t e g = read_as p n t e (let ns : n ∷ [] ≡ g.numbers = cc in omega (arith, g.fits, ap length ns))
      on_writing_lem p (NotWritten n) t e g = absurd (let z : ◌≡◌ {A = ℕ} 0 1 = cc in omega arith)

      on_parsed_lem : (q : Parsed) → packet_of packet ≡ q → Given (on_parsed q (length room)) written → ReadBack packet room written out
      on_parsed_lem (Taken p) t g = on_writing_lem p (write_of p (length room)) t refl g
      on_parsed_lem (NotTaken n) t g = absurd (let z : ◌≡◌ {A = ℕ} 0 1 = cc in omega arith)
