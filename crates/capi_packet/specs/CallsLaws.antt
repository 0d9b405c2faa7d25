-- A write one step each, in the words of the code. Assumes nothing.
use Rattle.std.specs.Prelude.{ℕ, ◌≡◌, Bool, cond, List, [], ◌∷◌, ◌++◌, length, take, drop, ltb, eqb}
use Rattle.std.proofs.Common.{arith, ap, ◌∙◌, append-nil, drop_of_length-le}
use Rattle.std.proofs.Math.Path.{refl}
use Rattle.std.proofs.Math.Bool.{true, false}
use Rattle.std.proofs.Math.Seq.{take-length}
use borrow.Author.Tests.{lt-ltb, eqb-true}
use Rattle.pairs.specs.declared.Pair.{Pair}
use Rattle.pairs.specs.declared.Pair.TheVariants.{Carried, NotCarried, Unknown}
use Rattle.pairs.specs.Pairs.{row_of}
use Rattle.packet.specs.declared.Packet.{Packet}
use Rattle.packet.specs.declared.Verdict.{Verdict}
use Rattle.packet.specs.declared.Verdict.TheVariants.{Lawful, Refused as Unlawful}
use Rattle.packet.specs.Fields.{kind_of, head_of}
use Rattle.packet.specs.Verdict.{verdict_of}
use Rattle.packet_parsing.specs.declared.Parsed.{Parsed}
use Rattle.packet_parsing.specs.declared.Parsed.TheVariants.{Accepted as Taken, Refused as NotTaken}
use Rattle.packet_parsing.specs.Parsing.{on_pair, packet_of}
use Rattle.packet_parsing.specs.Fields.{fields_of, checked, checked_fields}
use Rattle.tlp.specs.declared.Writing.{Writing}
use Rattle.tlp.specs.declared.Writing.TheVariants.{Written, Refused as NotWritten}
use Rattle.tlp_layout.specs.LayoutLaws.{size_of_lawful}
use Rattle.tlp_layout.specs.Layout.{size}
use Rattle.tlp.specs.Writing.{write_of, room_after}
use Rattle.capi_answers.specs.Answers.{refuses, returned, filled, left_beside}
use Rattle.capi_answers.proofs.AnswersLaws.{Answered, answered_short}
use Rattle.capi_packet.specs.Calls.{on_writing, on_parsed, room_of}

-- the number with no room for the answer
abbrev short_of : Writing → ℕ
short_of (Written n) = 11
short_of (NotWritten n) = n

-- the room, the answer and the length's slice after, together
abbrev pub WroteFor : Packet → List ℕ → List ℕ → ℕ → List ℕ → List ℕ → Type 0
WroteFor p room written r after slice =
    (r ≡ returned (on_writing (write_of p (length room))) written)
    × ((after ≡ left_beside written room (room_after p room)) × (slice ≡ filled (on_writing (write_of p (length room))) written))

module _ (p : Packet) (room written : List ℕ) where
  -- with no room for the answer
  answer_short : length written ≡ 0 → (w : Writing) → Answered (on_writing w) written (short_of w) written
  answer_short z (Written n) = answered_short (n ∷ []) written (omega arith)
  answer_short z (NotWritten n) = (refl, refl)

  -- an empty room is short of every lawful packet
  write_empty : (v : Verdict) → verdict_of p ≡ v → write_of p 0 ≡ NotWritten (short_of (write_of p (length room)))
  unfolding write_of
  write_empty (Unlawful n) e = rw e
  write_empty (Lawful row) e = rw (e, lt-ltb 0 (size p) (omega (arith, size_of_lawful row p e))) (go (ltb (length room) (size p)))
    where
      go : (b : Bool) → NotWritten 11 ≡ NotWritten (short_of (cond b (NotWritten 11) (Written (size p))))
      go true = refl
      go false = refl

  room_empty : room_after p [] ≡ []
  unfolding room_after
  room_empty = rw (write_empty (verdict_of p) refl)

  -- the writer was lent so much of the room and left a part in its place
  module _ (space : ℕ) (lent : space ≡ cond (eqb (length written) 0) 0 (length room)) (w : Writing)
      (e : w ≡ write_of p (length (take space room))) (part : List ℕ) (f : part ≡ room_after p (take space room)) where
    pub wrote : (r : ℕ) (slice : List ℕ) → Answered (on_writing w) written r slice
        → WroteFor p room written r (part ++ drop space room) slice
    wrote r slice a = go (eqb (length written) 0) refl
      where
        go : (b : Bool) → eqb (length written) 0 ≡ b → WroteFor p room written r (part ++ drop space room) slice
        go true z =
            let none : space ≡ 0 = lent ∙ rw z in
            let short = answer_short (eqb-true (length written) 0 z) (write_of p (length room)) in
            let m = short_of (write_of p (length room)) in
            let refused : w ≡ NotWritten m = e ∙ rw none (write_empty (verdict_of p) refl) in
            let left : part ≡ [] = f ∙ rw none room_empty in
            let given : Answered (refuses m) written r slice = rw refused at a in
            (given.0 ∙ short.0, (rw (z, left, none), given.1 ∙ short.1))
        go false z =
            let all : space ≡ length room = lent ∙ rw z in
            let whole : take space room ≡ room = ap (λ (n : ℕ). take n room) all ∙ take-length room in
            let rest : drop space room ≡ [] = drop_of_length-le room {i = space} (omega arith) in
            let wrote_all : w ≡ write_of p (length room) = e ∙ ap (λ (s : List ℕ). write_of p (length s)) whole in (
              a.0 ∙ ap (λ (x : Writing). returned (on_writing x) written) wrote_all,
              (
                rw (z, rest, append-nil part) (f ∙ ap (room_after p) whole),
                a.1 ∙ ap (λ (x : Writing). filled (on_writing x) written) wrote_all,
              ),
            )

-- the writer refuses a kind and form not carried: whether they were looked at before it, the answer and the room are the same
module _ (room : List ℕ) where
  abbrev Agree : Parsed → Parsed → Type 0
  Agree q p = (on_parsed q (length room) ≡ on_parsed p (length room)) × (room_of q room ≡ room_of p room)

  agree_pair : (p : Packet) (pair : Pair) → row_of (kind_of p) (head_of p).form ≡ pair → Agree (on_pair pair (Taken p)) (Taken p)
  unfolding write_of room_after verdict_of
  agree_pair p (Carried row) e = (refl, refl)
  agree_pair p NotCarried e = (rw e, rw e)
  agree_pair p Unknown e = (rw e, rw e)

  agree_checked : (q : Parsed) → Agree (checked q) q
  agree_checked (Taken p) = agree_pair p (row_of (kind_of p) (head_of p).form) refl
  agree_checked (NotTaken n) = (refl, refl)

  pub fields_agree : (packet : List ℕ) (q : Parsed) → q ≡ fields_of packet → Agree (packet_of packet) q
  fields_agree packet q e = rw (checked_fields packet, ← e) (agree_checked q)
