-- Writing by its three outcomes: not lawful, no room, written. Assumes nothing.
use Rattle.std.specs.Prelude.{ℕ, ◌+◌, ◌≤◌, ◌<◌, ◌≡◌, List, length}
use Rattle.std.proofs.Common.{◌∙◌, arith, lt-ltb, le-ltb}
use Rattle.std.proofs.lemmas.List.Edits.{sets, sets-eq}
use Rattle.pairs.specs.declared.Row.{Row}
use Rattle.packet.specs.declared.Packet.{Packet}
use Rattle.packet.specs.declared.Verdict.TheVariants.{Lawful, Refused as Unlawful}
use Rattle.packet.specs.Verdict.{verdict_of}
use Rattle.tlp.specs.declared.Writing.{Writing}
use Rattle.tlp.specs.declared.Writing.TheVariants.{Written, Refused}
use Rattle.tlp_layout.specs.Layout.{layout, size}
use Rattle.tlp_layout.specs.LayoutLaws.{length_layout}
use Rattle.tlp.specs.Writing.{write_of, room_after}

-- the answer and the room afterwards, together
abbrev pub Outcome : Packet → List ℕ → Writing → List ℕ → Type 0
Outcome p room answer after = (answer ≡ write_of p (length room)) × (after ≡ room_after p room)

pub outcome_unlawful : (p : Packet) (room : List ℕ) (n : ℕ) → verdict_of p ≡ Unlawful n → Outcome p room (Refused n) room
unfolding write_of room_after
outcome_unlawful p room n v = (rw v, rw v)

pub outcome_short : (row : Row) (p : Packet) (room : List ℕ) → verdict_of p ≡ Lawful row → length room < size p
    → Outcome p room (Refused 11) room
unfolding write_of room_after
outcome_short row p room v h = (rw (v, lt-ltb _ _ h), rw (v, lt-ltb _ _ h))

pub outcome_written : (row : Row) (p : Packet) (room : List ℕ) → verdict_of p ≡ Lawful row → size p ≤ length room
    → Outcome p room (Written (size p)) (sets room 0 (layout p))
unfolding write_of room_after
outcome_written row p room v h =
    let l : 0 + length (layout p) ≡ size p = omega (arith, length_layout row p v) in
    (rw (v, le-ltb _ _ h), rw (v, le-ltb _ _ h) (sets-eq (layout p) room 0 (omega arith) ∙ rw l))
