-- A header that is not read, and a packet that is not written, is refused with 1 to 99. Assumes nothing.
use Rattle.std.specs.Prelude.{refl, Bool, cond, List, ℕ, ◌*◌, length, get_or, eqb, ltb}
use Rattle.refusals.specs.Refusals.{IsRefusal}
use Rattle.refusals.specs.RefusalsLaws.{refusal, either, unless_zero}
use Rattle.pairs.specs.declared.Kind.{Kind}
use Rattle.pairs.specs.declared.Kind.TheVariants.{Memory, Io, Config, Completion, Message, FetchAdd, Swap, Cas}
use Rattle.pairs.specs.declared.Pair.{Pair}
use Rattle.pairs.specs.declared.Pair.TheVariants.{Carried, NotCarried, Unknown}
use Rattle.pairs.specs.Pairs.{kind_named, pair_of}
use Rattle.packet.specs.declared.Packet.{Packet}
use Rattle.packet.specs.declared.Verdict.{Verdict}
use Rattle.packet.specs.declared.Verdict.TheVariants.{Lawful, Refused as Unlawful}
use Rattle.packet.specs.Rules.{rule_number}
use Rattle.packet.specs.Verdict.{verdict_of}
use Rattle.packet.proofs.NumberLaws.{rule_number_lem, Numbered as NumberedVerdict, numbered_verdict}
use Rattle.tlp_layout.specs.Layout.{size}
use Rattle.tlp.specs.declared.Reading.{Reading}
use Rattle.tlp.specs.declared.Reading.TheVariants.{Accepted, Refused as NotRead}
use Rattle.tlp.specs.declared.Writing.{Writing}
use Rattle.tlp.specs.declared.Writing.TheVariants.{Written, Refused as NotWritten}
use Rattle.tlp.specs.Reading.{judged, read_as, read_pair, read_of}
use Rattle.tlp.specs.Writing.{write_as, write_of}

-- ## Reading

abbrev pub NumberedReading : Reading → Type 0
NumberedReading (Accepted p) = Unit {0}
NumberedReading (NotRead n) = IsRefusal n

numbered_judged : (stray : Bool) (p : Packet) → NumberedReading (judged stray p)
unfolding judged
numbered_judged stray p =
    let n = rule_number p in
    either NumberedReading stray (NotRead 4) (cond (eqb n 0) (Accepted p) (NotRead n)) (refusal 4 refl)
    (unless_zero NumberedReading n (Accepted p) (NotRead n) (rule_number_lem p) tt (λ h. h))

numbered_as : (kind : Kind) (form : ℕ) (s : List ℕ) → NumberedReading (read_as kind form s)
numbered_as (Memory k) form s = numbered_judged _ _
numbered_as (Io k) form s = numbered_judged _ _
numbered_as (Config k) form s = numbered_judged _ _
numbered_as (Completion k) form s = numbered_judged _ _
numbered_as (Message k routing) form s = numbered_judged _ _
numbered_as FetchAdd form s = refusal 3 refl
numbered_as Swap form s = refusal 3 refl
numbered_as Cas form s = refusal 3 refl

numbered_pair : (pair : Pair) (s : List ℕ) → NumberedReading (read_pair pair s)
numbered_pair Unknown s = refusal 2 refl
numbered_pair NotCarried s = refusal 3 refl
numbered_pair (Carried row) s =
    let kind = kind_named row.name in
    either NumberedReading (ltb (length s) (4 * row.form)) (NotRead 1) (read_as kind row.form s) (refusal 1 refl)
    (numbered_as kind row.form s)

pub numbered_read : (header : List ℕ) → NumberedReading (read_of header)
unfolding read_of
numbered_read s =
    let pair = pair_of (get_or s 0 0) in
    either NumberedReading (ltb (length s) 12) (NotRead 1) (read_pair pair s) (refusal 1 refl) (numbered_pair pair s)

-- ## Writing

abbrev pub NumberedWriting : Writing → Type 0
NumberedWriting (Written n) = Unit {0}
NumberedWriting (NotWritten n) = IsRefusal n

pub numbered_write : (p : Packet) (room : ℕ) → NumberedWriting (write_of p room)
unfolding write_of
numbered_write p room = go (verdict_of p) (numbered_verdict p)
  where
    go : (v : Verdict) → NumberedVerdict v → NumberedWriting (write_as v (size p) room)
    go (Unlawful n) h = h
    go (Lawful row) h = either NumberedWriting (ltb room (size p)) (NotWritten 11) (Written (size p)) (refusal 11 refl) tt
