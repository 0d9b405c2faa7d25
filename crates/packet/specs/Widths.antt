-- Refusal 10: a value too wide for its field, a Length outside 1 to 1,024, or an address of 4 GiB or more in the three-dword form.
-- Cpl, CplLk and Msg have no Length value and take only 0. Assumes nothing.
use Rattle.std.specs.Prelude.{ℕ, ◌^◌, Bool, not, ◌&&◌, ◌||◌, ltb, leb, eqb}
use Rattle.pairs.specs.declared.CompletionKind.TheVariants.{Cpl, CplD, CplLk, CplDLk}
use Rattle.pairs.specs.declared.MessageKind.TheVariants.{Msg, MsgD}
use Rattle.packet.specs.declared.Head.{Head}
use Rattle.packet.specs.declared.Enables.{Enables}
use Rattle.packet.specs.declared.Target.{Target}
use Rattle.packet.specs.declared.Outcome.{Outcome}
use Rattle.packet.specs.declared.Packet.{Packet}
use Rattle.packet.specs.declared.Packet.TheVariants.{Memory, Io, Config, Completion, Message}
use Rattle.packet.specs.Fields.{kind_of, head_of, is_posted}

-- x fits a field of n bits
abbrev pub fits : ℕ → ℕ → Bool
fits n x = ltb x (2 ^ n)

abbrev pub head_fits : Head → Bool
head_fits h = fits 16 h.requester && fits 3 h.tc && fits 3 h.attr && fits 2 h.at && fits 10 h.tag

-- the tag has ten bits, and eight in a memory write or message
abbrev pub tag_fits : Packet → Bool
tag_fits p = not (is_posted (kind_of p)) || fits 8 (head_of p).tag

abbrev pub length_in : ℕ → Bool
length_in n = leb 1 n && leb n 1024

unfoldable pub length_fits : Packet → Bool
length_fits (Memory k h e a) = length_in h.length
length_fits (Io k h e a) = length_in h.length
length_fits (Config k h e t) = length_in h.length
length_fits (Completion Cpl h o) = eqb h.length 0
length_fits (Completion CplD h o) = length_in h.length
length_fits (Completion CplLk h o) = eqb h.length 0
length_fits (Completion CplDLk h o) = length_in h.length
length_fits (Message Msg h routing code tail) = eqb h.length 0
length_fits (Message MsgD h routing code tail) = length_in h.length

abbrev pub enables_fit : Enables → Bool
enables_fit e = fits 4 e.last && fits 4 e.first

-- 64 bits, and below 4 GiB in the three-dword form
abbrev pub address_fits : Head → ℕ → Bool
address_fits h a = fits 64 a && (not (eqb h.form 3) || fits 32 a)

abbrev pub target_fits : Target → Bool
target_fits t = fits 16 t.id && fits 10 t.register

abbrev pub outcome_fits : Outcome → Bool
outcome_fits o = fits 16 o.completer && fits 3 o.status && fits 12 o.count && fits 7 o.lower

-- a message's code, and its bytes 8 to 15
abbrev pub content_fits : ℕ → ℕ → Bool
content_fits code tail = fits 8 code && fits 64 tail

unfoldable pub body_fits : Packet → Bool
body_fits (Memory k h e a) = enables_fit e && address_fits h a
body_fits (Io k h e a) = enables_fit e && address_fits h a
body_fits (Config k h e t) = enables_fit e && target_fits t
body_fits (Completion k h o) = outcome_fits o
body_fits (Message k h routing code tail) = content_fits code tail

unfoldable pub fields_fit : Packet → Bool
fields_fit p = head_fits (head_of p) && tag_fits p && length_fits p && body_fits p
