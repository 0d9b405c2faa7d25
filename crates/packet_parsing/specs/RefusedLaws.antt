-- Numbers that are no packet are refused with 1 to 99. Assumes nothing.
use Rattle.std.specs.Prelude.{refl, Bool, true, false, cond, ◌||◌, List, ℕ, length, get_or, ltb}
use Rattle.refusals.specs.Refusals.{IsRefusal}
use Rattle.refusals.specs.RefusalsLaws.{refusal, either}
use Rattle.pairs.specs.declared.Kind.{Kind}
use Rattle.pairs.specs.declared.Kind.TheVariants.{Memory as MemoryKind, Io as IoKind, Config as ConfigKind, Completion as CompletionKind}
use Rattle.pairs.specs.declared.Kind.TheVariants.{Message as MessageKind, FetchAdd, Swap, Cas}
use Rattle.pairs.specs.declared.Pair.{Pair}
use Rattle.pairs.specs.declared.Pair.TheVariants.{Carried, NotCarried, Unknown}
use Rattle.pairs.specs.Pairs.{row_of}
use Rattle.packet.specs.declared.Packet.{Packet}
use Rattle.packet_parsing.specs.declared.Parsed.{Parsed}
use Rattle.packet_parsing.specs.declared.Parsed.TheVariants.{Accepted, Refused}
use Rattle.packet_parsing.specs.Parsing.{last_kind, is_reserved, kind_at, by_address, by_target, completing, messaging, any_above, packet_as}
use Rattle.packet_parsing.specs.Parsing.{on_pair, on_kind, from_kind, packet_of}

abbrev pub Numbered : Parsed → Type 0
Numbered (Accepted p) = Unit {0}
Numbered (Refused n) = IsRefusal n

numbered_fitting : (b : Bool) (p : Packet) → Numbered (cond b (Refused 10) (Accepted p))
numbered_fitting true p = refusal 10 refl
numbered_fitting false p = tt

numbered_as : (kind : Kind) (ns : List ℕ) → Numbered (packet_as (Refused 10) kind ns)
numbered_as (MemoryKind k) ns = numbered_fitting (any_above by_address ns) _
numbered_as (IoKind k) ns = numbered_fitting (any_above by_address ns) _
numbered_as (ConfigKind k) ns = numbered_fitting (any_above by_target ns) _
numbered_as (CompletionKind k) ns = numbered_fitting (any_above completing ns) _
numbered_as (MessageKind k routing) ns =
    either Numbered (is_reserved (get_or ns 10 0)) (Refused 2) _ (refusal 2 refl) (numbered_fitting (any_above messaging ns) _)
numbered_as FetchAdd ns = refusal 2 refl
numbered_as Swap ns = refusal 2 refl
numbered_as Cas ns = refusal 2 refl

numbered_on_pair : (pair : Pair) (q : Parsed) → Numbered q → Numbered (on_pair pair q)
numbered_on_pair (Carried row) q h = h
numbered_on_pair NotCarried q h = refusal 2 refl
numbered_on_pair Unknown q h = refusal 2 refl

pub numbered_packet : (ns : List ℕ) → Numbered (packet_of ns)
unfolding packet_of from_kind on_kind
numbered_packet ns =
    let kind = kind_at (get_or ns 0 0) (get_or ns 10 0) in
    let pair = row_of kind (get_or ns 1 0) in
    let parsed = packet_as (Refused 10) kind ns in
    let outside = ltb last_kind (get_or ns 0 0) || ltb 4 (get_or ns 1 0) in
    either Numbered (ltb (length ns) 20) (Refused 11) (from_kind ns) (refusal 11 refl)
    (either Numbered outside (Refused 2) (on_pair pair parsed) (refusal 2 refl)
    (numbered_on_pair pair parsed (numbered_as kind ns)))
