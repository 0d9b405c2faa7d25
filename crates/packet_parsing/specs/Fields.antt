-- Twenty numbers as a packet for a caller that looks at the kind and form itself, and that looking at them afterwards is the whole of
-- Parsing. Assumes nothing.
use Rattle.std.specs.Prelude.{ℕ, suc, ◌≡◌, refl, Bool, true, false, cond, ◌||◌, List, [], ◌∷◌, length, get_or, ltb}
use Rattle.pairs.specs.declared.Kind.{Kind}
use Rattle.pairs.specs.declared.Kind.TheVariants.{Memory as MemoryKind, Io as IoKind, Config as ConfigKind, Completion as CompletionKind}
use Rattle.pairs.specs.declared.Kind.TheVariants.{Message as MessageKind, FetchAdd, Swap, Cas}
use Rattle.pairs.specs.declared.Pair.{Pair}
use Rattle.pairs.specs.declared.Pair.TheVariants.{Carried, NotCarried, Unknown}
use Rattle.pairs.specs.Pairs.{row_of}
use Rattle.packet.specs.declared.Packet.{Packet}
use Rattle.packet.specs.declared.Packet.TheVariants.{Memory, Io, Config, Completion, Message}
use Rattle.packet.specs.Fields.{kind_of, head_of}
use Rattle.packet_numbers.specs.Numbers.{size}
use Rattle.packet_parsing.specs.declared.Parsed.{Parsed}
use Rattle.packet_parsing.specs.declared.Parsed.TheVariants.{Accepted, Refused}
use Rattle.packet_parsing.specs.Parsing.{last_kind, kind_at, is_reserved, by_address, by_target, completing, messaging, any_above}
use Rattle.packet_parsing.specs.Parsing.{head_from, enables_from, target_from, outcome_from, packet_as, on_pair, on_kind, from_kind, packet_of}

-- any_above by places, as the parts of a packet are tested: some number before a place is too large, or one from it on
abbrev pub or_above : Bool → ℕ → List ℕ → List ℕ → Bool
or_above before at [] ns = before
or_above before at (m ∷ ms) ns = or_above (before || ltb m (get_or ns at 0)) (suc at) ms ns

-- a number too large is 10, after a kind and form not carried
abbrev pub too_large : Kind → List ℕ → Parsed
too_large kind ns = on_pair (row_of kind (get_or ns 1 0)) (Refused 10)

abbrev pub fields_as : Kind → List ℕ → Parsed
fields_as kind ns = packet_as (too_large kind ns) kind ns

unfoldable pub fields_of : List ℕ → Parsed
fields_of ns =
    cond (ltb (length ns) size) (Refused 11)
    (cond (ltb last_kind (get_or ns 0 0) || ltb 4 (get_or ns 1 0)) (Refused 2) (fields_as (kind_at (get_or ns 0 0) (get_or ns 10 0)) ns))

-- ## The kind and form looked at afterwards

abbrev pub checked : Parsed → Parsed
checked (Accepted p) = on_pair (row_of (kind_of p) (head_of p).form) (Accepted p)
checked (Refused n) = Refused n

not_carried : (pair : Pair) → on_pair pair (Refused 2) ≡ Refused 2
not_carried (Carried row) = refl
not_carried NotCarried = refl
not_carried Unknown = refl

checked_test : (above : Bool) (pair : Pair) (p : Packet) → row_of (kind_of p) (head_of p).form ≡ pair
    → on_pair pair (cond above (Refused 10) (Accepted p)) ≡ checked (cond above (on_pair pair (Refused 10)) (Accepted p))
checked_test true (Carried row) p e = refl
checked_test true NotCarried p e = refl
checked_test true Unknown p e = refl
checked_test false pair p e = rw e

checked_kind : (kind : Kind) (ns : List ℕ) → on_pair (row_of kind (get_or ns 1 0)) (packet_as (Refused 10) kind ns) ≡ checked (fields_as kind ns)
unfolding head_from
checked_kind (MemoryKind k) ns =
    checked_test (any_above by_address ns) (row_of (MemoryKind k) (get_or ns 1 0)) (Memory k (head_from ns) (enables_from ns) (get_or ns 12 0)) refl
checked_kind (IoKind k) ns =
    checked_test (any_above by_address ns) (row_of (IoKind k) (get_or ns 1 0)) (Io k (head_from ns) (enables_from ns) (get_or ns 12 0)) refl
checked_kind (ConfigKind k) ns =
    checked_test (any_above by_target ns) (row_of (ConfigKind k) (get_or ns 1 0)) (Config k (head_from ns) (enables_from ns) (target_from ns)) refl
checked_kind (CompletionKind k) ns =
    checked_test (any_above completing ns) (row_of (CompletionKind k) (get_or ns 1 0)) (Completion k (head_from ns) (outcome_from ns)) refl
checked_kind (MessageKind k routing) ns = go (is_reserved (get_or ns 10 0))
  where
    pair : Pair
    pair = row_of (MessageKind k routing) (get_or ns 1 0)

    p : Packet
    p = Message k (head_from ns) routing (get_or ns 11 0) (get_or ns 12 0)

    go : (reserved : Bool) → on_pair pair (cond reserved (Refused 2) (cond (any_above messaging ns) (Refused 10) (Accepted p)))
        ≡ checked (cond reserved (Refused 2) (cond (any_above messaging ns) (on_pair pair (Refused 10)) (Accepted p)))
    go true = not_carried pair
    go false = checked_test (any_above messaging ns) pair p refl
checked_kind FetchAdd ns = not_carried (row_of FetchAdd (get_or ns 1 0))
checked_kind Swap ns = not_carried (row_of Swap (get_or ns 1 0))
checked_kind Cas ns = not_carried (row_of Cas (get_or ns 1 0))

pub checked_fields : (ns : List ℕ) → packet_of ns ≡ checked (fields_of ns)
unfolding packet_of from_kind on_kind fields_of
checked_fields ns = go (ltb (length ns) size) (ltb last_kind (get_or ns 0 0) || ltb 4 (get_or ns 1 0))
  where
    kind : Kind
    kind = kind_at (get_or ns 0 0) (get_or ns 10 0)

    go : (few outside : Bool)
        → cond few (Refused 11) (cond outside (Refused 2) (on_pair (row_of kind (get_or ns 1 0)) (packet_as (Refused 10) kind ns)))
        ≡ checked (cond few (Refused 11) (cond outside (Refused 2) (fields_as kind ns)))
    go true outside = refl
    go false true = refl
    go false false = checked_kind kind ns
