-- "A refusal names its record, proved", of a board: who does not fit, before whom most room is lost, and what the board needs, in the words
-- of its request, over the finding's own number, parties and needs. Bytes are what a slice of u8 holds. `what_fits` of WhatFitsLaws proves
-- it. Assumes nothing.
use Rattle.std.specs.Prelude.{◌≡◌, ◌⊎◌, ◌↔◌, false, cond, List, ◌∷◌, ◌++◌, ℕ, suc, ◌+◌, ◌-◌, ◌≤◌, ◌<◌, ◌^◌, max, eqb, length, get_or, drop}
use Rattle.arith.specs.Align.{Multiple}
use Rattle.endian.specs.Endian.{Bytes, be_bytes}
use Rattle.bar.specs.Bar.{is_bad}
use Rattle.plan_rule.specs.Pools.{Pool, low, high, io, granule, refusal, same_pool}
use Rattle.plan_rule.proofs.PoolLaws.{On}
use Rattle.plan_rule.specs.Records.{Host, Function}
use Rattle.board_record.specs.declared.Host as boards
use Rattle.board_record.specs.declared.Span.{Span}
use Rattle.board_record.specs.Host.{host_length, functions_at, host_of_part, host_wrong}
use Rattle.board_record.specs.Function.{wrong_in, readbacks_wrong}
use Rattle.board.specs.Board.{board_number, host_of, functions_of}
use Rattle.board.specs.ToPlacing.{to_host, to_placing}
use Rattle.sheet.specs.Sheet.{sheet_length}
use Rattle.plan_answer.specs.declared.Planning.TheVariants.{Refused}
use Rattle.plan_answer.specs.Plan.{planning, number_of}
use Rattle.finding.specs.declared.Party.{Party}
use Rattle.finding.specs.Places.{function_id, nobody}
use Rattle.finding.specs.FirstLaws.{FirstOf}
use Rattle.board_where.specs.Where.{party_of, slots_of, function_parts}
use Rattle.board_where.specs.WhereLaws.{FirstMisplaced}
use Rattle.plan_needs.specs.declared.Needs.{Needs}
use Rattle.plan_needs.specs.Bases.{is_closed}
use Rattle.plan_items.specs.Items.{items_of, item_end, runs_out}
use Rattle.plan_items.specs.Items.{party_of as item_party}
use Rattle.plan_where.specs.Finding.{plan_finding_of}
use Rattle.plan_where.specs.ItemLaws.{LosesMost}

-- ## The board, as numbering and placing see it

abbrev pub host_in : List ℕ → Host
host_in b = to_host (host_of b)

abbrev pub functions_in : List ℕ → List Function
functions_in b = to_placing (functions_of b)

-- ## Who is named

-- 24: the first function whose header type, or length for it, is wrong on a board of this version
pub record HeaderWrong (b : List ℕ) (party : Party) : Type 0 where
  pub first : FirstOf (wrong_in (get_or b 0 0)) (function_parts b)
  pub party_is : party ≡ party_of (suc (length first.before)) function_id

-- 23: the first that is misplaced among those before it
pub record Misplaced (b : List ℕ) (party : Party) : Type 0 where
  pub first : FirstMisplaced (functions_of b)
  pub party_is : party ≡ party_of (suc (length first.before)) function_id

-- 25: the first with a read-back that is wrong, at its first bad slot
pub record ReadBackWrong (b : List ℕ) (party : Party) : Type 0 where
  pub first : FirstOf readbacks_wrong (functions_of b)
  pub slot : FirstOf is_bad (slots_of first.one)
  pub party_is : party ≡ party_of (suc (length first.before)) (length slot.before)

-- 31 to 33: "the root bus item that ends past its pool (record and place)", the first in placing order; any does where the pool is closed
pub record RunsOut (h : Host) (fs : List Function) (q : Pool) (party : Party) : Type 0 where
  pub first : FirstOf (runs_out h q) (items_of h fs)
  pub party_is : party ≡ item_party first.one
  pub on_root_lem : On 0 q first.one.piece
  pub past : (h.last q < h.base q) ⊎ (suc (h.last q) < item_end first.one)

-- ## What is needed

abbrev pub needed : Needs → Pool → ℕ
needed n low = n.low
needed n high = n.high
needed n io = n.io

-- what a base is to be a multiple of, so that these bytes are enough from it where the board's own pool is closed
abbrev pub aligned : Needs → Pool → ℕ
aligned n low = n.low_align
aligned n high = n.high_align
aligned n io = n.io_align

-- ## The same board with another host record

-- lawful bytes with the functions of b; record 0 is its own
pub record SameBoard (b c : List ℕ) : Type 0 where
  pub bytes : Bytes c
  pub lawful : board_number c ≡ 0
  pub functions : functions_of c ≡ functions_of b

-- the bytes of a pool: a closed one has none
abbrev pub room_of : Host → Pool → ℕ
room_of g q = suc (g.last q) - g.base q

-- pool q of g is closed; or it starts where that of b does; or, that of b being closed or on a multiple of the alignment told, on such a
-- multiple
abbrev pub Suits : List ℕ → Host → Pool → Type 0
Suits b g q =
    (g.last q < g.base q)
    ⊎ (((host_in b).base q ≤ (host_in b).last q) × (g.base q ≡ (host_in b).base q))
    ⊎ ((((host_in b).last q < (host_in b).base q) ⊎ Multiple (aligned (plan_finding_of b).needs q) ((host_in b).base q))
    × Multiple (aligned (plan_finding_of b).needs q) (g.base q))

-- it suits, and has the bytes told
abbrev pub IsEnough : List ℕ → Host → Pool → Type 0
IsEnough b g q = Suits b g q × (needed (plan_finding_of b).needs q ≤ room_of g q)

-- the two hosts differ in pool q only
pub record OnlyPool (h g : Host) (q : Pool) : Type 0 where
  pub first_bus_lem : g.first_bus ≡ h.first_bus
  pub last_bus_lem : g.last_bus ≡ h.last_bus
  pub others : (p : Pool) → same_pool p q ≡ false → (g.base p ≡ h.base p) × (g.last p ≡ h.last p)

-- ## A host record put in

-- 30 bytes that 26 does not refuse
pub record IsHostRecord (p : List ℕ) : Type 0 where
  pub bytes : Bytes p
  pub sized : length p ≡ host_length
  pub edges : host_wrong (host_of_part p) ≡ false

-- a host's numbers fit their fields
abbrev pub SpanFits : ℕ → Span → Type 0
SpanFits n x = (x.base < 256 ^ n) × (x.last < 256 ^ n)

pub record HostFits (x : boards.Host) : Type 0 where
  pub first : x.first_bus < 256
  pub last : x.last_bus < 256
  pub lows : SpanFits 4 x.low
  pub highs : SpanFits 8 x.high
  pub ios : SpanFits 2 x.io

-- "first bus, last bus (1 each); low pool base, last (4 each); high pool base, last (8 each); I/O pool base, last (2 each)"
unfoldable pub host_bytes : boards.Host → List ℕ
host_bytes x =
    x.first_bus
    ∷ x.last_bus
    ∷ be_bytes 4 x.low.base
    ++ be_bytes 4 x.low.last
    ++ be_bytes 8 x.high.base
    ++ be_bytes 8 x.high.last
    ++ be_bytes 2 x.io.base
    ++ be_bytes 2 x.io.last

-- b with p as its record 0
abbrev pub on_host : List ℕ → List ℕ → List ℕ
on_host p b = get_or b 0 0 ∷ 0 ∷ host_length ∷ p ++ drop functions_at b

-- so many bytes from a base; without any the pool is closed
abbrev pub span_from : ℕ → ℕ → Span
span_from base n = cond (eqb n 0) (record { base = 1; last = 0 }) (record { base = base; last = base + n - 1 })

abbrev pub with_pool : boards.Host → Pool → Span → boards.Host
with_pool x low s =
    record { first_bus = x.first_bus; last_bus = x.last_bus; low = s; high = x.high; io = x.io }
with_pool x high s =
    record { first_bus = x.first_bus; last_bus = x.last_bus; low = x.low; high = s; io = x.io }
with_pool x io s =
    record { first_bus = x.first_bus; last_bus = x.last_bus; low = x.low; high = x.high; io = s }

-- the first multiple of an alignment where a pool of this kind may start: the high one does from 4 GiB on
abbrev pub first_base : ℕ → Pool → ℕ
first_base align low = 0
first_base align high = max align 4294967296
first_base align io = 0

-- a base that suits: the pool's own, of a closed one that first multiple
abbrev pub base_for : List ℕ → Pool → ℕ
base_for b q = cond (is_closed (host_in b) q) (first_base (aligned (plan_finding_of b).needs q) q) ((host_in b).base q)

-- where the addresses of a pool's kind end: 4 GiB, 2^52, 64 KiB
abbrev pub kind_end : Pool → ℕ
kind_end low = 4294967296
kind_end high = 4503599627370496
kind_end io = 65536

-- b with pool q of so many bytes from that base
abbrev pub resized : List ℕ → Pool → ℕ → List ℕ
resized b q n = on_host (host_bytes (with_pool (host_of b) q (span_from (base_for b q) n))) b

-- ## The sentences

pub record WhatFits : Type 0 where
  -- "The number is the audit's (the planner's), by equation;" of the planner with room for the sheet
  pub number : (b : List ℕ) (room : ℕ) → sheet_length (length (functions_of b)) ≤ room → (plan_finding_of b).number ≡ number_of (planning b room)
  -- "the record named really fails that check, no earlier one does;"
  pub header_wrong_lem : (b : List ℕ) → (plan_finding_of b).number ≡ 24 → HeaderWrong b (plan_finding_of b).party
  pub misplaced : (b : List ℕ) → (plan_finding_of b).number ≡ 23 → Misplaced b (plan_finding_of b).party
  pub read_back_wrong : (b : List ℕ) → (plan_finding_of b).number ≡ 25 → ReadBackWrong b (plan_finding_of b).party
  -- "for 31 to 33 the root bus item that ends past its pool"
  pub runs_out_lem : (b : List ℕ) (q : Pool) → (plan_finding_of b).number ≡ refusal q
      → RunsOut (host_in b) (functions_in b) q (plan_finding_of b).party
  -- "and the record and slot before which most room is lost to alignment."
  pub loses_most : (b : List ℕ) (q : Pool) → (plan_finding_of b).number ≡ refusal q
      → LosesMost (host_in b) (functions_in b) q (plan_finding_of b).other
  -- 20 to 22, 26 and 30 are of the host or of the board as a whole; and where the board is planned
  pub nobody_else : (b : List ℕ) → ((plan_finding_of b).number < 23) ⊎ ((plan_finding_of b).number ≡ 26) ⊎ ((plan_finding_of b).number ≡ 30)
      → ((plan_finding_of b).party ≡ nobody) × ((plan_finding_of b).other ≡ nobody)
  -- "for 30 how many buses are needed;" with any host record: 30 is just where there are fewer
  pub buses_needed_lem : (b c : List ℕ) → board_number b ≡ 0 → SameBoard b c → (room : ℕ)
      → (planning c room ≡ Refused 30) ↔ (suc (host_in c).last_bus < (host_in c).first_bus + (plan_finding_of b).needs.buses)
  -- "so that "needs 33 MiB, has 32" can be said,"
  pub has_less : (b : List ℕ) → Bytes b → (q : Pool) → (plan_finding_of b).number ≡ refusal q
      → room_of (host_in b) q < needed (plan_finding_of b).needs q
  -- "what the pools need is exact: with pools of that size the board is not refused by 31 to 33,": with one of them not by its number
  pub enough : (b c : List ℕ) → Bytes b → board_number b ≡ 0 → SameBoard b c → (q : Pool) → IsEnough b (host_in c) q
      → (room : ℕ) → ¬ (planning c room ≡ Refused (refusal q))
  -- "with a granule less it is.": with any fewer bytes, if it is not by a number before that pool's
  pub too_few : (b c : List ℕ) → Bytes b → board_number b ≡ 0 → SameBoard b c → (q : Pool) → Suits b (host_in c) q
      → room_of (host_in c) q < needed (plan_finding_of b).needs q
      → (room : ℕ) → ((m : ℕ) → 30 ≤ m → m < refusal q → ¬ (planning c room ≡ Refused m)) → planning c room ≡ Refused (refusal q)
  -- so just with fewer, where there are bus numbers enough and the pools before it are enough,
  pub refused_iff : (b c : List ℕ) → Bytes b → board_number b ≡ 0 → SameBoard b c
      → (host_in c).first_bus + (plan_finding_of b).needs.buses ≤ suc (host_in c).last_bus
      → (q : Pool) → ((p : Pool) → refusal p < refusal q → IsEnough b (host_in c) p) → Suits b (host_in c) q
      → (room : ℕ) → (planning c room ≡ Refused (refusal q)) ↔ (room_of (host_in c) q < needed (plan_finding_of b).needs q)
  -- and where the board is refused for a pool, closed or too small, and that pool alone is changed
  pub changed_iff : (b c : List ℕ) → Bytes b → SameBoard b c → (q : Pool) → (plan_finding_of b).number ≡ refusal q
      → OnlyPool (host_in b) (host_in c) q → Suits b (host_in c) q
      → (room : ℕ) → (planning c room ≡ Refused (refusal q)) ↔ (room_of (host_in c) q < needed (plan_finding_of b).needs q)
  -- There are such boards. Every host that 26 does not refuse has a record, and any such record may be the record 0 of any lawful board;
  pub host_record_lem : (x : boards.Host) → HostFits x → host_wrong x ≡ false → IsHostRecord (host_bytes x) × (host_of_part (host_bytes x) ≡ x)
  pub on_host_lem : (b p : List ℕ) → Bytes b → board_number b ≡ 0 → IsHostRecord p
      → SameBoard b (on_host p b) × (host_of (on_host p b) ≡ host_of_part p)
  -- so that one pool can have any size on the granule's edges, up to where its kind of addresses ends, from a base that suits;
  pub resized_is : (b : List ℕ) → Bytes b → board_number b ≡ 0 → (q : Pool) (n : ℕ) → Multiple (granule q) n → base_for b q + n ≤ kind_end q
      → let c = resized b q n in
      SameBoard b c × OnlyPool (host_in b) (host_in c) q × Suits b (host_in c) q × (room_of (host_in c) q ≡ n)
  -- the bytes told are such a size, and so is a granule less
  pub needed_edge : (b : List ℕ) → Bytes b → board_number b ≡ 0 → (q : Pool) → base_for b q + needed (plan_finding_of b).needs q ≤ kind_end q
      → Multiple (granule q) (needed (plan_finding_of b).needs q)
