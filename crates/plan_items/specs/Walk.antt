-- The walk over a board's items in one pool, as the code makes it: record by record with the cursors of the placing pass, and in a record
-- its BARs slot by slot and then a bridge's window. Every address is told up to 2^62. Assumes nothing.
use Rattle.std.specs.Prelude.{Bool, cond, ◌&&◌, ◌||◌, List, [], ◌∷◌, ◌++◌, ℕ, suc, ◌+◌, ◌-◌, eqb, ltb, take}
use Rattle.arith.specs.Align.{align_up}
use Rattle.pools.specs.declared.Pool.{Pool}
use Rattle.pools.specs.Pools.{same_pool}
use Rattle.bar.specs.declared.Slot.{Slot}
use Rattle.bar.specs.declared.Slot.TheVariants.{Unused, Bar, Upper, Bad}
use Rattle.bar.specs.Bar.{slots}
use Rattle.plan_rule.specs.Records.{Host}
use Rattle.plan_rule.specs.declared.Extent.{Extent}
use Rattle.plan_rule.specs.Pieces.{window_size, window_align}
use Rattle.plan_rule.specs.Cap.{cap}
use Rattle.board_record.specs.declared.Function.{Function}
use Rattle.board_record.specs.Function.{is_bridge, slot_count}
use Rattle.finding.specs.declared.Party.{Party}
use Rattle.finding.specs.Places.{window_place, nobody}
use Rattle.plan_needs.specs.Bases.{is_closed}
use Rattle.plan_items.specs.declared.Loss.{Loss}
use Rattle.plan_items.specs.declared.Told.{Told}
use Rattle.plan_items.specs.declared.Watched.{Watched}
use Rattle.plan_items.specs.declared.Seen.{Seen}
use Rattle.plan_items.specs.declared.BarsSeen.{BarsSeen}
use Rattle.plan_items.specs.Items.{Item, item_end, place_of, no_loss}

-- ## What is kept of the items seen

abbrev pub watched_of : Host → Pool → Watched
watched_of h q = record { pool = q; closed = is_closed h q; last = h.last q }

abbrev pub nothing_seen : Seen
nothing_seen = record { out = nobody; most = no_loss }

-- does an item that ends there run out of the pool?
abbrev pub ends_out : Watched → ℕ → Bool
ends_out w stop = w.closed || ltb (suc w.last) stop

-- the first root bus item that does
abbrev pub out_after : Watched → Party → Told → Party
out_after w out x = cond (eqb out.number 0 && (x.root && ends_out w x.stop)) x.party out

-- the most room lost
abbrev pub most_after : Loss → Told → Loss
most_after most x = cond (ltb most.room (x.start - x.before)) (record { party = x.party; room = x.start - x.before }) most

unfoldable pub see : Watched → Seen → Told → Seen
see w s x = record { out = out_after w s.out x; most = most_after s.most x }

unfoldable pub see_all : Watched → Seen → List Told → Seen
see_all w s [] = s
see_all w s (x ∷ xs) = see_all w (see w s x) xs

-- an item as the walk tells it
abbrev pub told_of : Item → Told
told_of x =
    record {
      root = eqb x.piece.bus 0;
      party = record { number = x.piece.owner; place = place_of x.piece.part x.piece.pool };
      before = cap x.before;
      start = cap x.start;
      stop = cap (item_end x);
    }

-- ## One record: number k, on the bus of record b

-- an item of this size and alignment at a place of the record, after the end e
abbrev pub told_at : ℕ → ℕ → ℕ → ℕ → ℕ → ℕ → Told
told_at b k place e size align =
    record {
      root = eqb b 0;
      party = record { number = k; place = place };
      before = e;
      start = cap (align_up align e);
      stop = cap (cap (align_up align e) + size);
    }

-- its BARs in pool q, slot by slot from slot s on
unfoldable pub bars_told : Pool → ℕ → ℕ → ℕ → ℕ → List Slot → List Told
bars_told q b k s e [] = []
bars_told q b k s e (Unused ∷ xs) = bars_told q b k (suc s) e xs
bars_told q b k s e (Bar p wide size ∷ xs) =
    let here = told_at b k s e size size in
    let later = bars_told q b k (suc s) e xs in
    cond (same_pool p q) (here ∷ bars_told q b k (suc s) here.stop xs) later
bars_told q b k s e (Upper ∷ xs) = bars_told q b k (suc s) e xs
bars_told q b k s e (Bad ∷ xs) = bars_told q b k (suc s) e xs

-- where they end
unfoldable pub bars_end : Pool → ℕ → List Slot → ℕ
bars_end q e [] = e
bars_end q e (Unused ∷ xs) = bars_end q e xs
bars_end q e (Bar p wide size ∷ xs) = bars_end q (cond (same_pool p q) (cap (cap (align_up size e) + size)) e) xs
bars_end q e (Upper ∷ xs) = bars_end q e xs
bars_end q e (Bad ∷ xs) = bars_end q e xs

-- a bridge's window over what its bus comes to, none where there is nothing inside
abbrev pub window_told : Pool → ℕ → ℕ → ℕ → Extent → List Told
window_told q b k e inner =
    cond (eqb inner.align 0) []
    (told_at b k (window_place q) e (window_size q (cap inner.end)) (window_align q inner.align) ∷ [])

abbrev pub slots_of : Function → List Slot
slots_of f = slots (take (slot_count f) f.readbacks)

-- its items, from the end e of its bus, with what its own bus comes to
unfoldable pub record_told : Pool → Function → ℕ → ℕ → Extent → List Told
record_told q f k e inner =
    let window = window_told q f.parent k (bars_end q e (slots_of f)) inner in
    bars_told q f.parent k 0 e (slots_of f) ++ cond (is_bridge f) window []

-- ## One turn of the loop over a record's slots

-- an item seen, and where it ends
abbrev pub seen_after : Watched → BarsSeen → Told → BarsSeen
seen_after w d x = record { seen = see w d.seen x; end = x.stop }

-- slot s: a BAR of the pool is an item, anything else is none
abbrev pub slot_seen : Watched → ℕ → ℕ → ℕ → BarsSeen → Slot → BarsSeen
slot_seen w b k s d Unused = d
slot_seen w b k s d (Bar p wide size) = cond (same_pool p w.pool) (seen_after w d (told_at b k s d.end size size)) d
slot_seen w b k s d Upper = d
slot_seen w b k s d Bad = d

-- all slots from slot s on
abbrev pub bars_seen : Watched → ℕ → ℕ → ℕ → BarsSeen → List Slot → BarsSeen
bars_seen w b k s d xs =
    record {
      seen = see_all w d.seen (bars_told w.pool b k s d.end xs);
      end = bars_end w.pool d.end xs;
    }
