-- What the code keeps of a walk over whole numbers: how far it has come, and each pool's end, cut at 2^62, and largest alignment.
-- Assumes nothing.
use Rattle.std.specs.Prelude.{◌≡◌, cond, List, ℕ}
use Rattle.pools.specs.declared.Pool.{Pool}
use Rattle.pools.specs.declared.Pool.TheVariants.{Low, High, Io}
use Rattle.pools.specs.Pools.{same_pool}
use Rattle.bar.specs.declared.Slot.{Slot}
use Rattle.bar.specs.declared.Slot.TheVariants.{Unused, Bar, Upper, Bad}
use Rattle.plan_rule.specs.Records as records
use Rattle.plan_rule.specs.declared.Extent.{Extent}
use Rattle.plan_rule.specs.Sizing as placing
use Rattle.plan_rule.specs.Sizing.{grow, with_bars}
use Rattle.plan_rule.proofs.CapLaws.{capped}
use Rattle.plan_sizing.specs.declared.Laid.{Laid}

abbrev pub extent_in : Laid → Pool → Extent
extent_in l Low = l.low
extent_in l High = l.high
extent_in l Io = l.io

abbrev pub with_extent : Laid → Pool → Extent → Laid
with_extent l Low e = record { next = l.next; low = e; high = l.high; io = l.io }
with_extent l High e = record { next = l.next; low = l.low; high = e; io = l.io }
with_extent l Io e = record { next = l.next; low = l.low; high = l.high; io = e }

-- what the code's numbers say, and what it keeps
abbrev pub says : Laid → placing.Laid
says l = record { next = l.next; extent = extent_in l }

abbrev pub cut : placing.Laid → Laid
cut l = record { next = l.next; low = capped (l.extent Low); high = capped (l.extent High); io = capped (l.extent Io) }

-- no end is past 2^62
abbrev pub Whole : Laid → Type 0
Whole l = cut (says l) ≡ l

-- ## A function's BARs, one after the other

abbrev pub add_bar : Pool → ℕ → placing.Laid → placing.Laid
add_bar pool size l =
    record { next = l.next; extent = λ q. cond (same_pool pool q) (grow (l.extent q) size size) (l.extent q) }

abbrev pub add_slot : Slot → placing.Laid → placing.Laid
add_slot Unused l = l
add_slot (Bar pool wide size) l = add_bar pool size l
add_slot Upper l = l
add_slot Bad l = l

abbrev pub add_bars : List records.Bar → placing.Laid → placing.Laid
add_bars bs l = record { next = l.next; extent = λ q. with_bars q (l.extent q) bs }
