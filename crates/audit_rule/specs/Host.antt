-- The host that a host record names, as the walk has it in one address space: its bus numbers and the open pools of the space. Assumes
-- nothing.
use Rattle.pools.specs.declared.Space.{Space}
use Rattle.board_record.specs.declared.Host.{Host}
use Rattle.walk.specs.Good.{Host as WalkHost}
use Rattle.sheet_ranges.specs.Ranges.{pools_of}

abbrev pub host_for : Space → Host → WalkHost
host_for sp h = record { first = h.first_bus; last = h.last_bus; pools = pools_of sp h }
