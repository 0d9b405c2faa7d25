-- Document 02, E11, worked: a bridge with two functions behind it and one beside it. Assumes nothing.
use Rattle.std.specs.Prelude.{refl}
use mathlib.Core.List.{flat_map}
use Rattle.lists.specs.Lists.{keep, any}
use Rattle.walk.specs.Registers.{items, items_of}
use Rattle.walk.specs.Tally.{join, tally_on}
use Rattle.walk.specs.Walk.{walk_over, walk_from}
use Rattle.walk.specs.Climb.{up_from, climb_beside, tally_beside, from_bus, send_from}
use Rattle.walk.specs.CardExamples.{Worked}

pub examples : Worked
unfolding send_from from_bus climb_beside up_from tally_beside tally_on walk_from walk_over join keep items items_of flat_map any
examples =
    record {
      peer = refl;
      up_one = refl;
      down_one = refl;
      own_bar = refl;
      own_before_master = refl;
      unused_room = refl;
      to_the_host = refl;
      bridge_no_master = refl;
      windows_before_master = refl;
      bridges_own_bar = refl;
      peer_disabled = refl;
      down_disabled = refl;
    }
