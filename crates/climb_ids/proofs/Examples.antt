-- Document 03, E15, worked: a bridge with a function and another bridge behind it, a function behind that one, and one function beside the
-- first. Assumes nothing.
use Rattle.std.specs.Prelude.{refl}
use Rattle.lists.specs.Lists.{keep}
use Rattle.walk.specs.Tally.{join}
use Rattle.walk.specs.Walk.{walk_over, walk_from}
use Rattle.walk.specs.Ids.{tally_by_id}
use Rattle.walk.specs.Climb.{climb_over, climb_from, climb_beside}
use Rattle.climb_ids.specs.ById.{tally_beside_by_id, up_unless, climb_by_id, sent_to_other, sent_up, sent_by_id}
use Rattle.climb_ids.specs.Examples.{Worked}

pub examples : Worked
unfolding sent_by_id sent_to_other climb_by_id sent_up climb_beside climb_from climb_over tally_beside_by_id tally_by_id up_unless walk_from walk_over join keep
examples =
    record {
      to_the_host = refl;
      beside_the_bridge = refl;
      down_again = refl;
      down_two = refl;
      to_a_bridge_come_through = refl;
      to_the_upper_bridge = refl;
      own_id = refl;
      own_id_on_the_root_bus = refl;
      nobody_on_its_bus = refl;
      nobody_on_an_empty_bus = refl;
      from_a_bridge_down = refl;
      from_a_bridge_beside = refl;
      from_a_bridge_up = refl;
      to_the_host_by_its_id = refl;
      to_the_host_not_beside = refl;
      to_the_host_past_a_bridge = refl;
      to_the_host_two_above = refl;
      to_the_host_none_above = refl;
      a_message_up = refl;
      a_message_up_from_the_root_bus = refl;
      two_above = refl;
      none_above = refl;
      two_claims = refl;
      a_message_two_above = refl;
      a_message_none_above = refl;
    }
