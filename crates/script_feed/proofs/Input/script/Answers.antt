-- `script_feed::Input::script` meets its contract: the number by the frame, or the script of the bytes kept. Assumes nothing.
use mathlib.Core.Path.{refl, sym, ap, ◌∙◌}
use Rattle.scripter.specs.declared.Scripting.TheVariants.{Refused}
use Rattle.script_feed.specs.Feed.{scripting_of, room_of}
use Rattle.script_feed.proofs.Input.script.Goals as goal

pub returns-then-is_long : goal.returns-then-is_long
unfolding scripting_of room_of
returns-then-is_long c = rw (sym c.is_long.ensures ∙ c.if-is_long.true) (ap Refused c.frame_number.ensures, refl)

pub returns : goal.returns
unfolding scripting_of room_of
returns c = rw (sym c.is_long.ensures ∙ c.if-is_long.false, ← c.front.ensures, ← c.read_be16-requester.ensures.0)
    c.write_script.ensures
