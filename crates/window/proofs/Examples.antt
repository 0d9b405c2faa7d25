-- Worked examples of windows: the closed spellings, the slip of zeros, P10's windows, and the widest of foreign sheets, as one claim.
-- Assumes nothing.
use Rattle.std.specs.Prelude.{refl}
use Rattle.window.specs.Window.{closed, opened, start, stop, is_nibbled}
use Rattle.window.specs.Examples.{Worked, rows}

pub examples : Worked rows
unfolding closed opened start stop is_nibbled
examples = record { starts = refl; stops = refl; opens = refl; nibbled = refl; spelled = refl }
