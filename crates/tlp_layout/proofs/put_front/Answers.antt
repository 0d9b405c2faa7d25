-- `tlp_layout::put_front` meets its contract. Assumes nothing.
use Rattle.tlp_layout.specs.Layout.{flag_bit, front_bytes}
use mathlib.Core.Path.{◌∙◌}
use lib.ListN.{length-set}
use native.Mathlib.Omega.{arith}
use Rattle.tlp_layout.proofs.put_front.Goals as goal

pub bounds-room-1 : goal.bounds-room-1
bounds-room-1 c = simp length-set (omega arith)

pub bounds-room-2 : goal.bounds-room-2
bounds-room-2 c = simp length-set (omega arith)

pub bounds-room-3 : goal.bounds-room-3
bounds-room-3 c = simp length-set (omega arith)

pub returns : goal.returns
unfolding front_bytes
returns c = rw (c.from-td.ensures ∙ flag_bit c.args.h.td, c.from-ep.ensures ∙ flag_bit c.args.h.ep)
