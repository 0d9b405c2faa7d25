-- `trace_feed::size_of` meets its contract: the room of any engine's longest line holds what any event gives. Assumes nothing.
use native.Mathlib.Omega.{arith}
use Rattle.trace_engine.specs.EngineLaws.{emitted_le}
use Rattle.trace_feed.proofs.size_of.Goals as goal

pub put_emitted-requires : goal.put_emitted-requires
put_emitted-requires c = c.requires

pub returns : goal.returns
returns c = let le = emitted_le c.args.engine c.args.bytes.now c.args.emits c.args.n c.args.header.now (omega arith) in
    omega (arith, c.put_emitted.ensures.place, le)
