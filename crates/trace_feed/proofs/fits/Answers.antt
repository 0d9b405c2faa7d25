-- `trace_feed::fits` meets its contract: lines that are few enough are not measured. Assumes nothing.
use mathlib.Core.Path.{sym}
use native.Mathlib.Omega.{arith}
use borrow.Author.Tests.{le-leb}
use Rattle.trace_engine.specs.EngineLaws.{few_fit, half_fit}
use Rattle.trace_feed.proofs.fits.Goals as goal

pub returns-then-piece-most : goal.returns-then-piece-most
returns-then-piece-most c = sym
    (le-leb _ _
    (half_fit c.args.engine c.args.bytes.now c.args.t c.args.piece.now c.args.room c.most_lines-most.result
    (omega (arith)) c.most_lines-most.ensures c.if-piece-most.true))

pub returns-then-count_lines-most : goal.returns-then-count_lines-most
returns-then-count_lines-most c = sym
    (le-leb _ _
    (few_fit c.args.engine c.args.bytes.now c.args.t c.args.piece.now c.args.room (omega (arith))
    (rw (← c.most_lines-most.ensures, ← c.count_lines.ensures) c.if-count_lines-most.true)))
