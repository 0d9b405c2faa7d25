-- `audit_feed::Feed::number` meets its contract: by the host record and the frame, or the audit of the bytes kept. Assumes nothing.
use mathlib.Core.Path.{sym, ap, ◌∙◌}
use native.Mathlib.Omega.{arith}
use lib.ListN.{length}
use lib.Seq.{length-take-le}
use Rattle.board_record.specs.Host.{host_length}
use Rattle.audit_feed.specs.Feed.{number_of}
use Rattle.audit_feed.proofs.Feed.number.Goals as goal

pub long_number-requires : goal.long_number-requires
long_number-requires c = ap length c.front.ensures ∙ length-take-le host_length c.args.kept.now (omega (arith, c.front-arg-1.given))

pub returns-then-is_long : goal.returns-then-is_long
unfolding number_of
returns-then-is_long c = rw (sym c.is_long.ensures ∙ c.if-is_long.true, ← c.front.ensures)
    c.long_number.ensures

pub returns : goal.returns
unfolding number_of
returns c = rw (sym c.is_long.ensures ∙ c.if-is_long.false, ← c.front-2.ensures)
    c.audit.ensures
