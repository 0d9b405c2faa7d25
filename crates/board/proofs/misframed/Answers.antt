-- `board::misframed` meets its contract: the host's length, then the rest. Assumes nothing.
use Rattle.std.proofs.Common.{not, ap, sym, ◌∙◌, ne_eqb}
use Rattle.records.specs.Records.{parts_from}
use Rattle.board_record.specs.Host.{functions_at, host_length}
use Rattle.board.proofs.PassLaws.{any_never}
use Rattle.board.proofs.BoardLaws.{misframed_none, misframed_host, misframed_tail}
use Rattle.board.proofs.misframed.Goals as goal

pub returns-in_default : goal.returns-in_default
returns-in_default c = sym (misframed_none c.args.board.now (λ n e. c.in_default.not-Record n (c.next_at.ensures ∙ e)))

pub any_breaks-requires : goal.any_breaks-requires
any_breaks-requires c = any_never (parts_from c.args.board.now functions_at)

pub returns-then-n-ne-HOST_LENGTH : goal.returns-then-n-ne-HOST_LENGTH
returns-then-n-ne-HOST_LENGTH c =
    ap not (ne_eqb c.in-Record.n host_length c.if-n-ne-HOST_LENGTH.true)
    ∙ sym (misframed_host c.args.board.now _ (sym c.next_at.ensures ∙ c.in-Record.is) c.if-n-ne-HOST_LENGTH.true)

pub returns-else-n-ne-HOST_LENGTH : goal.returns-else-n-ne-HOST_LENGTH
returns-else-n-ne-HOST_LENGTH c =
    c.any_breaks.ensures ∙ sym (misframed_tail c.args.board.now _ (sym c.next_at.ensures ∙ c.in-Record.is) c.if-n-ne-HOST_LENGTH.false)
