-- `capi_sheet::set_command` meets its contract: a command word too wide, an ID that no function has, and the sheet's own call.
-- Assumes nothing.
use Rattle.capi_sheet.specs.CallsLaws.{command_too_wide, command_unowned, commanded}
use Rattle.capi_sheet.proofs.set_command.Goals as goal

pub returns-then-command-gt-WORD : goal.returns-then-command-gt-WORD
returns-then-command-gt-WORD c = let both = command_too_wide c.args.sheet.now c.args.id c.args.command c.if-command-gt-WORD.true in
    record { value = both.0; sheet_after = both.1 }

pub returns-then-id-gt-WORD : goal.returns-then-id-gt-WORD
returns-then-id-gt-WORD c = let both = command_unowned c.args.sheet.now c.args.id c.args.command c.if-command-gt-WORD.false c.unowned.result
    (λ i. (c.slice_known-1.given i).fits) c.if-id-gt-WORD.true c.unowned.ensures in
    record { value = both.0; sheet_after = both.1 }

pub returns : goal.returns
returns c = let both = commanded c.args.sheet.now c.args.id c.args.command c.if-command-gt-WORD.false _ _ (c.set_command.ensures.number, c.set_command.ensures.content) in
    record { value = both.0; sheet_after = both.1 }
