-- `script_feed::Input::print` meets its contract: the script, or a line, put whole. Assumes nothing.
use native.Mathlib.Omega.{arith}
use Rattle.script_feed.specs.FeedLaws.{printed_script, printed_refusal}
use Rattle.script_feed.proofs.Input.print.Goals as goal

pub returns-in-Written : goal.returns-in-Written
returns-in-Written c = printed_script c.args.self c.args.front.now c.args.kept.now c.args.answer.now _ c.script.result _
    c.script-arg-1.given.0.1 c.script.ensures.0 c.script.ensures.1 c.in-Written.is

pub returns-in-Refused : goal.returns-in-Refused
returns-in-Refused c = printed_refusal c.args.self c.args.front.now c.args.kept.now c.args.answer.now _ c.script.result _
    c.script-arg-1.given.0.1 c.script.ensures.0 c.script.ensures.1 c.in-Refused.is
    (omega arith) c.put_refusal.ensures
