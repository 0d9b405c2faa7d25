-- `index_search::search_aimed` meets its contract: out of reach, or what the word found says. Assumes nothing.
use mathlib.Core.Path.{sym, ap₂, ◌∙◌}
use Prim.Native.Nat.{ℕ}
use Rattle.route_answer.specs.declared.Routing.TheVariants.{Delivered}
use Rattle.route_answer.specs.Routing.{arrives}
use Rattle.index_search.specs.AnswerLaws.{aimed_out_of_reach, aimed_at_nobody, aimed_at_owner}
use Rattle.index_search.proofs.search_aimed.Goals as goal

pub returns-then-not-in_reach : goal.returns-then-not-in_reach
returns-then-not-in_reach c = aimed_out_of_reach c.args.p _ _ c.args.aim _ c.in_reach.ensures
    (c.if-not-in_reach.true)

pub key_of-key-requires : goal.key_of-key-requires
key_of-key-requires c = sym c.in_reach.ensures ∙ c.if-not-in_reach.false

pub returns-then-record-eq0 : goal.returns-then-record-eq0
returns-then-record-eq0 c = aimed_at_nobody c.args.p _ _ c.args.aim _ c.in_reach.ensures
    (c.if-not-in_reach.false) _ _ c.key_of-key.ensures.0 c.word_over-word.ensures
    (sym c.record_in-record.ensures.0 ∙ c.if-record-eq0.true)

pub returns : goal.returns
returns c = aimed_at_owner c.args.p _ _ c.args.aim _ c.in_reach.ensures
    (c.if-not-in_reach.false) _ _ c.key_of-key.ensures.0 c.word_over-word.ensures
    (λ z. c.if-record-eq0.false (c.record_in-record.ensures.0 ∙ z)) _
    (c.deliver.ensures
    ∙ ap₂ (λ (owner crossed : ℕ). Delivered (arrives c.args.p owner crossed)) c.record_in-record.ensures.0
    c.bridges_in.ensures.0)
