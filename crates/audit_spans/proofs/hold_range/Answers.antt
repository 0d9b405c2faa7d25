-- `audit_spans::hold_range`: what is on its side and meets no span is held. Assumes nothing.
use mathlib.Core.Path.{refl, sym, ◌∙◌}
use mathlib.Core.Bool.{true}
use Rattle.std.proofs.lemmas.Option.{IfSome_then}
use Rattle.audit_rising.specs.Rising.{spot}
use Rattle.audit_rising.specs.PassLaws.{takes_range}
use Rattle.audit_spans.specs.Spans.{Spread}
use Rattle.audit_spans.specs.SpansLaws.{held_one}
use Rattle.audit_spans.proofs.hold_range.Goals as goal

pub returns : goal.returns
returns c = let told = sym c.is_sided.ensures ∙ c.if-not-is_sided.false in
    let x = spot c.key_of-key.result c.args.a.first c.args.a.last true in
    IfSome_then c.hold.result c.hold.ensures (λ m h. (
      h.0,
      takes_range Spread c.args.bus c.args.a c.key_of-key.result c.key_of-key.ensures.0 told (c.args.spans.now, c.args.n) _
          (held_one c.args.spans.now c.args.n _ _ x refl (c.is_free.ensures c.if-not-is_free.false) h.1),
    ))
