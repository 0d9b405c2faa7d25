-- `index_build::build`: by the number of the audit. Assumes nothing.
use Rattle.index_build.proofs.BuildLaws.{owned_of_audit, by_audit}
use Rattle.index_build.proofs.build.Goals as goal

pub build_after-requires : goal.build_after-requires
build_after-requires c = owned_of_audit _ _ (λ i. (c.type_inv.sheet i).fits) _ c.audit-verdict.ensures

pub returns : goal.returns
returns c = let both = by_audit _ _ c.args.index.now _ _ _ (c.build_after.ensures.number, c.build_after.ensures.content) c.audit-verdict.ensures in
    record { number = both.0; content = both.1 }
