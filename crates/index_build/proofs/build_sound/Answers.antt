-- `index_build::build_sound`: by the number of the second verdict. Assumes nothing.
use Rattle.index_build.proofs.BuildLaws.{owned_of_sound, by_sound}
use Rattle.index_build.proofs.build_sound.Goals as goal

pub build_after-requires : goal.build_after-requires
build_after-requires c = owned_of_sound _ _ (λ i. (c.type_inv.sheet i).fits) _ c.sound-verdict.ensures

pub returns : goal.returns
returns c = let both = by_sound _ _ c.args.index.now _ _ _ (c.build_after.ensures.number, c.build_after.ensures.content) c.sound-verdict.ensures in
    record { number = both.0; content = both.1 }
