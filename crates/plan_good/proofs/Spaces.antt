-- The pools of each address space, and how the walk names them. Assumes nothing.
use Rattle.std.specs.Prelude.{◌≡◌, refl, true, false}
use Rattle.std.proofs.Common.{sym, ◌∙◌}
use Rattle.std.proofs.lemmas.Bool.{false≢true}
use mathlib.Core.List.Memᴰ
use Rattle.pools.specs.declared.Space.{Space}
use Rattle.pools.specs.declared.Space.TheVariants.{Memory as memory_space, Io as io_space}
use Rattle.pools.specs.Pools.{is_memory, is_io, in_space}
use Rattle.plan_rule.specs.Pools.{Pool, low, high, io}
use Rattle.lists.specs.Lists.{◌∈◌}
use Rattle.plan_good.specs.Spaces.{pools_of}

pub pool_of_space : (sp : Space) (q : Pool) → in_space sp q ≡ true → q ∈ pools_of sp
pool_of_space memory_space low e = Memᴰ.head refl
pool_of_space memory_space high e = Memᴰ.tail (Memᴰ.head refl)
pool_of_space memory_space io e = absurd (false≢true e)
pool_of_space io_space low e = absurd (false≢true e)
pool_of_space io_space high e = absurd (false≢true e)
pool_of_space io_space io e = Memᴰ.head refl

-- Two pools of one space are both memory, or neither is
pub same_space : (sp : Space) (p q : Pool) → in_space sp p ≡ true → in_space sp q ≡ true → is_memory p ≡ is_memory q
same_space memory_space p q e g = e ∙ sym g
same_space io_space p q e g = not_memory p e ∙ sym (not_memory q g)
  where
    not_memory : (r : Pool) → is_io r ≡ true → is_memory r ≡ false
    not_memory low i = absurd (false≢true i)
    not_memory high i = absurd (false≢true i)
    not_memory io i = refl
