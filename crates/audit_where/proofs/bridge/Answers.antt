-- `audit_where::bridge` meets its contract: by whether there is one. Assumes nothing.
use Rattle.std.proofs.Common.{◌≡◌, ◌<◌, arith}
use Rattle.std.proofs.lemmas.Option.{MatchOption-at_some, MatchOption-at_none}
use borrow.Author.Tests.{ne_eqb}
use Rattle.audit_where.proofs.bridge.Goals as goal

pub returns-in-Some : goal.returns-in-Some
returns-in-Some c = λ n h. let told = MatchOption-at_some (n ≡ 0) (λ m. (m ≡ n) × (0 < m)) _ c.in-Some.is h in
    rw (← told.0, ne_eqb c.in-Some.number 0 (λ z. omega (arith, told.1)))

pub returns-in-None : goal.returns-in-None
returns-in-None c = λ n h. rw (MatchOption-at_none (n ≡ 0) (λ m. (m ≡ n) × (0 < m)) c.in-None.is h)
