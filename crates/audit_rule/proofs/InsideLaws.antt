-- A range that lies in one of those above it: the test as a statement, among all ranges or those of its space. Assumes nothing.
use Rattle.std.specs.Prelude.{◌≡◌, true, List, ◌≤◌, eqb, leb}
use Rattle.std.proofs.Common.{ap, eqb-true, eq-eqb, leb-true, le-leb}
use Rattle.std.proofs.Math.Bool.{and-eq-true_iff}
use Rattle.lists.specs.Lists.{Some, keep, any}
use Rattle.lists.specs.ListLaws.{member_of_some, some_of_member}
use Rattle.lists.specs.KeepLaws.{keep_elim, keep_intro, any_of_some, some_of_any}
use Rattle.pools.specs.declared.Space.{Space}
use Rattle.walk.specs.Ranges.{Range, Pool}
use Rattle.audit_rule.specs.declared.Nesting.{Nesting}
use Rattle.audit_rule.specs.declared.Nesting.TheVariants.{OfKind, OfSpace}
use Rattle.audit_rule.specs.Accepted.{Lies}
use Rattle.sheet_ranges.specs.Ranges.{pool_number, space_number}
use Rattle.audit_rule.specs.Audit.{group_of, inside}
use Rattle.sheet_ranges.specs.RangesLaws.{of_space, of_same_space, pool_of_number, same_space}

-- ## Two ranges

space_of_group : (n : Nesting) (p q : Pool) → group_of n p ≡ group_of n q → space_number p ≡ space_number q
space_of_group OfKind p q e = ap space_number (pool_of_number p q e)
space_of_group OfSpace p q e = e

group_of_lies : (n : Nesting) (r outer : Range) → Lies n r outer → space_number r.pool ≡ space_number outer.pool
    → group_of n r.pool ≡ group_of n outer.pool
group_of_lies OfKind r outer l same = ap pool_number l.same_pool_lem
group_of_lies OfSpace r outer l same = same

lies_of : (n : Nesting) (r outer : Range) → group_of n r.pool ≡ group_of n outer.pool → outer.start ≤ r.start
    → r.stop ≤ outer.stop → Lies n r outer
lies_of OfKind r outer e h k = record { same_pool_lem = pool_of_number r.pool outer.pool e; start_inside = h; stop_inside = k }
lies_of OfSpace r outer e h k = record { start_inside = h; stop_inside = k }

start_of : (n : Nesting) (r outer : Range) → Lies n r outer → outer.start ≤ r.start
start_of OfKind r outer l = l.start_inside
start_of OfSpace r outer l = l.start_inside

stop_of : (n : Nesting) (r outer : Range) → Lies n r outer → r.stop ≤ outer.stop
stop_of OfKind r outer l = l.stop_inside
stop_of OfSpace r outer l = l.stop_inside

module _ (n : Nesting) (r outer : Range) where
  lies_of_inside : inside n r outer ≡ true → Lies n r outer × (space_number r.pool ≡ space_number outer.pool)
  lies_of_inside e =
      let a = (and-eq-true_iff (eqb (group_of n r.pool) (group_of n outer.pool)) _).0 e in
      let b = (and-eq-true_iff (leb outer.start r.start) (leb r.stop outer.stop)).0 a.1 in
      let same = eqb-true (group_of n r.pool) (group_of n outer.pool) a.0 in
      (lies_of n r outer same (leb-true _ _ b.0) (leb-true _ _ b.1), space_of_group n r.pool outer.pool same)

  inside_of_lies : Lies n r outer → space_number r.pool ≡ space_number outer.pool → inside n r outer ≡ true
  inside_of_lies l same =
      (and-eq-true_iff _ _).1 (
        eq-eqb _ _ (group_of_lies n r outer l same),
        (and-eq-true_iff _ _).1 (le-leb _ _ (start_of n r outer l), le-leb _ _ (stop_of n r outer l)),
      )

-- ## Among all ranges above, or those of its space

module _ (n : Nesting) (sp : Space) (r : Range) (of : of_space sp r ≡ true) where
  pub lies_of_any : (above : List Range) → any (inside n r) above ≡ true → Some (Lies n r) (keep (of_space sp) above)
  lies_of_any above e =
      let (o, m, i) = member_of_some _ above (some_of_any (inside n r) above e) in
      let (l, same) = lies_of_inside n r o i in
      some_of_member _ (keep (of_space sp) above) (keep_intro (of_space sp) above m (of_same_space sp r o of same)) l

  pub any_of_lies : (above : List Range) → Some (Lies n r) (keep (of_space sp) above) → any (inside n r) above ≡ true
  any_of_lies above s =
      let (o, m, l) = member_of_some _ (keep (of_space sp) above) s in
      let kept = keep_elim (of_space sp) above m in
      any_of_some (inside n r) above (some_of_member _ above kept.0 (inside_of_lies n r o l (same_space sp r o of kept.1)))
