-- `index_build::build_after`: the verdict's number, 11, or the index. Assumes nothing.
use mathlib.Core.Path.{sym, ap}
use mathlib.Core.List.{List}
use Prim.Native.Nat.{ℕ}
use native.Mathlib.Omega.{arith}
use Rattle.endian.specs.Endian.{Bytes}
use Rattle.board_record.specs.declared.Host.{Host}
use Rattle.audit_rule.specs.Accepted.{OneOwner}
use Rattle.index_build.proofs.BuildLaws.{verdict_refused, refused_stays, framed, few, rooted, slots_fit, too_short, short_stays}
use Rattle.index_build.proofs.BuildLaws.{built_number, built_bytes}
use Rattle.index_build.proofs.build_after.Goals as goal
use Rattle.index_build.proofs.build_after.Goals.{Else-verdict-ne0}

-- what a slice of u8 holds
bytes : (c : Else-verdict-ne0) → Bytes c.args.sheet.now
bytes c = λ i. (c.type_inv.sheet i).fits

host-bytes : (c : Else-verdict-ne0) → Bytes c.args.host.now
host-bytes c = λ i. (c.type_inv.host i).fits

owned : (c : Else-verdict-ne0) → OneOwner c.args.host.now c.args.sheet.now
owned c = c.requires c.if-verdict-ne0.false

abbrev start-index : Else-verdict-ne0 → List ℕ
start-index c = c.args.index.now

pub returns-then-verdict-ne0 : goal.returns-then-verdict-ne0
returns-then-verdict-ne0 c = record { number = sym (verdict_refused _ c.args.index.now _ c.if-verdict-ne0.true); content = sym (refused_stays c.args.host.now _ c.args.index.now _ c.if-verdict-ne0.true) }

pub count-n-requires : goal.count-n-requires
count-n-requires c = framed _ _ (start-index (goal.at.count-n-requires c).Else-verdict-ne0) _ c.if-verdict-ne0.false (bytes (goal.at.count-n-requires c).Else-verdict-ne0) (owned (goal.at.count-n-requires c).Else-verdict-ne0)

pub overflow_mul-n : goal.overflow_mul-n
overflow_mul-n c = omega (arith, c.count-n.ensures, few _ _ (start-index (goal.at.overflow_mul-n c).Else-verdict-ne0) _ c.if-verdict-ne0.false (bytes (goal.at.overflow_mul-n c).Else-verdict-ne0) (owned (goal.at.overflow_mul-n c).Else-verdict-ne0))

pub overflow_add-n : goal.overflow_add-n
overflow_add-n c = omega (arith, c.count-n.ensures, few _ _ (start-index (goal.at.overflow_add-n c).Else-verdict-ne0) _ c.if-verdict-ne0.false (bytes (goal.at.overflow_add-n c).Else-verdict-ne0) (owned (goal.at.overflow_add-n c).Else-verdict-ne0))

pub returns-then-index-n : goal.returns-then-index-n
returns-then-index-n c = record {
  number = sym (too_short _ _ (start-index (goal.at.returns-then-index-n c).Else-verdict-ne0) _ c.if-verdict-ne0.false (bytes (goal.at.returns-then-index-n c).Else-verdict-ne0) (owned (goal.at.returns-then-index-n c).Else-verdict-ne0) _ c.count-n.ensures
      c.if-index-n.true);
  content = sym (short_stays _ _ (start-index (goal.at.returns-then-index-n c).Else-verdict-ne0) _ c.if-verdict-ne0.false (bytes (goal.at.returns-then-index-n c).Else-verdict-ne0) (owned (goal.at.returns-then-index-n c).Else-verdict-ne0) _ c.count-n.ensures
      c.if-index-n.true);
}

pub host_of-h-requires : goal.host_of-h-requires
host_of-h-requires c = (owned (goal.at.host_of-h-requires c).Else-verdict-ne0).host_size

pub fill-requires : goal.fill-requires
fill-requires c = (
  rooted _ _ (start-index (goal.at.fill-requires c).Else-verdict-ne0) _ c.if-verdict-ne0.false (bytes (goal.at.fill-requires c).Else-verdict-ne0) (owned (goal.at.fill-requires c).Else-verdict-ne0) _
      (ap (λ (h : Host). h.first_bus) c.host_of-h.ensures),
  c.count-n.ensures,
  c.if-index-n.false,
  slots_fit _ _ (start-index (goal.at.fill-requires c).Else-verdict-ne0) _ c.if-verdict-ne0.false (bytes (goal.at.fill-requires c).Else-verdict-ne0) (owned (goal.at.fill-requires c).Else-verdict-ne0) (host-bytes (goal.at.fill-requires c).Else-verdict-ne0) _
      (ap (λ (h : Host). h.first_bus) c.host_of-h.ensures),
)

pub returns : goal.returns
returns c = record {
  number = sym (built_number _ _ (start-index (goal.at.returns c).Else-verdict-ne0) _ c.if-verdict-ne0.false (bytes (goal.at.returns c).Else-verdict-ne0) (owned (goal.at.returns c).Else-verdict-ne0) _ c.count-n.ensures
      c.if-index-n.false);
  content = built_bytes _ _ (start-index (goal.at.returns c).Else-verdict-ne0) _ c.if-verdict-ne0.false (bytes (goal.at.returns c).Else-verdict-ne0) (owned (goal.at.returns c).Else-verdict-ne0) _ c.count-n.ensures
      c.if-index-n.false _ (ap (λ (h : Host). h.first_bus) c.host_of-h.ensures) _ c.fill.ensures;
}
