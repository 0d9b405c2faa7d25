-- The numbers of rules 4 to 9, and of the writer's verdict where it refuses: 1 to 99. Assumes nothing.
use Rattle.std.specs.Prelude.{cond, refl, eqb}
use Rattle.std.proofs.Common.{arith}
use Rattle.refusals.specs.Refusals.{IsRefusal, IsNumber}
use Rattle.refusals.specs.RefusalsLaws.{refusal, either, unless_zero}
use Rattle.pairs.specs.declared.Row.{Row}
use Rattle.pairs.specs.declared.Pair.{Pair}
use Rattle.pairs.specs.declared.Pair.TheVariants.{Carried, NotCarried, Unknown}
use Rattle.pairs.specs.Pairs.{row_of}
use Rattle.packet.specs.declared.Packet.{Packet}
use Rattle.packet.specs.declared.Verdict.{Verdict}
use Rattle.packet.specs.declared.Verdict.TheVariants.{Lawful, Refused}
use Rattle.packet.specs.Fields.{kind_of, head_of}
use Rattle.packet.specs.Widths.{fields_fit}
use Rattle.packet.specs.Rules.{reserved_set, fixed_wrong, upper_zero, enables_wrong, crosses_page, status_wrong, rule_number}
use Rattle.packet.specs.Rules.{from_rule5, from_rule6, from_rule7, from_rule8, from_rule9}
use Rattle.packet.specs.Verdict.{on_rules, on_fields, on_pair, verdict_of}

pub rule_number_lem : (p : Packet) → IsNumber (rule_number p)
unfolding rule_number from_rule5 from_rule6 from_rule7 from_rule8 from_rule9
rule_number_lem p =
    either IsNumber (reserved_set p) 4 (from_rule5 p) (omega arith)
    (either IsNumber (fixed_wrong p) 5 (from_rule6 p) (omega arith)
    (either IsNumber (upper_zero p) 6 (from_rule7 p) (omega arith)
    (either IsNumber (enables_wrong p) 7 (from_rule8 p) (omega arith)
    (either IsNumber (crosses_page p) 8 (from_rule9 p) (omega arith)
    (either IsNumber (status_wrong p) 9 0 (omega arith) (omega arith))))))

-- refused by such a number
abbrev pub Numbered : Verdict → Type 0
Numbered (Lawful row) = Unit {0}
Numbered (Refused n) = IsRefusal n

numbered_fields : (row : Row) (p : Packet) → Numbered (on_fields row p)
unfolding on_fields on_rules
numbered_fields row p =
    let n = rule_number p in
    let ruled = unless_zero Numbered n (Lawful row) (Refused n) (rule_number_lem p) tt (λ h. h) in
    either Numbered (fields_fit p) (cond (eqb n 0) (Lawful row) (Refused n)) (Refused 10) ruled (refusal 10 refl)

pub numbered_verdict : (p : Packet) → Numbered (verdict_of p)
unfolding verdict_of
numbered_verdict p = go (row_of (kind_of p) (head_of p).form)
  where
    go : (pair : Pair) → Numbered (on_pair pair p)
    go (Carried row) = numbered_fields row p
    go NotCarried = refusal 2 refl
    go Unknown = refusal 2 refl
